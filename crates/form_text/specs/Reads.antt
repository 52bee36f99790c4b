-- How the readers' answers stand to the grammar: tokens by the pieces that they are, expressions by the contents that they say.
use Rattle.std.specs.Prelude.{◌≡◌, ℕ, ◌+◌, ◌*◌, ◌<◌, ◌≤◌, List, length, Some, None, Ok, Err, Option as Maybe, Result, IfSome}
use Rattle.std.specs.Borrow.{Bor}
use Rattle.lexical.specs.declared.spelled.Word.{Word}
use Rattle.lexical.specs.Spellings.{spelling}
use Rattle.contents.specs.declared.expression.Expression.{Expression}
use Rattle.contents.specs.Contents.{each}
use Rattle.contents.specs.Expressions.{content as content_in}
use Rattle.pieces.specs.declared.token.Token.{Token}
use Rattle.pieces.specs.Pieces.{Piece}
use Rattle.pieces.specs.Tokens.{pieces_of}
use Rattle.form_grammar.specs.Grammar.{Written, Part, a_choice, a_sequence, an_item, an_atom, Body, branch, leaf, Rule}
use Rattle.form_grammar.specs.Parser.{parse}
use Rattle.form_text.specs.declared.errors.RuleError.{RuleError}
use Rattle.form_text.specs.declared.errors.RuleError.TheVariants as rule
use Rattle.form_text.specs.declared.errors.StartError.{StartError}
use Rattle.form_text.specs.declared.errors.StartError.TheVariants as start
use Rattle.form_text.specs.declared.errors.Unread.{Unread}
use Rattle.form_text.specs.declared.errors.Unread.TheVariants.{NotOfForm, NoMemory}
use Rattle.form_text.specs.declared.rule.Body.{Body as CodeBody}
use Rattle.form_text.specs.declared.rule.Body.TheVariants.{Branch, Leaf}
use Rattle.form_text.specs.declared.rule.Rule.{Rule as CodeRule}

-- the content that an expression says
abbrev pub written : Expression Word → Written
written e = each spelling (content_in e)

-- the pieces that are left, where a sign stood first
abbrev pub left : Maybe (Bor (List Token)) → Maybe (List Piece)
left None = None
left (Some r) = Some (pieces_of r.now)

-- what was read, as f says it, and the pieces that are left
abbrev pub read_as : {X Y : Type 0} → (X → Y) → Maybe (X × Bor (List Token)) → Maybe (Y × List Piece)
read_as f None = None
read_as f (Some r) = Some (f r.0, pieces_of r.1.now)

-- an answer that a reader gave: what it read, or nothing where the tokens are not of the form; where memory is wanting nothing is said
abbrev pub IfRead : {X : Type 0} → Result X Unread → (Maybe X → Type 0) → Type 0
IfRead (Ok x) P = P (Some x)
IfRead (Err NotOfForm) P = P None
IfRead (Err NoMemory) P = Unit {0}

-- How many calls inside one another a part needs, besides four for each piece.
abbrev pub rank : Part → ℕ
rank a_choice = 4
rank a_sequence = 3
rank an_item = 2
rank an_atom = 1

-- an answer is what the parser gives, however many calls beyond those needed it may make, and something was read
pub record Parses (k : Part) (d : ℕ) (ts : List Token) (r : Maybe (Expression Word × Bor (List Token))) : Type 0 where
  pub value : (n : ℕ) → 4 * length ts + rank k ≤ n → read_as written r ≡ parse n k d (pieces_of ts)
  pub onward : IfSome r (λ r. length r.1.now < length ts)

-- what a rule's body says
abbrev pub body_said : CodeBody → Body
body_said (Branch e) = branch (written e)
body_said (Leaf low high) = leaf low high

abbrev pub body_read : Maybe CodeBody → Maybe Body
body_read None = None
body_read (Some b) = Some (body_said b)

-- what a rule says
abbrev pub said : CodeRule → Rule
said r = record { variable = spelling r.variable; name = spelling r.name; body = body_said r.body }

abbrev pub rule_read : Maybe CodeRule → Maybe Rule
rule_read None = None
rule_read (Some r) = Some (said r)

abbrev pub start_read : Maybe (Expression Word) → Maybe Written
start_read None = None
start_read (Some e) = Some (written e)

-- what reading a rule answers where one of its parts is not read
abbrev pub as_rule_error : Unread → RuleError
as_rule_error NotOfForm = rule.NotOfForm
as_rule_error NoMemory = rule.NoMemory

-- and what reading a start answers there
abbrev pub as_start_error : Unread → StartError
as_start_error NotOfForm = start.NotOfForm
as_start_error NoMemory = start.NoMemory
