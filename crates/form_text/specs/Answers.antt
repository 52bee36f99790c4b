-- What reading a text answers.
use Rattle.std.specs.Prelude.{ℕ, Bool, true, false, List, ◌≤ℤ◌, ◌<ℤ◌, Ok, Err, Result}
use Rattle.lexical.specs.declared.spelled.Word.{Word}
use Rattle.contents.specs.declared.expression.Expression.{Expression}
use Rattle.form_grammar.specs.Grammar.{Written, Body, branch, leaf, Rule, RuleText, StartText}
use Rattle.form_text.specs.declared.rule.Rule.{Rule as CodeRule}
use Rattle.form_text.specs.declared.errors.RuleError.{RuleError}
use Rattle.form_text.specs.declared.errors.RuleError.TheVariants as rule
use Rattle.form_text.specs.declared.errors.StartError.{StartError}
use Rattle.form_text.specs.declared.errors.StartError.TheVariants as start
use Rattle.form_text.specs.Reads.{written, said}

-- a leaf rule's low value is above its high value; a branch rule has none
abbrev pub LowAbove : Body → Type 0
LowAbove (branch e) = ⊥
LowAbove (leaf low high) = high <ℤ low

abbrev pub InOrder : Body → Type 0
InOrder (branch e) = Unit {0}
InOrder (leaf low high) = low ≤ℤ high

-- A rule: the one that the text says, its values in order. The text says no rule; it says one whose low value is above its high value;
-- or memory is wanting.
abbrev pub ReadsRule : List ℕ → Result CodeRule RuleError → Type 0
ReadsRule t (Ok r) = RuleText t (said r) × InOrder (said r).body
ReadsRule t (Err rule.NotOfForm) = (r : Rule) → RuleText t r → ⊥
ReadsRule t (Err rule.LowAboveHigh) = (r : Rule) × RuleText t r × LowAbove r.body
ReadsRule t (Err rule.NoMemory) = Unit {0}

-- A content: the one that the text says. The text says none; or memory is wanting.
abbrev pub ReadsStart : List ℕ → Result (Expression Word) StartError → Type 0
ReadsStart t (Ok e) = StartText t (written e)
ReadsStart t (Err start.NotOfForm) = (e : Written) → StartText t e → ⊥
ReadsStart t (Err start.NoMemory) = Unit {0}

-- a test of a body's values
abbrev pub TellsOrder : Bool → Body → Type 0
TellsOrder true b = LowAbove b
TellsOrder false b = InOrder b
