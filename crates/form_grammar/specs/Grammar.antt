-- The grammar of rule texts and start texts, over the pieces of a text. A piece that is not named here stands in none.
--
--     rule     = variable, "=", name, ( "(", content, ")" | "[", number, ",", number, "]" )
--     start    = content
--     content  = [ choice ]
--     choice   = sequence, [ "|", choice ]
--     sequence = item, [ ",", sequence ]
--     item     = atom, [ "*" | "+" | "?" ]
--     atom     = variable | "(", choice, ")"
--
-- Variables and names are words. Brackets of atoms stand inside one another at most 16 deep.
use Rattle.std.specs.Prelude.{ℕ, suc, ◌≤◌, List, [], ◌∷◌, length, ℤ}
use Rattle.contents.specs.Contents.{Content, empty, item, seq, alt, star, plus, opt}
use Rattle.pieces.specs.Pieces.{Piece, word, number, sign, equals, bar, comma, asterisk, cross, question, open_round, close_round, open_square, close_square}
use Rattle.pieces.specs.Spelling.{Spelled}

-- the most brackets inside one another, and the most bytes of a text
abbrev pub deepest : ℕ
deepest = 16

abbrev pub longest : ℕ
longest = 512

-- Contents as they are written, over their variables.
abbrev pub Written : Type 0
Written = Content (List ℕ)

pub data Part : Type 0 where
  a_choice a_sequence an_item an_atom : Part

-- Reads k d s e t: the pieces s begin with a part of the kind k, in which brackets stand at most d deep; it says e, and t is what follows it
pub data Reads : Part → ℕ → List Piece → Written → List Piece → Type 0 where
  last_sequence : {d : ℕ} {s t : List Piece} {e : Written} → Reads a_sequence d s e t → Reads a_choice d s e t
  or_choice : {d : ℕ} {s t u : List Piece} {e f : Written} → Reads a_sequence d s e (sign bar ∷ t) → Reads a_choice d t f u → Reads a_choice d s (alt e f) u
  last_item : {d : ℕ} {s t : List Piece} {e : Written} → Reads an_item d s e t → Reads a_sequence d s e t
  then_sequence : {d : ℕ} {s t u : List Piece} {e f : Written} → Reads an_item d s e (sign comma ∷ t) → Reads a_sequence d t f u → Reads a_sequence d s (seq e f) u
  plain : {d : ℕ} {s t : List Piece} {e : Written} → Reads an_atom d s e t → Reads an_item d s e t
  starred : {d : ℕ} {s t : List Piece} {e : Written} → Reads an_atom d s e (sign asterisk ∷ t) → Reads an_item d s (star e) t
  crossed : {d : ℕ} {s t : List Piece} {e : Written} → Reads an_atom d s e (sign cross ∷ t) → Reads an_item d s (plus e) t
  asked : {d : ℕ} {s t : List Piece} {e : Written} → Reads an_atom d s e (sign question ∷ t) → Reads an_item d s (opt e) t
  variable : {d : ℕ} {x : List ℕ} {t : List Piece} → Reads an_atom d (word x ∷ t) (item x) t
  bracket : {d : ℕ} {s t : List Piece} {e : Written} → Reads a_choice d s e (sign close_round ∷ t) → Reads an_atom (suc d) (sign open_round ∷ s) e t

-- Says s e t: the pieces s begin with the content e, which t follows
pub data Says : List Piece → Written → List Piece → Type 0 where
  nothing : {t : List Piece} → Says t empty t
  choice : {s t : List Piece} {e : Written} → Reads a_choice deepest s e t → Says s e t

-- what a rule says of its variable: a node of its name is a branch with such children, or a leaf with a value from the low end to the high end
pub data Body : Type 0 where
  branch : Written → Body
  leaf : ℤ → ℤ → Body

pub record Rule : Type 0 where
  pub variable : List ℕ
  pub name : List ℕ
  pub body : Body

-- the pieces behind a rule's name
pub data Bodied : List Piece → Body → Type 0 where
  of_branch : {s : List Piece} {e : Written} → Says s e (sign close_round ∷ []) → Bodied (sign open_round ∷ s) (branch e)
  of_leaf : {low high : ℤ} → Bodied (sign open_square ∷ number low ∷ sign comma ∷ number high ∷ sign close_square ∷ []) (leaf low high)

pub data Ruled : List Piece → Rule → Type 0 where
  of_rule : {v n : List ℕ} {s : List Piece} {b : Body} → Bodied s b → Ruled (word v ∷ sign equals ∷ word n ∷ s) (record { variable = v; name = n; body = b })

-- A rule text says a rule, and a start text a content: the text has at most 512 bytes, and its pieces are of that form.
pub record RuleText (t : List ℕ) (r : Rule) : Type 0 where
  pub short : length t ≤ longest
  pub pieces : List Piece
  pub spelled : Spelled t pieces
  pub ruled : Ruled pieces r

pub record StartText (t : List ℕ) (e : Written) : Type 0 where
  pub short : length t ≤ longest
  pub pieces : List Piece
  pub spelled : Spelled t pieces
  pub says : Says pieces e []
