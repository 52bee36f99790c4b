-- What rule texts and start texts say, as functions over pieces: the grammar read from left to right, with one piece to look at.
use Rattle.std.specs.Prelude.{ℕ, zero, suc, ◌+◌, ◌*◌, Bool, true, false, cond, List, [], ◌∷◌, length, ℤ, Some, None, Option as Maybe, ◌==◌}
use Rattle.contents.specs.Contents.{empty, item, seq, alt, star, plus, opt}
use Rattle.pieces.specs.Pieces.{Piece, word, number, sign, unfit, equals, bar, comma, asterisk, cross, question, open_round, close_round, open_square, close_square}
use Rattle.form_grammar.specs.Grammar.{deepest, Written, Part, a_choice, a_sequence, an_item, an_atom, Body, branch, leaf, Rule}

-- f of what is there, and y where nothing is
abbrev pub when_there : {X Y : Type 0} → Maybe X → (X → Y) → Y → Y
when_there None f y = y
when_there (Some x) f y = f x

-- f of what is there, and nothing where nothing is; in a block, x ← o goes on so with x
infixl 20 ◌>>=◌
abbrev pub ◌>>=◌ : {X Y : Type 0} → Maybe X → (X → Maybe Y) → Maybe Y
o >>= f = when_there o f None

-- the pieces after the sign b, if it stands first
abbrev pub past : ℕ → List Piece → Maybe (List Piece)
past b [] = None
past b (word w ∷ s) = None
past b (number v ∷ s) = None
past b (sign c ∷ s) = cond (c == b) (Some s) None
past b (unfit ∷ s) = None

-- the word or number that stands first, and the pieces after it
abbrev pub first_word : List Piece → Maybe (List ℕ × List Piece)
first_word [] = None
first_word (word w ∷ s) = Some (w, s)
first_word (number v ∷ s) = None
first_word (sign c ∷ s) = None
first_word (unfit ∷ s) = None

abbrev pub first_number : List Piece → Maybe (ℤ × List Piece)
first_number [] = None
first_number (word w ∷ s) = None
first_number (number v ∷ s) = Some (v, s)
first_number (sign c ∷ s) = None
first_number (unfit ∷ s) = None

-- whether no piece is left
abbrev pub ended : List Piece → Bool
ended [] = true
ended (p ∷ s) = false

-- x, if no piece is left
abbrev pub at_end : {X : Type 0} → X → List Piece → Maybe X
at_end x s = cond (ended s) (Some x) None

-- a content that was read, and the pieces after it
abbrev pub Got : Type 0
Got = Maybe (Written × List Piece)

-- e was read, and s is left: past the sign b more is read and joined to e; where no such sign stands, e is all
abbrev pub joined : ℕ → (Written → Written → Written) → (List Piece → Got) → Written × List Piece → Got
joined b join more (e, s) = when_there (past b s) (λ t. more t >>= (λ (f, u). Some (join e f, u))) (Some (e, s))

-- e was read, and s is left: the sign of repetition, if one stands first
abbrev pub repeated : Written × List Piece → Got
repeated (e, s) =
    when_there (past asterisk s) (λ t. Some (star e, t))
    (when_there (past cross s) (λ t. Some (plus e, t))
    (when_there (past question s) (λ t. Some (opt e, t)) (Some (e, s))))

-- e was read, and s is left: the bracket that closes it
abbrev pub closed : Written × List Piece → Got
closed (e, s) = do
  t ← past close_round s
  Some (e, t)

-- what stands past an opening bracket, where brackets may stand d deep
abbrev pub bracketed : (ℕ → List Piece → Got) → ℕ → List Piece → Got
bracketed inner zero s = None
bracketed inner (suc d) s = inner d s >>= closed

-- a variable, or what stands in brackets
abbrev pub atom : (ℕ → List Piece → Got) → ℕ → List Piece → Got
atom inner d s = when_there (first_word s) (λ (w, t). Some (item w, t)) (past open_round s >>= bracketed inner d)

-- the part of the kind k that the pieces s begin with, where brackets may stand d deep, with at most n calls inside one another
abbrev pub parse : ℕ → Part → ℕ → List Piece → Got
parse zero k d s = None
parse (suc n) a_choice d s = parse n a_sequence d s >>= joined bar alt (λ t. parse n a_choice d t)
parse (suc n) a_sequence d s = parse n an_item d s >>= joined comma seq (λ t. parse n a_sequence d t)
parse (suc n) an_item d s = parse n an_atom d s >>= repeated
parse (suc n) an_atom d s = atom (λ c t. parse n a_choice c t) d s

-- whether the first piece begins an atom, and so a choice
abbrev pub begins : List Piece → Bool
begins [] = false
begins (word w ∷ s) = true
begins (number v ∷ s) = false
begins (sign c ∷ s) = c == open_round
begins (unfit ∷ s) = false

-- the content that the pieces begin with: four calls a piece are enough
abbrev pub content : List Piece → Got
content s = cond (begins s) (parse (4 + 4 * length s) a_choice deepest s) (Some (empty, s))

-- the content that all the pieces are
abbrev pub content_of : List Piece → Maybe Written
content_of s = do
  (e, t) ← content s
  at_end e t

-- a content and its closing bracket, past the opening one
abbrev pub branch_of : List Piece → Maybe Body
branch_of s = do
  (e, t) ← content s
  u ← past close_round t
  at_end (branch e) u

-- two numbers and their closing bracket, past the opening one
abbrev pub leaf_of : List Piece → Maybe Body
leaf_of s = do
  (low, t) ← first_number s
  u ← past comma t
  (high, v) ← first_number u
  w ← past close_square v
  at_end (leaf low high) w

-- what stands behind a rule's name
abbrev pub body_of : List Piece → Maybe Body
body_of s = when_there (past open_round s) branch_of (past open_square s >>= leaf_of)

-- the rule that all the pieces are
abbrev pub rule_of_pieces : List Piece → Maybe Rule
rule_of_pieces s = do
  (v, t) ← first_word s
  u ← past equals t
  (n, w) ← first_word u
  b ← body_of w
  Some (record { variable = v; name = n; body = b })
