-- What the parser gives, the grammar says.
use Rattle.std.proofs.Common.{◌≡◌, ℕ, zero, suc, ◌+◌, ◌*◌, Bool, true, false, cond, eqb, List, [], ◌∷◌, length, ℤ, Some, None, Option as Maybe, sym, refl, ap, ◌∙◌, subst, eqb-true}
use Rattle.contents.specs.Contents.{empty, item, seq, alt}
use Rattle.pieces.specs.Pieces.{Piece, word, number, sign, unfit, equals, bar, comma, asterisk, cross, question, open_round, close_round, open_square, close_square}
use Rattle.form_grammar.specs.Grammar.{deepest, Written, Part, a_choice, a_sequence, an_item, an_atom, Reads, last_sequence, or_choice, last_item, then_sequence, plain, starred, crossed, asked, variable, bracket, Says, nothing, choice, Body, branch, leaf, Bodied, of_branch, of_leaf, Ruled, of_rule}
use Rattle.form_grammar.specs.Parser.{when_there, ◌>>=◌, past, first_word, first_number, at_end, Got, joined, repeated, closed, bracketed, atom, parse, begins, content, content_of, branch_of, leaf_of, body_of, rule_of_pieces}

-- what is there is as P says
abbrev pub Held : {X : Type 0} → (X → Type 0) → Maybe X → Type 0
Held P None = Unit {0}
Held P (Some x) = P x

-- P, of a content and what is left, as a predicate on pairs
abbrev pub Both : (Written → List Piece → Type 0) → Written × List Piece → Type 0
Both P (e, t) = P e t

pub held_some : {X : Type 0} (P : X → Type 0) (o : Maybe X) (x : X) → Held P o → o ≡ Some x → P x
held_some P o x h e = let s : Held P (Some x) = subst (Held P) e h in s

-- by what is there
when_held : {X Y : Type 0} (P : X → Type 0) (Q : Y → Type 0) (o : Maybe X) (f : X → Y) (y : Y) → Held P o → ((x : X) → P x → Q (f x)) → Q y → Q (when_there o f y)
when_held P Q None f y h k l = l
when_held P Q (Some x) f y h k l = k x h

then_held : {X Y : Type 0} (P : X → Type 0) (Q : Y → Type 0) (o : Maybe X) (f : X → Maybe Y) → Held P o → ((x : X) → P x → Held Q (f x)) → Held Q (o >>= f)
then_held P Q o f h k = when_held P (Held Q) o f None h k tt

held_map : (P Q : Written → List Piece → Type 0) → ((e : Written) (t : List Piece) → P e t → Q e t) → (g : Got) → Held (Both P) g → Held (Both Q) g
held_map P Q h None x = tt
held_map P Q h (Some (e, t)) x = h e t x

-- the first pieces
past_sound : (b : ℕ) (s : List Piece) → Held (λ t. s ≡ sign b ∷ t) (past b s)
past_sound b [] = tt
past_sound b (word w ∷ s) = tt
past_sound b (number v ∷ s) = tt
past_sound b (sign c ∷ s) = by (eqb c b) refl
  where
    by : (q : Bool) → eqb c b ≡ q → Held (λ t. sign c ∷ s ≡ sign b ∷ t) (cond q (Some s) None)
    by true e = ap (λ k. sign k ∷ s) (eqb-true c b e)
    by false e = tt
past_sound b (unfit ∷ s) = tt

word_sound : (s : List Piece) → Held (λ (p : List ℕ × List Piece). s ≡ word p.0 ∷ p.1) (first_word s)
word_sound [] = tt
word_sound (word w ∷ s) = refl
word_sound (number v ∷ s) = tt
word_sound (sign c ∷ s) = tt
word_sound (unfit ∷ s) = tt

number_sound : (s : List Piece) → Held (λ (p : ℤ × List Piece). s ≡ number p.0 ∷ p.1) (first_number s)
number_sound [] = tt
number_sound (word w ∷ s) = tt
number_sound (number v ∷ s) = refl
number_sound (sign c ∷ s) = tt
number_sound (unfit ∷ s) = tt

end_sound : {X : Type 0} (P : List Piece → X → Type 0) (x : X) (s : List Piece) → P s x → Held (P []) (at_end x s)
end_sound P x [] h = h
end_sound P x (p ∷ s) h = tt

-- the parser of a part
joined_sound : (b : ℕ) (join : Written → Written → Written) (more : List Piece → Got) (P Q : Written → List Piece → Type 0)
    → ((e : Written) (t : List Piece) → P e t → Q e t)
    → ((e : Written) (t : List Piece) → P e (sign b ∷ t) → Held (Both (λ f u. Q (join e f) u)) (more t))
    → (p : Written × List Piece) → Both P p → Held (Both Q) (joined b join more p)
joined_sound b join more P Q alone go (e, s) x =
    when_held (λ t. s ≡ sign b ∷ t) (Held (Both Q)) (past b s) _ _ (past_sound b s)
    (λ t q. then_held (Both (λ f u. Q (join e f) u)) (Both Q) (more t) _ (go e t (subst (P e) q x)) (λ p y. y))
    (alone e s x)

repeated_sound : (d : ℕ) (s : List Piece) (p : Written × List Piece) → Both (Reads an_atom d s) p → Held (Both (Reads an_item d s)) (repeated p)
repeated_sound d s (e, t) x =
    when_held (λ u. t ≡ sign asterisk ∷ u) (Held (Both (Reads an_item d s))) (past asterisk t) _ _ (past_sound asterisk t) (λ u q. starred (subst (Reads an_atom d s e) q x))
    (when_held (λ u. t ≡ sign cross ∷ u) (Held (Both (Reads an_item d s))) (past cross t) _ _ (past_sound cross t) (λ u q. crossed (subst (Reads an_atom d s e) q x))
    (when_held (λ u. t ≡ sign question ∷ u) (Held (Both (Reads an_item d s))) (past question t) _ _ (past_sound question t) (λ u q. asked (subst (Reads an_atom d s e) q x))
    (plain x)))

closed_sound : (P : Written → List Piece → Type 0) (p : Written × List Piece) → Both P p → Held (Both (λ e t. P e (sign close_round ∷ t))) (closed p)
closed_sound P (e, s) x =
    then_held (λ t. s ≡ sign close_round ∷ t) (Both (λ e t. P e (sign close_round ∷ t))) (past close_round s) _ (past_sound close_round s) (λ t q. subst (P e) q x)

module _ (inner : ℕ → List Piece → Got) (h : (d : ℕ) (s : List Piece) → Held (Both (Reads a_choice d s)) (inner d s)) where
  bracketed_sound : (d : ℕ) (s : List Piece) → Held (Both (Reads an_atom d (sign open_round ∷ s))) (bracketed inner d s)
  bracketed_sound zero s = tt
  bracketed_sound (suc d) s =
      then_held (Both (Reads a_choice d s)) (Both (Reads an_atom (suc d) (sign open_round ∷ s))) (inner d s) closed (h d s)
      (λ p x. held_map (λ e t. Reads a_choice d s e (sign close_round ∷ t)) (Reads an_atom (suc d) (sign open_round ∷ s)) (λ e t y. bracket y) (closed p) (closed_sound (Reads a_choice d s) p x))

  atom_sound : (d : ℕ) (s : List Piece) → Held (Both (Reads an_atom d s)) (atom inner d s)
  atom_sound d s =
      when_held (λ (p : List ℕ × List Piece). s ≡ word p.0 ∷ p.1) (Held (Both (Reads an_atom d s))) (first_word s) _ _ (word_sound s)
      (λ p q. subst (λ l. Reads an_atom d l (item p.0) p.1) (sym q) variable)
      (then_held (λ t. s ≡ sign open_round ∷ t) (Both (Reads an_atom d s)) (past open_round s) (bracketed inner d) (past_sound open_round s)
      (λ t q. subst (λ l. Held (Both (Reads an_atom d l)) (bracketed inner d t)) (sym q) (bracketed_sound d t)))

pub parse_sound : (n : ℕ) (k : Part) (d : ℕ) (s : List Piece) → Held (Both (Reads k d s)) (parse n k d s)
parse_sound zero k d s = tt
parse_sound (suc n) a_choice d s =
    then_held (Both (Reads a_sequence d s)) (Both (Reads a_choice d s)) (parse n a_sequence d s) _ (parse_sound n a_sequence d s)
    (joined_sound bar alt (λ t. parse n a_choice d t) (Reads a_sequence d s) (Reads a_choice d s) (λ e t x. last_sequence x)
    (λ e t x. held_map (Reads a_choice d t) (λ f u. Reads a_choice d s (alt e f) u) (λ f u y. or_choice x y) (parse n a_choice d t) (parse_sound n a_choice d t)))
parse_sound (suc n) a_sequence d s =
    then_held (Both (Reads an_item d s)) (Both (Reads a_sequence d s)) (parse n an_item d s) _ (parse_sound n an_item d s)
    (joined_sound comma seq (λ t. parse n a_sequence d t) (Reads an_item d s) (Reads a_sequence d s) (λ e t x. last_item x)
    (λ e t x. held_map (Reads a_sequence d t) (λ f u. Reads a_sequence d s (seq e f) u) (λ f u y. then_sequence x y) (parse n a_sequence d t) (parse_sound n a_sequence d t)))
parse_sound (suc n) an_item d s =
    then_held (Both (Reads an_atom d s)) (Both (Reads an_item d s)) (parse n an_atom d s) repeated (parse_sound n an_atom d s) (repeated_sound d s)
parse_sound (suc n) an_atom d s = atom_sound (λ c t. parse n a_choice c t) (λ c t. parse_sound n a_choice c t) d s

-- contents, bodies and rules
pub content_sound : (s : List Piece) → Held (Both (Says s)) (content s)
content_sound s = by (begins s)
  where
    by : (q : Bool) → Held (Both (Says s)) (cond q (parse (4 + 4 * length s) a_choice deepest s) (Some (empty, s)))
    by true = held_map (Reads a_choice deepest s) (Says s) (λ e t x. choice x) (parse (4 + 4 * length s) a_choice deepest s) (parse_sound (4 + 4 * length s) a_choice deepest s)
    by false = nothing

pub content_of_sound : (s : List Piece) → Held (λ e. Says s e []) (content_of s)
content_of_sound s =
    then_held (Both (Says s)) (λ e. Says s e []) (content s) _ (content_sound s)
    (λ p x. end_sound (λ t e. Says s e t) p.0 p.1 x)

branch_sound : (s : List Piece) → Held (Bodied (sign open_round ∷ s)) (branch_of s)
branch_sound s =
    then_held (Both (Says s)) (Bodied (sign open_round ∷ s)) (content s) _ (content_sound s)
    (λ p x. then_held (λ u. p.1 ≡ sign close_round ∷ u) (Bodied (sign open_round ∷ s)) (past close_round p.1) _ (past_sound close_round p.1)
    (λ u q. branch_end s p.0 u (subst (Says s p.0) q x)))
  where
    branch_end : (s : List Piece) (e : Written) (u : List Piece) → Says s e (sign close_round ∷ u) → Held (Bodied (sign open_round ∷ s)) (at_end (branch e) u)
    branch_end s e [] x = of_branch x
    branch_end s e (y ∷ u) x = tt

leaf_sound : (s : List Piece) → Held (Bodied (sign open_square ∷ s)) (leaf_of s)
leaf_sound s =
    let Q : Body → Type 0 = Bodied (sign open_square ∷ s) in
    then_held (λ (p : ℤ × List Piece). s ≡ number p.0 ∷ p.1) Q (first_number s) _ (number_sound s)
    (λ p a. then_held (λ u. p.1 ≡ sign comma ∷ u) Q (past comma p.1) _ (past_sound comma p.1)
    (λ u b. then_held (λ (q : ℤ × List Piece). u ≡ number q.0 ∷ q.1) Q (first_number u) _ (number_sound u)
    (λ q c. then_held (λ w. q.1 ≡ sign close_square ∷ w) Q (past close_square q.1) _ (past_sound close_square q.1)
    (λ w d. leaf_end p.0 q.0 w s
    (a ∙ ap (λ (l : List Piece). number p.0 ∷ l) (b ∙ ap (λ (l : List Piece). sign comma ∷ l) (c ∙ ap (λ (l : List Piece). number q.0 ∷ l) d)))))))
  where
    leaf_end : (low high : ℤ) (w s : List Piece) → s ≡ number low ∷ sign comma ∷ number high ∷ sign close_square ∷ w → Held (Bodied (sign open_square ∷ s)) (at_end (leaf low high) w)
    leaf_end low high [] s e = subst (λ l. Bodied (sign open_square ∷ l) (leaf low high)) (sym e) of_leaf
    leaf_end low high (y ∷ w) s e = tt

body_sound : (s : List Piece) → Held (Bodied s) (body_of s)
body_sound s =
    when_held (λ t. s ≡ sign open_round ∷ t) (Held (Bodied s)) (past open_round s) branch_of _ (past_sound open_round s)
    (λ t q. subst (λ l. Held (Bodied l) (branch_of t)) (sym q) (branch_sound t))
    (then_held (λ t. s ≡ sign open_square ∷ t) (Bodied s) (past open_square s) leaf_of (past_sound open_square s)
    (λ t q. subst (λ l. Held (Bodied l) (leaf_of t)) (sym q) (leaf_sound t)))

pub rule_sound : (s : List Piece) → Held (Ruled s) (rule_of_pieces s)
rule_sound s =
    then_held (λ (p : List ℕ × List Piece). s ≡ word p.0 ∷ p.1) (Ruled s) (first_word s) _ (word_sound s)
    (λ p a. then_held (λ u. p.1 ≡ sign equals ∷ u) (Ruled s) (past equals p.1) _ (past_sound equals p.1)
    (λ u b. then_held (λ (q : List ℕ × List Piece). u ≡ word q.0 ∷ q.1) (Ruled s) (first_word u) _ (word_sound u)
    (λ q c. then_held (Bodied q.1) (Ruled s) (body_of q.1) _ (body_sound q.1)
    (λ b' x. subst (λ l. Ruled l (record { variable = p.0; name = q.0; body = b' }))
    (sym (a ∙ ap (λ (l : List Piece). word p.0 ∷ l) (b ∙ ap (λ (l : List Piece). sign equals ∷ l) c))) (of_rule x)))))
