-- The ways through the reader of contents that the check does not find alone, each answers what the parser gives.
use Rattle.std.proofs.Common.{◌≡◌, ℕ, zero, suc, ◌+◌, ◌-◌, ◌*◌, ◌<◌, ◌≤◌, List, [], ◌∷◌, length, Some, None, Ok, Err, Option as Maybe, Result, sym, refl, ap, ◌∙◌, arith}
use Rattle.std.specs.Borrow.{Bor}
use Rattle.std.specs.Result.{IsErrAnd}
use Rattle.lexical.specs.declared.spelled.Word.{Word}
use Rattle.contents.specs.declared.expression.Expression.{Expression}
use Rattle.pieces.specs.declared.token.Token.{Token}
use Rattle.pieces.specs.Pieces.{Piece, word, number, sign, unfit, asterisk, cross, question, open_round, close_round}
use Rattle.pieces.specs.Tokens.{pieces_of}
use Rattle.form_grammar.specs.Grammar.{Written, Part, a_choice, an_item, an_atom}
use Rattle.form_grammar.specs.Parser.{Got, parse, past, first_word, joined, repeated, closed, bracketed, ◌>>=◌}
use Rattle.form_text.specs.declared.errors.Unread.{Unread}
use Rattle.form_text.specs.declared.errors.Unread.TheVariants.{NotOfForm, NoMemory}
use Rattle.form_text.specs.Reads.{IfRead, written, read_as, Parses, rank}

-- an error that is handed on says of a larger part what it said of its first
pub handed_on : {X Y : Type 0} (P : Maybe X → Type 0) (Q : Maybe Y → Type 0) (r : Result Y Unread) (e : Unread) → IsErrAnd r (λ f. f ≡ e)
    → (P None → Q None) → IfRead (Err e) P → IfRead r Q
handed_on P Q (Ok y) e h k p = absurd h
handed_on P Q (Err NotOfForm) NotOfForm h k p = k p
handed_on P Q (Err NotOfForm) NoMemory h k p = cc
handed_on P Q (Err NoMemory) e h k p = tt

abbrev Found : Type 0
Found = Maybe (Expression Word × Bor (List Token))

-- Parts that a sign joins to more of their kind: sequences by a bar to a choice, items by a comma to a sequence.
module _ (k j : Part) (b : ℕ) (join : Written → Written → Written)
    (opened : (n d : ℕ) (s : List Piece) → parse (suc n) k d s ≡ (parse n j d s >>= joined b join (λ t. parse n k d t)))
    (ranked : rank k ≡ rank j + 1) {d : ℕ} {ts : List Token} where
  first : {o : Found} → Parses j d ts o → (g : Got) → ((m : ℕ) → 4 * length ts + rank j ≤ m → g ≡ (read_as written o >>= joined b join (λ t. parse m k d t)))
      → (n : ℕ) → 4 * length ts + rank k ≤ n → g ≡ parse n k d (pieces_of ts)
  first p g f zero h = absurd (omega arith)
  first p g f (suc m) h =
      f m (omega arith) ∙ ap (λ o. o >>= joined b join (λ t. parse m k d t)) (p.value m (omega arith)) ∙ sym (opened m d (pieces_of ts))

  pub none_joined : Parses j d ts None → Parses k d ts None
  none_joined p = record { value = first p None (λ m h. refl); onward = tt }

  module _ {x : Expression Word} {s : Bor (List Token)} (p : Parses j d ts (Some (x, s))) where
    pub last_joined : None ≡ past b (pieces_of s.now) → Parses k d ts (Some (x, s))
    last_joined q = record { value = first p _ (λ m h. rw (← q) refl); onward = p.onward }

    -- more was read behind the sign, or not
    module _ (t : Bor (List Token)) (w : Some (pieces_of t.now) ≡ past b (pieces_of s.now)) (l : length t.now < length s.now) where
      more : {q : Found} → Parses k d t.now q → (m : ℕ) → 4 * length ts + rank j ≤ m
          → joined b join (λ t. parse m k d t) (written x, pieces_of s.now) ≡ (read_as written q >>= (λ (y, u). Some (join (written x) y, u)))
      more r m h =
          let behind = p.onward in
          rw (← w) (rw (← r.value m (omega arith)) refl)

      pub lost_joined : Parses k d t.now None → Parses k d ts None
      lost_joined r = record { value = first p _ (λ m h. sym (more r m h)); onward = tt }

      pub more_joined : {y z : Expression Word} {u : Bor (List Token)} → Parses k d t.now (Some (y, u)) → written z ≡ join (written x) (written y)
          → Parses k d ts (Some (z, u))
      more_joined {y} {z} {u} r g =
          let behind = p.onward in
          let end = r.onward in
          record { value = first p _ (λ m h. ap (λ (c : Written). Some (c, pieces_of u.now)) g ∙ sym (more r m h)); onward = omega arith }

-- no word stands where a sign does
no_word : (b : ℕ) (s : List Piece) {t : List Piece} → Some t ≡ past b s → None ≡ first_word s
no_word b [] e = refl
no_word b (word w ∷ s) e = cc
no_word b (number v ∷ s) e = refl
no_word b (sign c ∷ s) e = refl
no_word b (unfit ∷ s) e = refl

-- Atoms in brackets: what stands inside is a choice, where brackets may stand one less deep.
module _ {d : ℕ} (ts s : List Token) (f : Some (pieces_of s) ≡ past open_round (pieces_of ts)) (l : length s < length ts) (z : 0 < d) where
  inside : {o : Found} → Parses a_choice (d - 1) s o → (n : ℕ) → 4 * length ts + 1 ≤ n → parse n an_atom d (pieces_of ts) ≡ (read_as written o >>= closed)
  inside p zero h = absurd (omega arith)
  inside p (suc m) h =
      let deep : d ≡ suc (d - 1) = omega arith in
      rw (← no_word open_round (pieces_of ts) f)
      (rw (← f) (ap (λ k. bracketed (λ c t. parse m a_choice c t) k (pieces_of s)) deep ∙ ap (λ o. o >>= closed) (sym (p.value m (omega arith)))))

  atom_none : Parses a_choice (d - 1) s None → Parses an_atom d ts None
  atom_none p = record { value = λ n h. sym (inside p n h); onward = tt }

  pub atom_unclosed : {x : Expression Word} {t : Bor (List Token)} → Parses a_choice (d - 1) s (Some (x, t)) → None ≡ past close_round (pieces_of t.now)
      → Parses an_atom d ts None
  atom_unclosed p g = record { value = λ n h. sym (inside p n h ∙ rw (← g) refl); onward = tt }

  pub atom_closed : {x : Expression Word} {t u : Bor (List Token)} → Parses a_choice (d - 1) s (Some (x, t))
      → Some (pieces_of u.now) ≡ past close_round (pieces_of t.now) → length u.now < length t.now → Parses an_atom d ts (Some (x, u))
  atom_closed p g w =
      let behind = p.onward in
      record { value = λ n h. sym (inside p n h ∙ rw (← g) refl); onward = omega arith }

pub atom_lost : (d : ℕ) (ts s : List Token) (r : Result (Expression Word × Bor (List Token)) Unread) (e : Unread) → IsErrAnd r (λ f. f ≡ e)
    → IfRead (Err e) (λ o. Parses a_choice (d - 1) s o) → Some (pieces_of s) ≡ past open_round (pieces_of ts) → length s < length ts → 0 < d
    → IfRead r (λ o. Parses an_atom d ts o)
atom_lost d ts s r e h p f l z = handed_on (Parses a_choice (d - 1) s) (Parses an_atom d ts) r e h (atom_none ts s f l z) p

-- an item is its atom, or what a sign of repetition behind it makes of it
pub item_read : {d : ℕ} {ts : List Token} {x y : Expression Word} {s u : Bor (List Token)} → Parses an_atom d ts (Some (x, s))
    → Some (written y, pieces_of u.now) ≡ repeated (written x, pieces_of s.now) → length u.now ≤ length s.now → Parses an_item d ts (Some (y, u))
item_read {d} {ts} {x} {y} {s} {u} p e l =
    let behind = p.onward in
    record { value = go; onward = omega arith }
  where
    go : (n : ℕ) → 4 * length ts + 2 ≤ n → Some (written y, pieces_of u.now) ≡ parse n an_item d (pieces_of ts)
    go zero h = absurd (omega arith)
    go (suc m) h = e ∙ ap (λ o. o >>= repeated) (p.value m (omega arith))

pub item_last : {d : ℕ} {ts : List Token} {x : Expression Word} {s : Bor (List Token)} → Parses an_atom d ts (Some (x, s))
    → (None ≡ past asterisk (pieces_of s.now)) × (None ≡ past cross (pieces_of s.now)) × (None ≡ past question (pieces_of s.now))
    → Parses an_item d ts (Some (x, s))
item_last {d} {ts} {x} {s} p (a, b, c) = item_read p (rw (← a) (rw (← b) (rw (← c) refl))) (omega arith)

-- an item is its atom where nothing is
pub item_none : {d : ℕ} {ts : List Token} → Parses an_atom d ts None → Parses an_item d ts None
item_none {d} {ts} p = record { value = go; onward = tt }
  where
    go : (n : ℕ) → 4 * length ts + 2 ≤ n → None ≡ parse n an_item d (pieces_of ts)
    go zero h = absurd (omega arith)
    go (suc m) h = ap (λ o. o >>= repeated) (p.value m (omega arith))
