-- One lemma for each way through the functions that cut a text.
use Rattle.std.proofs.Common.{◌≡◌, ℕ, suc, ◌+◌, true, cond, ◌⊎◌, List, [], ◌∷◌, length, take, drop, Some, None, Option as Maybe, refl, sym, ap, ◌∙◌, inl, inr, arith}
use Rattle.std.proofs.lemmas.Bool.{cases_Bool}
use Rattle.std.proofs.lemmas.List.Sums.{take_while-cons}
use Rattle.std.specs.List.{prefix_len}
use Rattle.lexical.specs.declared.kinds.Kind.{Kind}
use Rattle.lexical.specs.declared.kinds.Kind.TheVariants.{Letter, Digit, Hyphen, Point, Less, Greater, Slash, Blank, Other}
use Rattle.lexical.specs.Kinds.{kind}
use Rattle.lexical.specs.Numbers.{figure_kind}
use Rattle.pieces.specs.declared.run.Run.{Run}
use Rattle.pieces.specs.declared.run.Run.TheVariants.{Word, Number}
use Rattle.pieces.specs.declared.token.Token.{Token}
use Rattle.pieces.specs.Pieces.{Piece, sign_piece}
use Rattle.pieces.specs.Spelling.{alone_kind}
use Rattle.pieces.specs.Cutting.{carries, run_piece, front, by_first, pieces_after, pieces}
use Rattle.pieces.specs.Tokens.{piece}
use Rattle.pieces.specs.Lexemes.{before, Leads}
use Rattle.pieces.proofs.Cuts.{running, carried, front_nil, front_on, after_nil, after_on, after_off, pieces_nil, pieces_step, figure_first, alone_first}

-- The bytes of a run, and the text behind them.

pub run_bytes : (r : Run) (t : List ℕ) → take (prefix_len (carried r) t) t ≡ front r t
unfolding front
run_bytes r [] = sym (front_nil r)
run_bytes r (b ∷ s) = take_while-cons (carried r) b s ∙ ap (λ l. cond (carried r b) (b ∷ l) []) (run_bytes r s)

pub run_rest : (r : Run) (t : List ℕ) → pieces (drop (prefix_len (carried r) t) t) ≡ pieces_after (Some r) t
run_rest r [] = pieces_nil ∙ sym (after_nil r)
run_rest r (b ∷ s) =
    let n = prefix_len (carried r) s in
    let one : 1 + n ≡ suc n = omega arith in
    elim (cases_Bool (carried r b)) [
      | inl e ↦ ap (λ x. pieces (drop (cond x (1 + n) 0) (b ∷ s))) e ∙ ap (λ k. pieces (drop k (b ∷ s))) one ∙ run_rest r s ∙ sym (after_on r b s e)
      | inr e ↦ ap (λ x. pieces (drop (cond x (1 + n) 0) (b ∷ s))) e ∙ sym (after_off r b s e)
    ]

pub no_pieces : (t : List ℕ) → length t ≡ 0 → pieces t ≡ []
no_pieces [] e = pieces_nil
no_pieces (b ∷ s) e = absurd (omega arith)

-- A text that begins with a byte b.
module _ {t : List ℕ} {b : ℕ} {s : List ℕ} (f : t ≡ b ∷ s) where
  leads_run : (r : Run) {x : Maybe Token} {rest : List ℕ} → carries r (kind b) ≡ true → by_first (kind b) (sign_piece b) (pieces s) (running b s) ≡ running b s r
      → length (front r t) + length rest ≡ length t → before x (pieces rest) ≡ run_piece r (front r t) ∷ pieces_after (Some r) t → Leads t x rest
  leads_run r {x} {rest} e k l q =
      let on : front r t ≡ b ∷ front r s = ap (front r) f ∙ front_on r b s e in
      let after : pieces_after (Some r) t ≡ pieces_after (Some r) s = ap (pieces_after (Some r)) f ∙ after_on r b s e in
      record {
        shorter = omega (arith, ap length on);
        same = ap pieces f ∙ pieces_step b s (kind b) refl ∙ k ∙ sym (q ∙ ap (λ w. run_piece r w ∷ pieces_after (Some r) t) on ∙ ap {B = List Piece} (λ ps. run_piece r (b ∷ front r s) ∷ ps) after);
      }

  pub leads_word : {k : Kind} {x : Maybe Token} {rest : List ℕ} → k ≡ kind b → k ≡ Letter
      → length (front Word t) + length rest ≡ length t → before x (pieces rest) ≡ run_piece Word (front Word t) ∷ pieces_after (Some Word) t → Leads t x rest
  leads_word e h l q =
      let here : kind b ≡ Letter = sym e ∙ h in
      leads_run Word (ap (carries Word) here) (ap (λ k. by_first k (sign_piece b) (pieces s) (running b s)) here) l q

  pub leads_number : {k : Kind} {x : Maybe Token} {rest : List ℕ} → k ≡ kind b → (k ≡ Digit) ⊎ ((k ≡ Hyphen) ⊎ (k ≡ Point))
      → length (front Number t) + length rest ≡ length t → before x (pieces rest) ≡ run_piece Number (front Number t) ∷ pieces_after (Some Number) t → Leads t x rest
  leads_number {k} e h l q =
      let here : figure_kind (kind b) ≡ true = ap figure_kind (sym e) ∙ figures h in
      leads_run Number here (figure_first (kind b) (sign_piece b) (pieces s) (running b s) here) l q
    where
      figures : (k ≡ Digit) ⊎ ((k ≡ Hyphen) ⊎ (k ≡ Point)) → figure_kind k ≡ true
      figures (inl i) = ap figure_kind i
      figures (inr (inl i)) = ap figure_kind i
      figures (inr (inr i)) = ap figure_kind i

  leads_on : {k : Kind} {x : Maybe Token} → k ≡ kind b → by_first k (sign_piece b) (pieces s) (running b s) ≡ before x (pieces s) → Leads t x s
  leads_on {k} e h = record { shorter = omega (arith, ap length f); same = ap pieces f ∙ pieces_step b s k (sym e) ∙ h }

  pub leads_blank : {k : Kind} → k ≡ kind b → k ≡ Blank → Leads t None s
  leads_blank e h = leads_on (sym h ∙ e) refl

  pub leads_sign : {k : Kind} {x : Token} → k ≡ kind b → (k ≡ Less) ⊎ ((k ≡ Greater) ⊎ ((k ≡ Slash) ⊎ (k ≡ Other))) → piece x ≡ sign_piece b → Leads t (Some x) s
  leads_sign {k} {x} e h q = leads_on e (alone_first k (sign_piece b) (pieces s) (running b s) (alone h) ∙ ap {B = List Piece} (λ p. p ∷ pieces s) (sym q))
    where
      alone : (k ≡ Less) ⊎ ((k ≡ Greater) ⊎ ((k ≡ Slash) ⊎ (k ≡ Other))) → alone_kind k ≡ true
      alone (inl i) = ap alone_kind i
      alone (inr (inl i)) = ap alone_kind i
      alone (inr (inr (inl i))) = ap alone_kind i
      alone (inr (inr (inr i))) = ap alone_kind i
