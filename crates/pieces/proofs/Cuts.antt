-- The pieces that are computed are those that the text is cut into, and in one way only.
use Rattle.std.proofs.Common.{◌≡◌, ℕ, Bool, true, false, cond, List, [], ◌∷◌, ◌++◌, Some, sym, refl, ap, ◌∙◌, subst, ap₂, inl, inr}
use Rattle.std.specs.List.{list_all}
use Rattle.std.proofs.lemmas.Bool.{and_parts, and_from, cases_Bool}
use Rattle.lexical.specs.declared.kinds.Kind.{Kind}
use Rattle.lexical.specs.declared.kinds.Kind.TheVariants.{Letter, Digit, Hyphen, Point, Less, Greater, Slash, Blank, Other}
use Rattle.lexical.specs.Kinds.{kind}
use Rattle.lexical.specs.Numbers.{figure_kind}
use Rattle.pieces.specs.declared.run.Run.{Run}
use Rattle.pieces.specs.declared.run.Run.TheVariants.{Word, Number}
use Rattle.pieces.specs.Pieces.{Piece, sign_piece}
use Rattle.pieces.specs.Spelling.{alone_kind, Past, Spelled, at_end, a_blank, a_word, a_number, a_sign}
use Rattle.pieces.specs.Cutting.{carries, run_piece, front, by_first, pieces_after, pieces, PiecesRule}

abbrev pub carried : Run → ℕ → Bool
carried r b = carries r (kind b)

-- the pieces from a byte on where it begins a run
abbrev pub running : ℕ → List ℕ → Run → List Piece
running b s r = run_piece r (b ∷ front r s) ∷ pieces_after (Some r) s

-- One step of each definition.

pub front_nil : (r : Run) → front r [] ≡ []
unfolding front
front_nil r = refl

pub front_on : (r : Run) (b : ℕ) (s : List ℕ) → carries r (kind b) ≡ true → front r (b ∷ s) ≡ b ∷ front r s
unfolding front
front_on r b s e = ap (λ x. cond x (b ∷ front r s) []) e

pub front_off : (r : Run) (b : ℕ) (s : List ℕ) → carries r (kind b) ≡ false → front r (b ∷ s) ≡ []
unfolding front
front_off r b s e = ap (λ x. cond x (b ∷ front r s) []) e

pub pieces_nil : pieces [] ≡ []
unfolding pieces_after
pieces_nil = refl

pub after_nil : (r : Run) → pieces_after (Some r) [] ≡ []
unfolding pieces_after
after_nil r = refl

pub pieces_step : (b : ℕ) (s : List ℕ) (k : Kind) → kind b ≡ k → pieces (b ∷ s) ≡ by_first k (sign_piece b) (pieces s) (λ r. run_piece r (b ∷ front r s) ∷ pieces_after (Some r) s)
unfolding pieces_after
pieces_step b s k e = ap (λ x. by_first x (sign_piece b) (pieces s) (running b s)) e

pub after_on : (r : Run) (b : ℕ) (s : List ℕ) → carries r (kind b) ≡ true → pieces_after (Some r) (b ∷ s) ≡ pieces_after (Some r) s
unfolding pieces_after
after_on r b s e = ap (λ x. cond x (pieces_after (Some r) s) (pieces (b ∷ s))) e

pub after_off : (r : Run) (b : ℕ) (s : List ℕ) → carries r (kind b) ≡ false → pieces_after (Some r) (b ∷ s) ≡ pieces (b ∷ s)
unfolding pieces_after
after_off r b s e = ap (λ x. cond x (pieces_after (Some r) s) (pieces (b ∷ s))) e

-- From the relation to the function.

front_run : (r : Run) (w s : List ℕ) → list_all (carried r) w ≡ true → Past (carries r) s → front r (w ++ s) ≡ w
front_run r [] [] e p = front_nil r
front_run r [] (b ∷ s) e p = front_off r b s p
front_run r (b ∷ w) s e p =
    let h = and_parts (carried r b) (list_all (carried r) w) e in
    front_on r b (w ++ s) h.0 ∙ ap {B = List ℕ} (λ l. b ∷ l) (front_run r w s h.1 p)

after_run : (r : Run) (w s : List ℕ) → list_all (carried r) w ≡ true → Past (carries r) s → pieces_after (Some r) (w ++ s) ≡ pieces s
after_run r [] [] e p = after_nil r ∙ sym pieces_nil
after_run r [] (b ∷ s) e p = after_off r b s p
after_run r (b ∷ w) s e p =
    let h = and_parts (carried r b) (list_all (carried r) w) e in
    after_on r b (w ++ s) h.0 ∙ after_run r w s h.1 p

-- a run, and the pieces of what follows it
run_first : (r : Run) (b : ℕ) (w s : List ℕ) → list_all (carried r) w ≡ true → Past (carries r) s → running b (w ++ s) r ≡ run_piece r (b ∷ w) ∷ pieces s
run_first r b w s e p = ap₂ {C = List Piece} (λ v l. run_piece r (b ∷ v) ∷ l) (front_run r w s e p) (after_run r w s e p)

-- the kinds that begin a number, and those that stand alone
pub figure_first : (k : Kind) (p : Piece) (ps : List Piece) (y : Run → List Piece) → figure_kind k ≡ true → by_first k p ps y ≡ y Number
figure_first Letter p ps y e = cc
figure_first Digit p ps y e = refl
figure_first Hyphen p ps y e = refl
figure_first Point p ps y e = refl
figure_first Less p ps y e = cc
figure_first Greater p ps y e = cc
figure_first Slash p ps y e = cc
figure_first Blank p ps y e = cc
figure_first Other p ps y e = cc

pub alone_first : (k : Kind) (p : Piece) (ps : List Piece) (y : Run → List Piece) → alone_kind k ≡ true → by_first k p ps y ≡ p ∷ ps
alone_first Letter p ps y e = cc
alone_first Digit p ps y e = cc
alone_first Hyphen p ps y e = cc
alone_first Point p ps y e = cc
alone_first Less p ps y e = refl
alone_first Greater p ps y e = refl
alone_first Slash p ps y e = refl
alone_first Blank p ps y e = cc
alone_first Other p ps y e = refl

pub spelled_pieces : {t : List ℕ} {ps : List Piece} → Spelled t ps → pieces t ≡ ps
spelled_pieces at_end = pieces_nil
spelled_pieces (a_blank b s ps k x) = pieces_step b s Blank k ∙ spelled_pieces x
spelled_pieces (a_word b w s ps k e p x) =
    pieces_step b (w ++ s) Letter k ∙ (run_first Word b w s e p ∙ ap {B = List Piece} (λ l. run_piece Word (b ∷ w) ∷ l) (spelled_pieces x))
spelled_pieces (a_number b w s ps k e p x) =
    pieces_step b (w ++ s) (kind b) refl
    ∙ (figure_first (kind b) (sign_piece b) (pieces (w ++ s)) (running b (w ++ s)) k
    ∙ (run_first Number b w s e p ∙ ap {B = List Piece} (λ l. run_piece Number (b ∷ w) ∷ l) (spelled_pieces x)))
spelled_pieces (a_sign b s ps k x) =
    pieces_step b s (kind b) refl
    ∙ (alone_first (kind b) (sign_piece b) (pieces s) (running b s) k ∙ ap {B = List Piece} (λ l. sign_piece b ∷ l) (spelled_pieces x))

-- From the function to the relation.

-- where a run that has begun before the text ends, and how the rest is cut
record Ends (r : Run) (s : List ℕ) : Type 0 where
  rest : List ℕ
  whole : s ≡ front r s ++ rest
  every : list_all (carried r) (front r s) ≡ true
  past : Past (carries r) rest
  spelled : Spelled rest (pieces_after (Some r) s)

ends_here : (r : Run) (s : List ℕ) → front r s ≡ [] → pieces_after (Some r) s ≡ pieces s → Past (carries r) s → Spelled s (pieces s) → Ends r s
ends_here r s e f p x =
    record {
      rest = s;
      whole = ap (λ l. l ++ s) (sym e);
      every = ap (list_all (carried r)) e;
      past = p;
      spelled = subst (Spelled s) (sym f) x;
    }

goes_on : (r : Run) (b : ℕ) (s : List ℕ) → carries r (kind b) ≡ true → Ends r s → Ends r (b ∷ s)
goes_on r b s e n =
    let f = front_on r b s e in
    record {
      rest = n.rest;
      whole = ap {B = List ℕ} (λ l. b ∷ l) n.whole ∙ ap (λ l. l ++ n.rest) (sym f);
      every = ap (list_all (carried r)) f ∙ and_from (carried r b) (list_all (carried r) (front r s)) e n.every;
      past = n.past;
      spelled = subst (Spelled n.rest) (sym (after_on r b s e)) n.spelled;
    }

record Cut (s : List ℕ) : Type 0 where
  here : Spelled s (pieces s)
  ends : (r : Run) → Ends r s

-- a run from its first byte on
word_first : (b : ℕ) (s : List ℕ) → kind b ≡ Letter → Ends Word s → Spelled (b ∷ s) (running b s Word)
word_first b s k n =
    subst (λ l. Spelled (b ∷ l) (running b s Word)) (sym n.whole)
    (a_word b (front Word s) n.rest (pieces_after (Some Word) s) k n.every n.past n.spelled)

number_first : (b : ℕ) (s : List ℕ) → figure_kind (kind b) ≡ true → Ends Number s → Spelled (b ∷ s) (running b s Number)
number_first b s k n =
    subst (λ l. Spelled (b ∷ l) (running b s Number)) (sym n.whole)
    (a_number b (front Number s) n.rest (pieces_after (Some Number) s) k n.every n.past n.spelled)

-- one byte more, by its kind
first : (b : ℕ) (s : List ℕ) (k : Kind) → kind b ≡ k → Cut s → Spelled (b ∷ s) (by_first k (sign_piece b) (pieces s) (running b s))
first b s Letter e c = word_first b s e (c.ends Word)
first b s Digit e c = number_first b s (ap figure_kind e) (c.ends Number)
first b s Hyphen e c = number_first b s (ap figure_kind e) (c.ends Number)
first b s Point e c = number_first b s (ap figure_kind e) (c.ends Number)
first b s Less e c = a_sign b s (pieces s) (ap alone_kind e) c.here
first b s Greater e c = a_sign b s (pieces s) (ap alone_kind e) c.here
first b s Slash e c = a_sign b s (pieces s) (ap alone_kind e) c.here
first b s Blank e c = a_blank b s (pieces s) e c.here
first b s Other e c = a_sign b s (pieces s) (ap alone_kind e) c.here

cut_all : (s : List ℕ) → Cut s
cut_all [] =
    let h : Spelled [] (pieces []) = subst (Spelled []) (sym pieces_nil) at_end in
    record { here = h; ends = λ r. ends_here r [] (front_nil r) (after_nil r ∙ sym pieces_nil) tt h }
cut_all (b ∷ s) =
    let c = cut_all s in
    let h : Spelled (b ∷ s) (pieces (b ∷ s)) = subst (Spelled (b ∷ s)) (sym (pieces_step b s (kind b) refl)) (first b s (kind b) refl c) in
    record {
      here = h;
      ends = λ r. elim (cases_Bool (carries r (kind b))) [
        | inl e ↦ goes_on r b s e (c.ends r)
        | inr e ↦ ends_here r (b ∷ s) (front_off r b s e) (after_off r b s e) e h
      ];
    }

pub pieces_spelled : (t : List ℕ) → Spelled t (pieces t)
pieces_spelled t = (cut_all t).here

pub pieces_rule : PiecesRule
pieces_rule t ps = (λ e. subst (Spelled t) e (pieces_spelled t), spelled_pieces)
