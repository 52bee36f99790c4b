-- The reading, and that it answers what the grammar and the limits say.
use Rattle.std.proofs.Common.{◌≡◌, ℕ, suc, ◌+◌, Bool, true, false, cond, ◌&&◌, ◌||◌, leb, ◌⊎◌, List, [], ◌∷◌, ◌++◌, length, take, ℤ, Some, None, Option as Maybe, sym, refl, ap, ◌∙◌, subst, inl, inr, append_assoc, append-nil, arith, length-append}
use mathlib.Core.Bool.{false≢true}
use mathlib.Core.Option.{Option, some, none}
use Rattle.std.proofs.lemmas.Bool.{leb-true, leb-false}
use Rattle.lexical.specs.declared.kinds.Kind.{Kind}
use Rattle.lexical.specs.declared.kinds.Kind.TheVariants.{Letter, Digit, Hyphen, Point, Less, Greater, Slash, Blank, Other}
use Rattle.lexical.specs.Kinds.{kind}
use Rattle.lexical.specs.Words.{word}
use Rattle.lexical.specs.Numbers.{number}
use Rattle.record_text.specs.Grammar.{Item, gap, tag, num, stray, lone, bytes, text, size, Fits}
use Rattle.record_text.specs.Grammar.{nothing as no_content}
use Rattle.records.specs.Limits.{most_nodes, most_levels}
use Rattle.record_text.specs.Items.{ItemsOf, Cut, Ends, space, less, greater, figure, plain, of_kind, role}
use Rattle.record_text.specs.Reading.{slash_first, slash_last, begun_by, opened_by, closed_by, total, Over, Within, nothing, one_more, Answer}
use Rattle.record_text.specs.Machine.{Open, Held, blanks, elements, value, Shape, shape, Tag, opens, closes, whole, bad, named, tag_of, same, close, move_num, move_tag, move, after, runs}
use Rattle.record_text.proofs.Complete.{size-++, runs-++, content_run}
use Rattle.record_text.proofs.Sound.{Spine, top, Stands, Proper, AllProper, runs_sound, finished, after_some, nowhere, move_sound, free_some}
pub use Rattle.record_text.specs.Pass.{starts, starts_item, full, over, decide, at_end, check, start, read}
use Rattle.record_text.proofs.Lex.{items, items_text, items_cut, differ}

-- what an item does to the counts
abbrev Turn : List ℕ → Tag → Type 0
Turn bs (opens w) = (slash_first bs ≡ false) × (slash_last bs ≡ false)
Turn bs (closes w) = slash_first bs ≡ true
Turn bs (whole w) = (slash_first bs ≡ false) × (slash_last bs ≡ true)
Turn bs bad = Unit {0}

named_turn : (bs : List ℕ) (f : List ℕ → Tag) (w : List ℕ) → Turn bs (f w) → Turn bs (named f w)
named_turn bs f w h = go (word w)
  where
    go : (b : Bool) → Turn bs (cond b (f w) bad)
    go true = h
    go false = tt

turn_cases : (bs : List ℕ) (x y : Bool) (s t u : Tag) → (x ≡ true → Turn bs s) → (x ≡ false → y ≡ true → Turn bs t) → (x ≡ false → y ≡ false → Turn bs u) → Turn bs (cond x s (cond y t u))
turn_cases bs true y s t u f g h = f refl
turn_cases bs false true s t u f g h = g refl refl
turn_cases bs false false s t u f g h = h refl refl

turn : (bs : List ℕ) → Turn bs (tag_of bs)
unfolding tag_of
turn [] = tt
turn (b ∷ bs) =
    turn_cases (b ∷ bs) (slash_first (b ∷ bs)) (slash_last (b ∷ bs)) _ _ _
    (λ e. named_turn (b ∷ bs) closes bs e)
    (λ e f. named_turn (b ∷ bs) whole (take (length bs) (b ∷ bs)) (e, f))
    (λ e f. named_turn (b ∷ bs) opens (b ∷ bs) (e, f))

record Counts (s s' : Shape) (i : Item) (b : Bool) : Type 0 where
  nodes : s'.nodes ≡ s.nodes + begun_by i
  level : length s'.up + closed_by i ≡ length s.up + opened_by i
  starting : b ≡ true → begun_by i ≡ 1
  passing : b ≡ false → begun_by i ≡ 0

close_some : (w : List ℕ) (n : ℕ) (up : List Open) (s' : Shape) → close w n up ≡ some s' → (s'.nodes ≡ n) × (suc (length s'.up) ≡ length up)
close_some w n [] s' e = nowhere s' e
close_some w n (o ∷ up) s' e = go (same w o.name) e
  where
    go : (b : Bool) → cond b (some (shape n up elements)) none ≡ some s' → (s'.nodes ≡ n) × (suc (length s'.up) ≡ suc (length up))
    go true e = let q : shape n up elements ≡ s' = cc in (ap (λ z. z.nodes) (sym q), ap (λ z. suc (length z.up)) (sym q))
    go false e = nowhere s' e

pub some_same : (s s' : Shape) → ◌≡◌ {A = Option Shape} (some s) (some s') → s ≡ s'
some_same s s' e = cc

still : (s s' : Shape) (i : Item) → begun_by i ≡ 0 → closed_by i ≡ 0 → opened_by i ≡ 0 → s.nodes ≡ s'.nodes → length s.up ≡ length s'.up → Counts s s' i false
still s s' i b c o e f =
    record { nodes = omega arith; level = omega arith; starting = λ q. absurd (false≢true q); passing = λ q. b }

counts_tag : (p : ℕ) (s s' : Shape) (bs : List ℕ) (t : Tag) → Turn bs t → move_tag p s t ≡ some s' → Counts s s' (tag bs) (starts t)
counts_tag p s s' bs (opens w) k e =
    let q = some_same _ s' (free_some s.held _ s' e).1 in
    let n : s.nodes + 1 ≡ s'.nodes = ap (λ z. z.nodes) q in
    let u : suc (length s.up) ≡ length s'.up = ap (λ z. length z.up) q in
    let b : begun_by (tag bs) ≡ 1 = ap (λ c. cond c 0 1) k.0 in
    let c : closed_by (tag bs) ≡ 0 = ap (λ c. cond c 1 0) k.0 in
    let o : opened_by (tag bs) ≡ 1 = ap (λ c. cond c 0 (cond (slash_last bs) 0 1)) k.0 ∙ ap (λ c. cond c 0 1) k.1 in
    record { nodes = omega arith; level = omega arith; starting = λ _. b; passing = λ q. absurd (false≢true (sym q)) }
counts_tag p s s' bs (closes w) k e =
    let r = close_some w s.nodes s.up s' e in
    let b : begun_by (tag bs) ≡ 0 = ap (λ c. cond c 0 1) k in
    let c : closed_by (tag bs) ≡ 1 = ap (λ c. cond c 1 0) k in
    let o : opened_by (tag bs) ≡ 0 = ap (λ c. cond c 0 (cond (slash_last bs) 0 1)) k in
    record { nodes = omega arith; level = omega arith; starting = λ q. absurd (false≢true q); passing = λ _. b }
counts_tag p s s' bs (whole w) k e =
    let q = some_same _ s' (free_some s.held _ s' e).1 in
    let n : s.nodes + 1 ≡ s'.nodes = ap (λ z. z.nodes) q in
    let u : length s.up ≡ length s'.up = ap (λ z. length z.up) q in
    let b : begun_by (tag bs) ≡ 1 = ap (λ c. cond c 0 1) k.0 in
    let c : closed_by (tag bs) ≡ 0 = ap (λ c. cond c 1 0) k.0 in
    let o : opened_by (tag bs) ≡ 0 = ap (λ c. cond c 0 (cond (slash_last bs) 0 1)) k.0 ∙ ap (λ c. cond c 0 1) k.1 in
    record { nodes = omega arith; level = omega arith; starting = λ _. b; passing = λ q. absurd (false≢true (sym q)) }
counts_tag p s s' bs bad k e = nowhere s' e

counts_num : (s s' : Shape) (h : Held) (v : Maybe ℤ) → move_num s h v ≡ some s' → (s.nodes ≡ s'.nodes) × (length s.up ≡ length s'.up)
counts_num s s' blanks None e = nowhere s' e
counts_num s s' blanks (Some v) e = let q = some_same _ s' e in (ap (λ z. z.nodes) q, ap (λ z. length z.up) q)
counts_num s s' elements v e = nowhere s' e
counts_num s s' (value x) v e = nowhere s' e

counts : (p : ℕ) (s s' : Shape) (i : Item) → move p s i ≡ some s' → Counts s s' i (starts_item i)
counts p s s' (gap b) e = let q = some_same s s' e in still s s' (gap b) refl refl refl (ap (λ z. z.nodes) q) (ap (λ z. length z.up) q)
counts p s s' (tag bs) e = counts_tag p s s' bs (tag_of bs) (turn bs) e
counts p s s' (num ds) e = let r = counts_num s s' s.held (number ds) e in still s s' (num ds) refl refl refl r.0 r.1
counts p s s' (stray b) e = nowhere s' e
counts p s s' (lone bs) e = nowhere s' e

-- the counts of a run
run_counts : (p : ℕ) (s s' : Shape) (is : List Item) → runs p s is ≡ some s' →
    (s'.nodes ≡ s.nodes + total begun_by is) × (length s'.up + total closed_by is ≡ length s.up + total opened_by is)
run_counts p s s' [] e = let q = some_same s s' e in let n = ap (λ z. z.nodes) q in let u = ap (λ z. length z.up) q in (omega arith, omega arith)
run_counts p s s' (i ∷ is) e =
    let r = after_some (move p s i) _ s' e in
    let c = counts p s r.0 i r.1 in
    let h = run_counts (p + length (bytes i)) r.0 s' is r.2 in
    (omega arith, omega arith)

pub size_push : (is : List Item) (i : Item) → size is + length (bytes i) ≡ size (is ++ i ∷ [])
size_push is i = omega (arith, size-++ is (i ∷ []), length-append (bytes i) [])

-- over the limits
over_yes : (b x y : Bool) → (b && (x || y)) ≡ true → (b ≡ true) × ((x ≡ true) ⊎ (y ≡ true))
over_yes true true y e = (refl, inl refl)
over_yes true false y e = (refl, inr e)
over_yes false x y e = absurd (false≢true e)

over_no : (b x y : Bool) → (b && (x || y)) ≡ false → (b ≡ false) ⊎ ((x ≡ false) × (y ≡ false))
over_no true true y e = absurd (false≢true (sym e))
over_no true false y e = inr (refl, e)
over_no false x y e = inl refl

module _ (is : List Item) (i : Item) (s s' : Shape) (r : runs 0 start is ≡ some s) (m : move (size is) s i ≡ some s') where
  pub is_over : over s i ≡ true → Over is i
  is_over e =
      let o = over_yes (starts_item i) (leb most_nodes s.nodes) (leb most_levels (length s.up)) e in
      let c = counts (size is) s s' i m in
      let n = run_counts 0 start s is r in
      (c.starting o.0, elim o.1 [ inl x ↦ inl (omega (arith, leb-true most_nodes s.nodes x)) | inr y ↦ inr (omega (arith, leb-true most_levels (length s.up) y)) ])

  pub not_over : over s i ≡ false → Over is i → ⊥
  not_over e h =
      let c = counts (size is) s s' i m in
      let n = run_counts 0 start s is r in
      elim (over_no (starts_item i) (leb most_nodes s.nodes) (leb most_levels (length s.up)) e) [
        | inl x ↦ omega (arith, c.passing x, h.0)
        | inr x ↦ elim h.1 [ inl a ↦ omega (arith, leb-false most_nodes s.nodes x.0) | inr b ↦ omega (arith, leb-false most_levels (length s.up) x.1) ]
      ]

-- runs of parts
pub split_run : (p : ℕ) (s s'' : Shape) (is js : List Item) → runs p s (is ++ js) ≡ some s'' → (s' : Shape) × (runs p s is ≡ some s') × (runs (p + size is) s' js ≡ some s'')
split_run p s s'' [] js e = (s, refl, subst (λ n. runs n s js ≡ some s'') (omega arith) e)
split_run p s s'' (i ∷ is) js e =
    let r = after_some (move p s i) _ s'' e in
    let h = split_run (p + length (bytes i)) r.0 s'' is js r.2 in
    let q : (p + length (bytes i)) + size is ≡ p + size (i ∷ is) = omega (arith, length-append (bytes i) (text is)) in
    (h.0, ap (λ o. after o (λ t. runs (p + length (bytes i)) t is)) r.1 ∙ h.1, subst (λ n. runs n h.0 js ≡ some s'') q h.2)

pub fits_run : (is : List Item) → Fits is → (s : Shape) × (runs 0 start is ≡ some s)
fits_run is f =
    let r = content_run f.2 0 [] elements tt in
    let h = split_run 0 start _ is f.0 r.2 in
    (h.0, h.1)

-- one more item
push_run : (is : List Item) (i : Item) (s s' : Shape) → runs 0 start is ≡ some s → move (size is) s i ≡ some s' → runs 0 start (is ++ i ∷ []) ≡ some s'
push_run is i s s' r m =
    let z : 0 + size is ≡ size is = omega arith in
    runs-++ 0 start is (i ∷ []) s r ∙ (ap (λ n. runs n s (i ∷ [])) z ∙ ap (λ o. after o (λ t. runs (size is + length (bytes i)) t [])) m)

pub pop_run : (is : List Item) (i : Item) (s' : Shape) → runs 0 start (is ++ i ∷ []) ≡ some s' → (s : Shape) × (runs 0 start is ≡ some s) × (move (size is) s i ≡ some s')
pop_run is i s' e =
    let h = split_run 0 start s' is (i ∷ []) e in
    let z : 0 + size is ≡ size is = omega arith in
    let g : runs (size is) h.0 (i ∷ []) ≡ some s' = subst (λ n. runs n h.0 (i ∷ []) ≡ some s') z h.2 in
    let r = after_some (move (size is) h.0 i) _ s' g in
    (h.0, h.1, r.1 ∙ r.2)

-- where an item does not move the reader, it does not fit
pub stuck : (is : List Item) (i : Item) (s : Shape) → runs 0 start is ≡ some s → move (size is) s i ≡ none → Fits (is ++ i ∷ []) → ⊥
stuck is i s r m f =
    let h = fits_run (is ++ i ∷ []) f in
    let g = pop_run is i h.0 h.1 in
    let q : g.0 ≡ s = some_same g.0 s (sym g.1 ∙ r) in
    let n : move (size is) s i ≡ some h.0 = subst (λ x. move (size is) x i ≡ some h.0) q g.2 in
    nowhere h.0 (sym m ∙ n)

-- blanks
space_blank : (k : Kind) → of_kind k ≡ space → k ≡ Blank
space_blank Letter e = absurd (differ plain space tt e)
space_blank Digit e = absurd (differ figure space tt e)
space_blank Hyphen e = absurd (differ figure space tt e)
space_blank Point e = absurd (differ figure space tt e)
space_blank Less e = absurd (differ less space tt e)
space_blank Greater e = absurd (differ greater space tt e)
space_blank Slash e = absurd (differ plain space tt e)
space_blank Blank e = refl
space_blank Other e = absurd (differ plain space tt e)

proper : (i : Item) (is : List Item) → Ends i is → Proper i
unfolding role
proper (gap b) is k = space_blank (kind b) k
proper (tag bs) is k = tt
proper (num ds) is k = tt
proper (stray b) is k = tt
proper (lone bs) is k = tt

pub all_proper : (is : List Item) → Cut is → AllProper is
all_proper [] k = tt
all_proper (i ∷ is) k = (proper i is k.0, all_proper is k.1)

pub front_proper : (is js : List Item) → AllProper (is ++ js) → AllProper is
front_proper [] js k = tt
front_proper (i ∷ is) js k = (k.0, front_proper is js k.1)

pub back_proper : (is : List Item) (i : Item) (js : List Item) → AllProper (is ++ i ∷ js) → Proper i
back_proper [] i js k = k.0
back_proper (j ∷ is) i js k = back_proper is i js k.1

started : Stands [] start
started = top no_content

pub stands : (is : List Item) (s : Shape) → AllProper is → runs 0 start is ≡ some s → Stands is s
stands is s k r = runs_sound [] is start s k started r

-- the answer of each way
module _ (t : List ℕ) where
  ended_answer : (is : List Item) (n : ℕ) (up : List Open) (h : Held) → runs 0 start is ≡ some (shape n up h) → Within is → ItemsOf t is → Spine is n up h → Answer t (at_end (size is) n up)
  ended_answer is n [] h r w io (top {es = es} c) = (is, es, io, c, w, refl)
  ended_answer is n (o ∷ up) h r w io sp =
      inr (
        is,
        io,
        finished (o ∷ up) sp,
        w,
        (λ es c. let q = some_same _ _ (sym (content_run c 0 [] elements tt).2 ∙ r) in let z : ◌≡◌ {A = ℕ} 0 (suc (length up)) = ap (λ x. length x.up) q in omega arith),
        refl,
      )

  pub answers : (is rest : List Item) (s : Shape) → runs 0 start is ≡ some s → Within is → ItemsOf t (is ++ rest) → AllProper (is ++ rest) → Answer t (check (size is) s rest)
  answers is [] s r w io pr =
      let io' : ItemsOf t is = subst (ItemsOf t) (append-nil is) io in
      ended_answer is s.nodes s.up s.held r w io' (stands is s (front_proper is [] pr) r)
  answers is (i ∷ rest) s r w io pr =
      go (move (size is) s i) refl (over s i) refl
      (λ s' m v. subst (λ n. Answer t (check n s' rest)) (sym (size_push is i))
      (answers (is ++ i ∷ []) rest s' (push_run is i s s' r m) (one_more w i (not_over is i s s' r m v))
      (subst (ItemsOf t) (sym (append_assoc is (i ∷ []) rest)) io) (subst AllProper (sym (append_assoc is (i ∷ []) rest)) pr)))
    where
      sp : Stands is s
      sp = stands is s (front_proper is (i ∷ rest) pr) r

      go : (o : Option Shape) → move (size is) s i ≡ o → (b : Bool) → over s i ≡ b →
          ((s' : Shape) → move (size is) s i ≡ some s' → over s i ≡ false → Answer t (check (size is + length (bytes i)) s' rest)) →
          Answer t (decide (size is) b o (λ s'. check (size is + length (bytes i)) s' rest))
      go none m b v f = inl (is, i, rest, io, finished s.up sp, w, stuck is i s r m, refl)
      go (some s') m true v f =
          (is, i, rest, io, w, finished s'.up (move_sound i s s' (back_proper is i rest pr) sp m), is_over is i s s' r m v, refl)
      go (some s') m false v f = f s' m v

pub read_answers : (t : List ℕ) → Answer t (read t)
read_answers t = answers t [] (items t) start refl nothing (items_text t, items_cut t) (all_proper (items t) (items_cut t))
