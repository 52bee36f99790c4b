-- The laws of the layers hold.
use Rattle.std.proofs.Common.{◌≡◌, ℕ, suc, ◌+◌, ◌-◌, ◌<◌, Bool, true, false, cond, List, [], ◌∷◌, map, length, Some, None, Option, sym, refl, ap, ◌∙◌, arith}
use Rattle.std.proofs.lemmas.Slice.Eq.{bytes_eq-Decides}
use Rattle.std.proofs.lemmas.Bool.{lt-ltb, both_ways}
use Rattle.std.specs.Str.{bytes_eq}
use Rattle.lexical.specs.Words.{word}
use Rattle.records.specs.Nodes.{Node, shaped, next_depth, depth_at}
use Rattle.records.specs.Shapes.{shaped_depth, shaped_proper, shaped_rest, proper_word}
use Rattle.layers.specs.Layers.{Selected, nothing, keeps, leaves, hidden_by, unless_hidden, shown, without, run, lowered}
use Rattle.layers.specs.Laws.{OneSelection, HidingKeeps, CuttingTakes, NonWordHidesNothing, HiddenOnce, HiddenAndKept, CutWhole}
use Rattle.layers.proofs.Selecting.{Step, stays, begins, ends, step_at, hidden_selects, cut_selects}

-- one selection
same_selection : {X : Type 0} {P : ℕ → Type 0} {i : ℕ} {xs ys zs : List X} → Selected P i xs ys → Selected P i xs zs → ys ≡ zs
same_selection nothing nothing = refl
same_selection (keeps {x = x} p s) (keeps q t) = ap (λ l. x ∷ l) (same_selection s t)
same_selection (keeps p s) (leaves q t) = absurd (q p)
same_selection (leaves p s) (keeps q t) = absurd (p q)
same_selection (leaves p s) (leaves q t) = same_selection s t

pub one_selection : OneSelection
one_selection = ((λ w ns ms ls s t. same_selection s t), (λ n ns ms ls s t. same_selection s t))

all_counted : {X : Type 0} {P : ℕ → Type 0} {i : ℕ} {xs ys zs : List X} → Selected P i xs ys → Selected (λ k. P k → ⊥) i xs zs → length ys + length zs ≡ length xs
all_counted nothing nothing = refl
all_counted (keeps p s) (keeps q t) = absurd (q p)
all_counted (keeps p s) (leaves q t) = let h = all_counted s t in omega arith
all_counted (leaves p s) (keeps q t) = let h = all_counted s t in omega arith
all_counted (leaves p s) (leaves q t) = absurd (q p)

rest_of : {X : Type 0} {P : ℕ → Type 0} {i : ℕ} {xs ys : List X} → Selected P i xs ys → (zs : List X) × Selected (λ k. P k → ⊥) i xs zs
rest_of nothing = ([], nothing)
rest_of (keeps p s) = let t = rest_of s in (t.0, leaves (λ q. q p) t.1)
rest_of (leaves {x = x} q s) = let t = rest_of s in (x ∷ t.0, keeps q t.1)

pub hidden_and_kept : HiddenAndKept
hidden_and_kept w ns = let h = hidden_selects w ns ns refl in let t = rest_of h in (t.0, t.1, all_counted h t.1)

pub hiding_keeps : HidingKeeps
hiding_keeps w ns ps e = (hidden_selects w ns ns refl, hidden_selects w ns ps e)

pub cutting_takes : CuttingTakes
cutting_takes n ns ps e = (cut_selects n ns ns refl, cut_selects n ns ps e)

-- a list in which no node has the name
abbrev Free : List ℕ → List Node → Type 0
Free w [] = Unit {0}
Free w (n ∷ ns) = (bytes_eq n.name w ≡ false) × Free w ns

free_stays : {X : Type 0} (w : List ℕ) (ns : List Node) (xs : List X) → length xs ≡ length ns → Free w ns → without w ns xs ≡ xs
free_stays w [] [] e f = refl
free_stays w [] (x ∷ xs) e f = absurd (omega arith)
free_stays w (n ∷ ns) [] e f = refl
free_stays {X} w (n ∷ ns) (x ∷ xs) e f =
    ap (λ (b : Bool). unless_hidden (cond b (Some n.depth) None) x (shown w (cond b (Some n.depth) None) ns xs)) f.0 ∙ ap (λ (l : List X). x ∷ l) (free_stays w ns xs (omega arith) f.1)

free_node : (w : List ℕ) (n : Node) (f : Option ℕ → List Node) (top after : Option ℕ) → ((t : Option ℕ) → Free w (f t)) → Step w n top after → Free w (unless_hidden after n (f after))
free_node w n f top after rest (stays {t = t} l) = rest (Some t)
free_node w n f top after rest (begins o s) = rest (Some n.depth)
free_node w n f top after rest (ends o s) = (s, rest None)

-- what is shown is free of the name
shown_free : (w : List ℕ) (top : Option ℕ) (ns : List Node) → Free w (shown w top ns ns)
shown_free w top [] = tt
shown_free w top (n ∷ ns) = free_node w n (λ t. shown w t ns ns) top (hidden_by w top n) (λ t. shown_free w t ns) (step_at w n top)

pub hidden_once : HiddenOnce
hidden_once w ns = free_stays w (without w ns ns) (without w ns ns) refl (shown_free w None ns)

-- a name that is no word is no node's
other_name : (w : List ℕ) (n : Node) → word n.name ≡ true → word w ≡ false → (t : Bool) → bytes_eq n.name w ≡ t → t ≡ false
other_name w n a b true e = absurd (both_ways (word w) b (ap word (sym ((bytes_eq-Decides n.name w).0 e)) ∙ a))
other_name w n a b false e = refl

no_word_free : (w : List ℕ) (m : ℕ) (ns : List Node) → shaped m ns ≡ true → word w ≡ false → Free w ns
no_word_free w m [] h b = tt
no_word_free w m (n ∷ ns) h b =
    let p = shaped_proper m n ns h in
    (other_name w n (proper_word n p) b (bytes_eq n.name w) refl, no_word_free w (next_depth n.value n.depth) ns (shaped_rest m n ns h) b)

pub non_word_hides_nothing : NonWordHidesNothing
non_word_hides_nothing w ns ps s e b = let f = no_word_free w 0 ns s.1 b in (free_stays w ns ns refl f, free_stays w ns ps e f)

-- the cut at the first node
lowered_none : (ns : List Node) (d : ℕ) → d ≡ 0 → map (lowered d) ns ≡ ns
lowered_none [] d e = refl
lowered_none (n ∷ ns) d e =
    let z : n.depth - d ≡ n.depth = omega arith in
    ap (λ (k : ℕ). let r : Node = record { name = n.name; depth = k; value = n.value } in r ∷ map (lowered d) ns) z ∙ ap (λ (l : List Node). n ∷ l) (lowered_none ns d e)

run_all : {X : Type 0} (ns : List Node) (xs : List X) (d : ℕ) → length xs ≡ length ns → ((k : ℕ) → k < length ns → d < depth_at ns k) → run d ns xs ≡ xs
run_all [] [] d e h = refl
run_all [] (x ∷ xs) d e h = absurd (omega arith)
run_all (n ∷ ns) [] d e h = refl
run_all {X} (n ∷ ns) (x ∷ xs) d e h =
    ap (λ (b : Bool). cond b (x ∷ run d ns xs) []) (lt-ltb d n.depth (h 0 (omega arith)))
    ∙ ap (λ (l : List X). x ∷ l) (run_all ns xs d (omega arith) (λ k l. h (suc k) (omega arith)))

pub cut_whole : CutWhole
cut_whole [] [] s e h = (refl, refl)
cut_whole [] (p ∷ ps) s e h = absurd (omega arith)
cut_whole (n ∷ ns) [] s e h = absurd (omega arith)
cut_whole (n ∷ ns) (p ∷ ps) s e h =
    let top : n.depth ≡ 0 = omega (arith, shaped_depth 0 n ns s.1) in
    let deep : (k : ℕ) → k < length ns → n.depth < depth_at ns k = λ k l. let q = h (suc k) (omega arith) (omega arith) in omega (arith, q) in (
      ap (λ (l : List Node). map (lowered n.depth) (n ∷ l)) (run_all ns ns n.depth refl deep) ∙ lowered_none (n ∷ ns) n.depth top,
      ap (λ (l : List ℕ). p ∷ l) (run_all ns ps n.depth (omega arith) deep),
    )
