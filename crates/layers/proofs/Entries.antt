-- The entries of all nodes of a record.
use Rattle.std.proofs.Common.{◌≡◌, ℕ, zero, suc, ◌+◌, ◌-◌, ◌<◌, List, [], ◌∷◌, map, length, get_or, refl, ap, ◌∙◌, arith}
use Rattle.records.specs.Nodes.{Node, no_node}
use Rattle.layers.specs.Views.{viewed, entry_of, entries, raised}
use Rattle.layers.specs.declared.view.Shown.{Shown}

pub length_entries : (i : ℕ) (ns : List Node) → length (entries i ns) ≡ length ns
length_entries i [] = refl
length_entries i (n ∷ ns) = ap suc (length_entries (i + 1) ns)

pub getD_entries : (i : ℕ) (ns : List Node) (k : ℕ) (d : Shown) → k < length ns → get_or (entries i ns) k d ≡ entry_of (i + k) (get_or ns k no_node)
getD_entries i [] k d h = absurd (omega arith)
getD_entries i (n ∷ ns) zero d h = ap (λ (j : ℕ). entry_of j n) (omega arith)
getD_entries i (n ∷ ns) (suc k) d h =
    getD_entries (i + 1) ns k d (omega arith) ∙ ap (λ (j : ℕ). entry_of j (get_or ns k no_node)) (omega arith)

viewed_entry : (ns : List Node) (i : ℕ) (n : Node) → get_or ns i no_node ≡ n → viewed ns (entry_of i n) ≡ n
viewed_entry ns i n e = ap (λ (m : Node). let r : Node = record { name = m.name; depth = n.depth; value = m.value } in r) e

-- seen through their entries, the nodes are as they were
pub view_entries : (all : List Node) (i : ℕ) (ns : List Node) → ((k : ℕ) → k < length ns → get_or all (i + k) no_node ≡ get_or ns k no_node) → map (viewed all) (entries i ns) ≡ ns
view_entries all i [] h = refl
view_entries all i (n ∷ ns) h =
    let first : get_or all i no_node ≡ n = ap (λ (j : ℕ). get_or all j no_node) (omega arith) ∙ h 0 (omega arith) in
    ap (λ (m : Node). m ∷ map (viewed all) (entries (i + 1) ns)) (viewed_entry all i n first)
    ∙ ap (λ (l : List Node). n ∷ l) (view_entries all (i + 1) ns (λ k l. ap (λ (j : ℕ). get_or all j no_node) (omega arith) ∙ h (suc k) (omega arith)))

pub places_entries : (all : List ℕ) (i : ℕ) (ns : List Node) (ps : List ℕ) → length ps ≡ length ns → ((k : ℕ) → k < length ns → get_or all (i + k) 0 ≡ get_or ps k 0) → map (λ (s : Shown). get_or all s.at 0) (entries i ns) ≡ ps
places_entries all i [] [] e h = refl
places_entries all i [] (p ∷ ps) e h = absurd (omega arith)
places_entries all i (n ∷ ns) [] e h = absurd (omega arith)
places_entries all i (n ∷ ns) (p ∷ ps) e h =
    let first : get_or all i 0 ≡ p = ap (λ (j : ℕ). get_or all j 0) (omega arith) ∙ h 0 (omega arith) in
    ap (λ (m : ℕ). m ∷ map (λ (s : Shown). get_or all s.at 0) (entries (i + 1) ns)) first
    ∙ ap (λ (l : List ℕ). p ∷ l) (places_entries all (i + 1) ns ps (omega arith) (λ k l. ap (λ (j : ℕ). get_or all j 0) (omega arith) ∙ h (suc k) (omega arith)))

pub raised_none : (s : Shown) → raised 0 s ≡ s
raised_none s = let z : s.depth - 0 ≡ s.depth = omega arith in ap (λ (d : ℕ). let r : Shown = record { at = s.at; depth = d } in r) z
