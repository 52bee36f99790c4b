-- The laws of the layers, each held by the contract of a function of its own.
use Rattle.std.specs.Prelude.{◌≡◌, ℕ, ◌+◌, ◌<◌, ◌≤◌, false, List, [], length}
use Rattle.lexical.specs.Words.{word}
use Rattle.records.specs.Nodes.{Node, Shape, depth_at}
use Rattle.layers.specs.Layers.{Kept, Taken, Selected, without, cut_part, cut_nodes}

-- what is selected is one list
abbrev pub OneSelection : Type 0
OneSelection =
    ((w : List ℕ) (ns ms ls : List Node) → Selected (Kept w ns) 0 ns ms → Selected (Kept w ns) 0 ns ls → ms ≡ ls)
    × ((n : ℕ) (ns ms ls : List Node) → Selected (Taken n ns) 0 ns ms → Selected (Taken n ns) 0 ns ls → ms ≡ ls)

-- the functions give what the relations select, of the nodes and of their places
abbrev pub HidingKeeps : Type 0
HidingKeeps =
    (w : List ℕ) (ns : List Node) (ps : List ℕ) → length ps ≡ length ns →
    Selected (Kept w ns) 0 ns (without w ns ns) × Selected (Kept w ns) 0 ps (without w ns ps)

abbrev pub CuttingTakes : Type 0
CuttingTakes =
    (n : ℕ) (ns : List Node) (ps : List ℕ) → length ps ≡ length ns → Selected (Taken n ns) 0 ns (cut_part n ns ns) × Selected (Taken n ns) 0 ps (cut_part n ns ps)

-- a name that is no word hides nothing
abbrev pub NonWordHidesNothing : Type 0
NonWordHidesNothing =
    (w : List ℕ) (ns : List Node) (ps : List ℕ) → Shape ns → length ps ≡ length ns → word w ≡ false → (without w ns ns ≡ ns) × (without w ns ps ≡ ps)

-- hiding twice is hiding once
abbrev pub HiddenOnce : Type 0
HiddenOnce = (w : List ℕ) (ns : List Node) → without w (without w ns ns) (without w ns ns) ≡ without w ns ns

-- the nodes that are kept and those that are hidden are together as many as there are
abbrev pub HiddenAndKept : Type 0
HiddenAndKept =
    (w : List ℕ) (ns : List Node) → (ls : List Node) × Selected (λ i. Kept w ns i → ⊥) 0 ns ls × (length (without w ns ns) + length ls ≡ length ns)

-- a record of one tree, cut at its first node, is that record
abbrev pub CutWhole : Type 0
CutWhole =
    (ns : List Node) (ps : List ℕ) → Shape ns → length ps ≡ length ns → ((k : ℕ) → 0 < k → k < length ns → 0 < depth_at ns k) →
    (cut_nodes 0 ns ≡ ns) × (cut_part 0 ns ps ≡ ps)

-- cut at a node that is not there, nothing is left
abbrev pub CutNothing : Type 0
CutNothing = (n : ℕ) (ns : List Node) (ps : List ℕ) → length ns ≤ n → length ps ≡ length ns → (cut_nodes n ns ≡ []) × (cut_part n ns ps ≡ [])
