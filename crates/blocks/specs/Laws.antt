-- What is computed by places is the layout.
use Rattle.std.specs.Prelude.{◌≡◌, ℕ, true, List}
use Rattle.records.specs.Nodes.{Node}
use Rattle.blocks.specs.Layout.{Block}
use Rattle.blocks.specs.Places.{block_nodes, good_block}

-- A block is good exactly when the layout derives it, and the nodes that it stands for are those derived. So it stands for one list of nodes.
abbrev pub BlockRule : Type 0
BlockRule =
    (bs : List ℕ) (ns : List Node) →
    ((good_block bs ≡ true) × (block_nodes bs ≡ ns) → Block bs ns)
    × (Block bs ns → (good_block bs ≡ true) × (block_nodes bs ≡ ns))
