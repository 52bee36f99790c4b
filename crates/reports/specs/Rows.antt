-- The lines of any record, by its nodes and their places. A record can be asked whether a node has a name, not what its name is, so
-- the code looks the name up by the node's place in what the record comes from (`f p` is the name found at place p).
use Rattle.std.specs.Prelude.{ℕ, zero, suc, ◌+◌, cond, List, [], ◌++◌, length, codes, slice_index, slice_index_or}
use Rattle.records.specs.Nodes.{Node, no_node, depth_at, value_at, named_at}
use Rattle.reports.specs.Lines.{row, count_line}

-- a name for node k of the nodes ns with the places ps
abbrev pub Naming : Type 0
Naming = List Node → List ℕ → ℕ → List ℕ

-- the node's own name
abbrev pub own : Naming
own ns ps k = (slice_index_or ns k no_node).name

-- the name that is found, if it is the node's own
abbrev pub found : (ℕ → List ℕ) → Naming
found f ns ps k = cond (named_at ns k (f (slice_index ps k))) (f (slice_index ps k)) (codes "?")

-- the line of node k
abbrev pub record_line : Naming → List Node → List ℕ → ℕ → List ℕ
record_line g ns ps k = row k (slice_index ps k) (depth_at ns k) (g ns ps k) (value_at ns k)

-- m lines, from that of node k on
abbrev pub record_lines : Naming → List Node → List ℕ → ℕ → ℕ → List ℕ
record_lines g ns ps k zero = []
record_lines g ns ps k (suc m) = record_line g ns ps k ++ record_lines g ns ps (k + 1) m

-- all nodes, and how many there are
abbrev pub record_listing : Naming → List Node → List ℕ → List ℕ
record_listing g ns ps = record_lines g ns ps 0 (length ns) ++ count_line (length ns)
