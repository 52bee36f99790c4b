-- A view of a record: which of its nodes are shown, and at what depths.
use Rattle.std.specs.Prelude.{◌≡◌, ℕ, ◌+◌, ◌-◌, false, List, [], ◌∷◌, map, length, Some, None, Option, slice_index, slice_index_or}
use Rattle.std.proofs.Common.{sym, ◌∙◌}
use Rattle.std.proofs.lemmas.List.{length-map}
use Rattle.records.specs.Nodes.{Node, no_node, depth_at, value_at, named_at}
use Rattle.layers.specs.Layers.{cut_part}
use Rattle.layers.specs.declared.view.Shown.{Shown}

-- the node that an entry shows, of the nodes below
abbrev pub viewed : List Node → Shown → Node
viewed ns s = record { name = (slice_index_or ns s.at no_node).name; depth = s.depth; value = value_at ns s.at }

abbrev pub view_nodes : List Node → List Shown → List Node
view_nodes ns ss = map (viewed ns) ss

abbrev pub view_places : List ℕ → List Shown → List ℕ
view_places ps ss = map (λ s. slice_index ps s.at) ss

-- (This proof stands here since a view gives it as a term of its code.)
pub view_level : (ns : List Node) (ss : List Shown) (ps : List ℕ) → length (view_places ps ss) ≡ length (view_nodes ns ss)
view_level ns ss ps = length-map ss (λ s. slice_index ps s.at) ∙ sym (length-map ss (viewed ns))

-- what is known of node n of a view: that there is none, or what it shows
abbrev pub Seen : List Node → List ℕ → List Shown → ℕ → Option Shown → Type 0
Seen ns ps ss n None =
    (slice_index_or (view_nodes ns ss) n no_node ≡ no_node)
    × (slice_index (view_places ps ss) n ≡ 0)
    × ((w : List ℕ) → named_at (view_nodes ns ss) n w ≡ false)
Seen ns ps ss n (Some s) =
    (slice_index_or (view_nodes ns ss) n no_node ≡ viewed ns s)
    × (slice_index (view_places ps ss) n ≡ slice_index ps s.at)
    × ((w : List ℕ) → named_at ns s.at w ≡ named_at (view_nodes ns ss) n w)

-- the entry of a node that is shown as it is
abbrev pub entry_of : ℕ → Node → Shown
entry_of i n = record { at = i; depth = n.depth }

-- an entry for each node, the first of which has the number i
abbrev pub entries : ℕ → List Node → List Shown
entries i [] = []
entries i (n ∷ ns) = entry_of i n ∷ entries (i + 1) ns

-- an entry shown d higher up: its depth is lowered by d
abbrev pub raised : ℕ → Shown → Shown
raised d s = record { at = s.at; depth = s.depth - d }

-- the entries of the cut at n
abbrev pub cut_entries : ℕ → List Node → List Shown
cut_entries n ns = map (raised (depth_at ns n)) (cut_part n ns (entries 0 ns))
