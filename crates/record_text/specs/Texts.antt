-- The nodes and the places that the entries of a text tell.
use Rattle.std.specs.Prelude.{◌≡◌, ℕ, ◌+◌, ◌≤◌, true, false, List, map, length, take, drop, Some, None, Option, slice_index, slice_index_or}
use Rattle.std.proofs.Common.{sym, ◌∙◌, arith}
use Rattle.std.proofs.lemmas.List.{length-map}
use Rattle.records.specs.Limits.{most_nodes}
use Rattle.std.specs.Str.{bytes_eq}
use Rattle.records.specs.Nodes.{Node, Shape, no_node, named_at, shaped}
use Rattle.record_text.specs.declared.entry.Entry.{Entry}

-- the name stands in the text, behind the node's first `<`
abbrev pub text_node : List ℕ → Entry → Node
text_node t e = record { name = take e.name_len (drop (e.start + 1) t); depth = e.depth; value = e.value }

abbrev pub text_nodes : List ℕ → List Entry → List Node
text_nodes t es = map (text_node t) es

abbrev pub text_places : List Entry → List ℕ
text_places es = map (λ e. e.start) es

-- (The two lemmas stand here and not in proofs/ since they are terms of the code: members of an impl.)
pub text_shape : (t : List ℕ) (es : List Entry) → length es ≤ most_nodes → shaped 0 (text_nodes t es) ≡ true → Shape (text_nodes t es)
text_shape t es few s = let m = length-map es (text_node t) in (omega arith, s)

pub text_level : (t : List ℕ) (es : List Entry) → length (text_places es) ≡ length (text_nodes t es)
text_level t es = length-map es (λ (e : Entry). e.start) ∙ sym (length-map es (text_node t))

-- what is known of node n: that there is none, or what its entry tells
abbrev pub Found : List ℕ → List Entry → ℕ → Option Entry → Type 0
Found t es n None =
    (slice_index_or (text_nodes t es) n no_node ≡ no_node)
    × (slice_index (text_places es) n ≡ 0)
    × ((w : List ℕ) → named_at (text_nodes t es) n w ≡ false)
Found t es n (Some e) =
    (slice_index_or (text_nodes t es) n no_node ≡ text_node t e)
    × (slice_index (text_places es) n ≡ e.start)
    × ((w : List ℕ) → named_at (text_nodes t es) n w ≡ bytes_eq (text_node t e).name w)
