-- A pass over the items of a text, within the limits: its outcome, and the nodes that it completes, in the order in which they end.
use Rattle.std.specs.Prelude.{ℕ, ◌+◌, Bool, true, false, ◌&&◌, ◌||◌, List, [], ◌∷◌, ◌++◌, length, ◌==◌, nat_le, slice_set, ℤ, Some, None, Option as Maybe}
use Rattle.std.proofs.Math.Option.{Option, some, none}
use Rattle.record_text.specs.declared.entry.Entry.{Entry}
use Rattle.record_text.specs.Entries.{entry, branch}
use Rattle.records.specs.Limits.{most_nodes, most_levels}
use Rattle.record_text.specs.Grammar.{Item, gap, tag, num, stray, lone, bytes}
use Rattle.record_text.specs.Reading.{Outcome, accepted, misfit, limit}
use Rattle.record_text.specs.Machine.{Open, Held, blanks, elements, value, Shape, shape, Tag, opens, closes, whole, bad, tag_of, move, items}

abbrev pub starts : Tag → Bool
starts (opens w) = true
starts (closes w) = false
starts (whole w) = true
starts bad = false

abbrev pub starts_item : Item → Bool
starts_item (gap b) = false
starts_item (tag bs) = starts (tag_of bs)
starts_item (num ds) = false
starts_item (stray b) = false
starts_item (lone bs) = false

-- no further element may begin
abbrev pub full : ℕ → ℕ → Bool
full nodes levels = nat_le most_nodes nodes || nat_le most_levels levels

abbrev pub over : Shape → Item → Bool
over s i = starts_item i && full s.nodes (length s.up)

-- an item that does not fit goes before one that is over
abbrev pub decide : ℕ → Bool → Option Shape → (Shape → Outcome) → Outcome
decide p b none f = misfit p
decide p true (some s) f = limit p
decide p false (some s) f = f s

abbrev pub at_end : ℕ → ℕ → List Open → Outcome
at_end p n [] = accepted n
at_end p n (o ∷ up) = misfit p

abbrev pub check : ℕ → Shape → List Item → Outcome
check p s [] = at_end p s.nodes s.up
check p s (i ∷ is) = decide p (over s i) (move p s i) (λ s'. check (p + length (bytes i)) s' is)

abbrev pub start : Shape
start = shape 0 [] elements

abbrev pub read : List ℕ → Outcome
read t = check 0 start (items t)

-- the value of an element that holds h
abbrev pub value_in : Held → Maybe ℤ
value_in blanks = None
value_in elements = None
value_in (value v) = Some v

-- the entry of an element that began at p and holds h
abbrev pub entry_of : ℕ → Held → ℕ → ℕ → ℕ → Entry
entry_of p h q n d = entry p q n d (value_in h)

-- a node that is complete, by its number, with its entry
abbrev pub Done : Type 0
Done = ℕ × Entry

abbrev pub closed : ℕ → List ℕ → Held → List Open → List Done
closed q w h [] = []
closed q w h (o ∷ up) = (o.node, entry_of o.place h q (length w) (length up)) ∷ []

-- what a tag from p to q completes
abbrev pub done_by_tag : ℕ → ℕ → Shape → Tag → List Done
done_by_tag p q s (opens w) = []
done_by_tag p q s (closes w) = closed q w s.held s.up
done_by_tag p q s (whole w) = (s.nodes, branch p q (length w) (length s.up)) ∷ []
done_by_tag p q s bad = []

abbrev pub done_by : ℕ → Shape → Item → List Done
done_by p s (gap b) = []
done_by p s (tag bs) = done_by_tag p (p + length (bytes (tag bs))) s (tag_of bs)
done_by p s (num ds) = []
done_by p s (stray b) = []
done_by p s (lone bs) = []

abbrev pub done_after : Option Shape → (Shape → List Done) → List Done
done_after none f = []
done_after (some s) f = f s

-- the nodes that are complete, from p on
abbrev pub done : ℕ → Shape → List Item → List Done
done p s [] = []
done p s (i ∷ is) = done_after (move p s i) (λ s'. done_by p s i ++ done (p + length (bytes i)) s' is)

-- their entries written into a list
abbrev pub written : List Done → List Entry → List Entry
written [] l = l
written (x ∷ xs) l = written xs (slice_set l x.0 x.1)

-- the nodes that a text completes
abbrev pub completed : List ℕ → List Done
completed t = done 0 start (items t)

abbrev pub entries : List ℕ → List Entry → List Entry
entries t l = written (completed t) l

-- whether the outcome is n nodes
abbrev pub accepts : Outcome → ℕ → Bool
accepts (accepted m) n = m == n
accepts (misfit p) n = false
accepts (limit p) n = false
