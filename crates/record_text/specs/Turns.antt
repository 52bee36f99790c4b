-- What the reader says of an item, of a tag, and of the end.
use Rattle.std.specs.Prelude.{◌≡◌, ℕ, Bool, true, false, ◌&&◌, List, length, Some, None, Ok, Err, Option as Maybe, Result}
use Rattle.std.specs.Option.{option_to_list}
use Rattle.std.proofs.Math.Option.{Option, some, none}
use Rattle.refusals.specs.declared.Refusal.{Refusal}
use Rattle.refusals.specs.declared.Refusal.TheVariants as refusal
use Rattle.record_text.specs.Grammar.{Item}
use Rattle.record_text.specs.Machine.{Shape, Tag, free, move, move_tag}
use Rattle.record_text.specs.Reading.{Outcome, accepted, misfit, limit}
use Rattle.record_text.specs.Pass.{starts, full, over, at_end, Done, done_by, done_by_tag}

-- an outcome, as the code answers it
abbrev pub outcome : Outcome → Result ℕ Refusal
outcome (accepted n) = Ok n
outcome (misfit p) = Err (refusal.Misfit p)
outcome (limit p) = Err (refusal.Limit p)

-- the item at p, which may be over, and moves the reader if it fits: what does not fit goes before what is over
abbrev pub ruling : ℕ → Bool → Option Shape → Result Shape Refusal
ruling p b none = Err (refusal.Misfit p)
ruling p true (some s) = Err (refusal.Limit p)
ruling p false (some s) = Ok s

-- one item at p: the shape s' afterwards, and the node that it completes, or the refusal
abbrev pub Passed : ℕ → Bool → Option Shape → List Done → Shape → Result (Maybe Done) Refusal → Type 0
Passed p b o ds s' (Ok d) = (ruling p b o ≡ Ok s') × (ds ≡ option_to_list d)
Passed p b o ds s' (Err e) = ruling p b o ≡ Err e

-- the answer of what never completes a node, or always one, as that of any item
abbrev pub no_node : Result (Unit {0}) Refusal → Result (Maybe Done) Refusal
no_node (Ok u) = Ok None
no_node (Err e) = Err e

abbrev pub one_node : Result Done Refusal → Result (Maybe Done) Refusal
one_node (Ok d) = Ok (Some d)
one_node (Err e) = Err e

-- whether an element may begin at p
abbrev pub Admitted : ℕ → Shape → Result (Unit {0}) Refusal → Type 0
Admitted p s (Ok u) = (full s.nodes (length s.up) ≡ false) × ((o : Option Shape) → free s.held o ≡ o)
Admitted p s (Err e) = (s' : Shape) → ruling p (full s.nodes (length s.up)) (free s.held (some s')) ≡ Err e

-- the tag x, from p to q
abbrev pub WentTag : ℕ → ℕ → Shape → Tag → Shape → Result (Maybe Done) Refusal → Type 0
WentTag p q s x s' r = Passed p (starts x && full s.nodes (length s.up)) (move_tag p s x) (done_by_tag p q s x) s' r

abbrev pub Went : ℕ → Shape → Item → Shape → Result (Maybe Done) Refusal → Type 0
Went p s i s' r = Passed p (over s i) (move p s i) (done_by p s i) s' r

-- the end of the text, at p
abbrev pub Ended : ℕ → Shape → Result (Unit {0}) Refusal → Type 0
Ended p s (Ok u) = at_end p s.nodes s.up ≡ accepted s.nodes
Ended p s (Err e) = outcome (at_end p s.nodes s.up) ≡ Err e
