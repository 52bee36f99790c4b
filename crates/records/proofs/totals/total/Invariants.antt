use Rattle.std.proofs.Common.{◌≡◌, ◌*◌, ◌≤◌, drop, ◌+ℤ◌, nat_abs}
use Rattle.records.specs.Limits.{greatest_value}
use Rattle.records.specs.Sums.{total_of}
use Rattle.records.proofs.totals.total.Given as goal

abbrev pub invariant-loop-n : goal.invariant-loop-n
invariant-loop-n g l =
    let ns = g.R.Record.nodes l.source in
    (l.sum +ℤ total_of (drop l.n ns) ≡ total_of ns) × (nat_abs l.sum ≤ greatest_value * l.n)
