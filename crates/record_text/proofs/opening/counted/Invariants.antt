use Rattle.std.proofs.Common.{◌≡◌}
use Rattle.record_text.specs.Pass.{read}
use Rattle.record_text.specs.Yielding.{pending, bytes_left}
use Rattle.record_text.proofs.opening.counted.Given as goal

abbrev pub invariant-loop : goal.invariant-loop
invariant-loop l = pending l.reader ≡ read l.text

abbrev pub decreases-loop : goal.decreases-loop
decreases-loop l = bytes_left l.reader
