use Rattle.std.proofs.Common.{◌≡◌}
use Rattle.record_text.specs.Pass.{read, written, entries}
use Rattle.record_text.specs.Yielding.{pending, coming, bytes_left}
use Rattle.record_text.proofs.opening.fill.Given as goal

abbrev pub invariant-loop-node : goal.invariant-loop-node
invariant-loop-node l = record {
  pending : pending l.reader ≡ read l.text;
  filled : written (coming l.reader) l.list ≡ entries l.text l.initial.list;
}

abbrev pub decreases-loop-node : goal.decreases-loop-node
decreases-loop-node l = bytes_left l.reader
