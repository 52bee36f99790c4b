use Rattle.std.proofs.Common.{◌≡◌, true}
use Rattle.record_text.specs.Agree.{Agrees}
use Rattle.record_text.specs.Pass.{read, completed}
use Rattle.record_text.specs.Yielding.{pending, coming, bytes_left}
use Rattle.record_text.proofs.opening.compared.Given as goal

abbrev pub invariant-loop-node : goal.invariant-loop-node
invariant-loop-node l = record {
  pending : pending l.reader ≡ read l.text;
  all : (l.same ≡ true) × Agrees (coming l.reader) l.list → Agrees (completed l.text) l.list;
  back : Agrees (completed l.text) l.list → (l.same ≡ true) × Agrees (coming l.reader) l.list;
}

abbrev pub decreases-loop-node : goal.decreases-loop-node
decreases-loop-node l = bytes_left l.reader
