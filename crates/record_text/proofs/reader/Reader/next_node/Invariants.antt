use Rattle.std.proofs.Common.{◌≡◌, ◌≤◌}
use Rattle.record_text.specs.Yielding.{pending, coming, bytes_left}
use Rattle.record_text.proofs.reader.Reader.next_node.Given as goal

abbrev pub invariant-loop-piece : goal.invariant-loop-piece
invariant-loop-piece l = record {
  pending : pending l.self ≡ pending l.initial.self;
  coming : coming l.self ≡ coming l.initial.self;
  fewer : bytes_left l.self ≤ bytes_left l.initial.self;
}

abbrev pub decreases-loop-piece : goal.decreases-loop-piece
decreases-loop-piece l = bytes_left l.self
