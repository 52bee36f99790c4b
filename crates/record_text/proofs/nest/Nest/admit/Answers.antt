use Rattle.std.proofs.Common.{true, false, refl}
use Rattle.lent.specs.Stacks.{held}
use Rattle.record_text.proofs.Nests.{full_ups, free_held}
use Rattle.record_text.proofs.nest.Nest.admit.Goals as goal

pub returns-then-is_full : goal.returns-then-is_full
returns-then-is_full c = λ s'.
    let s = c.args.self.now in
    rw (full_ups s.nodes (held s.tags) true c.if-is_full.ensures, free_held s.held _ c.in_default.not-Value) refl

pub returns : goal.returns
returns c =
    let s = c.args.self.now in
    (full_ups s.nodes (held s.tags) false c.if-is_full.ensures, λ o. free_held s.held o c.in_default.not-Value)
