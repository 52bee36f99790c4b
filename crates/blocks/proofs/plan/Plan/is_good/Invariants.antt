use Rattle.std.proofs.Common.{◌≡◌, ◌-◌}
use Rattle.blocks.specs.Places.{node_count}
use Rattle.blocks.proofs.Runs.{run}
use Rattle.blocks.proofs.plan.Plan.is_good.Given as goal

abbrev pub invariant-loop-bytes : goal.invariant-loop-bytes
invariant-loop-bytes l =
    let bs = l.self.block.now in
    run bs 0 0 (node_count bs) ≡ run bs l.room l.bytes-index (node_count bs - l.bytes-index)
