use Rattle.std.proofs.Common.{◌<◌, ◌≤◌, true, false, sym, ◌∙◌, arith}
use Rattle.blocks.specs.Places.{node_count}
use Rattle.blocks.proofs.Runs.{plan_decides, plan_room, run_done, run_fails, run_next}
use Rattle.blocks.proofs.plan.Plan.is_good.Goals as goal

pub returns-in_default : goal.returns-in_default
returns-in_default c =
    let x = c.args.self.now in
    let i = c.loop-bytes.bytes-index in
    let counts = x.counts in
    let there : i < node_count x.block.now = omega (arith, c.loop-bytes-test.true) in
    let room = plan_room x i c.loop-bytes.room c.room_after.result there c.room_after.ensures in
    plan_decides x false (c.loop-bytes.invariant ∙ run_fails x.block.now c.loop-bytes.room i (node_count x.block.now) there (sym room ∙ c.in_default.is))

pub loop-bytes-preserved : goal.loop-bytes-preserved
loop-bytes-preserved c =
    let x = c.args.self.now in
    let i = c.loop-bytes.bytes-index in
    let counts = x.counts in
    let there : i < node_count x.block.now = omega (arith, c.loop-bytes-test.true) in
    let room = plan_room x i c.loop-bytes.room c.room_after.result there c.room_after.ensures in
    c.loop-bytes.invariant ∙ run_next x.block.now c.loop-bytes.room i (node_count x.block.now) c.in-Some.next there (sym room ∙ c.in-Some.is)

pub returns : goal.returns
returns c =
    let x = c.args.self.now in
    let counts = x.counts in
    let done : node_count x.block.now ≤ c.loop-bytes.bytes-index = omega (arith, c.loop-bytes-test.false) in
    plan_decides x true (c.loop-bytes.invariant ∙ run_done x.block.now c.loop-bytes.room c.loop-bytes.bytes-index (node_count x.block.now) done)
