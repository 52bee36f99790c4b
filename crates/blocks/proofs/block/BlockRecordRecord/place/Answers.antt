use Rattle.blocks.proofs.Findings.{place_here, place_past}
use Rattle.blocks.proofs.block.BlockRecordRecord.place.Goals as goal

pub returns-then-n-count : goal.returns-then-n-count
returns-then-n-count c = place_here c.args.self.now.plan.block.now c.args.n c.count.ensures c.if-n-count.true

pub returns-else-n-count : goal.returns-else-n-count
returns-else-n-count c = place_past c.args.self.now.plan.block.now c.args.n c.count.ensures c.if-n-count.false
