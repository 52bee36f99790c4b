use Rattle.std.proofs.Common.{vec_items}
use Rattle.reports.proofs.Sourcing.{block_taken}
use Rattle.reports.proofs.sources.outline_block.Goals as goal

pub returns-in-Ok : goal.returns-in-Ok
returns-in-Ok c =
    block_taken vec_items c.list_asked.result c.args.asked c.args.block.now c.take.new.self.plan.block.now c.in-Ok.ensures.0 c.in-Ok.ensures.1 c.list_asked.ensures
