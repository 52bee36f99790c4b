use Rattle.std.proofs.Common.{sym, ◌∙◌}
use Rattle.blocks.specs.Shaping.{block_length}
use Rattle.blocks.proofs.block.BlockRecordRecord.count.Goals as goal

pub returns : goal.returns
returns c = c.count.ensures ∙ sym (block_length c.args.self.now.plan.block.now)
