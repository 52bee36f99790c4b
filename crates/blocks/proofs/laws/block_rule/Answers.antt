use Rattle.blocks.proofs.Rules.{block_rule}
use Rattle.blocks.proofs.laws.block_rule.Goals as goal

pub returns : goal.returns
returns c = block_rule
