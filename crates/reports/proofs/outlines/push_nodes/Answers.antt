use Rattle.std.proofs.Common.{arith}
use Rattle.reports.proofs.Listing.{one_more, all_of_them}
use Rattle.reports.proofs.outlines.push_nodes.Goals as goal

pub loop-index-preserved : goal.loop-index-preserved
loop-index-preserved c = one_more c.args.text.now c.args.nodes.now c.loop-index.index _ _ _ (omega arith) c.in_ok-push_node.ensures c.loop-index.invariant

pub returns : goal.returns
returns c = all_of_them c.args.text.now c.args.nodes.now c.loop-index.index _ _ (omega arith) c.loop-index.invariant
