use Rattle.std.proofs.Common.{length, arith}
use Rattle.reports.specs.Rows.{found}
use Rattle.reports.proofs.RecordLines.{one_line_more, all_lines}
use Rattle.reports.proofs.rows.push_lines.Goals as goal

pub loop-n-preserved : goal.loop-n-preserved
loop-n-preserved g c =
    let ns = g.R.Record.nodes c.args.source.now in
    one_line_more (found (g.N.Names.stands c.args.names.now)) ns (g.R.Record.places c.args.source.now) (length ns) c.loop-n.n c.loop-n.report _ c.loop-n.invariant
    (omega (arith, c.count-n-end.ensures, c.loop-n-test.true)) c.push_record_line.new.report c.in_ok-push_record_line.ensures

pub returns : goal.returns
returns g c =
    let ns = g.R.Record.nodes c.args.source.now in
    all_lines (found (g.N.Names.stands c.args.names.now)) ns (g.R.Record.places c.args.source.now) (length ns) c.loop-n.n c.loop-n.report _ c.loop-n.invariant
    (omega (arith, c.count-n-end.ensures, c.loop-n-test.false))
