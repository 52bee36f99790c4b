use Rattle.std.proofs.Common.{◌≡◌, ◌-◌, ◌++◌, length}
use Rattle.reports.specs.Rows.{found, record_lines}
use Rattle.reports.proofs.rows.push_lines.Given as goal

-- what is written so far and the lines to come are the whole
abbrev pub invariant-loop-n : goal.invariant-loop-n
invariant-loop-n g l =
    let ns = g.R.Record.nodes l.source in
    let ps = g.R.Record.places l.source in
    let f = found (g.N.Names.stands l.names) in
    l.report ++ record_lines f ns ps l.n (length ns - l.n) ≡ l.initial.report ++ record_lines f ns ps 0 (length ns)
