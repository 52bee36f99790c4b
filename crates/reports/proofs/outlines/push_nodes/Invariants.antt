use Rattle.std.proofs.Common.{◌≡◌, ◌++◌, drop}
use Rattle.reports.specs.Lines.{node_lines}
use Rattle.reports.proofs.outlines.push_nodes.Given as goal

-- what is written so far and the lines to come are the whole
abbrev pub invariant-loop-index : goal.invariant-loop-index
invariant-loop-index l = l.report ++ node_lines l.text l.index (drop l.index l.nodes) ≡ l.initial.report ++ node_lines l.text 0 l.nodes
