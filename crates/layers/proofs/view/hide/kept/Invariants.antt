use Rattle.std.proofs.Common.{◌≡◌, ◌++◌, vec_items}
use Rattle.layers.specs.Layers.{without}
use Rattle.layers.specs.Views.{entries}
use Rattle.layers.proofs.Hiding.{to_come}
use Rattle.layers.proofs.view.hide.kept.Given as goal

abbrev pub invariant-loop-n : goal.invariant-loop-n
invariant-loop-n g l =
    let ns = g.R.Record.nodes l.below in
    vec_items l.shown ++ to_come l.name ns l.top l.n ≡ without l.name ns (entries 0 ns)
