use Rattle.std.proofs.Common.{vec_items}
use Rattle.layers.proofs.Hiding.{hide_shape, hides}
use Rattle.layers.proofs.view.View.hide.Goals as goal

pub invariant_of-result : goal.invariant_of-result
invariant_of-result g c =
    let ns = g.R.Record.nodes c.args.below.now in
    let s = g.R.Record.shape c.args.below.now in
    record { in_shape = hide_shape c.args.name.now ns (vec_items c.in_ok-shown.shown) c.in_ok-shown.ensures s }

pub returns : goal.returns
returns g c =
    let below = c.args.below.now in
    hides c.args.name.now (g.R.Record.nodes below) (vec_items c.in_ok-shown.shown) c.in_ok-shown.ensures (g.R.Record.places below) (g.R.Record.placed below)
