use Rattle.std.proofs.Common.{◌≡◌, List, vec_items, sym, subst}
use Rattle.layers.specs.Layers.{Cuts}
use Rattle.records.specs.Nodes.{Shape}
use Rattle.layers.specs.Views.{cut_entries, view_nodes, view_places}
use Rattle.layers.specs.declared.view.Shown.{Shown}
use Rattle.layers.proofs.Cutting.{cut_view_shape, cuts}
use Rattle.layers.proofs.view.View.cut.Goals as goal

pub invariant_of-result : goal.invariant_of-result
invariant_of-result g c =
    let ns = g.R.Record.nodes c.args.below.now in
    let n = c.args.n in
    let s = g.R.Record.shape c.args.below.now in
    let items = vec_items c.in_ok-shown.shown in
    let e : items ≡ cut_entries n ns = c.in_ok-shown.ensures in
    record { in_shape = subst (λ (l : List Shown). Shape (view_nodes ns l)) (sym e) (cut_view_shape n ns s) }

pub returns : goal.returns
returns g c =
    let ns = g.R.Record.nodes c.args.below.now in
    let ps = g.R.Record.places c.args.below.now in
    let n = c.args.n in
    let e : vec_items c.in_ok-shown.shown ≡ cut_entries n ns = c.in_ok-shown.ensures in
    subst (λ (l : List Shown). Cuts n ns ps (view_nodes ns l) (view_places ps l)) (sym e)
    (cuts n ns ps (g.R.Record.placed c.args.below.now))
