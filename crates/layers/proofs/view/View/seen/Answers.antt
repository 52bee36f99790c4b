use Rattle.std.proofs.Common.{◌≡◌, List, length, get_or, ltb, vec_items, sym, ap, ◌∙◌, subst}
use Rattle.std.specs.Option.{IfSome}
use Rattle.layers.specs.Views.{Seen}
use Rattle.layers.specs.declared.view.Shown.{Shown}
use Rattle.layers.proofs.Seeing.{seen}
use Rattle.layers.proofs.view.View.seen.Goals as goal

pub returns : goal.returns
returns g c =
    let v = c.args.self.now in
    let ns = g.R.Record.nodes v.below.now in
    let ps = g.R.Record.places v.below.now in
    let items = c.deref.ensures.value in
    subst (Seen ns ps (vec_items v.shown) c.args.n) (sym c.copied.ensures)
    (seen ns ps (vec_items v.shown) c.args.n c.get.result
    (c.get.ensures.lookup.0 ∙ ap (λ (l : List Shown). ltb c.args.n (length l)) items)
    (subst (λ (l : List Shown). IfSome c.get.result (λ x. x.now ≡ get_or l c.args.n x.now)) items c.get.ensures.lookup.1) v.in_shape)
