use Rattle.std.proofs.Common.{◌<◌, ◌++◌, [], ◌∷◌, length, get_or, vec_items, ap, ◌∙◌, arith}
use Rattle.records.specs.Nodes.{no_node}
use Rattle.layers.specs.declared.view.Shown.{Shown}
use Rattle.layers.specs.Views.{entry_of}
use Rattle.layers.proofs.Hiding.{step_shows, step_hides}
use Rattle.layers.proofs.Entries.{raised_none}
use Rattle.layers.proofs.view.hide.kept.Goals as goal
use Rattle.layers.proofs.view.hide.kept.Goals.{then-is_none+in_ok-push, else-is_none}

pub loop-n-preserved : goal.loop-n-preserved
loop-n-preserved g c =
    let ns = g.R.Record.nodes c.args.below.now in
    let i = c.loop-n.n in
    let h : i < length ns = omega (arith, c.count-n-end.ensures, c.loop-n-test.true) in
    elim c.if-is_none.branch [
      | then-is_none+in_ok-push w ↦
          step_shows c.args.name.now ns (vec_items c.loop-n.shown) (vec_items c.if-is_none.shown) c.loop-n.top c.hidden_by-top.result i c.loop-n.invariant h c.hidden_by-top.ensures
          w.if-is_none.ensures (ap vec_items w.shown-is ∙ (w.in_ok-push.ensures.items ∙ ap (λ (s : Shown). vec_items c.loop-n.shown ++ s ∷ []) (w.raise.ensures ∙ raised_none (entry_of i (get_or ns i no_node)))))
      | else-is_none w ↦
          step_hides c.args.name.now ns (vec_items c.loop-n.shown) (vec_items c.if-is_none.shown) c.loop-n.top c.hidden_by-top.result i c.loop-n.invariant h c.hidden_by-top.ensures
          w.if-is_none.ensures (ap vec_items w.shown-is)
    ]
