use Rattle.std.proofs.Common.{◌<◌, length, sym, ◌∙◌, arith, w32, SFits, rules}
use Rattle.std.proofs.lemmas.Int.{to_z-of_z}
use Rattle.records.proofs.Totaling.{leaf_fits, leaf_more, branch_more, total_end}
use Rattle.records.proofs.totals.total.Goals as goal
use Rattle.records.proofs.totals.total.Goals.{in-Some, in_default}

pub overflow_add-sum : goal.overflow_add-sum
overflow_add-sum g c =
    let ns = g.R.Record.nodes c.args.source.now in
    let h : c.loop-n.n < length ns = omega (arith, c.loop-n-test.true, c.count-n-end.ensures) in
    let f : SFits w32 c.in-Some.value = search rules in
    leaf_fits ns c.loop-n.n (g.R.Record.shape c.args.source.now) h _ c.from-sum.result c.in-Some.value c.loop-n.invariant.1 (sym c.value.ensures ∙ c.in-Some.is) (c.from-sum.ensures ∙ to_z-of_z w32 c.in-Some.value f)

pub loop-n-preserved : goal.loop-n-preserved
loop-n-preserved g c =
    let ns = g.R.Record.nodes c.args.source.now in
    let h : c.loop-n.n < length ns = omega (arith, c.loop-n-test.true, c.count-n-end.ensures) in
    elim c.match-value.branch [
      | in-Some w ↦
          let f : SFits w32 w.in-Some.value = search rules in
          leaf_more ns c.loop-n.n (g.R.Record.shape c.args.source.now) h _ w.from-sum.result w.in-Some.value c.loop-n.invariant.1 (sym c.value.ensures ∙ w.in-Some.is) (w.from-sum.ensures ∙ to_z-of_z w32 w.in-Some.value f) _ _ c.loop-n.invariant.0 w.sum-is
      | in_default w ↦ branch_more ns c.loop-n.n h _ _ _ c.loop-n.invariant.1 (sym c.value.ensures ∙ w.in_default.is) c.loop-n.invariant.0 w.sum-is
    ]

pub returns : goal.returns
returns g c =
    let ns = g.R.Record.nodes c.args.source.now in
    sym (total_end ns c.loop-n.n _ (omega (arith, c.loop-n-test.false, c.count-n-end.ensures))) ∙ c.loop-n.invariant.0
