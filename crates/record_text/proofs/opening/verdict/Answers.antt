use Rattle.std.proofs.Common.{sym, refl, subst}
use Rattle.record_text.specs.Passing.{Verdict}
use Rattle.record_text.specs.Pass.{read}
use Rattle.record_text.proofs.Opens.{error_from, counted, refused, too_short, filled}
use Rattle.record_text.proofs.opening.verdict.Goals as goal

pub returns-in_err-nodes : goal.returns-in_err-nodes
returns-in_err-nodes c =
    let t = c.args.text.now in
    let l = c.args.list.now in
    let e = c.in_err-nodes.field-0.0 in
    subst (Verdict t l) (sym (error_from c.from_residual.result e c.from_residual.ensures.1)) (refused t l e c.in_err-nodes.ensures, refl)

pub returns-then-nodes-list : goal.returns-then-nodes-list
returns-then-nodes-list c = (too_short c.args.text.now c.args.list.now c.in_ok-nodes.nodes c.in_ok-nodes.ensures c.if-nodes-list.true, refl)

pub returns : goal.returns
returns c =
    let t = c.args.text.now in
    let n = c.in_ok-nodes.nodes in
    let e = c.in_ok-nodes.ensures in
    ((n, counted (read t) n e), filled t c.args.list.now n e c.if-nodes-list.false)
