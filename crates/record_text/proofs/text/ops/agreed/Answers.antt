use Rattle.std.proofs.Common.{sym, subst}
use Rattle.record_text.specs.Laying.{Settled, refusal_of}
use Rattle.record_text.specs.Passing.{Agreed}
use Rattle.record_text.proofs.Opens.{error_from}
use Rattle.record_text.proofs.Lays.{unlaid_by, agreeing, settled_agreeing}
use Rattle.record_text.proofs.text.ops.agreed.Goals as goal

pub returns-in_err-nodes : goal.returns-in_err-nodes
returns-in_err-nodes c =
    let t = c.args.text.now in
    let l = c.args.list.now in
    let e = c.in_err-nodes.field-0.0 in
    let x = unlaid_by t l e c.in_err-nodes.ensures in
    let q = sym (error_from c.from_residual.result e c.from_residual.ensures.1) in
    record { agreed = subst (Agreed t l) q x.0; settled = subst (λ r. Settled t l (refusal_of r)) q x.1 }

pub returns : goal.returns
returns c =
    let t = c.args.text.now in
    let l = c.args.list.now in
    let n = c.in_ok-nodes.nodes in
    let x = c.in_ok-nodes.ensures in
    record { agreed = agreeing t l n (sym x.0) x.1 x.2; settled = settled_agreeing t l n (sym x.0) x.1 x.2 }
