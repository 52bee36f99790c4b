use Rattle.std.proofs.Common.{sym, subst}
use Rattle.record_text.specs.Laying.{Settled, refusal_of}
use Rattle.record_text.proofs.Opens.{error_from}
use Rattle.record_text.proofs.text.TextRecord.lay.Goals as goal

pub returns-in_err-nodes-clause-settled : goal.returns-in_err-nodes-clause-settled
returns-in_err-nodes-clause-settled c =
    let q = error_from c.from_residual.result c.in_err-nodes.field-0.0 c.from_residual.ensures.1 in
    subst (λ r. Settled c.args.text.now c.args.list.now (refusal_of r)) (sym q) c.in_err-nodes.ensures.settled

pub returns-clause-settled : goal.returns-clause-settled
returns-clause-settled c = c.in_ok-nodes.ensures.settled
