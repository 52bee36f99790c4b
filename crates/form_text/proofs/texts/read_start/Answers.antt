use Rattle.std.proofs.Common.{ap, ◌∙◌}
use Rattle.pieces.specs.Tokens.{pieces_of}
use Rattle.form_text.proofs.Finding.{start_unread}
use Rattle.form_text.proofs.texts.read_start.Goals as goal

pub returns-in_err-start_of : goal.returns-in_err-start_of
returns-in_err-start_of c =
    start_unread c.args.text.now (pieces_of c.deref.result.now) c.in_ok-tokens.ensures.0 (ap pieces_of c.deref.ensures.value ∙ c.in_ok-tokens.ensures.1)
    c.from_residual-in_err-start_of.result c.in_err-start_of.field-0.0 c.from_residual-in_err-start_of.ensures.1 c.in_err-start_of.ensures
