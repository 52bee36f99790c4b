use Rattle.std.proofs.Common.{ap, ◌∙◌, arith}
use Rattle.std.proofs.lemmas.Grind.{common_steps}
use Rattle.pieces.specs.Tokens.{pieces_of}
use Rattle.form_text.specs.Reads.{said}
use Rattle.form_text.proofs.Finding.{said_rule, rule_unread}
use Rattle.form_text.proofs.texts.read_rule.Goals as goal

pub returns-in_err-rule : goal.returns-in_err-rule
returns-in_err-rule c =
    rule_unread c.args.text.now (pieces_of c.deref.result.now) c.in_ok-tokens.ensures.0 (ap pieces_of c.deref.ensures.value ∙ c.in_ok-tokens.ensures.1)
    c.from_residual-in_err-rule.result c.in_err-rule.field-0.0 c.from_residual-in_err-rule.ensures.1 c.in_err-rule.ensures

pub returns-then-low_above_high : goal.returns-then-low_above_high
returns-then-low_above_high c = (said c.in_ok-rule.rule, grind (arith, common_steps, said_rule), c.if-low_above_high.ensures)
