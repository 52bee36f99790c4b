use Rattle.pieces.proofs.Lexing.{no_pieces, leads_word, leads_number, leads_blank, leads_sign}
use Rattle.pieces.proofs.cutting.lexeme.Goals as goal

pub returns-in_err-first : goal.returns-in_err-first
returns-in_err-first c = rw c.from_residual.ensures (no_pieces c.args.text.now c.in_err-first.ensures.cases)

pub returns-in-Letter : goal.returns-in-Letter
returns-in-Letter c = leads_word c.in_ok-first.ensures.cases.0 c.kind_of.ensures c.in-Letter.is c.run_of.ensures.whole c.run_of.ensures.same

pub returns-in-Digit : goal.returns-in-Digit
returns-in-Digit c = leads_number c.in_ok-first.ensures.cases.0 c.kind_of.ensures c.in-Digit.is c.run_of-in-Digit.ensures.whole c.run_of-in-Digit.ensures.same

pub returns-in-Blank : goal.returns-in-Blank
returns-in-Blank c = leads_blank c.in_ok-first.ensures.cases.0 c.kind_of.ensures c.in-Blank.is

pub returns-in-Less : goal.returns-in-Less
returns-in-Less c = leads_sign c.in_ok-first.ensures.cases.0 c.kind_of.ensures c.in-Less.is c.sign.ensures
