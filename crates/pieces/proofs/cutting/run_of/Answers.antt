use Rattle.std.proofs.Common.{◌≡◌, length, take, drop, ap, ◌∙◌, arith, rules, length-take-le, length-drop}
use Rattle.std.proofs.lemmas.List.{take_rest}
use Rattle.pieces.specs.Cutting.{front, run_piece, pieces}
use Rattle.pieces.specs.Tokens.{piece}
use Rattle.pieces.proofs.Lexing.{run_bytes, run_rest}
use Rattle.pieces.proofs.cutting.run_of.Goals as goal

pub returns-clause-whole : goal.returns-clause-whole
returns-clause-whole c =
    let r = c.args.run in
    let t = c.args.text.now in
    let n = c.run_len-len.result in
    let bytes : take n t ≡ front r t = ap (λ k. take k t) c.run_len-len.ensures.value ∙ run_bytes r t in
    omega (arith, ap length bytes, length-take-le n t c.run_len-len.ensures.within, ap length (take_rest t n), length-drop n t, c.run_len-len.ensures.within)

pub returns-clause-same : goal.returns-clause-same
returns-clause-same c =
    let r = c.args.run in
    let t = c.args.text.now in
    let n = c.run_len-len.result in
    let bytes : take n t ≡ front r t = ap (λ k. take k t) c.run_len-len.ensures.value ∙ run_bytes r t in
    let rest = ap pieces (take_rest t n) ∙ ap (λ k. pieces (drop k t)) c.run_len-len.ensures.value ∙ run_rest r t in
    let told : piece c.token.result ≡ run_piece r (take n t) = search rules in
    cc (told ∙ ap (run_piece r) bytes, rest)
