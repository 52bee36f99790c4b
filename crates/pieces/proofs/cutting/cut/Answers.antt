use Rattle.std.proofs.Common.{◌≡◌, vec_items, sym, ap, ◌∙◌, subst, append-nil, ◌++◌}
use Rattle.pieces.specs.Spelling.{Spelled}
use Rattle.pieces.specs.Cutting.{pieces}
use Rattle.pieces.specs.Tokens.{pieces_of}
use Rattle.pieces.proofs.Cuts.{pieces_spelled}
use Rattle.pieces.proofs.cutting.cut.Goals as goal

pub returns : goal.returns
returns c =
    let t = c.args.text.now in
    let ps = pieces_of (vec_items c.loop-token.tokens) in
    let e : ps ≡ pieces t = sym (append-nil ps) ∙ ap (λ l. ps ++ l) (sym c.in_default.ensures) ∙ c.loop-token.invariant in
    record { spelled = subst (Spelled t) (sym e) (pieces_spelled t); value = e }
