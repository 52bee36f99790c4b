use Rattle.std.proofs.Common.{length, drop, ◌-◌, arith, length-drop, ap, ◌∙◌}
use Rattle.std.specs.Option.{unwrap_or}
use Rattle.std.proofs.lemmas.List.{take_all}
use Rattle.record_text.proofs.Firsts.{first_number}
use Rattle.record_text.proofs.items.first.number.Goals as goal

pub returns : goal.returns
returns c =
    let t = c.args.text.now in
    let n = c.unwrap_or-n.result in
    let l = length-drop n t in
    first_number t n _ (c.unwrap_or-n.ensures ∙ ap (λ o. unwrap_or o (length t)) c.first_other.ensures) (take_all (length t - n) (drop n t) (omega arith))
