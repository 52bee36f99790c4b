use Rattle.std.proofs.Common.{refl, sym, ap, ◌∙◌, append-nil, ◌∷◌, ◌++◌, ◌+◌, ◌-◌, take, drop, length, arith, length-drop, append_assoc}
use Rattle.std.proofs.lemmas.List.{take_all}
use Rattle.record_text.proofs.Firsts.{first_tag, first_lone}
use Rattle.record_text.proofs.items.first.tag.Goals as goal

pub returns-in-Some : goal.returns-in-Some
returns-in-Some c =
    let t = c.args.text.now in
    let n = c.in-Some.n in
    let k = first_tag t n (sym c.first_greater.ensures ∙ c.in-Some.is) in
    let l = length-drop (n + 1) t in
    (ap (λ x. 60 ∷ x) (append_assoc (take n t) _ _ ∙ (ap (λ x. take n t ++ 62 ∷ x) (take_all (length t - (n + 1)) (drop (n + 1) t) (omega arith)) ∙ k.1)), k.2)

pub returns-in-None : goal.returns-in-None
returns-in-None c =
    let t = c.args.text.now in
    (ap (λ x. 60 ∷ x) (append-nil t), (first_lone t (sym c.first_greater.ensures ∙ c.in-None.is), refl))
