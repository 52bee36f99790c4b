use Rattle.std.proofs.Common.{◌≡◌, ℕ, ◌-◌, ◌<◌, List, length, take, drop, Some, None, Option as Maybe, sym, ap, ◌∙◌, arith, rules}
use Rattle.std.proofs.lemmas.List.{nil_from_length, take_rest}
use Rattle.lexical.specs.Numbers.{most_fraction, valued, in_thousandths, fraction}
use Rattle.lexical.proofs.NumberFacts.{fraction_nil, fraction_past}
use Rattle.lexical.proofs.numbers.fraction.Goals as goal

-- the digits as the code has them, and their value
read : (s f : List ℕ) (x : Maybe ℕ) → 0 < length s → f ≡ drop 1 s → x ≡ valued most_fraction f → in_thousandths (length f) x ≡ fraction s
read s f x h e v =
    ap (in_thousandths (length f)) v
    ∙ (ap (λ g. in_thousandths (length g) (valued most_fraction g)) e ∙ sym (fraction_past s (λ z. omega arith)))

pub returns-in_default-clause-value : goal.returns-in_default-clause-value
returns-in_default-clause-value c =
    let s = c.args.part.now in
    sym (ap fraction (nil_from_length s (search rules)) ∙ fraction_nil)

pub returns-in_err-n-clause-value : goal.returns-in_err-n-clause-value
returns-in_err-n-clause-value c =
    let s = c.args.part.now in
    c.from_residual.ensures ∙ read s (take (length s - 1) (drop 1 s)) None (search rules) (take_rest s 1) c.in_err-n.ensures.value

pub returns-clause-value : goal.returns-clause-value
returns-clause-value c =
    let s = c.args.part.now in
    ap {B = Maybe ℕ} Some c.scale.ensures
    ∙ read s (take (length s - 1) (drop 1 s)) (Some c.in_ok-n.n) (search rules) (take_rest s 1) c.in_ok-n.ensures.value
