use Rattle.std.proofs.Common.{◌≡◌, ℕ, eqb, List, length, take, drop, Some, None, Option as Maybe, refl, ap, ◌∙◌, arith, rules}
use Rattle.std.specs.List.{position}
use Rattle.std.specs.Option.{unwrap_or}
use Rattle.lexical.specs.Numbers.{most_whole, valued, first_point, fraction, together, thousandths}
use Rattle.lexical.proofs.NumberFacts.{point_found, point_within}
use Rattle.lexical.proofs.numbers.thousandths.Goals as goal

-- the two parts at the place p, as the code has them
split : (s w r : List ℕ) (p : ℕ) (x y : Maybe ℕ) → p ≡ first_point s → w ≡ take p s → r ≡ drop p s → x ≡ valued most_whole w → y ≡ fraction r → together x y ≡ thousandths s
unfolding thousandths
split s w r p x y e f g h k =
    let a : x ≡ valued most_whole (take (first_point s) s) = h ∙ ap (valued most_whole) (f ∙ ap (λ i. take i s) e) in
    let b : y ≡ fraction (drop (first_point s) s) = k ∙ ap fraction (g ∙ ap (λ i. drop i s) e) in
    cc

-- where the code splits
at_point : (s : List ℕ) (o : Maybe ℕ) (p : ℕ) → p ≡ unwrap_or o (length s) → o ≡ position (λ b. eqb b 46) s → p ≡ first_point s
at_point s o p e f = e ∙ ap (λ x. unwrap_or x (length s)) f ∙ point_found s

pub split_at-requires : goal.split_at-requires
split_at-requires c =
    let s = c.args.bytes.now in
    let e : c.unwrap_or.result ≡ first_point s = at_point s c.first_point.result _ c.unwrap_or.ensures c.first_point.ensures in
    let w = point_within s in
    omega arith

pub returns-in_err-whole-clause-value : goal.returns-in_err-whole-clause-value
returns-in_err-whole-clause-value c =
    let s = c.args.bytes.now in
    let p = c.unwrap_or.result in
    let e : p ≡ first_point s = at_point s c.first_point.result _ c.unwrap_or.ensures c.first_point.ensures in
    c.from_residual.ensures ∙ split s _ (drop p s) p None (fraction (drop p s)) e (search rules) refl c.in_err-whole.ensures.value refl

pub returns-in_err-part-clause-value : goal.returns-in_err-part-clause-value
returns-in_err-part-clause-value c =
    let s = c.args.bytes.now in
    let p = c.unwrap_or.result in
    let e : p ≡ first_point s = at_point s c.first_point.result _ c.unwrap_or.ensures c.first_point.ensures in
    c.from_residual-in_err-part.ensures
    ∙ split s _ _ p (Some c.in_ok-whole.whole) None e (search rules) (search rules) c.in_ok-whole.ensures.value c.in_err-part.ensures.value

pub returns-clause-value : goal.returns-clause-value
returns-clause-value c =
    let s = c.args.bytes.now in
    let p = c.unwrap_or.result in
    let e : p ≡ first_point s = at_point s c.first_point.result _ c.unwrap_or.ensures c.first_point.ensures in
    split s _ _ p (Some c.in_ok-whole.whole) (Some c.in_ok-part.part) e (search rules) (search rules) c.in_ok-whole.ensures.value c.in_ok-part.ensures.value
