use Rattle.std.proofs.Common.{◌≡◌, ℕ, ◌+◌, ◌^◌, ◌<◌, ◌≤◌, true, false, ◌&&◌, length, get_or, drop, Some, Option as Maybe, sym, ap, ◌∙◌, arith, rules}
use native.Mathlib.Nat.{pow-le-pow_right}
use Rattle.std.specs.List.{list_all}
use Rattle.std.proofs.lemmas.List.{at_drop_more, at_drop_all}
use Rattle.lexical.specs.Kinds.{digit}
use Rattle.lexical.specs.Numbers.{decimal}
use Rattle.lexical.proofs.NumberFacts.{valued_yes, valued_empty, valued_long, valued_stray}
use Rattle.lexical.proofs.numbers.figures.Goals as goal
use Rattle.lexical.proofs.numbers.figures.Goals.{then-is_empty-via-then-is_empty, then-is_empty-via-else-is_empty+then-digits-most}

pub returns-then-is_empty-clause-value : goal.returns-then-is_empty-clause-value
returns-then-is_empty-clause-value c =
    let s = c.args.digits.now in
    elim c.then-is_empty.branch [
      | then-is_empty-via-then-is_empty w ↦ sym (valued_empty c.args.most s (search rules))
      | then-is_empty-via-else-is_empty+then-digits-most w ↦ sym (valued_long c.args.most s w.if-digits-most.true)
    ]

pub returns-then-not-is_digit-clause-value : goal.returns-then-not-is_digit-clause-value
returns-then-not-is_digit-clause-value c =
    let s = c.args.digits.now in
    let i = c.loop-b.b-index in
    let d : digit (get_or s i 0) ≡ false = search rules in
    let stray : list_all digit (drop i s) ≡ false = at_drop_more (list_all digit) s i 0 c.loop-b-test.true ∙ ap (λ x. x && list_all digit (drop (i + 1) s)) d in
    sym (valued_stray c.args.most s (sym c.loop-b.invariant.2 ∙ stray))

-- the value so far is small
below : (n i m : ℕ) → n < 10 ^ i → i < m → m ≤ 9 → n < 100000000
below n i m h l k = let b : 10 ^ i ≤ 10 ^ 8 = pow-le-pow_right {n = 10} (omega arith) {i = i} {j = 8} (omega arith) in omega arith

pub overflow_mul-n : goal.overflow_mul-n
overflow_mul-n c =
    let b : c.loop-b.n < 100000000 = below c.loop-b.n c.loop-b.b-index c.args.most c.loop-b.invariant.0 (omega arith) c.requires in
    search rules

pub overflow_add-n : goal.overflow_add-n
overflow_add-n c =
    let b : c.loop-b.n < 100000000 = below c.loop-b.n c.loop-b.b-index c.args.most c.loop-b.invariant.0 (omega arith) c.requires in
    search rules

pub returns-clause-value : goal.returns-clause-value
returns-clause-value c =
    let s = c.args.digits.now in
    let i = c.loop-b.b-index in
    let h : 0 < length s = search rules in
    let a : list_all digit s ≡ true = sym c.loop-b.invariant.2 ∙ at_drop_all (list_all digit) s i c.loop-b-test.false in
    let v : c.loop-b.n ≡ decimal 0 s = sym (at_drop_all (decimal c.loop-b.n) s i c.loop-b-test.false) ∙ c.loop-b.invariant.1 in
    ap {B = Maybe ℕ} Some v ∙ sym (valued_yes c.args.most s (omega arith) c.if-digits-most.false a)
