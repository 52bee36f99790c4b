use Rattle.std.proofs.Common.{◌≡◌, ℕ, ◌<◌, ◌≤◌, ◌^◌, Bool, true, false, cond, eqb, List, length, get_or, drop, ℤ, pos, neg_ℤ, ◌-ℤ◌, Some, None, Option as Maybe, sym, refl, ap, ◌∙◌, w32, to_z, of_z, arith, rules}
use Rattle.std.proofs.lemmas.List.{nil_from_length, take_rest}
use Rattle.lexical.specs.Numbers.{thousandths, has_minus, with_sign, exact}
use Rattle.lexical.proofs.NumberFacts.{exact_with, minus_first, minus_nil}
use Rattle.lexical.proofs.numbers.exact.Goals as goal
use Rattle.lexical.proofs.numbers.exact.Goals.{in_default-via-then-bytes-lt1, in_default-via-in-len1-up+else-is_hyphen}

-- what is read of the digits, with the sign that stands before them
read : (s size : List ℕ) (minus : Bool) (x : Maybe ℕ) → has_minus s ≡ minus → size ≡ drop (cond minus 1 0) s → x ≡ thousandths size → with_sign minus x ≡ exact s
read s size minus x p d h = ap (with_sign minus) (h ∙ ap thousandths d) ∙ sym (exact_with s minus p)

-- a byte stands first, and whether it is a minus
first : (s : List ℕ) (b : Bool) → 1 ≤ length s → b ≡ eqb (get_or s 0 0) 45 → has_minus s ≡ b
first s b h e = minus_first s (λ z. omega arith) ∙ sym e

none : (s : List ℕ) → length s < 1 → has_minus s ≡ false
none s h = ap has_minus (nil_from_length s (omega arith)) ∙ minus_nil

pub returns-in_err-thousandths-in-len1-up : goal.returns-in_err-thousandths-in-len1-up
returns-in_err-thousandths-in-len1-up c =
    let s = c.args.bytes.now in
    let m = first s true c.in-len1-up.len_at_least (sym c.if-is_hyphen.true ∙ c.is_hyphen.ensures) in
    c.from_residual.ensures ∙ read s _ true None m (take_rest s 1) c.in_err-thousandths-in-len1-up.ensures.value

pub returns-in_ok-thousandths-in-len1-up : goal.returns-in_ok-thousandths-in-len1-up
returns-in_ok-thousandths-in-len1-up c =
    let s = c.args.bytes.now in
    let n = c.in_ok-thousandths-in-len1-up.field-0 in
    let small : n < 10 ^ 8 = c.in_ok-thousandths-in-len1-up.ensures.small in
    let value : to_z w32 (of_z w32 (pos 0 -ℤ to_z w32 n)) ≡ neg_ℤ (pos n) = search rules in
    let m = first s true c.in-len1-up.len_at_least (sym c.if-is_hyphen.true ∙ c.is_hyphen.ensures) in
    ap {B = Maybe ℤ} Some value ∙ read s _ true (Some n) m (take_rest s 1) c.in_ok-thousandths-in-len1-up.ensures.value

pub returns-in_err-thousandths-in_default : goal.returns-in_err-thousandths-in_default
returns-in_err-thousandths-in_default c =
    let s = c.args.bytes.now in
    let m : has_minus s ≡ false =
    elim c.in_default.branch [
      | in_default-via-then-bytes-lt1 w ↦ none s (search rules)
      | in_default-via-in-len1-up+else-is_hyphen w ↦ first s false w.in-len1-up.len_at_least (sym w.if-is_hyphen.false ∙ w.is_hyphen.ensures)
    ] in
    c.from_residual-in_err-thousandths-in_default.ensures ∙ read s s false None m refl c.in_err-thousandths-in_default.ensures.value

pub returns-in_ok-thousandths-in_default : goal.returns-in_ok-thousandths-in_default
returns-in_ok-thousandths-in_default c =
    let s = c.args.bytes.now in
    let n = c.in_ok-thousandths-in_default.field-0 in
    let small : n < 10 ^ 8 = c.in_ok-thousandths-in_default.ensures.small in
    let value : to_z w32 n ≡ pos n = search rules in
    let m : has_minus s ≡ false =
    elim c.in_default.branch [
      | in_default-via-then-bytes-lt1 w ↦ none s (search rules)
      | in_default-via-in-len1-up+else-is_hyphen w ↦ first s false w.in-len1-up.len_at_least (sym w.if-is_hyphen.false ∙ w.is_hyphen.ensures)
    ] in
    ap {B = Maybe ℤ} Some value ∙ read s s false (Some n) m refl c.in_ok-thousandths-in_default.ensures.value
