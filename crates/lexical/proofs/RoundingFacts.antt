-- What the rounding is.
use Rattle.std.proofs.Common.{◌≡◌, ℕ, zero, suc, ℤ, pos, negsuc, neg_ℤ, refl, ap, arith}
use Rattle.lexical.specs.Rounding.{nearest, hundredths, Nearest, RoundingRule}

magnitude_only : (n h : ℕ) → pos (nearest n) ≡ pos h → Nearest n h
magnitude_only n h e = let f : nearest n ≡ h = cc in (omega arith, omega arith)

magnitude : (n h : ℕ) → Nearest n h → pos (nearest n) ≡ pos h
magnitude n h r = ap pos (omega (arith, r.0, r.1))

twice_negated : (n : ℕ) → pos n ≡ neg_ℤ (neg_ℤ (pos n))
twice_negated zero = refl
twice_negated (suc n) = refl

mirrored : (z : ℤ) → hundredths (neg_ℤ z) ≡ neg_ℤ (hundredths z)
mirrored (pos zero) = refl
mirrored (pos (suc n)) = refl
mirrored (negsuc n) = twice_negated (nearest (suc n))

pub rounding_rule : RoundingRule
rounding_rule = ((λ n h. (magnitude_only n h, magnitude n h)), mirrored)
