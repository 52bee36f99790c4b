-- Rounding: thousandths to hundredths, to the nearest, a half away from zero. No other rounding is defined anywhere.
use Rattle.std.specs.Prelude.{◌≡◌, ℕ, suc, ◌+◌, ◌*◌, ◌/◌, ◌<◌, ◌≤◌, ℤ, pos, negsuc, neg_ℤ}

-- a tenth of a magnitude, a half up
abbrev pub nearest : ℕ → ℕ
nearest n = (n + 5) / 10

-- the magnitude is rounded, and the sign stays
abbrev pub hundredths : ℤ → ℤ
hundredths (pos n) = pos (nearest n)
hundredths (negsuc n) = neg_ℤ (pos (nearest (suc n)))

-- ten times h is nearest to n: at most five above it, or less than five below it, so that a tie goes up
abbrev pub Nearest : ℕ → ℕ → Type 0
Nearest n h = (10 * h ≤ n + 5) × (n < 10 * h + 5)

-- A magnitude of n thousandths becomes h hundredths for the nearest h and no other, of two the farther from zero; and a sign changes nothing else.
abbrev pub RoundingRule : Type 0
RoundingRule =
    ((n h : ℕ) → (hundredths (pos n) ≡ pos h → Nearest n h) × (Nearest n h → hundredths (pos n) ≡ pos h))
    × ((z : ℤ) → hundredths (neg_ℤ z) ≡ neg_ℤ (hundredths z))
