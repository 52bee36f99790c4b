-- A number is an optional minus (45), one to five digits, and optionally a point (46) with one to three digits. Its value is in hundredths.
use Rattle.std.specs.Prelude.{◌≡◌, ℕ, suc, ◌+◌, ◌-◌, ◌*◌, ◌^◌, Bool, true, false, cond, ◌&&◌, List, [], ◌∷◌, ◌++◌, length, take, drop, ℤ, pos, negsuc, neg_ℤ, Some, None, codes, Option as Maybe, ◌==◌, nat_le}
use Rattle.std.specs.List.{list_all}
use Rattle.lexical.specs.declared.kinds.Kind.{Kind}
use Rattle.lexical.specs.declared.kinds.Kind.TheVariants.{Letter, Digit, Hyphen, Point, Less, Greater, Slash, Blank, Other}
use Rattle.lexical.specs.Kinds.{digit}
use Rattle.lexical.specs.Rounding.{hundredths}

-- the most digits before the point, and after it
abbrev pub most_whole : ℕ
most_whole = 5

abbrev pub most_fraction : ℕ
most_fraction = 3

-- whether the bytes are one to m digits
unfoldable pub figures : ℕ → List ℕ → Bool
figures m ds = nat_le 1 (length ds) && (nat_le (length ds) m && list_all digit ds)

-- the number that the digits write after those of n, from left to right
abbrev pub decimal : ℕ → List ℕ → ℕ
decimal n [] = n
decimal n (b ∷ bs) = decimal (n * 10 + (b - 48)) bs

-- k digits after the point with the value n, in thousandths: 5 is 500, 05 is 50, 005 is 5
abbrev pub scaled : ℕ → ℕ → ℕ
scaled n k = n * 10 ^ (most_fraction - k)

-- Digits, and perhaps a point with digits, are so many thousandths.
pub data Thousandths : List ℕ → ℕ → Type 0 where
  plain : (w : List ℕ) → figures most_whole w ≡ true → Thousandths w (decimal 0 w * 1000)
  parted : (w f : List ℕ) → figures most_whole w ≡ true → figures most_fraction f ≡ true → Thousandths (w ++ 46 ∷ f) (decimal 0 w * 1000 + scaled (decimal 0 f) (length f))

-- With or without a minus before them they are a number, and its value is those thousandths rounded to hundredths.
pub data Number : List ℕ → ℤ → Type 0 where
  positive : (s : List ℕ) (n : ℕ) → Thousandths s n → Number s (hundredths (pos n))
  negative : (s : List ℕ) (n : ℕ) → Thousandths s n → Number (45 ∷ s) (hundredths (neg_ℤ (pos n)))

-- what reading a text as a number answers: its value, or none where it is no number
abbrev pub Means : List ℕ → Maybe ℤ → Type 0
Means s (Some v) = Number s v
Means s None = (v : ℤ) → Number s v → ⊥

-- The same as a function, which other definitions can compute with.

-- the value of one to m digits
abbrev pub valued : ℕ → List ℕ → Maybe ℕ
valued m ds = cond (figures m ds) (Some (decimal 0 ds)) None

-- how many bytes stand before the first point: all of them where there is none
unfoldable pub first_point : List ℕ → ℕ
first_point [] = 0
first_point (b ∷ bs) = cond (b == 46) 0 (suc (first_point bs))

-- the value of k digits after the point, in thousandths
abbrev pub in_thousandths : ℕ → Maybe ℕ → Maybe ℕ
in_thousandths k None = None
in_thousandths k (Some n) = Some (scaled n k)

-- what stands from the point on, in thousandths; nothing is zero
unfoldable pub fraction : List ℕ → Maybe ℕ
fraction [] = Some 0
fraction (p ∷ f) = in_thousandths (length f) (valued most_fraction f)

-- the whole part and the fraction, where both are there
abbrev pub together : Maybe ℕ → Maybe ℕ → Maybe ℕ
together None f = None
together (Some w) None = None
together (Some w) (Some n) = Some (w * 1000 + n)

-- a number without its sign, in thousandths
unfoldable pub thousandths : List ℕ → Maybe ℕ
thousandths s = together (valued most_whole (take (first_point s) s)) (fraction (drop (first_point s) s))

-- whether a minus stands first
unfoldable pub has_minus : List ℕ → Bool
has_minus [] = false
has_minus (b ∷ bs) = b == 45

-- a magnitude with its sign
abbrev pub signed : Bool → ℕ → ℤ
signed minus n = cond minus (neg_ℤ (pos n)) (pos n)

abbrev pub with_sign : Bool → Maybe ℕ → Maybe ℤ
with_sign minus None = None
with_sign minus (Some n) = Some (signed minus n)

-- a number in thousandths
unfoldable pub exact : List ℕ → Maybe ℤ
exact s = with_sign (has_minus s) (thousandths (drop (cond (has_minus s) 1 0) s))

abbrev pub rounded : Maybe ℤ → Maybe ℤ
rounded None = None
rounded (Some z) = Some (hundredths z)

-- a number in hundredths
abbrev pub number : List ℕ → Maybe ℤ
number s = rounded (exact s)

-- The function gives a value to the numbers and to nothing else, and it is theirs. So a text has at most one value.
abbrev pub NumberRule : Type 0
NumberRule = (s : List ℕ) (v : ℤ) → (number s ≡ Some v → Number s v) × (Number s v → number s ≡ Some v)

-- the kinds of the bytes that numbers are written with
abbrev pub figure_kind : Kind → Bool
figure_kind Letter = false
figure_kind Digit = true
figure_kind Hyphen = true
figure_kind Point = true
figure_kind Less = false
figure_kind Greater = false
figure_kind Slash = false
figure_kind Blank = false
figure_kind Other = false

-- Half a hundredth goes away from zero, and less than half toward it.
abbrev pub WorkedNumbers : Type 0
WorkedNumbers = Number (codes "-0.005") (negsuc 0) × Number (codes "-0.004") (pos 0) × Number (codes "33.005") (pos 3301) × Number (codes "22.004") (pos 2200)
