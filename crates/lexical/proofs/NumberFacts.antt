-- Numbers: the decision and the grammar agree; the bytes of a number, and its bounds.
use Rattle.std.proofs.Common.{◌≡◌, ℕ, zero, suc, ◌+◌, ◌-◌, ◌*◌, ◌^◌, ◌<◌, ◌≤◌, Bool, true, false, cond, ◌&&◌, eqb, leb, ltb, ◌⊎◌, List, [], ◌∷◌, ◌++◌, length, get_or, take, drop, ℤ, pos, negsuc, neg_ℤ, ◌≤ℤ◌, Some, None, Option as Maybe, sym, refl, ap, ◌∙◌, subst, inl, inr, pow-suc, add-one, arith}
use native.Mathlib.Nat.{pow-le-pow_right}
use Rattle.std.proofs.lemmas.List.Folds.{list_all-append}
use Rattle.std.proofs.lemmas.List.{append-nil, take-append-drop, take_at, drop_at}
use Rattle.std.specs.List.{position, position_or_len, list_all}
use Rattle.std.specs.Option.{unwrap_or}
use Rattle.std.proofs.lemmas.List.Sums.{prefix_len-le-length}
use Rattle.std.proofs.lemmas.List.Recursion.{is_position_or_len}
use Rattle.std.proofs.lemmas.Int.{ints}
use Rattle.std.proofs.lemmas.Bool.{leb-true, ltb-false, le-leb, lt-leb, eqb-true, ne_eqb, and_parts, and_from, and_left, and_right, cases_Bool}
use Rattle.lexical.specs.Kinds.{digit, kind}
use Rattle.lexical.specs.Rounding.{nearest, hundredths}
use Rattle.lexical.specs.Numbers.{most_whole, most_fraction, figures, decimal, scaled, Thousandths, plain, parted, Number, positive, negative, valued, first_point, in_thousandths, fraction, together, thousandths, has_minus, signed, with_sign, exact, rounded, number, Means, NumberRule, figure_kind, WorkedNumbers}
use Rattle.lexical.proofs.KindFacts.{digit_range, digit_kind}

some_one : (x y : ℕ) → ◌≡◌ {A = Maybe ℕ} (Some x) (Some y) → x ≡ y
some_one x y e = cc

-- one to m digits, as facts
module _ (m : ℕ) (ds : List ℕ) where
  pub figures_are : figures m ds ≡ true → (1 ≤ length ds) × (length ds ≤ m) × (list_all digit ds ≡ true)
  unfolding figures
  figures_are e =
      let p = and_parts (leb 1 (length ds)) (leb (length ds) m && list_all digit ds) e in
      let q = and_parts (leb (length ds) m) (list_all digit ds) p.1 in
      (leb-true 1 (length ds) p.0, leb-true (length ds) m q.0, q.1)

  pub valued_yes : 1 ≤ length ds → length ds ≤ m → list_all digit ds ≡ true → valued m ds ≡ Some (decimal 0 ds)
  unfolding figures
  valued_yes h l e =
      ap (λ b. cond b (Some (decimal 0 ds)) None)
      (and_from (leb 1 (length ds)) _ (le-leb 1 (length ds) h) (and_from (leb (length ds) m) (list_all digit ds) (le-leb (length ds) m l) e))

  pub valued_empty : length ds ≡ 0 → valued m ds ≡ None
  unfolding figures
  valued_empty e = ap (λ b. cond b (Some (decimal 0 ds)) None) (and_left (leb 1 (length ds)) _ (lt-leb 1 (length ds) (omega arith)))

  pub valued_long : m < length ds → valued m ds ≡ None
  unfolding figures
  valued_long h =
      ap (λ b. cond b (Some (decimal 0 ds)) None)
      (and_right (leb 1 (length ds)) _ (and_left (leb (length ds) m) (list_all digit ds) (lt-leb (length ds) m h)))

  pub valued_stray : list_all digit ds ≡ false → valued m ds ≡ None
  unfolding figures
  valued_stray e =
      ap (λ b. cond b (Some (decimal 0 ds)) None)
      (and_right (leb 1 (length ds)) _ (and_right (leb (length ds) m) (list_all digit ds) e))

by_test : (b : Bool) (x w : ℕ) → cond b (Some x) None ≡ Some w → (b ≡ true) × (w ≡ x)
by_test true x w e = (refl, sym (some_one x w e))
by_test false x w e = let z : ◌≡◌ {A = ℕ} 0 1 = cc in absurd (omega arith)

-- the first point

pub point_past : (b : ℕ) (bs : List ℕ) → eqb b 46 ≡ false → first_point (b ∷ bs) ≡ suc (first_point bs)
unfolding first_point
point_past b bs e = ap (λ x. cond x 0 (suc (first_point bs))) e

pub point_here : (b : ℕ) (bs : List ℕ) → eqb b 46 ≡ true → first_point (b ∷ bs) ≡ 0
unfolding first_point
point_here b bs e = ap (λ x. cond x 0 (suc (first_point bs))) e

pub point_nil : first_point [] ≡ 0
unfolding first_point
point_nil = refl

point_position : (s : List ℕ) → first_point s ≡ position_or_len (λ b. eqb b 46) s
unfolding first_point
point_position s = is_position_or_len first_point (λ b. eqb b 46) refl (λ b bs. ap (λ n. cond (eqb b 46) 0 n) (omega arith)) s

pub point_within : (s : List ℕ) → first_point s ≤ length s
point_within s =
    let w : position_or_len (λ b. eqb b 46) s ≤ length s = prefix_len-le-length _ s in
    let e = point_position s in
    omega arith

-- the place that a search finds, or else the length
pub point_found : (s : List ℕ) → unwrap_or (position (λ b. eqb b 46) s) (length s) ≡ first_point s
point_found s =
    let n : ℕ = position_or_len (λ b. eqb b 46) s in
    let e : first_point s ≡ n = point_position s in
    let w : n ≤ length s = prefix_len-le-length _ s in
    elim (cases_Bool (ltb n (length s))) [
      | inl t ↦ ap (λ b. unwrap_or (cond b (Some n) None) (length s)) t ∙ sym e
      | inr f ↦
          let l : length s ≤ n = ltb-false n (length s) f in
          ap (λ b. unwrap_or (cond b (Some n) None) (length s)) f ∙ omega (arith, e)
    ]

no_point_digit : (b : ℕ) → digit b ≡ true → eqb b 46 ≡ false
no_point_digit b e = let r = digit_range b e in ne_eqb b 46 (λ z. omega (arith, r.0))

point_after : (w r : List ℕ) → list_all digit w ≡ true → first_point r ≡ 0 → first_point (w ++ r) ≡ length w
point_after [] r e h = h
point_after (b ∷ w) r e h =
    let p = and_parts (digit b) (list_all digit w) e in
    point_past b (w ++ r) (no_point_digit b p.0) ∙ ap suc (point_after w r p.1 h)

abbrev Begins : List ℕ → Type 0
Begins s = (s ≡ []) ⊎ ((f : List ℕ) × (s ≡ 46 ∷ f))

-- what is left from the first point on
point_at : (s : List ℕ) → Begins (drop (first_point s) s)
point_at [] = inl (ap (λ i. drop i []) point_nil)
point_at (b ∷ bs) =
    elim (cases_Bool (eqb b 46)) [
      | inl e ↦ inr (bs, ap (λ i. drop i (b ∷ bs)) (point_here b bs e) ∙ ap {B = List ℕ} (λ c. c ∷ bs) (eqb-true b 46 e))
      | inr e ↦ subst Begins (sym (ap (λ i. drop i (b ∷ bs)) (point_past b bs e))) (point_at bs)
    ]

-- from the grammar to the decision

whole_first : (w r : List ℕ) → figures most_whole w ≡ true → first_point r ≡ 0 → thousandths (w ++ r) ≡ together (Some (decimal 0 w)) (fraction r)
unfolding thousandths
whole_first w r e h =
    let g = figures_are most_whole w e in
    let p = point_after w r g.2 h in
    ap (λ i. together (valued most_whole (take i (w ++ r))) (fraction (drop i (w ++ r)))) p
    ∙ (ap (λ x. together (valued most_whole x) (fraction (drop (length w) (w ++ r)))) (take_at w r (length w) refl)
    ∙ (ap (λ x. together (valued most_whole w) (fraction x)) (drop_at w r (length w) refl)
    ∙ ap (λ b. together (cond b (Some (decimal 0 w)) None) (fraction r)) e))

pub fraction_nil : fraction [] ≡ Some 0
unfolding fraction
fraction_nil = refl

pub fraction_past : (s : List ℕ) → (length s ≡ 0 → ⊥) → fraction s ≡ in_thousandths (length (drop 1 s)) (valued most_fraction (drop 1 s))
unfolding fraction
fraction_past [] h = absurd (h refl)
fraction_past (p ∷ f) h = refl

thousandths_complete : {s : List ℕ} {n : ℕ} → Thousandths s n → thousandths s ≡ Some n
thousandths_complete (plain w e) =
    let z : decimal 0 w * 1000 + 0 ≡ decimal 0 w * 1000 = omega arith in
    ap thousandths (sym (append-nil w))
    ∙ (whole_first w [] e point_nil ∙ (ap (together (Some (decimal 0 w))) fraction_nil ∙ ap {B = Maybe ℕ} Some z))
thousandths_complete (parted w f e h) =
    whole_first w (46 ∷ f) e (point_here 46 f refl)
    ∙ ap (together (Some (decimal 0 w)))
    (fraction_past (46 ∷ f) (λ z. omega arith) ∙ ap (λ b. in_thousandths (length f) (cond b (Some (decimal 0 f)) None)) h)

-- from the decision to the grammar

together_parts : (a b : Maybe ℕ) (n : ℕ) → together a b ≡ Some n → (w : ℕ) × (f : ℕ) × (a ≡ Some w) × (b ≡ Some f) × (n ≡ w * 1000 + f)
together_parts None b n e = let z : ◌≡◌ {A = ℕ} 0 1 = cc in absurd (omega arith)
together_parts (Some w) None n e = let z : ◌≡◌ {A = ℕ} 0 1 = cc in absurd (omega arith)
together_parts (Some w) (Some f) n e = (w, f, refl, refl, sym (some_one (w * 1000 + f) n e))

in_thousandths_part : (k : ℕ) (a : Maybe ℕ) (n : ℕ) → in_thousandths k a ≡ Some n → (f : ℕ) × (a ≡ Some f) × (n ≡ scaled f k)
in_thousandths_part k None n e = let z : ◌≡◌ {A = ℕ} 0 1 = cc in absurd (omega arith)
in_thousandths_part k (Some f) n e = (f, refl, sym (some_one (scaled f k) n e))

thousandths_sound : (s : List ℕ) (n : ℕ) → thousandths s ≡ Some n → Thousandths s n
unfolding thousandths
thousandths_sound s n e =
    let i : ℕ = first_point s in
    let w : List ℕ = take i s in
    let g = together_parts (valued most_whole w) (fraction (drop i s)) n e in
    let v = by_test (figures most_whole w) (decimal 0 w) g.0 g.2 in
    elim (point_at s) [
      | inl d ↦
          (let t : w ≡ s = sym (append-nil w) ∙ (ap (λ r. w ++ r) (sym d) ∙ take-append-drop i s) in
          let z : g.1 ≡ 0 = some_one g.1 0 (sym g.3 ∙ (ap fraction d ∙ fraction_nil)) in
          let x : n ≡ decimal 0 w * 1000 = omega (arith, g.4, v.1) in
          subst (λ u. Thousandths u n) t (subst (Thousandths w) (sym x) (plain w v.0)))
      | inr d ↦
          (let f : List ℕ = d.0 in
          let t : w ++ 46 ∷ f ≡ s = ap (λ r. w ++ r) (sym d.1) ∙ take-append-drop i s in
          let q = in_thousandths_part (length f) (valued most_fraction f) g.1 (sym (fraction_past (46 ∷ f) (λ z. omega arith)) ∙ (ap fraction (sym d.1) ∙ g.3)) in
          let u = by_test (figures most_fraction f) (decimal 0 f) q.0 q.1 in
          let y : g.1 ≡ scaled (decimal 0 f) (length f) = q.2 ∙ ap (λ a. scaled a (length f)) u.1 in
          let x : n ≡ decimal 0 w * 1000 + scaled (decimal 0 f) (length f) = g.4 ∙ (ap (λ a. a * 1000 + g.1) v.1 ∙ ap (λ a. decimal 0 w * 1000 + a) y) in
          subst (λ u. Thousandths u n) t (subst (Thousandths (w ++ 46 ∷ f)) (sym x) (parted w f v.0 u.0)))
    ]

-- the sign

pub exact_with : (s : List ℕ) (minus : Bool) → has_minus s ≡ minus → exact s ≡ with_sign minus (thousandths (drop (cond minus 1 0) s))
unfolding exact
exact_with s minus e = ap (λ m. with_sign m (thousandths (drop (cond m 1 0) s))) e

pub minus_first : (s : List ℕ) → (length s ≡ 0 → ⊥) → has_minus s ≡ eqb (get_or s 0 0) 45
unfolding has_minus
minus_first [] h = absurd (h refl)
minus_first (b ∷ bs) h = refl

pub minus_nil : has_minus [] ≡ false
unfolding has_minus
minus_nil = refl

rounded_part : (a : Maybe ℤ) (v : ℤ) → rounded a ≡ Some v → (z : ℤ) × (a ≡ Some z) × (hundredths z ≡ v)
rounded_part None v e = let z : ◌≡◌ {A = ℕ} 0 1 = cc in absurd (omega arith)
rounded_part (Some z) v e = (z, refl, cc)

with_sign_part : (minus : Bool) (a : Maybe ℕ) (z : ℤ) → with_sign minus a ≡ Some z → (n : ℕ) × (a ≡ Some n) × (signed minus n ≡ z)
with_sign_part minus None z e = let o : ◌≡◌ {A = ℕ} 0 1 = cc in absurd (omega arith)
with_sign_part minus (Some n) z e = (n, refl, cc)

-- a text that begins with a minus, or another
begun : (s : List ℕ) (minus : Bool) → has_minus s ≡ minus → (n : ℕ) → Thousandths (drop (cond minus 1 0) s) n → Number s (hundredths (signed minus n))
begun [] true e n t = let f : false ≡ true = sym minus_nil ∙ e in let z : ◌≡◌ {A = ℕ} 0 1 = cc in absurd (omega arith)
begun [] false e n t = positive [] n t
begun (b ∷ bs) true e n t =
    let f : eqb b 45 ≡ true = sym (minus_first (b ∷ bs) (λ z. omega arith)) ∙ e in
    subst (λ c. Number (c ∷ bs) (hundredths (neg_ℤ (pos n)))) (sym (eqb-true b 45 f)) (negative bs n t)
begun (b ∷ bs) false e n t = positive (b ∷ bs) n t

number_sound : (s : List ℕ) (v : ℤ) → number s ≡ Some v → Number s v
number_sound s v e =
    let g = rounded_part (exact s) v e in
    let p = with_sign_part (has_minus s) _ g.0 (sym (exact_with s (has_minus s) refl) ∙ g.1) in
    subst (Number s) (ap hundredths p.2 ∙ g.2) (begun s (has_minus s) refl p.0 (thousandths_sound _ p.0 p.1))

first_digit : (w r : List ℕ) → figures most_whole w ≡ true → has_minus (w ++ r) ≡ false
first_digit [] r e = let g = figures_are most_whole [] e in absurd (omega (arith, g.0))
first_digit (b ∷ w) r e =
    let g = figures_are most_whole (b ∷ w) e in
    let d = digit_range b (and_parts (digit b) (list_all digit w) g.2).0 in
    minus_first (b ∷ (w ++ r)) (λ z. omega arith) ∙ ne_eqb b 45 (λ z. omega (arith, d.0))

no_minus : {s : List ℕ} {n : ℕ} → Thousandths s n → has_minus s ≡ false
no_minus (plain w e) = ap has_minus (sym (append-nil w)) ∙ first_digit w [] e
no_minus (parted w f e h) = first_digit w (46 ∷ f) e

number_complete : {s : List ℕ} {v : ℤ} → Number s v → number s ≡ Some v
number_complete (positive s n t) = ap rounded (exact_with s false (no_minus t) ∙ ap (with_sign false) (thousandths_complete t))
number_complete (negative s n t) =
    ap rounded (exact_with (45 ∷ s) true (minus_first (45 ∷ s) (λ z. omega arith)) ∙ ap (with_sign true) (thousandths_complete t))

pub number_rule : NumberRule
number_rule s v = (number_sound s v, number_complete)

means_of : (s : List ℕ) (o : Maybe ℤ) → number s ≡ o → Means s o
means_of s None e = λ v n. let z : ◌≡◌ {A = ℕ} 0 1 = (let f : ◌≡◌ {A = Maybe ℤ} None (Some v) = sym e ∙ number_complete n in cc) in omega arith
means_of s (Some v) e = number_sound s v e

pub number_means : (s : List ℕ) (o : Maybe ℤ) → o ≡ number s → Means s o
number_means s o e = means_of s o (sym e)

-- the kinds of a number's bytes

abbrev shown : ℕ → Bool
shown b = figure_kind (kind b)

all_shown : (w : List ℕ) → list_all digit w ≡ true → list_all shown w ≡ true
all_shown [] e = refl
all_shown (b ∷ w) e =
    let p = and_parts (digit b) (list_all digit w) e in
    and_from (shown b) (list_all shown w) (ap figure_kind (digit_kind b p.0)) (all_shown w p.1)

point_shown : shown 46 ≡ true
unfolding kind
point_shown = refl

minus_shown : shown 45 ≡ true
unfolding kind
minus_shown = refl

not_empty : (w r : List ℕ) → 1 ≤ length w → 0 < length (w ++ r)
not_empty [] r h = absurd (omega arith)
not_empty (b ∷ w) r h = omega arith

thousandths_kinds : {s : List ℕ} {n : ℕ} → Thousandths s n → (0 < length s) × (list_all shown s ≡ true)
thousandths_kinds (plain w e) = let g = figures_are most_whole w e in (omega (arith, g.0), all_shown w g.2)
thousandths_kinds (parted w f e h) =
    let g = figures_are most_whole w e in
    let k = figures_are most_fraction f h in (
      not_empty w (46 ∷ f) g.0,
      list_all-append shown w (46 ∷ f) ∙ and_from _ _ (all_shown w g.2) (and_from (shown 46) (list_all shown f) point_shown (all_shown f k.2)),
    )

of_kinds : {s : List ℕ} {v : ℤ} → Number s v → (0 < length s) × (list_all (λ b. figure_kind (kind b)) s ≡ true)
of_kinds (positive s n t) = thousandths_kinds t
of_kinds (negative s n t) = (omega arith, and_from (shown 45) (list_all shown s) minus_shown (thousandths_kinds t).1)

-- a number is not empty, and its bytes are digits, hyphens and points
pub number_kinds : (s : List ℕ) (v : ℤ) → Number s v → (0 < length s) × (list_all (λ b. figure_kind (kind b)) s ≡ true)
number_kinds s v = of_kinds

-- bounds

pub next_power : (n k d : ℕ) → n < 10 ^ k → d ≤ 9 → n * 10 + d < 10 ^ (k + 1)
next_power n k d h l = let p : 10 ^ (k + 1) ≡ 10 ^ k * 10 = ap (λ j. 10 ^ j) (add-one k) ∙ pow-suc 10 k in omega arith

decimal_small : (n k : ℕ) (ds : List ℕ) → list_all digit ds ≡ true → n < 10 ^ k → decimal n ds < 10 ^ (k + length ds)
decimal_small n k [] e h = let z : k ≡ k + 0 = omega arith in subst (λ j. n < 10 ^ j) z h
decimal_small n k (b ∷ ds) e h =
    let p = and_parts (digit b) (list_all digit ds) e in
    let r = digit_range b p.0 in
    let z : (k + 1) + length ds ≡ k + suc (length ds) = omega arith in
    subst (λ j. decimal (n * 10 + (b - 48)) ds < 10 ^ j) z
    (decimal_small (n * 10 + (b - 48)) (k + 1) ds p.1 (next_power n k (b - 48) h (omega (arith, r.1))))

figures_small : (m : ℕ) (ds : List ℕ) → figures m ds ≡ true → (length ds ≤ m) × (decimal 0 ds < 10 ^ length ds) × (decimal 0 ds < 10 ^ m)
figures_small m ds e =
    let g = figures_are m ds e in
    let z : 0 + length ds ≡ length ds = omega arith in
    let d : decimal 0 ds < 10 ^ length ds = subst (λ j. decimal 0 ds < 10 ^ j) z (decimal_small 0 0 ds g.2 (omega arith)) in
    let b : 10 ^ length ds ≤ 10 ^ m = pow-le-pow_right {n = 10} (omega arith) {i = length ds} {j = m} g.1 in
    (g.1, d, omega arith)

pub scaled_small : (x k : ℕ) → k ≤ most_fraction → x < 10 ^ k → scaled x k < 1000
scaled_small x zero l h = omega arith
scaled_small x (suc zero) l h = omega arith
scaled_small x (suc (suc zero)) l h = omega arith
scaled_small x (suc (suc (suc zero))) l h = omega arith
scaled_small x (suc (suc (suc (suc k)))) l h = absurd (omega arith)

thousandths_small : {s : List ℕ} {n : ℕ} → Thousandths s n → n < 100000000
thousandths_small (plain w e) = let g = figures_small most_whole w e in omega (arith, g.2)
thousandths_small (parted w f e h) =
    let g = figures_small most_whole w e in
    let k = figures_small most_fraction f h in
    let q = scaled_small (decimal 0 f) (length f) k.0 k.1 in
    omega (arith, g.2)

abbrev Small : ℤ → Type 0
Small v = (negsuc 9999999 ≤ℤ v) × (v ≤ℤ pos 10000000)

rounded_small : (n : ℕ) → n < 100000000 → Small (hundredths (pos n))
rounded_small n h = (omega (arith, ints), omega (arith, ints))

negated_small : (m : ℕ) → m ≤ 10000000 → Small (neg_ℤ (pos m))
negated_small zero h = (omega (arith, ints), omega (arith, ints))
negated_small (suc m) h = (omega (arith, ints), omega (arith, ints))

mirrored_small : (n : ℕ) → n < 100000000 → Small (hundredths (neg_ℤ (pos n)))
mirrored_small zero h = rounded_small 0 h
mirrored_small (suc n) h = negated_small (nearest (suc n)) (omega arith)

of_size : {s : List ℕ} {v : ℤ} → Number s v → Small v
of_size (positive s n t) = rounded_small n (thousandths_small t)
of_size (negative s n t) = mirrored_small n (thousandths_small t)

-- a number lies from -100,000 to 100,000, in hundredths
pub small_number : (s : List ℕ) (v : ℤ) → Number s v → (negsuc 9999999 ≤ℤ v) × (v ≤ℤ pos 10000000)
small_number s v = of_size

pub worked_numbers : WorkedNumbers
unfolding figures first_point fraction thousandths has_minus exact
worked_numbers = (number_sound _ _ refl, number_sound _ _ refl, number_sound _ _ refl, number_sound _ _ refl)
