-- What the kind of a byte says of the byte, for digits, the hyphen, the point, the `>` and the slash.
use Rattle.std.proofs.Common.{◌≡◌, ℕ, ◌≤◌, Bool, true, false, cond, eqb, leb, sym, refl, ap, ◌∙◌, subst, arith}
use Rattle.std.proofs.lemmas.Bool.{leb-true, lt-leb, eqb-true, and_parts}
use Rattle.lexical.specs.declared.kinds.Kind.{Kind}
use Rattle.lexical.specs.declared.kinds.Kind.TheVariants.{Letter, Digit, Hyphen, Point, Less, Greater, Slash, Blank, Other}
use Rattle.lexical.specs.Kinds.{letter, digit, blank, kind}

pub digit_range : (b : ℕ) → digit b ≡ true → (48 ≤ b) × (b ≤ 57)
digit_range b e = let p = and_parts (leb 48 b) (leb b 57) e in (leb-true 48 b p.0, leb-true b 57 p.1)

pub digit_kind : (b : ℕ) → digit b ≡ true → kind b ≡ Digit
unfolding kind
digit_kind b e =
    let r = digit_range b e in
    let x : leb 65 b ≡ false = lt-leb 65 b (omega (arith, r.1)) in
    let y : leb 97 b ≡ false = lt-leb 97 b (omega (arith, r.1)) in
    rw (x, y, e) refl

-- the test that a kind has passed
abbrev Passed : Bool → Bool → Bool → Bool → Bool → Kind → Type 0
Passed d h p g s Letter = Unit {0}
Passed d h p g s Digit = d ≡ true
Passed d h p g s Hyphen = h ≡ true
Passed d h p g s Point = p ≡ true
Passed d h p g s Less = Unit {0}
Passed d h p g s Greater = g ≡ true
Passed d h p g s Slash = s ≡ true
Passed d h p g s Blank = Unit {0}
Passed d h p g s Other = Unit {0}

passed : (l d h p a b c e : Bool) → Passed d h p b c (cond l Letter (cond d Digit (cond h Hyphen (cond p Point (cond a Less (cond b Greater (cond c Slash (cond e Blank Other))))))))
passed true d h p a b c e = tt
passed false true h p a b c e = refl
passed false false true p a b c e = refl
passed false false false true a b c e = refl
passed false false false false true b c e = tt
passed false false false false false true c e = refl
passed false false false false false false true e = refl
passed false false false false false false false true = tt
passed false false false false false false false false = tt

otherwise : (x : Bool) → (x ≡ true → ⊥) → x ≡ false
otherwise true f = absurd (f refl)
otherwise false f = refl

module _ (b : ℕ) (k : Kind) (e : k ≡ kind b) where
  kind_passed : (m : Kind) → k ≡ m → Passed (digit b) (eqb b 45) (eqb b 46) (eqb b 62) (eqb b 47) m
  unfolding kind
  kind_passed m f =
      subst (Passed (digit b) (eqb b 45) (eqb b 46) (eqb b 62) (eqb b 47)) (sym e ∙ f)
      (passed (letter b) (digit b) (eqb b 45) (eqb b 46) (eqb b 60) (eqb b 62) (eqb b 47) (blank b))

  pub is_digit : k ≡ Digit → digit b ≡ true
  is_digit f = kind_passed Digit f

  pub is_point : k ≡ Point → eqb b 46 ≡ true
  is_point f = kind_passed Point f

  pub is_hyphen : k ≡ Hyphen → eqb b 45 ≡ true
  is_hyphen f = kind_passed Hyphen f

  pub is_slash : k ≡ Slash → eqb b 47 ≡ true
  is_slash f = kind_passed Slash f

  pub is_greater : k ≡ Greater → eqb b 62 ≡ true
  is_greater f = kind_passed Greater f

  pub no_digit : (k ≡ Digit → ⊥) → digit b ≡ false
  no_digit f = otherwise (digit b) (λ d. f (e ∙ digit_kind b d))

  pub no_point : (k ≡ Point → ⊥) → eqb b 46 ≡ false
  unfolding kind
  no_point f = otherwise (eqb b 46) (λ d. f (e ∙ ap kind (eqb-true b 46 d)))

  pub no_hyphen : (k ≡ Hyphen → ⊥) → eqb b 45 ≡ false
  unfolding kind
  no_hyphen f = otherwise (eqb b 45) (λ d. f (e ∙ ap kind (eqb-true b 45 d)))

  pub no_slash : (k ≡ Slash → ⊥) → eqb b 47 ≡ false
  unfolding kind
  no_slash f = otherwise (eqb b 47) (λ d. f (e ∙ ap kind (eqb-true b 47 d)))

  pub no_greater : (k ≡ Greater → ⊥) → eqb b 62 ≡ false
  unfolding kind
  no_greater f = otherwise (eqb b 62) (λ d. f (e ∙ ap kind (eqb-true b 62 d)))
