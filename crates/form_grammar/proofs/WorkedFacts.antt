-- The worked form, by computation.
use Rattle.std.proofs.Common.{◌≡◌, ℕ, false, List, [], ◌∷◌, sym, refl, ◌∙◌, inl, inr}
use mathlib.Core.Bool.{false≢true}
use Rattle.lexical.specs.Kinds.{kind}
use Rattle.lexical.specs.Numbers.{figures, first_point, fraction, thousandths, has_minus, exact}
use Rattle.lexical.specs.Words.{spelled}
use Rattle.pieces.specs.Cutting.{front, pieces_after}
use Rattle.contents.specs.Contents.{Content}
use Rattle.contents.specs.Sets.{Follows, follows}
use Rattle.contents.specs.Marking.{mark}
use Rattle.contents.proofs.Meanings.{sets_right}
use Rattle.form_grammar.specs.Texts.{rule_of, start_of}
use Rattle.form_grammar.specs.Worked.{wheel_parts, some_sets, worked, InOne, WorkedTexts, WorkedDepth, WorkedSets}
use Rattle.form_grammar.proofs.TextFacts.{rule_text, start_text, no_start_text}

pub worked_texts : WorkedTexts
unfolding rule_of start_of pieces_after front kind figures first_point fraction thousandths has_minus exact spelled
worked_texts = (rule_text _ _ refl, rule_text _ _ refl, rule_text _ _ refl, rule_text _ _ refl, rule_text _ _ refl, start_text _ _ refl)

pub worked_depth : WorkedDepth
unfolding start_of pieces_after front kind spelled
worked_depth = (start_text _ _ refl, no_start_text _ refl)

-- what the computed sets do not have in any content
abbrev Apart : ℕ → ℕ → List (Content ℕ) → Type 0
Apart p q [] = Unit {0}
Apart p q (c ∷ cs) = (follows c p q ≡ false) × Apart p q cs

apart : (p q : ℕ) (cs : List (Content ℕ)) → Apart p q cs → InOne (λ c. Follows c p q) cs → ⊥
apart p q [] h x = x
apart p q (c ∷ cs) h (inl x) = false≢true (sym h.0 ∙ ((sets_right c).3 p q).1 x)
apart p q (c ∷ cs) h (inr x) = apart p q cs h.1 x

pub worked_sets : WorkedSets
worked_sets = (
  inr (inl (((sets_right (mark 2 wheel_parts)).1 2).0 refl)),
  inr (inl (((sets_right (mark 2 wheel_parts)).2 3).0 refl)),
  inr (inl (((sets_right (mark 2 wheel_parts)).3 2 4).0 refl)),
  apart 3 4 worked (refl, (refl, (refl, (refl, (refl, (refl, tt)))))),
  inr (inr (inr (inr (inr (inl (((sets_right (mark 5 some_sets)).3 5 5).0 refl)))))),
)
