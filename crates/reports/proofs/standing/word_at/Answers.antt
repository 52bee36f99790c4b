use Rattle.std.proofs.Common.{◌≡◌, ℕ, suc, ◌+◌, ◌≤◌, Bool, true, false, not, cond, ltb, List, [], ◌∷◌, length, take, Some, None, Option as Maybe, sym, refl, ap, subst, inl, inr, ◌∙◌, arith, take_all}
use Rattle.std.specs.List.{position, position_or_len}
use Rattle.std.specs.Option.{MatchOption}
use Rattle.std.proofs.lemmas.Bool.{cases_Bool, ltb-false}
use Rattle.lexical.specs.Kinds.{kind}
use Rattle.lexical.specs.Words.{continues_word}
use Rattle.reports.specs.Standing.{word_front}
use Rattle.reports.proofs.standing.word_at.Goals as goal

abbrev ends : ℕ → Bool
ends b = not (continues_word (kind b))

front_is : (s : List ℕ) → take (position_or_len ends s) s ≡ word_front s
front_is [] = refl
front_is (b ∷ bs) =
    let n : ℕ = position_or_len ends bs in
    let e : 1 + n ≡ suc n = omega arith in
    elim (continues_word (kind b)) as (λ x. take (cond (not (not x)) (1 + position_or_len ends bs) 0) (b ∷ bs) ≡ cond x (b ∷ word_front bs) []) [
      | true ↦ ap (λ k. take k (b ∷ bs)) e ∙ ap (λ l. b ∷ l) (front_is bs)
      | false ↦ refl
    ]

-- where the code ends the front
at_end : (s : List ℕ) (o : Maybe ℕ) → o ≡ position ends s → MatchOption o (s ≡ word_front s) (λ e. take e s ≡ word_front s)
at_end s o e =
    let n : ℕ = position_or_len ends s in
    elim (cases_Bool (ltb n (length s))) [
      | inl t ↦ subst (λ x. MatchOption x (s ≡ word_front s) (λ k. take k s ≡ word_front s)) (sym (e ∙ ap (λ b. cond b (Some n) None) t)) (front_is s)
      | inr f ↦
          let l : length s ≤ n = ltb-false n (length s) f in
          subst (λ x. MatchOption x (s ≡ word_front s) (λ k. take k s ≡ word_front s)) (sym (e ∙ ap (λ b. cond b (Some n) None) f)) (sym (take_all n s l) ∙ front_is s)
    ]

pub returns-in-Some : goal.returns-in-Some
returns-in-Some c = at_end c.args.bytes.now (Some c.in-Some.end) c.in-Some.ensures

pub returns-in-None : goal.returns-in-None
returns-in-None c = at_end c.args.bytes.now None c.in-None.ensures
