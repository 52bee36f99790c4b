-- The forms of a tag, and what its reading does.
use Rattle.std.specs.Prelude.{Option as Maybe, Result}
use Rattle.std.specs.Bool.{then_some}
use Rattle.std.proofs.Common.{◌≡◌, ℕ, Bool, true, false, cond, ◌++◌, ◌+◌, List, [], ◌∷◌, length, sym, refl, ap, ◌∙◌, subst, arith}
use Rattle.std.proofs.lemmas.List.{take_at, length_push}
use Rattle.refusals.specs.declared.Refusal.{Refusal}
use Rattle.record_text.specs.Grammar.{tag, bytes}
use Rattle.record_text.specs.Machine.{Shape, Tag, opens, closes, whole, bad, named, tag_of}
use Rattle.record_text.specs.Reading.{slash_first, slash_last}
use Rattle.record_text.specs.declared.tags.Tag.{Tag as Told}
use Rattle.record_text.specs.declared.tags.Tag.TheVariants.{Opening, Closing, Alone}
use Rattle.record_text.specs.Tags.{named_as, told, name_in, Slashed}
use Rattle.record_text.proofs.Complete.{no_word}
use Rattle.lexical.specs.Words.{word}
use lib.Seq.{get_or_at}
use Rattle.record_text.specs.Pass.{Done}
use Rattle.record_text.specs.Turns.{Went, WentTag}

-- the slashes of a body and the name between them
module _ (f : List ℕ → Tag) (w : List ℕ) (b : Bool) (k : b ≡ word w) where
  named_if : named f w ≡ cond b (f w) bad
  named_if = ap (λ y. cond y (f w) bad) (sym k)

slashed_opening : (w : List ℕ) (b : Bool) → b ≡ word w → slash_first w ≡ false → slash_last w ≡ false → tag_of w ≡ cond b (opens w) bad
unfolding tag_of
slashed_opening [] true k f l = absurd (no_word (sym k))
slashed_opening [] false k f l = refl
slashed_opening (x ∷ xs) b k f l = rw (f, l) (named_if opens (x ∷ xs) b k)

slashed_alone : (w : List ℕ) (b : Bool) → b ≡ word w → slash_first (w ++ 47 ∷ []) ≡ false → tag_of (w ++ 47 ∷ []) ≡ cond b (whole w) bad
unfolding tag_of
slashed_alone [] b k f = let z : ⊥ = cc in absurd z
slashed_alone (x ∷ xs) b k f =
    let n : length (x ∷ xs) ≡ length (xs ++ 47 ∷ []) = omega (arith, length_push xs 47) in
    rw (f, get_or_at (x ∷ xs) 47 [] 0 _ n, take_at (x ∷ xs) (47 ∷ []) _ n) (named_if whole (x ∷ xs) b k)

slashed_closing : (w : List ℕ) (b : Bool) → b ≡ word w → tag_of (47 ∷ w) ≡ cond b (closes w) bad
unfolding tag_of
slashed_closing w b k = named_if closes w b k

pub slashed : (bs : List ℕ) (x : Told) (b : Bool) → Slashed bs x → b ≡ word (name_in x) → told (then_some b x) ≡ tag_of bs
slashed bs x b h k = told_if b x ∙ sym (go x h k)
  where
    told_if : (b : Bool) (x : Told) → told (then_some b x) ≡ cond b (named_as x) bad
    told_if true x = refl
    told_if false x = refl

    go : (x : Told) → Slashed bs x → b ≡ word (name_in x) → tag_of bs ≡ cond b (named_as x) bad
    go (Opening w) h k = subst (λ l. tag_of l ≡ cond b (opens w.now) bad) h.2 (slashed_opening w.now b k (ap slash_first h.2 ∙ h.0) (ap slash_last h.2 ∙ h.1))
    go (Closing w) h k = subst (λ l. tag_of l ≡ cond b (closes w.now) bad) h (slashed_closing w.now b k)
    go (Alone w) h k = subst (λ l. tag_of l ≡ cond b (whole w.now) bad) h.1 (slashed_alone w.now b k (ap slash_first h.1 ∙ h.0))

pub went_as : (p q : ℕ) (s s' : Shape) (bs : List ℕ) (x : Tag) (r : Result (Maybe Done) Refusal) → tag_of bs ≡ x → p + length (bytes (tag bs)) ≡ q → WentTag p q s x s' r → Went p s (tag bs) s' r
went_as p q s s' bs x r e f w = subst (λ y. WentTag p (p + length (bytes (tag bs))) s y s' r) (sym e) (subst (λ n. WentTag p n s x s' r) (sym f) w)
