-- Each word of a content walks through its sets. Assumes nothing.
use Rattle.std.proofs.Common.{◌≡◌, ℕ, true, List, [], ◌∷◌, ◌++◌, refl, eq-eqb}
use Rattle.contents.specs.Contents.{Content, seq, alt, star, plus, opt, Word, w_empty, w_item, w_seq, w_left, w_right, w_none, w_more, w_plus, w_skip, w_some}
use Rattle.contents.specs.Sets.{nullable, opens, closes, follows, Run, Local}
use Rattle.std.proofs.lemmas.Bool.{or_left, or_right, and_from}

-- c's sets lie within d's
pub record Within (c d : Content ℕ) : Type 0 where
  pub closing : (p : ℕ) → closes c p ≡ true → closes d p ≡ true
  pub following : (p q : ℕ) → follows c p q ≡ true → follows d p q ≡ true

pub run_within : {c d : Content ℕ} → Within c d → (p : ℕ) (w : List ℕ) → Run c p w → Run d p w
run_within s p [] r = s.closing p r
run_within s p (q ∷ w) r = (s.following p q r.0, run_within s q w r.1)

-- a walk through c and then, by a step from c's last, a walk through d
pub run_on : (c d : Content ℕ) → ((p q : ℕ) → follows c p q ≡ true → follows d p q ≡ true)
    → (q : ℕ) (v : List ℕ) → ((p : ℕ) → closes c p ≡ true → follows d p q ≡ true) → Run d q v
    → (p : ℕ) (u : List ℕ) → Run c p u → Run d p (u ++ q ∷ v)
run_on c d f q v step rest p [] r = (step p r, rest)
run_on c d f q v step rest p (x ∷ u) r = (f p x r.0, run_on c d f q v step rest x u r.1)

-- the same where what follows is empty
pub run_stop : {c d : Content ℕ} → Within c d → (p : ℕ) (u : List ℕ) → Run c p u → Run d p (u ++ [])
run_stop s p [] r = s.closing p r
run_stop s p (q ∷ u) r = (s.following p q r.0, run_stop s q u r.1)

seq_right : (a b : Content ℕ) → Within b (seq a b)
seq_right a b = record {
  closing = λ p e. or_left (closes b p) _ e;
  following = λ p q e. or_right (follows a p q) _ (or_left (follows b p q) _ e);
}

seq_left : (a b : Content ℕ) → nullable b ≡ true → Within a (seq a b)
seq_left a b n = record {
  closing = λ p e. or_right (closes b p) _ (and_from (nullable b) _ n e);
  following = λ p q e. or_left (follows a p q) _ e;
}

seq_local : (a b : Content ℕ) (u v : List ℕ) → Local a u → Local b v → Local (seq a b) (u ++ v)
seq_local a b [] [] l m = and_from (nullable a) _ l m
seq_local a b [] (q ∷ v) l m = (or_right (opens a q) _ (and_from (nullable a) _ l m.0), run_within (seq_right a b) q v m.1)
seq_local a b (p ∷ u) [] l m = (or_left (opens a p) _ l.0, run_stop (seq_left a b m) p u l.1)
seq_local a b (p ∷ u) (q ∷ v) l m = (
  or_left (opens a p) _ l.0,
  run_on a (seq a b) (λ x y e. or_left (follows a x y) _ e) q v
      (λ x e. or_right (follows a x q) _ (or_right (follows b x q) _ (and_from (closes a x) _ e m.0)))
      (run_within (seq_right a b) q v m.1) p u l.1,
)

alt_left : (a b : Content ℕ) → Within a (alt a b)
alt_left a b = record { closing = λ p e. or_left (closes a p) _ e; following = λ p q e. or_left (follows a p q) _ e }

alt_right : (a b : Content ℕ) → Within b (alt a b)
alt_right a b = record { closing = λ p e. or_right (closes a p) _ e; following = λ p q e. or_right (follows a p q) _ e }

left_local : (a b : Content ℕ) (u : List ℕ) → Local a u → Local (alt a b) u
left_local a b [] l = or_left (nullable a) _ l
left_local a b (p ∷ u) l = (or_left (opens a p) _ l.0, run_within (alt_left a b) p u l.1)

right_local : (a b : Content ℕ) (u : List ℕ) → Local b u → Local (alt a b) u
right_local a b [] l = or_right (nullable a) _ l
right_local a b (p ∷ u) l = (or_right (opens a p) _ l.0, run_within (alt_right a b) p u l.1)

within_star : (a : Content ℕ) → Within a (star a)
within_star a = record { closing = λ p e. e; following = λ p q e. or_left (follows a p q) _ e }

more_local : (a : Content ℕ) (u v : List ℕ) → Local a u → Local (star a) v → Local (star a) (u ++ v)
more_local a [] v l m = m
more_local a (p ∷ u) [] l m = (l.0, run_stop (within_star a) p u l.1)
more_local a (p ∷ u) (q ∷ v) l m = (
  l.0,
  run_on a (star a) (λ x y e. or_left (follows a x y) _ e) q v
      (λ x e. or_right (follows a x q) _ (and_from (closes a x) _ e m.0)) m.1 p u l.1,
)

star_plus : (a : Content ℕ) → Within (star a) (plus a)
star_plus a = record { closing = λ p e. e; following = λ p q e. e }

-- plus differs from star only at the empty word
plus_local : (a : Content ℕ) (u v : List ℕ) → Local a u → Local (star a) v → Local (plus a) (u ++ v)
plus_local a [] [] l m = l
plus_local a [] (q ∷ v) l m = (m.0, run_within (star_plus a) q v m.1)
plus_local a (p ∷ u) v l m =
    let r = more_local a (p ∷ u) v l m in (r.0, run_within (star_plus a) p (u ++ v) r.1)

within_opt : (a : Content ℕ) → Within a (opt a)
within_opt a = record { closing = λ p e. e; following = λ p q e. e }

some_local : (a : Content ℕ) (u : List ℕ) → Local a u → Local (opt a) u
some_local a [] l = refl
some_local a (p ∷ u) l = (l.0, run_within (within_opt a) p u l.1)

pub word_local : {c : Content ℕ} {w : List ℕ} → Word c w → Local c w
word_local w_empty = refl
word_local (w_item {p = p}) = (eq-eqb p p refl, eq-eqb p p refl)
word_local (w_seq {a = a} {b = b} {u = u} {v = v} x y) = seq_local a b u v (word_local x) (word_local y)
word_local (w_left {a = a} {b = b} {u = u} x) = left_local a b u (word_local x)
word_local (w_right {a = a} {b = b} {v = v} y) = right_local a b v (word_local y)
word_local w_none = refl
word_local (w_more {a = a} {u = u} {v = v} x y) = more_local a u v (word_local x) (word_local y)
word_local (w_plus {a = a} {u = u} {v = v} x y) = plus_local a u v (word_local x) (word_local y)
word_local w_skip = refl
word_local (w_some {a = a} {u = u} x) = some_local a u (word_local x)
