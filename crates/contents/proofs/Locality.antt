-- What walks through a linear content's sets is a word of it. Assumes nothing.
use Rattle.std.proofs.Common.{◌≡◌, ℕ, Bool, true, false, ◌&&◌, ◌||◌, List, [], ◌∷◌, ◌++◌, sym, refl, ap, subst, inl, inr, eqb-true}
use Rattle.contents.specs.Contents.{Content, empty, item, seq, alt, star, plus, opt, items, Word, w_empty, w_item, w_seq, w_left, w_right, w_none, w_more, w_plus, w_skip, w_some}
use Rattle.contents.specs.Sets.{nullable, opens, closes, follows, Run, Local}
use Rattle.contents.specs.Marking.{Among, Once, Linear}
use Rattle.contents.specs.Laws.{LocalRule}
use Rattle.std.proofs.lemmas.Bool.{or_cases, and_parts}
use Rattle.contents.proofs.Sound.{Within, run_within, word_local}
use Rattle.contents.proofs.Meanings.{null_word}

-- lists

pub among_left : (p : ℕ) (xs ys : List ℕ) → Among p xs → Among p (xs ++ ys)
among_left p [] ys m = elim m [ ]
among_left p (x ∷ xs) ys m = elim m [ inl e ↦ inl e | inr n ↦ inr (among_left p xs ys n) ]

pub among_right : (p : ℕ) (xs ys : List ℕ) → Among p ys → Among p (xs ++ ys)
among_right p [] ys m = m
among_right p (x ∷ xs) ys m = inr (among_right p xs ys m)

pub once_left : (xs ys : List ℕ) → Once (xs ++ ys) → Once xs
once_left [] ys o = tt
once_left (x ∷ xs) ys o = ((λ m. o.0 (among_left x xs ys m)), once_left xs ys o.1)

pub once_right : (xs ys : List ℕ) → Once (xs ++ ys) → Once ys
once_right [] ys o = o
once_right (x ∷ xs) ys o = once_right xs ys o.1

pub once_apart : (xs ys : List ℕ) → Once (xs ++ ys) → (p : ℕ) → Among p xs → Among p ys → ⊥
once_apart [] ys o p m n = m
once_apart (x ∷ xs) ys o p m n =
    elim m [ inl e ↦ o.0 (among_right x xs ys (subst (λ k. Among k ys) e n)) | inr k ↦ once_apart xs ys o.1 p k n ]

-- what the sets speak of stands in the content

pub opens_item : (c : Content ℕ) (p : ℕ) → opens c p ≡ true → Among p (items c)
opens_item empty p e = cc
opens_item (item q) p e = inl (sym (eqb-true q p e))
opens_item (seq a b) p e =
    elim (or_cases (opens a p) (nullable a && opens b p) e) [
      | inl x ↦ among_left p (items a) (items b) (opens_item a p x)
      | inr y ↦ among_right p (items a) (items b) (opens_item b p (and_parts (nullable a) (opens b p) y).1)
    ]
opens_item (alt a b) p e =
    elim (or_cases (opens a p) (opens b p) e) [
      | inl x ↦ among_left p (items a) (items b) (opens_item a p x)
      | inr y ↦ among_right p (items a) (items b) (opens_item b p y)
    ]
opens_item (star a) p e = opens_item a p e
opens_item (plus a) p e = opens_item a p e
opens_item (opt a) p e = opens_item a p e

pub closes_item : (c : Content ℕ) (p : ℕ) → closes c p ≡ true → Among p (items c)
closes_item empty p e = cc
closes_item (item q) p e = inl (sym (eqb-true q p e))
closes_item (seq a b) p e =
    elim (or_cases (closes b p) (nullable b && closes a p) e) [
      | inl y ↦ among_right p (items a) (items b) (closes_item b p y)
      | inr x ↦ among_left p (items a) (items b) (closes_item a p (and_parts (nullable b) (closes a p) x).1)
    ]
closes_item (alt a b) p e =
    elim (or_cases (closes a p) (closes b p) e) [
      | inl x ↦ among_left p (items a) (items b) (closes_item a p x)
      | inr y ↦ among_right p (items a) (items b) (closes_item b p y)
    ]
closes_item (star a) p e = closes_item a p e
closes_item (plus a) p e = closes_item a p e
closes_item (opt a) p e = closes_item a p e

-- both ends of a step
pub follows_items : (c : Content ℕ) (p q : ℕ) → follows c p q ≡ true → Among p (items c) × Among q (items c)
follows_items empty p q e = cc
follows_items (item x) p q e = cc
follows_items (seq a b) p q e =
    elim (or_cases (follows a p q) (follows b p q || (closes a p && opens b q)) e) [
      | inl x ↦ let m = follows_items a p q x in (among_left p (items a) (items b) m.0, among_left q (items a) (items b) m.1)
      | inr z ↦ elim (or_cases (follows b p q) (closes a p && opens b q) z) [
        | inl y ↦ let m = follows_items b p q y in (among_right p (items a) (items b) m.0, among_right q (items a) (items b) m.1)
        | inr k ↦ let s = and_parts (closes a p) (opens b q) k in
            (among_left p (items a) (items b) (closes_item a p s.0), among_right q (items a) (items b) (opens_item b q s.1))
      ]
    ]
follows_items (alt a b) p q e =
    elim (or_cases (follows a p q) (follows b p q) e) [
      | inl x ↦ let m = follows_items a p q x in (among_left p (items a) (items b) m.0, among_left q (items a) (items b) m.1)
      | inr y ↦ let m = follows_items b p q y in (among_right p (items a) (items b) m.0, among_right q (items a) (items b) m.1)
    ]
follows_items (star a) p q e =
    elim (or_cases (follows a p q) (closes a p && opens a q) e) [
      | inl x ↦ follows_items a p q x
      | inr k ↦ let s = and_parts (closes a p) (opens a q) k in (closes_item a p s.0, opens_item a q s.1)
    ]
follows_items (plus a) p q e =
    elim (or_cases (follows a p q) (closes a p && opens a q) e) [
      | inl x ↦ follows_items a p q x
      | inr k ↦ let s = and_parts (closes a p) (opens a q) k in (closes_item a p s.0, opens_item a q s.1)
    ]
follows_items (opt a) p q e = follows_items a p q e

-- two parts that share no number

abbrev Apart : Content ℕ → Content ℕ → Type 0
Apart a b = (p : ℕ) → Among p (items a) → Among p (items b) → ⊥

-- a walk through one side of a choice stays there
choice_run : (a b : Content ℕ) → Apart a b → (p : ℕ) (w : List ℕ) → Among p (items a) → Run (alt a b) p w → Run a p w
choice_run a b apart p [] m r =
    elim (or_cases (closes a p) (closes b p) r) [ inl x ↦ x | inr y ↦ absurd (apart p m (closes_item b p y)) ]
choice_run a b apart p (q ∷ w) m r =
    elim (or_cases (follows a p q) (follows b p q) r.0) [
      | inl x ↦ (x, choice_run a b apart q w (follows_items a p q x).1 r.1)
      | inr y ↦ absurd (apart p m (follows_items b p q y).0)
    ]

or_swap : (a b : Bool) → (a || b) ≡ true → (b || a) ≡ true
or_swap true true e = e
or_swap true false e = e
or_swap false true e = e
or_swap false false e = e

swapped : (a b : Content ℕ) → Within (alt a b) (alt b a)
swapped a b = record {
  closing = λ p e. or_swap (closes a p) (closes b p) e;
  following = λ p q e. or_swap (follows a p q) (follows b p q) e;
}

-- a walk that has come to the second part of a sequence stays there
after_run : (a b : Content ℕ) → Apart a b → (p : ℕ) (w : List ℕ) → Among p (items b) → Run (seq a b) p w → Run b p w
after_run a b apart p [] m r =
    elim (or_cases (closes b p) (nullable b && closes a p) r) [
      | inl y ↦ y
      | inr x ↦ absurd (apart p (closes_item a p (and_parts (nullable b) (closes a p) x).1) m)
    ]
after_run a b apart p (q ∷ w) m r =
    elim (or_cases (follows a p q) (follows b p q || (closes a p && opens b q)) r.0) [
      | inl x ↦ absurd (apart p (follows_items a p q x).0 m)
      | inr z ↦ elim (or_cases (follows b p q) (closes a p && opens b q) z) [
        | inl y ↦ (y, after_run a b apart q w (follows_items b p q y).1 r.1)
        | inr k ↦ absurd (apart p (closes_item a p (and_parts (closes a p) (opens b q) k).0) m)
      ]
    ]

-- a walk that begins in the first part falls into a walk there and one through the second part
pub record Split (a : Content ℕ) (rest : List ℕ → Type 0) (p : ℕ) (w : List ℕ) : Type 0 where
  pub front : List ℕ
  pub back : List ℕ
  pub joined : front ++ back ≡ w
  pub front_runs : Run a p front
  pub back_is : rest back

further : (a : Content ℕ) (rest : List ℕ → Type 0) (p q : ℕ) (w : List ℕ) → follows a p q ≡ true → Split a rest q w → Split a rest p (q ∷ w)
further a rest p q w e s = record {
  front = q ∷ s.front;
  back = s.back;
  joined = ap (λ (v : List ℕ). q ∷ v) s.joined;
  front_runs = (e, s.front_runs);
  back_is = s.back_is;
}

over : (a : Content ℕ) (rest : List ℕ → Type 0) (p : ℕ) (w : List ℕ) → closes a p ≡ true → rest w → Split a rest p w
over a rest p w e t = record { front = []; back = w; joined = refl; front_runs = e; back_is = t }

seq_split : (a b : Content ℕ) → Apart a b → (p : ℕ) (w : List ℕ) → Among p (items a) → Run (seq a b) p w → Split a (Local b) p w
seq_split a b apart p [] m r =
    elim (or_cases (closes b p) (nullable b && closes a p) r) [
      | inl y ↦ absurd (apart p m (closes_item b p y))
      | inr x ↦ let s = and_parts (nullable b) (closes a p) x in over a (Local b) p [] s.1 s.0
    ]
seq_split a b apart p (q ∷ w) m r =
    elim (or_cases (follows a p q) (follows b p q || (closes a p && opens b q)) r.0) [
      | inl x ↦ further a (Local b) p q w x (seq_split a b apart q w (follows_items a p q x).1 r.1)
      | inr z ↦ elim (or_cases (follows b p q) (closes a p && opens b q) z) [
        | inl y ↦ absurd (apart p m (follows_items b p q y).0)
        | inr k ↦ let s = and_parts (closes a p) (opens b q) k in
            over a (Local b) p (q ∷ w) s.0 (s.1, after_run a b apart q w (opens_item b q s.1) r.1)
      ]
    ]

-- what is shown of each part by induction
abbrev Reads : Content ℕ → Type 0
Reads c = (w : List ℕ) → Local c w → Word c w

seq_reads : (a b : Content ℕ) → Apart a b → Reads a → Reads b → Reads (seq a b)
seq_reads a b apart ra rb [] l = let s = and_parts (nullable a) (nullable b) l in w_seq (ra [] s.0) (rb [] s.1)
seq_reads a b apart ra rb (p ∷ w) l =
    elim (or_cases (opens a p) (nullable a && opens b p) l.0) [
      | inl x ↦ let s = seq_split a b apart p w (opens_item a p x) l.1 in
          subst (λ v. Word (seq a b) (p ∷ v)) s.joined (w_seq (ra (p ∷ s.front) (x, s.front_runs)) (rb s.back s.back_is))
      | inr y ↦ let s = and_parts (nullable a) (opens b p) y in
          w_seq (ra [] s.0) (rb (p ∷ w) (s.1, after_run a b apart p w (opens_item b p s.1) l.1))
    ]

alt_reads : (a b : Content ℕ) → Apart a b → Reads a → Reads b → Reads (alt a b)
alt_reads a b apart ra rb [] l = null_word (alt a b) l
alt_reads a b apart ra rb (p ∷ w) l =
    elim (or_cases (opens a p) (opens b p) l.0) [
      | inl x ↦ w_left (ra (p ∷ w) (x, choice_run a b apart p w (opens_item a p x) l.1))
      | inr y ↦ w_right (rb (p ∷ w) (y, choice_run b a (λ k m n. apart k n m) p w (opens_item b p y) (run_within (swapped a b) p w l.1)))
    ]

-- a walk through a repetition: the rest of this turn, and then further turns
star_split : (a : Content ℕ) → Reads a → (p : ℕ) (w : List ℕ) → Run (star a) p w → Split a (Word (star a)) p w
star_split a ra p [] r = over a (Word (star a)) p [] r w_none
star_split a ra p (q ∷ w) r =
    let s = star_split a ra q w r.1 in
    elim (or_cases (follows a p q) (closes a p && opens a q) r.0) [
      | inl x ↦ further a (Word (star a)) p q w x s
      | inr k ↦ let e = and_parts (closes a p) (opens a q) k in
          over a (Word (star a)) p (q ∷ w) e.0
          (subst (λ v. Word (star a) (q ∷ v)) s.joined (w_more (ra (q ∷ s.front) (e.1, s.front_runs)) s.back_is))
    ]

star_reads : (a : Content ℕ) → Reads a → Reads (star a)
star_reads a ra [] l = w_none
star_reads a ra (p ∷ w) l =
    let s = star_split a ra p w l.1 in
    subst (λ v. Word (star a) (p ∷ v)) s.joined (w_more (ra (p ∷ s.front) (l.0, s.front_runs)) s.back_is)

plus_star : (a : Content ℕ) → Within (plus a) (star a)
plus_star a = record { closing = λ p e. e; following = λ p q e. e }

plus_reads : (a : Content ℕ) → Reads a → Reads (plus a)
plus_reads a ra [] l = w_plus (ra [] l) w_none
plus_reads a ra (p ∷ w) l =
    let s = star_split a ra p w (run_within (plus_star a) p w l.1) in
    subst (λ v. Word (plus a) (p ∷ v)) s.joined (w_plus (ra (p ∷ s.front) (l.0, s.front_runs)) s.back_is)

opt_within : (a : Content ℕ) → Within (opt a) a
opt_within a = record { closing = λ p e. e; following = λ p q e. e }

opt_reads : (a : Content ℕ) → Reads a → Reads (opt a)
opt_reads a ra [] l = w_skip
opt_reads a ra (p ∷ w) l = w_some (ra (p ∷ w) (l.0, run_within (opt_within a) p w l.1))

item_reads : (q : ℕ) → Reads (item q)
item_reads q [] l = cc
item_reads q (p ∷ []) l = subst (λ k. Word (item q) (k ∷ [])) (eqb-true q p l.0) w_item
item_reads q (p ∷ x ∷ w) l = cc

empty_reads : Reads empty
empty_reads [] l = w_empty
empty_reads (p ∷ w) l = cc

pub local_word : (c : Content ℕ) → Linear c → Reads c
local_word empty o = empty_reads
local_word (item q) o = item_reads q
local_word (seq a b) o =
    seq_reads a b (once_apart (items a) (items b) o) (local_word a (once_left (items a) (items b) o)) (local_word b (once_right (items a) (items b) o))
local_word (alt a b) o =
    alt_reads a b (once_apart (items a) (items b) o) (local_word a (once_left (items a) (items b) o)) (local_word b (once_right (items a) (items b) o))
local_word (star a) o = star_reads a (local_word a o)
local_word (plus a) o = plus_reads a (local_word a o)
local_word (opt a) o = opt_reads a (local_word a o)

pub local_language : LocalRule
local_language c o w = ((λ x. word_local x), local_word c o w)
