-- The computed sets mean what they are to mean. Assumes nothing.
use Rattle.std.proofs.Common.{◌≡◌, ℕ, true, ◌&&◌, ◌||◌, List, [], ◌∷◌, ◌++◌, sym, ap, subst, inl, inr, append-nil, append_assoc, eqb-true}
use Rattle.contents.specs.Contents.{Content, empty, item, seq, alt, star, plus, opt, Word, w_empty, w_item, w_seq, w_left, w_right, w_none, w_more, w_plus, w_skip, w_some}
use Rattle.contents.specs.Sets.{Nullable, Opens, Closes, Follows, nullable, opens, closes, follows, Run, Local}
use Rattle.contents.specs.Laws.{HasWords, SetsRule}
use Rattle.std.proofs.lemmas.Bool.{or_cases, and_parts}
use Rattle.contents.proofs.Sound.{word_local}

pub alive : HasWords
alive empty = ([], w_empty)
alive (item p) = (p ∷ [], w_item)
alive (seq a b) = let x = alive a in let y = alive b in (x.0 ++ y.0, w_seq x.1 y.1)
alive (alt a b) = let x = alive a in (x.0, w_left x.1)
alive (star a) = ([], w_none)
alive (plus a) = let x = alive a in (x.0 ++ [], w_plus x.1 w_none)
alive (opt a) = ([], w_skip)

-- what a walk shows of its last and of its neighbours
run_last : (c : Content ℕ) (x p : ℕ) (u : List ℕ) → Run c x (u ++ p ∷ []) → closes c p ≡ true
run_last c x p [] r = r.1
run_last c x p (y ∷ u) r = run_last c y p u r.1

local_last : (c : Content ℕ) (p : ℕ) (u : List ℕ) → Local c (u ++ p ∷ []) → closes c p ≡ true
local_last c p [] l = l.1
local_last c p (y ∷ u) l = run_last c y p u l.1

run_pair : (c : Content ℕ) (x p q : ℕ) (u v : List ℕ) → Run c x (u ++ p ∷ q ∷ v) → follows c p q ≡ true
run_pair c x p q [] v r = r.1.0
run_pair c x p q (y ∷ u) v r = run_pair c y p q u v r.1

local_pair : (c : Content ℕ) (p q : ℕ) (u v : List ℕ) → Local c (u ++ p ∷ q ∷ v) → follows c p q ≡ true
local_pair c p q [] v l = l.1.0
local_pair c p q (y ∷ u) v l = run_pair c y p q u v l.1

moved : {c : Content ℕ} {u v : List ℕ} → u ≡ v → Word c u → Word c v
moved {c} e x = subst (Word c) e x

pub null_word : (c : Content ℕ) → nullable c ≡ true → Nullable c
null_word empty e = w_empty
null_word (item p) e = cc
null_word (seq a b) e = let s = and_parts (nullable a) (nullable b) e in w_seq (null_word a s.0) (null_word b s.1)
null_word (alt a b) e =
    elim (or_cases (nullable a) (nullable b) e) [ inl x ↦ w_left (null_word a x) | inr y ↦ w_right (null_word b y) ]
null_word (star a) e = w_none
null_word (plus a) e = w_plus (null_word a e) w_none
null_word (opt a) e = w_skip

open_word : (c : Content ℕ) (p : ℕ) → opens c p ≡ true → Opens c p
open_word empty p e = cc
open_word (item q) p e = ([], moved (ap (λ (x : ℕ). x ∷ []) (eqb-true q p e)) w_item)
open_word (seq a b) p e =
    elim (or_cases (opens a p) (nullable a && opens b p) e) [
      | inl x ↦ let l = open_word a p x in let y = alive b in (l.0 ++ y.0, w_seq l.1 y.1)
      | inr y ↦ let s = and_parts (nullable a) (opens b p) y in let r = open_word b p s.1 in (r.0, w_seq (null_word a s.0) r.1)
    ]
open_word (alt a b) p e =
    elim (or_cases (opens a p) (opens b p) e) [
      | inl x ↦ let l = open_word a p x in (l.0, w_left l.1)
      | inr y ↦ let r = open_word b p y in (r.0, w_right r.1)
    ]
open_word (star a) p e = let l = open_word a p e in (l.0 ++ [], w_more l.1 w_none)
open_word (plus a) p e = let l = open_word a p e in (l.0 ++ [], w_plus l.1 w_none)
open_word (opt a) p e = let l = open_word a p e in (l.0, w_some l.1)

close_word : (c : Content ℕ) (p : ℕ) → closes c p ≡ true → Closes c p
close_word empty p e = cc
close_word (item q) p e = ([], moved (ap (λ (x : ℕ). x ∷ []) (eqb-true q p e)) w_item)
close_word (seq a b) p e =
    elim (or_cases (closes b p) (nullable b && closes a p) e) [
      | inl y ↦ let x = alive a in let r = close_word b p y in
          (x.0 ++ r.0, moved (sym (append_assoc x.0 r.0 (p ∷ []))) (w_seq x.1 r.1))
      | inr z ↦ let s = and_parts (nullable b) (closes a p) z in let l = close_word a p s.1 in
          (l.0, moved (append-nil (l.0 ++ p ∷ [])) (w_seq l.1 (null_word b s.0)))
    ]
close_word (alt a b) p e =
    elim (or_cases (closes a p) (closes b p) e) [
      | inl x ↦ let l = close_word a p x in (l.0, w_left l.1)
      | inr y ↦ let r = close_word b p y in (r.0, w_right r.1)
    ]
close_word (star a) p e = let l = close_word a p e in (l.0, moved (append-nil (l.0 ++ p ∷ [])) (w_more l.1 w_none))
close_word (plus a) p e = let l = close_word a p e in (l.0, moved (append-nil (l.0 ++ p ∷ [])) (w_plus l.1 w_none))
close_word (opt a) p e = let l = close_word a p e in (l.0, w_some l.1)

follow_word : (c : Content ℕ) (p q : ℕ) → follows c p q ≡ true → Follows c p q
follow_word empty p q e = cc
follow_word (item x) p q e = cc
follow_word (seq a b) p q e =
    elim (or_cases (follows a p q) (follows b p q || (closes a p && opens b q)) e) [
      | inl x ↦ let l = follow_word a p q x in let y = alive b in
          (l.0, l.1 ++ y.0, moved (append_assoc l.0 (p ∷ q ∷ l.1) y.0) (w_seq l.2 y.1))
      | inr z ↦ elim (or_cases (follows b p q) (closes a p && opens b q) z) [
        | inl y ↦ let x = alive a in let r = follow_word b p q y in
            (x.0 ++ r.0, r.1, moved (sym (append_assoc x.0 r.0 (p ∷ q ∷ r.1))) (w_seq x.1 r.2))
        | inr k ↦ let s = and_parts (closes a p) (opens b q) k in let l = close_word a p s.0 in let r = open_word b q s.1 in
            (l.0, r.0, moved (append_assoc l.0 (p ∷ []) (q ∷ r.0)) (w_seq l.1 r.1))
      ]
    ]
follow_word (alt a b) p q e =
    elim (or_cases (follows a p q) (follows b p q) e) [
      | inl x ↦ let l = follow_word a p q x in (l.0, l.1, w_left l.2)
      | inr y ↦ let r = follow_word b p q y in (r.0, r.1, w_right r.2)
    ]
follow_word (star a) p q e =
    elim (or_cases (follows a p q) (closes a p && opens a q) e) [
      | inl x ↦ let l = follow_word a p q x in (l.0, l.1, moved (append-nil (l.0 ++ p ∷ q ∷ l.1)) (w_more l.2 w_none))
      | inr k ↦ let s = and_parts (closes a p) (opens a q) k in let l = close_word a p s.0 in let r = open_word a q s.1 in
          (l.0, r.0 ++ [], moved (append_assoc l.0 (p ∷ []) ((q ∷ r.0) ++ [])) (w_more l.1 (w_more r.1 w_none)))
    ]
follow_word (plus a) p q e =
    elim (or_cases (follows a p q) (closes a p && opens a q) e) [
      | inl x ↦ let l = follow_word a p q x in (l.0, l.1, moved (append-nil (l.0 ++ p ∷ q ∷ l.1)) (w_plus l.2 w_none))
      | inr k ↦ let s = and_parts (closes a p) (opens a q) k in let l = close_word a p s.0 in let r = open_word a q s.1 in
          (l.0, r.0 ++ [], moved (append_assoc l.0 (p ∷ []) ((q ∷ r.0) ++ [])) (w_plus l.1 (w_more r.1 w_none)))
    ]
follow_word (opt a) p q e = let l = follow_word a p q e in (l.0, l.1, w_some l.2)

pub sets_right : SetsRule
sets_right c = (
  (null_word c, λ x. word_local x),
  (λ p. (open_word c p, λ x. (word_local x.1).0)),
  (λ p. (close_word c p, λ x. local_last c p x.0 (word_local x.1))),
  λ p q. (follow_word c p q, λ x. local_pair c p q x.0 x.1 (word_local x.2)),
)
