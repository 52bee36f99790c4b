-- A list has the entry of each complete node exactly where it begins with the entries of the grammar.
use Rattle.std.proofs.Common.{◌≡◌, ℕ, ◌+◌, ◌≤◌, List, [], ◌∷◌, ◌++◌, length, take, drop, set, sym, refl, ap, ◌∙◌, subst, append_assoc, arith, length-append, take-append-drop}
use lib.Seq.{set-get_or, get_or_at}
use Rattle.std.proofs.lemmas.List.{take_at}
use Rattle.record_text.specs.declared.entry.Entry.{Entry}
use Rattle.record_text.specs.Entries.{no_entry}
use Rattle.record_text.specs.Grammar.{Item, Content, nothing, blank, element, Element, hollow, around, holding}
use Rattle.record_text.specs.Machine.{elements}
use Rattle.record_text.specs.Opening.{Reads}
use Rattle.record_text.specs.Pass.{Done, completed, start, done, written, entries}
use Rattle.record_text.specs.Agree.{Has, Agrees}
use Rattle.record_text.proofs.Only.{items_are}
use Rattle.record_text.proofs.Fill.{outer, ending, ending_of, content_done, content_fill}

agrees-++ : (xs ys : List Done) (l : List Entry) → Agrees xs l → Agrees ys l → Agrees (xs ++ ys) l
agrees-++ [] ys l a b = b
agrees-++ (x ∷ xs) ys l a b = (a.0, agrees-++ xs ys l a.1 b)

-- where nothing differs, writing changes nothing
has_set : (l : List Entry) (k : ℕ) (e : Entry) → Has l k e → set l k e ≡ l
has_set l k e h = ap (set l k) (sym h.1) ∙ set-get_or l k no_entry

agrees_same : (xs : List Done) (l : List Entry) → Agrees xs l → written xs l ≡ l
agrees_same [] l a = refl
agrees_same (x ∷ xs) l a = ap (written xs) (has_set l x.0 x.1 a.0) ∙ agrees_same xs l a.1

-- the entries of the grammar agree with themselves
has_at : (A : List Entry) (e : Entry) (R : List Entry) (n : ℕ) → length A ≡ n → Has (A ++ e ∷ R) n e
has_at A e R n a = (omega (arith, length-append A (e ∷ R)), get_or_at A e R no_entry n a)

mutual
  ending_agrees : {p d : ℕ} {is : List Item} {es : List Entry} (c : Content p d is es) → (n : ℕ) (A B : List Entry) → length A ≡ n → Agrees (ending c n) (A ++ (es ++ B))
  ending_agrees nothing n A B a = tt
  ending_agrees (blank c x k) n A B a = ending_agrees c n A B a
  ending_agrees (element {es = es} {fs = fs} c e) n A B a =
      let a' : length (A ++ es) ≡ n + length es = omega (arith, length-append A es) in
      let q : A ++ ((es ++ fs) ++ B) ≡ A ++ (es ++ (fs ++ B)) = ap (λ l. A ++ l) (append_assoc es fs B) in
      subst (Agrees (ending c n ++ ending_of e (n + length es))) (sym q)
      (agrees-++ (ending c n) (ending_of e (n + length es)) _ (ending_agrees c n A (fs ++ B) a)
      (subst (Agrees (ending_of e (n + length es))) (append_assoc A es (fs ++ B)) (ending_of_agrees e (n + length es) (A ++ es) B a')))

  ending_of_agrees : {p d : ℕ} {js : List Item} {fs : List Entry} (e : Element p d js fs) → (n : ℕ) (A B : List Entry) → length A ≡ n → Agrees (ending_of e n) (A ++ (fs ++ B))
  ending_of_agrees (hollow w k) n A B a = (has_at A _ B n a, tt)
  ending_of_agrees (around {p} {d} {is} {es} w k c) n A B a =
      let y : Entry = outer p d is w in
      let a' : length (A ++ y ∷ []) ≡ n + 1 = omega (arith, length-append A (y ∷ [])) in
      agrees-++ (ending c (n + 1)) ((n, y) ∷ []) (A ++ y ∷ (es ++ B))
      (subst (Agrees (ending c (n + 1))) (append_assoc A (y ∷ []) (es ++ B)) (ending_agrees c (n + 1) (A ++ y ∷ []) B a'))
      (has_at A y (es ++ B) n a, tt)
  ending_of_agrees (holding w k P ds v e C) n A B a = (has_at A _ B n a, tt)

module _ (t : List ℕ) (es l : List Entry) (r : Reads t es) where
  -- what a pass writes
  pub entries_are : length es ≤ length l → entries t l ≡ es ++ drop (length es) l
  entries_are h = ap (λ is. written (done 0 start is) l) (items_are t r.0 r.1) ∙ content_fill r.2 l h

  pub begins_same : length es ≤ length l → take (length es) l ≡ es → entries t l ≡ l
  begins_same h e = entries_are h ∙ (ap (λ x. x ++ drop (length es) l) (sym e) ∙ take-append-drop (length es) l)

  pub agrees_begins : length es ≤ length l → Agrees (completed t) l → take (length es) l ≡ es
  agrees_begins h a = ap (take (length es)) (sym (agrees_same (completed t) l a) ∙ entries_are h) ∙ take_at es (drop (length es) l) (length es) refl

  pub begins_agrees : take (length es) l ≡ es → Agrees (completed t) l
  begins_agrees e =
      let c = ending_agrees r.2 0 [] (drop (length es) l) refl in
      let q : es ++ drop (length es) l ≡ l = ap (λ x. x ++ drop (length es) l) (sym e) ∙ take-append-drop (length es) l in
      subst (λ is. Agrees (done 0 start is) l) (sym (items_are t r.0 r.1))
      (subst (λ d. Agrees d l) (sym (content_done r.2 0 [] elements tt refl)) (subst (Agrees (ending r.2 0)) q c))
