-- The nodes that a pass completes, in the order in which their elements end, and their entries: they are those of the grammar.
use Rattle.std.proofs.Common.{◌≡◌, ℕ, suc, ◌+◌, ◌≤◌, true, List, [], ◌∷◌, ◌++◌, length, drop, set, ℤ, sym, refl, ap, ◌∙◌, append_assoc, append-nil, arith, length-append, length-drop}
use mathlib.Core.Option.{some}
use Rattle.std.proofs.lemmas.List.{set_at, drop-drop, length_push}
use Rattle.lexical.specs.Words.{word}
use Rattle.lexical.proofs.NumberFacts.{number_rule}
use Rattle.record_text.specs.declared.entry.Entry.{Entry}
use Rattle.record_text.specs.Entries.{branch, leaf}
use Rattle.record_text.specs.Grammar.{Item, gap, num, bytes, text, size, opening, closing, alone, Blanks, no_blank, one_more, Content, nothing, blank, element, Element, hollow, around, holding}
use Rattle.record_text.specs.Machine.{Open, Held, blanks, elements, value, Shape, shape, opened, move_num, move, runs}
use Rattle.record_text.specs.Pass.{start, Done, entry_of, done_by_tag, done_by, done_after, done, written}
use Rattle.record_text.proofs.Sound.{after_some}
use Rattle.record_text.proofs.Read.{some_same}
use Rattle.record_text.proofs.Complete.{Free, size-++, content_run, opening_tag, closing_tag, alone_tag, open_move, close_move, alone_move, blanks_run}

-- the entry of a branch that has closed
abbrev pub outer : ℕ → ℕ → List Item → List ℕ → Entry
outer p d is w = branch p (p + size (opening w ∷ (is ++ closing w ∷ []))) (length w) d

-- the nodes of a derivation by the numbers from n on, in the order in which they end
abbrev mutual
  pub ending : {p d : ℕ} {is : List Item} {es : List Entry} → Content p d is es → ℕ → List Done
  ending nothing n = []
  ending (blank c b k) n = ending c n
  ending (element {es = es} c e) n = ending c n ++ ending_of e (n + length es)

  pub ending_of : {p d : ℕ} {js : List Item} {fs : List Entry} → Element p d js fs → ℕ → List Done
  ending_of (hollow {p} {d} w k) n = (n, branch p (p + size (alone w ∷ [])) (length w) d) ∷ []
  ending_of (around {p} {d} {is} w k c) n = ending c (n + 1) ++ (n, outer p d is w) ∷ []
  ending_of (holding {p} {d} {bs} {cs} w k P ds v e C) n = (n, leaf p (p + size (opening w ∷ (bs ++ num ds ∷ (cs ++ closing w ∷ [])))) (length w) d v) ∷ []

done-∷ : (p : ℕ) (s s' : Shape) (i : Item) (is : List Item) → move p s i ≡ some s' → done p s (i ∷ is) ≡ done_by p s i ++ done (p + length (bytes i)) s' is
done-∷ p s s' i is e = ap (λ o. done_after o (λ t. done_by p s i ++ done (p + length (bytes i)) t is)) e

done-++ : (p : ℕ) (s s' : Shape) (is js : List Item) → runs p s is ≡ some s' → done p s (is ++ js) ≡ done p s is ++ done (p + size is) s' js
done-++ p s s' [] js e =
    let q : p ≡ p + 0 = omega arith in
    ap (λ x. done p x js) (some_same s s' e) ∙ ap (λ n. done n s' js) q
done-++ p s s' (i ∷ is) js e =
    let r = after_some (move p s i) _ s' e in
    let k : ℕ = p + length (bytes i) in
    let q : k + size is ≡ p + size (i ∷ is) = omega (arith, length-append (bytes i) (text is)) in
    done-∷ p s r.0 i (is ++ js) r.1
    ∙ (ap (λ d. done_by p s i ++ d) (done-++ k r.0 s' is js r.2)
    ∙ (sym (append_assoc (done_by p s i) (done k r.0 is) (done (k + size is) s' js))
    ∙ (ap (λ n. (done_by p s i ++ done k r.0 is) ++ done n s' js) q
    ∙ ap (λ d. d ++ done (p + size (i ∷ is)) s' js) (sym (done-∷ p s r.0 i is r.1)))))

blanks_done : {bs : List Item} → Blanks bs → (p : ℕ) (s : Shape) → done p s bs ≡ []
blanks_done no_blank p s = refl
blanks_done (one_more {is} r b k) p s = done-++ p s s is (gap b ∷ []) (blanks_run r p s) ∙ ap (λ d. d ++ []) (blanks_done r p s)

module _ (p n : ℕ) (up : List Open) (h : Held) (w : List ℕ) (k : word w ≡ true) where
  open_done : done_by p (shape n up h) (opening w) ≡ []
  open_done = ap (done_by_tag p (p + length (bytes (opening w))) (shape n up h)) (opening_tag w k)

  alone_done : done_by p (shape n up h) (alone w) ≡ (n, branch p (p + length (bytes (alone w))) (length w) (length up)) ∷ []
  alone_done = ap (done_by_tag p (p + length (bytes (alone w))) (shape n up h)) (alone_tag w k)

  close_done : (q m : ℕ) → done_by p (shape n (opened w q m ∷ up) h) (closing w) ≡ (m, entry_of q h (p + length (bytes (closing w))) (length w) (length up)) ∷ []
  close_done q m = ap (done_by_tag p (p + length (bytes (closing w))) (shape n (opened w q m ∷ up) h)) (closing_tag w k)

size_one : (i : Item) → length (bytes i) ≡ size (i ∷ [])
size_one i = omega (arith, length-append (bytes i) [])

size_cons : (i : Item) (is : List Item) → size (i ∷ is) ≡ length (bytes i) + size is
size_cons i is = length-append (bytes i) (text is)

size_around : (w : List ℕ) (is : List Item) → size (opening w ∷ (is ++ closing w ∷ [])) ≡ length (bytes (opening w)) + size is + length (bytes (closing w))
size_around w is = omega (arith, size_cons (opening w) (is ++ closing w ∷ []), size-++ is (closing w ∷ []), size_one (closing w))

pub size_holding : (w : List ℕ) (bs : List Item) (ds : List ℕ) (cs : List Item) →
    size (opening w ∷ (bs ++ num ds ∷ (cs ++ closing w ∷ []))) ≡ length (bytes (opening w)) + size bs + length ds + size cs + length (bytes (closing w))
size_holding w bs ds cs =
    omega (arith, size_cons (opening w) (bs ++ num ds ∷ (cs ++ closing w ∷ [])), size-++ bs (num ds ∷ (cs ++ closing w ∷ [])), size_cons (num ds) (cs ++ closing w ∷ []), size-++ cs (closing w ∷ []), size_one (closing w))

branch_at : (p n q q' d d' : ℕ) → q ≡ q' → d ≡ d' → branch p q n d ≡ branch p q' n d'
branch_at p n q q' d d' e f = ap (λ x. branch p x n d) e ∙ ap (λ x. branch p q' n x) f

leaf_at : (p n : ℕ) (v : ℤ) (q q' d d' : ℕ) → q ≡ q' → d ≡ d' → leaf p q n d v ≡ leaf p q' n d' v
leaf_at p n v q q' d d' e f = ap (λ x. leaf p x n d v) e ∙ ap (λ x. leaf p q' n x v) f

entry_free : (o : Open) (h : Held) (q n d : ℕ) → Free h → entry_of o.place h q n d ≡ branch o.place q n d
entry_free o blanks q n d f = refl
entry_free o elements q n d f = refl
entry_free o (value v) q n d f = absurd f

one_done : (n : ℕ) (e e' : Entry) → e ≡ e' → ◌≡◌ {A = List Done} ((n, e) ∷ []) ((n, e') ∷ [])
one_done n e e' q = ap (λ x. (n, x) ∷ []) q

-- a pass over what the grammar derives completes its nodes
mutual
  pub content_done : {p d : ℕ} {is : List Item} {es : List Entry} (c : Content p d is es) → (n : ℕ) (up : List Open) (h : Held) → Free h → length up ≡ d →
      done p (shape n up h) is ≡ ending c n
  content_done nothing n up h f u = refl
  content_done (blank {p} {d} {is} {es} c b k) n up h f u =
      let r = content_run c n up h f in
      done-++ p (shape n up h) _ is (gap b ∷ []) r.2 ∙ (append-nil _ ∙ content_done c n up h f u)
  content_done (element {p} {d} {is} {es} {js} {fs} c e) n up h f u =
      let r = content_run c n up h f in
      done-++ p (shape n up h) _ is js r.2
      ∙ (ap (λ x. x ++ done (p + size is) (shape (n + length es) up r.0) js) (content_done c n up h f u)
      ∙ ap (λ x. ending c n ++ x) (element_done e (n + length es) up r.0 r.1 u))

  element_done : {p d : ℕ} {js : List Item} {fs : List Entry} (e : Element p d js fs) → (n : ℕ) (up : List Open) (h : Held) → Free h → length up ≡ d →
      done p (shape n up h) js ≡ ending_of e n
  element_done (hollow {p} {d} w k) n up h f u =
      let z : length (bytes (alone w)) ≡ size (alone w ∷ []) = size_one (alone w) in
      done-∷ p (shape n up h) _ (alone w) [] (alone_move p n up h w k f)
      ∙ (append-nil _
      ∙ (alone_done p n up h w k
      ∙ one_done n _ _ (branch_at p (length w) (p + length (bytes (alone w))) (p + size (alone w ∷ [])) (length up) d (omega arith) u)))
  element_done (around {p} {d} {is} {es} w k c) n up h f u =
      let q : ℕ = p + length (bytes (opening w)) in
      let o : Open = opened w p n in
      let r = content_run c (n + 1) (o ∷ up) blanks tt in
      let m : ℕ = n + 1 + length es in
      let z = size_around w is in
      let last : List Done = done (q + size is) (shape m (o ∷ up) r.0) (closing w ∷ []) in
      let closes : last ≡ (n, outer p d is w) ∷ [] =
      done-∷ (q + size is) (shape m (o ∷ up) r.0) (shape m up elements) (closing w) [] (close_move (q + size is) m up r.0 w k p n)
      ∙ (append-nil _
      ∙ (close_done (q + size is) m up r.0 w k p n
      ∙ one_done n _ _ (entry_free o r.0 _ _ _ r.1
      ∙ branch_at p (length w) (q + size is + length (bytes (closing w))) (p + size (opening w ∷ (is ++ closing w ∷ []))) (length up) d (omega arith) u))) in
      done-∷ p (shape n up h) (shape (n + 1) (o ∷ up) blanks) (opening w) (is ++ closing w ∷ []) (open_move p n up h w k f)
      ∙ (ap (λ x. x ++ done q (shape (n + 1) (o ∷ up) blanks) (is ++ closing w ∷ [])) (open_done p n up h w k)
      ∙ (done-++ q (shape (n + 1) (o ∷ up) blanks) (shape m (o ∷ up) r.0) is (closing w ∷ []) r.2
      ∙ (ap (λ x. x ++ last) (content_done c (n + 1) (o ∷ up) blanks tt (ap suc u)) ∙ ap (λ x. ending c (n + 1) ++ x) closes)))
  element_done (holding {p} {d} {bs} {cs} w k P ds v e C) n up h f u =
      let q : ℕ = p + length (bytes (opening w)) in
      let o : Open = opened w p n in
      let s : Shape = shape (n + 1) (o ∷ up) blanks in
      let s' : Shape = shape (n + 1) (o ∷ up) (value v) in
      let q₁ : ℕ = q + size bs in
      let q₂ : ℕ = q₁ + length ds in
      let q₃ : ℕ = q₂ + size cs in
      let z = size_holding w bs ds cs in
      done-∷ p (shape n up h) s (opening w) (bs ++ num ds ∷ (cs ++ closing w ∷ [])) (open_move p n up h w k f)
      ∙ (ap (λ x. x ++ done q s (bs ++ num ds ∷ (cs ++ closing w ∷ []))) (open_done p n up h w k)
      ∙ (done-++ q s s bs (num ds ∷ (cs ++ closing w ∷ [])) (blanks_run P q s)
      ∙ (ap (λ x. x ++ done q₁ s (num ds ∷ (cs ++ closing w ∷ []))) (blanks_done P q s)
      ∙ (done-∷ q₁ s s' (num ds) (cs ++ closing w ∷ []) (ap (move_num s blanks) ((number_rule ds v).1 e))
      ∙ (done-++ q₂ s' s' cs (closing w ∷ []) (blanks_run C q₂ s')
      ∙ (ap (λ x. x ++ done q₃ s' (closing w ∷ [])) (blanks_done C q₂ s')
      ∙ (done-∷ q₃ s' (shape (n + 1) up elements) (closing w) [] (close_move q₃ (n + 1) up (value v) w k p n)
      ∙ (append-nil _
      ∙ (close_done q₃ (n + 1) up (value v) w k p n
      ∙ one_done n _ _ (leaf_at p (length w) v (q₃ + length (bytes (closing w))) (p + size (opening w ∷ (bs ++ num ds ∷ (cs ++ closing w ∷ [])))) (length up) d (omega arith) u))))))))))

-- written into a list: the entries of the grammar after A
written-++ : (xs ys : List Done) (l : List Entry) → written (xs ++ ys) l ≡ written ys (written xs l)
written-++ [] ys l = refl
written-++ (x ∷ xs) ys l = written-++ xs ys (set l x.0 x.1)

abbrev over_write : List Entry → List Entry → List Entry → List Entry
over_write A es B = A ++ (es ++ drop (length es) B)

-- the first entry after A
front_fill : (A : List Entry) (e : Entry) (B : List Entry) (n : ℕ) → length A ≡ n → 1 ≤ length B → set (A ++ B) n e ≡ A ++ e ∷ drop 1 B
front_fill A e [] n a b = absurd (omega arith)
front_fill A e (x ∷ B) n a b = set_at A x B e n a

mutual
  ending_fill : {p d : ℕ} {is : List Item} {es : List Entry} (c : Content p d is es) → (n : ℕ) (A B : List Entry) → length A ≡ n → length es ≤ length B →
      written (ending c n) (A ++ B) ≡ over_write A es B
  ending_fill nothing n A B a b = refl
  ending_fill (blank c x k) n A B a b = ending_fill c n A B a b
  ending_fill (element {es = es} {fs = fs} c e) n A B a b =
      let l : length (es ++ fs) ≡ length es + length fs = length-append es fs in
      let a' : length (A ++ es) ≡ n + length es = omega (arith, length-append A es) in
      let b' : length fs ≤ length (drop (length es) B) = omega (arith, length-drop (length es) B) in
      written-++ (ending c n) (ending_of e (n + length es)) (A ++ B)
      ∙ (ap (written (ending_of e (n + length es))) (ending_fill c n A B a (omega arith) ∙ sym (append_assoc A es (drop (length es) B)))
      ∙ (ending_of_fill e (n + length es) (A ++ es) (drop (length es) B) a' b'
      ∙ (ap (λ x. (A ++ es) ++ (fs ++ x)) (drop-drop (length fs) (length es) B ∙ ap (λ m. drop m B) (sym l)) ∙ simp append_assoc)))

  ending_of_fill : {p d : ℕ} {js : List Item} {fs : List Entry} (e : Element p d js fs) → (n : ℕ) (A B : List Entry) → length A ≡ n → length fs ≤ length B →
      written (ending_of e n) (A ++ B) ≡ over_write A fs B
  ending_of_fill (hollow w k) n A B a b = front_fill A _ B n a b
  ending_of_fill (around w k c) n A [] a b = absurd (omega arith)
  ending_of_fill (around {p} {d} {is} {es} w k c) n A (x ∷ B) a b =
      let y : Entry = outer p d is w in
      let a' : length (A ++ x ∷ []) ≡ n + 1 = omega (arith, length_push A x) in
      written-++ (ending c (n + 1)) ((n, y) ∷ []) (A ++ x ∷ B)
      ∙ (ap (λ l. set l n y) (ap (written (ending c (n + 1))) (sym (append_assoc A (x ∷ []) B)) ∙ (ending_fill c (n + 1) (A ++ x ∷ []) B a' (omega arith) ∙ append_assoc A (x ∷ []) (es ++ drop (length es) B)))
      ∙ set_at A x (es ++ drop (length es) B) y n a)
  ending_of_fill (holding w k P ds v e C) n A B a b = front_fill A _ B n a b

pub content_fill : {is : List Item} {es : List Entry} → Content 0 0 is es → (l : List Entry) → length es ≤ length l → written (done 0 start is) l ≡ es ++ drop (length es) l
content_fill c l b = ap (λ d. written d l) (content_done c 0 [] elements tt refl) ∙ ending_fill c 0 [] l refl b
