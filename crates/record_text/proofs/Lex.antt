-- A text is cut into items in one way, by one pass.
use Rattle.std.proofs.Common.{◌≡◌, ℕ, Bool, true, false, cond, not, T, eqb, List, [], ◌∷◌, ◌++◌, sym, refl, ap, ◌∙◌, subst, append_assoc, append-nil, T_not}
use lib.Dec.{eqb_refl}
use Rattle.std.proofs.lemmas.Bool.{eqb-true}
use Rattle.lexical.specs.declared.kinds.Kind.TheVariants.{Letter, Digit, Hyphen, Point, Less, Greater, Slash, Blank, Other}
use Rattle.lexical.specs.Kinds.{kind, letter, digit, blank}
use Rattle.record_text.specs.Grammar.{Item, gap, tag, num, stray, lone, text}
pub use Rattle.record_text.specs.Machine.{Phase, idle, in_tag, in_num, lex, items}
use Rattle.record_text.specs.Items.{Role, space, less, greater, figure, plain, of_kind, role, Figures, NoGreater, NotEmpty, Quits, Stray, Cut}

-- the bytes `<` and `>` are alone in their roles
abbrev code : Role → ℕ
code space = 0
code less = 1
code greater = 2
code figure = 3
code plain = 4

pub differ : (x y : Role) → T (not (eqb (code x) (code y))) → x ≡ y → ⊥
differ x y k e = T_not (eqb (code x) (code y)) k (subst (λ z. T (eqb (code x) (code z))) e (eqb_refl (code x)))

less_chain : (c1 c2 c3 c4 c5 c6 c7 c8 : Bool) → of_kind (cond c1 Letter (cond c2 Digit (cond c3 Hyphen (cond c4 Point (cond c5 Less (cond c6 Greater (cond c7 Slash (cond c8 Blank Other)))))))) ≡ less → c5 ≡ true
less_chain true c2 c3 c4 c5 c6 c7 c8 e = absurd (differ plain less tt e)
less_chain false true c3 c4 c5 c6 c7 c8 e = absurd (differ figure less tt e)
less_chain false false true c4 c5 c6 c7 c8 e = absurd (differ figure less tt e)
less_chain false false false true c5 c6 c7 c8 e = absurd (differ figure less tt e)
less_chain false false false false true c6 c7 c8 e = refl
less_chain false false false false false true c7 c8 e = absurd (differ greater less tt e)
less_chain false false false false false false true c8 e = absurd (differ plain less tt e)
less_chain false false false false false false false true e = absurd (differ space less tt e)
less_chain false false false false false false false false e = absurd (differ plain less tt e)

pub less_is : (b : ℕ) → role b ≡ less → b ≡ 60
unfolding role kind
less_is b e = eqb-true b 60 (less_chain (letter b) (digit b) (eqb b 45) (eqb b 46) (eqb b 60) (eqb b 62) (eqb b 47) (blank b) e)

greater_chain : (c1 c2 c3 c4 c5 c6 c7 c8 : Bool) → of_kind (cond c1 Letter (cond c2 Digit (cond c3 Hyphen (cond c4 Point (cond c5 Less (cond c6 Greater (cond c7 Slash (cond c8 Blank Other)))))))) ≡ greater → c6 ≡ true
greater_chain true c2 c3 c4 c5 c6 c7 c8 e = absurd (differ plain greater tt e)
greater_chain false true c3 c4 c5 c6 c7 c8 e = absurd (differ figure greater tt e)
greater_chain false false true c4 c5 c6 c7 c8 e = absurd (differ figure greater tt e)
greater_chain false false false true c5 c6 c7 c8 e = absurd (differ figure greater tt e)
greater_chain false false false false true c6 c7 c8 e = absurd (differ less greater tt e)
greater_chain false false false false false true c7 c8 e = refl
greater_chain false false false false false false true c8 e = absurd (differ plain greater tt e)
greater_chain false false false false false false false true e = absurd (differ space greater tt e)
greater_chain false false false false false false false false e = absurd (differ plain greater tt e)

pub greater_is : (b : ℕ) → role b ≡ greater → b ≡ 62
unfolding role kind
greater_is b e = eqb-true b 62 (greater_chain (letter b) (digit b) (eqb b 45) (eqb b 46) (eqb b 60) (eqb b 62) (eqb b 47) (blank b) e)

-- the pass at a byte of a known role
abbrev pub at_idle : Role → ℕ → List ℕ → List Item
at_idle r b t = elim r [ space ↦ gap b ∷ lex idle t | less ↦ lex (in_tag []) t | greater ↦ stray b ∷ lex idle t | figure ↦ lex (in_num (b ∷ [])) t | plain ↦ stray b ∷ lex idle t ]

abbrev pub at_tag : Role → List ℕ → ℕ → List ℕ → List Item
at_tag r bs b t = elim r [ space ↦ lex (in_tag (bs ++ b ∷ [])) t | less ↦ lex (in_tag (bs ++ b ∷ [])) t | greater ↦ tag bs ∷ lex idle t | figure ↦ lex (in_tag (bs ++ b ∷ [])) t | plain ↦ lex (in_tag (bs ++ b ∷ [])) t ]

abbrev pub at_num : Role → List ℕ → ℕ → List ℕ → List Item
at_num r ds b t = elim r [ space ↦ num ds ∷ (gap b ∷ lex idle t) | less ↦ num ds ∷ lex (in_tag []) t | greater ↦ num ds ∷ (stray b ∷ lex idle t) | figure ↦ lex (in_num (ds ++ b ∷ [])) t | plain ↦ num ds ∷ (stray b ∷ lex idle t) ]

-- one item of a cut
pub tag_on : (r : Role) (acc : List ℕ) (b : ℕ) (t : List ℕ) → (r ≡ greater → ⊥) → at_tag r acc b t ≡ lex (in_tag (acc ++ b ∷ [])) t
tag_on space acc b t k = refl
tag_on less acc b t k = refl
tag_on greater acc b t k = absurd (k refl)
tag_on figure acc b t k = refl
tag_on plain acc b t k = refl

greater_62 : role 62 ≡ greater
unfolding role kind
greater_62 = refl

pub less_60 : role 60 ≡ less
unfolding role kind
less_60 = refl

lex_tag : (acc bs t : List ℕ) → NoGreater bs → lex (in_tag acc) ((bs ++ 62 ∷ []) ++ t) ≡ tag (acc ++ bs) ∷ lex idle t
lex_tag acc [] t k = ap (λ r. at_tag r acc 62 t) greater_62 ∙ ap (λ x. tag x ∷ lex idle t) (sym (append-nil acc))
lex_tag acc (b ∷ bs) t k =
    tag_on (role b) acc b ((bs ++ 62 ∷ []) ++ t) k.0 ∙ (lex_tag (acc ++ b ∷ []) bs t k.1 ∙ ap (λ x. tag x ∷ lex idle t) (append_assoc acc (b ∷ []) bs))

lex_lone : (acc bs : List ℕ) → NoGreater bs → lex (in_tag acc) bs ≡ lone (acc ++ bs) ∷ []
lex_lone acc [] k = ap (λ x. lone x ∷ []) (sym (append-nil acc))
lex_lone acc (b ∷ bs) k =
    tag_on (role b) acc b bs k.0 ∙ (lex_lone (acc ++ b ∷ []) bs k.1 ∙ ap (λ x. lone x ∷ []) (append_assoc acc (b ∷ []) bs))

pub num_off : (r : Role) (ds : List ℕ) (b : ℕ) (t : List ℕ) → (r ≡ figure → ⊥) → at_num r ds b t ≡ num ds ∷ at_idle r b t
num_off space ds b t k = refl
num_off less ds b t k = refl
num_off greater ds b t k = refl
num_off figure ds b t k = absurd (k refl)
num_off plain ds b t k = refl

lex_quits : (ds t : List ℕ) → Quits t → lex (in_num ds) t ≡ num ds ∷ lex idle t
lex_quits ds [] k = refl
lex_quits ds (b ∷ t) k = num_off (role b) ds b t k

lex_num : (acc ds t : List ℕ) → Figures ds → Quits t → lex (in_num acc) (ds ++ t) ≡ num (acc ++ ds) ∷ lex idle t
lex_num acc [] t k q = lex_quits acc t q ∙ ap (λ x. num x ∷ lex idle t) (sym (append-nil acc))
lex_num acc (b ∷ ds) t k q =
    ap (λ r. at_num r acc b (ds ++ t)) k.0 ∙ (lex_num (acc ++ b ∷ []) ds t k.1 q ∙ ap (λ x. num x ∷ lex idle t) (append_assoc acc (b ∷ []) ds))

pub stray_at : (r : Role) (b : ℕ) (t : List ℕ) → Stray r → at_idle r b t ≡ stray b ∷ lex idle t
stray_at space b t k = absurd k
stray_at less b t k = absurd k
stray_at greater b t k = refl
stray_at figure b t k = absurd k
stray_at plain b t k = refl

-- a cut is what the pass gives
pub cut_lex : (is : List Item) → Cut is → lex idle (text is) ≡ is
cut_lex [] k = refl
cut_lex (gap b ∷ is) k = ap (λ r. at_idle r b (text is)) k.0 ∙ ap (λ l. gap b ∷ l) (cut_lex is k.1)
cut_lex (tag bs ∷ is) k = ap (λ r. at_idle r 60 ((bs ++ 62 ∷ []) ++ text is)) less_60 ∙ (lex_tag [] bs (text is) k.0 ∙ ap (λ l. tag bs ∷ l) (cut_lex is k.1))
cut_lex (num [] ∷ is) k = absurd k.0.0
cut_lex (num (b ∷ ds) ∷ is) k =
    ap (λ r. at_idle r b (ds ++ text is)) k.0.1.0 ∙ (lex_num (b ∷ []) ds (text is) k.0.1.1 k.0.2 ∙ ap (λ l. num (b ∷ ds) ∷ l) (cut_lex is k.1))
cut_lex (stray b ∷ is) k = stray_at (role b) b (text is) k.0 ∙ ap (λ l. stray b ∷ l) (cut_lex is k.1)
cut_lex (lone bs ∷ is) k =
    let e : text is ≡ [] = ap text k.0.1 in
    ap (λ r. at_idle r 60 (bs ++ text is)) less_60
    ∙ (ap (λ x. lex (in_tag []) (bs ++ x)) e ∙ (ap (lex (in_tag [])) (append-nil bs) ∙ (lex_lone [] bs k.0.0 ∙ ap (λ l. lone bs ∷ l) (sym k.0.1))))

-- what the pass gives is a cut
abbrev pending : Phase → List ℕ
pending idle = []
pending (in_tag bs) = 60 ∷ bs
pending (in_num ds) = ds

abbrev Ok_so_far : Phase → Type 0
Ok_so_far idle = Unit {0}
Ok_so_far (in_tag bs) = NoGreater bs
Ok_so_far (in_num ds) = NotEmpty ds × Figures ds

abbrev Cuts : List ℕ → List Item → Type 0
Cuts t is = (text is ≡ t) × Cut is

no_greater_push : (bs : List ℕ) (b : ℕ) → NoGreater bs → (role b ≡ greater → ⊥) → NoGreater (bs ++ b ∷ [])
no_greater_push [] b k h = (h, tt)
no_greater_push (c ∷ bs) b k h = (k.0, no_greater_push bs b k.1 h)

figures_push : (bs : List ℕ) (b : ℕ) → Figures bs → role b ≡ figure → Figures (bs ++ b ∷ [])
figures_push [] b k h = (h, tt)
figures_push (c ∷ bs) b k h = (k.0, figures_push bs b k.1 h)

not_empty_push : (bs : List ℕ) (b : ℕ) → NotEmpty (bs ++ b ∷ [])
not_empty_push [] b = tt
not_empty_push (c ∷ bs) b = tt

module _ (b : ℕ) (t : List ℕ) (ih : (ph : Phase) → Ok_so_far ph → Cuts (pending ph ++ t) (lex ph t)) where
  after_less : role b ≡ less → Cuts (b ∷ t) (lex (in_tag []) t)
  after_less e = let r = ih (in_tag []) tt in (r.0 ∙ ap (λ c. c ∷ t) (sym (less_is b e)), r.1)

  step_idle : (r : Role) → role b ≡ r → Cuts (b ∷ t) (at_idle r b t)
  step_idle space e = let r = ih idle tt in (ap (λ x. b ∷ x) r.0, (e, r.1))
  step_idle less e = after_less e
  step_idle greater e = let r = ih idle tt in (ap (λ x. b ∷ x) r.0, (subst Stray (sym e) tt, r.1))
  step_idle figure e = ih (in_num (b ∷ [])) (tt, (e, tt))
  step_idle plain e = let r = ih idle tt in (ap (λ x. b ∷ x) r.0, (subst Stray (sym e) tt, r.1))

  go_on_tag : (bs : List ℕ) → NoGreater bs → (role b ≡ greater → ⊥) → Cuts ((60 ∷ bs) ++ b ∷ t) (lex (in_tag (bs ++ b ∷ [])) t)
  go_on_tag bs k h =
      let r = ih (in_tag (bs ++ b ∷ [])) (no_greater_push bs b k h) in
      (r.0 ∙ append_assoc (60 ∷ bs) (b ∷ []) t, r.1)

  step_tag : (bs : List ℕ) → NoGreater bs → (r : Role) → role b ≡ r → Cuts ((60 ∷ bs) ++ b ∷ t) (at_tag r bs b t)
  step_tag bs k space e = go_on_tag bs k (λ h. differ space greater tt (sym e ∙ h))
  step_tag bs k less e = go_on_tag bs k (λ h. differ less greater tt (sym e ∙ h))
  step_tag bs k greater e =
      let r = ih idle tt in
      (append_assoc (60 ∷ bs) (62 ∷ []) (text (lex idle t)) ∙ (ap (λ x. (60 ∷ bs) ++ 62 ∷ x) r.0 ∙ ap (λ c. (60 ∷ bs) ++ c ∷ t) (sym (greater_is b e))), (k, r.1))
  step_tag bs k figure e = go_on_tag bs k (λ h. differ figure greater tt (sym e ∙ h))
  step_tag bs k plain e = go_on_tag bs k (λ h. differ plain greater tt (sym e ∙ h))

  step_num : (ds : List ℕ) → NotEmpty ds → Figures ds → (r : Role) → role b ≡ r → Cuts (ds ++ b ∷ t) (at_num r ds b t)
  step_num ds n k space e =
      let r = step_idle space e in
      (ap (λ x. ds ++ x) r.0, ((n, k, λ h. differ space figure tt (sym e ∙ h)), r.1))
  step_num ds n k less e =
      let r = after_less e in
      (ap (λ x. ds ++ x) r.0, ((n, k, subst Quits (sym r.0) (λ h. differ less figure tt (sym e ∙ h))), r.1))
  step_num ds n k greater e =
      let r = step_idle greater e in
      (ap (λ x. ds ++ x) r.0, ((n, k, λ h. differ greater figure tt (sym e ∙ h)), r.1))
  step_num ds n k figure e =
      let r = ih (in_num (ds ++ b ∷ [])) (not_empty_push ds b, figures_push ds b k e) in
      (r.0 ∙ append_assoc ds (b ∷ []) t, r.1)
  step_num ds n k plain e =
      let r = step_idle plain e in
      (ap (λ x. ds ++ x) r.0, ((n, k, λ h. differ plain figure tt (sym e ∙ h)), r.1))

pub lex_cut : (ph : Phase) (t : List ℕ) → Ok_so_far ph → Cuts (pending ph ++ t) (lex ph t)
lex_cut idle [] k = (refl, tt)
lex_cut (in_tag bs) [] k = (refl, ((k, refl), tt))
lex_cut (in_num ds) [] k = (refl, ((k.0, k.1, tt), tt))
lex_cut idle (b ∷ t) k = step_idle b t (λ ph. lex_cut ph t) (role b) refl
lex_cut (in_tag bs) (b ∷ t) k = step_tag b t (λ ph. lex_cut ph t) bs k (role b) refl
lex_cut (in_num ds) (b ∷ t) k = step_num b t (λ ph. lex_cut ph t) ds k.0 k.1 (role b) refl

pub items_text : (t : List ℕ) → text (items t) ≡ t
items_text t = (lex_cut idle t tt).0

pub items_cut : (t : List ℕ) → Cut (items t)
items_cut t = (lex_cut idle t tt).1
