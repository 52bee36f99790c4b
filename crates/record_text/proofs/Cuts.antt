-- What the grammar derives is cut into its own items.
use Rattle.std.proofs.Common.{◌≡◌, ℕ, ◌<◌, true, List, [], ◌∷◌, ◌++◌, length, ℤ, sym, refl, ap, ◌∙◌, subst, append_assoc, arith}
use Rattle.std.specs.List.{list_all}
use mathlib.Core.Bool.{false≢true}
use Rattle.std.proofs.lemmas.Bool.{and_parts}
use Rattle.record_text.specs.declared.entry.Entry.{Entry}
use Rattle.lexical.specs.declared.kinds.Kind.{Kind}
use Rattle.lexical.specs.declared.kinds.Kind.TheVariants.{Letter, Digit, Hyphen, Point, Less, Greater, Slash, Blank, Other}
use Rattle.lexical.specs.Kinds.{kind}
use Rattle.lexical.specs.Words.{word, continues_word}
use Rattle.lexical.specs.Numbers.{Number, figure_kind}
use Rattle.lexical.proofs.NumberFacts.{number_kinds}
use Rattle.record_text.specs.Grammar.{Item, gap, num, text, closing, Blanks, no_blank, one_more, Content, nothing, blank, element, Element, hollow, around, holding}
use Rattle.record_text.specs.Items.{space, less, greater, figure, plain, of_kind, role, Figures, NoGreater, NotEmpty, Quits, Cut}
use Rattle.record_text.proofs.Complete.{name_byte, word_all}
use Rattle.record_text.proofs.Lex.{differ}

blank_role : (b : ℕ) → kind b ≡ Blank → role b ≡ space
unfolding role
blank_role b k = ap of_kind k

name_role : (k : Kind) → continues_word k ≡ true → of_kind k ≡ greater → ⊥
name_role Letter g e = differ plain greater tt e
name_role Digit g e = differ figure greater tt e
name_role Hyphen g e = differ figure greater tt e
name_role Point g e = false≢true g
name_role Less g e = false≢true g
name_role Greater g e = false≢true g
name_role Slash g e = false≢true g
name_role Blank g e = false≢true g
name_role Other g e = false≢true g

name_no_greater : (w : List ℕ) → list_all name_byte w ≡ true → NoGreater w
unfolding name_byte role
name_no_greater [] e = tt
name_no_greater (b ∷ w) e = let p = and_parts (name_byte b) (list_all name_byte w) e in (name_role (kind b) p.0, name_no_greater w p.1)

word_no_greater : (w : List ℕ) → word w ≡ true → NoGreater w
word_no_greater w e = name_no_greater w (word_all w e)

slash_role : role 47 ≡ greater → ⊥
unfolding role kind
slash_role e = differ plain greater tt e

push_slash : (w : List ℕ) → NoGreater w → NoGreater (w ++ 47 ∷ [])
push_slash [] k = (slash_role, tt)
push_slash (b ∷ w) k = (k.0, push_slash w k.1)

-- the bytes of a number
pub figure_role : (k : Kind) → figure_kind k ≡ true → of_kind k ≡ figure
figure_role Letter e = absurd (false≢true e)
figure_role Digit e = refl
figure_role Hyphen e = refl
figure_role Point e = refl
figure_role Less e = absurd (false≢true e)
figure_role Greater e = absurd (false≢true e)
figure_role Slash e = absurd (false≢true e)
figure_role Blank e = absurd (false≢true e)
figure_role Other e = absurd (false≢true e)

pub role_figure : (k : Kind) → of_kind k ≡ figure → figure_kind k ≡ true
role_figure Letter e = absurd (differ plain figure tt e)
role_figure Digit e = refl
role_figure Hyphen e = refl
role_figure Point e = refl
role_figure Less e = absurd (differ less figure tt e)
role_figure Greater e = absurd (differ greater figure tt e)
role_figure Slash e = absurd (differ plain figure tt e)
role_figure Blank e = absurd (differ space figure tt e)
role_figure Other e = absurd (differ plain figure tt e)

all_figures : (ds : List ℕ) → list_all (λ b. figure_kind (kind b)) ds ≡ true → Figures ds
unfolding role
all_figures [] e = tt
all_figures (b ∷ ds) e = let p = and_parts (figure_kind (kind b)) (list_all (λ c. figure_kind (kind c)) ds) e in (figure_role (kind b) p.0, all_figures ds p.1)

not_empty : (ds : List ℕ) → 0 < length ds → NotEmpty ds
not_empty [] h = absurd (omega arith)
not_empty (b ∷ ds) h = tt

number_figures : (ds : List ℕ) (v : ℤ) → Number ds v → NotEmpty ds × Figures ds
number_figures ds v n = let k = number_kinds ds v n in (not_empty ds k.0, all_figures ds k.1)

-- a derivation, with what follows
at_cut : (is js : List Item) → is ≡ js → Cut is → Cut js
at_cut is js e k = subst Cut e k

blanks_cut : {bs : List Item} → Blanks bs → (js : List Item) → Cut js → Cut (bs ++ js)
blanks_cut no_blank js k = k
blanks_cut (one_more {is} r b e) js k = at_cut _ _ (sym (append_assoc is (gap b ∷ []) js)) (blanks_cut r (gap b ∷ js) (blank_role b e, k))

blanks_quit : {bs : List Item} → Blanks bs → (js : List Item) → Quits (text js) → Quits (text (bs ++ js))
blanks_quit no_blank js k = k
blanks_quit (one_more {is} r b e) js k =
    subst (λ l. Quits (text l)) (sym (append_assoc is (gap b ∷ []) js)) (blanks_quit r (gap b ∷ js) (λ h. differ space figure tt (sym (blank_role b e) ∙ h)))

less_quits : role 60 ≡ figure → ⊥
unfolding role kind
less_quits e = differ less figure tt e

mutual
  pub content_cut : {p d : ℕ} {is : List Item} {es : List Entry} → Content p d is es → (js : List Item) → Cut js → Cut (is ++ js)
  content_cut nothing js k = k
  content_cut (blank {is = is} c b e) js k = at_cut _ _ (sym (append_assoc is (gap b ∷ []) js)) (content_cut c (gap b ∷ js) (blank_role b e, k))
  content_cut (element {is = is} {js = ks} c x) js k = at_cut _ _ (sym (append_assoc is ks js)) (content_cut c (ks ++ js) (element_cut x js k))

  pub element_cut : {p d : ℕ} {is : List Item} {es : List Entry} → Element p d is es → (js : List Item) → Cut js → Cut (is ++ js)
  element_cut (hollow w e) js k = (push_slash w (word_no_greater w e), k)
  element_cut (around {is = is} w e c) js k =
      (word_no_greater w e, at_cut _ _ (sym (append_assoc is (closing w ∷ []) js)) (content_cut c (closing w ∷ js) ((slash_role, word_no_greater w e), k)))
  element_cut (holding {bs = bs} {cs} w e B ds v x C) js k =
      let f = number_figures ds v x in
      let ends : Cut (closing w ∷ js) = ((slash_role, word_no_greater w e), k) in
      let tail : Cut (num ds ∷ (cs ++ closing w ∷ js)) = ((f.0, f.1, blanks_quit C (closing w ∷ js) less_quits), blanks_cut C (closing w ∷ js) ends) in
      (word_no_greater w e, at_cut (bs ++ num ds ∷ (cs ++ closing w ∷ js)) _ (simp append_assoc) (blanks_cut B _ tail))
