-- One answer, and one list of entries.
use Rattle.std.proofs.Common.{◌≡◌, List, [], ◌++◌, length, take, sym, refl, ap, ◌∙◌, subst, append-nil, arith, length-append}
use Rattle.std.proofs.lemmas.List.{take_at}
use Rattle.record_text.specs.declared.entry.Entry.{Entry}
use Rattle.record_text.specs.Grammar.{Item, text, Content, Fits}
use Rattle.record_text.specs.Items.{Cut}
use Rattle.record_text.specs.Laws.{OneAnswer, OneList, OneCut, BeginsText, FitsInText}
use Rattle.record_text.specs.Machine.{elements}
use Rattle.record_text.proofs.Complete.{content_run}
use Rattle.record_text.proofs.Lex.{items, cut_lex, items_text, items_cut}
use Rattle.record_text.proofs.Cuts.{content_cut}
use Rattle.record_text.proofs.Read.{read, read_answers, some_same}
use Rattle.record_text.proofs.Only.{only, items_are}
use Rattle.record_text.proofs.Fill.{content_fill}

pub one_answer : OneAnswer
one_answer t = (read t, read_answers t, only t)

content_items : (is : List Item) (es : List Entry) → Content 0 0 is es → items (text is) ≡ is
content_items is es c = cut_lex is (subst Cut (append-nil is) (content_cut c [] tt))

pub same_entries : (is : List Item) (es fs : List Entry) → Content 0 0 is es → Content 0 0 is fs → es ≡ fs
same_entries is es fs c e =
    let q = some_same _ _ (sym (content_run c 0 [] elements tt).2 ∙ (content_run e 0 [] elements tt).2) in
    let n : length fs ≡ length es = omega (arith, ap (λ z. z.nodes) q) in
    let l = length-append es fs in
    let a = content_fill c (es ++ fs) (omega arith) in
    let b = content_fill e (es ++ fs) (omega arith) in
    sym (take_at es _ (length es) refl) ∙ (ap (take (length es)) (sym a ∙ b) ∙ take_at fs _ (length es) n)

pub one_list : OneList
one_list t es fs (is, e, c) (js, f, d) = same_entries is es fs c (subst (λ k. Content 0 0 k fs) (sym (sym (content_items is es c) ∙ (ap items (e ∙ sym f) ∙ content_items js fs d))) d)

pub one_cut : OneCut
one_cut t = (items t, (items_text t, items_cut t), items_are t)

text_begins : (is : List Item) → BeginsText is → Fits is
text_begins is (t, es, more, (js, e, c), io) =
    let q : js ≡ is ++ more = sym (content_items js es c) ∙ (ap items e ∙ items_are t (is ++ more) io) in
    (more, es, subst (λ k. Content 0 0 k es) q c)

fits_begin : (is : List Item) → Fits is → BeginsText is
fits_begin is f =
    let l = is ++ f.0 in
    (text l, f.1, f.0, (l, refl, f.2), (refl, subst Cut (append-nil l) (content_cut f.2 [] tt)))

pub fits_in_text : FitsInText
fits_in_text is = (fits_begin is, text_begins is)
