use Rattle.std.proofs.Common.{◌≡◌, ◌∷◌, ap, sym, ◌∙◌, subst, length, take, drop, ◌-◌}
use Rattle.record_text.specs.Cutting.{First}
use Rattle.record_text.proofs.Lex.{less_is}
use Rattle.record_text.proofs.Firsts.{front_back, kind_role, kind_stray}
use Rattle.record_text.specs.Items.{of_kind}
use Rattle.std.specs.Prelude.{slice_index}
use Rattle.record_text.proofs.items.first.first_item.Goals as goal

pub returns-in-Blank : goal.returns-in-Blank
returns-in-Blank c =
    let t = c.args.text.now in
    (front_back t c.in-len1-up.len_at_least, kind_role (slice_index t 0) c.kind_of.result c.kind_of.ensures ∙ ap of_kind c.in-Blank.is)

pub returns-in-Less : goal.returns-in-Less
returns-in-Less c =
    let t = c.args.text.now in
    let b = less_is (slice_index t 0) (kind_role (slice_index t 0) c.kind_of.result c.kind_of.ensures ∙ ap of_kind c.in-Less.is) in
    let e : 60 ∷ take (length t - 1) (drop 1 t) ≡ t = ap (λ x. x ∷ take (length t - 1) (drop 1 t)) (sym b) ∙ front_back t c.in-len1-up.len_at_least in
    subst (λ l. First l c.tag.result.0 c.tag.result.1.now) e c.tag.ensures

pub returns-in_default-2 : goal.returns-in_default-2
returns-in_default-2 c =
    let t = c.args.text.now in
    (front_back t c.in-len1-up.len_at_least, kind_stray (slice_index t 0) c.kind_of.result c.kind_of.ensures c.if-in_number.ensures c.in_default-2.not-Less c.in_default-2.not-Blank)
