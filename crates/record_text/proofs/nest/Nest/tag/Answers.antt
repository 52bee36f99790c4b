use Rattle.std.proofs.Common.{◌≡◌, sym, ap, ◌∙◌, subst, rules}
use Rattle.record_text.specs.Machine.{opens, closes, whole}
use Rattle.record_text.specs.Nest.{shape_of}
use Rattle.record_text.specs.Tags.{told, named_as}
use Rattle.record_text.specs.Turns.{WentTag, no_node, one_node}
use Rattle.record_text.proofs.TagForms.{went_as}
use Rattle.record_text.proofs.nest.Nest.tag.Goals as goal

pub returns-in-Some-Opening : goal.returns-in-Some-Opening
returns-in-Some-Opening c =
    let s = shape_of c.args.self.now in
    let s' = shape_of c.begin.new.self in
    let x = sym c.tag_of.ensures ∙ (ap told c.in-Some-Opening.is ∙ ap named_as c.in-Some-Opening.field-0-is) in
    let e : c.map.result ≡ no_node c.begin.result = search rules in
    went_as c.args.at.start c.args.at.end s s' c.args.body.now _ c.map.result x c.requires
    (subst (WentTag c.args.at.start c.args.at.end s (opens c.in-Some-Opening.name.now) s') (sym e) (c.begin.ensures c.args.at.end))

pub returns-in-Some-Closing : goal.returns-in-Some-Closing
returns-in-Some-Closing c =
    let s = shape_of c.args.self.now in
    let s' = shape_of c.close.new.self in
    let x = sym c.tag_of.ensures ∙ (ap told c.in-Some-Closing.is ∙ ap named_as c.in-Some-Closing.field-0-is) in
    let e : c.map-in-Some-Closing.result ≡ one_node c.close.result = search rules in
    went_as c.args.at.start c.args.at.end s s' c.args.body.now _ c.map-in-Some-Closing.result x c.requires
    (subst (WentTag c.args.at.start c.args.at.end s (closes c.in-Some-Closing.name.now) s') (sym e) c.close.ensures)

pub returns-in-Some-Alone : goal.returns-in-Some-Alone
returns-in-Some-Alone c =
    let s = shape_of c.args.self.now in
    let s' = shape_of c.hollow.new.self in
    let x = sym c.tag_of.ensures ∙ (ap told c.in-Some-Alone.is ∙ ap named_as c.in-Some-Alone.field-0-is) in
    let e : c.map-in-Some-Alone.result ≡ one_node c.hollow.result = search rules in
    went_as c.args.at.start c.args.at.end s s' c.args.body.now _ c.map-in-Some-Alone.result x c.requires
    (subst (WentTag c.args.at.start c.args.at.end s (whole c.in-Some-Alone.name.now) s') (sym e) c.hollow.ensures)
