use Rattle.std.proofs.Common.{◌∙◌, ap}
use Rattle.lexical.specs.Words.{word}
use Rattle.record_text.specs.Tags.{told}
use Rattle.record_text.proofs.TagForms.{slashed}
use Rattle.record_text.proofs.tags.tag_of.Goals as goal

pub returns : goal.returns
returns c = ap told c.then_some.ensures ∙ slashed c.args.body.now c.by_slashes-tag.result c.is_word.result c.by_slashes-tag.ensures (c.is_word.ensures ∙ ap word c.name.ensures)
