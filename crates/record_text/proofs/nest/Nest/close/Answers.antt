use Rattle.std.proofs.Common.{◌≡◌, true, false, [], ◌∷◌, ◌++◌, ap, length, rules}
use Rattle.lent.specs.Stacks.{held}
use Rattle.record_text.specs.Entries.{entry}
use Rattle.record_text.specs.Machine.{same}
use Rattle.record_text.specs.Nest.{held_of}
use Rattle.record_text.specs.Pass.{value_in}
use Rattle.record_text.specs.Turns.{ruling}
use Rattle.record_text.proofs.Nests.{close_tag, close_done}
use Rattle.record_text.proofs.nest.Nest.close.Goals as goal

pub returns-then-ne : goal.returns-then-ne
returns-then-ne c =
    let s = c.args.self.now in
    let e : held s.tags ≡ held c.pop.new.self ++ c.in_ok-tag.tag ∷ [] = search rules in
    let k : false ≡ same c.args.name.now c.in_ok-tag.tag.name.now = search rules in
    ap (ruling c.args.at.start false) (close_tag c.args.name.now s.nodes (held s.tags) _ c.in_ok-tag.tag e false k)

pub returns : goal.returns
returns c =
    let w = c.args.name.now in
    let s = c.args.self.now in
    let e : held s.tags ≡ held c.pop.new.self ++ c.in_ok-tag.tag ∷ [] = search rules in
    let k : true ≡ same w c.in_ok-tag.tag.name.now = search rules in
    let told : c.new-entry.result ≡ entry c.in_ok-tag.tag.place c.args.at.end (length w) c.len-depth.result (value_in (held_of s.held)) = search rules in (
      ap (ruling c.args.at.start false) (close_tag w s.nodes (held s.tags) _ c.in_ok-tag.tag e true k),
      close_done w s.nodes (held s.tags) _ c.in_ok-tag.tag e c.args.at.end (held_of s.held) c.len-depth.result c.new-entry.result c.len-depth.ensures told,
    )
