use Rattle.std.proofs.Common.{length, refl, sym, ap, ◌∙◌}
use Rattle.lent.specs.Stacks.{held}
use Rattle.record_text.specs.Entries.{branch}
use Rattle.record_text.proofs.Nests.{ups_length, admitted, done_same}
use Rattle.record_text.proofs.nest.Nest.hollow.Goals as goal

pub returns : goal.returns
returns c =
    let s = c.args.self.now in (
      admitted c.args.at.start s.nodes (held s.tags) s.held c.in_ok-admit.ensures _ _ refl,
      done_same s.nodes _ _ (ap (branch c.args.at.start c.args.at.end (length c.args.name.now)) (ups_length (held s.tags) ∙ sym c.len-depth.ensures) ∙ sym c.new-entry.ensures),
    )
