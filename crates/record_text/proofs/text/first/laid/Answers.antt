use Rattle.std.proofs.Common.{ap, ◌∙◌}
use Rattle.record_text.specs.Laying.{entries_of}
use Rattle.record_text.specs.Parts.{part_of}
use Rattle.record_text.proofs.Lays.{laid_entries}
use Rattle.record_text.proofs.text.first.laid.Goals as goal

pub returns-clause-part : goal.returns-clause-part
returns-clause-part c = λ es r e.
    let t = c.args.text.now in
    let x = c.empty-record.result in
    let y = c.lay.new.self in
    let k = laid_entries t c.args.list.now c.lay.result x y c.lay.ensures.laid c.lay.ensures.settled es r e in
    ap (λ u. part_of u (entries_of y) 0) k.0 ∙ ap (λ m. part_of t m 0) k.1
