use Rattle.std.proofs.Common.{length, vec_items, arith}
use Rattle.std.proofs.lemmas.List.{take_all}
use Rattle.record_text.specs.Laying.{text_of, entries_of}
use Rattle.record_text.proofs.Lays.{laid_entries}
use Rattle.reports.proofs.Sourcing.{text_laid}
use Rattle.reports.proofs.sources.AskedListing.list.Goals as goal

pub returns : goal.returns
returns c r =
    let x = c.args.text.now in
    let l = c.args.entries.now in
    let y = c.lay.new.self in
    let k = laid_entries x l c.lay.result c.empty-record.result y c.lay.ensures.laid c.lay.ensures.settled l r (take_all (length l) l (omega arith)) in
    text_laid vec_items c.list_asked.result c.args.self.now x (text_of y) l (entries_of y) r k.0 k.1 c.list_asked.ensures
