use Rattle.std.proofs.Common.{◌≡◌, sym, subst, rules}
use Rattle.record_text.specs.Cutting.{item_of}
use Rattle.record_text.specs.Grammar.{num}
use Rattle.record_text.specs.Nest.{shape_of}
use Rattle.record_text.specs.Turns.{Went, no_node}
use Rattle.record_text.proofs.nest.Nest.take.Goals as goal

pub returns-in-Number : goal.returns-in-Number
returns-in-Number c = λ t.
    let p = c.args.piece.start in
    let s = shape_of c.args.self.now in
    let s' = shape_of c.number.new.self in
    let e : c.map.result ≡ no_node c.number.result = search rules in
    subst (λ i. Went p s (item_of t i) s' c.map.result) (sym c.in-Number.is) (subst (Went p s (num c.in-Number.digits.now) s') (sym e) c.number.ensures)
