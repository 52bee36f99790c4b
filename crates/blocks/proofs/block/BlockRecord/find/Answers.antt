use Rattle.std.proofs.Common.{MatchOption, Option, IfSome, ◌≡◌, ◌∙◌, sym, subst}
use Rattle.blocks.specs.Reading.{Found, Missing}
use Rattle.blocks.specs.declared.row.Row.{Row}
use Rattle.blocks.proofs.Findings.{found, missing}
use Rattle.blocks.proofs.block.BlockRecord.find.Goals as goal

pub returns-in_err-node : goal.returns-in_err-node
returns-in_err-node c =
    let bs = c.args.self.now.plan.block.now in
    let n = c.args.n in
    subst (λ (r : Option Row). MatchOption r (Missing bs n) (λ row. Found bs n row)) (sym c.from_residual.ensures) (missing bs n c.in_err-node.ensures)

pub returns : goal.returns
returns c =
    let x = c.args.self.now in
    let bs = x.plan.block.now in
    let n = c.args.n in
    let there = c.in_ok-node.ensures in
    let f = found bs n x.good there.0 in
    let same = subst (λ (o : Option Row). IfSome o (λ row. c.of.result ≡ row)) (there.1 ∙ f.0) c.of.ensures in
    subst (Found bs n) (sym same) f.1
