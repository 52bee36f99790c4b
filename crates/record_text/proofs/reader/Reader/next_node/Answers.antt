use Rattle.std.proofs.Common.{sym, ap, ◌∙◌, ◌++◌, subst, arith, rules}
use Rattle.std.specs.Prelude.{Some}
use Rattle.std.specs.Option.{option_to_list}
use Rattle.record_text.specs.Cutter.{Cuts, from, left}
use Rattle.record_text.specs.Pass.{done}
use Rattle.record_text.specs.Nest.{shape_of}
use Rattle.record_text.specs.Turns.{outcome}
use Rattle.record_text.specs.Yielding.{Yields}
use Rattle.record_text.proofs.Firsts.{cut_shorter}
use Rattle.record_text.proofs.Onwards.{taken_on, taken_off}
use Rattle.record_text.proofs.Opens.{error_from}
use Rattle.record_text.proofs.reader.Reader.next_node.Goals as goal

pub returns-in_err-done : goal.returns-in_err-done
returns-in_err-done c =
    let r = c.loop-piece.self in
    let e = c.in_err-done.field-0.0 in
    let h : Cuts r.cutter (Some c.in-Some.piece) c.next_item.new.self = search rules in
    let k = taken_off r.cutter c.next_item.new.self c.in-Some.piece h (shape_of r.nest) (shape_of c.take.new.self) e (c.in_err-done.ensures r.cutter.rest.now) in
    subst (λ x. Yields c.args.self.now x (record { cutter = c.next_item.new.self; nest = c.take.new.self })) (sym (error_from c.from_residual.result e c.from_residual.ensures.1)) (ap outcome (sym c.loop-piece.invariant.pending) ∙ k)

pub returns-in-Some-2 : goal.returns-in-Some-2
returns-in-Some-2 c =
    let r = c.loop-piece.self in
    let h : Cuts r.cutter (Some c.in-Some.piece) c.next_item.new.self = search rules in
    let k = taken_on r.cutter c.next_item.new.self c.in-Some.piece h (shape_of r.nest) (shape_of c.take.new.self) c.in_ok-done.field-0 (c.in_ok-done.ensures r.cutter.rest.now) in
    let n = cut_shorter r.cutter c.next_item.new.self c.in-Some.piece h in (
      sym c.loop-piece.invariant.pending ∙ k.0,
      sym c.loop-piece.invariant.coming ∙ (k.1 ∙ ap (λ d. option_to_list d ++ done (from c.next_item.new.self) (shape_of c.take.new.self) (left c.next_item.new.self)) c.in-Some-2.is),
      omega (arith, c.loop-piece.invariant.fewer),
    )

pub loop-piece-preserved : goal.loop-piece-preserved
loop-piece-preserved c =
    let r = c.loop-piece.self in
    let h : Cuts r.cutter (Some c.in-Some.piece) c.next_item.new.self = search rules in
    let k = taken_on r.cutter c.next_item.new.self c.in-Some.piece h (shape_of r.nest) (shape_of c.take.new.self) c.in_ok-done.field-0 (c.in_ok-done.ensures r.cutter.rest.now) in
    let n = cut_shorter r.cutter c.next_item.new.self c.in-Some.piece h in
    record {
      pending = sym k.0 ∙ c.loop-piece.invariant.pending;
      coming = sym (k.1 ∙ ap (λ d. option_to_list d ++ done (from c.next_item.new.self) (shape_of c.take.new.self) (left c.next_item.new.self)) c.in_default-2.is) ∙ c.loop-piece.invariant.coming;
      fewer = omega (arith, c.loop-piece.invariant.fewer);
    }
