use Rattle.std.proofs.Common.{rules, ◌≡◌, ◌+◌, ◌*◌, length, ◌∙◌, arith}
use Rattle.std.proofs.lemmas.List.{get_or_append_left}
use Rattle.blocks.specs.Places.{name_count, node_count, node_start}
use Rattle.blocks.proofs.Runs.{nodes_count, row_read}
use Rattle.blocks.proofs.plan.Plan.of.Goals as goal

pub invariant_of-result : goal.invariant_of-result
invariant_of-result c =
    let bs = c.args.block.now in
    let first = c.from-first.result + 2 in
    let count = c.from-count.result in
    let names = c.in_ok-second.ensures in
    let named : length c.read_names.new.starts ≡ name_count bs = search rules in
    let whole : length bs ≡ first + 7 * count = c.if-block-first.false in
    let begins : first ≡ node_start bs 0 = search rules in
    let counted : count ≡ node_count bs = search rules in
    record {
      named = search rules;
      few_names = search rules;
      words = search rules;
      table = λ k l. get_or_append_left c.read_names.new.starts _ 0 k (omega arith) ∙ names.table k (omega arith);
      counts = nodes_count bs first count whole c.as_chunks.result.0.now c.as_chunks.ensures.front_len ∙ counted;
      few = search rules;
      whole = search rules;
      rows = λ i l. row_read bs first count whole c.as_chunks.result.0.now begins c.as_chunks.ensures.front i (omega arith);
    }
