use Rattle.std.proofs.Common.{rules, tests, ℕ, ◌-◌, ◌||◌, eqb, ltb, map, get_or, refl, ap, ◌∙◌}
use Rattle.std.specs.List.{range_with_len, take_while}
use Rattle.std.proofs.lemmas.Iterator.{YieldsList-from_range, YieldsList-from_map, items_from_collect}
use Rattle.std.proofs.lemmas.Iterator.Consumers.{YieldsList-at}
use Rattle.std.proofs.lemmas.Iterator.Search.{YieldsList-from_take_while}
use Rattle.std.proofs.lemmas.Result.{IfOk-weaker}
use Rattle.records.specs.Nodes.{no_node, depth_at}
use Rattle.layers.specs.Views.{entry_of, raised}
use Rattle.layers.proofs.Cutting.{cut_chain}
use Rattle.layers.proofs.view.cut.taken.Goals as goal

pub returns : goal.returns
returns g c =
    let ns = g.R.Record.nodes c.args.below.now in
    let n = c.args.n in
    let base = c.depth-base.result in
    let count = c.count.result in
    let made = λ (b m : ℕ). map (λ (i : ℕ). raised b (entry_of i (get_or ns i no_node))) (take_while (λ (i : ℕ). eqb i n || ltb b (depth_at ns i)) (range_with_len n (m - n))) in
    IfOk-weaker c.collect.result _ _
    (λ v h. h ∙ ap (λ (b : ℕ). made b count) c.depth-base.ensures ∙ ap (made (depth_at ns n)) c.count.ensures ∙ cut_chain n ns)
    (items_from_collect c.collect.result c.collect.ensures.ran
    (YieldsList-from_map _ (λ (i : ℕ). raised base (entry_of i (get_or ns i no_node)))
    (YieldsList-at c.map.ensures.source
    (YieldsList-from_take_while _ (λ (i : ℕ). eqb i n || ltb base (depth_at ns i))
    (YieldsList-at c.take_while.ensures.source (YieldsList-from_range n count (count - n) refl refl))
    c.take_while.ensures.closure c.take_while.ensures.done
    (λ x b q k. search (rules, tests))))
    c.map.ensures.closure (λ x r q k. search rules)))
