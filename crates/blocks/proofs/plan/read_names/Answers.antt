use Rattle.std.proofs.Common.{◌≡◌, ℕ, ◌+◌, ◌-◌, ◌<◌, true, length, get_or, set, sym, subst, ap, ◌∙◌, add-one, arith, length-set}
use Rattle.std.specs.List.{range_with_len, list_all}
use Rattle.std.proofs.lemmas.List.Edits.{fill_by_more}
use Rattle.lexical.specs.Words.{word}
use Rattle.blocks.specs.Places.{all_words, name_at, name_of, name_start}
use Rattle.blocks.proofs.Alls.{all_next}
use Rattle.blocks.proofs.plan.read_names.Goals as goal

pub loop-start-preserved : goal.loop-start-preserved
loop-start-preserved c =
    let bs = c.args.block.now in
    let k = c.loop-start.start-index in
    let starts = c.loop-start.starts in
    let here = c.loop-start.invariant.here in
    let size : length (set starts k c.loop-start.at) ≡ length starts = length-set starts k c.loop-start.at in
    let room : k < length starts = omega arith in
    let is-a-word : word (name_of bs k) ≡ true = ap (λ (i : ℕ). word (name_at bs i)) (sym here) ∙ ap word (sym c.name_at.ensures) ∙ sym c.if-not-is_word.ensures in
    let step : name_start bs (k + 1) ≡ name_start bs k + 1 + get_or bs (name_start bs k) 0 = ap (name_start bs) (add-one k) in
    let len : c.from-in-loop-start.result ≡ get_or bs (name_start bs k) 0 = c.from-in-loop-start.ensures ∙ c.byte.ensures ∙ ap (λ (i : ℕ). get_or bs i 0) (c.from.ensures ∙ here) in
    record {
      words = subst (λ (n : ℕ). all_words bs n ≡ list_all (λ j. word (name_of bs j)) (range_with_len (k + 1) (n - (k + 1)))) (sym size) (c.loop-start.invariant.words ∙ all_next (λ j. word (name_of bs j)) k (length starts) room is-a-word);
      here = omega arith;
      near = omega (arith, c.loop-start.invariant.near, c.byte.type_inv);
      table = λ j l. ap (λ (i : ℕ). get_or (set starts k i) j 0) here ∙ fill_by_more (name_start bs) starts k 0 room c.loop-start.invariant.table j l;
    }
