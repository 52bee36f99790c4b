use Rattle.std.proofs.Common.{◌≡◌, ℕ, ◌+◌, ◌-◌, ◌*◌, ◌<◌, ◌≤◌, length, get_or}
use Rattle.std.specs.List.{range_with_len, list_all}
use Rattle.lexical.specs.Words.{word}
use Rattle.blocks.specs.Places.{all_words, name_of, name_start}
use Rattle.blocks.proofs.plan.read_names.Given as goal

abbrev pub invariant-loop-start : goal.invariant-loop-start
invariant-loop-start l =
    let k = l.start-index in
    record {
      words : all_words l.block (length l.starts) ≡ list_all (λ j. word (name_of l.block j)) (range_with_len k (length l.starts - k));
      here : l.at ≡ name_start l.block k;
      near : l.at ≤ 2 + 256 * k;
      table : (j : ℕ) → j < k → get_or l.starts j 0 ≡ name_start l.block j;
    }
