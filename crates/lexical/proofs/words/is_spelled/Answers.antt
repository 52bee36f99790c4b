use Rattle.std.proofs.Common.{◌≡◌, ℕ, ◌-◌, ◌≤◌, Bool, true, false, ◌&&◌, List, [], ◌∷◌, length, get_or, take, drop, sym, ap, ◌∙◌, arith, rules}
use Rattle.std.specs.List.{list_all}
use Rattle.std.proofs.lemmas.List.{nil_from_length, take_rest}
use Rattle.lexical.specs.Kinds.{kind}
use Rattle.lexical.specs.Words.{begins_word, continues_word, spelled}
use Rattle.lexical.proofs.words.is_spelled.Goals as goal

-- the first byte and the rest, as the code has them
spelled_parts : (s : List ℕ) (a : Bool) → 1 ≤ length s → begins_word (kind (get_or s 0 0)) ≡ a → spelled s ≡ (a && list_all (λ b. continues_word (kind b)) (take (length s - 1) (drop 1 s)))
unfolding spelled
spelled_parts [] a h e = absurd (omega arith)
spelled_parts (b ∷ bs) a h e = ap (λ x. x && list_all (λ c. continues_word (kind c)) bs) e ∙ ap (λ r. a && list_all (λ c. continues_word (kind c)) r) (sym (take_rest (b ∷ bs) 1))

pub returns-then-begins_word : goal.returns-then-begins_word
returns-then-begins_word c =
    c.continue_word.ensures ∙ sym (spelled_parts c.args.bytes.now true c.in-len1-up.len_at_least (search rules))

pub returns-else-begins_word : goal.returns-else-begins_word
returns-else-begins_word c =
    c.if-begins_word.false ∙ sym (spelled_parts c.args.bytes.now false c.in-len1-up.len_at_least (search rules))

pub returns-in-empty : goal.returns-in-empty
unfolding spelled
returns-in-empty c = ap spelled (sym (nil_from_length c.args.bytes.now (search rules)))
