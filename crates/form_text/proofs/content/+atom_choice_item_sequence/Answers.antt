use Rattle.std.proofs.Common.{refl, ap, rules, tests, arith}
use Rattle.std.proofs.lemmas.Grind.{common_steps, elements}
use Rattle.contents.specs.Contents.{seq, alt, each}
use Rattle.lexical.specs.Spellings.{spelling}
use Rattle.pieces.specs.Pieces.{bar, comma}
use Rattle.form_grammar.specs.Grammar.{a_choice, a_sequence, an_item, an_atom}
use Rattle.form_text.specs.Reads.{Parses}
use Rattle.form_text.proofs.Descent as descent
use Rattle.form_text.proofs.content.+atom_choice_item_sequence.Goals as goal
use Rattle.form_text.proofs.content.+atom_choice_item_sequence.Goals.{item-in_default-via-then-behind-lt1, item-in_default-via-else-behind-lt1+in-Sign+in-Equals-1, item-in_default-via-else-behind-lt1+in-Unfit-1}

pub choice-returns-in_err-first : goal.choice-returns-in_err-first
choice-returns-in_err-first t c =
    descent.handed_on (Parses a_sequence c.args.depth c.args.tokens.now) (Parses a_choice c.args.depth c.args.tokens.now) c.from_residual.result c.in_err-first.field-0.0
    c.from_residual.ensures.1 (descent.none_joined a_choice a_sequence bar alt (λ n d s. refl) refl) c.in_err-first.ensures

pub choice-returns-in_default : goal.choice-returns-in_default
choice-returns-in_default t c = descent.last_joined a_choice a_sequence bar alt (λ n d s. refl) refl c.in_ok-first.ensures c.in_default.ensures.value

pub choice-returns-in_err-other : goal.choice-returns-in_err-other
choice-returns-in_err-other t c =
    descent.handed_on (Parses a_choice c.args.depth c.in-Some.more.now) (Parses a_choice c.args.depth c.args.tokens.now) c.from_residual-in_err-other.result c.in_err-other.field-0.0
    c.from_residual-in_err-other.ensures.1
    (descent.lost_joined a_choice a_sequence bar alt (λ n d s. refl) refl c.in_ok-first.ensures c.in-Some.more c.in-Some.ensures.value c.in-Some.ensures.onward) c.in_err-other.ensures

pub choice-returns : goal.choice-returns
choice-returns t c =
    descent.more_joined a_choice a_sequence bar alt (λ n d s. refl) refl c.in_ok-first.ensures c.in-Some.more c.in-Some.ensures.value c.in-Some.ensures.onward
    c.in_ok-other.ensures (ap (each spelling) c.in_ok-or.ensures)

pub sequence-returns-in_err-first : goal.sequence-returns-in_err-first
sequence-returns-in_err-first t c =
    descent.handed_on (Parses an_item c.args.depth c.args.tokens.now) (Parses a_sequence c.args.depth c.args.tokens.now) c.from_residual.result c.in_err-first.field-0.0
    c.from_residual.ensures.1 (descent.none_joined a_sequence an_item comma seq (λ n d s. refl) refl) c.in_err-first.ensures

pub sequence-returns-in_default : goal.sequence-returns-in_default
sequence-returns-in_default t c = descent.last_joined a_sequence an_item comma seq (λ n d s. refl) refl c.in_ok-first.ensures c.in_default.ensures.value

pub sequence-returns-in_err-next : goal.sequence-returns-in_err-next
sequence-returns-in_err-next t c =
    descent.handed_on (Parses a_sequence c.args.depth c.in-Some.more.now) (Parses a_sequence c.args.depth c.args.tokens.now) c.from_residual-in_err-next.result c.in_err-next.field-0.0
    c.from_residual-in_err-next.ensures.1
    (descent.lost_joined a_sequence an_item comma seq (λ n d s. refl) refl c.in_ok-first.ensures c.in-Some.more c.in-Some.ensures.value c.in-Some.ensures.onward) c.in_err-next.ensures

pub sequence-returns : goal.sequence-returns
sequence-returns t c =
    descent.more_joined a_sequence an_item comma seq (λ n d s. refl) refl c.in_ok-first.ensures c.in-Some.more c.in-Some.ensures.value c.in-Some.ensures.onward
    c.in_ok-next.ensures (ap (each spelling) c.in_ok-then.ensures)

pub item-returns-in_err-atom : goal.item-returns-in_err-atom
item-returns-in_err-atom t c =
    descent.handed_on (Parses an_atom c.args.depth c.args.tokens.now) (Parses an_item c.args.depth c.args.tokens.now) c.from_residual.result c.in_err-atom.field-0.0
    c.from_residual.ensures.1 descent.item_none c.in_err-atom.ensures

pub item-returns-in_ok-repeated-in-Sign : goal.item-returns-in_ok-repeated-in-Sign
item-returns-in_ok-repeated-in-Sign t c = descent.item_read c.in_ok-atom.ensures (grind (arith, elements)) (search (tests, rules))

pub item-returns-in_ok-repeated_once-in-Sign-2 : goal.item-returns-in_ok-repeated_once-in-Sign-2
item-returns-in_ok-repeated_once-in-Sign-2 t c = descent.item_read c.in_ok-atom.ensures (grind (arith, elements)) (search (tests, rules))

pub item-returns-in_ok-omitted-in-Sign-3 : goal.item-returns-in_ok-omitted-in-Sign-3
item-returns-in_ok-omitted-in-Sign-3 t c = descent.item_read c.in_ok-atom.ensures (grind (arith, elements)) (search (tests, rules))

pub item-returns-in_default : goal.item-returns-in_default
item-returns-in_default t c =
    descent.item_last c.in_ok-atom.ensures
    (elim c.in_default.branch [
      | item-in_default-via-then-behind-lt1 w ↦ (grind (arith, common_steps), grind (arith, common_steps), grind (arith, common_steps))
      | item-in_default-via-else-behind-lt1+in-Sign+in-Equals-1 w ↦ (grind (arith, common_steps), grind (arith, common_steps), grind (arith, common_steps))
      | item-in_default-via-else-behind-lt1+in-Unfit-1 w ↦ (grind (arith, common_steps), grind (arith, common_steps), grind (arith, common_steps))
    ])

pub atom-returns-in_err-inner-in-Sign : goal.atom-returns-in_err-inner-in-Sign
atom-returns-in_err-inner-in-Sign t c =
    descent.atom_lost _ c.args.tokens.now _ _ _ c.from_residual.ensures.1 c.in_err-inner-in-Sign.ensures (grind (arith, elements))
    (search (tests, rules)) (search (tests, rules))

pub atom-returns-in_default-past : goal.atom-returns-in_default-past
atom-returns-in_default-past t c =
    descent.atom_unclosed c.args.tokens.now _ (grind (arith, elements)) (search (tests, rules)) (search (tests, rules))
    c.in_ok-inner-in-Sign.ensures c.in_default-past.ensures.value

pub atom-returns-in-Some : goal.atom-returns-in-Some
atom-returns-in-Some t c =
    descent.atom_closed c.args.tokens.now _ (grind (arith, elements)) (search (tests, rules)) (search (tests, rules))
    c.in_ok-inner-in-Sign.ensures c.in-Some.ensures.value c.in-Some.ensures.onward
