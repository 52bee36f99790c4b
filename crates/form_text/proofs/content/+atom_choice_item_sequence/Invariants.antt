use Rattle.std.proofs.Common.{◌+◌, ◌*◌, length}
use Rattle.form_text.proofs.content.+atom_choice_item_sequence.Given as goal

-- the tokens that are left, and of functions that read the same tokens their order
abbrev pub decreases-choice : goal.decreases-choice
decreases-choice l = 4 * length l.tokens.now + 3

abbrev pub decreases-sequence : goal.decreases-sequence
decreases-sequence l = 4 * length l.tokens.now + 2

abbrev pub decreases-item : goal.decreases-item
decreases-item l = 4 * length l.tokens.now + 1

abbrev pub decreases-atom : goal.decreases-atom
decreases-atom l = 4 * length l.tokens.now
