-- What is read from the pieces of a text that is not too long is what the text says.
use Rattle.std.proofs.Common.{◌≡◌, ℕ, ◌≤◌, cond, leb, List, length, Some, None, Ok, Err, Option as Maybe, Result, sym, ap, ◌∙◌, le-leb}
use Rattle.std.specs.Result.{IsErrAnd}
use Rattle.lexical.specs.declared.spelled.Word.{Word}
use Rattle.contents.specs.declared.expression.Expression.{Expression}
use Rattle.pieces.specs.Pieces.{Piece}
use Rattle.pieces.specs.Cutting.{pieces}
use Rattle.form_grammar.specs.Grammar.{longest, RuleText, StartText}
use Rattle.form_grammar.specs.Parser.{content_of, rule_of_pieces}
use Rattle.form_grammar.specs.Texts.{rule_of, start_of}
use Rattle.form_grammar.proofs.TextFacts.{rule_text, start_text, no_rule_text, no_start_text}
use Rattle.form_text.specs.declared.rule.Rule.{Rule as CodeRule}
use Rattle.form_text.specs.declared.errors.RuleError.{RuleError}
use Rattle.form_text.specs.declared.errors.RuleError.TheVariants as rule
use Rattle.form_text.specs.declared.errors.StartError.{StartError}
use Rattle.form_text.specs.declared.errors.StartError.TheVariants as start
use Rattle.form_text.specs.declared.errors.Unread.{Unread}
use Rattle.form_text.specs.declared.errors.Unread.TheVariants.{NotOfForm, NoMemory}
use Rattle.form_text.specs.Answers.{ReadsRule, ReadsStart}
use Rattle.form_text.specs.Reads.{IfRead, as_rule_error, as_start_error, said, written, rule_read, start_read}

module _ (t : List ℕ) (ps : List Piece) (short : length t ≤ longest) (cut : ps ≡ pieces t) where
  short_text : {X : Type 0} (o : Maybe X) → cond (leb (length t) longest) o None ≡ o
  short_text o = ap (λ b. cond b o None) (le-leb (length t) longest short)

  rule_there : (o : Maybe CodeRule) → rule_read o ≡ rule_of_pieces ps → rule_of t ≡ rule_read o
  unfolding rule_of
  rule_there o e = short_text (rule_of_pieces (pieces t)) ∙ ap rule_of_pieces (sym cut) ∙ sym e

  start_there : (o : Maybe (Expression Word)) → start_read o ≡ content_of ps → start_of t ≡ start_read o
  unfolding start_of
  start_there o e = short_text (content_of (pieces t)) ∙ ap content_of (sym cut) ∙ sym e

  pub said_rule : (r : CodeRule) → Some (said r) ≡ rule_of_pieces ps → RuleText t (said r)
  said_rule r e = rule_text t (said r) (rule_there (Some r) e)

  pub rule_unread : (r : Result CodeRule RuleError) (e : Unread) → IsErrAnd r (λ f. f ≡ as_rule_error e)
      → IfRead (Err e) (λ (o : Maybe CodeRule). rule_read o ≡ rule_of_pieces ps) → ReadsRule t r
  rule_unread (Ok x) e h q = absurd h
  rule_unread (Err rule.NotOfForm) NotOfForm h q = no_rule_text t (rule_there None q)
  rule_unread (Err rule.LowAboveHigh) NotOfForm h q = cc
  rule_unread (Err rule.NotOfForm) NoMemory h q = cc
  rule_unread (Err rule.LowAboveHigh) NoMemory h q = cc
  rule_unread (Err rule.NoMemory) e h q = tt

  pub said_start : (w : Expression Word) → Some (written w) ≡ content_of ps → StartText t (written w)
  said_start w e = start_text t (written w) (start_there (Some w) e)

  pub start_unread : (r : Result (Expression Word) StartError) (e : Unread) → IsErrAnd r (λ f. f ≡ as_start_error e)
      → IfRead (Err e) (λ (o : Maybe (Expression Word)). start_read o ≡ content_of ps) → ReadsStart t r
  start_unread (Ok x) e h q = absurd h
  start_unread (Err start.NotOfForm) NotOfForm h q = no_start_text t (start_there None q)
  start_unread (Err start.NotOfForm) NoMemory h q = cc
  start_unread (Err start.NoMemory) e h q = tt
