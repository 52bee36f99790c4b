-- The functions of texts and the grammar say the same of bytes.
use Rattle.std.proofs.Common.{◌≡◌, ℕ, ◌≤◌, Bool, true, false, cond, leb, List, length, Some, None, Option as Maybe, refl, ap, ◌∙◌, le-leb, leb-true}
use Rattle.pieces.specs.Cutting.{pieces}
use Rattle.pieces.proofs.Cuts.{spelled_pieces, pieces_spelled}
use Rattle.form_grammar.specs.Grammar.{longest, Written, Rule, RuleText, StartText}
use Rattle.form_grammar.specs.Parser.{content_of, rule_of_pieces}
use Rattle.form_grammar.specs.Texts.{rule_of, start_of}
use Rattle.form_grammar.specs.Laws.{TextsRule, OneMeaning}
use Rattle.form_grammar.proofs.ParserComplete.{content_of_complete, rule_complete}
use Rattle.form_grammar.proofs.ParserFacts.{rule_ruled, content_said}

-- at most 512 bytes
if_short : {X : Type 0} (t : List ℕ) (o : Maybe X) (x : X) → cond (leb (length t) longest) o None ≡ Some x → (length t ≤ longest) × (o ≡ Some x)
if_short t o x e = by (leb (length t) longest) refl e
  where
    by : (q : Bool) → leb (length t) longest ≡ q → cond q o None ≡ Some x → (length t ≤ longest) × (o ≡ Some x)
    by true q e = (leb-true (length t) longest q, e)
    by false q e = cc

-- from the function to the grammar
pub rule_text : (t : List ℕ) (r : Rule) → rule_of t ≡ Some r → RuleText t r
unfolding rule_of
rule_text t r e =
    let (l, q) = if_short t (rule_of_pieces (pieces t)) r e in
    record { short = l; pieces = pieces t; spelled = pieces_spelled t; ruled = rule_ruled (pieces t) r q }

pub start_text : (t : List ℕ) (e : Written) → start_of t ≡ Some e → StartText t e
unfolding start_of
start_text t e h =
    let (l, q) = if_short t (content_of (pieces t)) e h in
    record { short = l; pieces = pieces t; spelled = pieces_spelled t; says = content_said (pieces t) e q }

-- from the grammar to the function
pub rule_of_text : (t : List ℕ) (r : Rule) → RuleText t r → rule_of t ≡ Some r
unfolding rule_of
rule_of_text t r x =
    ap (λ b. cond b (rule_of_pieces (pieces t)) None) (le-leb (length t) longest x.short)
    ∙ ap rule_of_pieces (spelled_pieces x.spelled) ∙ rule_complete x.ruled

pub start_of_text : (t : List ℕ) (e : Written) → StartText t e → start_of t ≡ Some e
unfolding start_of
start_of_text t e x =
    ap (λ b. cond b (content_of (pieces t)) None) (le-leb (length t) longest x.short)
    ∙ ap content_of (spelled_pieces x.spelled) ∙ content_of_complete x.says

pub texts_rule : TextsRule
texts_rule = (λ t r. (rule_text t r, rule_of_text t r), λ t e. (start_text t e, start_of_text t e))

pub one_meaning : OneMeaning
one_meaning = (
  λ t r r' x y. let f = rule_of_text t r x in let g = rule_of_text t r' y in cc,
  λ t e e' x y. let f = start_of_text t e x in let g = start_of_text t e' y in cc,
)

-- where the functions give nothing, nothing is said
pub no_rule_text : (t : List ℕ) → rule_of t ≡ None → (r : Rule) → RuleText t r → ⊥
no_rule_text t e r x = let f = rule_of_text t r x in cc

pub no_start_text : (t : List ℕ) → start_of t ≡ None → (e : Written) → StartText t e → ⊥
no_start_text t h e x = let f = start_of_text t e x in cc
