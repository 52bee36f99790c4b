use Rattle.std.proofs.Common.{get_or, ap, ◌∙◌, zero-add, rules}
use Rattle.std.proofs.lemmas.List.FromFn.{get_or-map-range_with_len}
use Rattle.lexical.specs.declared.kinds.Kind.TheVariants.{Letter}
use Rattle.lexical.specs.Kinds.{kind, kind_rule}
use Rattle.lexical.proofs.kinds.entry_of.Goals as goal

pub returns : goal.returns
unfolding kind
returns c =
    ap (λ t. get_or t c.args.b Letter) c.requires
    ∙ get_or-map-range_with_len kind_rule 0 256 c.args.b c.args.b Letter (search rules) (zero-add c.args.b)
