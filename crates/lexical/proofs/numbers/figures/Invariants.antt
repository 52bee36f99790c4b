use Rattle.std.proofs.Common.{◌≡◌, ◌^◌, ◌<◌, drop}
use Rattle.std.specs.List.{list_all}
use Rattle.lexical.specs.Kinds.{digit}
use Rattle.lexical.specs.Numbers.{decimal}
use Rattle.lexical.proofs.numbers.figures.Given as goal

-- what is read so far, and that the rest decides
abbrev pub invariant-loop-b : goal.invariant-loop-b
invariant-loop-b l =
    (l.n < 10 ^ l.b-index)
    × (decimal l.n (drop l.b-index l.digits) ≡ decimal 0 l.digits)
    × (list_all digit (drop l.b-index l.digits) ≡ list_all digit l.digits)
