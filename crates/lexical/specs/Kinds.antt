-- Every byte is of one kind: a letter of ASCII's 52, a digit, a hyphen, a point, `<`, `>`, `/`, a blank (32, 9, 13, 10), or another.
use Rattle.std.specs.Prelude.{ℕ, Bool, cond, ◌&&◌, ◌||◌, ◌==◌, nat_le}
use Rattle.lexical.specs.declared.kinds.Kind.{Kind}
use Rattle.lexical.specs.declared.kinds.Kind.TheVariants.{Letter, Digit, Hyphen, Point, Less, Greater, Slash, Blank, Other}

-- b lies from a to z, both included
abbrev pub between : ℕ → ℕ → ℕ → Bool
between a z b = nat_le a b && nat_le b z

abbrev pub letter : ℕ → Bool
letter b = between 65 90 b || between 97 122 b

abbrev pub digit : ℕ → Bool
digit b = between 48 57 b

abbrev pub blank : ℕ → Bool
blank b = b == 32 || (b == 9 || (b == 13 || b == 10))

abbrev pub kind_rule : ℕ → Kind
kind_rule b =
    cond (letter b) Letter
    (cond (digit b) Digit
    (cond (b == 45) Hyphen
    (cond (b == 46) Point
    (cond (b == 60) Less
    (cond (b == 62) Greater
    (cond (b == 47) Slash
    (cond (blank b) Blank Other)))))))

-- the same, shut to searches, so that goals stay short
unfoldable pub kind : ℕ → Kind
kind b = kind_rule b
