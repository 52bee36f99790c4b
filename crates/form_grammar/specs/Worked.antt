-- A worked form: five rule texts and a start text, what they say, and which occurrences open, close and follow in it.
use Rattle.std.specs.Prelude.{ℕ, ◌+◌, ◌⊎◌, List, [], ◌∷◌, pos, codes}
use Rattle.contents.specs.Contents.{Content, empty, item, seq, alt, star}
use Rattle.contents.specs.Sets.{Opens, Closes, Follows}
use Rattle.contents.specs.Marking.{mark, places}
use Rattle.form_grammar.specs.Grammar.{Written, Body, branch, leaf, Rule, RuleText, StartText}

abbrev pub rule : List ℕ → List ℕ → Body → Rule
rule v n b = record { variable = v; name = n; body = b }

abbrev pub two_wheels : Written
two_wheels = seq (item (codes "Wheel")) (item (codes "Wheel"))

abbrev pub wheel_parts : Written
wheel_parts = seq (item (codes "Sh")) (alt (item (codes "Sd")) (item (codes "Low")))

abbrev pub some_sets : Written
some_sets = star (item (codes "Set"))

-- what the texts say
abbrev pub WorkedTexts : Type 0
WorkedTexts =
    RuleText (codes "Set = wheelset(Wheel,Wheel)") (rule (codes "Set") (codes "wheelset") (branch two_wheels))
    × RuleText (codes "Wheel = wheel(Sh,(Sd|Low))") (rule (codes "Wheel") (codes "wheel") (branch wheel_parts))
    × RuleText (codes "Sh = sh[26,36]") (rule (codes "Sh") (codes "sh") (leaf (pos 2600) (pos 3600)))
    × RuleText (codes "Sd = sd[22,33]") (rule (codes "Sd") (codes "sd") (leaf (pos 2200) (pos 3300)))
    × RuleText (codes "Low = sd[18,22]") (rule (codes "Low") (codes "sd") (leaf (pos 1800) (pos 2200)))
    × StartText (codes "Set*") some_sets

-- sixteen brackets inside one another are read, and seventeen are not
abbrev pub WorkedDepth : Type 0
WorkedDepth =
    StartText (codes "((((((((((((((((Sh))))))))))))))))") (item (codes "Sh"))
    × ((e : Written) → StartText (codes "(((((((((((((((((Sh)))))))))))))))))") e → ⊥)

-- the contents of texts, marked in the order of the texts, the first place of all numbered base
abbrev pub marked : ℕ → List Written → List (Content ℕ)
marked base [] = []
marked base (e ∷ es) = mark base e ∷ marked (base + places e) es

-- the contents of the worked form; a leaf has no children
abbrev pub worked : List (Content ℕ)
worked = marked 0 (two_wheels ∷ wheel_parts ∷ empty ∷ empty ∷ empty ∷ some_sets ∷ [])

-- P holds of one of the contents
abbrev pub InOne : (Content ℕ → Type 0) → List (Content ℕ) → Type 0
InOne P [] = ⊥
InOne P (c ∷ cs) = P c ⊎ InOne P cs

-- 2 opens, 3 closes, 4 follows 2 and does not follow 3, 5 follows itself
abbrev pub WorkedSets : Type 0
WorkedSets =
    InOne (λ c. Opens c 2) worked
    × InOne (λ c. Closes c 3) worked
    × InOne (λ c. Follows c 2 4) worked
    × (InOne (λ c. Follows c 3 4) worked → ⊥)
    × InOne (λ c. Follows c 5 5) worked
