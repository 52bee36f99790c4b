-- Every refusal has a number, and names the places that stand behind it. Contracts speak of refusals by these alone.
use Rattle.std.specs.Prelude.{ℕ, List, [], ◌∷◌, ◌++◌, codes, decimal}
use Rattle.refusals.specs.declared.Refusal.{Refusal}
use Rattle.refusals.specs.declared.Refusal.TheVariants.{Misfit, Limit, Block, Short, List as OtherList, Input}

-- 3: the first item at fault of a record text does not fit, or an element is open at its end;
-- 4: the first item at fault of a record text begins an element beyond a limit;
-- 5: a gate block is not laid out as it should be, or its nodes break the shape of records;
-- 6: a lent list is too short;
-- 7: a list does not begin with the entries of its text;
-- 8: a program's input is not of its form
abbrev pub told : Refusal → ℕ × List ℕ
told (Misfit p) = (3, p ∷ [])
told (Limit p) = (4, p ∷ [])
told Block = (5, [])
told Short = (6, [])
told OtherList = (7, [])
told Input = (8, [])

abbrev pub number : Refusal → ℕ
number e = (told e).0

abbrev pub places : Refusal → List ℕ
places e = (told e).1

-- A refusal as text: the word `refused`, its number, and any places that it names, each after a single space. `decimal n` is the
-- digits of n, with no zero before the first but in 0 itself.
abbrev pub spaced : List ℕ → List ℕ
spaced [] = []
spaced (n ∷ ns) = codes " " ++ (decimal n ++ spaced ns)

abbrev pub text : Refusal → List ℕ
text e = codes "refused" ++ spaced (number e ∷ places e)
