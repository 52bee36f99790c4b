-- The lines of a report, as bytes. `decimal n` is the digits of n, with no zero before the first but in 0 itself.
use Rattle.std.specs.Prelude.{ℕ, ◌+◌, ◌/◌, ◌%◌, List, [], ◌∷◌, ◌++◌, map, take, drop, ℤ, pos, negsuc, Some, None, codes, decimal, Option as Maybe, unsigned_abs}
use Rattle.record_text.specs.declared.entry.Entry.{Entry}

-- a line: a word, and further words, each after a single space, up to the line's end (byte 10)
abbrev pub line : List ℕ → List (List ℕ) → List ℕ
line w [] = w ++ 10 ∷ []
line w (v ∷ vs) = w ++ 32 ∷ line v vs

-- n hundredths: a point stands before the last two digits
abbrev pub with_point : ℕ → List ℕ
with_point n = decimal (n / 100) ++ (codes "." ++ (decimal (n / 10 % 10) ++ decimal (n % 10)))

-- a minus before a number below zero
abbrev pub sign_text : ℤ → List ℕ
sign_text (pos n) = []
sign_text (negsuc n) = codes "-"

-- a number of hundredths as a decimal with two digits after the point: -0.01, 0.00, 33.01
abbrev pub value_text : ℤ → List ℕ
value_text z = sign_text z ++ with_point (unsigned_abs z)

-- what a node holds: the value of a leaf, and a hyphen for a branch
abbrev pub held_text : Maybe ℤ → List ℕ
held_text None = codes "-"
held_text (Some v) = value_text v

-- the line of node k: its number, its place, its depth, its name and what it holds
abbrev pub row : ℕ → ℕ → ℕ → List ℕ → Maybe ℤ → List ℕ
row k p d w v = line (decimal k) (decimal p ∷ decimal d ∷ w ∷ held_text v ∷ [])

-- the name of a node of a text: so many bytes as it is long, after the node's first byte
abbrev pub name_text : List ℕ → Entry → List ℕ
name_text t e = take e.name_len (drop (e.start + 1) t)

-- the line of node k of the text t
abbrev pub node_line : List ℕ → ℕ → Entry → List ℕ
node_line t k e = row k e.start e.depth (name_text t e) e.value

-- the lines of nodes, the first of which is node k
abbrev pub node_lines : List ℕ → ℕ → List Entry → List ℕ
node_lines t k [] = []
node_lines t k (e ∷ es) = node_line t k e ++ node_lines t (k + 1) es

-- the line that counts the nodes
abbrev pub count_line : ℕ → List ℕ
count_line n = line (decimal n) (codes "nodes" ∷ [])

-- the line of the sum of values
abbrev pub total_line : ℤ → List ℕ
total_line z = line (codes "total") (value_text z ∷ [])

-- the line of a refusal: its number and any places that it names
abbrev pub refused_line : ℕ → List ℕ → List ℕ
refused_line n ps = line (codes "refused") (decimal n ∷ map decimal ps)
