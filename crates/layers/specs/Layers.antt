-- What the layers show of the record below them.
use Rattle.std.specs.Prelude.{◌≡◌, ℕ, ◌+◌, ◌-◌, ◌<◌, ◌≤◌, Bool, false, cond, ◌⊎◌, List, [], ◌∷◌, ◌++◌, map, take, drop, Some, None, Option, nat_lt}
use Rattle.std.specs.Str.{bytes_eq}
use Rattle.records.specs.Nodes.{Node, depth_at, named_at}

-- Node i lies beneath node j: it comes after j, and all nodes from there up to it are deeper than j.
pub record Beneath (ns : List Node) (j i : ℕ) : Type 0 where
  pub later : j < i
  pub deeper : (k : ℕ) → j < k → k ≤ i → depth_at ns j < depth_at ns k

-- Hiding the name w keeps a node when neither it nor any node that it lies beneath has the name.
pub record Kept (w : List ℕ) (ns : List Node) (i : ℕ) : Type 0 where
  pub itself : named_at ns i w ≡ false
  pub above : (j : ℕ) → Beneath ns j i → named_at ns j w ≡ false

-- Cutting at n takes node n and all that lies beneath it.
abbrev pub Taken : ℕ → List Node → ℕ → Type 0
Taken n ns i = (i ≡ n) ⊎ Beneath ns n i

-- `Selected P i xs ys`: ys are those elements of xs, in order, whose numbers are of P; the first of xs has the number i.
pub data Selected {X : Type 0} (P : ℕ → Type 0) : ℕ → List X → List X → Type 0 where
  nothing : {i : ℕ} → Selected P i [] []
  keeps : {i : ℕ} {x : X} {xs ys : List X} → P i → Selected P (i + 1) xs ys → Selected P i (x ∷ xs) (x ∷ ys)
  leaves : {i : ℕ} {x : X} {xs ys : List X} → (P i → ⊥) → Selected P (i + 1) xs ys → Selected P i (x ∷ xs) ys

-- The same as functions of the nodes below, and of any list xs that lies beside them (the nodes themselves, or their places).

-- Hiding, from left to right: `top` is the depth of the hidden node beneath which all is left out, or none where nodes are shown.
-- Whatever is deeper than it lies beneath that node.
abbrev pub lies_under : Option ℕ → ℕ → Bool
lies_under None d = false
lies_under (Some top) d = nat_lt top d

-- the depth of the hidden node that node n is or lies beneath; none where n is shown
abbrev pub hidden_by : List ℕ → Option ℕ → Node → Option ℕ
hidden_by w top n = cond (lies_under top n.depth) top (cond (bytes_eq n.name w) (Some n.depth) None)

-- with x in front, unless it is hidden
abbrev pub unless_hidden : {X : Type 0} → Option ℕ → X → List X → List X
unless_hidden None x xs = x ∷ xs
unless_hidden (Some top) x xs = xs

abbrev pub shown : {X : Type 0} → List ℕ → Option ℕ → List Node → List X → List X
shown w top [] xs = []
shown w top (n ∷ ns) [] = []
shown w top (n ∷ ns) (x ∷ xs) = unless_hidden (hidden_by w top n) x (shown w (hidden_by w top n) ns xs)

abbrev pub without : {X : Type 0} → List ℕ → List Node → List X → List X
without w ns xs = shown w None ns xs

-- the elements beside the nodes, from the first on, that are deeper than d
abbrev pub run : {X : Type 0} → ℕ → List Node → List X → List X
run d [] xs = []
run d (n ∷ ns) [] = []
run d (n ∷ ns) (x ∷ xs) = cond (nat_lt d n.depth) (x ∷ run d ns xs) []

-- the elements beside node n and all beneath it
abbrev pub cut_part : {X : Type 0} → ℕ → List Node → List X → List X
cut_part n ns xs = take 1 (drop n xs) ++ run (depth_at ns n) (drop (n + 1) ns) (drop (n + 1) xs)

abbrev pub lowered : ℕ → Node → Node
lowered d n = record { name = n.name; depth = n.depth - d; value = n.value }

-- node n and all beneath it, with depths lowered by that of n
abbrev pub cut_nodes : ℕ → List Node → List Node
cut_nodes n ns = map (lowered (depth_at ns n)) (cut_part n ns ns)

-- What a layer shows, by the functions and by the relations: nodes ns and places ps below, ns' and ps' here.
pub record Hides (w : List ℕ) (ns : List Node) (ps : List ℕ) (ns' : List Node) (ps' : List ℕ) : Type 0 where
  pub nodes : ns' ≡ without w ns ns
  pub places : ps' ≡ without w ns ps
  pub kept : Selected (Kept w ns) 0 ns ns'
  pub kept_places : Selected (Kept w ns) 0 ps ps'

pub record Cuts (n : ℕ) (ns : List Node) (ps : List ℕ) (ns' : List Node) (ps' : List ℕ) : Type 0 where
  pub nodes : ns' ≡ cut_nodes n ns
  pub places : ps' ≡ cut_part n ns ps
  pub taken : (ms : List Node) × Selected (Taken n ns) 0 ns ms × (ns' ≡ map (lowered (depth_at ns n)) ms)
  pub taken_places : Selected (Taken n ns) 0 ps ps'
