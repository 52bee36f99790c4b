-- What the shape of a list says of each node. (These lemmas stand here and not in proofs/ since the proofs that sources and layers
-- give for their shape are terms of their code.)
use Rattle.std.specs.Prelude.{◌≡◌, ℕ, zero, suc, ◌<◌, ◌≤◌, true, List, [], ◌∷◌, length, nat_le, nat_lt, slice_index_or, refl}
use Rattle.std.proofs.Common.{arith}
use Rattle.std.proofs.lemmas.Bool.{and_parts, and_from, leb-true, le-leb, ltb-true, lt-ltb}
use Rattle.lexical.specs.Words.{word}
use Rattle.records.specs.Limits.{most_levels}
use Rattle.records.specs.Nodes.{Node, no_node, ranged, proper, next_depth, shaped}

module _ (m : ℕ) (n : Node) (ns : List Node) (h : shaped m (n ∷ ns) ≡ true) where
  pub shaped_depth : n.depth ≤ m
  shaped_depth = leb-true n.depth m (and_parts (nat_le n.depth m) _ h).0

  pub shaped_proper : proper n ≡ true
  shaped_proper = (and_parts (proper n) _ (and_parts (nat_le n.depth m) _ h).1).0

  pub shaped_rest : shaped (next_depth n.value n.depth) ns ≡ true
  shaped_rest = (and_parts (proper n) _ (and_parts (nat_le n.depth m) _ h).1).1

pub shaped_from : (m : ℕ) (n : Node) (ns : List Node) → n.depth ≤ m → proper n ≡ true → shaped (next_depth n.value n.depth) ns ≡ true → shaped m (n ∷ ns) ≡ true
shaped_from m n ns d p r = and_from (nat_le n.depth m) _ (le-leb n.depth m d) (and_from (proper n) _ p r)

-- a node of a shaped list is proper
pub proper_at : (m : ℕ) (ns : List Node) (k : ℕ) → shaped m ns ≡ true → k < length ns → proper (slice_index_or ns k no_node) ≡ true
proper_at m [] k h l = absurd (omega arith)
proper_at m (n ∷ ns) zero h l = shaped_proper m n ns h
proper_at m (n ∷ ns) (suc k) h l = proper_at (next_depth n.value n.depth) ns k (shaped_rest m n ns h) (omega arith)

module _ (n : Node) (h : proper n ≡ true) where
  pub proper_word : word n.name ≡ true
  proper_word = (and_parts (word n.name) _ h).0

  pub proper_low : n.depth < most_levels
  proper_low = ltb-true n.depth most_levels (and_parts (nat_lt n.depth most_levels) _ (and_parts (word n.name) _ h).1).0

  pub proper_ranged : ranged n.value ≡ true
  proper_ranged = (and_parts (nat_lt n.depth most_levels) _ (and_parts (word n.name) _ h).1).1

pub proper_from : (n : Node) → word n.name ≡ true → n.depth < most_levels → ranged n.value ≡ true → proper n ≡ true
proper_from n w l r = and_from (word n.name) _ w (and_from (nat_lt n.depth most_levels) _ (lt-ltb n.depth most_levels l) r)

-- deeper room does no harm
pub shaped_wider : (m k : ℕ) (ns : List Node) → m ≤ k → shaped m ns ≡ true → shaped k ns ≡ true
shaped_wider m k [] l h = refl
shaped_wider m k (n ∷ ns) l h =
    let d = shaped_depth m n ns h in
    shaped_from k n ns (omega arith) (shaped_proper m n ns h) (shaped_rest m n ns h)
