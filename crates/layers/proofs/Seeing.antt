-- What a view shows of node n.
use Rattle.std.proofs.Common.{◌≡◌, ℕ, ◌<◌, ◌≤◌, true, false, ◌&&◌, ltb, List, [], length, get_or, Some, None, Option, Bor, refl, inl, inr, sym, ap, ◌∙◌, arith}
use Rattle.std.specs.Option.{is_some, IfSome, option_copied}
use Rattle.std.proofs.lemmas.List.{get_or-map, get_or_past, length-map}
use Rattle.std.proofs.lemmas.Bool.{cases_lt, lt-ltb, le-ltb, ltb-true, ltb-false, and_left}
use Rattle.std.specs.Str.{bytes_eq}
use Rattle.records.specs.Nodes.{Node, no_node, proper, Shape}
use Rattle.records.specs.Shapes.{proper_at, proper_word}
use Rattle.lexical.specs.Words.{spelled, word}
use mathlib.Core.Bool.{false≢true}
use Rattle.layers.specs.declared.view.Shown.{Shown}
use Rattle.layers.specs.Views.{Seen, viewed, view_nodes, view_places}

nameless : word [] ≡ false
unfolding spelled
nameless = refl

module _ (ns : List Node) (ps : List ℕ) (ss : List Shown) (n : ℕ) where
  seen_none : length ss ≤ n → Seen ns ps ss n None
  seen_none h =
      let l : length (view_nodes ns ss) ≡ length ss = length-map ss (viewed ns) in
      let k : length (view_places ps ss) ≡ length ss = length-map ss (λ (t : Shown). get_or ps t.at 0) in (
        get_or_past (view_nodes ns ss) n no_node (omega arith),
        get_or_past (view_places ps ss) n 0 (omega arith),
        λ w. and_left (ltb n (length (view_nodes ns ss))) _ (le-ltb n (length (view_nodes ns ss)) (omega arith)),
      )

  seen_some : (s : Shown) → n < length ss → s ≡ get_or ss n s → Shape (view_nodes ns ss) → Seen ns ps ss n (Some s)
  seen_some s h e shape =
      let l : length (view_nodes ns ss) ≡ length ss = length-map ss (viewed ns) in
      let node : get_or (view_nodes ns ss) n no_node ≡ viewed ns s = get_or-map (viewed ns) ss n s no_node h ∙ ap (viewed ns) (sym e) in
      let named : word (get_or ns s.at no_node).name ≡ true = proper_word (viewed ns s) (ap proper (sym node) ∙ proper_at 0 (view_nodes ns ss) n shape.1 (omega arith)) in
      let a : ltb s.at (length ns) ≡ true = lt-ltb s.at (length ns) (within s.at named) in
      let b : ltb n (length (view_nodes ns ss)) ≡ true = lt-ltb n (length (view_nodes ns ss)) (omega arith) in (
        node,
        get_or-map (λ (t : Shown). get_or ps t.at 0) ss n s 0 h ∙ ap (λ (t : Shown). get_or ps t.at 0) (sym e),
        λ w. ap (λ t. t && bytes_eq (get_or ns s.at no_node).name w) (a ∙ sym b) ∙ ap (λ (m : Node). ltb n (length (view_nodes ns ss)) && bytes_eq m.name w) (sym node),
      )
    where
      -- a node with a word for its name is there
      within : (i : ℕ) → word (get_or ns i no_node).name ≡ true → i < length ns
      within i h = elim (cases_lt i (length ns)) [
        | inl l ↦ l
        | inr l ↦ absurd (false≢true (sym nameless ∙ sym (ap (λ (m : Node). word m.name) (get_or_past ns i no_node l)) ∙ h))
      ]

  -- as the library's `get` answers
  pub seen : (r : Option (Bor Shown)) → is_some r ≡ ltb n (length ss) → IfSome r (λ x. x.now ≡ get_or ss n x.now) → Shape (view_nodes ns ss) → Seen ns ps ss n (option_copied r)
  seen None t e o = seen_none (ltb-false n (length ss) (sym t))
  seen (Some s) t e o = seen_some s.now (ltb-true n (length ss) (sym t)) e o
