-- What a layer that hides a name shows has the shape of a record.
use Rattle.std.proofs.Common.{◌≡◌, ℕ, suc, ◌+◌, ◌<◌, ◌≤◌, true, false, List, [], ◌∷◌, ◌++◌, map, length, get_or, drop, Some, None, Option, sym, refl, ap, ◌∙◌, subst, arith}
use Rattle.std.specs.Option.{is_some}
use Rattle.std.proofs.lemmas.List.{drop_more, append_assoc}
use Rattle.records.specs.Nodes.{Node, no_node, next_depth, proper, shaped, Shape}
use Rattle.layers.specs.Layers.{Kept, Selected, hidden_by, unless_hidden, shown, without, Hides}
use Rattle.layers.specs.Views.{entry_of, entries, viewed, view_nodes, view_places}
use Rattle.records.specs.Shapes.{shaped_depth, shaped_from, shaped_proper, shaped_rest}
use Rattle.layers.proofs.Selecting.{Under, Step, stays, begins, ends, step_at, hidden_selects}
use Rattle.layers.proofs.Entries.{length_entries, getD_entries, view_entries, places_entries}
use Rattle.layers.specs.declared.view.Shown.{Shown}

-- what is shown is chosen by the nodes, whatever stands beside them
map_unless : {X Y : Type 0} (f : X → Y) (top : Option ℕ) (x : X) (xs : List X) → map f (unless_hidden top x xs) ≡ unless_hidden top (f x) (map f xs)
map_unless f None x xs = refl
map_unless f (Some top) x xs = refl

pub map_shown : {X Y : Type 0} (f : X → Y) (w : List ℕ) (top : Option ℕ) (ns : List Node) (xs : List X) → map f (shown w top ns xs) ≡ shown w top ns (map f xs)
map_shown f w top [] xs = refl
map_shown f w top (n ∷ ns) [] = refl
map_shown f w top (n ∷ ns) (x ∷ xs) =
    let after = hidden_by w top n in
    map_unless f after x (shown w after ns xs) ∙ ap (unless_hidden after (f x)) (map_shown f w after ns xs)

length_unless : {X : Type 0} (top : Option ℕ) (x : X) (xs : List X) → length (unless_hidden top x xs) ≤ suc (length xs)
length_unless None x xs = omega arith
length_unless (Some top) x xs = omega arith

pub length_shown : {X : Type 0} (w : List ℕ) (top : Option ℕ) (ns : List Node) (xs : List X) → length (shown w top ns xs) ≤ length ns
length_shown w top [] xs = omega arith
length_shown w top (n ∷ ns) [] = omega arith
length_shown w top (n ∷ ns) (x ∷ xs) =
    let after = hidden_by w top n in
    omega (arith, length_shown w after ns xs, length_unless after x (shown w after ns xs))

-- Where nothing is being left out, what may follow (at depth m at most) fits into p; else the hidden node does.
abbrev Fits : Option ℕ → ℕ → ℕ → Type 0
Fits None m p = m ≤ p
Fits (Some top) m p = top ≤ p

fits_here : (top : Option ℕ) (d m p : ℕ) → Fits top m p → d ≤ m → (Under top d → ⊥) → d ≤ p
fits_here None d m p f l o = omega arith
fits_here (Some top) d m p f l o = omega arith

-- one node, where the rest is in shape
node_shaped : (w : List ℕ) (m p : ℕ) (n : Node) (f : Option ℕ → List Node) (top after : Option ℕ) → n.depth ≤ m → proper n ≡ true → Fits top m p →
    ((t : Option ℕ) (q : ℕ) → Fits t (next_depth n.value n.depth) q → shaped q (f t) ≡ true) → Step w n top after →
    shaped p (unless_hidden after n (f after)) ≡ true
node_shaped w m p n f top after d r k rest (stays {t = t} l) = rest (Some t) p k
node_shaped w m p n f top after d r k rest (begins o e) = rest (Some n.depth) p (fits_here top n.depth m p k d o)
node_shaped w m p n f top after d r k rest (ends o e) = shaped_from p n (f None) (fits_here top n.depth m p k d o) r (rest None (next_depth n.value n.depth) (omega arith))

shown_shaped : (w : List ℕ) (m p : ℕ) (top : Option ℕ) (ns : List Node) → shaped m ns ≡ true → Fits top m p → shaped p (shown w top ns ns) ≡ true
shown_shaped w m p top [] h k = refl
shown_shaped w m p top (n ∷ ns) h k =
    node_shaped w m p n (λ t. shown w t ns ns) top (hidden_by w top n) (shaped_depth m n ns h) (shaped_proper m n ns h) k
    (λ t q f. shown_shaped w (next_depth n.value n.depth) q t ns (shaped_rest m n ns h) f)
    (step_at w n top)

shown_if : {X : Type 0} (top : Option ℕ) (x : X) (xs : List X) → is_some top ≡ false → unless_hidden top x xs ≡ x ∷ xs
shown_if None x xs h = refl
shown_if (Some d) x xs h = cc

hidden_if : {X : Type 0} (top : Option ℕ) (x : X) (xs : List X) → is_some top ≡ true → unless_hidden top x xs ≡ xs
hidden_if None x xs h = cc
hidden_if (Some d) x xs h = refl

-- The loop that builds the entries: what is to come from node i on.
module _ (w : List ℕ) (ns : List Node) where
  abbrev pub to_come : Option ℕ → ℕ → List Shown
  to_come top i = shown w top (drop i ns) (drop i (entries 0 ns))

  pub come_more : (top : Option ℕ) (i : ℕ) → i < length ns → to_come top i ≡ unless_hidden (hidden_by w top (get_or ns i no_node)) (entry_of i (get_or ns i no_node)) (to_come (hidden_by w top (get_or ns i no_node)) (i + 1))
  come_more top i h =
      let n = get_or ns i no_node in
      let k = length_entries 0 ns in
      ap (λ l. shown w top l (drop i (entries 0 ns))) (drop_more ns i no_node h)
      ∙ ap (λ l. shown w top (n ∷ drop (i + 1) ns) l) (drop_more (entries 0 ns) i (entry_of i n) (omega arith))
      ∙ ap (λ (s : Shown). unless_hidden (hidden_by w top n) s (to_come (hidden_by w top n) (i + 1))) (getD_entries 0 ns i (entry_of i n) h ∙ ap (λ (j : ℕ). entry_of j n) (omega arith))

  module _ (items : List Shown) (e : items ≡ without w ns (entries 0 ns)) where
    hide_nodes : view_nodes ns items ≡ without w ns ns
    hide_nodes =
        ap (map (viewed ns)) e ∙ map_shown (viewed ns) w None ns (entries 0 ns)
        ∙ ap (λ (l : List Node). without w ns l) (view_entries ns 0 ns (λ k l. ap (λ (j : ℕ). get_or ns j no_node) (omega arith)))

    pub hide_shape : Shape ns → Shape (view_nodes ns items)
    hide_shape s = subst Shape (sym hide_nodes) (omega (arith, s.0, length_shown w None ns ns), shown_shaped w 0 0 None ns s.1 (omega arith))

    hide_places : (ps : List ℕ) → length ps ≡ length ns → view_places ps items ≡ without w ns ps
    hide_places ps level =
        let f : Shown → ℕ = λ s. get_or ps s.at 0 in
        ap (map f) e ∙ map_shown f w None ns (entries 0 ns)
        ∙ ap (λ (l : List ℕ). without w ns l) (places_entries ps 0 ns ps level (λ k l. ap (λ (j : ℕ). get_or ps j 0) (omega arith)))

    pub hides : (ps : List ℕ) → length ps ≡ length ns → Hides w ns ps (view_nodes ns items) (view_places ps items)
    hides ps level =
        record {
          nodes = hide_nodes;
          places = hide_places ps level;
          kept = subst (Selected (Kept w ns) 0 ns) (sym hide_nodes) (hidden_selects w ns ns refl);
          kept_places = subst (Selected (Kept w ns) 0 ps) (sym (hide_places ps level)) (hidden_selects w ns ps level);
        }

  -- one node more of the loop
  module _ (items items' : List Shown) (top after : Option ℕ) (i : ℕ) (inv : items ++ to_come top i ≡ without w ns (entries 0 ns)) (h : i < length ns) (step : after ≡ hidden_by w top (get_or ns i no_node)) where
    come_next : to_come top i ≡ unless_hidden after (entry_of i (get_or ns i no_node)) (to_come after (i + 1))
    come_next = come_more top i h ∙ ap (λ (t : Option ℕ). unless_hidden t (entry_of i (get_or ns i no_node)) (to_come t (i + 1))) (sym step)

    pub step_shows : is_some after ≡ false → items' ≡ items ++ entry_of i (get_or ns i no_node) ∷ [] → items' ++ to_come after (i + 1) ≡ without w ns (entries 0 ns)
    step_shows t e =
        let s = entry_of i (get_or ns i no_node) in
        ap (λ (l : List Shown). l ++ to_come after (i + 1)) e ∙ append_assoc items (s ∷ []) (to_come after (i + 1))
        ∙ ap (λ (l : List Shown). items ++ l) (sym (come_next ∙ shown_if after s (to_come after (i + 1)) t)) ∙ inv

    pub step_hides : is_some after ≡ true → items' ≡ items → items' ++ to_come after (i + 1) ≡ without w ns (entries 0 ns)
    step_hides t e =
        let s = entry_of i (get_or ns i no_node) in
        ap (λ (l : List Shown). l ++ to_come after (i + 1)) e
        ∙ ap (λ (l : List Shown). items ++ l) (sym (come_next ∙ hidden_if after s (to_come after (i + 1)) t)) ∙ inv
