-- The report of a record under layers: cut first, if asked, and then without the nodes of a name.
use Rattle.std.specs.Prelude.{ℕ, Bool, cond, List, [], ◌++◌, Some, None, Option as Maybe}
use Rattle.std.specs.Borrow.{Bor}
use Rattle.std.specs.Option.{option_map}
use Rattle.records.specs.Nodes.{Node}
use Rattle.records.specs.Sums.{total_of}
use Rattle.layers.specs.Layers.{without, cut_nodes, cut_part}
use Rattle.reports.specs.declared.piles.Asked.{Asked}
use Rattle.reports.specs.Lines.{total_line}
use Rattle.reports.specs.Rows.{Naming, record_listing}

-- all nodes and how many there are, and if t says so the sum of their values
abbrev pub summed : Naming → Bool → List Node → List ℕ → List ℕ
summed g t ns ps = record_listing g ns ps ++ cond t (total_line (total_of ns)) []

-- without the nodes of the name w and all beneath them (a w that is no word hides nothing; `hiding_keeps` and `cutting_takes` of the
-- layers say what `without` and the cuts select)
abbrev pub with_hidden : Naming → Bool → List ℕ → List Node → List ℕ → List ℕ
with_hidden g t w ns ps = summed g t (without w ns ns) (without w ns ps)

-- without the nodes of a name, or all
abbrev pub with_kept : Naming → Bool → Maybe (List ℕ) → List Node → List ℕ → List ℕ
with_kept g t None ns ps = summed g t ns ps
with_kept g t (Some w) ns ps = with_hidden g t w ns ps

-- only a node and what lies beneath it, or all
abbrev pub with_cut : Naming → Bool → Maybe (List ℕ) → Maybe ℕ → List Node → List ℕ → List ℕ
with_cut g t w None ns ps = with_kept g t w ns ps
with_cut g t w (Some n) ns ps = with_kept g t w (cut_nodes n ns) (cut_part n ns ps)

-- the name that is to be hidden
abbrev pub hidden_name : Asked → Maybe (List ℕ)
hidden_name a = option_map (λ (w : Bor (List ℕ)). w.now) a.hide

-- what is asked but for the cut
abbrev pub kept_of : Naming → Asked → List Node → List ℕ → List ℕ
kept_of g a ns ps = with_kept g a.total (hidden_name a) ns ps

-- all that is asked
abbrev pub asked_of : Naming → Asked → List Node → List ℕ → List ℕ
asked_of g a ns ps = with_cut g a.total (hidden_name a) a.cut ns ps
