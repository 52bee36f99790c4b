-- The lines of nodes, one node after another.
use Rattle.std.proofs.Common.{◌≡◌, ℕ, ◌+◌, ◌<◌, ◌≤◌, List, [], ◌++◌, length, get_or, drop, append_assoc, append-nil}
use Rattle.std.proofs.lemmas.List.{at_drop_more, at_drop_all}
use Rattle.record_text.specs.declared.entry.Entry.{Entry}
use Rattle.record_text.specs.Entries.{branch}
use Rattle.reports.specs.Lines.{node_line, node_lines}

-- what a slice gives past its end
abbrev pub nowhere : Entry
nowhere = branch 0 0 0 0

-- one more line
pub one_more : (t : List ℕ) (es : List Entry) (i : ℕ) (o o' all : List ℕ) → i < length es → o' ≡ o ++ node_line t i (get_or es i nowhere) →
    o ++ node_lines t i (drop i es) ≡ all → o' ++ node_lines t (i + 1) (drop (i + 1) es) ≡ all
one_more t es i o o' all h more inv =
    let e = get_or es i nowhere in
    let d : node_lines t i (drop i es) ≡ node_line t i e ++ node_lines t (i + 1) (drop (i + 1) es) = at_drop_more (node_lines t i) es i nowhere h in
    let a = append_assoc o (node_line t i e) (node_lines t (i + 1) (drop (i + 1) es)) in
    cc

-- after the last line
pub all_of_them : (t : List ℕ) (es : List Entry) (i : ℕ) (o all : List ℕ) → length es ≤ i → o ++ node_lines t i (drop i es) ≡ all → o ≡ all
all_of_them t es i o all h inv =
    let d : node_lines t i (drop i es) ≡ [] = at_drop_all (node_lines t i) es i h in
    let a = append-nil o in
    cc
