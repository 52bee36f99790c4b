-- What `outline` writes of a text.
use Rattle.std.specs.Prelude.{◌≡◌, ℕ, ◌<◌, ◌≤◌, ◌⊎◌, List, [], ◌∷◌, ◌++◌, length}
use Rattle.record_text.specs.declared.entry.Entry.{Entry}
use Rattle.record_text.specs.Reading.{Misfit, Unclosed, Limit}
use Rattle.record_text.specs.Opening.{Reads}
use Rattle.reports.specs.Lines.{node_lines, count_line, refused_line}

-- the most bytes that an input may have
abbrev pub most_input : ℕ
most_input = 16384

-- the nodes in their order, and how many there are
abbrev pub listing : List ℕ → List Entry → List ℕ
listing t es = node_lines t 0 es ++ count_line (length es)

-- `Reported s t o`: o is what there is to say of the text t, however long it is, where `s es` is said of a record with the entries es.
pub data Reported (s : List Entry → List ℕ) (t : List ℕ) : List ℕ → Type 0 where
  -- a record
  reads : (es : List Entry) → Reads t es → Reported s t (s es)
  -- no record, since the first item at fault, at p, does not fit, or an element is open at the end, which is p
  misfits : (p : ℕ) → Misfit t p ⊎ Unclosed t p → Reported s t (refused_line 3 (p ∷ []))
  -- no record, since the first item at fault, at p, begins one node too many or one that lies too deep
  limits : (p : ℕ) → Limit t p → Reported s t (refused_line 4 (p ∷ []))

-- `Outlined s t o`: o is the report of the input t.
pub data Outlined (s : List Entry → List ℕ) (t o : List ℕ) : Type 0 where
  -- an input with too many bytes is not read
  too_long : most_input < length t → o ≡ refused_line 8 [] → Outlined s t o
  -- any other is
  short_enough : length t ≤ most_input → Reported s t o → Outlined s t o
