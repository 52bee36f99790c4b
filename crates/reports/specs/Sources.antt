-- The reports that are asked of a text or a gate block: under the layers and with the sum that are asked for.
use Rattle.std.specs.Prelude.{ℕ, cond, List, []}
use Rattle.reports.specs.declared.piles.Asked.{Asked}
use Rattle.blocks.specs.Places.{good_block, block_nodes, block_places}
use Rattle.record_text.specs.declared.entry.Entry.{Entry}
use Rattle.record_text.specs.Texts.{text_nodes, text_places}
use Rattle.reports.specs.Lines.{refused_line}
use Rattle.reports.specs.Rows.{own}
use Rattle.reports.specs.Piles.{asked_of}

-- what is said of the record with the entries es of the text x
abbrev pub text_listing : Asked → List ℕ → List Entry → List ℕ
text_listing a x es = asked_of own a (text_nodes x es) (text_places es)

-- what is said of the block b
abbrev pub block_listing : Asked → List ℕ → List ℕ
block_listing a b = asked_of own a (block_nodes b) (block_places b)

-- the report of a block, or the refusal of what is none (`block_rule` of the blocks says what a good block is)
abbrev pub block_report : Asked → List ℕ → List ℕ
block_report a b = cond (good_block b) (block_listing a b) (refused_line 5 [])
