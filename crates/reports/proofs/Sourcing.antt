-- From what a laid or taken record tells to the report of its source.
use Rattle.std.proofs.Common.{◌≡◌, ℕ, true, cond, List, [], get_or, IfOk, Result, sym, ◌∙◌, subst}
use Rattle.std.proofs.lemmas.Result.{IfOk-weaker}
use Rattle.records.specs.Nodes.{no_node}
use Rattle.blocks.specs.Places.{good_block, block_nodes, block_places}
use Rattle.record_text.specs.declared.entry.Entry.{Entry}
use Rattle.record_text.specs.Opening.{Reads}
use Rattle.record_text.specs.Texts.{text_nodes, text_places}
use Rattle.reports.specs.Lines.{refused_line}
use Rattle.reports.specs.declared.piles.Asked.{Asked}
use Rattle.reports.specs.Piles.{hidden_name, asked_of}
use Rattle.reports.specs.Rows.{found}
use Rattle.reports.specs.Sources.{text_listing, block_listing, block_report}
use Rattle.reports.specs.Standing.{text_name}
use Rattle.reports.proofs.OwnNames.{cut_own, text_named, block_named}

pub text_laid : {V E : Type 0} (bytes : V → List ℕ) (r : Result V E) (a : Asked) (x x' : List ℕ) (es es' : List Entry) → Reads x es → x' ≡ x → es' ≡ es →
    IfOk r (λ v. bytes v ≡ asked_of (found (text_name x)) a (text_nodes x' es') (text_places es')) → IfOk r (λ v. bytes v ≡ text_listing a x es)
text_laid bytes r a x x' es es' h e f m =
    IfOk-weaker r _ _ (λ v q. q ∙ cut_own (text_name x) a.total (hidden_name a) a.cut (text_nodes x es) (text_places es) (text_named x es h))
    (subst (λ l. IfOk r (λ v. bytes v ≡ asked_of (found (text_name x)) a (text_nodes x l) (text_places l))) f
    (subst (λ u. IfOk r (λ v. bytes v ≡ asked_of (found (text_name x)) a (text_nodes u es') (text_places es'))) e m))

pub block_taken : {V E : Type 0} (bytes : V → List ℕ) (r : Result V E) (a : Asked) (b b' : List ℕ) → good_block b ≡ true → b' ≡ b →
    IfOk r (λ v. bytes v ≡ asked_of (found (λ p. (get_or (block_nodes b') p no_node).name)) a (block_nodes b') (block_places b')) → IfOk r (λ v. bytes v ≡ block_report a b)
block_taken bytes r a b b' g e m =
    let n : IfOk r (λ v. bytes v ≡ block_listing a b') =
    IfOk-weaker r _ _ (λ v q. q ∙ cut_own (λ p. (get_or (block_nodes b') p no_node).name) a.total (hidden_name a) a.cut (block_nodes b') (block_places b') (block_named b')) m in
    subst (λ k. IfOk r (λ v. bytes v ≡ cond k (block_listing a b) (refused_line 5 []))) (sym g) (subst (λ u. IfOk r (λ v. bytes v ≡ block_listing a u)) e n)
