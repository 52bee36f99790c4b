-- What the grammar says, the parser gives.
use Rattle.std.proofs.Common.{◌≡◌, ℕ, zero, suc, ◌+◌, ◌*◌, ◌<◌, true, false, cond, List, [], length, Some, None, Option as Maybe, refl, ap, ◌∙◌, not-suc-le-zero, arith}
use Rattle.contents.specs.Contents.{empty, seq, alt, star, plus, opt}
use Rattle.pieces.specs.Pieces.{Piece, bar, comma, asterisk, cross, question, close_round}
use Rattle.form_grammar.specs.Grammar.{deepest, Written, Part, a_choice, a_sequence, an_item, an_atom, Reads, last_sequence, or_choice, last_item, then_sequence, plain, starred, crossed, asked, variable, bracket, Says, nothing, choice, Body, branch, Rule, Bodied, of_branch, of_leaf, Ruled, of_rule}
use Rattle.form_grammar.specs.Parser.{when_there, ◌>>=◌, past, at_end, Got, joined, repeated, closed, parse, begins, content, content_of, body_of, rule_of_pieces}

-- a part has a piece at least, and its first begins an atom
pub shorter : {k : Part} {d : ℕ} {s : List Piece} {e : Written} {t : List Piece} → Reads k d s e t → length t < length s
shorter (last_sequence x) = shorter x
shorter (or_choice x y) = let a = shorter x in let b = shorter y in omega arith
shorter (last_item x) = shorter x
shorter (then_sequence x y) = let a = shorter x in let b = shorter y in omega arith
shorter (plain x) = shorter x
shorter (starred x) = let a = shorter x in omega arith
shorter (crossed x) = let a = shorter x in omega arith
shorter (asked x) = let a = shorter x in omega arith
shorter variable = omega arith
shorter (bracket x) = let a = shorter x in omega arith

pub begun : {k : Part} {d : ℕ} {s : List Piece} {e : Written} {t : List Piece} → Reads k d s e t → begins s ≡ true
begun (last_sequence x) = begun x
begun (or_choice x y) = begun x
begun (last_item x) = begun x
begun (then_sequence x y) = begun x
begun (plain x) = begun x
begun (starred x) = begun x
begun (crossed x) = begun x
begun (asked x) = begun x
begun variable = refl
begun (bracket x) = refl

-- no sign stands first that would carry a part of the kind on
abbrev Unrepeated : List Piece → Type 0
Unrepeated t = (past asterisk t ≡ None) × (past cross t ≡ None) × (past question t ≡ None)

abbrev pub Stops : Part → List Piece → Type 0
Stops an_atom t = Unit {0}
Stops an_item t = Unrepeated t
Stops a_sequence t = (past comma t ≡ None) × Unrepeated t
Stops a_choice t = (past bar t ≡ None) × ((past comma t ≡ None) × Unrepeated t)

unjoined : (b : ℕ) (join : Written → Written → Written) (more : List Piece → Got) (e : Written) (t : List Piece) → past b t ≡ None
    → ◌≡◌ {A = Got} (joined b join more (e, t)) (Some (e, t))
unjoined b join more e t h = ap (λ o. when_there o (λ u. more u >>= (λ (p : Written × List Piece). Some (join e p.0, p.1))) (Some (e, t))) h

unrepeated : (e : Written) (t : List Piece) → Stops an_item t → ◌≡◌ {A = Got} (repeated (e, t)) (Some (e, t))
unrepeated e t (p, q, r) =
    ap {B = Got} (λ o. when_there o (λ u. Some (star e, u)) (when_there (past cross t) (λ u. Some (plus e, u)) (when_there (past question t) (λ u. Some (opt e, u)) (Some (e, t))))) p
    ∙ ap {B = Got} (λ o. when_there o (λ u. Some (plus e, u)) (when_there (past question t) (λ u. Some (opt e, u)) (Some (e, t)))) q
    ∙ ap {B = Got} (λ o. when_there o (λ u. Some (opt e, u)) (Some (e, t))) r

abbrev rank : Part → ℕ
rank a_choice = 3
rank a_sequence = 2
rank an_item = 1
rank an_atom = 0

-- with more steps than this, all of a part is read
pub parse_complete : (n : ℕ) {k : Part} {d : ℕ} {s : List Piece} {e : Written} {t : List Piece} → Reads k d s e t → Stops k t
    → 4 * length s + rank k < n → ◌≡◌ {A = Got} (parse n k d s) (Some (e, t))
parse_complete zero x h b = absurd (not-suc-le-zero b)
parse_complete (suc n) (last_sequence {d = d} {s = s} {t = t} {e = e} x) h b =
    ap {B = Got} (λ g. g >>= joined bar alt (λ t. parse n a_choice d t)) (parse_complete n x h.1 (omega arith))
    ∙ unjoined bar alt (λ t. parse n a_choice d t) e t h.0
parse_complete (suc n) (or_choice {d = d} {s = s} {t = t} {u = u} {e = e} {f = f} x y) h b =
    let l = shorter x in
    ap {B = Got} (λ g. g >>= joined bar alt (λ t. parse n a_choice d t)) (parse_complete n x (refl, (refl, refl, refl)) (omega arith))
    ∙ ap {B = Got} (λ g. g >>= (λ (p : Written × List Piece). Some (alt e p.0, p.1))) (parse_complete n y h (omega arith))
parse_complete (suc n) (last_item {d = d} {s = s} {t = t} {e = e} x) h b =
    ap {B = Got} (λ g. g >>= joined comma seq (λ t. parse n a_sequence d t)) (parse_complete n x h.1 (omega arith))
    ∙ unjoined comma seq (λ t. parse n a_sequence d t) e t h.0
parse_complete (suc n) (then_sequence {d = d} {s = s} {t = t} {u = u} {e = e} {f = f} x y) h b =
    let l = shorter x in
    ap {B = Got} (λ g. g >>= joined comma seq (λ t. parse n a_sequence d t)) (parse_complete n x (refl, refl, refl) (omega arith))
    ∙ ap {B = Got} (λ g. g >>= (λ (p : Written × List Piece). Some (seq e p.0, p.1))) (parse_complete n y h (omega arith))
parse_complete (suc n) (plain {d = d} {s = s} {t = t} {e = e} x) h b = ap {B = Got} (λ g. g >>= repeated) (parse_complete n x tt (omega arith)) ∙ unrepeated e t h
parse_complete (suc n) (starred x) h b = ap {B = Got} (λ g. g >>= repeated) (parse_complete n x tt (omega arith))
parse_complete (suc n) (crossed x) h b = ap {B = Got} (λ g. g >>= repeated) (parse_complete n x tt (omega arith))
parse_complete (suc n) (asked x) h b = ap {B = Got} (λ g. g >>= repeated) (parse_complete n x tt (omega arith))
parse_complete (suc n) variable h b = refl
parse_complete (suc n) (bracket x) h b = ap {B = Got} (λ g. g >>= closed) (parse_complete n x (refl, (refl, (refl, refl, refl))) (omega arith))

-- contents, bodies and rules
pub content_complete : {s : List Piece} {e : Written} {t : List Piece} → Says s e t → begins t ≡ false → Stops a_choice t → ◌≡◌ {A = Got} (content s) (Some (e, t))
content_complete (nothing {t = t}) h k = ap {B = Got} (λ b. cond b (parse (4 + 4 * length t) a_choice deepest t) (Some (empty, t))) h
content_complete (choice {s = s} {t = t} {e = e} x) h k =
    ap {B = Got} (λ b. cond b (parse (4 + 4 * length s) a_choice deepest s) (Some (empty, s))) (begun x) ∙ parse_complete (4 + 4 * length s) x k (omega arith)

pub content_of_complete : {s : List Piece} {e : Written} → Says s e [] → content_of s ≡ Some e
content_of_complete x = ap (λ (g : Got). g >>= (λ (p : Written × List Piece). at_end p.0 p.1)) (content_complete x refl (refl, (refl, (refl, refl, refl))))

pub body_complete : {s : List Piece} {b : Body} → Bodied s b → body_of s ≡ Some b
body_complete (of_branch x) =
    ap (λ (g : Got). g >>= (λ (p : Written × List Piece). past close_round p.1 >>= (λ u. at_end (branch p.0) u))) (content_complete x refl (refl, (refl, (refl, refl, refl))))
body_complete of_leaf = refl

pub rule_complete : {s : List Piece} {r : Rule} → Ruled s r → rule_of_pieces s ≡ Some r
rule_complete (of_rule {v = v} {n = n} x) = ap {B = Maybe Rule} (λ o. o >>= (λ b. Some (record { variable = v; name = n; body = b }))) (body_complete x)
