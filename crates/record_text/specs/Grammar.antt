-- Record text by a grammar: the content of an element after XML 1.0 (production 43), with elements, blanks and numbers only.
use Rattle.std.specs.Prelude.{◌≡◌, ℕ, suc, ◌+◌, true, List, [], ◌∷◌, ◌++◌, length, ℤ}
use Rattle.lexical.specs.declared.kinds.Kind.TheVariants.{Blank}
use Rattle.lexical.specs.Kinds.{kind}
use Rattle.lexical.specs.Words.{word}
use Rattle.lexical.specs.Numbers.{Number}
use Rattle.record_text.specs.declared.entry.Entry.{Entry}
use Rattle.record_text.specs.Entries.{branch, leaf}

-- An item of a text: a blank; a tag, by what stands between its `<` and the next `>`; a longest run of digits, hyphens and points;
-- any other byte; or a `<` with no `>` after it, here with all that follows it. (A run of blanks is several items: each of them
-- fits wherever one does, so no answer depends on how a run is counted.)
pub data Item : Type 0 where
  gap : ℕ → Item
  tag : List ℕ → Item
  num : List ℕ → Item
  stray : ℕ → Item
  lone : List ℕ → Item

abbrev pub bytes : Item → List ℕ
bytes (gap b) = b ∷ []
bytes (tag bs) = 60 ∷ (bs ++ 62 ∷ [])
bytes (num ds) = ds
bytes (stray b) = b ∷ []
bytes (lone bs) = 60 ∷ bs

abbrev pub text : List Item → List ℕ
text [] = []
text (i ∷ is) = bytes i ++ text is

-- how many bytes items take up
abbrev pub size : List Item → ℕ
size is = length (text is)

-- the tags of a name w: `<w>`, `</w>` and `<w/>`
abbrev pub opening : List ℕ → Item
opening w = tag w

abbrev pub closing : List ℕ → Item
closing w = tag (47 ∷ w)

abbrev pub alone : List ℕ → Item
alone w = tag (w ++ 47 ∷ [])

-- blanks and nothing else
pub data Blanks : List Item → Type 0 where
  no_blank : Blanks []
  one_more : {is : List Item} → Blanks is → (b : ℕ) → kind b ≡ Blank → Blanks (is ++ gap b ∷ [])

-- `Content p d is es`: the items `is`, of which the first stands at byte p, are blanks and elements of depth d, with the entries es.
-- `Element p d is es`: they are one element: an empty tag; a branch, around content that is one deeper; or a leaf, with one number.
mutual
  pub data Content : ℕ → ℕ → List Item → List Entry → Type 0 where
    nothing : {p d : ℕ} → Content p d [] []
    blank : {p d : ℕ} {is : List Item} {es : List Entry} → Content p d is es → (b : ℕ) → kind b ≡ Blank → Content p d (is ++ gap b ∷ []) es
    element : {p d : ℕ} {is : List Item} {es : List Entry} {js : List Item} {fs : List Entry} → Content p d is es → Element (p + size is) d js fs →
        Content p d (is ++ js) (es ++ fs)

  pub data Element : ℕ → ℕ → List Item → List Entry → Type 0 where
    hollow : {p d : ℕ} → (w : List ℕ) → word w ≡ true →
        Element p d (alone w ∷ []) (branch p (p + size (alone w ∷ [])) (length w) d ∷ [])
    around : {p d : ℕ} {is : List Item} {es : List Entry} → (w : List ℕ) → word w ≡ true → Content (p + length (bytes (opening w))) (suc d) is es →
        Element p d (opening w ∷ (is ++ closing w ∷ [])) (branch p (p + size (opening w ∷ (is ++ closing w ∷ []))) (length w) d ∷ es)
    holding : {p d : ℕ} {bs cs : List Item} → (w : List ℕ) → word w ≡ true → Blanks bs → (ds : List ℕ) (v : ℤ) → Number ds v → Blanks cs →
        Element p d (opening w ∷ (bs ++ num ds ∷ (cs ++ closing w ∷ [])))
        (leaf p (p + size (opening w ∷ (bs ++ num ds ∷ (cs ++ closing w ∷ [])))) (length w) d v ∷ [])

-- A text is well formed, with its entries, when it is the text of items that are content.
abbrev pub WellFormed : List ℕ → List Entry → Type 0
WellFormed t es = (is : List Item) × (text is ≡ t) × Content 0 0 is es

-- Items fit when the items of some well-formed text, of any size and depth, begin with them.
abbrev pub Fits : List Item → Type 0
Fits is = (more : List Item) × (es : List Entry) × Content 0 0 (is ++ more) es
