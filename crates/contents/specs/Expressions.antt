-- The content that an expression of the code stands for.
use Rattle.std.specs.Prelude.{ℕ, ◌+◌}
use Rattle.contents.specs.Contents.{Content, empty, item, seq, alt, star, plus, opt}
use Rattle.contents.specs.declared.expression.Expression.{Expression}
use Rattle.contents.specs.declared.expression.Expression.TheVariants.{Empty, Item, Sequence', Choice', Star', Plus', Optional'}

abbrev pub content : {V : Type 0} → Expression V → Content V
content Empty = empty
content (Item p) = item p
content (Sequence' p a q b) = seq (content a) (content b)
content (Choice' p a q b) = alt (content a) (content b)
content (Star' p a) = star (content a)
content (Plus' p a) = plus (content a)
content (Optional' p a) = opt (content a)

-- how many nodes it has: what each recursion ends by
abbrev pub size : {V : Type 0} → Expression V → ℕ
size Empty = 1
size (Item p) = 1
size (Sequence' p a q b) = size a + size b + 1
size (Choice' p a q b) = size a + size b + 1
size (Star' p a) = size a + 1
size (Plus' p a) = size a + 1
size (Optional' p a) = size a + 1
