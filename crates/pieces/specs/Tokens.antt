-- The piece that a token of the code stands for.
use Rattle.std.specs.Prelude.{ℕ, List, map}
use Rattle.lexical.specs.Spellings.{spelling}
use Rattle.pieces.specs.Pieces.{Piece, word, number, sign, unfit, equals, bar, comma, asterisk, cross, question, open_round, close_round, open_square, close_square}
use Rattle.pieces.specs.declared.token.Sign.{Sign as CodeSign}
use Rattle.pieces.specs.declared.token.Sign.TheVariants.{Equals, Bar, Comma, Asterisk, Cross, Question, OpenRound, CloseRound, OpenSquare, CloseSquare}
use Rattle.pieces.specs.declared.token.Token.{Token}
use Rattle.pieces.specs.declared.token.Token.TheVariants.{Unfit, Word, Number, Sign}

-- the byte of a sign
abbrev pub byte : CodeSign → ℕ
byte Equals = equals
byte Bar = bar
byte Comma = comma
byte Asterisk = asterisk
byte Cross = cross
byte Question = question
byte OpenRound = open_round
byte CloseRound = close_round
byte OpenSquare = open_square
byte CloseSquare = close_square

abbrev pub piece : Token → Piece
piece Unfit = unfit
piece (Word w) = word (spelling w)
piece (Number v) = number v
piece (Sign s) = sign (byte s)

abbrev pub pieces_of : List Token → List Piece
pieces_of ts = map piece ts
