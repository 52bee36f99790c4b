-- Form texts are made of pieces: words, numbers and ten signs. What is none of these is a piece that fits nowhere.
use Rattle.std.specs.Prelude.{ℕ, Bool, cond, ◌||◌, List, ℤ, Some, None, Option as Maybe, ◌==◌}
use Rattle.lexical.specs.Words.{word as is_IsWord}
use Rattle.lexical.specs.Numbers.{number as number_value}

pub data Piece : Type 0 where
  -- a word, by its bytes
  word : List ℕ → Piece
  -- a number, in hundredths
  number : ℤ → Piece
  -- a sign, by its byte
  sign : ℕ → Piece
  unfit : Piece

-- the ten signs, by their bytes: `=`, `|`, `,`, `*`, `+`, `?`, and the brackets `(`, `)`, `[`, `]`
abbrev pub equals : ℕ
equals = 61

abbrev pub bar : ℕ
bar = 124

abbrev pub comma : ℕ
comma = 44

abbrev pub asterisk : ℕ
asterisk = 42

abbrev pub cross : ℕ
cross = 43

abbrev pub question : ℕ
question = 63

abbrev pub open_round : ℕ
open_round = 40

abbrev pub close_round : ℕ
close_round = 41

abbrev pub open_square : ℕ
open_square = 91

abbrev pub close_square : ℕ
close_square = 93

abbrev pub is_sign : ℕ → Bool
is_sign b =
    (b == equals) || (b == bar || (b == comma || (b == asterisk || (b == cross || (b == question
    || (b == open_round || (b == close_round || (b == open_square || b == close_square))))))))

-- the piece of one byte that is of no word or number
abbrev pub sign_piece : ℕ → Piece
sign_piece b = cond (is_sign b) (sign b) unfit

-- the piece of a run of letters, digits and hyphens: a word, unless it is too long
abbrev pub word_piece : List ℕ → Piece
word_piece w = cond (is_IsWord w) (word w) unfit

abbrev pub valued : Maybe ℤ → Piece
valued None = unfit
valued (Some v) = number v

-- the piece of a run of digits, hyphens and points: a number, if it is of that form
abbrev pub number_piece : List ℕ → Piece
number_piece s = valued (number_value s)
