-- What the functions promise that read one piece of a text. The contract of the whole cut does not rest on these.
use Rattle.std.specs.Prelude.{◌≡◌, ℕ, ◌<◌, List, ◌∷◌, length, Some, None, Option as Maybe}
use Rattle.pieces.specs.declared.token.Token.{Token}
use Rattle.pieces.specs.Pieces.{Piece}
use Rattle.pieces.specs.Cutting.{pieces}
use Rattle.pieces.specs.Tokens.{piece}

-- the pieces with that of a token before them, if there is one
abbrev pub before : Maybe Token → List Piece → List Piece
before None ps = ps
before (Some x) ps = piece x ∷ ps

-- A text begins with the token, or with a blank where there is none, and goes on with the rest.
pub record Leads (t : List ℕ) (x : Maybe Token) (rest : List ℕ) : Type 0 where
  pub shorter : length rest < length t
  pub same : pieces t ≡ before x (pieces rest)
