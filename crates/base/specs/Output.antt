-- How octets are stored in an output that was lent (rules F5, P4).
use Rattle.std.specs.Prelude.{ℕ, List, ◌++◌, length, drop, leb}
use Rattle.base.specs.Choice.{pick}

-- an output after a text was stored from its first place on; the rest stays, and all of it where the text has more octets
unfoldable pub stored_in : List ℕ → List ℕ → List ℕ
stored_in text out = pick (leb (length text) (length out)) (text ++ drop (length text) out) out
