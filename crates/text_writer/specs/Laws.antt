-- Laws of writing. Each is the contract of a function with no body.
use Rattle.std.specs.Prelude.{◌≡◌, List, ℕ, [], ◌++◌, Option}
use Rattle.text_writer.specs.Writes.{WriterState, Writes}

-- to write no bytes is to leave the text as it was, whole or not
abbrev pub NothingChangesNothing : Type 0
NothingChangesNothing = (was is : WriterState) (old new : Option (List ℕ)) → Writes was old [] is new → (is.whole ≡ was.whole) × (new ≡ old)

-- to write one piece and then another is to write both
abbrev pub PiecesAreOne : Type 0
PiecesAreOne = (first second third : WriterState) (old mid new : Option (List ℕ)) (a b : List ℕ)
    → Writes first old a second mid → Writes second mid b third new → Writes first old (a ++ b) third new
