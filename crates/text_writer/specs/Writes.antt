-- What writing bytes does to a text that is whole until the first refusal.
use Rattle.std.specs.Prelude.{◌≡◌, ℕ, ◌≤◌, Bool, true, false, List, Option}
use Rattle.rsml_io.specs.Counts.{Rose}
use Rattle.rsml_io.specs.Writing.{appended, AppendsProperPrefix}

-- Whether nothing was refused so far, how many refusals were counted, and the ghost name of the reference through which it writes, 0 where
-- there is none.
pub record WriterState : Type 0 where
  pub whole : Bool
  pub refusals : ℕ
  pub target : ℕ

-- Bytes were written behind the text, all of them where nothing is refused yet, and of them only the front where this was
-- refused, which is counted. Where something was refused before, nothing was written. All goes to one target.
pub record Writes (state : WriterState) (old : Option (List ℕ)) (bytes : List ℕ) (state' : WriterState) (new : Option (List ℕ)) : Type 0 where
  pub before : state'.whole ≡ true → state.whole ≡ true
  pub all : state'.whole ≡ true → new ≡ appended old bytes
  pub part : state.whole ≡ true → state'.whole ≡ false → AppendsProperPrefix old new bytes
  pub none : state.whole ≡ false → new ≡ old
  pub count : state.refusals ≤ state'.refusals
  pub cause : state.whole ≡ true → state'.whole ≡ false → Rose state.refusals state'.refusals
  pub same : state'.target ≡ state.target
