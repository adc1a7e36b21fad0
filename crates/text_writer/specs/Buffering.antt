-- A sink behind a buffer of fixed size.
use Rattle.std.specs.Prelude.{◌≡◌, ◌≢◌, ℕ, ◌+◌, ◌*◌, ◌≤◌, Bool, true, false, List, [], length, take, Option, option_map}
use Rattle.std.specs.Option.{option_map_or}
use Rattle.rsml_io.specs.Counts.{Rose}
use Rattle.rsml_io.specs.Writing.{appended, AppendsProperPrefix}
use Rattle.text_writer.specs.Writes.{WriterState}

-- Bytes that wait to be written, and how many may wait.
pub record Waiting : Type 0 where
  pub bytes : List ℕ
  pub room : ℕ

-- room for so many bytes, of which none waits
abbrev pub none_waiting : ℕ → Waiting
none_waiting room = record { bytes = []; room = room }

-- how many bytes were written, 0 where they are not told
abbrev pub count_of : Option (List ℕ) → ℕ
count_of written = option_map_or length written 0

-- the written bytes begin with those that were written before
abbrev pub Continues : Option (List ℕ) → Option (List ℕ) → Type 0
Continues before written = option_map (take (count_of before)) written ≡ before

-- One number for the reference of this ghost name, behind which so many bytes were written. No two pairs have the same.
unfoldable pub target_of : ℕ → ℕ → ℕ
target_of name place = (name + place) * (name + place) + name

-- the state of a writer that begins to write through the reference of this name, behind what was written before
abbrev pub begins : ℕ → Option (List ℕ) → ℕ → WriterState
begins name written refusals = record { whole = true; refusals = refusals; target = target_of name (count_of written) }

-- Bytes that waited were written: all of them, or as many as were taken before a refusal, which is counted. The text stays the same, and
-- where something was refused before, nothing is written.
pub record Flushes (state : WriterState) (old : Option (List ℕ)) (state' : WriterState) (new : Option (List ℕ)) : Type 0 where
  pub text : new ≡ old
  pub before : state'.whole ≡ true → state.whole ≡ true
  pub count : state.refusals ≤ state'.refusals
  pub cause : state.whole ≡ true → state'.whole ≡ false → Rose state.refusals state'.refusals
  pub same : state'.target ≡ state.target

-- bytes from the front were written, or all
abbrev pub AppendsPrefix : Option (List ℕ) → Option (List ℕ) → List ℕ → Type 0
AppendsPrefix old new bytes = (n : ℕ) × (n ≤ length bytes) × (new ≡ appended old (take n bytes))

-- The text is what stands in the sink, where nothing was refused. Else a refusal is counted, if none was before; and where the text got
-- some bytes or a prefix of them since it began, the sink has a prefix that is shorter. What keeps the target that it had when it began
-- is held by the same reference.
pub record Finishes (state : WriterState) (text : Option (List ℕ)) (all : Bool) (name refusals : ℕ) (written : Option (List ℕ))
    : Type 0 where
  pub earlier : all ≡ true → state.whole ≡ true
  pub whole : all ≡ true → written ≡ text
  pub part : all ≡ false → (first : WriterState) (held counted : ℕ) (before : Option (List ℕ)) (bytes : List ℕ)
      → first ≡ begins held before counted
      → state.target ≡ first.target → bytes ≢ [] → AppendsPrefix before text bytes → AppendsProperPrefix before written bytes
  pub count : state.refusals ≤ refusals
  pub cause : state.whole ≡ true → all ≡ false → Rose state.refusals refusals
  pub same : (first : WriterState) (held counted : ℕ) (before : Option (List ℕ)) → first ≡ begins held before counted
      → state.target ≡ first.target → name ≡ held

-- Bytes were written behind what was written before: all of them, or a prefix that is shorter, and then a refusal is counted.
pub record Written (before : Option (List ℕ)) (refusals : ℕ) (bytes : List ℕ) (all : Bool) (written : Option (List ℕ)) (refusals' : ℕ)
    : Type 0 where
  pub whole : all ≡ true → written ≡ appended before bytes
  pub part : all ≡ false → AppendsProperPrefix before written bytes
  pub count : refusals ≤ refusals'
  pub cause : all ≡ false → Rose refusals refusals'
