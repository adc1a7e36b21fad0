-- The first line of some bytes.
use Rattle.std.specs.Prelude.{◌≡◌, ℕ, suc, ◌<◌, ◌≤◌, [], ◌∷◌, length, if◌then◌else◌, ◌==◌}
use Rattle.std.specs.Str.{byte}
use Rattle.rsml_meaning.specs.EventLines.{Bytes}
use Rattle.event_file.specs.declared.front.Front.{Front}
use Rattle.event_file.specs.declared.front.Front.TheVariants.{Whole, Long, Open}

-- how many bytes stand before the first LF, or in all where there is none
unfoldable pub width : Bytes → ℕ
width [] = 0
width (c ∷ cs) = if c == byte "\n" then 0 else suc (width cs)

-- there is no LF
abbrev pub HasNoEnd : Bytes → Type 0
HasNoEnd bytes = width bytes ≡ length bytes

-- What the bytes tell of their first line, of which more than `most` bytes are too many:
abbrev pub IsFront : ℕ → Bytes → Front → Type 0
-- its LF is among them, after so many bytes
IsFront most bytes (Whole n) = (n ≡ width bytes) × (n < length bytes) × (n ≤ most)
-- it has too many
IsFront most bytes Long = most < width bytes
-- they have no LF and are not too many
IsFront most bytes Open = HasNoEnd bytes × (length bytes ≤ most)
