-- What a buffer holds of a file, and what reads add to it.
use Rattle.std.specs.Prelude.{◌≡◌, ℕ, ◌≤◌, ◌++◌, length, take, drop, Option, IfSome}
use Rattle.rsml_meaning.specs.EventLines.{Bytes}

pub record Window : Type 0 where
  -- how many bytes there is room for
  pub room : ℕ
  -- the last line
  pub line : Bytes
  -- the bytes after it
  pub held : Bytes

-- these are the bytes of a file from an offset on, and it has as many
abbrev pub Holds : Bytes → ℕ → Bytes → Type 0
Holds file at held = held ≡ take (length held) (drop at file)

-- What a read of a file from an offset on gave: nothing only where the file ends there or before.
pub record IsPieceOf (file : Bytes) (at : ℕ) (piece : Bytes) : Type 0 where
  pub same : Holds file at piece
  pub none : length piece ≡ 0 → length file ≤ at

-- A read from an offset on put so many bytes at the end, which are the file's where that is told.
pub record Adds (told : Option Bytes) (at : ℕ) (old new : Bytes) (n : ℕ) : Type 0 where
  pub piece : Bytes
  pub size : length piece ≡ n
  pub same : new ≡ old ++ piece
  pub of : IfSome told (λ file. IsPieceOf file at piece)
