-- What a call made of a file and of the sink.
use Rattle.std.specs.Prelude.{◌≡◌, ℕ, Option}
use Rattle.rsml_io.specs.Counts.{Rose}
use Rattle.rsml_io.specs.Writing.{appended, AppendsProperPrefix}
use Rattle.rsml_meaning.specs.EventLines.{Bytes}

-- What a file told of its bytes, how far it was read, and how often a read of it was refused, before and after.
pub record FileUse : Type 0 where
  pub told : Option Bytes
  pub reach : Option ℕ
  pub reach_after : Option ℕ
  pub refusals : ℕ
  pub refusals_after : ℕ

-- What a sink told of its written bytes, and how often it refused a write, before and after.
pub record SinkUse : Type 0 where
  pub written : Option Bytes
  pub written_after : Option Bytes
  pub refusals : ℕ
  pub refusals_after : ℕ

-- a read of the file was refused: the count rose
abbrev pub ReadRefused : FileUse → Type 0
ReadRefused f = Rose f.refusals f.refusals_after

-- a write was refused: the count rose
abbrev pub WriteRefused : SinkUse → Type 0
WriteRefused k = Rose k.refusals k.refusals_after

-- these bytes were written, and no others
abbrev pub Writes : SinkUse → Bytes → Type 0
Writes k bytes = k.written_after ≡ appended k.written bytes

-- a prefix of these bytes was written, and not all
abbrev pub WritesPrefix : SinkUse → Bytes → Type 0
WritesPrefix k bytes = AppendsProperPrefix k.written k.written_after bytes

-- nothing was written
abbrev pub WritesNothing : SinkUse → Type 0
WritesNothing k = k.written_after ≡ k.written
