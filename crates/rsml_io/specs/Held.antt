-- Files that are held in memory.
use Rattle.std.specs.Prelude.{◌≡◌, ◌≢◌, ℕ, max, Bool, List, Option, None, Some, find, reverse, option_map, take, ◌+◌, ◌==◌, if◌then◌else◌}
use Rattle.std.specs.Option.{option_map_or}
use Rattle.std.specs.Str.{bytes_eq}
use Rattle.rsml_io.specs.Counts.{counted}
use Rattle.rsml_io.specs.declared.held.HeldFile.{HeldFile}
use Rattle.rsml_io.specs.declared.held.Cut.{Cut}

-- the file has this name
abbrev pub named : List ℕ → HeldFile → Bool
named name file = bytes_eq file.name name

-- the file of a name, if there is one
abbrev pub file_of : List HeldFile → List ℕ → Option HeldFile
file_of files name = find (named name) files

-- how many reads of a name were refused, where `unknown` of names that no file has were
abbrev pub faults_of : List HeldFile → ℕ → List ℕ → ℕ
faults_of files unknown name = option_map_or (λ file. file.faults) (file_of files name) unknown

-- the place from which on reads of a name are refused, if there is one: the last that was given
abbrev pub cut_of : List Cut → List ℕ → Option ℕ
cut_of cuts name = option_map (λ cut. cut.at) (find (λ cut. bytes_eq cut.name name) (reverse cuts))

-- the bytes before the cut, if there is one
abbrev pub uncut : List ℕ → Option ℕ → List ℕ
uncut bytes cut = option_map_or (λ cut. take cut bytes) cut bytes

-- what a name stands for changes so, and what every other name stands for stays
pub record ChangesFile
    (change : Option HeldFile → Option HeldFile) (old new : List HeldFile) (name : List ℕ) : Type 0 where
  pub here : file_of new name ≡ change (file_of old name)
  pub others : (file : List ℕ) → file ≢ name → file_of new file ≡ file_of old file

-- a file after one more refused read
abbrev pub refused_once : HeldFile → HeldFile
refused_once file = record file { faults = counted file.faults }

-- a file after a read that ended there
abbrev pub reached : ℕ → HeldFile → HeldFile
reached to file = record file { reach = max file.reach to }

-- a file after a read of n bytes from `at` on
abbrev pub read_once : ℕ → ℕ → HeldFile → HeldFile
read_once at n file = record file { reach = if n == 0 then file.reach else max file.reach (at + n) }

-- a file after it is added: new, or with these bytes in place of its own
abbrev pub added : List ℕ → List ℕ → Option HeldFile → Option HeldFile
added name bytes None = Some (record { name = name; bytes = bytes; reach = 0; faults = 0 })
added name bytes (Some file) = Some (record file { bytes = bytes })
