-- Files in memory, as contracts see them.
use Rattle.std.specs.Prelude.{◌≡◌, ℕ, ◌≤◌, ◌⊎◌, List, [], Contains, IsNone, IsSomeAnd, take, drop, min, is_some, option_map, if◌then◌else◌}
use Rattle.std.specs.Option.{option_map_or}
use Rattle.rsml_io.specs.Counts.{counted}
use Rattle.rsml_io.specs.Held.{file_of, faults_of, cut_of, uncut, ChangesFile, added, read_once, refused_once}
use Rattle.rsml_io.specs.declared.held.HeldFile.{HeldFile}
use Rattle.rsml_io.specs.declared.held.Cut.{Cut}

pub record FilesState : Type 0 where
  -- the most bytes that a read gives
  pub most : ℕ
  -- the files, each with its reach and its count of refused reads
  pub files : List HeldFile
  -- how many reads of names that no file has were refused
  pub unknown : ℕ
  -- from where on reads of some names are refused
  pub cuts : List Cut
  -- how many reads there were
  pub calls : ℕ
  -- the numbers of the reads that are to fail, counted from 1
  pub failing : List ℕ

-- no files, and no read that is to fail
abbrev pub no_files : ℕ → FilesState
no_files most = record { most = most; files = []; unknown = 0; cuts = []; calls = 0; failing = [] }

-- what a file holds; nothing, where the name is unknown
abbrev pub contents : FilesState → List ℕ → List ℕ
contents state name = option_map_or (λ file. file.bytes) (file_of state.files name) []

-- the furthest place at which a read of a file ended
abbrev pub reach : FilesState → List ℕ → ℕ
reach state name = option_map_or (λ file. file.reach) (file_of state.files name) 0

-- how many reads of a name were refused; unknown names share a count
abbrev pub faults : FilesState → List ℕ → ℕ
faults state name = faults_of state.files state.unknown name

-- the next read, of a file from `at` on, is refused: it is to fail, its name is unknown, or it is cut at or before `at`
abbrev pub Refuses : FilesState → List ℕ → ℕ → Type 0
Refuses state name at =
    Contains state.failing (counted state.calls)
    ⊎ IsNone (file_of state.files name)
    ⊎ IsSomeAnd (cut_of state.cuts name) (λ cut. cut ≤ at)

-- what the next read gives, where it is not refused, of a file from `at` on into so much room
abbrev pub given : FilesState → List ℕ → ℕ → ℕ → List ℕ
given state name at room =
    take (min room state.most) (drop at (uncut (contents state name) (cut_of state.cuts name)))

-- a file was added, or the one of that name has these bytes now
pub record AddsFile (old new : FilesState) (name bytes : List ℕ) : Type 0 where
  pub file : ChangesFile (added name bytes) old.files new.files name
  pub rest : new ≡ record old { files = new.files }

-- a read of n bytes of a file from `at` on was counted
pub record CountsRead (old new : FilesState) (name : List ℕ) (at n : ℕ) : Type 0 where
  pub file : ChangesFile (option_map (read_once at n)) old.files new.files name
  pub rest : new ≡ record old { files = new.files; calls = counted old.calls }

-- a refused read of a name was counted, with the file or, where there is none, with all unknown names
pub record CountsRefusal (old new : FilesState) (name : List ℕ) : Type 0 where
  pub file : ChangesFile (option_map refused_once) old.files new.files name
  pub others : new.unknown ≡ (if is_some (file_of old.files name) then old.unknown else counted old.unknown)
  pub rest : new ≡ record old { files = new.files; unknown = new.unknown; calls = counted old.calls }
