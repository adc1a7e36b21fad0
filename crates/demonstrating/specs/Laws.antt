-- What is true of the specification that `demo` generates. Each law is the contract of a function with no body.
use Rattle.std.specs.Prelude.{◌≡◌, ℕ, ◌≤◌, length}
use Rattle.rsml_syntax.specs.grammar.Places.{Reads}
use Rattle.rsml_syntax.specs.limits.Limits.{Keeps}
use Rattle.rsml_meaning.specs.Certified.{Certified}
use Rattle.rsml_meaning.specs.EventFiles.{lines_of, program_limits, IsWellFormed}
use Rattle.demonstrating.specs.Events.{event_text}
use Rattle.demonstrating.specs.Plant.{plant}
use Rattle.demonstrating.specs.Text.{text}

-- The text with n units is no longer than the program reads, and reads as the plant with n units, which keeps the rules and
-- limits and is certified.
pub record IsDemo (n : ℕ) : Type 0 where
  pub short : length (text n) ≤ 1048576
  pub reads : Reads (text n) (plant n)
  pub keeps : Keeps (plant n)
  pub certified : Certified (plant n)

-- it is so for each number of units from 1 to 64
abbrev pub DemosAreCertified : Type 0
DemosAreCertified = (n : ℕ) → 1 ≤ n → n ≤ 64 → IsDemo n

-- The events for n units are 1,000 lines, and a well-formed event file of the plant with n units.
pub record HasEvents (n : ℕ) : Type 0 where
  pub count : length (lines_of (event_text n)) ≡ 1000
  pub well_formed : IsWellFormed (plant n) program_limits (event_text n)

-- it is so for each number of units from 1 to 64
abbrev pub DemoEventsAreWellFormed : Type 0
DemoEventsAreWellFormed = (n : ℕ) → 1 ≤ n → n ≤ 64 → HasEvents n
