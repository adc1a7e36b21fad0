-- The summary that `demo` writes.
use Rattle.std.specs.Prelude.{◌≡◌, ℕ, List, ◌++◌, length, flat_map, zip, codes, decimal}
use Rattle.rsml_syntax.specs.declared.syntax.Spec.{Spec}
use Rattle.rsml_meaning.specs.EventFiles.{lines_of}
use Rattle.rsml_meaning.specs.Groups.{groups}
use Rattle.rsml_meaning.specs.Report.{Answers, AreRight, externals, chain_line, report_text}
use Rattle.rsml_meaning.specs.Runs.{Reaction, IsRun}
use Rattle.rsml_meaning.specs.Texts.{text_line}
use Rattle.demonstrating.specs.Events.{event_text}
use Rattle.demonstrating.specs.Laws.{IsDemo}
use Rattle.demonstrating.specs.Plant.{plant}
use Rattle.run_counts.specs.Counts.{counts_of}
use Rattle.run_counts.specs.declared.counts.Counts.{Counts}
use Rattle.rsml_meaning.specs.EventLines.{Bytes}

-- `demo N`
abbrev pub demo_line : ℕ → Bytes
demo_line n = text_line (codes "demo " ++ decimal n)

-- what a report without loops, clashes and findings has behind its first line: the number of groups, the chains, and `certified`
abbrev pub verdict_lines : Spec → Answers → Bytes
verdict_lines s a =
    text_line (codes "groups " ++ decimal (length (groups s)))
    ++ (flat_map chain_line (zip (externals s) a.lengths)
    ++ text_line (codes "certified"))

-- what was counted of a run
abbrev pub count_lines : Counts → Bytes
count_lines c =
    text_line (codes "events " ++ decimal c.events)
    ++ (text_line (codes "rounds " ++ decimal c.rounds)
    ++ (text_line (codes "takes " ++ decimal c.takes)
    ++ text_line (codes "moves " ++ decimal c.moves)))

-- The specification is the plant with n units, which the text with n units reads as.
pub record IsPlantOf (n : ℕ) (s : Spec) : Type 0 where
  pub is_demo : IsDemo n
  pub same : s ≡ plant n

-- The bytes are the text of the events for n units.
pub record AreEventsOf (n : ℕ) (bytes : Bytes) : Type 0 where
  pub same : bytes ≡ event_text n

-- This is counted of a run of the events for n units.
pub record AreCountsOf (n : ℕ) (c : Counts) : Type 0 where
  pub run : List Reaction
  pub is_run : IsRun (plant n) (lines_of (event_text n)) run
  pub counted : c ≡ counts_of run

-- The report on the plant with n units.
pub record IsReportOf (n : ℕ) (bytes : Bytes) : Type 0 where
  pub answers : Answers
  pub right : AreRight (plant n) answers
  pub text : bytes ≡ report_text (plant n) answers

-- The summary for n units. The text with n units reads as their plant, which is certified. The bytes tell the number of units, what the
-- report on the plant tells, and how many events, rounds, takes and moves the run of the events for n units has.
pub record IsSummary (n : ℕ) (bytes : Bytes) : Type 0 where
  pub is_demo : IsDemo n
  pub answers : Answers
  pub right : AreRight (plant n) answers
  pub run : List Reaction
  pub is_run : IsRun (plant n) (lines_of (event_text n)) run
  pub text : bytes ≡ demo_line n ++ (verdict_lines (plant n) answers ++ count_lines (counts_of run))
