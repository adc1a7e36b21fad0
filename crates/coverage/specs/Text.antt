-- How what a run covers is written.
use Rattle.std.specs.Prelude.{ℕ, ◌+◌, ◌==◌, List, [], ◌∷◌, ◌++◌, length, flat_map, zip, count_by, codes, decimal}
use Rattle.std.specs.List.{sum_by}
use Rattle.rsml_syntax.specs.declared.syntax.Spec.{Spec}
use Rattle.rsml_meaning.specs.Words.{numbered_from, ordinal_of, item_of}
use Rattle.rsml_meaning.specs.Transitions.{TransitionInstance, transitions}
use Rattle.rsml_meaning.specs.Interfaces.{SendCaseInstance, send_cases}
use Rattle.rsml_meaning.specs.Runs.{Reaction, rounds_in}
use Rattle.rsml_meaning.specs.Texts.{Text, text_line, instance_text, label, case_label}
use Rattle.simulator.specs.Outputs.{RunTexts}
use Rattle.coverage.specs.Coverage.{Covered, Coverage, coverage}

-- `  column J N`: the column at a place, which is counted from 0 and shown from 1, and in how many rounds it was true
abbrev pub column_line : ℕ × ℕ → Text
column_line c = text_line (codes "  column " ++ (decimal (ordinal_of c + 1) ++ (codes " " ++ decimal (item_of c))))

-- the lines of the columns of a table
abbrev pub column_lines : List ℕ → Text
column_lines counts = flat_map column_line (numbered_from 0 counts)

-- `taken N LABEL`, and the columns of its table
abbrev pub transition_text : TransitionInstance × Covered → Text
transition_text x = text_line (codes "taken " ++ (decimal x.1.count ++ (codes " " ++ label x.0))) ++ column_lines x.1.columns

-- `chosen N send NAME LABEL`, and the columns of its table
abbrev pub case_text : SendCaseInstance × Covered → Text
case_text x =
    text_line (codes "chosen " ++ (decimal x.1.count ++ (codes " send " ++ (instance_text x.0.send ++ (codes " " ++ case_label x.0.ordinal)))))
    ++ column_lines x.1.columns

-- how many of the counts are 0
abbrev pub zeros_in : Covered → ℕ
zeros_in c = count_by (λ n. n == 0) (c.count ∷ c.columns)

-- `events N` and `uncovered U`
abbrev pub sums_text : ℕ → ℕ → Text
sums_text events zeros = text_line (codes "events " ++ decimal events) ++ text_line (codes "uncovered " ++ decimal zeros)

-- what is written of a coverage, of so many events: its transitions and cases of sends, in order, and how many of all counts are 0
abbrev pub coverage_text : Coverage → ℕ → Text
coverage_text c events =
    text_line (codes "cover " ++ c.spec.name)
    ++ (flat_map transition_text (zip (transitions c.spec) c.transitions)
    ++ (flat_map case_text (zip (send_cases c.spec) c.send_cases)
    ++ sums_text events (sum_by zeros_in c.transitions + sum_by zeros_in c.send_cases)))

-- what is written of a run
abbrev pub cover_text : Spec → List Reaction → Text
cover_text s run = coverage_text (coverage s (rounds_in run)) (length run)

-- what `cover` writes of runs: nothing of one of the lines before a fault
abbrev pub covers : RunTexts
covers = record { whole = cover_text; before = λ s run. [] }
