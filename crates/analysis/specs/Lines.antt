-- The text of a report over numbers of events.
use Rattle.std.specs.Prelude.{ℕ, List, [], ◌++◌, map, flat_map, zip, length, slice_get, codes, decimal}
use Rattle.std.specs.Option.{option_map_or}
use Rattle.rsml_syntax.specs.declared.syntax.Spec.{Spec}
use Rattle.rsml_meaning.specs.Instances.{events}
use Rattle.rsml_meaning.specs.Groups.{groups}
use Rattle.rsml_meaning.specs.Texts.{Text, text_line, instance_text}
use Rattle.rsml_meaning.specs.Report.{length_text, finding, last_line}
use Rattle.event_graph.specs.declared.clash.Clash.{Clash}
use Rattle.event_chains.specs.declared.external.External.{External}
use Rattle.finding_texts.specs.declared.verdict.Verdict.{Verdict}
use Rattle.finding_texts.specs.Verdicts.{verdict_of}

-- the event of a number, nothing where there is none
abbrev pub event_text : Spec → ℕ → Text
event_text s n = option_map_or instance_text (slice_get (events s) n) []

-- `chain EVENT L`
abbrev pub chain_line_of : Spec → External → Text
chain_line_of s x = text_line (codes "chain " ++ (event_text s x.event ++ (codes " " ++ length_text x.length)))

-- `loop EVENT`
abbrev pub loop_line_of : Spec → ℕ → Text
loop_line_of s n = text_line (codes "loop " ++ event_text s n)

-- ` ONE TWO`
abbrev pub two_events : Spec → ℕ → ℕ → Text
two_events s one two = codes " " ++ (event_text s one ++ (codes " " ++ event_text s two))

-- `clash START round N ONE TWO`
abbrev pub clash_line_of : Spec → Clash → Text
clash_line_of s c = text_line (codes "clash " ++ (event_text s c.start ++ (codes " round " ++ (decimal c.round ++ two_events s c.one c.two))))

-- what is found of the events: the lengths, the loops and the clashes
abbrev pub chain_part : Spec → List External → List ℕ → List Clash → Text
chain_part s externals loops clashes = flat_map (chain_line_of s) externals ++ (flat_map (loop_line_of s) loops ++ flat_map (clash_line_of s) clashes)

-- the text of a report with so many refusals
abbrev pub lines : Spec → List External → List ℕ → List Clash → List Verdict → ℕ → Text
lines s externals loops clashes verdicts n =
    (text_line (codes "specification " ++ s.name) ++ text_line (codes "groups " ++ decimal (length (groups s))))
    ++ (chain_part s externals loops clashes
    ++ (flat_map (finding s) (zip (groups s) (map verdict_of verdicts))
    ++ last_line n))
