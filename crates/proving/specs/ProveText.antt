-- How what is proved of claims is written.
use Rattle.std.specs.Prelude.{List, ◌++◌, codes, decimal, flat_map}
use Rattle.rsml_syntax.specs.declared.syntax.Spec.{Spec}
use Rattle.rsml_meaning.specs.Words.{Instance}
use Rattle.rsml_meaning.specs.Transitions.{TransitionInstance}
use Rattle.rsml_meaning.specs.Report.{world_text}
use Rattle.rsml_meaning.specs.Texts.{Text, text_line, instance_text, label}
use Rattle.claim_syntax.specs.declared.claim.Claim.{Claim}
use Rattle.claims.specs.Inductive.{Moment}

-- bytes that are told of the first of the two files
abbrev pub of_first : Text → Text
of_first bytes = codes "file 1\n" ++ bytes

-- bytes that are told of the second
abbrev pub of_second : Text → Text
of_second bytes = codes "file 2\n" ++ bytes

-- `fault C1 NAME`: the claim asks for more than states
abbrev pub other_line : Claim → Text
other_line c = codes "fault C1 " ++ (c.name ++ codes "\n")

-- `claim NAME`
abbrev pub claim_line : Claim → Text
claim_line c = text_line (codes "claim " ++ c.name)

-- the specification, and each claim
abbrev pub heading : Spec → List Claim → Text
heading s cs = text_line (codes "prove " ++ s.name) ++ flat_map claim_line cs

-- the last line where a claim is not proved
abbrev pub refused_line : Text
refused_line = codes "refused 1\n"

-- all claims are proved
abbrev pub proved_text : Spec → List Claim → Text
proved_text s cs = heading s cs ++ codes "proved\n"

-- `initial NAME`
abbrev pub initial_line : Claim → Text
initial_line c = text_line (codes "initial " ++ c.name)

-- the first world breaks a claim
abbrev pub initial_text : Spec → List Claim → Claim → Text
initial_text s cs c = heading s cs ++ (initial_line c ++ refused_line)

-- `breaks NAME`
abbrev pub breaks_line : Claim → Text
breaks_line c = text_line (codes "breaks " ++ c.name)

-- `  round N of EVENT`
abbrev pub round_line : Moment → Text
round_line m = text_line (codes "  round " ++ (decimal m.round ++ (codes " of " ++ instance_text m.start)))

-- an event that is present, after a space
abbrev pub event_part : Instance → Text
event_part e = codes " " ++ instance_text e

-- `  events EVENT ..`
abbrev pub events_line : Moment → Text
events_line m = text_line (codes "  events" ++ flat_map event_part m.present)

-- `  take LABEL`
abbrev pub take_line : TransitionInstance → Text
take_line t = text_line (codes "  take " ++ label t)

-- the moment of a micro-step, what of its world is not least, as in a finding, and the transitions that are taken
abbrev pub moment_text : Spec → Moment → List TransitionInstance → Text
moment_text s m taken = round_line m ++ (events_line m ++ (world_text s m.world ++ flat_map take_line taken))

-- a micro-step breaks a claim
abbrev pub breaks_text : Spec → List Claim → Claim → Moment → List TransitionInstance → Text
breaks_text s cs c m taken = heading s cs ++ (breaks_line c ++ (moment_text s m taken ++ refused_line))
