-- What is proved of claims, as it is written by numbers: of events, of transitions, and of claims by their places.
use Rattle.std.specs.Prelude.{ℕ, List, [], ◌++◌, slice_get, codes, decimal, flat_map}
use Rattle.std.specs.Option.{option_map_or}
use Rattle.rsml_syntax.specs.declared.syntax.Spec.{Spec}
use Rattle.rsml_meaning.specs.Report.{world_text}
use Rattle.rsml_meaning.specs.Texts.{Text, text_line}
use Rattle.rsml_meaning.specs.Transitions.{transitions}
use Rattle.claim_syntax.specs.declared.claim.Claim.{Claim}
use Rattle.finding_texts.specs.Numbers.{event_text}
use Rattle.event_graph.specs.declared.events.Events.{Events}
use Rattle.micro_step.specs.Micros.{events_in}
use Rattle.invariants.specs.declared.proof.Break.{Break}
use Rattle.invariants.specs.declared.proof.Proof.{Proof}
use Rattle.invariants.specs.declared.proof.Proof.TheVariants as proofs
use Rattle.answering.specs.declared.status.Status.{Status}
use Rattle.answering.specs.declared.status.Status.TheVariants as status
use Rattle.proving.specs.ProveText.{event_part, take_line, initial_line, breaks_line, refused_line}

-- the line of the claim at a place; nothing where there is none
abbrev pub line_at : (Claim → Text) → List Claim → ℕ → Text
line_at line cs place = option_map_or line (slice_get cs place) []

-- `  round N of EVENT`
abbrev pub round_text : Spec → ℕ → ℕ → Text
round_text s round start = text_line (codes "  round " ++ (decimal round ++ (codes " of " ++ event_text s start)))

-- `  events EVENT ..`
abbrev pub events_text : Spec → Events → Text
events_text s present = text_line (codes "  events" ++ flat_map event_part (events_in s present))

-- `  take LABEL` of the transition of this number; nothing where there is none
abbrev pub take_text : Spec → ℕ → Text
take_text s number = option_map_or take_line (slice_get (transitions s) number) []

-- the moment of a break, what of its world is not least, and the transitions that are taken
abbrev pub break_text : Spec → Break → Text
break_text s b = round_text s b.round b.start ++ (events_text s b.present ++ (world_text s b.world ++ flat_map (take_text s) b.taken.items))

-- what is proved
abbrev pub proof_text : Spec → List Claim → Proof → Text
proof_text s cs proofs.Inductive = codes "proved\n"
proof_text s cs (proofs.Initial claim) = line_at initial_line cs claim ++ refused_line
proof_text s cs (proofs.Breaks b) = line_at breaks_line cs b.claim ++ (break_text s b ++ refused_line)

-- how `prove` ends
abbrev pub status_of : Proof → Status
status_of proofs.Inductive = status.Done
status_of (proofs.Initial claim) = status.Refused
status_of (proofs.Breaks b) = status.Refused
