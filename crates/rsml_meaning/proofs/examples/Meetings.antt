-- Reports on events that come together or come again, byte for byte.
use Rattle.std.specs.Prelude.{refl, true, false, List, [], ◌∷◌, Some, None, ◌↔◌, codes}
use Rattle.std.proofs.Common.{◌≡◌, sym, true≢false, lit≤}
use Rattle.std.specs.Fmt.{digits}
use Rattle.rsml_meaning.specs.Words.{Instance}
use Rattle.rsml_meaning.specs.Instances.{events}
use Rattle.rsml_meaning.specs.Groups.{groups}
use Rattle.rsml_meaning.specs.Chains.{IsLength, Endless, Loops, Clash}
use Rattle.rsml_meaning.specs.Findings.{sound}
use Rattle.rsml_meaning.specs.Report.{ClashFound, IsReport}
use Rattle.rsml_meaning.proofs.Lengths.{length_is}
use Rattle.rsml_meaning.proofs.Reached.{not_reached, never_raised}
use Rattle.rsml_meaning.proofs.Repeats.{length_excludes_endless}
use Rattle.rsml_meaning.proofs.Reported.{first_clash, no_loops, verdicts_are}
use Rattle.rsml_meaning.proofs.examples.Chains.{event}
use Rattle.rsml_meaning.proofs.examples.Reports.{answers}
use Rattle.rsml_meaning.proofs.values.Ancestor.{ancestor}
use Rattle.rsml_meaning.proofs.values.Cycles.{cycles}
use Rattle.rsml_meaning.proofs.values.ToldTwice.{told_twice}

abbrev h_and_i_in_round_two : ClashFound
h_and_i_in_round_two = record { round = 2; one = event "H"; two = event "I" }

-- Two events on which one send has cases, raised in the other order.

the_length_before_a_send : IsLength told_twice (event "G") 2
the_length_before_a_send = length_is told_twice (event "G") (event "G" ∷ event "H" ∷ []) refl refl

two_events_clash_in_a_send : Clash told_twice (event "G") 2 (event "H") (event "I")
two_events_clash_in_a_send = record {
  differ = refl;
  one = (event "G" ∷ event "H" ∷ [], refl, refl, refl);
  two = (event "G" ∷ event "I" ∷ [], refl, refl, refl);
  together = refl;
}

the_report_on_a_clash_in_a_send : IsReport told_twice (codes "specification SC\ngroups 3\nchain G 2\nclash G round 2 H I\nrefused 1\n")
unfolding digits
the_report_on_a_clash_in_a_send = (
  answers (Some 2) (Some h_and_i_in_round_two) (false ∷ false ∷ false ∷ []) (sound ∷ sound ∷ sound ∷ []),
  record {
    lengths = (the_length_before_a_send, tt);
    clashes = (
      (
        (2, the_length_before_a_send),
        first_clash 2 told_twice (event "G") h_and_i_in_round_two (record { declared_one = refl; declared_two = refl; clash = two_events_clash_in_a_send }) refl,
      ),
      tt,
    );
    loops = no_loops 2 told_twice (events told_twice) refl;
    verdicts = verdicts_are told_twice (groups told_twice) (sound ∷ sound ∷ sound ∷ []) refl;
  },
  refl,
)

-- A transition from a state, and one from a state inside it, on events that come together.

the_length_over_two_regions : IsLength ancestor (event "G") 2
the_length_over_two_regions = length_is ancestor (event "G") (event "G" ∷ event "I" ∷ []) refl refl

two_events_clash_over_an_ancestor : Clash ancestor (event "G") 2 (event "H") (event "I")
two_events_clash_over_an_ancestor = record {
  differ = refl;
  one = (event "G" ∷ event "H" ∷ [], refl, refl, refl);
  two = (event "G" ∷ event "I" ∷ [], refl, refl, refl);
  together = refl;
}

the_report_on_a_clash_over_an_ancestor : IsReport ancestor (codes "specification An\ngroups 4\nchain G 2\nclash G round 2 H I\nrefused 1\n")
unfolding digits
the_report_on_a_clash_over_an_ancestor = (
  answers (Some 2) (Some h_and_i_in_round_two) (false ∷ false ∷ false ∷ []) (sound ∷ sound ∷ sound ∷ sound ∷ []),
  record {
    lengths = (the_length_over_two_regions, tt);
    clashes = (
      (
        (2, the_length_over_two_regions),
        first_clash 2 ancestor (event "G") h_and_i_in_round_two (record { declared_one = refl; declared_two = refl; clash = two_events_clash_over_an_ancestor }) refl,
      ),
      tt,
    );
    loops = no_loops 2 ancestor (events ancestor) refl;
    verdicts = verdicts_are ancestor (groups ancestor) (sound ∷ sound ∷ sound ∷ sound ∷ []) refl;
  },
  refl,
)

-- A leads to the cycle of B and C and does not loop; D raises itself, and no external event leads to it.

abbrev on_and_on : List Instance
on_and_on = event "A" ∷ event "B" ∷ event "C" ∷ event "B" ∷ event "C" ∷ []

a_chain_goes_round : Endless cycles (event "A")
a_chain_goes_round = (on_and_on, event "B", refl, lit≤ tt)

b_and_c_loop : Loops cycles (event "B") × Loops cycles (event "C")
b_and_c_loop = ((on_and_on, refl, lit≤ tt), (on_and_on, refl, lit≤ tt))

what_leads_to_a_cycle_does_not_loop : Loops cycles (event "A") → ⊥
what_leads_to_a_cycle_does_not_loop = never_raised cycles (event "A") refl

abbrev reached : List Instance
reached = event "A" ∷ event "B" ∷ event "C" ∷ []

what_no_external_event_leads_to_does_not_loop : (Loops cycles (event "D") → ⊥) × (Loops cycles (event "Q") → ⊥)
what_no_external_event_leads_to_does_not_loop = (not_reached cycles reached (event "D") refl refl, not_reached cycles reached (event "Q") refl refl)

the_report_on_a_cycle : IsReport cycles (codes "specification Cycles\ngroups 4\nchain A endless\nloop B\nloop C\nrefused 2\n")
unfolding digits
the_report_on_a_cycle = (
  answers None None (false ∷ true ∷ true ∷ false ∷ false ∷ []) (sound ∷ sound ∷ sound ∷ sound ∷ []),
  record {
    lengths = (a_chain_goes_round, tt);
    clashes = (λ l c k. length_excludes_endless cycles (event "A") l.0 l.1 a_chain_goes_round, tt);
    loops = (
      no_loop (event "A") what_leads_to_a_cycle_does_not_loop,
      (loop (event "B") b_and_c_loop.0, (loop (event "C") b_and_c_loop.1, (no_loop (event "D") what_no_external_event_leads_to_does_not_loop.0, (no_loop (event "Q") what_no_external_event_leads_to_does_not_loop.1, tt)))),
    );
    verdicts = verdicts_are cycles (groups cycles) (sound ∷ sound ∷ sound ∷ sound ∷ []) refl;
  },
  refl,
)
  where
    loop : (e : Instance) → Loops cycles e → (true ≡ true) ↔ Loops cycles e
    loop e l = (λ k. l, λ k. refl)

    no_loop : (e : Instance) → (Loops cycles e → ⊥) → (false ≡ true) ↔ Loops cycles e
    no_loop e n = (λ k. absurd (true≢false (sym k)), λ l. absurd (n l))
