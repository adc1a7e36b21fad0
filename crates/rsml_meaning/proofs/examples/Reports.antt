-- Reports, byte for byte: their answers are right, and this is their text.
use Rattle.std.specs.Prelude.{refl, ℕ, Bool, true, false, List, [], ◌∷◌, Option, Some, None, pos, codes}
use Rattle.std.specs.Fmt.{digits}
use Rattle.rsml_syntax.specs.declared.world.World.{World}
use Rattle.rsml_meaning.specs.Instances.{events}
use Rattle.rsml_meaning.specs.Groups.{groups}
use Rattle.rsml_meaning.specs.Certified.{Certified}
use Rattle.rsml_meaning.specs.Findings.{Verdict, sound, none}
use Rattle.rsml_meaning.specs.Report.{Answers, ClashFound, IsReport}
use Rattle.rsml_meaning.proofs.Lengths.{length_is}
use Rattle.rsml_meaning.proofs.Repeats.{length_excludes_endless}
use Rattle.rsml_meaning.proofs.Reported.{no_clash_answer, first_clash, no_loops, verdicts_are, certified}
use Rattle.rsml_meaning.proofs.examples.Chains.{event, two_events_that_raise_each_other_have_no_length, each_of_two_events_that_raise_each_other_loops, two_events_clash_where_they_meet, a_length_is_that_of_the_longest_chain, a_chain_goes_on_over_other_states}
use Rattle.rsml_meaning.proofs.examples.Groups.{tick}
use Rattle.rsml_meaning.proofs.examples.Worlds.{world}
use Rattle.rsml_meaning.proofs.values.Fork.{fork}
use Rattle.rsml_meaning.proofs.values.Lamp.{lamp}
use Rattle.rsml_meaning.proofs.values.LampShort.{lamp_short}
use Rattle.rsml_meaning.proofs.values.Meet.{meet}
use Rattle.rsml_meaning.proofs.values.Ring.{ring}
use Rattle.rsml_meaning.proofs.values.Top.{top}

-- what is told of one external event, of the events and of the groups
abbrev pub answers : Option ℕ → Option ClashFound → List Bool → List Verdict → Answers
answers length clash loops verdicts = record { lengths = length ∷ []; clashes = clash ∷ []; loops = loops; verdicts = verdicts }

the_lamp_is_certified : Certified lamp
the_lamp_is_certified = certified 1 lamp refl

the_report_on_the_lamp : IsReport lamp (codes "specification Lamp\ngroups 2\nchain Tick 1\ncertified\n")
unfolding digits
the_report_on_the_lamp = (
  answers (Some 1) None (false ∷ []) (sound ∷ sound ∷ []),
  record {
    lengths = (length_is lamp tick (tick ∷ []) refl refl, tt);
    clashes = (no_clash_answer 1 lamp tick refl, tt);
    loops = no_loops 1 lamp (events lamp) refl;
    verdicts = verdicts_are lamp (groups lamp) (sound ∷ sound ∷ []) refl;
  },
  refl,
)

abbrev on_and_up : World
on_and_up = world (1 ∷ []) (pos 1 ∷ [])

the_report_without_the_last_transition : IsReport lamp_short (codes "specification Lamp\ngroups 2\nchain Tick 1\nnone Lamp.On on Tick\n  in Lamp.On | T\n  Lever = Up | T\n  confirmed\nrefused 1\n")
unfolding digits
the_report_without_the_last_transition = (
  answers (Some 1) None (false ∷ []) (sound ∷ none on_and_up ∷ []),
  record {
    lengths = (length_is lamp_short tick (tick ∷ []) refl refl, tt);
    clashes = (no_clash_answer 1 lamp_short tick refl, tt);
    loops = no_loops 1 lamp_short (events lamp_short) refl;
    verdicts = verdicts_are lamp_short (groups lamp_short) (sound ∷ none on_and_up ∷ []) refl;
  },
  refl,
)

the_report_on_an_ancestor_and_its_child : IsReport top (codes "specification Top\ngroups 3\nchain Tick 1\ncertified\n")
unfolding digits
the_report_on_an_ancestor_and_its_child = (
  answers (Some 1) None (false ∷ []) (sound ∷ sound ∷ sound ∷ []),
  record {
    lengths = (length_is top tick (tick ∷ []) refl refl, tt);
    clashes = (no_clash_answer 1 top tick refl, tt);
    loops = no_loops 1 top (events top) refl;
    verdicts = verdicts_are top (groups top) (sound ∷ sound ∷ sound ∷ []) refl;
  },
  refl,
)

the_report_on_events_that_come_together_and_do_not_meet : IsReport fork (codes "specification Fork\ngroups 4\nchain Go 3\ncertified\n")
unfolding digits
the_report_on_events_that_come_together_and_do_not_meet = (
  answers (Some 3) None (false ∷ false ∷ false ∷ false ∷ []) (sound ∷ sound ∷ sound ∷ sound ∷ []),
  record {
    lengths = (a_chain_goes_on_over_other_states, tt);
    clashes = (no_clash_answer 3 fork (event "Go") refl, tt);
    loops = no_loops 3 fork (events fork) refl;
    verdicts = verdicts_are fork (groups fork) (sound ∷ sound ∷ sound ∷ sound ∷ []) refl;
  },
  refl,
)

abbrev meets_in_round_two : ClashFound
meets_in_round_two = record { round = 2; one = event "E"; two = event "G" }

the_report_on_events_that_meet : IsReport meet (codes "specification Meet\ngroups 4\nchain Go 2\nclash Go round 2 E G\nrefused 1\n")
unfolding digits
the_report_on_events_that_meet = (
  answers (Some 2) (Some meets_in_round_two) (false ∷ false ∷ false ∷ []) (sound ∷ sound ∷ sound ∷ sound ∷ []),
  record {
    lengths = (a_length_is_that_of_the_longest_chain, tt);
    clashes = (
      (
        (2, a_length_is_that_of_the_longest_chain),
        first_clash 2 meet (event "Go") meets_in_round_two (record { declared_one = refl; declared_two = refl; clash = two_events_clash_where_they_meet }) refl,
      ),
      tt,
    );
    loops = no_loops 2 meet (events meet) refl;
    verdicts = verdicts_are meet (groups meet) (sound ∷ sound ∷ sound ∷ sound ∷ []) refl;
  },
  refl,
)

the_report_on_events_that_raise_each_other : IsReport ring (codes "specification Ring\ngroups 2\nchain A endless\nloop A\nloop B\nrefused 2\n")
unfolding digits
the_report_on_events_that_raise_each_other = (
  answers None None (true ∷ true ∷ []) (sound ∷ sound ∷ []),
  record {
    lengths = (two_events_that_raise_each_other_have_no_length, tt);
    clashes = (λ l c k. length_excludes_endless ring (event "A") l.0 l.1 two_events_that_raise_each_other_have_no_length, tt);
    loops = ((λ k. each_of_two_events_that_raise_each_other_loops.0, λ l. refl), ((λ k. each_of_two_events_that_raise_each_other_loops.1, λ l. refl), tt));
    verdicts = verdicts_are ring (groups ring) (sound ∷ sound ∷ []) refl;
  },
  refl,
)
