-- Reports with findings, byte for byte: cells that are not least, negative and previous numbers, true cases, enabled moves.
use Rattle.std.specs.Prelude.{refl, false, [], ◌∷◌, Some, None, pos, negsuc, codes}
use Rattle.std.specs.Fmt.{digits}
use Rattle.rsml_meaning.specs.Instances.{events}
use Rattle.rsml_meaning.specs.Groups.{groups}
use Rattle.rsml_meaning.specs.Findings.{sound, none, two}
use Rattle.rsml_meaning.specs.Report.{IsReport}
use Rattle.rsml_meaning.proofs.Lengths.{length_is}
use Rattle.rsml_meaning.proofs.Reported.{no_clash_answer, no_loops, verdicts_are}
use Rattle.rsml_meaning.proofs.examples.Chains.{event}
use Rattle.rsml_meaning.proofs.examples.Reports.{answers}
use Rattle.rsml_meaning.proofs.examples.Worlds.{world}
use Rattle.rsml_meaning.proofs.values.Both.{both}
use Rattle.rsml_meaning.proofs.values.Latch.{latch}
use Rattle.rsml_meaning.proofs.values.Shades.{shades}
use Rattle.rsml_meaning.proofs.values.Single.{single}
use Rattle.rsml_meaning.proofs.values.Twin.{twin}

-- 64 worlds; a number is least at -2, and a dot in a column asks nothing
the_report_on_negative_and_previous_numbers : IsReport both (codes "specification Both\ngroups 1\nchain E 1\nnone Tp.S on E\n  X = 0 | T\n  previous X = 0 | T\n  confirmed\nrefused 1\n")
unfolding digits
the_report_on_negative_and_previous_numbers =
    let found = none (world (0 ∷ []) (pos 0 ∷ negsuc 1 ∷ pos 0 ∷ [])) ∷ [] in (
      answers (Some 1) None (false ∷ []) found,
      record {
        lengths = (length_is both (event "E") (event "E" ∷ []) refl refl, tt);
        clashes = (no_clash_answer 1 both (event "E") refl, tt);
        loops = no_loops 1 both (events both) refl;
        verdicts = verdicts_are both (groups both) found refl;
      },
      refl,
    )

-- a constant is a value and an operand; a function that is compared has two true cases
the_report_on_functions : IsReport shades (codes "specification Fn\ngroups 3\nchain E 1\ntwo function F1\n  enabled case 1\n  enabled case 5\n  confirmed\ntwo function G1\n  X = 1 | T\n  enabled case 1\n  enabled case 2\n  confirmed\nrefused 2\n")
unfolding digits
the_report_on_functions =
    let found = sound ∷ two (world (0 ∷ []) (pos 0 ∷ [])) ∷ two (world (0 ∷ []) (pos 1 ∷ [])) ∷ [] in (
      answers (Some 1) None (false ∷ []) found,
      record {
        lengths = (length_is shades (event "E") (event "E" ∷ []) refl refl, tt);
        clashes = (no_clash_answer 1 shades (event "E") refl, tt);
        loops = no_loops 1 shades (events shades) refl;
        verdicts = verdicts_are shades (groups shades) found refl;
      },
      refl,
    )

the_report_on_two_moves : IsReport twin (codes "specification Twin\ngroups 1\nchain Tick 1\ntwo Top.A on Tick\n  enabled Top 1 move A -> A.P\n  enabled Top 2 move A -> A.Q\n  confirmed\nrefused 1\n")
unfolding digits
the_report_on_two_moves =
    let found = two (world (0 ∷ 0 ∷ []) []) ∷ [] in (
      answers (Some 1) None (false ∷ []) found,
      record {
        lengths = (length_is twin (event "Tick") (event "Tick" ∷ []) refl refl, tt);
        clashes = (no_clash_answer 1 twin (event "Tick") refl, tt);
        loops = no_loops 1 twin (events twin) refl;
        verdicts = verdicts_are twin (groups twin) found refl;
      },
      refl,
    )

-- an event without transitions; an enumeration with one value
the_report_on_a_send_alone : IsReport single (codes "specification One\ngroups 1\nchain E 1\ncertified\n")
unfolding digits
the_report_on_a_send_alone = (
  answers (Some 1) None (false ∷ []) (sound ∷ []),
  record {
    lengths = (length_is single (event "E") (event "E" ∷ []) refl refl, tt);
    clashes = (no_clash_answer 1 single (event "E") refl, tt);
    loops = no_loops 1 single (events single) refl;
    verdicts = verdicts_are single (groups single) (sound ∷ []) refl;
  },
  refl,
)

-- previous cells of all inputs that some send names after `previous`: 81 worlds
the_report_on_previous_numbers_in_a_send : IsReport latch (codes "specification Pv\ngroups 1\nchain E 1\ncertified\n")
unfolding digits
the_report_on_previous_numbers_in_a_send = (
  answers (Some 1) None (false ∷ []) (sound ∷ []),
  record {
    lengths = (length_is latch (event "E") (event "E" ∷ []) refl refl, tt);
    clashes = (no_clash_answer 1 latch (event "E") refl, tt);
    loops = no_loops 1 latch (events latch) refl;
    verdicts = verdicts_are latch (groups latch) (sound ∷ []) refl;
  },
  refl,
)
