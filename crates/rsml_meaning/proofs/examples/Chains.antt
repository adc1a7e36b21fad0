-- Lengths of chains, loops and a clash.
use Rattle.std.specs.Prelude.{refl, List, [], ◌∷◌, codes}
use Rattle.std.proofs.Common.{lit≤}
use Prim.Native.String.{String}
use Rattle.rsml_meaning.specs.Words.{Instance, at}
use Rattle.rsml_meaning.specs.Chains.{IsLength, Endless, Loops, Clash}
use Rattle.rsml_meaning.proofs.Lengths.{length_is}
use Rattle.rsml_meaning.proofs.values.Fork.{fork}
use Rattle.rsml_meaning.proofs.values.Lamp.{lamp}
use Rattle.rsml_meaning.proofs.values.Meet.{meet}
use Rattle.rsml_meaning.proofs.values.Ring.{ring}
use Rattle.rsml_meaning.proofs.values.Tracks.{tracks}

abbrev pub event : String → Instance
event name = at (codes name) 0

an_event_that_raises_none_has_length_one : IsLength lamp (event "Tick") 1
an_event_that_raises_none_has_length_one = length_is lamp (event "Tick") (event "Tick" ∷ []) refl refl

each_of_an_array_has_its_length : IsLength tracks (at (codes "Seen") 3) 1
each_of_an_array_has_its_length = length_is tracks (at (codes "Seen") 3) (at (codes "Seen") 3 ∷ []) refl refl

-- four events, and yet no chain of more than two
pub a_length_is_that_of_the_longest_chain : IsLength meet (event "Go") 2
a_length_is_that_of_the_longest_chain = length_is meet (event "Go") (event "Go" ∷ event "E" ∷ []) refl refl

pub a_chain_goes_on_over_other_states : IsLength fork (event "Go") 3
a_chain_goes_on_over_other_states = length_is fork (event "Go") (event "Go" ∷ event "G" ∷ event "Done" ∷ []) refl refl

abbrev pub around : List Instance
around = event "A" ∷ event "B" ∷ event "A" ∷ event "B" ∷ []

pub two_events_that_raise_each_other_have_no_length : Endless ring (event "A")
two_events_that_raise_each_other_have_no_length = (around, event "A", refl, lit≤ tt)

pub each_of_two_events_that_raise_each_other_loops : Loops ring (event "A") × Loops ring (event "B")
each_of_two_events_that_raise_each_other_loops = ((around, refl, lit≤ tt), (around, refl, lit≤ tt))

pub two_events_clash_where_they_meet : Clash meet (event "Go") 2 (event "E") (event "G")
two_events_clash_where_they_meet = record {
  differ = refl;
  one = (event "Go" ∷ event "E" ∷ [], refl, refl, refl);
  two = (event "Go" ∷ event "G" ∷ [], refl, refl, refl);
  together = refl;
}
