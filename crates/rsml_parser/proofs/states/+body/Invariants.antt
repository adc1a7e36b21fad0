use Rattle.std.proofs.Common.{◌≡◌, ◌+◌, ◌-◌, ◌*◌}
use Rattle.rsml_parser.proofs.Loops.{going}
use Rattle.rsml_parser.specs.Parsers.{first, many}
use Rattle.rsml_parser.specs.States.{opens_state, child, body}
use Rattle.rsml_parser.proofs.states.+body.Given as goal

abbrev pub decreases-children : goal.decreases-children
decreases-children l = 6 * l.room

abbrev pub decreases-one_of : goal.decreases-one_of
decreases-one_of l = 6 * l.room + 1

abbrev pub decreases-all_of : goal.decreases-all_of
decreases-all_of l = 6 * l.room + 1

abbrev pub decreases-body : goal.decreases-body
decreases-body l = 6 * l.room + 2

abbrev pub decreases-plain_state : goal.decreases-plain_state
decreases-plain_state l = 6 * l.room + 3

abbrev pub decreases-array_of_states : goal.decreases-array_of_states
decreases-array_of_states l = 6 * l.room + 3

abbrev pub decreases-child : goal.decreases-child
decreases-child l = 6 * l.room + 4

abbrev pub decreases-some_children : goal.decreases-some_children
decreases-some_children l = 6 * l.room + 5

abbrev pub invariant-some_children-loop-turn : goal.invariant-some_children-loop-turn
invariant-some_children-loop-turn l = going opens_state (child (body l.room)) (l._turn-end - l._turn) l.found l.reader ≡ many (first opens_state) (child (body l.room)) l.fn.reader
