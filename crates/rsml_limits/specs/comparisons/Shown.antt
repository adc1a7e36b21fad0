-- What the values of this crate stand for.
use Rattle.std.specs.Prelude.{Bool, List, map}
use Rattle.rsml_syntax.specs.limits.Comparisons as spec
use Rattle.rsml_limits.specs.declared.comparisons.input_cell.InputCell as cell
use Rattle.rsml_limits.specs.declared.comparisons.atom.Atom as atom
use Rattle.rsml_limits.specs.declared.comparisons.atom.Atom.TheVariants as atoms
use Rattle.rsml_limits.specs.declared.comparisons.ground_term.GroundTerm as term
use Rattle.rsml_limits.specs.declared.comparisons.ask.Ask as ask
use Rattle.rsml_limits.specs.declared.comparisons.ask.Left as left
use Rattle.rsml_limits.specs.declared.comparisons.ask.Left.TheVariants as lefts
use Rattle.rsml_limits.specs.comparisons.Asks as asks

abbrev pub shown_cell : cell.InputCell → spec.InputCell
shown_cell c = record { previous = c.previous; input = c.input.now; at = c.at }

abbrev pub shown_atom : atom.Atom → spec.Ground
shown_atom (atoms.Number n) = spec.OfNumber n
shown_atom (atoms.InputCell c) = spec.OfCell (shown_cell c)

abbrev pub shown_term : term.GroundTerm → Bool × spec.Ground
shown_term t = (t.minus, shown_atom t.atom)

-- the terms of a sum
abbrev pub shown_sum : List term.GroundTerm → spec.GroundSum
shown_sum = map shown_term

abbrev pub shown_left : left.Left → asks.Left
shown_left (lefts.Sum terms) = asks.OfSum (shown_sum terms.items)
shown_left (lefts.Function name at) = asks.OfFunction name.now at

abbrev pub shown_ask : ask.Ask → asks.Ask
shown_ask a = record { left = shown_left a.left; relation = a.relation; right = shown_sum a.right.items }
