-- The sources of a transition, by the bus of their name.
use Rattle.std.proofs.Common.{◌≡◌, List, Option, length, find, ap, ◌∙◌}
use Rattle.std.specs.Option.{option_map_or}
use Rattle.std.specs.Cmp.Lexicographic.{nat_list_eq_equiv}
use Rattle.rsml_syntax.specs.declared.syntax.Bus.{Bus}
use Rattle.rsml_syntax.specs.declared.syntax.Transition.{Transition}
use Rattle.rsml_syntax.specs.text.Names.{same}
use Rattle.rsml_limits.specs.counts.Counting.{sources_among}

-- names are equal either way round
pub sources_by : (t : Transition) (buses : List Bus) (bus : Option Bus) → bus ≡ find (λ b. same t.source b.name) buses → option_map_or (λ b. length b.members) bus 1 ≡ sources_among buses t
sources_by t buses bus e =
    ap (λ (o : Option Bus). option_map_or (λ b. length b.members) o 1)
    (e ∙ (λ i. find (λ (b : Bus). nat_list_eq_equiv.symm t.source b.name i) buses))
