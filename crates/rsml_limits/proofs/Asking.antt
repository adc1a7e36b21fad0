-- A comparison of a function, as it is asked.
use Rattle.std.proofs.Common.{◌≡◌, None}
use Rattle.std.proofs.lemmas.Simd.{map-map}
use Rattle.rsml_syntax.specs.declared.syntax.Mention.{Mention}
use Rattle.rsml_syntax.specs.declared.syntax.Relation.{Relation}
use Rattle.rsml_syntax.specs.declared.syntax.Sum.{Sum}
use Rattle.rsml_syntax.specs.declared.syntax.Simple.TheVariants as simples
use Rattle.rsml_syntax.specs.rules.Globals.{Globals}
use Rattle.rsml_syntax.specs.rules.Kinds.{function_cases}
use Rattle.rsml_syntax.specs.limits.Comparisons.{Indices, index_number, GroundSum, ground_sum, comparison_of, comparisons_in}
use Rattle.rsml_limits.specs.comparisons.Asks.{OfFunction, ask_comparisons}

pub asked_function : (g : Globals) (r : Indices) (f : Mention) (relation : Relation) (right : Sum) →
    ask_comparisons g (record { left = OfFunction f.name (index_number g r f.index); relation = relation; right = ground_sum g r right })
    ≡ comparisons_in g r (simples.Function f relation right)
asked_function g r f relation right =
    map-map (λ (left : GroundSum). comparison_of left relation (ground_sum g r right)) (λ c. ground_sum g (record { this = index_number g r f.index; variable = None }) c.value)
    (function_cases g f.name)
