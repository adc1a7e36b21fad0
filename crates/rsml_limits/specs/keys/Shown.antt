-- What the values of this crate stand for.
use Rattle.std.specs.Prelude.{ℕ, List}
use Rattle.rsml_syntax.specs.declared.syntax.Relation.{Relation}
use Rattle.rsml_syntax.specs.declared.syntax.Relation.TheVariants as relations
use Rattle.rsml_syntax.specs.rules.Globals.{Globals}
use Rattle.rsml_syntax.specs.limits.Comparisons.{GroundSum}
use Rattle.rsml_limits.specs.comparisons.Asks.{case_sums}
use Rattle.rsml_limits.specs.comparisons.Shown.{shown_sum}
use Rattle.rsml_limits.specs.declared.keys.order.Order as order
use Rattle.rsml_limits.specs.declared.keys.order.Order.TheVariants as orders
use Rattle.rsml_limits.specs.declared.keys.sums.Ordered as sum
use Rattle.rsml_limits.specs.declared.keys.ask_blocks.ListName as name
use Rattle.rsml_limits.specs.keys.Classes.{linear}
use Rattle.rsml_limits.specs.keys.Numbered.{Ordered, ordered, Numbered, IsList}

abbrev pub shown_order : order.Order → Relation
shown_order orders.Equal = relations.Equal
shown_order orders.Less = relations.Less
shown_order orders.LessEqual = relations.LessEqual

abbrev pub shown_ordered : sum.Ordered → Ordered
shown_ordered s = ordered (shown_order s.order) (shown_sum s.terms.items)

-- the sums of the list of this name
abbrev pub named_sums : Globals → name.ListName → List GroundSum
named_sums g n = linear n.class (case_sums g n.function.now n.at)

-- the list at a place is that of this name
abbrev pub IsNamedList : Globals → Numbered → name.ListName → ℕ → Type 0
IsNamedList g n name place = IsList n place (shown_order name.order) (named_sums g name)
