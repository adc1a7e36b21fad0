-- The derived equality of this crate's types is that of what they stand for.
use Rattle.std.proofs.Common.{◌≡◌, true, ◌&&◌, refl, sym, ◌∙◌, rules}
use Rattle.std.specs.Prelude.{◌==◌}
use Rattle.std.specs.Cmp.{first_so, second_so}
use Rattle.std.specs.Cmp.Lexicographic.{pointwise, same_text}
use Rattle.std.proofs.lemmas.Bool.{eqb-true}
use denote.Enum.Bare.{sameb, same_true}
use Rattle.rsml_syntax.specs.contracts.syntax.Relation as relation_type
use Rattle.rsml_syntax.specs.text.Names.{same}
use Rattle.rsml_syntax.specs.rules.Globals.{Globals}
use Rattle.rsml_limits.specs.comparisons.Asks.{case_sums}
use Rattle.rsml_limits.specs.comparisons.Shown.{shown_sum}
use Rattle.rsml_limits.specs.contracts.comparisons.ground_term.GroundTermPartialEq.TheImpl as term_eq
use Rattle.rsml_limits.proofs.EqualityLemmas.{sum_alike}
use Rattle.rsml_limits.proofs.SameLemmas.{sum_same}
use Rattle.rsml_limits.specs.declared.keys.order.Order.{Order}
use Rattle.rsml_limits.specs.declared.keys.order.Order.TheVariants as orders
use Rattle.rsml_limits.specs.declared.keys.sums.Ordered.{Ordered}
use Rattle.rsml_limits.specs.declared.keys.ask_blocks.ListName.{ListName}
use Rattle.rsml_limits.specs.contracts.keys.order.Order as order_type
use Rattle.rsml_limits.specs.contracts.keys.class.Class as class_type
use Rattle.rsml_limits.specs.contracts.keys.sums.OrderedPartialEq.TheImpl as ordered_eq
use Rattle.rsml_limits.specs.contracts.keys.ask_blocks.ListNamePartialEq.TheImpl as name_eq
use Rattle.rsml_limits.specs.keys.Classes.{linear}
use Rattle.rsml_limits.specs.keys.Numbered.{ordered, same_ordered}
use Rattle.rsml_limits.specs.keys.Shown.{shown_order, shown_ordered, named_sums}

order_alike : (a b : Order) → sameb order_type.the_type a b ≡ sameb relation_type.the_type (shown_order a) (shown_order b)
order_alike orders.Equal orders.Equal = refl
order_alike orders.Equal orders.Less = refl
order_alike orders.Equal orders.LessEqual = refl
order_alike orders.Less orders.Equal = refl
order_alike orders.Less orders.Less = refl
order_alike orders.Less orders.LessEqual = refl
order_alike orders.LessEqual orders.Equal = refl
order_alike orders.LessEqual orders.Less = refl
order_alike orders.LessEqual orders.LessEqual = refl

pub ordered_alike : (a b : Ordered) → (ordered_eq.ghosts).eq a b ≡ same_ordered (shown_ordered a) (shown_ordered b)
ordered_alike a b = λ i. order_alike a.order b.order i && sum_alike a.terms.items b.terms.items i

-- lists of equal names have the same sums, with the same relation
pub record NamesAlike (a b : ListName) : Type 0 where
  pub order : a.order ≡ b.order
  pub sums : (g : Globals) → named_sums g a ≡ named_sums g b

pub name_same : (a b : ListName) → (name_eq.ghosts).eq a b ≡ true → NamesAlike a b
name_same a b h =
    let order_eq = sameb order_type.the_type a.order b.order in
    let class_eq = sameb class_type.the_type a.class b.class in
    let h1 = second_so (same a.function.now b.function.now) (a.at == b.at && (order_eq && class_eq)) h in
    let h2 = second_so (a.at == b.at) (order_eq && class_eq) h1 in
    let function = same_text a.function.now b.function.now (sym (first_so (same a.function.now b.function.now) (a.at == b.at && (order_eq && class_eq)) h)) in
    let at = eqb-true a.at b.at (first_so (a.at == b.at) (order_eq && class_eq) h1) in
    let order = same_true order_type.the_type (search rules) a.order b.order (first_so order_eq class_eq h2) in
    let class = same_true class_type.the_type (search rules) a.class b.class (second_so order_eq class_eq h2) in
    record { order = order; sums = λ g i. linear (class i) (case_sums g (function i) (at i)) }

pub ordered_same : (a b : Ordered) → (ordered_eq.ghosts).eq a b ≡ true → shown_ordered a ≡ shown_ordered b
ordered_same a b h =
    let order_eq = sameb order_type.the_type a.order b.order in
    let terms_eq = pointwise (term_eq.ghosts).eq a.terms.items b.terms.items in
    let order = same_true order_type.the_type (search rules) a.order b.order (first_so order_eq terms_eq h) in
    let terms = sum_same (shown_sum a.terms.items) (shown_sum b.terms.items) (sym (sum_alike a.terms.items b.terms.items) ∙ second_so order_eq terms_eq h) in
    λ i. ordered (shown_order (order i)) (terms i)
