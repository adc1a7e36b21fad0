use Rattle.std.proofs.Common.{◌≡◌, Some, sym, subst, ◌∙◌}
use Rattle.rsml_limits.specs.comparisons.Asks.{left_sums}
use Rattle.rsml_limits.specs.comparisons.Shown.{shown_sum, shown_left}
use Rattle.rsml_limits.specs.keys.Classes.{class_of, linear}
use Rattle.rsml_limits.specs.keys.Numbered.{ordered, order_of, AskBlocks, IsList}
use Rattle.rsml_limits.specs.keys.Shown.{shown_order}
use Rattle.rsml_limits.proofs.NameLemmas.{named_stay}
use Rattle.rsml_limits.proofs.NumberLemmas.{list_stays}
use Rattle.rsml_limits.proofs.keys.ask_blocks.AskBlocks.block.Goals as goal

pub invariant_of-self : goal.invariant_of-self
invariant_of-self c = named_stay c.self.inside.globals.now c.self.inside.lists c.number.new.self c.self.inside.known.entries c.number.ensures.grows c.self.invariant

pub invariant_of-self-2 : goal.invariant_of-self-2
invariant_of-self-2 c = named_stay c.self.inside.globals.now c.self.inside.lists c.number.new.self c.self.inside.known.entries c.number.ensures.grows c.self.invariant

pub returns-clause-block : goal.returns-clause-block
returns-clause-block c =
    let lefts = left_sums c.args.self.now.globals (shown_left c.args.ask.now.left) in
    let relation : shown_order c.new-order.result ≡ order_of c.args.ask.now.relation = c.new-order.ensures in
    let class : c.new-class.result ≡ class_of (shown_sum c.args.ask.now.right.items) = c.new-class.ensures ∙ (λ i. class_of (shown_sum (c.as_slice.ensures.value i))) in
    let right = c.in_ok-right.ensures.items ∙ c.as_slice-2.ensures.value in
    let list = subst (λ (l : AskBlocks). IsList l.numbered c.in_ok-list.list (shown_order c.new-order.result) (linear c.new-class.result lefts)) (sym c.self.view_is) c.in_ok-list.ensures.list in
    let stays = list_stays c.self.inside.lists c.number.new.self c.in_ok-list.list (shown_order c.new-order.result) (linear c.new-class.result lefts) c.number.ensures.grows list in
    let seen : IsList c.number.new.self c.in_ok-list.list (shown_order c.new-order.result) (linear c.new-class.result lefts)
    ≡ IsList c.number.new.self c.in_ok-list.list (order_of c.args.ask.now.relation) (linear (class_of (shown_sum c.args.ask.now.right.items)) lefts) =
    λ i. IsList c.number.new.self c.in_ok-list.list (relation i) (linear (class i) lefts) in
    record {
      fixed = c.in_ok-fixed.ensures.number ∙ (λ i. Some (ordered (relation i) (shown_sum (right i))));
      list = subst (λ T. T) seen stays;
    }
