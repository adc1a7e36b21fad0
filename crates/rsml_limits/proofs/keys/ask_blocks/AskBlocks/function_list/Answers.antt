use Rattle.std.proofs.Common.{ℕ, List, sym, subst}
use Rattle.std.specs.List.{All}
use Rattle.rsml_syntax.specs.limits.Comparisons.{GroundSum}
use Rattle.rsml_limits.specs.declared.keys.ask_blocks.ListName.{ListName}
use Rattle.rsml_limits.specs.keys.Classes.{linear}
use Rattle.rsml_limits.specs.keys.Numbered.{AskBlocks, IsList}
use Rattle.rsml_limits.specs.keys.Shown.{shown_order, IsNamedList}
use Rattle.rsml_limits.proofs.NameLemmas.{named_stay, named_found, named_put}
use Rattle.rsml_limits.proofs.keys.ask_blocks.AskBlocks.function_list.Goals as goal

pub returns-in-Some-clause-list : goal.returns-in-Some-clause-list
returns-in-Some-clause-list c =
    subst (λ (l : AskBlocks). IsNamedList l.globals l.numbered c.args.name c.in-Some.place.now) c.self.view_is
    (named_found c.self.inside.globals.now c.self.inside.lists c.self.inside.known.entries c.args.name c.in-Some.place.now c.self.invariant (sym c.in-Some.ensures.value))

pub invariant_of-self : goal.invariant_of-self
invariant_of-self c = named_stay c.self.inside.globals.now c.self.inside.lists c.put.new.self c.self.inside.known.entries c.put.ensures.grows c.self.invariant

pub invariant_of-self-in_err-insert : goal.invariant_of-self-in_err-insert
invariant_of-self-in_err-insert c =
    let stay = named_stay c.self.inside.globals.now c.self.inside.lists c.put.new.self c.self.inside.known.entries c.put.ensures.grows c.self.invariant in
    subst (λ (es : List (ListName × ℕ)). All (λ e. IsNamedList c.self.inside.globals.now c.put.new.self e.0 e.1) es) (sym c.in_err-insert.ensures.err) stay

pub invariant_of-self-2 : goal.invariant_of-self-2
invariant_of-self-2 c =
    let g = c.self.inside.globals.now in
    let es = c.self.inside.known.entries in
    let stay = named_stay g c.self.inside.lists c.put.new.self es c.put.ensures.grows c.self.invariant in
    let list = subst (λ (these : List GroundSum). IsList c.put.new.self c.in_ok-place.place (shown_order c.args.name.order) (linear c.args.name.class these)) c.in_ok-sums.ensures c.in_ok-place.ensures.list in
    subst (λ (es : List (ListName × ℕ)). All (λ e. IsNamedList g c.put.new.self e.0 e.1) es) (sym c.in_ok-insert.ensures.entries)
    (named_put g c.put.new.self es c.args.name c.in_ok-place.place stay list)
