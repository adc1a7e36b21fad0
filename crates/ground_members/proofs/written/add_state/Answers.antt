use Rattle.std.proofs.Common.{sym, ap, ◌∙◌}
use Rattle.std.specs.Option.{option_copied}
use Rattle.std.proofs.lemmas.Result.{on_ok_weaker}
use Rattle.ground_members.specs.declared.written.Owner.{Owner}
use Rattle.ground_members.proofs.Adding.{IsAdded, added_made, added_placed}
use Rattle.ground_members.proofs.written.add_state.Goals as goal

abbrev owner_of : goal.After-add_component → Owner
owner_of c = record { component = c.in-Some.component; node = c.args.node; path = c.unwrap-path.result; this = c.innermost.result }

is_added : (c : goal.After-add_component) → IsAdded c.args.tree.now c.states-nodes.result.now c.unwrap-body.result.now c.buses_of.result.now c.transitions_of.result.now (owner_of c)
is_added c = record {
  states_are = c.states-nodes.ensures;
  place = c.in-Some.ensures;
  path = sym (ap (λ o. option_copied o) c.unwrap-path.ensures) ∙ c.path.ensures;
  its_body = sym (ap (λ o. option_copied o) c.unwrap-body.ensures) ∙ c.body.ensures;
  its_index = c.innermost.ensures;
  its_buses = c.buses_of.ensures;
  its_transitions = c.transitions_of.ensures;
}

pub returns-clause-made : goal.returns-clause-made
returns-clause-made c = on_ok_weaker c.add_component.result (added_made _ _ _ _ _ (owner_of c) (is_added c) c.args.written.now.items c.add_component.new.written.items) c.add_component.ensures

pub returns-clause-placed : goal.returns-clause-placed
returns-clause-placed c = on_ok_weaker c.add_component.result (added_placed _ _ _ _ _ (owner_of c) (is_added c) c.args.written.now.items c.add_component.new.written.items) c.add_component.ensures
