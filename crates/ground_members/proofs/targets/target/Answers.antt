use Rattle.std.proofs.Common.{sym, subst}
use Rattle.std.specs.Option.{option_copied, option_map}
use Rattle.rsml_meaning.specs.Transitions.{target_path}
use Rattle.ground_members.specs.Scoped.{LeadsOn, TargetIsScoped}
use Rattle.ground_members.proofs.Numbers.{leads_by_states}
use Rattle.ground_members.proofs.targets.target.Goals as goal

pub walked-requires : goal.walked-requires
walked-requires c =
    let r = c.requires in
    let scoped = subst (λ o. TargetIsScoped c.args.lookup.now (option_map (target_path r.0) (option_copied o))) c.in-Some.is r.2 in
    subst (LeadsOn c.args.lookup.now c.args.from) (sym c.as_slice.ensures) (leads_by_states c.args.lookup.now c.spec.ensures.checked c.args.from c.in-Some.names.now r.0 r.1 scoped)
