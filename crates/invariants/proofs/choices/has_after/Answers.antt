use Rattle.std.proofs.Common.{◌≡◌, ℕ, List, [], ◌∷◌, fold, length, ap, ◌∙◌, arith}
use Rattle.elaborate.specs.Machine.{GroundMachine}
use Rattle.micro_step.specs.Numbers.{after_number}
use Rattle.invariants.proofs.GiftLemmas.{AreLong, number_long, set_long}
use Rattle.invariants.proofs.choices.has_after.Goals as goal

long : (m : GroundMachine) (old : List ℕ) (k : ℕ) (new : List ℕ) → new ≡ fold (after_number m) old (k ∷ []) → AreLong m old → AreLong m new
long m old k new is fit = ap length is ∙ number_long m old k fit

pub enter_all-requires-clause-fit : goal.enter_all-requires-clause-fit
enter_all-requires-clause-fit c = ap length c.set.ensures ∙ set_long c.args.machine.now c.args.choices.now c.args.choice.now.component c.args.before c.requires.fit

pub enter_all-requires-clause-taken : goal.enter_all-requires-clause-taken
enter_all-requires-clause-taken c = (c.requires.number, tt)

pub bounds-as_slice-choice : goal.bounds-as_slice-choice
bounds-as_slice-choice c = omega (arith, ap length c.as_slice.ensures, long c.args.machine.now c.set.new.self c.args.number c.enter_all.new.choices c.enter_all.ensures (ap length c.set.ensures ∙ set_long c.args.machine.now c.args.choices.now c.args.choice.now.component c.args.before c.requires.fit), c.requires.component)

pub returns-clause-fit : goal.returns-clause-fit
returns-clause-fit c = long c.args.machine.now c.set.new.self c.args.number c.enter_all.new.choices c.enter_all.ensures (ap length c.set.ensures ∙ set_long c.args.machine.now c.args.choices.now c.args.choice.now.component c.args.before c.requires.fit)
