use Rattle.std.proofs.Common.{sym, ap, ◌∙◌, rules, w64, FitsSigned}
use Rattle.std.proofs.lemmas.Int.{to_z-of_z}
use Rattle.std.specs.List.{find}
use Rattle.rsml_ground.specs.declared.definitions.GroundCase.{GroundCase}
use Rattle.rsml_ground.specs.Truths.{sum_number}
use Rattle.macros.specs.Sought.{is_sought}
use Rattle.macros.proofs.Values.{below_at, not_this, passed}
use Rattle.macros.proofs.cases.found_value.Goals as goal
use Rattle.macros.proofs.cases.found_value.Goals.{then-truth+else-takes, else-truth}

pub truth-requires : goal.truth-requires
truth-requires c = below_at _ _ c.args.cases.now c.args.guards.now c.loop-place.place _ c.requires.guards c.requires.fit c.loop-place-test.true c.index-guards-place.is

pub loop-place-preserved : goal.loop-place-preserved
loop-place-preserved c = elim c.if-truth.branch [
  | then-truth+else-takes w ↦
      (let fits : FitsSigned w64 w.sum_number-value.result = search rules in
      not_this (is_sought c.args.sought) c.args.cells.now c.args.truths.now c.args.cases.now c.args.guards.now c.loop-place.place c.index-guards-place.result
      w.index-cases-place.result c.requires.guards c.loop-place-test.true c.index-guards-place.is w.index-cases-place.is (sym c.truth.ensures ∙ w.if-truth.true)
      (ap (is_sought c.args.sought) (sym (to_z-of_z w64 w.sum_number-value.result fits ∙ w.sum_number-value.ensures ∙ ap (λ (x : GroundCase). sum_number c.args.cells.now x.value) (sym w.index-cases-place.is))) ∙ sym w.takes.ensures ∙ w.if-takes.false)
      ∙ c.loop-place.invariant)
  | else-truth w ↦
      ap (find (is_sought c.args.sought)) (passed c.args.cells.now c.args.truths.now c.args.cases.now c.args.guards.now c.loop-place.place c.index-guards-place.result
      c.requires.guards c.loop-place-test.true c.index-guards-place.is (sym c.truth.ensures ∙ w.if-truth.false))
      ∙ c.loop-place.invariant
]
