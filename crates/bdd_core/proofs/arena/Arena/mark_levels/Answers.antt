-- Each round is one step of the sweep.
use Rattle.std.proofs.Common.{◌≡◌, ◌-◌, ◌∙◌, suc, subst, sym, get_or, false, true, length, length-set, arith, ℕ, Bool, List, ◌<◌, set, ◌+◌, ap, Some}
use Rattle.std.proofs.lemmas.List.{get_or_default}
use Rattle.std.proofs.lemmas.Option.{slice_get-get_or}
use Rattle.bdd_core.specs.Diagram.{IsReduced}
use Rattle.bdd_core.specs.Sweep.{Swept}
use Rattle.bdd_core.proofs.SweepLemmas.{swept-start, swept-skip, swept-count, swept-end}
use Rattle.bdd_core.proofs.SupportLemmas.{SetsLevels, sets-start, sets-skip, sets-set, sets-end}
use Rattle.bdd_core.proofs.arena.Arena.mark_levels.Goals as goal

pub loop-at-init : goal.loop-at-init
loop-at-init c =
    let is : IsReduced c.args.self.now = subst IsReduced c.self.view_is c.self.invariant.is_reduced in
    let start : Swept c.args.self.now c.args.f (c.args.f + 1) (set c.marks.inside.seen.items c.args.f true) 0 =
    swept-start c.args.self.now is c.args.f c.marks.inside.seen.items c.requires.in_arena (omega (arith, c.requires.in_marks, c.marks.view_is)) c.marks.invariant in (
      subst (λ p. SetsLevels c.args.self.now c.args.f (p + 1) (set c.marks.inside.seen.items p true) c.args.levels.now) (sym c.f.view_is)
          (sets-start c.args.self.now is c.args.f (set c.marks.inside.seen.items c.args.f true) c.args.levels.now 0 c.requires.in_arena start),
      length-set c.marks.inside.seen.items c.f.inside.place true ∙ c.marks.view_is,
      omega (arith, c.f.view_is),
    )

pub loop-at-preserved : goal.loop-at-preserved
loop-at-preserved c =
    let i : ℕ = c.loop-at.at - 1 in
    let seen : List Bool = c.loop-at.marks-inside.seen.items in
    let inv = c.loop-at.invariant in
    let next : c.loop-at.at ≡ suc (c.loop-at.at - 1) = omega (arith, c.loop-at-test.true) in
    let within : c.loop-at.at - 1 < length c.loop-at.marks-inside.seen.items = omega (arith, inv.1, inv.2, c.requires.in_marks, c.loop-at-test.true) in
    let mark : get_or c.loop-at.marks-inside.seen.items (c.loop-at.at - 1) false ≡ false =
    get_or_default c.loop-at.marks-inside.seen.items (c.loop-at.at - 1) false c.index.result.now within ∙ sym c.index.ensures ∙ c.if-index.false in
    let is : IsReduced c.args.self.now = subst IsReduced c.self.view_is c.self.invariant.is_reduced in
    let s : SetsLevels c.args.self.now c.args.f (suc (c.loop-at.at - 1)) c.loop-at.marks-inside.seen.items c.loop-at.levels =
    subst (λ a. SetsLevels c.args.self.now c.args.f a c.loop-at.marks-inside.seen.items c.loop-at.levels) next inv.0 in (
      sets-skip c.args.self.now is c.args.f i seen c.loop-at.levels c.requires.in_arena s
          (swept-skip c.args.self.now c.args.f i seen s.count is c.requires.in_arena s.swept mark) mark,
      inv.1,
      omega (arith, inv.2),
    )

pub loop-at-preserved-then-index : goal.loop-at-preserved-then-index
loop-at-preserved-then-index c =
    let i : ℕ = c.loop-at.at - 1 in
    let seen : List Bool = c.loop-at.marks-inside.seen.items in
    let inv = c.loop-at.invariant in
    let next : c.loop-at.at ≡ suc (c.loop-at.at - 1) = omega (arith, c.loop-at-test.true) in
    let within : c.loop-at.at - 1 < length c.loop-at.marks-inside.seen.items = omega (arith, inv.1, inv.2, c.requires.in_marks, c.loop-at-test.true) in
    let mark : get_or c.loop-at.marks-inside.seen.items (c.loop-at.at - 1) false ≡ true =
    get_or_default c.loop-at.marks-inside.seen.items (c.loop-at.at - 1) false c.index.result.now within ∙ sym c.index.ensures ∙ c.if-index.true in
    let is : IsReduced c.args.self.now = subst IsReduced c.self.view_is c.self.invariant.is_reduced in
    let s : SetsLevels c.args.self.now c.args.f (suc (c.loop-at.at - 1)) c.loop-at.marks-inside.seen.items c.loop-at.levels =
    subst (λ a. SetsLevels c.args.self.now c.args.f a c.loop-at.marks-inside.seen.items c.loop-at.levels) next inv.0 in (
      sets-set c.args.self.now c.args.f i seen c.unmark.new.seen.items c.loop-at.levels c.mark_level.new.levels s
          (swept-count c.args.self.now c.args.f i seen s.count is c.requires.in_arena s.swept c.unmark.new.seen.items mark
          c.unmark.ensures.stay c.unmark.ensures.low c.unmark.ensures.high c.unmark.ensures.tells)
          c.mark_level.ensures.stay c.mark_level.ensures.set,
      c.unmark.ensures.len ∙ inv.1,
      omega (arith, inv.2),
    )

pub unmark-requires-clause-marked : goal.unmark-requires-clause-marked
unmark-requires-clause-marked c =
    let within : c.loop-at.at - 1 < length c.loop-at.marks-inside.seen.items = omega (arith, c.loop-at.invariant.1, c.loop-at.invariant.2, c.requires.in_marks, c.loop-at-test.true) in
    slice_get-get_or c.loop-at.marks-inside.seen.items (c.loop-at.at - 1) c.index.result.now within ∙ ap Some (sym c.index.ensures ∙ c.if-index.true)

pub returns-clause-ignores : goal.returns-clause-ignores
returns-clause-ignores c =
    let end : c.loop-at.at ≡ 0 = omega (arith, c.loop-at-test.false) in
    sets-end c.args.self.now (subst IsReduced c.self.view_is c.self.invariant.is_reduced) c.args.f c.loop-at.marks-inside.seen.items c.loop-at.levels c.requires.in_arena
    (subst (λ a. SetsLevels c.args.self.now c.args.f a c.loop-at.marks-inside.seen.items c.loop-at.levels) end c.loop-at.invariant.0)

pub invariant_of-marks : goal.invariant_of-marks
invariant_of-marks c =
    let end : c.loop-at.at ≡ 0 = omega (arith, c.loop-at-test.false) in
    let s : SetsLevels c.args.self.now c.args.f 0 c.loop-at.marks-inside.seen.items c.loop-at.levels =
    subst (λ a. SetsLevels c.args.self.now c.args.f a c.loop-at.marks-inside.seen.items c.loop-at.levels) end c.loop-at.invariant.0 in
    (swept-end c.args.self.now c.args.f c.loop-at.marks-inside.seen.items s.count s.swept).1
