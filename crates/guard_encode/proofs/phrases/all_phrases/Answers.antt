use Rattle.std.proofs.Common.{◌≡◌, ◌<◌, length, List, ℕ, Some, subst, slice_get, arith}
use Rattle.rsml_ground.specs.declared.phrases.GroundPhrase.{GroundPhrase}
use Rattle.bdd_core.proofs.StepLemmas.{keeps_trans}
use Rattle.guard_encode.specs.Phrases.{TellsNext}
use Rattle.guard_encode.proofs.PhraseLemmas.{phrases_more}
use Rattle.guard_encode.proofs.phrases.all_phrases.Goals as goal

pub loop-number-preserved : goal.loop-number-preserved
loop-number-preserved c =
    let count : c.loop-number.number < length c.args.macros.now.phrases = omega (arith, c.loop-number-test.true, c.phrases-number-end.ensures) in
    let next : (p : GroundPhrase) → slice_get c.args.macros.now.phrases c.loop-number.number ≡ Some p
    → TellsNext c.loop-number.arena c.next.new.arena c.args.levels.now c.args.macros.now c.loop-number.diagrams.items p c.in_ok-diagram.diagram =
    λ p at. subst (λ (ds : List ℕ). TellsNext c.loop-number.arena c.next.new.arena c.args.levels.now c.args.macros.now ds p c.in_ok-diagram.diagram) c.as_slice.ensures.value (c.in_ok-diagram.ensures.answer p at) in
    record {
      keeps = keeps_trans c.args.arena.now c.loop-number.arena c.next.new.arena c.loop-number.invariant.keeps c.in_ok-diagram.ensures.keeps;
      so_far = phrases_more c.loop-number.arena c.next.new.arena c.args.levels.now c.args.macros.now c.loop-number.number c.loop-number.diagrams.items c.push.new.self.items c.in_ok-diagram.diagram count
          c.in_ok-diagram.ensures.keeps c.loop-number.invariant.so_far next c.in_ok-push.ensures.items;
    }
