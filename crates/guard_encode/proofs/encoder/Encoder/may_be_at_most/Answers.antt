use Rattle.std.proofs.Common.{◌≡◌, ℕ, Bool, true, false, not, ◌&&◌, refl, sym, ap, ◌∙◌, subst, true≢false, w64, rules, FitsSigned, int_le}
use Rattle.std.proofs.lemmas.Int.{to_z-of_z}
use Rattle.bdd_core.specs.Diagram.{meaning}
use Rattle.guard_encode.specs.Encoding.{is_at_most, worlds_of}
use Rattle.guard_encode.proofs.encoder.Encoder.may_be_at_most.Goals as goal

not_false : (b : Bool) → b ≡ true → not b ≡ false
not_false b e = ap not e

was_true : (b : Bool) → not b ≡ false → b ≡ true
was_true true e = refl
was_true false e = absurd (true≢false e)

pub returns-clause-answer : goal.returns-clause-answer
returns-clause-answer c = λ truth of.
    let e = c.args.self.now in
    let r = c.args.r in
    let fits : FitsSigned w64 c.args.number = search rules in
    let below : (v : ℕ → Bool) → meaning c.at_most.new.self.diagram c.in_ok-below.below v ≡ is_at_most (worlds_of e) c.args.cell c.args.number v =
    subst (λ n. (v : ℕ → Bool) → meaning c.at_most.new.self.diagram c.in_ok-below.below v ≡ is_at_most (worlds_of e) c.args.cell n v) (to_z-of_z w64 c.args.number fits) c.in_ok-below.ensures.values.means in
    let same : (v : ℕ → Bool) → meaning c.and.new.self.diagram c.in_ok-both.both v ≡ (meaning e.diagram r v && is_at_most (worlds_of e) c.args.cell c.args.number v) =
    λ v. c.in_ok-both.ensures.values.means v ∙ (λ i. c.at_most.ensures.keeps.diagram.meanings_stay r v c.requires.r_ref i && below v i) in
    let question = of.same (λ n. int_le n c.args.number) in (
      λ no_world. question.0 (λ v. sym (same v) ∙ c.is_false.ensures.0 (was_true c.is_false.result no_world) v),
      λ never. not_false c.is_false.result (c.is_false.ensures.1 (λ v. same v ∙ question.1 never v)),
    )
