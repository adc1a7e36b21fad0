use Rattle.std.proofs.Common.{◌≡◌, ℕ, ℤ, Bool, not, ◌&&◌, ap, ◌∙◌, subst, w64, rules, FitsSigned, int_le}
use Rattle.std.proofs.lemmas.Int.{to_z-of_z}
use Rattle.std.proofs.lemmas.Result.{IfOk-weaker}
use Rattle.bdd_core.specs.Diagram.{meaning}
use Rattle.bdd_core.specs.Calls.{Represents}
use Rattle.guard_encode.specs.Encoding.{Keeps, is_at_most, worlds_of}
use Rattle.guard_encode.proofs.CellLemmas.{of_cell_with}
use Rattle.guard_encode.proofs.StepLemmas.{keeps_on}
use Rattle.guard_encode.proofs.encoder.Encoder.above.Goals as goal

pub returns-clause-answer : goal.returns-clause-answer
returns-clause-answer c =
    let e = c.args.self.now in
    let b = c.at_most.new.self in
    let d = c.not.new.self in
    let n = c.and.new.self in
    let r = c.args.r in
    let has : ℤ → Bool = λ z. not (int_le z c.args.number) in
    let fits : FitsSigned w64 c.args.number = search rules in
    let below : (v : ℕ → Bool) → meaning b.diagram c.in_ok-below.below v ≡ is_at_most (worlds_of e) c.args.cell c.args.number v =
    subst (λ n. (v : ℕ → Bool) → meaning b.diagram c.in_ok-below.below v ≡ is_at_most (worlds_of e) c.args.cell n v) (to_z-of_z w64 c.args.number fits) c.in_ok-below.ensures.values.means in
    let first : Keeps e d = keeps_on e b d c.in_ok-below.ensures.keeps c.in_ok-higher.ensures.keeps in
    IfOk-weaker c.and.result (Represents n.diagram (λ v. meaning d.diagram r v && meaning d.diagram c.in_ok-higher.higher v)) _
    (λ above h truth of. of_cell_with e n c.args.cell truth has r above (keeps_on e d n first c.and.ensures.keeps)
    (record {
      is_ref = h.is_ref;
      means = λ v. h.means v ∙ (λ i. first.diagram.meanings_stay r v c.requires.r_ref i && (c.in_ok-higher.ensures.values.means v ∙ ap not (below v)) i);
    }) of)
    c.and.ensures.values
