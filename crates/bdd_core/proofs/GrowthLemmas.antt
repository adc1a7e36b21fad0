-- Which nodes a conjunction adds.
use Rattle.std.proofs.Common.{◌≡◌, ℕ, ◌≤◌, Bool, true, false, ◌&&◌, if◌then◌else◌, length, refl, ap, ◌∙◌, arith, inl, inr}
use Rattle.std.proofs.lemmas.Bool.{cases_lt}
use Rattle.bdd_core.specs.Diagram.{Diagram, IsRef, meaning, IsReduced}
use Rattle.bdd_core.specs.Reach.{Reaches}
use Rattle.bdd_core.specs.Calls.{Keeps, IsConjunction, AddsConjunctions}
use Rattle.bdd_core.specs.Steps.{IsChoice}
use Rattle.bdd_core.proofs.MeaningLemmas.{meaning-false}
use Rattle.bdd_core.proofs.StepLemmas.{keeps_trans}
use Rattle.bdd_core.proofs.ChoiceLemmas.{chosen-keeps}
use Rattle.bdd_core.proofs.ReachLemmas.{reached_most, reach_back}

pub and_by : (a b : Bool) → (if a then b else false) ≡ (a && b)
and_by true b = refl
and_by false b = refl

-- equal parts make equal conjunctions
pub same_and : (a a' b b' : Bool) → a ≡ a' → b ≡ b' → (a && b) ≡ (a' && b')
same_and a a' b b' p q = λ i. p i && q i

-- nothing is added
pub adds_none : (a : Diagram) (f g : ℕ) → AddsConjunctions a a f g
adds_none a f g k from to = absurd (omega arith)

-- what is added to c for a choice whose operands f and g reach
pub adds-choice : (a c d : Diagram) (f g x y z : ℕ) → IsReduced a → IsRef a f → IsRef a g → Keeps a c → Keeps c d → z ≡ 0 → Reaches c f x → Reaches c g y
    → ((k : ℕ) → length c.nodes ≤ k → IsRef d k → IsChoice d x y z k) → AddsConjunctions a c f g → AddsConjunctions a d f g
adds-choice a c d f g x y z is pf pg ac cd none rf rg added before k from to = elim (cases_lt k (length c.nodes)) [
  | inl early ↦
      let n : IsConjunction a c f g k = before k from early in
      record { f_part = n.f_part; g_part = n.g_part; f_reached = n.f_reached; g_reached = n.g_reached; means = λ v. cd.meanings_stay k v early ∙ n.means v }
  | inr late ↦
      let r : IsChoice d x y z k = added k late to in
      let fx : Reaches a f x = reach_back a c ac is f x pf rf in
      let gy : Reaches a g y = reach_back a c ac is g y pg rg in
      let px : IsRef a x = omega (arith, pf, reached_most a is f x pf fx) in
      let py : IsRef a y = omega (arith, pg, reached_most a is g y pg gy) in
      let pz : IsRef a z = omega (arith, none, is.at_least) in
      record {
        f_part = x;
        g_part = y;
        f_reached = fx;
        g_reached = gy;
        means = λ v. r.means v
            ∙ chosen-keeps a d (keeps_trans a c d ac cd) x y z v px py pz
            ∙ ap (λ b. if meaning a x v then meaning a y v else b) (ap (λ k. meaning a k v) none ∙ meaning-false a v)
            ∙ and_by (meaning a x v) (meaning a y v);
      }
]
