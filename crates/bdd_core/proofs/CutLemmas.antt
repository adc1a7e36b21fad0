-- A function where a level has a value: a constant, a node of a greater level, a node of that level, and a node over the cuts of children.
use Rattle.std.proofs.Common.{◌≡◌, ◌≢◌, ℕ, ◌<◌, Bool, true, false, if◌then◌else◌, refl, sym, ◌∙◌, arith, zero, suc}
use Rattle.bdd_core.specs.Diagram.{Diagram, IsRef, level_of, IsReduced}
use Rattle.bdd_core.specs.Calls.{Keeps, with_value}
use Rattle.bdd_core.specs.Steps.{IsChildren, IsNode, IsCut}
use Rattle.bdd_core.proofs.MeaningLemmas.{meaning-false, meaning-true}
use Rattle.bdd_core.proofs.CanonicalLemmas.{unseen, with_value-same, with_value-apart, same_choice}
use Rattle.bdd_core.proofs.StepLemmas.{keeps_trans, level-keeps}

pub cut-keeps : (a b : Diagram) → Keeps a b → (f level : ℕ) (value : Bool) (r : ℕ) → IsRef a f → IsCut a f level value r → IsCut b f level value r
cut-keeps a b k f level value r pf c = record {
  is_ref = omega (arith, c.is_ref, k.longer);
  means = λ v. k.meanings_stay r v c.is_ref ∙ c.means v ∙ sym (k.meanings_stay f (with_value v level value) pf);
  level_most = omega (arith, c.level_most, level-keeps a b k f pf, level-keeps a b k r c.is_ref);
}

-- a constant is its own cut
pub cut-constant : (d : Diagram) (f level : ℕ) (value : Bool) → IsRef d f → f < 2 → IsCut d f level value f
cut-constant d zero level value p less = record { is_ref = p; means = λ v. meaning-false d v ∙ sym (meaning-false d (with_value v level value)); level_most = omega arith }
cut-constant d (suc zero) level value p less = record { is_ref = p; means = λ v. meaning-true d v ∙ sym (meaning-true d (with_value v level value)); level_most = omega arith }
cut-constant d (suc (suc f)) level value p less = absurd (omega arith)

-- a place of a greater level is its own cut
pub cut-itself : (d : Diagram) → IsReduced d → (f level : ℕ) (value : Bool) → IsRef d f → level < level_of d f → IsCut d f level value f
cut-itself d is f level value p less = record {
  is_ref = p;
  means = λ v. sym (unseen d is f level value v p less);
  level_most = omega arith;
}

-- a node of the level is cut to its child
pub cut-child : (d : Diagram) → IsReduced d → (f level lo hi : ℕ) (value : Bool) → level_of d f ≡ level → IsChildren d f level lo hi → IsCut d f level value (if value then hi else lo)
cut-child d is f level lo hi true e c = record {
  is_ref = c.high_ref;
  means = λ v. sym (c.means (with_value v level true)
      ∙ same_choice _ _ _ _ _ _ (with_value-same v level true) refl refl
      ∙ unseen d is hi level true v c.high_ref c.high_level);
  level_most = omega (arith, c.high_level);
}
cut-child d is f level lo hi false e c = record {
  is_ref = c.low_ref;
  means = λ v. sym (c.means (with_value v level false)
      ∙ same_choice _ _ _ _ _ _ (with_value-same v level false) refl refl
      ∙ unseen d is lo level false v c.low_ref c.low_level);
  level_most = omega (arith, c.low_level);
}

-- a node over the cuts of the children is the cut
pub cut-node : (a b c d : Diagram) (f top level fl fh lo hi r : ℕ) (value : Bool) → IsRef a f → level_of a f ≡ top → top ≢ level → IsChildren a f top fl fh
    → Keeps a b → IsCut b fl level value lo → Keeps b c → IsCut c fh level value hi → Keeps c d → IsNode d top lo hi r → IsCut d f level value r
cut-node a b c d f top level fl fh lo hi r value pf at ne ch ab low bc high cd node =
    let ac : Keeps a c = keeps_trans a b c ab bc in
    let ad : Keeps a d = keeps_trans a c d ac cd in
    let bd : Keeps b d = keeps_trans b c d bc cd in
    record {
      is_ref = node.is_ref;
      means = λ v.
          let w : ℕ → Bool = with_value v level value in
          node.means v
          ∙ same_choice _ _ _ _ _ _ (sym (with_value-apart v level top value ne))
          (cd.meanings_stay hi v high.is_ref ∙ high.means v ∙ ac.meanings_stay fh w ch.high_ref)
          (bd.meanings_stay lo v low.is_ref ∙ low.means v ∙ ab.meanings_stay fl w ch.low_ref)
          ∙ sym (ch.means w)
          ∙ sym (ad.meanings_stay f w pf);
      level_most = omega (arith, node.level_most, at, level-keeps a d ad f pf);
    }
