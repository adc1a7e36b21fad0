-- `if f then g else h`: the simple cases, and the operands in another order.
use Rattle.std.proofs.Common.{◌≡◌, ℕ, Bool, true, false, if◌then◌else◌, refl, sym, ap, subst, ◌∙◌, arith}
use Rattle.bdd_core.specs.Diagram.{Diagram, IsRef, level_of, meaning}
use Rattle.bdd_core.specs.Calls.{Keeps}
use Rattle.bdd_core.specs.Steps.{chosen, IsChoice, IsSameChoice}
use Rattle.bdd_core.proofs.MeaningLemmas.{meaning-false, meaning-true}
use Rattle.bdd_core.proofs.CanonicalLemmas.{same_choice}
use Rattle.bdd_core.proofs.StepLemmas.{level-keeps, either}

pub chosen-keeps : (a b : Diagram) → Keeps a b → (f g h : ℕ) (v : ℕ → Bool) → IsRef a f → IsRef a g → IsRef a h → chosen b f g h v ≡ chosen a f g h v
chosen-keeps a b k f g h v pf pg ph = same_choice _ _ _ _ _ _ (k.meanings_stay f v pf) (k.meanings_stay g v pg) (k.meanings_stay h v ph)

pub choice-keeps : (a b : Diagram) → Keeps a b → (f g h r : ℕ) → IsRef a f → IsRef a g → IsRef a h → IsChoice a f g h r → IsChoice b f g h r
choice-keeps a b k f g h r pf pg ph c = record {
  is_ref = omega (arith, c.is_ref, k.longer);
  means = λ v. k.meanings_stay r v c.is_ref ∙ c.means v ∙ sym (chosen-keeps a b k f g h v pf pg ph);
  level = omega (arith, c.level, level-keeps a b k f pf, level-keeps a b k g pg, level-keeps a b k h ph, level-keeps a b k r c.is_ref);
}

-- the simple cases
pub choice-true : (d : Diagram) (f g h : ℕ) → IsRef d g → f ≡ 1 → IsChoice d f g h g
choice-true d f g h p e = record {
  is_ref = p;
  means = λ v. sym (same_choice _ _ _ _ _ _ (ap (λ k. meaning d k v) e ∙ meaning-true d v) refl refl);
  level = omega arith;
}

pub choice-false : (d : Diagram) (f g h : ℕ) → IsRef d h → f ≡ 0 → IsChoice d f g h h
choice-false d f g h p e = record {
  is_ref = p;
  means = λ v. sym (same_choice _ _ _ _ _ _ (ap (λ k. meaning d k v) e ∙ meaning-false d v) refl refl);
  level = omega arith;
}

pub choice-same : (d : Diagram) (f g h : ℕ) → IsRef d g → g ≡ h → IsChoice d f g h g
choice-same d f g h p e = record {
  is_ref = p;
  means = λ v. sym (either (meaning d f v) (meaning d g v)) ∙ ap (λ k. if meaning d f v then meaning d g v else meaning d k v) e;
  level = omega (arith, ap (level_of d) e);
}

-- a place that is true where f is
pub record IsTrueWith (d : Diagram) (f g : ℕ) : Type 0 where
  pub is_true : (v : ℕ → Bool) → (if meaning d f v then meaning d g v else true) ≡ true

-- and one that is false where f is
pub record IsFalseWith (d : Diagram) (f h : ℕ) : Type 0 where
  pub is_false : (v : ℕ → Bool) → (if meaning d f v then false else meaning d h v) ≡ false

true_itself : (b : Bool) → (if b then b else true) ≡ true
true_itself true = refl
true_itself false = refl

false_itself : (b : Bool) → (if b then false else b) ≡ false
false_itself true = refl
false_itself false = refl

pub true-constant : (d : Diagram) (f g : ℕ) → g ≡ 1 → IsTrueWith d f g
true-constant d f g e = record { is_true = λ v. ap (λ b. if meaning d f v then b else true) (ap (λ k. meaning d k v) e ∙ meaning-true d v) ∙ either (meaning d f v) true }

pub true-itself : (d : Diagram) (f g : ℕ) → g ≡ f → IsTrueWith d f g
true-itself d f g e = record { is_true = λ v. ap (λ k. if meaning d f v then meaning d k v else true) e ∙ true_itself (meaning d f v) }

pub false-constant : (d : Diagram) (f h : ℕ) → h ≡ 0 → IsFalseWith d f h
false-constant d f h e = record { is_false = λ v. ap (λ b. if meaning d f v then false else b) (ap (λ k. meaning d k v) e ∙ meaning-false d v) ∙ either (meaning d f v) false }

pub false-itself : (d : Diagram) (f h : ℕ) → h ≡ f → IsFalseWith d f h
false-itself d f h e = record { is_false = λ v. ap (λ k. if meaning d f v then false else meaning d k v) e ∙ false_itself (meaning d f v) }

itself : (f g h : Bool) → (if f then g else true) ≡ true → (if f then false else h) ≡ false → f ≡ (if f then g else h)
itself true g h p q = sym p
itself false g h p q = sym q

pub choice-itself : (d : Diagram) (f g h : ℕ) → IsRef d f → IsTrueWith d f g → IsFalseWith d f h → IsChoice d f g h f
choice-itself d f g h p t e = record {
  is_ref = p;
  means = λ v. itself (meaning d f v) (meaning d g v) (meaning d h v) (t.is_true v) (e.is_false v);
  level = omega arith;
}

-- a conjunction and a disjunction with their operands in the other order
and_turned : (f g h : Bool) → h ≡ false → (if g then f else h) ≡ (if f then g else h)
and_turned true true h e = refl
and_turned true false h e = e
and_turned false true h e = sym e
and_turned false false h e = refl

or_turned : (f g h : Bool) → g ≡ true → (if h then g else f) ≡ (if f then g else h)
or_turned true g true e = refl
or_turned true g false e = sym e
or_turned false g true e = e
or_turned false g false e = refl

pub same-and : (d : Diagram) (f g h : ℕ) → IsRef d f → IsRef d g → IsRef d h → h ≡ 0 → IsSameChoice d f g h g f h
same-and d f g h pf pg ph e = record {
  f_ref = pg;
  g_ref = pf;
  h_ref = ph;
  means = λ v. and_turned (meaning d f v) (meaning d g v) (meaning d h v) (ap (λ k. meaning d k v) e ∙ meaning-false d v);
  level = omega arith;
}

pub same-or : (d : Diagram) (f g h : ℕ) → IsRef d f → IsRef d g → IsRef d h → g ≡ 1 → IsSameChoice d f g h h g f
same-or d f g h pf pg ph e = record {
  f_ref = ph;
  g_ref = pg;
  h_ref = pf;
  means = λ v. or_turned (meaning d f v) (meaning d g v) (meaning d h v) (ap (λ k. meaning d k v) e ∙ meaning-true d v);
  level = omega arith;
}

pub choice-from_same : (d : Diagram) (f g h f2 g2 h2 r : ℕ) → IsSameChoice d f g h f2 g2 h2 → IsChoice d f2 g2 h2 r → IsChoice d f g h r
choice-from_same d f g h f2 g2 h2 r s c = record { is_ref = c.is_ref; means = λ v. c.means v ∙ s.means v; level = omega (arith, c.level, s.level) }

pub choice-to_same : (d : Diagram) (f g h f2 g2 h2 r : ℕ) → IsSameChoice d f g h f2 g2 h2 → IsChoice d f g h r → IsChoice d f2 g2 h2 r
choice-to_same d f g h f2 g2 h2 r s c = record { is_ref = c.is_ref; means = λ v. c.means v ∙ sym (s.means v); level = omega (arith, c.level, s.level) }

-- the same choice, of places that are equal to these
pub choice-at : (d : Diagram) (f f2 g g2 h h2 r r2 : ℕ) → f ≡ f2 → g ≡ g2 → h ≡ h2 → r2 ≡ r → IsChoice d f g h r → IsChoice d f2 g2 h2 r2
choice-at d f f2 g g2 h h2 r r2 ef eg eh er c =
    subst (λ k. IsChoice d k g2 h2 r2) ef (subst (λ k. IsChoice d f k h2 r2) eg (subst (λ k. IsChoice d f g k r2) eh (subst (IsChoice d f g h) (sym er) c)))
