-- The least child, tried one after another.
use Rattle.std.proofs.Common.{◌≡◌, ℕ, ◌+◌, ◌≤◌, ◌<◌, ◌==◌, Bool, true, false, ◌&&◌, refl, sym, ap, ◌∙◌, IsTrue, arith}
use Rattle.std.specs.Bool.{⊤}
use Rattle.std.specs.Cmp.{first_so, second_so}
use Rattle.std.specs.Ordering.{MatchOrdering, nat_cmp}
use Rattle.std.specs.declared.cmp.Ordering.{Ordering}
use Rattle.std.specs.declared.cmp.Ordering.TheVariants.{Less, Equal, Greater}
use Rattle.std.proofs.lemmas.Bool.Decides.{nat_tests}
use Rattle.std.proofs.lemmas.Cmp.{ranked}
use Rattle.rsml_syntax.specs.declared.syntax.Spec.{Spec}
use Rattle.rsml_syntax.specs.declared.world.World.{World}
use Rattle.rsml_meaning.specs.Worlds.{IsWorld}
use Rattle.group_verdicts.specs.Narrowing.{IsOfNone, Narrows}
use Rattle.group_verdicts.proofs.Narrowed.{is_false}

pub child_found : (s : Spec) (place_in : World → ℕ) (place : ℕ) (truth : World → Bool)
    → ((w : World) → IsWorld s w → IsTrue (truth w) → place ≤ place_in w)
    → (IsOfNone (IsWorld s) (λ w. truth w && (place_in w == place)) → ⊥)
    → Narrows (IsWorld s) nat_cmp place_in place truth (λ w. truth w && (place_in w == place))
child_found s place_in place truth passed some = record {
  some = some;
  kept = λ w is k. (first_so (truth w) (place_in w == place) k, same w (second_so (truth w) (place_in w == place) k));
  order = λ w is k. by w k (passed w is k) (nat_cmp (place_in w) place) (ranked (place_in w) place (nat_cmp (place_in w) place) refl);
}
  where
    same : (w : World) → (place_in w == place) ≡ true → place_in w ≡ place
    same w k = grind (arith, nat_tests)

    itself : (w : World) → place_in w ≡ place → (place_in w == place) ≡ true
    itself w k = grind (arith, nat_tests)

    by : (w : World) → truth w ≡ true → place ≤ place_in w → (o : Ordering)
        → MatchOrdering o (place_in w < place) (place_in w ≡ place) (place < place_in w)
        → MatchOrdering o ⊥ (IsTrue (truth w && (place_in w == place))) ⊤
    by w k l Less m = omega (arith, l, m)
    by w k l Equal m = λ i. k i && itself w m i
    by w k l Greater m = tt

pub child_passed : (s : Spec) (place_in : World → ℕ) (place : ℕ) (truth : World → Bool)
    → ((w : World) → IsWorld s w → IsTrue (truth w) → place ≤ place_in w)
    → IsOfNone (IsWorld s) (λ w. truth w && (place_in w == place)) → (w : World) → IsWorld s w → IsTrue (truth w) → place + 1 ≤ place_in w
child_passed s place_in place truth passed none w is k =
    let l = passed w is k in
    let n : (place_in w == place) ≡ false = sym (ap (λ b. b && (place_in w == place)) k) ∙ none w is in
    grind (arith, nat_tests)

pub no_child : (s : Spec) (place_in : World → ℕ) (many : ℕ) (truth : World → Bool) → ((w : World) → IsWorld s w → place_in w < many)
    → ((w : World) → IsWorld s w → IsTrue (truth w) → many ≤ place_in w) → IsOfNone (IsWorld s) truth
no_child s place_in many truth less passed w is =
    is_false (truth w) (λ k. let l = less w is in let m = passed w is k in omega (arith, l, m))
