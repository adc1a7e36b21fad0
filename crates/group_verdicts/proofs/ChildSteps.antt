-- The least child of a component, tried one after another.
use Rattle.std.proofs.Common.{◌≡◌, ℕ, ◌+◌, ◌≤◌, ◌<◌, ◌==◌, Bool, ◌&&◌, length, Some, None, sym, subst, slice_get, slice_index_or, IsTrue, arith}
use Rattle.std.specs.Ordering.{nat_cmp}
use Rattle.rsml_syntax.specs.declared.world.World.{World}
use Rattle.rsml_meaning.specs.Instances.{Component, components}
use Rattle.rsml_meaning.specs.Worlds.{IsWorld}
use Rattle.guard_encode.specs.Encoding.{Encoding, Finds, Keeps}
use Rattle.guard_encode.proofs.StepLemmas.{keeps_on}
use Rattle.guard_encode.proofs.FindLemmas.{found_on}
use Rattle.group_verdicts.specs.Narrowing.{IsOfNone}
use Rattle.group_verdicts.specs.Finding.{FindsPassing, IsOfSome, Narrowed}
use Rattle.group_verdicts.proofs.Keeping.{on_new, on_old, some_on}
use Rattle.group_verdicts.proofs.LeastChild.{child_found, child_passed, no_child}
use Rattle.group_verdicts.proofs.Parts.{choice_less}

-- the place of the child that a component has
abbrev pub place_in : ℕ → World → ℕ
place_in component w = slice_index_or w.choices component 0

-- if there are worlds that f finds, in none of them has the component a child before this place
abbrev pub NoneBefore : Encoding → ℕ → ℕ → ℕ → Type 0
NoneBefore e component place f = (truth : World → Bool) → Finds e truth f → IsOfSome e truth → (w : World) → IsWorld e.machine.base.spec w → IsTrue (truth w) → place ≤ place_in component w

-- none is before the first
pub none_before : (e : Encoding) (component f : ℕ) → NoneBefore e component 0 f
none_before e component f = λ truth found some w is k. omega arith

-- nor has it this child
pub none_at : (a b c : Encoding) (component place f : ℕ) → Keeps a b → Keeps b c → NoneBefore a component place f
    → FindsPassing b c (λ w. place_in component w == place) f None
    → NoneBefore a component (place + 1) f
none_at a b c component place f ab bc before none = λ truth found some.
    child_passed a.machine.base.spec (place_in component) place truth (before truth found some)
    (on_old (λ s. IsOfNone (IsWorld s) (λ w. truth w && (place_in component w == place))) a c (keeps_on a b c ab bc) (none truth (found_on a b truth f ab found) (some_on a b truth ab some)))

-- it has this child somewhere
pub least_at : (a b c : Encoding) (component place f r : ℕ) → Keeps a b → Keeps b c → NoneBefore a component place f
    → FindsPassing b c (λ w. place_in component w == place) f (Some r)
    → Narrowed a c nat_cmp (place_in component) place f r
least_at a b c component place f r ab bc before passing = λ truth found some.
    let t = passing truth (found_on a b truth f ab found) (some_on a b truth ab some) in
    record {
      next = λ w. truth w && (place_in component w == place);
      found = t.0;
      narrows = child_found c.machine.base.spec (place_in component) place truth
          (on_new (λ s. (w : World) → IsWorld s w → IsTrue (truth w) → place ≤ place_in component w) a c (keeps_on a b c ab bc) (before truth found some)) t.1;
    }

-- it has none of its children: then f finds no world
pub no_child_left : (a b : Encoding) (c : Component) (component many place f r : ℕ)
    → slice_get (components a.machine.base.spec) component ≡ Some c → many ≡ length c.children
    → NoneBefore a component many f → Narrowed a b nat_cmp (place_in component) place f r
no_child_left a b c component many place f r at all before = λ truth found some.
    absurd (some (no_child a.machine.base.spec (place_in component) many truth
    (λ w is. subst (λ n. place_in component w < n) (sym all) (choice_less a.machine.base.spec w is component c at)) (before truth found some)))
