-- In a certified specification each function has one true case, and so one value.
use Rattle.std.proofs.Common.{◌≡◌, ℕ, zero, suc, Bool, true, false, cond, List, [], ◌∷◌, ◌++◌, map, flat_map, filter, length, ℤ, if◌then◌else◌, inl, inr, refl, sym, ap, ◌∙◌, arith, Option}
use Rattle.rsml_syntax.specs.declared.syntax.Spec.{Spec}
use Rattle.rsml_syntax.specs.declared.world.World.{World}
use Rattle.rsml_syntax.specs.declared.syntax.Decl.{Decl}
use Rattle.rsml_syntax.specs.declared.syntax.Decl.TheVariants as decl
use Rattle.rsml_syntax.specs.declared.syntax.Amount.{Amount}
use Rattle.rsml_syntax.specs.declared.syntax.Case.{Case}
use Rattle.rsml_syntax.specs.text.Names.{Name}
use Rattle.rsml_syntax.specs.rules.Globals.{indices}
use Rattle.rsml_syntax.specs.limits.Comparisons.{Indices}
use Rattle.rsml_meaning.specs.Words.{Each, IsOne, at, numbered, numbered_from}
use Rattle.rsml_meaning.specs.Instances.{State, states, globals_of}
use Rattle.rsml_meaning.specs.Worlds.{IsWorld}
use Rattle.rsml_meaning.specs.Truth.{View, view, within, guard, values_given, sum}
use Rattle.rsml_meaning.specs.Interfaces.{FunctionInstance, functions, functions_of, new_function, sends}
use Rattle.rsml_meaning.specs.Groups.{function, case, enabled, groups, Sound, state_groups, send_groups, enabled_count}
use Rattle.rsml_meaning.specs.Certified.{Certified}
use Rattle.rsml_meaning.specs.InOrder.{IsInOrder}
use Rattle.rsml_meaning.proofs.Stable.{functions_give_their_cases}
use Rattle.rsml_meaning.specs.MicroSteps.{FunctionsHaveOneValue}
use Rattle.rsml_meaning.proofs.Lists.{each_flat_map, each_map, each_one, one_back, one_map, many, many_map}

-- as many values as cases with a true guard
as_many : (v : View) (r : Indices) (n : ℕ) (cases : List Case) → length (values_given v r cases) ≡ many (λ (c : ℕ × Case). guard v r c.1.guard) (numbered_from n cases)
as_many v r n [] = refl
as_many v r n (c ∷ cases) = by_test (guard v r c.guard) (as_many v r (suc n) cases)
  where
    by_test : (b : Bool) → length (values_given v r cases) ≡ many (λ (c : ℕ × Case). guard v r c.1.guard) (numbered_from (suc n) cases)
        → length ((if b then sum v r c.value ∷ [] else []) ++ values_given v r cases)
        ≡ length (cond b ((n, c) ∷ filter (λ (c : ℕ × Case). guard v r c.1.guard) (numbered_from (suc n) cases)) (filter (λ (c : ℕ × Case). guard v r c.1.guard) (numbered_from (suc n) cases)))
    by_test true e = ap suc e
    by_test false e = e

-- Where a function instance is declared.
record IsDeclared (s : Spec) (f : FunctionInstance) : Type 0 where
  name : Name
  size : Option Amount
  cases : List Case
  among : IsOne (decl.Function name size cases) s.decls
  is : f.function ≡ at name f.function.index
  are : f.cases ≡ numbered cases

each_function : (s : Spec) → Each (IsDeclared s) (functions s)
each_function s = each_flat_map (IsDeclared s) (functions_of (globals_of s)) s.decls of_decl
  where
    of_decl : (d : Decl) → IsOne d s.decls → Each (IsDeclared s) (functions_of (globals_of s) d)
    of_decl (decl.Function name size cases) m = each_map (IsDeclared s) (new_function name cases) (indices (globals_of s) size)
        (λ i. record { name = name; size = size; cases = cases; among = m; is = refl; are = refl })
    of_decl _ m = tt

pub one_true_case : (s : Spec) (w : World) → Certified s → IsWorld s w → (f : FunctionInstance) → IsOne f (functions s) → enabled_count s (function f) (view s w) ≡ 1
one_true_case s w c i f m =
    let group = one_back (function f) (flat_map (λ (x : State). state_groups s x.path) (states s)) (flat_map (send_groups s) (sends s) ++ map function (functions s))
    (one_back (function f) (flat_map (send_groups s) (sends s)) (map function (functions s)) (one_map function (functions s) f m)) in
    each_one (Sound s) (groups s) (function f) c.sound group w i refl

one_given : (s : Spec) (w : World) → Certified s → IsWorld s w → IsInOrder s → (f : FunctionInstance) → IsOne f (functions s) → length ((view s w).gives f.function) ≡ 1
one_given s w c i o f m =
    let d = each_one (IsDeclared s) (functions s) f (each_function s) m in
    let v = view s w in
    let r = within f.function.index in
    ap (λ z. length (v.gives z)) d.is ∙ ap length (functions_give_their_cases s w o d.name f.function.index d.size d.cases d.among) ∙ as_many v r 1 d.cases
    ∙ ap (many (λ (c : ℕ × Case). guard v r c.1.guard)) (sym d.are) ∙ sym (many_map (case f.function) (enabled v) f.cases) ∙ one_true_case s w c i f m

zero_one : zero ≡ 1 → ⊥
zero_one h = omega (arith, h)

only : (xs : List ℤ) (a b : ℤ) → length xs ≡ 1 → IsOne a xs → IsOne b xs → a ≡ b
only [] a b e h k = absurd h
only (x ∷ []) a b e (inl h) (inl k) = h ∙ sym k
only (x ∷ []) a b e (inr h) k = absurd h
only (x ∷ []) a b e (inl h) (inr k) = absurd k
only (x ∷ y ∷ xs) a b e h k = absurd (two_one e)
  where
    two_one : suc (suc (length xs)) ≡ 1 → ⊥
    two_one h = omega (arith, h)

pub one_value : (s : Spec) (w : World) → Certified s → IsWorld s w → IsInOrder s → FunctionsHaveOneValue s w
one_value s w c i o f m a b (inl h) (inl k) = only ((view s w).gives f.function) a b (one_given s w c i o f m) h k
one_value s w c i o f m a b (inr h) (inr k) = h.1 ∙ sym k.1
one_value s w c i o f m a b (inl h) (inr k) = absurd (zero_one (sym (ap length k.0) ∙ one_given s w c i o f m))
one_value s w c i o f m a b (inr h) (inl k) = absurd (zero_one (sym (ap length h.0) ∙ one_given s w c i o f m))
