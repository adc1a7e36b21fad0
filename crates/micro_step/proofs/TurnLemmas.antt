-- Transitions that are entered one after another leave each component with a place that it may have after them.
use Rattle.std.proofs.Common.{◌≡◌, ℕ, List, [], ◌∷◌, map, zip, fold, filter_map, length, Option, Some, None, unwrap_or, ◌⊎◌, inl, inr, ⊎_elim, refl, sym, ap, ◌∙◌, subst, arith}
use Rattle.std.specs.List.{cons_option}
use Rattle.rsml_syntax.specs.declared.syntax.Spec.{Spec}
use Rattle.rsml_meaning.specs.Words.{IsOne, AllThree, Path}
use Rattle.rsml_meaning.specs.Instances.{Component, components}
use Rattle.rsml_meaning.specs.Active.{enter, given}
use Rattle.rsml_meaning.specs.Transitions.{TransitionInstance}
use Rattle.rsml_meaning.specs.Steps.{given_by, or_kept, outcomes, AreOutcomes}
use Rattle.rsml_meaning.specs.Turns.{after_one, after_all}

-- What a component gets in turn.

-- what one transition leaves a component, and what several leave it in turn
abbrev left_by : TransitionInstance → Component × ℕ → ℕ
left_by t c = unwrap_or (given_by c.0 t) c.1

abbrev turn : List TransitionInstance → Component × ℕ → ℕ
turn ts c = fold (λ n t. unwrap_or (given_by c.0 t) n) c.1 ts

abbrev Long : List Component → List ℕ → Type 0
Long cs ns = map (λ (c : Component × ℕ). c.1) (zip cs ns) ≡ ns

still_long : (g : Component × ℕ → ℕ) (cs : List Component) (ns : List ℕ) → Long cs (map g (zip cs ns))
still_long g [] ns = refl
still_long g (c ∷ cs) [] = refl
still_long g (c ∷ cs) (n ∷ ns) = ap (λ z. g (c, n) ∷ z) (still_long g cs ns)

map_after : (f g : Component × ℕ → ℕ) (cs : List Component) (ns : List ℕ) → map f (zip cs (map g (zip cs ns))) ≡ map (λ (c : Component × ℕ). f (c.0, g c)) (zip cs ns)
map_after f g [] ns = refl
map_after f g (c ∷ cs) [] = refl
map_after f g (c ∷ cs) (n ∷ ns) = ap (λ z. f (c, g (c, n)) ∷ z) (map_after f g cs ns)

one_turn : (s : Spec) (t : TransitionInstance) (ns : List ℕ) → Long (components s) ns → after_one s ns t ≡ map (left_by t) (zip (components s) ns)
one_turn s t ns l = by_target t.target
  where
    by_target : (o : Option Path) → elim o [ None ↦ ns | Some target ↦ enter s t.component target ns ]
        ≡ map (λ (c : Component × ℕ). unwrap_or (elim o [ None ↦ None | Some target ↦ given t.component target c.0 ]) c.1) (zip (components s) ns)
    by_target None = sym l
    by_target (Some target) = refl

all_turns : (s : Spec) (ts : List TransitionInstance) (ns : List ℕ) → Long (components s) ns → after_all s ts ns ≡ map (turn ts) (zip (components s) ns)
all_turns s [] ns l = sym l
all_turns s (t ∷ ts) ns l =
    ap (after_all s ts) (one_turn s t ns l)
    ∙ all_turns s ts (map (left_by t) (zip (components s) ns)) (still_long (left_by t) (components s) ns)
    ∙ map_after (turn ts) (left_by t) (components s) ns

as_long : (cs : List Component) (ns : List ℕ) → length ns ≡ length cs → Long cs ns
as_long [] [] h = refl
as_long [] (n ∷ ns) h = absurd (omega (arith, h))
as_long (c ∷ cs) [] h = absurd (omega (arith, h))
as_long (c ∷ cs) (n ∷ ns) h = ap (λ z. n ∷ z) (as_long cs ns (omega (arith, h)))

-- What is left is what one of them gives.

last_gift : (c : Component) (n : ℕ) (ts : List TransitionInstance) → ((turn ts (c, n) ≡ n) × (filter_map (given_by c) ts ≡ [])) ⊎ IsOne (turn ts (c, n)) (filter_map (given_by c) ts)
last_gift c n [] = inl (refl, refl)
last_gift c n (t ∷ ts) = by (given_by c t) (λ k. last_gift c k ts)
  where
    by : (o : Option ℕ) → ((k : ℕ) → ((turn ts (c, k) ≡ k) × (filter_map (given_by c) ts ≡ [])) ⊎ IsOne (turn ts (c, k)) (filter_map (given_by c) ts))
        → ((turn ts (c, unwrap_or o n) ≡ n) × (cons_option o (filter_map (given_by c) ts) ≡ [])) ⊎ IsOne (turn ts (c, unwrap_or o n)) (cons_option o (filter_map (given_by c) ts))
    by None rest = rest n
    by (Some m) rest = ⊎_elim (λ k. inr (inl k.0)) (λ k. inr (inr k)) (rest m)

turn_is_outcome : (c : Component) (n : ℕ) (ts : List TransitionInstance) → IsOne (turn ts (c, n)) (outcomes ts c n)
turn_is_outcome c n ts = ⊎_elim
    (λ k. subst (λ z. IsOne (turn ts (c, n)) (or_kept n z)) (sym k.1) (inl k.0))
    (λ k. by (filter_map (given_by c) ts) k)
    (last_gift c n ts)
  where
    by : (ms : List ℕ) → IsOne (turn ts (c, n)) ms → IsOne (turn ts (c, n)) (or_kept n ms)
    by [] k = absurd k
    by (m ∷ ms) k = k

each_turn : (ts : List TransitionInstance) (cs : List Component) (ns : List ℕ) → length ns ≡ length cs → AllThree (λ c old new. IsOne new (outcomes ts c old)) cs ns (map (turn ts) (zip cs ns))
each_turn ts [] [] h = tt
each_turn ts [] (n ∷ ns) h = absurd (omega (arith, h))
each_turn ts (c ∷ cs) [] h = absurd (omega (arith, h))
each_turn ts (c ∷ cs) (n ∷ ns) h = (turn_is_outcome c n ts, each_turn ts cs ns (omega (arith, h)))

pub turns_are_outcomes : (s : Spec) (ts : List TransitionInstance) (ns : List ℕ) → length ns ≡ length (components s) → AreOutcomes s ts ns (after_all s ts ns)
turns_are_outcomes s ts ns h =
    subst (AreOutcomes s ts ns) (sym (all_turns s ts ns (as_long (components s) ns h))) (each_turn ts (components s) ns h)
