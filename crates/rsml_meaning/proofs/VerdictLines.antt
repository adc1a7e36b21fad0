-- Verdicts of a small specification, computed over all its worlds.
use Rattle.std.proofs.Common.{◌≡◌, ℕ, ◌≤◌, Bool, true, false, ◌&&◌, not, List, [], ◌∷◌, nat_eq, nat_le, refl, sym, ap, ◌∙◌, true≢false, arith, inl, inr}
use Rattle.std.specs.List.{list_all}
use Rattle.std.specs.Ordering.{is_lt}
use Rattle.std.specs.Cmp.{first_so, second_so}
use Rattle.std.proofs.lemmas.Bool.Decides.{nat_tests}
use Rattle.rsml_syntax.specs.declared.syntax.Spec.{Spec}
use Rattle.rsml_syntax.specs.declared.world.World.{World}
use Rattle.rsml_meaning.specs.Words.{IsOne}
use Rattle.rsml_meaning.specs.Worlds.{is_world, IsWorld, world_cmp}
use Rattle.rsml_meaning.specs.Truth.{view}
use Rattle.rsml_meaning.specs.Groups.{Group, meets, enabled_count}
use Rattle.rsml_meaning.specs.Findings.{EnablesIn, IsLeast, IsVerdict, Verdict, sound, none, two}
use Rattle.rsml_meaning.proofs.AllWorlds.{all_worlds, world_among}

-- the world meets the group's condition, and the number of enabled members passes the test
abbrev pub enables : Spec → Group → (ℕ → Bool) → World → Bool
enables s group test w = is_world s w && (meets s (view s w) group && test (enabled_count s group (view s w)))

abbrev pub is_before : World → World → Bool
is_before v w = is_lt (world_cmp v w)

-- no world passes
abbrev pub in_none : Spec → (World → Bool) → Bool
in_none s test = list_all (λ w. not (test w)) (all_worlds s)

-- this world passes, and none before it
abbrev pub in_least : Spec → (World → Bool) → World → Bool
in_least s test w = test w && in_none s (λ v. test v && is_before v w)

pub each_so : {A : Type 0} (p : A → Bool) (ws : List A) (w : A) → list_all p ws ≡ true → IsOne w ws → p w ≡ true
each_so p (v ∷ ws) w h (inl e) = ap p e ∙ first_so (p v) (list_all p ws) h
each_so p (v ∷ ws) w h (inr k) = each_so p ws w (second_so (p v) (list_all p ws) h) k
each_so p [] w h k = elim k [ ]

not_true : (b : Bool) → not b ≡ true → b ≡ true → ⊥
not_true b h k = true≢false (sym h ∙ ap not k)

both : (a b : Bool) → a ≡ true → b ≡ true → (a && b) ≡ true
both a b p q = ap (λ c. c && b) p ∙ q

pub none_passes : (s : Spec) (test : World → Bool) → in_none s test ≡ true → (w : World) → IsWorld s w → test w ≡ true → ⊥
none_passes s test h w i k =
    not_true (test w) (each_so (λ v. not (test v)) (all_worlds s) w h (world_among s w i)) k

-- What a test says of the number of enabled members.
pub record Tests (test : ℕ → Bool) (IsCount : ℕ → Type 0) : Type 0 where
  pub so : (n : ℕ) → test n ≡ true → IsCount n
  pub back : (n : ℕ) → IsCount n → test n ≡ true

enables_in : (s : Spec) (group : Group) (test : ℕ → Bool) (IsCount : ℕ → Type 0) (w : World) → Tests test IsCount → enables s group test w ≡ true → EnablesIn s group IsCount w
enables_in s group test IsCount w t h =
    let rest = second_so (is_world s w) (meets s (view s w) group && test (enabled_count s group (view s w))) h in
    record {
      is_world = first_so (is_world s w) (meets s (view s w) group && test (enabled_count s group (view s w))) h;
      met = first_so (meets s (view s w) group) (test (enabled_count s group (view s w))) rest;
      count = t.so (enabled_count s group (view s w)) (second_so (meets s (view s w) group) (test (enabled_count s group (view s w))) rest);
    }

enables_back : (s : Spec) (group : Group) (test : ℕ → Bool) (IsCount : ℕ → Type 0) (w : World) → Tests test IsCount → EnablesIn s group IsCount w → enables s group test w ≡ true
enables_back s group test IsCount w t e =
    both (is_world s w) _ e.is_world (both (meets s (view s w) group) _ e.met (t.back (enabled_count s group (view s w)) e.count))

least_is : (s : Spec) (group : Group) (test : ℕ → Bool) (IsCount : ℕ → Type 0) (w : World) → Tests test IsCount → in_least s (enables s group test) w ≡ true → IsLeast (EnablesIn s group IsCount) w
least_is s group test IsCount w t h = record {
  such = enables_in s group test IsCount w t (first_so (enables s group test w) (in_none s (λ v. enables s group test v && is_before v w)) h);
  least = λ v e b. none_passes s (λ u. enables s group test u && is_before u w)
      (second_so (enables s group test w) (in_none s (λ u. enables s group test u && is_before u w)) h) v e.is_world
      (both (enables s group test v) (is_before v w) (enables_back s group test IsCount v t e) (ap is_lt b));
}

none_test : Tests (nat_eq 0) (λ n. n ≡ 0)
none_test = record { so = λ n h. grind (arith, nat_tests); back = λ n h. grind (arith, nat_tests) }

two_test : Tests (nat_le 2) (λ n. 2 ≤ n)
two_test = record { so = λ n h. grind (arith, nat_tests); back = λ n h. grind (arith, nat_tests) }

one_or : (n : ℕ) → (not (nat_eq n 1) ≡ true → ⊥) → n ≡ 1
one_or n h = by_test (nat_eq n 1) refl
  where
    by_test : (b : Bool) → nat_eq n 1 ≡ b → n ≡ 1
    by_test true e = grind (arith, nat_tests)
    by_test false e = absurd (h (ap not e))

-- whether a verdict is right
abbrev pub judges : Spec → Group → Verdict → Bool
judges s group sound = in_none s (enables s group (λ n. not (nat_eq n 1)))
judges s group (none w) = in_least s (enables s group (nat_eq 0)) w
judges s group (two w) = in_none s (enables s group (nat_eq 0)) && in_least s (enables s group (nat_le 2)) w

pub verdict_is : (s : Spec) (group : Group) (v : Verdict) → judges s group v ≡ true → IsVerdict s group v
verdict_is s group sound h = λ w i m.
    one_or (enabled_count s group (view s w)) (λ k. none_passes s (enables s group (λ n. not (nat_eq n 1))) h w i (both (is_world s w) _ i (both (meets s (view s w) group) _ m k)))
verdict_is s group (none w) h = least_is s group (nat_eq 0) (λ n. n ≡ 0) w none_test h
verdict_is s group (two w) h = (
  λ v e. none_passes s (enables s group (nat_eq 0)) (first_so (in_none s (enables s group (nat_eq 0))) (in_least s (enables s group (nat_le 2)) w) h) v e.is_world
      (enables_back s group (nat_eq 0) (λ n. n ≡ 0) v none_test e),
  least_is s group (nat_le 2) (λ n. 2 ≤ n) w two_test (second_so (in_none s (enables s group (nat_eq 0))) (in_least s (enables s group (nat_le 2)) w) h),
)
