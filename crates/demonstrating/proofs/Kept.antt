-- A plant of 1 to 64 units keeps the rules and limits: they are computed for each number of units.
use Rattle.std.proofs.Common.{◌≡◌, ℕ, ◌≤◌, Bool, true, ◌&&◌, Option, Some, None, refl, sym, true≢false}
use Rattle.std.specs.Cmp.{first_so, second_so}
use Rattle.std.specs.List.{list_all}
use Rattle.std.specs.Prelude.{is_none}
use Rattle.rsml_syntax.specs.declared.syntax.Spec.{Spec}
use Rattle.rsml_syntax.specs.rules.Globals.{up_to}
use Rattle.rsml_syntax.specs.rules.Rules.{broken_rule}
use Rattle.rsml_syntax.specs.limits.Limits.{over, Keeps}
use Rattle.rsml_meaning.proofs.Lists.{list_all_one}
use Rattle.demonstrating.specs.Plant.{plant}
use Rattle.demonstrating.proofs.Lists.{up_to_has}

is_kept : Spec → Bool
is_kept s = is_none (broken_rule s) && is_none (over s)

none_is : {A : Type 0} (o : Option A) → is_none o ≡ true → o ≡ None
none_is None h = refl
none_is (Some x) h = absurd (true≢false (sym h))

kept : (s : Spec) → is_kept s ≡ true → Keeps s
unfolding is_kept
kept s h = record {
  rules = none_is (broken_rule s) (first_so (is_none (broken_rule s)) (is_none (over s)) h);
  limits = none_is (over s) (second_so (is_none (broken_rule s)) (is_none (over s)) h);
}

all_kept : list_all (λ n. is_kept (plant n)) (up_to 64) ≡ true
unfolding is_kept
all_kept = refl

pub plant_kept : (n : ℕ) → 1 ≤ n → n ≤ 64 → Keeps (plant n)
plant_kept n h k = kept (plant n) (list_all_one (λ n. is_kept (plant n)) (up_to 64) n all_kept (up_to_has 64 n h k))
