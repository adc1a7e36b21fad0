-- Worlds in which a group fails, by their tests and by the definitions.
use Rattle.std.proofs.Common.{◌≡◌, ℕ, zero, suc, ◌≤◌, Bool, false, ◌==◌, nat_lt, IsTrue, refl, sym, ◌∙◌, true≢false, arith, eqb-true, eq-eqb, ltb-true, lt-ltb}
use Rattle.std.proofs.lemmas.Bool.{and_from, and_parts}
use Rattle.rsml_syntax.specs.declared.syntax.Spec.{Spec}
use Rattle.rsml_syntax.specs.declared.world.World.{World}
use Rattle.rsml_meaning.specs.Worlds.{IsWorld}
use Rattle.rsml_meaning.specs.Truth.{view}
use Rattle.rsml_meaning.specs.Groups.{Group, Sound, enabled_count, meets}
use Rattle.rsml_meaning.specs.Findings.{EnablesNone, EnablesTwo, IsLeast}
use Rattle.group_verdicts.specs.Least.{IsLeastWorld}
use Rattle.world_columns.specs.Failing.{enables_none, enables_two}

-- no world of the specification passes the test
abbrev pub Nowhere : Spec → (World → Bool) → Type 0
Nowhere s truth = (w : World) → IsWorld s w → truth w ≡ false

none_from : (s : Spec) (g : Group) (w : World) → IsWorld s w × IsTrue (enables_none s g w) → EnablesNone s g w
none_from s g w h =
    let parts = and_parts (meets s (view s w) g) (enabled_count s g (view s w) == 0) h.1 in
    record { is_world = h.0; met = parts.0; count = eqb-true (enabled_count s g (view s w)) 0 parts.1 }

none_to : (s : Spec) (g : Group) (w : World) → EnablesNone s g w → IsWorld s w × IsTrue (enables_none s g w)
none_to s g w e =
    (e.is_world, and_from (meets s (view s w) g) (enabled_count s g (view s w) == 0) e.met (eq-eqb (enabled_count s g (view s w)) 0 e.count))

two_from : (s : Spec) (g : Group) (w : World) → IsWorld s w × IsTrue (enables_two s g w) → EnablesTwo s g w
two_from s g w h =
    let parts = and_parts (meets s (view s w) g) (nat_lt 1 (enabled_count s g (view s w))) h.1 in
    record { is_world = h.0; met = parts.0; count = ltb-true 1 (enabled_count s g (view s w)) parts.1 }

two_to : (s : Spec) (g : Group) (w : World) → EnablesTwo s g w → IsWorld s w × IsTrue (enables_two s g w)
two_to s g w e =
    (e.is_world, and_from (meets s (view s w) g) (nat_lt 1 (enabled_count s g (view s w))) e.met (lt-ltb 1 (enabled_count s g (view s w)) e.count))

-- the least of worlds that are the same
least_as : (P Q : World → Type 0) → ((w : World) → P w → Q w) → ((w : World) → Q w → P w) → (w : World) → IsLeast P w → IsLeast Q w
least_as P Q to from w l = record { such = to w l.such; least = λ v is before. l.least v (from v is) before }

pub least_none : (s : Spec) (g : Group) (w : World) → IsLeastWorld s (enables_none s g) w → IsLeast (EnablesNone s g) w
least_none s g = least_as (λ w. IsWorld s w × IsTrue (enables_none s g w)) (EnablesNone s g) (none_from s g) (none_to s g)

pub least_two : (s : Spec) (g : Group) (w : World) → IsLeastWorld s (enables_two s g) w → IsLeast (EnablesTwo s g) w
least_two s g = least_as (λ w. IsWorld s w × IsTrue (enables_two s g w)) (EnablesTwo s g) (two_from s g) (two_to s g)

-- where no world passes the test, none is such
pub no_none : (s : Spec) (g : Group) → Nowhere s (enables_none s g) → (w : World) → EnablesNone s g w → ⊥
no_none s g nowhere w e = let h = none_to s g w e in true≢false (sym h.1 ∙ nowhere w h.0)

no_two : (s : Spec) (g : Group) → Nowhere s (enables_two s g) → (w : World) → EnablesTwo s g w → ⊥
no_two s g nowhere w e = let h = two_to s g w e in true≢false (sym h.1 ∙ nowhere w h.0)

one : (n : ℕ) → (n ≡ 0 → ⊥) → (2 ≤ n → ⊥) → n ≡ 1
one zero some few = absurd (some refl)
one (suc zero) some few = refl
one (suc (suc n)) some few = absurd (few (omega arith))

-- a group that fails in no world is sound
pub sound : (s : Spec) (g : Group) → Nowhere s (enables_none s g) → Nowhere s (enables_two s g) → Sound s g
sound s g none two w is_world met =
    one (enabled_count s g (view s w)) (λ count. no_none s g none w (record { is_world = is_world; met = met; count = count })) (λ count. no_two s g two w (record { is_world = is_world; met = met; count = count }))
