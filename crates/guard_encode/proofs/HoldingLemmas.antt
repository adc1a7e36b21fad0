-- The values of the levels in one world: they are lawful, and spell it.
use Rattle.std.proofs.Common.{◌≡◌, ℕ, zero, suc, ◌+◌, ◌<◌, ◌==◌, Bool, true, false, ◌||◌, ◌↔◌, cond, if◌then◌else◌, List, [], ◌∷◌, length, refl, sym, ap, ◌∙◌, subst, true≢false, arith, slice_get, Option, None, Some}
use Rattle.std.specs.Bool.{IsTrue}
use Rattle.std.specs.List.{find, list_any}
use Rattle.std.specs.Option.{option_map_or}
use Rattle.std.proofs.lemmas.Bool.Decides.{nat_tests}
use Rattle.std.proofs.lemmas.Option.{same_Some}
use Rattle.rsml_syntax.specs.declared.world.World.{World}
use Rattle.rsml_meaning.specs.Worlds.{IsWorld}
use Rattle.rsml_ground.specs.Truths.{Grounded}
use Rattle.bdd_core.specs.declared.branch.Branch.{Branch}
use Rattle.bdd_core.specs.declared.node.Node.{Node}
use Rattle.bdd_core.specs.Diagram.{Diagram, meaning}
use Rattle.bdd_core.specs.Calls.{IsBranch, IsConstant}
use Rattle.spelled_numbers.specs.declared.slot.Slot.{Slot}
use Rattle.spelled_numbers.specs.declared.slot.Slot.TheVariants.{Part, Free}
use Rattle.spelled_numbers.specs.Spelling.{IsLevelOf}
use Rattle.world_levels.specs.Spelling.{free_from}
use Rattle.world_levels.specs.Laws.{EachWorldIsSpelled, FreeLevelsStay}
use Rattle.elaborate.specs.Machine.{GroundMachine}
use Rattle.keyed_levels.specs.declared.keyed.Keyed.{Keyed}
use Rattle.keyed_levels.specs.Keyed.{AreKeyed, KeyedWorlds, Lawful, Tells, comparison, key_at, phrases_of}
use Rattle.guard_encode.specs.Encoding.{encoding_of, worlds_of}
use Rattle.guard_encode.specs.Encoding.{Tells as EncodingTells}
use Rattle.guard_encode.specs.Holding.{key_truth, values_in}

-- The key of a level.

-- a key that is found is that of the level, at some place
record IsFound (keyed : List Keyed) (level : ℕ) (x : Keyed) : Type 0 where
  place : ℕ
  there : place < length keyed
  own : key_at keyed place ≡ x
  of_level : x.level ≡ level

found : (keyed : List Keyed) (level : ℕ) (x : Keyed) → find (λ (y : Keyed). y.level == level) keyed ≡ Some x → IsFound keyed level x
found [] level x h = absurd (let no : ⊥ = cc in no)
found (y ∷ ys) level x h = by (y.level == level) refl (found ys level x) h
  where
    by : (b : Bool) → (y.level == level) ≡ b → (find (λ (z : Keyed). z.level == level) ys ≡ Some x → IsFound ys level x)
        → cond b (Some y) (find (λ (z : Keyed). z.level == level) ys) ≡ Some x → IsFound (y ∷ ys) level x
    by true e rest h =
        let same : y ≡ x = same_Some y x h in
        let own : y.level ≡ level = grind (arith, nat_tests, e) in
        record { place = 0; there = omega arith; own = same; of_level = sym (ap (λ (z : Keyed). z.level) same) ∙ own }
    by false e rest h = let r = rest h in record { place = suc r.place; there = omega (arith, r.there); own = r.own; of_level = r.of_level }

not_found : (keyed : List Keyed) (level i : ℕ) → find (λ (y : Keyed). y.level == level) keyed ≡ None → i < length keyed → (key_at keyed i).level ≡ level → ⊥
not_found [] level i h less same = omega (arith, less)
not_found (y ∷ ys) level i h less same = by (y.level == level) refl (not_found ys level) i h less same
  where
    by : (b : Bool) → (y.level == level) ≡ b
        → ((j : ℕ) → find (λ (z : Keyed). z.level == level) ys ≡ None → j < length ys → (key_at ys j).level ≡ level → ⊥)
        → (j : ℕ) → cond b (Some y) (find (λ (z : Keyed). z.level == level) ys) ≡ None → j < suc (length ys) → (key_at (y ∷ ys) j).level ≡ level → ⊥
    by true e rest j h less same = cc
    by false e rest zero h less same = let own : (y.level == level) ≡ true = grind (arith, nat_tests, same) in true≢false (sym own ∙ e)
    by false e rest (suc j) h less same = rest j h (omega (arith, less)) same

-- the key that is found has a phrase that there is
pub found_phrase : (k : KeyedWorlds) (level : ℕ) (x : Keyed) → AreKeyed k → find (λ (y : Keyed). y.level == level) k.keyed ≡ Some x → x.phrase < length (phrases_of k)
found_phrase k level x are e =
    let f = found k.keyed level x e in
    subst (λ (z : Keyed). z.phrase < length (phrases_of k)) f.own (are.phrase f.place f.there)

own_truth : (k : KeyedWorlds) (w : World) → AreKeyed k → (i : ℕ) → i < length k.keyed
    → key_truth k w (key_at k.keyed i).level ≡ comparison w (slice_get (phrases_of k) (key_at k.keyed i).phrase)
own_truth k w are i less = by (find (λ (y : Keyed). y.level == (key_at k.keyed i).level) k.keyed) refl
  where
    by : (o : Option Keyed) → find (λ (y : Keyed). y.level == (key_at k.keyed i).level) k.keyed ≡ o
        → option_map_or (λ (x : Keyed). comparison w (slice_get (phrases_of k) x.phrase)) o false ≡ comparison w (slice_get (phrases_of k) (key_at k.keyed i).phrase)
    by None e = absurd (not_found k.keyed (key_at k.keyed i).level i e less refl)
    by (Some x) e =
        let f = found k.keyed (key_at k.keyed i).level x e in
        let same : f.place ≡ i = are.differ f.place i f.there less (ap (λ (z : Keyed). z.level) f.own ∙ f.of_level) in
        ap (λ (z : Keyed). comparison w (slice_get (phrases_of k) z.phrase)) (sym f.own ∙ ap (λ j. key_at k.keyed j) same)

-- The slot of a level.

-- a level among the free ones
record IsFree (slots : List Slot) (k level : ℕ) : Type 0 where
  place : ℕ
  there : level ≡ k + place
  free : slice_get slots place ≡ Some Free

among_free : (slots : List Slot) (k level : ℕ) → list_any (λ o. o == level) (free_from slots k) ≡ true → IsFree slots k level
among_free [] k level h = absurd (true≢false (sym h))
among_free (Part p w ∷ ss) k level h = let r = among_free ss (suc k) level h in record { place = suc r.place; there = omega (arith, r.there); free = r.free }
among_free (Free ∷ ss) k level h = by (k == level) refl (among_free ss (suc k) level) h
  where
    by : (b : Bool) → (k == level) ≡ b → (list_any (λ o. o == level) (free_from ss (suc k)) ≡ true → IsFree ss (suc k) level)
        → (b || list_any (λ o. o == level) (free_from ss (suc k))) ≡ true → IsFree (Free ∷ ss) k level
    by true e rest h = record { place = 0; there = grind (arith, nat_tests, e); free = refl }
    by false e rest h = let r = rest h in record { place = suc r.place; there = omega (arith, r.there); free = r.free }

or_later : (a b : Bool) → b ≡ true → (a || b) ≡ true
or_later true b e = refl
or_later false b e = e

free_among : (slots : List Slot) (k place level : ℕ) → level ≡ k + place → slice_get slots place ≡ Some Free → list_any (λ o. o == level) (free_from slots k) ≡ true
free_among [] k place level is at = absurd (let no : ⊥ = cc in no)
free_among (Part p w ∷ ss) k zero level is at = absurd (let no : ⊥ = cc in no)
free_among (Part p w ∷ ss) k (suc place) level is at = free_among ss (suc k) place level (omega (arith, is)) at
free_among (Free ∷ ss) k zero level is at =
    let own : (k == level) ≡ true = grind (arith, nat_tests, is) in
    ap (λ b. b || list_any (λ o. o == level) (free_from ss (suc k))) own
free_among (Free ∷ ss) k (suc place) level is at =
    or_later (k == level) (list_any (λ o. o == level) (free_from ss (suc k))) (free_among ss (suc k) place level (omega (arith, is)) at)

-- a level that is not free is one of a part
part_at : (slots : List Slot) (level : ℕ) → level < length slots → (slice_get slots level ≡ Some Free → ⊥) → (p : ℕ) × IsLevelOf p slots level
part_at [] level less not = absurd (omega (arith, less))
part_at (Free ∷ ss) zero less not = absurd (not refl)
part_at (Part p w ∷ ss) zero less not = (p, (w, refl))
part_at (s ∷ ss) (suc level) less not = part_at ss level (omega (arith, less)) not

pub part_level : (slots : List Slot) (level : ℕ) → level < length slots → list_any (λ o. o == level) (free_from slots 0) ≡ false → (p : ℕ) × IsLevelOf p slots level
part_level slots level less not = part_at slots level less (λ at. true≢false (sym (free_among slots 0 level level (omega arith) at) ∙ not))

-- a free level has the truth of its comparison
pub free_value : FreeLevelsStay → (k : KeyedWorlds) (w : World) (level : ℕ) → list_any (λ o. o == level) (free_from k.slots 0) ≡ true → values_in k w level ≡ key_truth k w level
unfolding values_in
free_value stay k w level h =
    let f = among_free k.slots 0 level h in
    let own : f.place ≡ level = omega (arith, f.there) in
    stay k.base.spec k.slots w (key_truth k w) level (subst (λ n. slice_get k.slots n ≡ Some Free) own f.free)

-- Functions at these values.

lawful_in : EachWorldIsSpelled → FreeLevelsStay → (k : KeyedWorlds) → AreKeyed k → (w : World) → IsWorld k.base.spec w → Lawful k (values_in k w)
unfolding values_in
lawful_in each stay k are w is = λ i less.
    stay k.base.spec k.slots w (key_truth k w) (key_at k.keyed i).level (are.free i less)
    ∙ own_truth k w are i less
    ∙ ap (λ v. comparison v (slice_get (phrases_of k) (key_at k.keyed i).phrase)) (sym (each k.base.spec k.slots are.layout w is (key_truth k w)))

told_in : EachWorldIsSpelled → FreeLevelsStay → (d : Diagram) (k : KeyedWorlds) (truth : World → Bool) (f : ℕ) (w : World) → AreKeyed k → IsWorld k.base.spec w → Tells d k truth f
    → meaning d f (values_in k w) ≡ truth w
unfolding values_in
told_in each stay d k truth f w are is told =
    told.means (values_in k w) (lawful_in each stay k are w is)
    ∙ ap truth (each k.base.spec k.slots are.layout w is (key_truth k w))

-- what a function tells is its value at these
pub holds_in : EachWorldIsSpelled → FreeLevelsStay → (m : GroundMachine) (k : KeyedWorlds) (d : Diagram) (truth : World → Bool) (f : ℕ) (w : World) → k.base ≡ m.base
    → AreKeyed (worlds_of (encoding_of m k d)) → IsWorld m.base.spec w → EncodingTells (encoding_of m k d) truth f → meaning d f (values_in k w) ≡ truth w
holds_in each stay m k d truth f w same are is told =
    ap (λ (g : Grounded). meaning d f (values_in (record k { base = g }) w)) same
    ∙ told_in each stay d (worlds_of (encoding_of m k d)) truth f w are is told

-- One step down.

-- the child to go on with stands before the node, and has its value
pub record IsStep (d : Diagram) (values : ℕ → Bool) (at to : ℕ) : Type 0 where
  pub before : to < at
  pub same : meaning d to values ≡ meaning d at values

pub to_high : (d : Diagram) (v : ℕ → Bool) (at : ℕ) (b : Branch) → IsBranch d at b → v b.level ≡ true → IsStep d v at b.high
to_high d v at b is value = record {
  before = subst (λ (n : Node). n.high < at) is.node is.reduced.high_before;
  same = sym (is.means v ∙ ap (λ t. meaning d (if t then b.high else b.low) v) value);
}

pub to_low : (d : Diagram) (v : ℕ → Bool) (at : ℕ) (b : Branch) → IsBranch d at b → v b.level ≡ false → IsStep d v at b.low
to_low d v at b is value = record {
  before = subst (λ (n : Node). n.low < at) is.node is.reduced.low_before;
  same = sym (is.means v ∙ ap (λ t. meaning d (if t then b.high else b.low) v) value);
}

-- a level of a node is one of the arena's
pub level_there : (d : Diagram) (at : ℕ) (b : Branch) → IsBranch d at b → b.level < d.levels
level_there d at b is = subst (λ (n : Node). n.level < d.levels) is.node is.reduced.level_fits

-- a constant is true everywhere exactly where it has the value true
pub at_end : (d : Diagram) (v : ℕ → Bool) (at : ℕ) (result : Bool) → IsConstant d at → (IsTrue result ↔ ((values : ℕ → Bool) → meaning d at values ≡ true)) → result ≡ meaning d at v
at_end d v at result constant is = by constant.0 constant.1 result is
  where
    by : (value : Bool) → ((values : ℕ → Bool) → meaning d at values ≡ value) → (b : Bool) → (IsTrue b ↔ ((values : ℕ → Bool) → meaning d at values ≡ true)) → b ≡ meaning d at v
    by true all b h = h.1 all ∙ sym (all v)
    by false all true h = absurd (true≢false (sym (h.0 refl v) ∙ all v))
    by false all false h = sym (all v)
