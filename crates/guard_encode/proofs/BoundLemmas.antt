-- Levels that stand for bounds, and encoders that have more of them or none.
use Rattle.std.proofs.Common.{◌≡◌, ℕ, zero, suc, ◌+◌, ◌<◌, ◌≤◌, Bool, List, [], ◌∷◌, ◌++◌, length, take, Option, None, Some, refl, sym, ap, ◌∙◌, subst, slice_get, slice_index_or, ℤ, pos, int_le, arith}
use Rattle.std.proofs.Math.IntN.{+ℤ_idl}
use Rattle.std.proofs.lemmas.List.{length-take-le}
use Rattle.std.proofs.lemmas.Option.{slice_get_within}
use Rattle.rsml_syntax.specs.declared.world.World.{World}
use Rattle.rsml_ground.specs.declared.phrases.GroundPhrase.{GroundPhrase}
use Rattle.rsml_ground.specs.Rests.{IsSmall}
use Rattle.rsml_ground.specs.Truths.{Grounded}
use Rattle.bdd_core.specs.Diagram.{Diagram}
use Rattle.bdd_core.specs.Calls.{Represents}
use Rattle.bdd_core.proofs.StepLemmas.{keeps_refl, keeps_trans}
use Rattle.spelled_numbers.specs.declared.slot.Slot.{Slot}
use Rattle.spelled_numbers.specs.declared.slot.Slot.TheVariants.{Free}
use Rattle.world_levels.specs.Spelling.{spelled_world}
use Rattle.elaborate.specs.Machine.{GroundMachine}
use Rattle.keyed_levels.specs.Keyed.{AreKeyed, Extends, KeyedWorlds, PhraseFits, StandsFor, comparison, key_at, unbounded, world_at}
use Rattle.keyed_levels.specs.Keyed as keyed
use Rattle.keyed_levels.proofs.Bounds.{extends_itself, extends_on, function_before, lawful_before, one_more, unbounded_again}
use Rattle.settled_worlds.specs.Settled.{AreExact}
use Rattle.guard_encode.specs.Phrases.{AreActive, ArePhrases}
use Rattle.guard_encode.specs.Bounds.{at_most}
use Rattle.guard_encode.specs.Encoding.{AreEncoded, Encoding, Finds, FindsAt, Grows, HasNoBounds, Keeps, Made, Tells, encoding_of, unbounded_of, without_bounds, worlds_of}

-- One level.

-- a level that stands for a comparison is one of the diagrams'
pub level_within : (m : GroundMachine) (k : KeyedWorlds) (d : Diagram) (made : Made) (p : GroundPhrase) (level : ℕ) → AreEncoded m k d made → StandsFor (worlds_of (encoding_of m k d)) p level
    → level < d.levels
level_within m k d made p level are stands =
    let free = are.stored.levels.free stands.place stands.there in
    let within : (key_at k.keyed stands.place).level < length k.slots = slice_get_within k.slots (key_at k.keyed stands.place).level Free free in
    omega (arith, within, stands.own, are.stored.same_levels)

-- a level that stands for a bound tells it
pub bound_tells : (m : GroundMachine) (k : KeyedWorlds) (old new : Diagram) (cell level r : ℕ) (n : ℤ) → StandsFor (worlds_of (encoding_of m k old)) (at_most cell n) level
    → Represents new (λ v. v level) r → Tells (encoding_of m k new) (λ w. int_le (slice_index_or w.cells cell (pos 0)) n) r
bound_tells m k old new cell level r n stands h = record {
  is_ref = h.is_ref;
  means = λ v lawful.
      let w : World = world_at (worlds_of (encoding_of m k old)) v in
      h.means v
      ∙ ap v (sym stands.own)
      ∙ lawful stands.place stands.there
      ∙ ap (comparison w) stands.is
      ∙ (λ i. int_le (+ℤ_idl (slice_index_or w.cells cell (pos 0)) i) (+ℤ_idl n i));
}

-- the comparison is one of sums of these cells
pub bound_fits : (many cell : ℕ) (n : ℤ) → cell < many → IsSmall n → PhraseFits many (at_most cell n)
bound_fits many cell n less small = (
  record { few = omega arith; operands = (less, tt) },
  record { few = omega arith; operands = (small, tt) },
)

-- over the levels of an encoder of the machine
pub own_stands : (m : GroundMachine) (k : KeyedWorlds) (d : Diagram) (p : GroundPhrase) (level : ℕ) → k.base ≡ m.base → StandsFor k p level → StandsFor (worlds_of (encoding_of m k d)) p level
own_stands m k d p level same stands = subst (λ (g : Grounded). StandsFor (record k { base = g }) p level) same stands

-- More levels that stand for bounds.

pub grows_itself : (e : Encoding) → Grows e e
grows_itself e = record { machine = refl; slots = refl; unbounded = refl; lawful = λ v lawful. lawful; diagram = keeps_refl e.diagram }

pub grows_on : (a b c : Encoding) → Grows a b → Grows b c → Grows a c
grows_on a b c ab bc = record {
  machine = bc.machine ∙ ab.machine;
  slots = bc.slots ∙ ab.slots;
  unbounded = bc.unbounded ∙ ab.unbounded;
  lawful = λ v lawful. ab.lawful v (bc.lawful v lawful);
  diagram = keeps_trans a.diagram b.diagram c.diagram ab.diagram bc.diagram;
}

pub keeps_grows : (old new : Encoding) → Keeps old new → Grows old new
keeps_grows old new keeps = record {
  machine = keeps.machine;
  slots = keeps.slots;
  unbounded = ap unbounded same;
  lawful = λ v lawful. subst (λ (k : KeyedWorlds). keyed.Lawful k v) same lawful;
  diagram = keeps.diagram;
}
  where
    same : worlds_of new ≡ worlds_of old
    same = λ i. record { base = (keeps.machine i).base; beside = keeps.beside i; slots = keeps.slots i; keyed = keeps.keyed i }

-- its levels, over those parts of the earlier ones that are the same
abbrev grown : Encoding → Encoding → KeyedWorlds
grown old new = record { base = old.machine.base; beside = new.beside; slots = old.slots; keyed = new.keyed }

same_grown : (old new : Encoding) → Grows old new → grown old new ≡ worlds_of new
same_grown old new grows = λ i. record { base = (sym grows.machine i).base; beside = new.beside; slots = sym grows.slots i; keyed = new.keyed }

grown_lawful : (old new : Encoding) → Grows old new → (v : ℕ → Bool) → keyed.Lawful (grown old new) v → keyed.Lawful (worlds_of old) v
grown_lawful old new grows v lawful = grows.lawful v (subst (λ (k : KeyedWorlds). keyed.Lawful k v) (same_grown old new grows) lawful)

-- what is told is still told
pub told_grows : (old new : Encoding) (truth : World → Bool) (r : ℕ) → Grows old new → Tells old truth r → Tells new truth r
told_grows old new truth r grows told = subst (λ (k : KeyedWorlds). keyed.Tells new.diagram k truth r) (same_grown old new grows) (record {
  is_ref = omega (arith, told.is_ref, grows.diagram.longer);
  means = λ v lawful. grows.diagram.meanings_stay r v told.is_ref ∙ told.means v (grown_lawful old new grows v lawful);
})

-- and what is found is still found
pub found_grows : (old new : Encoding) (truth : World → Bool) (r : ℕ) → Grows old new → Finds old truth r → Finds new truth r
found_grows old new truth r grows found = subst (λ (k : KeyedWorlds). FindsAt new.diagram k truth r) (same_grown old new grows) (record {
  is_ref = omega (arith, found.is_ref, grows.diagram.longer);
  spelled = λ w free is lawful.
      grows.diagram.meanings_stay r (spelled_world old.machine.base.spec old.slots w free) found.is_ref
      ∙ found.spelled w free is (grown_lawful old new grows (spelled_world old.machine.base.spec old.slots w free) lawful);
  others = λ v lawful not. grows.diagram.meanings_stay r v found.is_ref ∙ found.others v (grown_lawful old new grows v lawful) not;
})

-- an encoder that had no bounds is what it was, once they are taken back
pub keeps_without : (old new : Encoding) → HasNoBounds old → Grows old new → Keeps old (without_bounds new)
keeps_without old new none grows = record {
  machine = grows.machine;
  beside = ap (λ (k : KeyedWorlds). k.beside) (grows.unbounded ∙ none);
  slots = grows.slots;
  keyed = ap (λ (k : KeyedWorlds). k.keyed) (grows.unbounded ∙ none);
  diagram = grows.diagram;
}

-- it still has none
pub none_stay : (old new : Encoding) → Keeps old new → HasNoBounds old → HasNoBounds new
none_stay old new keeps none = subst (λ (k : KeyedWorlds). unbounded k ≡ k) (λ i. record { base = (sym keeps.machine i).base; beside = sym keeps.beside i; slots = sym keeps.slots i; keyed = sym keeps.keyed i }) none

-- The parts of an encoder whose levels have become more.

-- over the phrases of the machine
own_extends : (m : GroundMachine) (k more : KeyedWorlds) → k.base ≡ m.base → Extends k more → Extends (record k { base = m.base }) (record more { base = m.base })
own_extends m k more same extends =
    subst (λ (g : Grounded). Extends (record k { base = g }) (record more { base = g })) same
    (subst (λ (g : Grounded). Extends k (record more { base = g })) extends.base extends)

pub bound_grows : (m : GroundMachine) (k more : KeyedWorlds) (d : Diagram) → k.base ≡ m.base → Extends k more → unbounded more ≡ unbounded k → Grows (encoding_of m k d) (encoding_of m more d)
bound_grows m k more d same extends unbound = record {
  machine = refl;
  slots = extends.slots;
  unbounded = ap (λ (j : KeyedWorlds). record j { base = m.base }) unbound;
  lawful = lawful_before (record k { base = m.base }) (record more { base = m.base }) (own_extends m k more same extends);
  diagram = keeps_refl d;
}

pub bound_encoded : (m : GroundMachine) (k more : KeyedWorlds) (d : Diagram) (made : Made) (exact : List (Option ℕ)) → AreEncoded m k d made → AreKeyed more → Extends k more → unbounded more ≡ unbounded k
    → AreExact d more exact → AreEncoded m more d (record made { exact = exact })
bound_encoded m k more d made exact are keyed_are extends unbound are_exact = record {
  same = same;
  stored = record {
    levels = subst (λ (g : Grounded). AreKeyed (record more { base = g })) same keyed_are;
    same_levels = are.stored.same_levels ∙ ap (λ (ss : List Slot). length ss) (sym extends.slots);
    first = subst (λ (j : KeyedWorlds). Extends j (record more { base = m.base })) (sym own)
        (extends_on (unbounded_of (encoding_of m k d)) (record k { base = m.base }) (record more { base = m.base }) are.stored.first (own_extends m k more are.same extends));
    active_are = subst (λ (j : KeyedWorlds). AreActive d j made.active) (sym own) are.stored.active_are;
    phrases_are = subst (λ (j : KeyedWorlds). ArePhrases d j m.base (length m.base.phrases) made.phrases) (sym own) are.stored.phrases_are;
    exact_are = subst (λ (g : Grounded). AreExact d (record more { base = g }) exact) same are_exact;
  };
}
  where
    same : more.base ≡ m.base
    same = extends.base ∙ are.same

    own : unbounded_of (encoding_of m more d) ≡ unbounded_of (encoding_of m k d)
    own = ap (λ (j : KeyedWorlds). record j { base = m.base }) unbound

-- Exact diagrams.

taken : {A : Type 0} (n : ℕ) (xs : List A) (i : ℕ) (y : A) → slice_get (take n xs) i ≡ Some y → slice_get xs i ≡ Some y
taken zero xs i y h = absurd (let no : ⊥ = cc in no)
taken (suc n) [] i y h = h
taken (suc n) (x ∷ xs) zero y h = h
taken (suc n) (x ∷ xs) (suc i) y h = taken n xs i y h

not_last : (xs : List (Option ℕ)) (i f : ℕ) → slice_get (xs ++ (None ∷ [])) i ≡ Some (Some f) → slice_get xs i ≡ Some (Some f)
not_last [] zero f h = absurd (let no : ⊥ = cc in no)
not_last [] (suc i) f h = absurd (let no : ⊥ = cc in no)
not_last (x ∷ xs) zero f h = h
not_last (x ∷ xs) (suc i) f h = not_last xs i f h

-- with room for one more key
pub bound_exact : (d : Diagram) (k more : KeyedWorlds) (exact room kept : List (Option ℕ)) → AreExact d k exact → Extends k more → length more.keyed ≤ length k.keyed + 1
    → room ≡ exact ++ (None ∷ []) → kept ≡ take (length more.keyed) room → AreExact d more kept
bound_exact d k more exact room kept are extends few with_room is = subst (λ (xs : List (Option ℕ)). AreExact d more xs) (sym (is ∙ ap (take (length more.keyed)) with_room)) (record {
  many = length-take-le (length more.keyed) (exact ++ (None ∷ [])) (omega (arith, few, are.many, one_more exact None));
  each = λ i f at.
      let own = not_last exact i f (taken (length more.keyed) (exact ++ (None ∷ [])) i (Some f) at) in
      let less : i < length k.keyed = omega (arith, slice_get_within exact i (Some f) own, are.many) in
      record { is_ref = (are.each i f own).is_ref; means = λ v. (are.each i f own).means v ∙ sym (function_before k more extends i less v) };
})

-- of the first keys alone
first_exact : (d : Diagram) (k more : KeyedWorlds) (exact kept : List (Option ℕ)) → AreExact d more exact → Extends k more → kept ≡ take (length k.keyed) exact → AreExact d k kept
first_exact d k more exact kept are extends is = subst (λ (xs : List (Option ℕ)). AreExact d k xs) (sym is) (record {
  many = length-take-le (length k.keyed) exact (omega (arith, extends.many, are.many));
  each = λ i f at.
      let own = taken (length k.keyed) exact i (Some f) at in
      let less : i < length k.keyed = omega (arith, slice_get_within (take (length k.keyed) exact) i (Some f) at, length-take-le (length k.keyed) exact (omega (arith, extends.many, are.many))) in
      record { is_ref = (are.each i f own).is_ref; means = λ v. (are.each i f own).means v ∙ function_before k more extends i less v };
})

-- The parts of an encoder whose bounds are taken back.

pub without_encoded : (m : GroundMachine) (k : KeyedWorlds) (d : Diagram) (made : Made) (kept : List (Option ℕ)) → AreEncoded m k d made → AreKeyed (unbounded k)
    → kept ≡ take (length (unbounded k).keyed) made.exact → AreEncoded m (unbounded k) d (record made { exact = kept })
without_encoded m k d made kept are keyed_are is = record {
  same = are.same;
  stored = record {
    levels = subst (λ (g : Grounded). AreKeyed (record (unbounded k) { base = g })) are.same keyed_are;
    same_levels = are.stored.same_levels;
    first = subst (λ (j : KeyedWorlds). Extends j own) (sym again) (extends_itself own);
    active_are = subst (λ (j : KeyedWorlds). AreActive d j made.active) (sym again) are.stored.active_are;
    phrases_are = subst (λ (j : KeyedWorlds). ArePhrases d j m.base (length m.base.phrases) made.phrases) (sym again) are.stored.phrases_are;
    exact_are = first_exact d own (worlds_of (encoding_of m k d)) made.exact kept are.stored.exact_are are.stored.first is;
  };
}
  where
    own : KeyedWorlds
    own = unbounded_of (encoding_of m k d)

    again : unbounded (unbounded_of (encoding_of m k d)) ≡ unbounded_of (encoding_of m k d)
    again = unbounded_again (worlds_of (encoding_of m k d))
