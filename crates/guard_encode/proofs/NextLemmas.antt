-- The diagram of the next phrase.
use Rattle.std.proofs.Common.{◌≡◌, ℕ, ◌≤◌, ◌<◌, Bool, true, false, not, List, [], length, Some, refl, sym, ap, ◌∙◌, subst, nat_lt, slice_get, unwrap_or, arith, ltb-true, ltb-false, ℤ}
use Rattle.std.specs.List.{list_any}
use Rattle.std.proofs.lemmas.Option.{slice_get_within}
use Rattle.rsml_syntax.specs.declared.syntax.Spec.{Spec}
use Rattle.rsml_syntax.specs.declared.syntax.Relation.{Relation}
use Rattle.rsml_syntax.specs.declared.world.World.{World}
use Rattle.rsml_syntax.specs.rules.Relations.{compare}
use Rattle.rsml_meaning.specs.Words.{Path}
use Rattle.rsml_meaning.specs.Active.{active}
use Rattle.state_tree.specs.Numbers.{path_of}
use Rattle.state_tree.proofs.Lists.{within_get}
use Rattle.equal_frames.specs.Alike.{HaveSameWorlds}
use Rattle.rsml_ground.specs.declared.sums.GroundSum.{GroundSum}
use Rattle.rsml_ground.specs.declared.definitions.Definition.{Definition}
use Rattle.rsml_ground.specs.declared.phrases.GroundPhrase.{GroundPhrase}
use Rattle.rsml_ground.specs.declared.phrases.GroundPhrase.TheVariants as phrases
use Rattle.rsml_ground.specs.Truths.{Grounded, function_values, is_active, phrase_truth, sum_number}
use Rattle.macros.proofs.NoState.{no_state}
use Rattle.bdd_core.specs.Diagram.{Diagram, meaning}
use Rattle.bdd_core.specs.Calls.{Represents}
use Rattle.world_levels.specs.Spelling.{WorldLevels, world_of}
use Rattle.phrase_diagrams.specs.Diagrams.{truths_at}
use Rattle.spelled_numbers.specs.declared.slot.Slot.TheVariants.{Free}
use Rattle.keyed_levels.specs.declared.keyed.Keyed.{Keyed}
use Rattle.keyed_levels.specs.Keyed.{AreKeyed, IsKeyOf, KeyedWorlds, StandsFor as LevelStandsFor, Tells, comparison, key_at, phrases_of, world_at}
use Rattle.guard_encode.specs.Phrases.{AreActive, TellsNext}
use Rattle.guard_encode.specs.Opposites.{AreOpposite}

-- a state of the one is active where that of the other is
pub same_active : (s t : Spec) (w : World) (node : ℕ) → HaveSameWorlds s t → is_active s w node ≡ is_active t w node
same_active s t w node same = same.active w (path_of s node) ∙ ap (λ (ps : List Path). active t w (unwrap_or (slice_get ps node) [])) same.paths

-- a state, or a number that no state has
pub state_next : (d : Diagram) (k : KeyedWorlds) (g : Grounded) (active diagrams : List ℕ) (p : GroundPhrase) (node r : ℕ) → HaveSameWorlds k.base.spec g.spec → AreActive d k active → p ≡ phrases.In node
    → ((f : ℕ) → slice_get active node ≡ Some f → r ≡ f) → (length active ≤ node → Represents d (λ values. true) r) → TellsNext d d k g diagrams p r
state_next d k g active diagrams p node r same are is there past = by (nat_lt node (length active)) refl
  where
    tells : Tells d k (λ w. is_active k.base.spec w node) r → TellsNext d d k g diagrams p r
    tells t = record {
      is_ref = t.is_ref;
      means = λ v lawful.
          t.means v lawful
          ∙ same_active k.base.spec g.spec (world_at k v) node same
          ∙ ap (phrase_truth g (world_at k v) (truths_at d diagrams v)) (sym is);
    }

    by : (b : Bool) → nat_lt node (length active) ≡ b → TellsNext d d k g diagrams p r
    by true e =
        let f = within_get active node (ltb-true node (length active) e) in
        tells (subst (Tells d k (λ w. is_active k.base.spec w node)) (sym (there f.0 f.1)) (are.each node f.0 f.1))
    by false e =
        let h = past (ltb-false node (length active) e) in
        tells (record {
          is_ref = h.is_ref;
          means = λ v lawful. h.means v ∙ sym (no_state k.base.spec (world_at k v) node (omega (arith, are.many, ltb-false node (length active) e)));
        })

-- a function that is compared
pub function_next : (old new : Diagram) (k : KeyedWorlds) (g : Grounded) (levels : WorldLevels) (diagrams : List ℕ) (definition : Definition) (number : ℕ) (relation : Relation) (constant : ℤ) (p : GroundPhrase) (r : ℕ)
    → levels.spec ≡ k.base.spec → levels.slots ≡ k.slots → slice_get g.definitions number ≡ Some definition → p ≡ phrases.Function number relation constant
    → Represents new (λ v. list_any (λ x. compare relation x constant) (function_values (world_of levels.spec levels.slots v).cells (truths_at old diagrams v) (Some definition))) r
    → TellsNext old new k g diagrams p r
function_next old new k g levels diagrams definition number relation constant p r spec slots at is h = record {
  is_ref = h.is_ref;
  means = λ v lawful.
      h.means v
      ∙ (λ i. list_any (λ x. compare relation x constant) (function_values (world_of (spec i) (slots i) v).cells (truths_at old diagrams v) (sym at i)))
      ∙ ap (phrase_truth g (world_at k v) (truths_at old diagrams v)) (sym is);
}

-- a level that stands for a comparison tells it
pub level_tells : (d : Diagram) (k : KeyedWorlds) (left right : GroundSum) (relation : Relation) (level r : ℕ) → LevelStandsFor k (phrases.Compare left relation right) level → Represents d (λ v. v level) r
    → Tells d k (λ w. compare relation (sum_number w.cells left) (sum_number w.cells right)) r
level_tells d k left right relation level r stands h = record {
  is_ref = h.is_ref;
  means = λ v lawful. h.means v ∙ ap v (sym stands.own) ∙ lawful stands.place stands.there ∙ ap (comparison (world_at k v)) stands.is;
}

-- the level of a key stands for its comparison
pub stands_at : (k : KeyedWorlds) (keys : List Keyed) (phrase place : ℕ) (p q : GroundPhrase) → keys ≡ k.keyed → IsKeyOf k.keyed phrase place → slice_get (phrases_of k) (key_at keys place).phrase ≡ Some p → p ≡ q
    → LevelStandsFor k q (key_at keys place).level
stands_at k keys phrase place p q same is at compared = record {
  place = place;
  there = is.there;
  own = ap (λ (xs : List Keyed). (key_at xs place).level) (sym same);
  is = ap (λ (xs : List Keyed). slice_get (phrases_of k) (key_at xs place).phrase) (sym same) ∙ at ∙ ap (λ (r : GroundPhrase). Some r) compared;
}

-- such a level is one of the levels
pub level_there : (k : KeyedWorlds) (p : GroundPhrase) (level : ℕ) → AreKeyed k → LevelStandsFor k p level → level < length k.slots
level_there k p level keyed stands = subst (λ n. n < length k.slots) stands.own (slice_get_within k.slots (key_at k.keyed stands.place).level Free (keyed.free stands.place stands.there))

twice_not : (b : Bool) → not (not b) ≡ b
twice_not true = refl
twice_not false = refl

-- and its negation the opposite
pub opposite_tells : (old new : Diagram) (k : KeyedWorlds) (left right : GroundSum) (relation other : Relation) (level f r : ℕ) → AreOpposite relation other
    → LevelStandsFor k (phrases.Compare left other right) level → Represents old (λ v. v level) f → Represents new (λ v. not (meaning old f v)) r
    → Tells new k (λ w. compare relation (sum_number w.cells left) (sum_number w.cells right)) r
opposite_tells old new k left right relation other level f r opposite stands has h =
    let told = level_tells old k left right other level f stands has in record {
      is_ref = h.is_ref;
      means = λ v lawful.
          let x : ℤ = sum_number (world_at k v).cells left in
          let y : ℤ = sum_number (world_at k v).cells right in
          h.means v ∙ ap not (told.means v lawful) ∙ ap not (opposite x y) ∙ twice_not (compare relation x y);
    }
