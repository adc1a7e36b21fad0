-- Exact diagrams, made one after another.
use Rattle.std.proofs.Common.{◌≡◌, ℕ, zero, suc, ◌⊎◌, inl, inr, ⊎_elim, List, [], ◌∷◌, Option, Some, refl, sym, ap, ◌∙◌, subst, slice_get, slice_set}
use Rattle.std.proofs.lemmas.List.{length-set}
use Rattle.std.proofs.lemmas.Option.{same_Some}
use Rattle.bdd_core.specs.Diagram.{Diagram}
use Rattle.bdd_core.specs.Calls.{Keeps, Represents}
use Rattle.free_levels.proofs.KeyLemmas.{represents-keeps}
use Rattle.rsml_syntax.specs.declared.syntax.Relation.{Relation}
use Rattle.rsml_syntax.specs.declared.world.World.{World}
use Rattle.rsml_syntax.specs.rules.Relations.{compare}
use Rattle.rsml_ground.specs.declared.sums.GroundSum.{GroundSum}
use Rattle.rsml_ground.specs.declared.phrases.GroundPhrase.TheVariants as phrases
use Rattle.rsml_ground.specs.Truths.{sum_number}
use Rattle.world_levels.specs.Spelling.{WorldLevels, world_of}
use Rattle.keyed_levels.specs.declared.keyed.Keyed.{Keyed}
use Rattle.keyed_levels.specs.Keyed.{KeyedWorlds, comparison, key_at, keys_of, phrases_of, world_at}
use Rattle.settled_worlds.specs.Settled.{AreExact}

-- what stands in a list of which one item was set
get_set : {A : Type 0} (xs : List A) (k : ℕ) (v : A) (j : ℕ) (y : A) → slice_get (slice_set xs k v) j ≡ Some y → ((j ≡ k) × (v ≡ y)) ⊎ (slice_get xs j ≡ Some y)
get_set [] k v j y h = inr h
get_set (x ∷ xs) zero v zero y h = inl (refl, same_Some v y h)
get_set (x ∷ xs) zero v (suc j) y h = inr h
get_set (x ∷ xs) (suc k) v zero y h = inr h
get_set (x ∷ xs) (suc k) v (suc j) y h = ⊎_elim (λ e. inl (ap suc e.0, e.1)) (λ e. inr e) (get_set xs k v j y h)

-- they stay what they are
pub exact_on : (a b : Diagram) (k : KeyedWorlds) (exact : List (Option ℕ)) → Keeps a b → AreExact a k exact → AreExact b k exact
exact_on a b k exact keeps are = record {
  many = are.many;
  each = λ i f at. represents-keeps a b ((keys_of k).function i) f keeps (are.each i f at);
}

-- one more is kept
pub exact_more : (a b : Diagram) (k : KeyedWorlds) (exact more : List (Option ℕ)) (place made : ℕ) → Keeps a b → AreExact a k exact
    → Represents b ((keys_of k).function place) made → more ≡ slice_set exact place (Some made) → AreExact b k more
exact_more a b k exact more place made keeps are is same = subst (λ e. AreExact b k e) (sym same) (record {
  many = length-set exact place (Some made) ∙ are.many;
  each = λ i f at. ⊎_elim
      (λ e. let one : made ≡ f = same_Some made f e.1 in subst (λ q. Represents b ((keys_of k).function i) q) one (subst (λ p. Represents b ((keys_of k).function p) made) (sym e.0) is))
      (λ e. (exact_on a b k exact keeps are).each i f e)
      (get_set exact place (Some made) i (Some f) at);
})

-- the exact diagram of a comparison
pub compared : (d : Diagram) (k : KeyedWorlds) (l : WorldLevels) (phrase : ℕ) (left right : GroundSum) (relation : Relation) (r : ℕ) → l.spec ≡ k.base.spec → l.slots ≡ k.slots
    → slice_get (phrases_of k) phrase ≡ Some (phrases.Compare left relation right)
    → Represents d (λ v. compare relation (sum_number (world_of l.spec l.slots v).cells left) (sum_number (world_of l.spec l.slots v).cells right)) r
    → Represents d (λ v. comparison (world_at k v) (slice_get (phrases_of k) phrase)) r
compared d k l phrase left right relation r spec slots at h = record {
  is_ref = h.is_ref;
  means = λ v.
      let same : world_of l.spec l.slots v ≡ world_at k v = ap (λ s. world_of s l.slots v) spec ∙ ap (λ ss. world_of k.base.spec ss v) slots in
      h.means v
      ∙ ap (λ (w : World). compare relation (sum_number w.cells left) (sum_number w.cells right)) same
      ∙ ap (comparison (world_at k v)) (sym at);
}

-- that of a key's comparison
pub of_key : (d : Diagram) (k : KeyedWorlds) (place : ℕ) (t : Keyed) (r : ℕ) → t ≡ key_at k.keyed place
    → Represents d (λ v. comparison (world_at k v) (slice_get (phrases_of k) t.phrase)) r → Represents d ((keys_of k).function place) r
of_key d k place t r is h = subst (λ (x : Keyed). Represents d (λ v. comparison (world_at k v) (slice_get (phrases_of k) x.phrase)) r) is h
