-- The diagrams of phrases, one after another.
use Rattle.std.proofs.Common.{◌≡◌, ℕ, zero, suc, ◌+◌, ◌<◌, Bool, List, [], ◌∷◌, ◌++◌, fold, length, take, Some, sym, ap, ◌∙◌, subst, slice_get, arith, add-one, length-append}
use Rattle.std.specs.List.{All}
use Rattle.std.proofs.lemmas.List.{map_push}
use Rattle.std.proofs.lemmas.List.Elements.{All-append}
use Rattle.std.proofs.lemmas.Option.{same_Some}
use Rattle.rsml_ground.specs.declared.phrases.GroundPhrase.{GroundPhrase}
use Rattle.rsml_ground.specs.Truths.{Grounded, with_next}
use Rattle.state_tree.proofs.Lists.{within_get}
use Rattle.bdd_core.specs.Diagram.{Diagram, IsRef, meaning}
use Rattle.bdd_core.specs.Calls.{Keeps}
use Rattle.phrase_diagrams.specs.Diagrams.{truths_at}
use Rattle.keyed_levels.specs.Keyed.{KeyedWorlds, Lawful, world_at}
use Rattle.guard_encode.specs.Phrases.{ArePhrases, TellsNext}
use Rattle.guard_encode.proofs.Telling.{truths_stay, refs_stay}

fold_more : (f : List Bool → GroundPhrase → List Bool) (ps : List GroundPhrase) (ts : List Bool) (n : ℕ) (p : GroundPhrase) → slice_get ps n ≡ Some p
    → fold f ts (take (suc n) ps) ≡ f (fold f ts (take n ps)) p
fold_more f [] ts n p h = absurd (let empty : ⊥ = cc in empty)
fold_more f (q ∷ ps) ts zero p h = ap (f ts) (same_Some q p h)
fold_more f (q ∷ ps) ts (suc n) p h = fold_more f ps (f ts q) n p h

-- handles with one more
more_refs : (d : Diagram) (diagrams : List ℕ) (r : ℕ) → All (IsRef d) diagrams → IsRef d r → All (IsRef d) (diagrams ++ (r ∷ []))
more_refs d diagrams r refs is = All-append (IsRef d) diagrams (r ∷ []) refs one
  where
    one : All (IsRef d) (r ∷ [])
    one zero e less = is
    one (suc j) e less = absurd (omega (arith, less))

-- one more diagram, in an arena that has grown
pub phrases_more : (old new : Diagram) (k : KeyedWorlds) (g : Grounded) (n : ℕ) (diagrams more : List ℕ) (r : ℕ) → n < length g.phrases → Keeps old new → ArePhrases old k g n diagrams
    → ((p : GroundPhrase) → slice_get g.phrases n ≡ Some p → TellsNext old new k g diagrams p r) → more ≡ diagrams ++ (r ∷ []) → ArePhrases new k g (n + 1) more
phrases_more old new k g n diagrams more r less keeps are next push = subst (ArePhrases new k g (n + 1)) (sym push) (record {
  many = length-append diagrams (r ∷ []) ∙ ap (λ m. m + 1) are.many;
  refs = more_refs new diagrams r (refs_stay old new diagrams keeps are.refs) told.is_ref;
  truths = truths;
})
  where
    told : TellsNext old new k g diagrams (within_get g.phrases n less).0 r
    told = next (within_get g.phrases n less).0 (within_get g.phrases n less).1

    truths : (v : ℕ → Bool) → Lawful k v → truths_at new (diagrams ++ (r ∷ [])) v ≡ fold (with_next g (world_at k v)) [] (take (n + 1) g.phrases)
    truths v lawful =
        let p = (within_get g.phrases n less).0 in
        let w = world_at k v in
        map_push (λ f. meaning new f v) diagrams r
        ∙ ap (λ ts. ts ++ (meaning new r v ∷ [])) (truths_stay old new diagrams v keeps are.refs)
        ∙ ap (λ t. truths_at old diagrams v ++ (t ∷ [])) (told.means v lawful)
        ∙ ap (λ ts. with_next g w ts p) (are.truths v lawful)
        ∙ sym (fold_more (with_next g w) g.phrases [] n p (within_get g.phrases n less).1)
        ∙ ap (λ m. fold (with_next g w) [] (take m g.phrases)) (sym (add-one n))
