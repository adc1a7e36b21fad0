-- The parts of an encoder.
use Rattle.std.proofs.Common.{◌≡◌, ℕ, zero, suc, ◌<◌, ◌∷◌, get_or, Bool, List, [], fold, length, replicate, Option, None, Some, refl, sym, ap, ◌∙◌, subst, slice_get, arith}
use Rattle.std.proofs.lemmas.List.{length-replicate, take_all}
use Rattle.rsml_syntax.specs.declared.syntax.Spec.{Spec}
use Rattle.rsml_meaning.specs.Instances.{states}
use Rattle.equal_frames.specs.Alike.{HaveSameWorlds}
use Rattle.rsml_ground.specs.Truths.{Grounded, is_active, truths_in, with_next}
use Rattle.bdd_core.specs.Diagram.{Diagram}
use Rattle.bdd_core.specs.Calls as arena
use Rattle.world_levels.specs.Spelling.{WorldLevels}
use Rattle.phrase_diagrams.specs.Tells as exact
use Rattle.phrase_diagrams.specs.Diagrams.{truths_at}
use Rattle.elaborate.specs.Machine.{GroundMachine}
use Rattle.keyed_levels.specs.Keyed.{AreKeyed, Extends, HasNoBounds, KeyedWorlds, Lawful, Tells, world_at}
use Rattle.keyed_levels.proofs.Bounds.{extends_itself, tells_more}
use Rattle.keyed_levels.proofs.Lawful.{tells_on}
use Rattle.settled_worlds.specs.Settled.{AreExact}
use Rattle.guard_encode.specs.Phrases.{AreActive, ArePhrases}
use Rattle.guard_encode.specs.Encoding.{AreEncoded, AreStored, Encoding, Made, encoding_of, unbounded_of, worlds_of}
use Rattle.guard_encode.specs.Encoding.{Tells as EncodingTells}
use Rattle.std.proofs.lemmas.Option.{same_Some}
use Rattle.state_tree.proofs.Lists.{within_get}
use Rattle.guard_encode.proofs.Telling.{exact_tells}

-- a specification has the same worlds as itself
pub own_worlds : (s : Spec) → HaveSameWorlds s s
own_worlds s = record { worlds = λ w. refl; paths = refl; active = λ w path. refl; cells = refl }

-- exact diagrams of the states of the specification
pub are_active : (d : Diagram) (k : KeyedWorlds) (levels : WorldLevels) (s : Spec) (active : List ℕ) → s ≡ levels.spec → levels.spec ≡ k.base.spec → levels.slots ≡ k.slots → length active ≡ length (states s)
    → ((node f : ℕ) → slice_get active node ≡ Some f → exact.Tells d levels (λ w. is_active s w node) f) → AreActive d k active
are_active d k levels s active own spec slots many each = record {
  many = many ∙ ap (λ (t : Spec). length (states t)) (own ∙ spec);
  each = λ node f at. subst (λ (t : Spec). Tells d k (λ w. is_active t w node) f) (own ∙ spec) (exact_tells d k levels (λ w. is_active s w node) f spec slots (each node f at));
}

-- they still are, in an arena that has grown
pub active_stay : (old new : Diagram) (k : KeyedWorlds) (active : List ℕ) → arena.Keeps old new → AreActive old k active → AreActive new k active
active_stay old new k active keeps are = record {
  many = are.many;
  each = λ node f at. tells_on old new k (λ w. is_active k.base.spec w node) f keeps (are.each node f at);
}

not_made : (n i f : ℕ) → slice_get (replicate {A = Option ℕ} n None) i ≡ Some (Some f) → ⊥
not_made zero i f h = cc
not_made (suc n) zero f h = cc
not_made (suc n) (suc i) f h = not_made n i f h

-- where none is made, each that is made is exact
pub none_exact : (d : Diagram) (k : KeyedWorlds) (n : ℕ) (exact : List (Option ℕ)) → n ≡ length k.keyed → exact ≡ replicate n None → AreExact d k exact
none_exact d k n exact many is = record {
  many = ap (λ (xs : List (Option ℕ)). length xs) is ∙ length-replicate n None ∙ many;
  each = λ i f at. absurd (not_made n i f (ap (λ (xs : List (Option ℕ)). slice_get xs i) (sym is) ∙ at));
}

-- levels without bounds, over the phrases of the machine
pub own_unbounded : (m : GroundMachine) (k : KeyedWorlds) (d : Diagram) → HasNoBounds k → unbounded_of (encoding_of m k d) ≡ worlds_of (encoding_of m k d)
own_unbounded m k d none = ap (λ (j : KeyedWorlds). record j { base = m.base }) none

-- the parts of an encoder, over levels of its machine's phrases
pub are_encoded : (m : GroundMachine) (k : KeyedWorlds) (d : Diagram) (made : Made) → k.base ≡ m.base → HasNoBounds k → AreKeyed k → d.levels ≡ length k.slots
    → AreActive d k made.active → ArePhrases d k k.base (length k.base.phrases) made.phrases → AreExact d k made.exact → AreEncoded m k d made
are_encoded m k d made same none keyed room are_active are_phrases are_exact = record {
  same = same;
  stored = record {
    levels = subst (λ (g : Grounded). AreKeyed (record k { base = g })) same keyed;
    same_levels = room;
    first = subst (λ (j : KeyedWorlds). Extends j own) (sym unbound) (extends_itself own);
    active_are = subst (λ (j : KeyedWorlds). AreActive d j made.active) (sym unbound) (subst (λ (g : Grounded). AreActive d (record k { base = g }) made.active) same are_active);
    phrases_are = subst (λ (j : KeyedWorlds). ArePhrases d j m.base (length m.base.phrases) made.phrases) (sym unbound)
        (subst (λ (g : Grounded). ArePhrases d (record k { base = g }) g (length g.phrases) made.phrases) same are_phrases);
    exact_are = subst (λ (g : Grounded). AreExact d (record k { base = g }) made.exact) same are_exact;
  };
}
  where
    own : KeyedWorlds
    own = worlds_of (encoding_of m k d)

    unbound : unbounded_of (encoding_of m k d) ≡ worlds_of (encoding_of m k d)
    unbound = own_unbounded m k d none

-- the diagrams of all phrases have their truths
pub all_truths : (d : Diagram) (k : KeyedWorlds) (g : Grounded) (phrases : List ℕ) → ArePhrases d k g (length g.phrases) phrases → (v : ℕ → Bool) → Lawful k v → truths_at d phrases v ≡ truths_in g (world_at k v)
all_truths d k g phrases are v lawful =
    are.truths v lawful ∙ ap (λ ps. fold (with_next g (world_at k v)) [] ps) (take_all (length g.phrases) g.phrases (omega arith))

get_at : (xs : List ℕ) (i x d : ℕ) → slice_get xs i ≡ Some x → get_or xs i d ≡ x
get_at [] i x d h = absurd (let empty : ⊥ = cc in empty)
get_at (y ∷ ys) zero x d h = same_Some y x h
get_at (y ∷ ys) (suc i) x d h = get_at ys i x d h

-- the diagram of a state
pub active_at : (e : Encoding) (made : Made) (node r : ℕ) → AreStored e made → node < length (states e.machine.base.spec) → r ≡ get_or made.active node r
    → EncodingTells e (λ w. is_active e.machine.base.spec w node) r
active_at e made node r are less is =
    let within : node < length made.active = omega (arith, less, are.active_are.many) in
    let f = within_get made.active node within in
    subst (EncodingTells e (λ w. is_active e.machine.base.spec w node)) (sym (is ∙ get_at made.active node f.0 r f.1))
    (tells_more e.diagram (unbounded_of e) (worlds_of e) (λ w. is_active e.machine.base.spec w node) f.0 are.first (are.active_are.each node f.0 f.1))
