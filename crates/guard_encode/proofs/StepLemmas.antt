-- An encoder whose arena has grown, and what its calls tell.
use Rattle.std.proofs.Common.{◌≡◌, ℕ, ◌+◌, ◌<◌, Bool, ◌&&◌, ◌||◌, not, if◌then◌else◌, List, length, take, get_or, Option, sym, ap, ◌∙◌, subst}
use Rattle.std.specs.List.{list_any}
use Rattle.std.proofs.lemmas.List.Folds.{list_any_more}
use Rattle.rsml_syntax.specs.declared.world.World.{World}
use Rattle.rsml_ground.specs.declared.definitions.GroundGuard.{GroundGuard}
use Rattle.rsml_ground.specs.Truths.{Grounded, guard_truth, truths_in}
use Rattle.bdd_core.specs.Diagram.{Diagram, meaning}
use Rattle.bdd_core.specs.Calls as arena
use Rattle.bdd_core.specs.Calls.{Represents}
use Rattle.world_levels.specs.Spelling.{WorldLevels}
use Rattle.phrase_diagrams.specs.Tells as exact
use Rattle.phrase_diagrams.specs.Diagrams.{truths_at}
use Rattle.elaborate.specs.Machine.{GroundMachine}
use Rattle.keyed_levels.specs.Keyed.{KeyedWorlds, world_at}
use Rattle.keyed_levels.specs.Keyed as keyed
use Rattle.bdd_core.proofs.StepLemmas.{keeps_trans}
use Rattle.keyed_levels.proofs.Bounds.{lawful_before}
use Rattle.keyed_levels.proofs.Lawful.{tells_on}
use Rattle.guard_encode.specs.Phrases.{ArePhrases}
use Rattle.settled_worlds.specs.Settled.{AreExact, IsSettled}
use Rattle.settled_worlds.proofs.ExactLemmas.{exact_on}
use Rattle.guard_encode.specs.Encoding.{AreEncoded, Encoding, Keeps, Made, Tells, encoding_of, unbounded_of, worlds_of}
use Rattle.guard_encode.proofs.Telling.{exact_tells, truths_stay, refs_stay}
use Rattle.guard_encode.proofs.EncoderLemmas.{active_stay, all_truths}

pub phrases_stay : (old new : Diagram) (k : KeyedWorlds) (g : Grounded) (n : ℕ) (diagrams : List ℕ) → arena.Keeps old new → ArePhrases old k g n diagrams → ArePhrases new k g n diagrams
phrases_stay old new k g n diagrams keeps are = record {
  many = are.many;
  refs = refs_stay old new diagrams keeps are.refs;
  truths = λ v lawful. truths_stay old new diagrams v keeps are.refs ∙ are.truths v lawful;
}

-- the parts of an encoder whose arena has grown, with these exact diagrams
pub settled_stay : (m : GroundMachine) (k : KeyedWorlds) (old new : Diagram) (made : Made) (exact : List (Option ℕ)) → arena.Keeps old new → AreExact new k exact → AreEncoded m k old made
    → AreEncoded m k new (record made { exact = exact })
settled_stay m k old new made exact keeps are_exact are = record {
  same = are.same;
  stored = record {
    levels = are.stored.levels;
    same_levels = keeps.same_levels ∙ are.stored.same_levels;
    first = are.stored.first;
    active_are = active_stay old new (unbounded_of (encoding_of m k old)) made.active keeps are.stored.active_are;
    phrases_are = phrases_stay old new (unbounded_of (encoding_of m k old)) m.base (length m.base.phrases) made.phrases keeps are.stored.phrases_are;
    exact_are = subst (λ (g : Grounded). AreExact new (record k { base = g }) exact) are.same are_exact;
  };
}

-- the exact diagrams of its own levels
pub own_exact : (m : GroundMachine) (k : KeyedWorlds) (d : Diagram) (made : Made) → AreEncoded m k d made → AreExact d k made.exact
own_exact m k d made are = subst (λ (g : Grounded). AreExact d (record k { base = g }) made.exact) (sym are.same) are.stored.exact_are

-- what is settled over its own levels
pub own_settled : (m : GroundMachine) (k : KeyedWorlds) (d new : Diagram) (made : Made) (f r : ℕ) → AreEncoded m k d made → IsSettled d new k f r → IsSettled d new (worlds_of (encoding_of m k d)) f r
own_settled m k d new made f r are settled = subst (λ (g : Grounded). IsSettled d new (record k { base = g }) f r) are.same settled

-- the parts of an encoder whose arena has grown
pub encoded_stay : (m : GroundMachine) (k : KeyedWorlds) (old new : Diagram) (made : Made) → arena.Keeps old new → AreEncoded m k old made → AreEncoded m k new made
encoded_stay m k old new made keeps are = settled_stay m k old new made made.exact keeps (exact_on old new k made.exact keeps (own_exact m k old made are)) are

-- functions of functions
pub not_tells : (m : GroundMachine) (k : KeyedWorlds) (old new : Diagram) (f r : ℕ) (truth : World → Bool) → Represents new (λ v. not (meaning old f v)) r
    → Tells (encoding_of m k old) truth f → Tells (encoding_of m k new) (λ w. not (truth w)) r
not_tells m k old new f r truth h told = record {
  is_ref = h.is_ref;
  means = λ v lawful. h.means v ∙ ap not (told.means v lawful);
}

pub and_tells : (m : GroundMachine) (k : KeyedWorlds) (old new : Diagram) (f g r : ℕ) (one other : World → Bool) → Represents new (λ v. meaning old f v && meaning old g v) r
    → Tells (encoding_of m k old) one f → Tells (encoding_of m k old) other g → Tells (encoding_of m k new) (λ w. one w && other w) r
and_tells m k old new f g r one other h a b = record {
  is_ref = h.is_ref;
  means = λ v lawful. h.means v ∙ (λ i. a.means v lawful i && b.means v lawful i);
}

pub or_tells : (m : GroundMachine) (k : KeyedWorlds) (old new : Diagram) (f g r : ℕ) (one other : World → Bool) → Represents new (λ v. meaning old f v || meaning old g v) r
    → Tells (encoding_of m k old) one f → Tells (encoding_of m k old) other g → Tells (encoding_of m k new) (λ w. one w || other w) r
or_tells m k old new f g r one other h a b = record {
  is_ref = h.is_ref;
  means = λ v lawful. h.means v ∙ (λ i. a.means v lawful i || b.means v lawful i);
}

pub ite_tells : (m : GroundMachine) (k : KeyedWorlds) (old new : Diagram) (f g h r : ℕ) (condition one other : World → Bool)
    → Represents new (λ v. if meaning old f v then meaning old g v else meaning old h v) r
    → Tells (encoding_of m k old) condition f → Tells (encoding_of m k old) one g → Tells (encoding_of m k old) other h
    → Tells (encoding_of m k new) (λ w. if condition w then one w else other w) r
ite_tells m k old new f g h r condition one other made a b c = record {
  is_ref = made.is_ref;
  means = λ v lawful. made.means v ∙ (λ i. if a.means v lawful i then b.means v lawful i else c.means v lawful i);
}

-- an exact diagram
pub exact_told : (m : GroundMachine) (k : KeyedWorlds) (levels : WorldLevels) (d : Diagram) (r : ℕ) (truth : World → Bool) → k.base ≡ m.base → levels.spec ≡ k.base.spec → levels.slots ≡ k.slots
    → exact.Tells d levels truth r → Tells (encoding_of m k d) truth r
exact_told m k levels d r truth same spec slots h = exact_tells d (worlds_of (encoding_of m k d)) levels truth r (spec ∙ ap (λ (g : Grounded). g.spec) same) slots h

-- a guard, by the diagrams of the phrases
pub guard_tells : (m : GroundMachine) (k : KeyedWorlds) (old new : Diagram) (made : Made) (diagrams : List ℕ) (guard : GroundGuard) (r : ℕ) → AreEncoded m k old made → diagrams ≡ made.phrases
    → Represents new (λ v. guard_truth (truths_at old diagrams v) guard) r → Tells (encoding_of m k new) (λ w. guard_truth (truths_in m.base w) guard) r
guard_tells m k old new made diagrams guard r are is h = record {
  is_ref = h.is_ref;
  means = λ v lawful.
      h.means v
      ∙ ap (λ ds. guard_truth (truths_at old ds v) guard) is
      ∙ ap (λ ts. guard_truth ts guard) (all_truths old (unbounded_of (encoding_of m k old)) m.base made.phrases are.stored.phrases_are v
      (lawful_before (unbounded_of (encoding_of m k old)) (worlds_of (encoding_of m k old)) are.stored.first v lawful));
}

-- what is equally true is told
pub told_as : (e : Encoding) (one other : World → Bool) (r : ℕ) → ((w : World) → one w ≡ other w) → Tells e one r → Tells e other r
told_as e one other r same told = record {
  is_ref = told.is_ref;
  means = λ v lawful. told.means v lawful ∙ same (world_at (worlds_of e) v);
}

-- what an encoder told it still tells
pub told_on : (old new : Encoding) (truth : World → Bool) (r : ℕ) → Keeps old new → Tells old truth r → Tells new truth r
told_on old new truth r keeps told =
    subst (λ (k : KeyedWorlds). keyed.Tells new.diagram k truth r) (λ i. record { base = (sym keeps.machine i).base; beside = sym keeps.beside i; slots = sym keeps.slots i; keyed = sym keeps.keyed i })
    (tells_on old.diagram new.diagram (worlds_of old) truth r keeps.diagram told)

-- one call after another
pub keeps_on : (a b c : Encoding) → Keeps a b → Keeps b c → Keeps a c
keeps_on a b c ab bc = record {
  machine = bc.machine ∙ ab.machine;
  beside = bc.beside ∙ ab.beside;
  slots = bc.slots ∙ ab.slots;
  keyed = bc.keyed ∙ ab.keyed;
  diagram = keeps_trans a.diagram b.diagram c.diagram ab.diagram bc.diagram;
}

-- some of a list, one more
pub some_told : (e : Encoding) (p : ℕ → World → Bool) (nodes : List ℕ) (n node r : ℕ) → n < length nodes → node ≡ get_or nodes n node
    → Tells e (λ w. list_any (λ k. p k w) (take n nodes) || p node w) r → Tells e (λ w. list_any (λ k. p k w) (take (n + 1) nodes)) r
some_told e p nodes n node r less item told = record {
  is_ref = told.is_ref;
  means = λ v lawful.
      told.means v lawful
      ∙ ap (λ k. list_any (λ j. p j (world_at (worlds_of e) v)) (take n nodes) || p k (world_at (worlds_of e) v)) item
      ∙ sym (list_any_more (λ j. p j (world_at (worlds_of e) v)) nodes n node less);
}
