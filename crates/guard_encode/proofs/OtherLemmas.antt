-- What is told of another specification with the same worlds.
use Rattle.std.proofs.Common.{◌≡◌, ℕ, zero, suc, ◌<◌, Bool, false, ◌&&◌, List, [], ◌∷◌, length, Option, None, Some, refl, sym, ap, ◌∙◌, subst, slice_get, slice_index_or, arith}
use Rattle.std.specs.List.{All}
use Rattle.std.specs.Option.{option_map, option_map_or}
use Rattle.std.proofs.lemmas.List.{length-map}
use Rattle.std.proofs.lemmas.Option.{get_or_from_slice_get, same_Some, slice_get_within}
use Rattle.rsml_syntax.specs.declared.syntax.Spec.{Spec}
use Rattle.rsml_syntax.specs.declared.world.World.{World}
use Rattle.rsml_meaning.specs.Words.{Path}
use Rattle.rsml_meaning.specs.Active.{active}
use Rattle.rsml_meaning.specs.Instances.{states}
use Rattle.rsml_meaning.specs.Truth.{view}
use Rattle.rsml_meaning.specs.Groups as meaning_of
use Rattle.state_tree.proofs.Lists.{get_map, within_get}
use Rattle.rsml_ground.specs.declared.definitions.Definition.{Definition}
use Rattle.rsml_ground.specs.declared.definitions.Definition.TheVariants as definition
use Rattle.rsml_ground.specs.declared.definitions.GroundCase.{GroundCase}
use Rattle.rsml_ground.specs.declared.definitions.GroundGuard.{GroundGuard}
use Rattle.rsml_ground.specs.Rests.{DefinitionFits, GuardFits}
use Rattle.rsml_ground.specs.Truths.{Grounded, guard_truth, is_active, truths_in}
use Rattle.equal_frames.specs.Alike.{HaveSameWorlds}
use Rattle.ground_members.specs.declared.transitions.GroundTransition.{GroundTransition}
use Rattle.ground_members.specs.declared.send_cases.GroundSendCase.{GroundSendCase}
use Rattle.ground_groups.specs.declared.group.Member.{Member}
use Rattle.ground_groups.specs.declared.group.Member.TheVariants as members
use Rattle.ground_groups.specs.Groups.{MemberIs}
use Rattle.elaborate.specs.Machine.{GroundMachine, StandsFor}
use Rattle.elaborate.specs.Enabled.{enabled_at, is_enabled, is_true_case}
use Rattle.elaborate.specs.Laws.{MembersAreEnabledAsInTheText}
use Rattle.bdd_core.specs.Diagram.{Diagram, IsRef, meaning}
use Rattle.bdd_core.specs.Calls as arena
use Rattle.bdd_core.specs.Calls.{Represents}
use Rattle.phrase_diagrams.specs.Diagrams.{truths_at}
use Rattle.keyed_levels.specs.Keyed.{AreKeyed, KeyedWorlds, Lawful, world_at}
use Rattle.keyed_levels.specs.Laws.{EachWorldIsSpelledLawfully}
use Rattle.keyed_levels.proofs.Bounds.{lawful_before, tells_more}
use Rattle.rsml_meaning.specs.Worlds.{IsWorld}
use Rattle.guard_encode.specs.Phrases.{AreActive, ArePhrases}
use Rattle.guard_encode.specs.Encoding.{AreEncoded, Encoding, Keeps, Made, encoding_of, unbounded_of, worlds_of}
use Rattle.guard_encode.specs.Encoding.{Tells as EncodingTells}
use Rattle.guard_encode.specs.Others.{TellPhrases, case_guard, enabled_by}
use Rattle.guard_encode.proofs.NextLemmas.{same_active}
use Rattle.guard_encode.proofs.EncoderLemmas.{all_truths}
use Rattle.guard_encode.proofs.StepLemmas.{phrases_stay, told_as}
use Rattle.guard_encode.proofs.MemberLemmas.{source_there}

-- the diagrams of an encoder whose arena has grown
pub others_stay : (old new : Encoding) (g : Grounded) (diagrams : List ℕ) → Keeps old new → TellPhrases old g diagrams → TellPhrases new g diagrams
others_stay old new g diagrams keeps are =
    subst (λ (k : KeyedWorlds). ArePhrases new.diagram k g (length g.phrases) diagrams)
    (λ i. record { base = (sym keeps.machine i).base; beside = sym keeps.beside i; slots = sym keeps.slots i; keyed = sym keeps.keyed i })
    (phrases_stay old.diagram new.diagram (worlds_of old) g (length g.phrases) diagrams keeps.diagram are)

-- Parts of an encoder.

-- the diagrams of its states, also with bounds
pub active_now : (m : GroundMachine) (k : KeyedWorlds) (d : Diagram) (made : Made) → AreEncoded m k d made → AreActive d (worlds_of (encoding_of m k d)) made.active
active_now m k d made are =
    let e = encoding_of m k d in record {
      many = are.stored.active_are.many;
      each = λ node f at. tells_more d (unbounded_of e) (worlds_of e) (λ w. is_active m.base.spec w node) f are.stored.first (are.stored.active_are.each node f at);
    }

-- over its own levels
pub own_active : (m : GroundMachine) (k : KeyedWorlds) (d : Diagram) (made : Made) → AreEncoded m k d made → AreActive d k made.active
own_active m k d made are = subst (λ (g : Grounded). AreActive d (record k { base = g }) made.active) (sym are.same) (active_now m k d made are)

pub own_others : (m : GroundMachine) (k : KeyedWorlds) (d : Diagram) (g : Grounded) (diagrams : List ℕ) → k.base ≡ m.base → ArePhrases d k g (length g.phrases) diagrams → TellPhrases (encoding_of m k d) g diagrams
own_others m k d g diagrams same are = subst (λ (b : Grounded). ArePhrases d (record k { base = b }) g (length g.phrases) diagrams) same are

pub active_refs : (d : Diagram) (k : KeyedWorlds) (active : List ℕ) → AreActive d k active → All (IsRef d) active
active_refs d k active are = each active (λ node f at. (are.each node f at).is_ref)
  where
    each : (fs : List ℕ) → ((node f : ℕ) → slice_get fs node ≡ Some f → IsRef d f) → All (IsRef d) fs
    each [] refs j e less = absurd (omega (arith, less))
    each (f ∷ fs) refs zero e less = refs 0 f refl
    each (f ∷ fs) refs (suc j) e less = each fs (λ node. refs (suc node)) j e (omega (arith, less))

-- there are as many as states of the other specification
pub active_many : (d : Diagram) (k : KeyedWorlds) (t : Spec) (active : List ℕ) → HaveSameWorlds k.base.spec t → AreActive d k active → length active ≡ length (states t)
active_many d k t active same are =
    omega (arith, are.many, length-map (states k.base.spec) (λ x. x.path), length-map (states t) (λ x. x.path), ap (λ (ps : List Path). length ps) same.paths)

-- the diagrams of its own phrases, also with bounds
pub phrases_now : (m : GroundMachine) (k : KeyedWorlds) (d : Diagram) (made : Made) → AreEncoded m k d made → TellPhrases (encoding_of m k d) m.base made.phrases
phrases_now m k d made are = record {
  many = are.stored.phrases_are.many;
  refs = are.stored.phrases_are.refs;
  truths = λ v lawful. are.stored.phrases_are.truths v (lawful_before (unbounded_of (encoding_of m k d)) (worlds_of (encoding_of m k d)) are.stored.first v lawful);
}

-- Members.

as_shown : (d : Diagram) (r : ℕ) (f g : (ℕ → Bool) → Bool) → ((v : ℕ → Bool) → f v ≡ g v) → Represents d f r → Represents d g r
as_shown d r f g same h = record { is_ref = h.is_ref; means = λ v. h.means v ∙ same v }

pub transition_shown : (m : GroundMachine) (old mid new : Diagram) (active diagrams : List ℕ) (number source f g r : ℕ) (x : GroundTransition) (guard : GroundGuard) → slice_get m.transitions number ≡ Some x
    → source ≡ x.source → guard ≡ x.guard → slice_get active source ≡ Some f → All (IsRef old) active → arena.Keeps old mid → Represents mid (λ v. guard_truth (truths_at old diagrams v) guard) g
    → Represents new (λ v. meaning mid f v && meaning mid g v) r
    → Represents new (λ v. enabled_by m (truths_at old active v) (truths_at old diagrams v) (members.Transition number)) r
transition_shown m old mid new active diagrams number source f g r x guard at source_is guard_is here refs keeps told h =
    as_shown new r (λ v. meaning mid f v && meaning mid g v) (λ v. enabled_by m (truths_at old active v) (truths_at old diagrams v) (members.Transition number)) same h
  where
    less : source < length active
    less = slice_get_within active source f here

    is_ref : IsRef old f
    is_ref = subst (IsRef old) (get_or_from_slice_get active source f 0 here) (refs source 0 less)

    same : (v : ℕ → Bool) → (meaning mid f v && meaning mid g v) ≡ enabled_by m (truths_at old active v) (truths_at old diagrams v) (members.Transition number)
    same v =
        (λ i. (keeps.meanings_stay f v is_ref ∙ sym (get_or_from_slice_get (truths_at old active v) source (meaning old f v) false (get_map (λ j. meaning old j v) active source f here))) i && told.means v i)
        ∙ (λ i. slice_index_or (truths_at old active v) (source_is i) false && guard_truth (truths_at old diagrams v) (guard_is i))
        ∙ ap (λ (o : Option GroundTransition). option_map_or (λ y. slice_index_or (truths_at old active v) y.source false && guard_truth (truths_at old diagrams v) y.guard) o false) (sym at)

pub sending_shown : (m : GroundMachine) (old new : Diagram) (active diagrams : List ℕ) (number r : ℕ) (member : Member) (x : GroundSendCase) (guard : GroundGuard) → member ≡ members.SendCase number
    → slice_get m.send_cases number ≡ Some x → guard ≡ x.guard → Represents new (λ v. guard_truth (truths_at old diagrams v) guard) r
    → Represents new (λ v. enabled_by m (truths_at old active v) (truths_at old diagrams v) member) r
sending_shown m old new active diagrams number r member x guard is at guard_is h =
    as_shown new r (λ v. guard_truth (truths_at old diagrams v) guard) (λ v. enabled_by m (truths_at old active v) (truths_at old diagrams v) member)
    (λ v. ap (guard_truth (truths_at old diagrams v)) guard_is
    ∙ ap (λ (o : Option GroundSendCase). option_map_or (λ y. guard_truth (truths_at old diagrams v) y.guard) o false) (sym at)
    ∙ ap (λ (y : Member). enabled_by m (truths_at old active v) (truths_at old diagrams v) y) (sym is)) h

-- the guard of a case rests on phrases that there are
pub case_fits : (m : GroundMachine) (function place : ℕ) (guard : GroundGuard) → StandsFor m → case_guard (slice_get m.base.definitions function) place ≡ Some guard → GuardFits (length m.base.phrases) guard
case_fits m function place guard stands is = by (slice_get m.base.definitions function) refl is
  where
    at : (cases : List GroundCase) (n cells place : ℕ) → DefinitionFits cells n (definition.Function cases) → option_map (λ c. c.guard) (slice_get cases place) ≡ Some guard → GuardFits n guard
    at [] n cells place fits h = absurd (let no : ⊥ = cc in no)
    at (c ∷ cs) n cells zero fits h = subst (GuardFits n) (same_Some c.guard guard h) fits.0.guard
    at (c ∷ cs) n cells (suc place) fits h = at cs n cells place fits.1 h

    by : (o : Option Definition) → slice_get m.base.definitions function ≡ o → case_guard o place ≡ Some guard → GuardFits (length m.base.phrases) guard
    by None e h = absurd (let no : ⊥ = cc in no)
    by (Some (definition.Macro table)) e h = absurd (let no : ⊥ = cc in no)
    by (Some (definition.Function cases)) e h = at cases (length m.base.phrases) _ place (stands.grounded.rest.definition function (definition.Function cases) e) h

-- By the text.

active_index : (d : Diagram) (k : KeyedWorlds) (active : List ℕ) (node : ℕ) (v : ℕ → Bool) → AreActive d k active → node < length active → Lawful k v
    → slice_index_or (truths_at d active v) node false ≡ is_active k.base.spec (world_at k v) node
active_index d k active node v are less lawful =
    let f = within_get active node less in
    get_or_from_slice_get (truths_at d active v) node (meaning d f.0 v) false (get_map (λ j. meaning d j v) active node f.0 f.1)
    ∙ (are.each node f.0 f.1).means v lawful

case_alike : (m : GroundMachine) (w : World) (o : Option Definition) (place : ℕ) → option_map_or (guard_truth (truths_in m.base w)) (case_guard o place) false ≡ is_true_case m w o place
case_alike m w None place = refl
case_alike m w (Some (definition.Macro table)) place = refl
case_alike m w (Some (definition.Function cases)) place = by (slice_get cases place)
  where
    by : (c : Option GroundCase) → option_map_or (guard_truth (truths_in m.base w)) (option_map (λ x. x.guard) c) false ≡ option_map_or (λ x. guard_truth (truths_in m.base w) x.guard) c false
    by None = refl
    by (Some x) = refl

-- what is enabled by diagrams at lawful values is enabled in the world that is spelled
pub enabled_alike : (d : Diagram) (k : KeyedWorlds) (m : GroundMachine) (active diagrams : List ℕ) (x : Member) → HaveSameWorlds k.base.spec m.base.spec → AreActive d k active
    → ArePhrases d k m.base (length m.base.phrases) diagrams → StandsFor m → (v : ℕ → Bool) → Lawful k v → enabled_by m (truths_at d active v) (truths_at d diagrams v) x ≡ enabled_at m (world_at k v) x
enabled_alike d k m active diagrams (members.Transition number) same are phrases_are stands v lawful =
    ap (λ ts. option_map_or (λ x. slice_index_or (truths_at d active v) x.source false && guard_truth ts x.guard) (slice_get m.transitions number) false) (all_truths d k m.base diagrams phrases_are v lawful)
    ∙ by (slice_get m.transitions number) refl
  where
    w : World
    w = world_at k v

    source : (x : GroundTransition) → slice_get m.transitions number ≡ Some x → slice_index_or (truths_at d active v) x.source false ≡ is_active m.base.spec w x.source
    source x at =
        let there = source_there m number x stands at in
        active_index d k active x.source v are (omega (arith, there, active_many d k m.base.spec active same are)) lawful
        ∙ same_active k.base.spec m.base.spec w x.source same

    by : (o : Option GroundTransition) → slice_get m.transitions number ≡ o
        → option_map_or (λ x. slice_index_or (truths_at d active v) x.source false && guard_truth (truths_in m.base w) x.guard) o false ≡ option_map_or (is_enabled m w) o false
    by None e = refl
    by (Some x) e = ap (λ b. b && guard_truth (truths_in m.base w) x.guard) (source x e)
enabled_alike d k m active diagrams (members.SendCase number) same are phrases_are stands v lawful =
    ap (λ ts. option_map_or (λ x. guard_truth ts x.guard) (slice_get m.send_cases number) false) (all_truths d k m.base diagrams phrases_are v lawful)
enabled_alike d k m active diagrams (members.FunctionCase function place) same are phrases_are stands v lawful =
    ap (λ ts. option_map_or (guard_truth ts) (case_guard (slice_get m.base.definitions function) place) false) (all_truths d k m.base diagrams phrases_are v lawful)
    ∙ case_alike m (world_at k v) (slice_get m.base.definitions function) place

-- so it is told where the member is enabled
pub member_told : (own : GroundMachine) (k : KeyedWorlds) (old new : Diagram) (made : Made) (m : GroundMachine) (active diagrams : List ℕ) (x : Member) (r : ℕ) → AreEncoded own k old made → active ≡ made.active
    → HaveSameWorlds own.base.spec m.base.spec → TellPhrases (encoding_of own k old) m.base diagrams → StandsFor m → Represents new (λ v. enabled_by m (truths_at old active v) (truths_at old diagrams v) x) r
    → EncodingTells (encoding_of own k new) (λ w. enabled_at m w x) r
member_told own k old new made m active diagrams x r are is same phrases_are stands h = record {
  is_ref = h.is_ref;
  means = λ v lawful.
      h.means v
      ∙ ap (λ fs. enabled_by m (truths_at old fs v) (truths_at old diagrams v) x) is
      ∙ enabled_alike old (worlds_of (encoding_of own k old)) m made.active diagrams x same (active_now own k old made are) phrases_are stands v lawful;
}

-- by the text
pub text_told : MembersAreEnabledAsInTheText → (e : Encoding) (m : GroundMachine) (x : Member) (r : ℕ) → StandsFor m → EncodingTells e (λ w. enabled_at m w x) r
    → (member : meaning_of.Member) → MemberIs m.base.spec member x → EncodingTells e (λ w. meaning_of.enabled (view m.base.spec w) member) r
text_told law e m x r stands told member is =
    told_as e (λ w. enabled_at m w x) (λ w. meaning_of.enabled (view m.base.spec w) member) r (λ w. law m w stands member x is) told

-- what one handle tells is one in each world
pub told_alike : EachWorldIsSpelledLawfully → (e : Encoding) (one other : World → Bool) (f g : ℕ) → AreKeyed (worlds_of e) → f ≡ g → EncodingTells e one f → EncodingTells e other g
    → (w : World) → IsWorld e.machine.base.spec w → one w ≡ other w
told_alike each e one other f g keyed same a b w is =
    let s = each (worlds_of e) keyed w is in
    ap one (sym s.spells)
    ∙ sym (a.means s.values s.lawful)
    ∙ ap (λ r. meaning e.diagram r s.values) same
    ∙ b.means s.values s.lawful
    ∙ ap other s.spells
