-- What is told of a graph is what the specification says.
use Rattle.std.proofs.Common.{◌≡◌, ℕ, ◌<◌, ◌==◌, Bool, true, false, ◌&&◌, ◌||◌, List, [], ◌∷◌, map, length, Option, Some, None, slice_get, refl, sym, ap, ◌∙◌, true≢false}
use Rattle.std.specs.List.{list_any}
use Rattle.std.specs.Option.{option_map}
use Rattle.rsml_syntax.specs.declared.syntax.Spec.{Spec}
use Rattle.rsml_syntax.specs.limits.Checked.{IsChecked}
use Rattle.rsml_meaning.specs.Words.{Instance, Path, same_instance, has, on_one_line}
use Rattle.rsml_meaning.specs.Instances.{State, states}
use Rattle.rsml_meaning.specs.Transitions.{TransitionInstance, transitions, is_on}
use Rattle.rsml_meaning.specs.Interfaces.{SendCaseInstance, send_cases, is_case}
use Rattle.rsml_meaning.specs.Chains.{leads, meet_on_a_line, meet_in_a_send}
use Rattle.rsml_ground.specs.declared.phrases.GroundPhrase.{GroundPhrase}
use Rattle.state_tree.specs.Numbers.{path_of}
use Rattle.state_tree.proofs.Lists.{get_within, get_map}
use Rattle.state_tree.proofs.Walks.{path_is}
use Rattle.ground_members.specs.Members.{IsEvent, IsState, TransitionIs, AreTransitions, SendCaseIs, AreSendCases}
use Rattle.ground_members.specs.declared.transitions.GroundTransition.{GroundTransition}
use Rattle.ground_members.specs.declared.send_cases.GroundSendCase.{GroundSendCase}
use Rattle.event_chains.specs.Reactions.{leads_by, source_of, send_of, reacts, reacts_on_line}
use Rattle.event_chains.proofs.Numbers.{any_zip, same_event, event_same, same_send}

-- Lists.

any_map : {A B : Type 0} (f : A → B) (p : B → Bool) (xs : List A) → list_any p (map f xs) ≡ list_any (λ x. p (f x)) xs
any_map f p [] = refl
any_map f p (x ∷ xs) = ap (λ b. p (f x) || b) (any_map f p xs)

-- What leads.

pub leads_are : (ps : List GroundPhrase) (s : Spec) → IsChecked s → (xs : List GroundTransition) → AreTransitions ps s xs → (a b : ℕ) (e f : Instance) → IsEvent s e a → IsEvent s f b → leads_by xs a b ≡ leads s e f
leads_are ps s checked xs are a b e f k l =
    any_zip (TransitionIs ps s) (λ t. is_on e t && has t.raises f) (λ x. x.event == a && list_any (λ r. r == b) x.raises)
    (λ t x is i. same_event s checked x.event a t.event e is.event k i && any_zip (IsEvent s) (same_instance f) (λ r. r == b) (λ y r h. event_same s checked b r f y l h) t.raises x.raises is.raises i)
    (transitions s) xs are

-- Lines.

-- a state's number is below the count of states
pub state_within : (s : Spec) (k : ℕ) (p : Path) → IsState s p k → k < length (states s)
state_within s k p h = by (slice_get (states s) k) refl h
  where
    by : (o : Option State) → slice_get (states s) k ≡ o → option_map (λ (x : State). x.path) o ≡ Some p → k < length (states s)
    by (Some x) e q = get_within (states s) k x e
    by None e q = absurd (let no : ⊥ = cc in no)

state_path : (s : Spec) (k : ℕ) (p : Path) → IsState s p k → path_of s k ≡ p
state_path s k p h = path_is s k p (by (slice_get (states s) k) refl h)
  where
    by : (o : Option State) → slice_get (states s) k ≡ o → option_map (λ (x : State). x.path) o ≡ Some p → slice_get (map (λ (x : State). x.path) (states s)) k ≡ Some p
    by (Some x) e q = get_map (λ (x : State). x.path) (states s) k x e ∙ q
    by None e q = absurd (let no : ⊥ = cc in no)

pub lines_are : (ps : List GroundPhrase) (s : Spec) → IsChecked s → (xs : List GroundTransition) → AreTransitions ps s xs → (a b : ℕ) (e f : Instance) → IsEvent s e a → IsEvent s f b
    → list_any (λ r. r.event == a && reacts_on_line s (map source_of xs) r.owner b) (map source_of xs) ≡ meet_on_a_line s e f
lines_are ps s checked xs are a b e f k l =
    any_map source_of (λ r. r.event == a && reacts_on_line s (map source_of xs) r.owner b) xs
    ∙ any_zip (TransitionIs ps s) (λ t. is_on e t && list_any (λ u. is_on f u && on_one_line t.source u.source) (transitions s)) (λ x. x.event == a && reacts_on_line s (map source_of xs) x.source b)
    (λ t x is i. same_event s checked x.event a t.event e is.event k i && inner t x is i)
    (transitions s) xs are
  where
    turned : (p q u v : Bool) → p ≡ u → q ≡ v → (p && q) ≡ (v && u)
    turned true true u v g h = λ i. (h i) && (g i)
    turned true false u v g h = h ∙ false_first v u (sym h)
      where
        false_first : (v u : Bool) → v ≡ false → v ≡ (v && u)
        false_first true u z = absurd (true≢false z)
        false_first false u z = refl
    turned false q u v g h = g ∙ false_second v u (sym g)
      where
        false_second : (v u : Bool) → u ≡ false → u ≡ (v && u)
        false_second true u z = refl
        false_second false u z = z

    inner : (t : TransitionInstance) (x : GroundTransition) → TransitionIs ps s t x → reacts_on_line s (map source_of xs) x.source b ≡ list_any (λ u. is_on f u && on_one_line t.source u.source) (transitions s)
    inner t x is =
        any_map source_of (λ r. on_one_line (path_of s x.source) (path_of s r.owner) && r.event == b) xs
        ∙ any_zip (TransitionIs ps s) (λ u. is_on f u && on_one_line t.source u.source) (λ y. on_one_line (path_of s x.source) (path_of s y.source) && y.event == b)
        (λ u y are. turned (on_one_line (path_of s x.source) (path_of s y.source)) (y.event == b) (on_one_line t.source u.source) (is_on f u)
        (λ i. on_one_line (state_path s x.source t.source is.source i) (state_path s y.source u.source are.source i))
        (same_event s checked y.event b u.event f are.event l))
        (transitions s) xs are

-- Sends.

pub sends_are : (ps : List GroundPhrase) (s : Spec) → IsChecked s → (xs : List GroundSendCase) → AreSendCases ps s xs → (a b : ℕ) (e f : Instance) → IsEvent s e a → IsEvent s f b
    → list_any (λ r. r.event == a && reacts (map send_of xs) r.owner b) (map send_of xs) ≡ meet_in_a_send s e f
sends_are ps s checked xs are a b e f k l =
    any_map send_of (λ r. r.event == a && reacts (map send_of xs) r.owner b) xs
    ∙ any_zip (SendCaseIs ps s) (λ c. same_instance c.event e && list_any (is_case c.send f) (send_cases s)) (λ x. x.event == a && reacts (map send_of xs) x.send b)
    (λ c x is i. same_event s checked x.event a c.event e is.event k i && inner c x is i)
    (send_cases s) xs are
  where
    inner : (c : SendCaseInstance) (x : GroundSendCase) → SendCaseIs ps s c x → reacts (map send_of xs) x.send b ≡ list_any (is_case c.send f) (send_cases s)
    inner c x is =
        any_map send_of (λ r. r.owner == x.send && r.event == b) xs
        ∙ any_zip (SendCaseIs ps s) (is_case c.send f) (λ y. y.send == x.send && y.event == b)
        (λ u y other i. same_send s checked y.send x.send u.send c.send other.send is.send i && same_event s checked y.event b u.event f other.event l i)
        (send_cases s) xs are
