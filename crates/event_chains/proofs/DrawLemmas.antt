-- A graph that is told all stands for the specification.
use Rattle.std.proofs.Common.{◌≡◌, ℕ, ◌<◌, ◌==◌, ◌&&◌, ◌||◌, List, [], ◌∷◌, map, length, ap, ◌∙◌, arith}
use Rattle.std.specs.List.{AllZip, list_any}
use Rattle.rsml_syntax.specs.declared.syntax.Spec.{Spec}
use Rattle.rsml_syntax.specs.limits.Checked.{IsChecked}
use Rattle.rsml_meaning.specs.Words.{Instance, Each}
use Rattle.rsml_meaning.specs.Instances.{states, events}
use Rattle.rsml_meaning.specs.Transitions.{TransitionInstance}
use Rattle.rsml_meaning.specs.Interfaces.{SendCaseInstance}
use Rattle.rsml_meaning.specs.Chains.{is_external}
use Rattle.rsml_ground.specs.declared.phrases.GroundPhrase.{GroundPhrase}
use Rattle.state_tree.proofs.Lists.{get_within}
use Rattle.ground_members.specs.Members.{IsEvent, TransitionIs, AreTransitions, SendCaseIs, AreSendCases}
use Rattle.ground_members.specs.declared.transitions.GroundTransition.{GroundTransition}
use Rattle.ground_members.specs.declared.send_cases.GroundSendCase.{GroundSendCase}
use Rattle.event_graph.specs.Graphs.{Graph, starts, meets, IsBare, IsGraph}
use Rattle.event_graph.specs.Graphs as graph
use Rattle.event_graph.specs.Sets.{has, has_at}
use Rattle.event_chains.specs.Draws.{Draws}
use Rattle.event_chains.specs.Reactions.{leads_by, source_of, send_of, AreBelow, reacts, reacts_on_line}
use Rattle.event_chains.proofs.MeetLemmas.{leads_are, lines_are, sends_are, state_within}

-- Numbers of events and of states are below their counts.

pub numbers_below : (s : Spec) (es : List Instance) (ns : List ℕ) → AllZip (IsEvent s) es ns → Each (λ n. n < length (events s)) ns
numbers_below s [] [] h = tt
numbers_below s [] (n ∷ ns) h = absurd h
numbers_below s (e ∷ es) [] h = absurd h
numbers_below s (e ∷ es) (n ∷ ns) h = (get_within (events s) n e h.0, numbers_below s es ns h.1)

module _ (ps : List GroundPhrase) (s : Spec) (n : ℕ) (is : n ≡ length (events s)) where
  below : (m : ℕ) → m < length (events s) → m < n
  below m l = omega (arith, l, is)

  each_below : (ns : List ℕ) → Each (λ m. m < length (events s)) ns → Each (λ m. m < n) ns
  each_below [] h = tt
  each_below (m ∷ ns) h = (below m h.0, each_below ns h.1)

  pub triggers_below : (ts : List TransitionInstance) (xs : List GroundTransition) → AllZip (TransitionIs ps s) ts xs → Each (λ x. x.event < n) xs
  triggers_below [] [] h = tt
  triggers_below [] (x ∷ xs) h = absurd h
  triggers_below (t ∷ ts) [] h = absurd h
  triggers_below (t ∷ ts) (x ∷ xs) h = (below x.event (get_within (events s) x.event t.event h.0.event), triggers_below ts xs h.1)

  pub raised_below : (ts : List TransitionInstance) (xs : List GroundTransition) → AllZip (TransitionIs ps s) ts xs → Each (λ x. Each (λ r. r < n) x.raises) xs
  raised_below [] [] h = tt
  raised_below [] (x ∷ xs) h = absurd h
  raised_below (t ∷ ts) [] h = absurd h
  raised_below (t ∷ ts) (x ∷ xs) h = (each_below x.raises (numbers_below s t.raises x.raises h.0.raises), raised_below ts xs h.1)

  pub sources_below : (ts : List TransitionInstance) (xs : List GroundTransition) → AllZip (TransitionIs ps s) ts xs → AreBelow (length (states s)) n (map source_of xs)
  sources_below [] [] h = tt
  sources_below [] (x ∷ xs) h = absurd h
  sources_below (t ∷ ts) [] h = absurd h
  sources_below (t ∷ ts) (x ∷ xs) h = ((state_within s x.source t.source h.0.source, below x.event (get_within (events s) x.event t.event h.0.event)), sources_below ts xs h.1)

  pub sends_below : (cs : List SendCaseInstance) (xs : List GroundSendCase) → AllZip (SendCaseIs ps s) cs xs → Each (λ r. r.event < n) (map send_of xs)
  sends_below [] [] h = tt
  sends_below [] (x ∷ xs) h = absurd h
  sends_below (c ∷ cs) [] h = absurd h
  sends_below (c ∷ cs) (x ∷ xs) h = (below x.event (get_within (events s) x.event c.event h.0.event), sends_below cs xs h.1)

-- The graph before and after each is told.
pub record Told (s : Spec) (ts : List GroundTransition) (cs : List GroundSendCase) (bare led begun lined sent : Graph) (n : ℕ) : Type 0 where
  pub none : IsBare bare n
  pub count : n ≡ length (events s)
  pub leads_told : (a b : ℕ) → graph.leads led a b ≡ (graph.leads bare a b || leads_by ts a b)
  pub led_count : led.count ≡ bare.count
  pub led_starts : led.begun ≡ bare.begun
  pub led_meets : led.pairs ≡ bare.pairs
  pub starts_told : (a : ℕ) (e : Instance) → IsEvent s e a → starts begun a ≡ (starts led a || is_external s e)
  pub begun_count : begun.count ≡ led.count
  pub begun_leads : begun.ways ≡ led.ways
  pub begun_meets : begun.pairs ≡ led.pairs
  pub lines_told : (a b : ℕ) → meets lined a b ≡ (meets begun a b || list_any (λ r. r.event == a && reacts_on_line s (map source_of ts) r.owner b) (map source_of ts))
  pub lined_count : lined.count ≡ begun.count
  pub lined_leads : lined.ways ≡ begun.ways
  pub lined_starts : lined.begun ≡ begun.begun
  pub sends_told : (a b : ℕ) → meets sent a b ≡ (meets lined a b || list_any (λ r. r.event == a && reacts (map send_of cs) r.owner b) (map send_of cs))
  pub sent_count : sent.count ≡ lined.count
  pub sent_leads : sent.ways ≡ lined.ways
  pub sent_starts : sent.begun ≡ lined.begun
  pub sent_graph : IsGraph sent

pub drawn : (ps qs : List GroundPhrase) (s : Spec) → IsChecked s → (ts : List GroundTransition) (cs : List GroundSendCase) → AreTransitions ps s ts → AreSendCases qs s cs
    → (bare led begun lined sent : Graph) (n : ℕ) → Told s ts cs bare led begun lined sent n → Draws s sent
drawn ps qs s checked ts cs are sends bare led begun lined sent n t = record {
  of_events = t.sent_graph;
  counted = t.sent_count ∙ t.lined_count ∙ t.begun_count ∙ t.led_count ∙ t.none.counted ∙ t.count;
  ways_are = λ a b e f k l.
      ap (λ ways. has_at ways a b) (t.sent_leads ∙ t.lined_leads ∙ t.begun_leads) ∙ t.leads_told a b
      ∙ ap (λ z. z || leads_by ts a b) (t.none.none_leads a b) ∙ leads_are ps s checked ts are a b e f k l;
  starts_are = λ a e k.
      ap (λ set. has set a) (t.sent_starts ∙ t.lined_starts) ∙ t.starts_told a e k
      ∙ ap (λ z. z || is_external s e) (ap (λ set. has set a) t.led_starts ∙ t.none.none_starts a);
  meetings_are = λ a b e f k l.
      t.sends_told a b
      ∙ (λ i. (t.lines_told a b
      ∙ (λ j. (ap (λ pairs. has_at pairs a b) (t.begun_meets ∙ t.led_meets) ∙ t.none.none_meet a b) j || lines_are ps s checked ts are a b e f k l j)) i
      || sends_are qs s checked cs sends a b e f k l i);
}
