-- A micro-step of one specification is one of another that is like it in this world, with the members of the other.
use Rattle.std.proofs.Common.{◌≡◌, ℕ, true, ◌&&◌, List, [], ◌∷◌, map, filter, filter_map, ℤ, refl, sym, ap, ◌∙◌, subst}
use Rattle.std.specs.List.{cons_option, list_any, AllZip}
use Rattle.rsml_syntax.specs.declared.syntax.Spec.{Spec}
use Rattle.rsml_syntax.specs.declared.world.World.{World}
use Rattle.rsml_meaning.specs.Words.{Instance, Each, IsOne, AllThree, has}
use Rattle.rsml_meaning.specs.Instances.{Component, new_component, components, events}
use Rattle.rsml_meaning.specs.Truth.{View, view, within}
use Rattle.rsml_meaning.specs.Transitions.{TransitionInstance, transitions, is_enabled}
use Rattle.rsml_meaning.specs.Interfaces.{SendCaseInstance, send_cases, is_sending}
use Rattle.rsml_meaning.specs.Steps.{Sent, AreValues, given_by, or_kept, outcomes, enabled_transitions, enabled_sends, Micro}
use Rattle.rsml_meaning.proofs.Lists.{each_filter, each_more}
use Rattle.spec_frames.specs.Frames.{open_transition}
use Rattle.equal_frames.specs.Alike.{opened_transition, opened_send_case}
use Rattle.equal_frames.proofs.Lists.{filter_zip, map_zip, any_map, three_map, three_of_map, three_more}

-- a component with `always` for the guards of its transitions
abbrev pub opened_component : Component → Component
opened_component c = new_component c.path c.default c.children c.buses (map open_transition c.transitions)

-- what is sent, with `always` for the guard of its case
abbrev pub opened_sent : Sent → Sent
opened_sent q = record { send_case = opened_send_case q.send_case; values = q.values }

-- the same transition but for its guard, which is enabled in both or in neither
abbrev pub LikeMove : View → View → TransitionInstance → TransitionInstance → Type 0
LikeMove u v a b = (opened_transition a ≡ opened_transition b) × (is_enabled u a ≡ is_enabled v b)

-- the same case but for its guard, which is true in both or in neither
abbrev pub LikeCase : View → View → SendCaseInstance → SendCaseInstance → Type 0
LikeCase u v a b = (opened_send_case a ≡ opened_send_case b) × (is_sending u a ≡ is_sending v b)

-- the values that the case gives in the one view are those in the other
abbrev pub GivesAlike : View → View → SendCaseInstance → Type 0
GivesAlike u v c = (ns : List ℤ) → AreValues u (within c.send.index) c.answer ns → AreValues v (within c.send.index) c.answer ns

-- What two specifications have in common in a world.
pub record AreLike (s t : Spec) (w : World) : Type 0 where
  pub parts : map opened_component (components s) ≡ map opened_component (components t)
  pub names : events s ≡ events t
  pub moves : AllZip (LikeMove (view s w) (view t w)) (transitions s) (transitions t)
  pub cases : AllZip (LikeCase (view s w) (view t w)) (send_cases s) (send_cases t)
  pub answers : Each (GivesAlike (view s w) (view t w)) (send_cases s)

-- Notions that are blind to guards.

given_blind : (taken : List TransitionInstance) (c : Component) → filter_map (given_by c) taken ≡ filter_map (given_by (opened_component c)) (map opened_transition taken)
given_blind [] c = refl
given_blind (t ∷ taken) c = ap (cons_option (given_by c t)) (given_blind taken c)

outcomes_blind : (taken : List TransitionInstance) (c : Component) (n : ℕ) → outcomes taken c n ≡ outcomes (map opened_transition taken) (opened_component c) n
outcomes_blind taken c n = ap (or_kept n) (given_blind taken c)

raised_blind : (es : List Instance) (taken : List TransitionInstance) → filter (λ e. list_any (λ t. has t.raises e) taken) es ≡ filter (λ e. list_any (λ t. has t.raises e) (map opened_transition taken)) es
raised_blind es taken = λ i. filter (λ e. sym (any_map opened_transition (λ t. has t.raises e) taken) i) es

abbrev OutcomesOf : List TransitionInstance → Component → ℕ → ℕ → Type 0
OutcomesOf taken c old new = IsOne new (outcomes taken c old)

children_opened : (taken : List TransitionInstance) (cs : List Component) (xs ys : List ℕ) → AllThree (OutcomesOf taken) cs xs ys → AllThree (OutcomesOf (map opened_transition taken)) (map opened_component cs) xs ys
children_opened taken cs xs ys h =
    three_map opened_component (OutcomesOf (map opened_transition taken)) cs xs ys
    (three_more (OutcomesOf taken) (λ c. OutcomesOf (map opened_transition taken) (opened_component c)) (λ c old new m. subst (IsOne new) (outcomes_blind taken c old) m) cs xs ys h)

children_back : (taken : List TransitionInstance) (cs : List Component) (xs ys : List ℕ) → AllThree (OutcomesOf (map opened_transition taken)) (map opened_component cs) xs ys → AllThree (OutcomesOf taken) cs xs ys
children_back taken cs xs ys h =
    three_more (λ c. OutcomesOf (map opened_transition taken) (opened_component c)) (OutcomesOf taken) (λ c old new m. subst (IsOne new) (sym (outcomes_blind taken c old)) m) cs xs ys
    (three_of_map opened_component (OutcomesOf (map opened_transition taken)) cs xs ys h)

-- What is sent.

module _ (u v : View) where
  abbrev Right : View → Sent → Type 0
  Right z q = AreValues z (within q.send_case.send.index) q.send_case.answer q.values

  abbrev case_of : Sent → SendCaseInstance
  case_of q = q.send_case

  -- What the other sends for what the one sends.
  record Moved (qs : List Sent) (cs : List SendCaseInstance) : Type 0 where
    sent : List Sent
    of : map case_of sent ≡ cs
    same : map opened_sent qs ≡ map opened_sent sent
    right : Each (Right v) sent

  moved : (qs : List Sent) (cs : List SendCaseInstance) → AllZip (LikeCase u v) (map case_of qs) cs → Each (GivesAlike u v) (map case_of qs) → Each (Right u) qs → Moved qs cs
  moved [] [] z g h = record { sent = []; of = refl; same = refl; right = tt }
  moved (q ∷ qs) (c ∷ cs) z g h =
      let r = moved qs cs z.1 g.1 h.1 in
      record {
        sent = record { send_case = c; values = q.values } ∷ r.sent;
        of = λ i. c ∷ r.of i;
        same = λ i. record { send_case = z.0.0 i; values = q.values } ∷ r.same i;
        right = (subst (λ (x : SendCaseInstance). AreValues v (within x.send.index) x.answer q.values) z.0.0 (g.0 q.values h.0), r.right);
      }
  moved [] (c ∷ cs) z g h = elim z [ ]
  moved (q ∷ qs) [] z g h = elim z [ ]

-- Micro-steps.

-- What the other takes and sends for what the one does.
pub record MovesTo (s t : Spec) (w : World) (present : List Instance) (taken : List TransitionInstance) (sent : List Sent) (w' : World) (raised : List Instance) : Type 0 where
  pub others : List TransitionInstance
  pub answers : List Sent
  pub same_taken : map opened_transition taken ≡ map opened_transition others
  pub same_sent : map opened_sent sent ≡ map opened_sent answers
  pub micro : Micro t w present others answers w' raised

pub micro_moves : (s t : Spec) (w : World) → AreLike s t w → (present : List Instance) (taken : List TransitionInstance) (sent : List Sent) (w' : World) (raised : List Instance)
    → Micro s w present taken sent w' raised → MovesTo s t w present taken sent w' raised
micro_moves s t w like present taken sent w' raised m =
    let u = view s w in
    let v = view t w in
    let others = enabled_transitions t v present in
    let cases = enabled_sends t v present in
    let moves = filter_zip (LikeMove u v) (λ a. has present a.event && is_enabled u a) (λ b. has present b.event && is_enabled v b)
    (λ a b h i. has present (h.0 i).event && h.1 i) (transitions s) (transitions t) like.moves in
    let sends = filter_zip (LikeCase u v) (λ a. has present a.event && is_sending u a) (λ b. has present b.event && is_sending v b)
    (λ a b h i. has present (h.0 i).event && h.1 i) (send_cases s) (send_cases t) like.cases in
    let same : map opened_transition taken ≡ map opened_transition others
    = ap (map opened_transition) m.all_taken ∙ map_zip (LikeMove u v) opened_transition opened_transition (λ a b h. h.0) (enabled_transitions s u present) others moves in
    let give : Each (GivesAlike u v) (enabled_sends s u present)
    = each_more (λ c. GivesAlike u v c × ((has present c.event && is_sending u c) ≡ true)) (GivesAlike u v) (λ c h. h.0) (enabled_sends s u present)
    (each_filter (GivesAlike u v) (λ c. has present c.event && is_sending u c) (send_cases s) like.answers) in
    let r = moved u v sent cases (subst (λ (cs : List SendCaseInstance). AllZip (LikeCase u v) cs cases) (sym m.all_sent) sends) (subst (Each (GivesAlike u v)) (sym m.all_sent) give) m.values in
    let open_children = children_opened taken (components s) w.choices w'.choices m.children in
    let at_other = subst (λ (ts : List TransitionInstance). AllThree (OutcomesOf ts) (map opened_component (components t)) w.choices w'.choices) same
    (subst (λ (cs : List Component). AllThree (OutcomesOf (map opened_transition taken)) cs w.choices w'.choices) like.parts open_children) in
    record {
      others = others;
      answers = r.sent;
      same_taken = same;
      same_sent = r.same;
      micro = record {
        all_taken = refl;
        all_sent = r.of;
        values = r.right;
        children = children_back others (components t) w.choices w'.choices at_other;
        numbers = m.numbers;
        all_raised = m.all_raised ∙ raised_blind (events s) taken ∙ (λ i. filter (λ e. list_any (λ t. has t.raises e) (same i)) (like.names i)) ∙ sym (raised_blind (events t) others);
      };
    }
