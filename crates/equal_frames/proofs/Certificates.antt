-- Where no member differs and the first specification is certified, so is the second.
use Rattle.std.proofs.Common.{◌≡◌, ℕ, suc, Bool, not, ◌&&◌, ◌||◌, List, [], ◌∷◌, ◌++◌, map, flat_map, filter, length, IsTrue, refl, sym, ap, ◌∙◌, subst}
use Rattle.std.specs.List.{list_any, AllZip}
use Rattle.rsml_syntax.specs.declared.syntax.Spec.{Spec}
use Rattle.rsml_syntax.specs.declared.world.World.{World}
use Rattle.rsml_syntax.specs.limits.Checked.{IsChecked}
use Rattle.rsml_meaning.specs.Words.{Instance, Path, Each, has, same_instance, on_one_line, is_prefix, is_proper_prefix}
use Rattle.rsml_meaning.specs.Instances.{State, states, events}
use Rattle.rsml_meaning.specs.Worlds.{IsWorld}
use Rattle.rsml_meaning.specs.Truth.{view, bare}
use Rattle.rsml_meaning.specs.Transitions.{TransitionInstance, transitions, is_on, is_from, is_enabled, line}
use Rattle.rsml_meaning.specs.Interfaces.{SendCaseInstance, send_cases, receives, sends, is_sending, is_case, FunctionInstance, functions}
use Rattle.rsml_meaning.specs.Groups.{Group, state, send, function, transition, send_case, case, enabled, state_groups, send_groups, reacts_inside, meets, Sound}
use Rattle.rsml_meaning.specs.Chains.{leads, linked, is_chain, begins_with, Loops, Ends, meet_on_a_line, meet_in_a_send, Clash}
use Rattle.rsml_meaning.specs.Certified.{Certified}
use Rattle.rsml_meaning.proofs.Lists.{each_append, each_flat_map, each_map, many_map}
use Rattle.rsml_meaning.specs.RunLaws.{LinesHaveOneRun}
use Rattle.rsml_meaning.proofs.Stable.{same_rest}
use Rattle.rsml_meaning.proofs.rules.Scoped.{rules_give_scopes}
use Rattle.rsml_meaning.specs.EventLines.{Bytes}
use Rattle.rsml_meaning.specs.EventFiles.{Line, Limits, sound_lines}
use Rattle.rsml_meaning.specs.Runs.{IsRun}
use Rattle.rsml_meaning.specs.Trace.{trace_text}
use Rattle.spec_frames.specs.Frames.{HaveSameFrame}
use Rattle.equal_frames.specs.Alike.{opened_transition, opened_send_case, AreTracedAlike}
use Rattle.equal_frames.specs.Differences.{NoDifference}
use Rattle.equal_frames.specs.Laws.{EqualGuardsTraceAlike}
use Rattle.equal_frames.proofs.Guards.{LikeCases, LikeFunction, transitions_open, send_cases_open, functions_open, moves_alike, cases_alike, all_functions_alike}
use Rattle.equal_frames.proofs.Lists.{filter_zip, any_map}
use Rattle.equal_frames.proofs.Members.{opened_function, events_framed, receives_framed, sends_framed}
use Rattle.equal_frames.proofs.Micro.{LikeMove, LikeCase}
use Rattle.equal_frames.proofs.Moves.{equal_guards_move_runs}
use Rattle.equal_frames.proofs.Reading.{first_fault_same, sound_lines_same}
use Rattle.equal_frames.proofs.Worlds.{zip_of_map, blanked_one, blanked_two, worlds_same}

-- Lists.

each_cut : {A : Type 0} (P : A → Type 0) (xs ys : List A) → Each P (xs ++ ys) → Each P xs × Each P ys
each_cut P [] ys h = (tt, h)
each_cut P (x ∷ xs) ys h = let r = each_cut P xs ys h.1 in ((h.0, r.0), r.1)

each_apply : {A : Type 0} (P Q : A → Type 0) (xs : List A) → Each (λ x. P x → Q x) xs → Each P xs → Each Q xs
each_apply P Q [] f h = tt
each_apply P Q (x ∷ xs) f h = (f.0 h.0, each_apply P Q xs f.1 h.1)

flat_paths : (f : Path → List Group) (xs : List State) → flat_map (λ x. f x.path) xs ≡ flat_map f (map (λ x. x.path) xs)
flat_paths f [] = refl
flat_paths f (x ∷ xs) = ap (λ gs. f x.path ++ gs) (flat_paths f xs)

zip_long : {A B : Type 0} (R : A → B → Type 0) (xs : List A) (ys : List B) → AllZip R xs ys → length xs ≡ length ys
zip_long R [] [] h = refl
zip_long R (x ∷ xs) (y ∷ ys) h = ap suc (zip_long R xs ys h.1)
zip_long R [] (y ∷ ys) h = elim h [ ]
zip_long R (x ∷ xs) [] h = elim h [ ]

as_many : {A B : Type 0} (R : A → B → Type 0) (p : A → Bool) (q : B → Bool) → ((x : A) (y : B) → R x y → p x ≡ q y) → (xs : List A) (ys : List B) → AllZip R xs ys → length (filter p xs) ≡ length (filter q ys)
as_many R p q f xs ys h = zip_long R (filter p xs) (filter q ys) (filter_zip R p q f xs ys h)

-- What is asked of two transitions or cases.

abbrev line_test : Instance → Instance → List TransitionInstance → Bool
line_test e f ts = list_any (λ t. is_on e t && list_any (λ u. is_on f u && on_one_line t.source u.source) ts) ts

line_blind : (e f : Instance) (ts : List TransitionInstance) → line_test e f (map opened_transition ts) ≡ line_test e f ts
line_blind e f ts =
    any_map opened_transition (λ t. is_on e t && list_any (λ u. is_on f u && on_one_line t.source u.source) (map opened_transition ts)) ts
    ∙ (λ i. list_any (λ t. is_on e t && any_map opened_transition (λ u. is_on f u && on_one_line t.source u.source) ts i) ts)

abbrev send_test : Instance → Instance → List SendCaseInstance → Bool
send_test e f cs = list_any (λ c. same_instance c.event e && list_any (is_case c.send f) cs) cs

send_blind : (e f : Instance) (cs : List SendCaseInstance) → send_test e f (map opened_send_case cs) ≡ send_test e f cs
send_blind e f cs =
    any_map opened_send_case (λ c. same_instance c.event e && list_any (is_case c.send f) (map opened_send_case cs)) cs
    ∙ (λ i. list_any (λ c. same_instance c.event e && any_map opened_send_case (is_case c.send f) cs i) cs)

module _ (s t : Spec) (one : IsChecked s) (two : IsChecked t) (same : HaveSameFrame s t) (none : NoDifference s t) where
  events_same : events s ≡ events t
  events_same = events_framed s (blanked_one s t one two same) ∙ ap events same.syntax ∙ sym (events_framed t (blanked_two s t one two same))

  receives_same : receives s ≡ receives t
  receives_same = receives_framed s (blanked_one s t one two same) ∙ ap receives same.syntax ∙ sym (receives_framed t (blanked_two s t one two same))

  sends_same : sends s ≡ sends t
  sends_same = sends_framed s (blanked_one s t one two same) ∙ ap sends same.syntax ∙ sym (sends_framed t (blanked_two s t one two same))

  any_move : (p : TransitionInstance → Bool) → list_any (λ x. p (opened_transition x)) (transitions s) ≡ list_any (λ x. p (opened_transition x)) (transitions t)
  any_move p = sym (any_map opened_transition p (transitions s)) ∙ ap (list_any p) (transitions_open s t one two same) ∙ any_map opened_transition p (transitions t)

  any_case : (p : SendCaseInstance → Bool) → list_any (λ x. p (opened_send_case x)) (send_cases s) ≡ list_any (λ x. p (opened_send_case x)) (send_cases t)
  any_case p = sym (any_map opened_send_case p (send_cases s)) ∙ ap (list_any p) (send_cases_open s t one two same) ∙ any_map opened_send_case p (send_cases t)

  -- Chains, loops and clashes.

  leads_same : (e f : Instance) → leads s e f ≡ leads t e f
  leads_same e f = any_move (λ x. is_on e x && has x.raises f)

  linked_same : (es : List Instance) → linked s es ≡ linked t es
  linked_same [] = refl
  linked_same (e ∷ []) = refl
  linked_same (e ∷ f ∷ es) = λ i. leads_same e f i && linked_same (f ∷ es) i

  chain_same : (es : List Instance) → is_chain s es ≡ is_chain t es
  chain_same [] = refl
  chain_same (e ∷ es) = λ i. list_any (λ r. same_instance r.raised e) (receives_same i) && linked_same (e ∷ es) i

  ends_back : (x : Instance) (n : ℕ) (e : Instance) → Ends t x n e → Ends s x n e
  ends_back x n e h = (h.0, subst (λ (b : Bool). IsTrue (b && begins_with x h.0)) (sym (chain_same h.0)) h.1, h.2, h.3)

  loops_back : (e : Instance) → Loops t e → Loops s e
  loops_back e h = (h.0, subst IsTrue (sym (chain_same h.0)) h.1, h.2)

  line_same : (e f : Instance) → meet_on_a_line s e f ≡ meet_on_a_line t e f
  line_same e f = sym (line_blind e f (transitions s)) ∙ ap (line_test e f) (transitions_open s t one two same) ∙ line_blind e f (transitions t)

  send_same : (e f : Instance) → meet_in_a_send s e f ≡ meet_in_a_send t e f
  send_same e f = sym (send_blind e f (send_cases s)) ∙ ap (send_test e f) (send_cases_open s t one two same) ∙ send_blind e f (send_cases t)

  clash_back : (x : Instance) (n : ℕ) (e f : Instance) → Clash t x n e f → Clash s x n e f
  clash_back x n e f h = record {
    differ = h.differ;
    one = ends_back x n e h.one;
    two = ends_back x n f h.two;
    together = subst IsTrue (λ i. sym (line_same e f) i || sym (send_same e f) i) h.together;
  }

  -- Groups.

  world_back : (w : World) → IsWorld t w → IsWorld s w
  world_back w i = subst IsTrue (sym ((worlds_same s t one two same).worlds w)) i

  active_same : (w : World) (path : Path) → (view s w).is_active path ≡ (view t w).is_active path
  active_same w path =
      ap (λ z. z.is_active path) (same_rest s.decls (bare s w)) ∙ (worlds_same s t one two same).active w path ∙ sym (ap (λ z. z.is_active path) (same_rest t.decls (bare t w)))

  reacts_same : (w : World) (path : Path) (e : Instance) → reacts_inside s (view s w) path e ≡ reacts_inside t (view t w) path e
  reacts_same w path e =
      (λ i. list_any (λ x. is_on e x && (is_proper_prefix path x.source && active_same w x.source i)) (transitions s))
      ∙ any_move (λ x. is_on e x && (is_proper_prefix path x.source && (view t w).is_active x.source))

  state_moves : (path : Path) (e : Instance) → Sound s (state path e) → Sound t (state path e)
  state_moves path e sound w i m =
      let j = world_back w i in
      let u = view s w in
      let v = view t w in
      let met : meets s u (state path e) ≡ meets t v (state path e) = λ k. active_same w path k && not (reacts_same w path e k) in
      let lines = filter_zip (LikeMove u v) (λ a. is_on e a && is_prefix a.source path) (λ b. is_on e b && is_prefix b.source path) (λ a b h k. is_on e (h.0 k) && is_prefix (h.0 k).source path)
      (transitions s) (transitions t) (moves_alike s t one two same w j none) in
      many_map transition (enabled v) (line t e path)
      ∙ sym (as_many (LikeMove u v) (is_enabled u) (is_enabled v) (λ a b h. h.1) (line s e path) (line t e path) lines)
      ∙ sym (many_map transition (enabled u) (line s e path))
      ∙ sound w j (subst IsTrue (sym met) m)

  send_moves : (x e : Instance) → Sound s (send x e) → Sound t (send x e)
  send_moves x e sound w i m =
      let j = world_back w i in
      let u = view s w in
      let v = view t w in
      let cases = filter_zip (LikeCase u v) (is_case x e) (is_case x e) (λ a b h k. is_case x e (h.0 k)) (send_cases s) (send_cases t) (cases_alike s t one two same w j none) in
      many_map send_case (enabled v) (filter (is_case x e) (send_cases t))
      ∙ sym (as_many (LikeCase u v) (is_sending u) (is_sending v) (λ a b h. h.1) (filter (is_case x e) (send_cases s)) (filter (is_case x e) (send_cases t)) cases)
      ∙ sym (many_map send_case (enabled u) (filter (is_case x e) (send_cases s)))
      ∙ sound w j refl

  functions_move : (fs gs : List FunctionInstance) → AllZip (λ f g. opened_function f ≡ opened_function g) fs gs → ((w : World) → IsWorld s w → AllZip (LikeFunction (view s w) (view t w)) fs gs)
      → Each (Sound s) (map function fs) → Each (Sound t) (map function gs)
  functions_move [] [] e z h = tt
  functions_move (f ∷ fs) (g ∷ gs) e z h = (head, functions_move fs gs e.1 (λ w i. (z w i).1) h.1)
    where
      head : Sound t (function g)
      head w i m =
          let j = world_back w i in
          let u = view s w in
          let v = view t w in
          many_map (case g.function) (enabled v) g.cases
          ∙ sym (as_many (LikeCases u v f.function g.function) (λ c. enabled u (case f.function c)) (λ c. enabled v (case g.function c)) (λ a b k. k.1) f.cases g.cases (z w j).0.1)
          ∙ sym (many_map (case f.function) (enabled u) f.cases)
          ∙ h.0 w j refl
  functions_move [] (g ∷ gs) e z h = elim e [ ]
  functions_move (f ∷ fs) [] e z h = elim e [ ]

  state_groups_same : (path : Path) → state_groups s path ≡ state_groups t path
  state_groups_same path = λ i. map (state path) (filter (λ e. any_move (is_from path e) i) (events_same i))

  send_groups_same : (x : Instance) → send_groups s x ≡ send_groups t x
  send_groups_same x = λ i. map (send x) (filter (λ e. any_case (is_case x e) i) (events_same i))

  abbrev of_states : Spec → List Group
  of_states z = flat_map (λ x. state_groups z x.path) (states z)

  states_same : of_states s ≡ of_states t
  states_same = flat_paths (state_groups s) (states s) ∙ (λ i. flat_map (λ path. state_groups_same path i) ((worlds_same s t one two same).paths i)) ∙ sym (flat_paths (state_groups t) (states t))

  abbrev of_sends : Spec → List Group
  of_sends z = flat_map (send_groups z) (sends z)

  sends_same_groups : of_sends s ≡ of_sends t
  sends_same_groups = λ i. flat_map (λ x. send_groups_same x i) (sends_same i)

  abbrev Moves : Group → Type 0
  Moves g = Sound s g → Sound t g

  pub certified : Certified s → Certified t
  certified c =
      let first = each_cut (Sound s) (of_states s) (of_sends s ++ map function (functions s)) c.sound in
      let second = each_cut (Sound s) (of_sends s) (map function (functions s)) first.1 in
      let in_states = each_apply (Sound s) (Sound t) (of_states s)
      (each_flat_map Moves (λ x. state_groups s x.path) (states s) (λ x m. each_map Moves (state x.path) (filter (λ e. list_any (is_from x.path e) (transitions s)) (events s)) (state_moves x.path))) first.0 in
      let in_sends = each_apply (Sound s) (Sound t) (of_sends s)
      (each_flat_map Moves (send_groups s) (sends s) (λ x m. each_map Moves (send x) (filter (λ e. list_any (is_case x e) (send_cases s)) (events s)) (send_moves x))) second.0 in
      let in_functions = functions_move (functions s) (functions t) (zip_of_map opened_function opened_function (functions s) (functions t) (functions_open s t one two same))
      (λ w i. all_functions_alike s t one two same w i none) second.1 in
      record {
        sound = each_append (Sound t) (of_states t) (of_sends t ++ map function (functions t)) (subst (Each (Sound t)) states_same in_states)
            (each_append (Sound t) (of_sends t) (map function (functions t)) (subst (Each (Sound t)) sends_same_groups in_sends) in_functions);
        no_loop = λ e h. c.no_loop e (loops_back e h);
        no_clash = λ x n e f h. c.no_clash x n e f (clash_back x n e f h);
      }

  traced : LinesHaveOneRun → Certified s → (limits : Limits) (content : Bytes) → AreTracedAlike s t limits content
  traced lines_have_one_run c limits content =
      let lines = sound_lines s limits content in
      let equal = sound_lines_same s t one two same limits content in
      let mine = lines_have_one_run s lines (rules_give_scopes s one.keeps.rules) c in
      let yours = lines_have_one_run t (sound_lines t limits content) (rules_give_scopes t two.keeps.rules) (certified c) in
      let like = equal_guards_move_runs s t one two same none lines mine.run mine.is_run in
      let only = yours.only like.run (subst (λ (ls : List Line). IsRun t ls like.run) equal like.is_run) in
      record {
        fault = first_fault_same s t one two same limits content;
        lines = equal;
        one = mine;
        other = yours;
        trace = like.trace ∙ ap (trace_text t) only;
        events = like.events ∙ ap length only;
      }

pub equal_guards_trace_alike : LinesHaveOneRun → EqualGuardsTraceAlike
equal_guards_trace_alike runs s t one two same c none = (certified s t one two same none c, λ limits content. traced s t one two same none runs c limits content)
