-- In a certified specification a send instance that is asked has one enabled case.
use Rattle.std.proofs.Common.{◌≡◌, ℕ, Bool, true, false, not, ◌&&◌, List, ◌++◌, map, flat_map, filter, length, refl, sym, ap, ◌∙◌, subst}
use Rattle.std.specs.List.{list_any}
use Rattle.std.specs.Cmp.{first_so, second_so}
use Rattle.rsml_syntax.specs.declared.syntax.Spec.{Spec}
use Rattle.rsml_syntax.specs.declared.syntax.Decl.{Decl}
use Rattle.rsml_syntax.specs.declared.syntax.Decl.TheVariants as decl
use Rattle.rsml_syntax.specs.declared.world.World.{World}
use Rattle.rsml_syntax.specs.rules.Globals.{indices}
use Rattle.rsml_meaning.specs.Words.{Each, IsOne, Instance, at, same_instance, has, numbered}
use Rattle.rsml_meaning.specs.Instances.{State, states, events, globals_of}
use Rattle.rsml_meaning.specs.Worlds.{IsWorld}
use Rattle.rsml_meaning.specs.Truth.{View, view}
use Rattle.rsml_meaning.specs.Interfaces.{SendCaseInstance, new_send_case, send_cases_of, send_cases, sends_of, sends, functions, is_sending, is_case}
use Rattle.rsml_meaning.specs.Groups.{send, function, send_case, enabled, state_groups, send_groups, groups, enabled_count, Sound}
use Rattle.rsml_meaning.specs.Chains.{Ends, meet_on_a_line}
use Rattle.rsml_meaning.specs.Certified.{Certified}
use Rattle.rsml_meaning.proofs.Same.{instance_same, instance_itself}
use Rattle.rsml_meaning.specs.Scoped.{WellScoped, IsEvent}
use Rattle.rsml_meaning.specs.MicroSteps.{is_asked, enabled_cases}
use Rattle.rsml_meaning.proofs.Lists.{both, or_right, same_truth, each_flat_map, each_map, each_one, one_map, one_filter, one_front, one_back, one_flat_map, any_one, any_some, many_map, filter_twice, filter_same}
use Rattle.rsml_meaning.proofs.Lines.{present_ends}

-- the send instance of a case is one
abbrev IsOfSend : Spec → SendCaseInstance → Type 0
IsOfSend s c = IsOne c.send (sends s)

each_of_send : (s : Spec) → Each (IsOfSend s) (send_cases s)
each_of_send s = each_flat_map (IsOfSend s) (send_cases_of (globals_of s)) s.decls of_decl
  where
    of_decl : (d : Decl) → IsOne d s.decls → Each (IsOfSend s) (send_cases_of (globals_of s) d)
    of_decl (decl.Send name size fields cases) m =
        each_flat_map (IsOfSend s) (λ i. map (new_send_case (globals_of s) name fields i) (numbered cases)) (indices (globals_of s) size)
        (λ i k. each_map (IsOfSend s) (new_send_case (globals_of s) name fields i) (numbered cases)
        (λ c. one_flat_map (sends_of (globals_of s)) s.decls (decl.Send name size fields cases) (at name i) m (one_map (at name) (indices (globals_of s) size) i k)))
    of_decl _ m = tt

module _ (s : Spec) (w : World) (scoped : WellScoped s) (cert : Certified s) (is_world : IsWorld s w) where
  abbrev v : View
  v = view s w

  abbrev cs : List SendCaseInstance
  cs = send_cases s

  is_group : (c e : Instance) → IsOne c (sends s) → IsEvent s e → list_any (is_case c e) cs ≡ true → IsOne (send c e) (groups s)
  is_group c e m k h =
      one_back (send c e) (flat_map (λ (x : State). state_groups s x.path) (states s)) (flat_map (send_groups s) (sends s) ++ map function (functions s))
      (one_front (send c e) (flat_map (send_groups s) (sends s)) (map function (functions s))
      (one_flat_map (send_groups s) (sends s) c (send c e) m
      (one_map (send c) (filter (λ e. list_any (is_case c e) cs) (events s)) e (one_filter (λ e. list_any (is_case c e) cs) (events s) e k h))))

  -- exactly one case of a send instance is enabled on the event of a case of it
  one_of_event : (c e : Instance) → IsOne c (sends s) → IsEvent s e → list_any (is_case c e) cs ≡ true → enabled_count s (send c e) v ≡ 1
  one_of_event c e m k h = each_one (Sound s) (groups s) (send c e) cert.sound (is_group c e m k h) w is_world refl

  pub one_beside_case : (c : SendCaseInstance) → IsOne c cs → enabled_count s (send c.send c.event) v ≡ 1
  one_beside_case c m =
      one_of_event c.send c.event (each_one (IsOfSend s) cs c (each_of_send s) m) (each_one (λ (k : SendCaseInstance). IsEvent s k.event) cs c scoped.send_triggers m)
      (any_one (is_case c.send c.event) cs c m (both (same_instance c.send c.send) (same_instance c.event c.event) (instance_itself c.send) (instance_itself c.event)))

  module _ (x : Instance) (n : ℕ) (present : List Instance) (ends : Each (Ends s x n) present) (c : Instance) where
    abbrev asked : SendCaseInstance → Bool
    asked d = same_instance d.send c && has present d.event

    -- two cases of the send instance that are asked are asked by one event
    one_event : (d k : SendCaseInstance) → IsOne d cs → IsOne k cs → asked d ≡ true → asked k ≡ true → same_instance k.event d.event ≡ true
    one_event d k md mk hd hk = by_test (same_instance d.event k.event) refl
      where
        send_d : d.send ≡ c
        send_d = instance_same d.send c (first_so (same_instance d.send c) (has present d.event) hd)

        send_k : k.send ≡ c
        send_k = instance_same k.send c (first_so (same_instance k.send c) (has present k.event) hk)

        by_test : (b : Bool) → same_instance d.event k.event ≡ b → same_instance k.event d.event ≡ true
        by_test true e = subst (λ z. same_instance z d.event ≡ true) (instance_same d.event k.event e) (instance_itself d.event)
        by_test false e = absurd (cert.no_clash x n d.event k.event (record {
          differ = ap not e;
          one = present_ends s x n present ends d.event (second_so (same_instance d.send c) (has present d.event) hd);
          two = present_ends s x n present ends k.event (second_so (same_instance k.send c) (has present k.event) hk);
          together = or_right (meet_on_a_line s d.event k.event) (list_any (λ a. same_instance a.event d.event && list_any (is_case a.send k.event) cs) cs)
              (any_one (λ a. same_instance a.event d.event && list_any (is_case a.send k.event) cs) cs d md
              (both (same_instance d.event d.event) (list_any (is_case d.send k.event) cs) (instance_itself d.event)
              (any_one (is_case d.send k.event) cs k mk
              (both (same_instance k.send d.send) (same_instance k.event k.event)
              (subst (λ z. same_instance z d.send ≡ true) (send_d ∙ sym send_k) (instance_itself d.send)) (instance_itself k.event)))));
        }))

    abbrev counts : SendCaseInstance → Bool
    counts k = (has present k.event && is_sending v k) && same_instance k.send c

    abbrev member : SendCaseInstance → SendCaseInstance → Bool
    member d k = is_case c d.event k && is_sending v k

    counts_member : (d k : SendCaseInstance) → IsOne d cs → IsOne k cs → asked d ≡ true → counts k ≡ true → member d k ≡ true
    counts_member d k md mk hd h =
        let here = second_so (has present k.event && is_sending v k) (same_instance k.send c) h in
        let rest = first_so (has present k.event && is_sending v k) (same_instance k.send c) h in
        let asks = both (same_instance k.send c) (has present k.event) here (first_so (has present k.event) (is_sending v k) rest) in
        both (is_case c d.event k) (is_sending v k) (both (same_instance k.send c) (same_instance k.event d.event) here (one_event d k md mk hd asks)) (second_so (has present k.event) (is_sending v k) rest)

    member_counts : (d k : SendCaseInstance) → asked d ≡ true → member d k ≡ true → counts k ≡ true
    member_counts d k hd h =
        let of = first_so (is_case c d.event k) (is_sending v k) h in
        let is_event = instance_same k.event d.event (second_so (same_instance k.send c) (same_instance k.event d.event) of) in
        let on = subst (λ z. has present z ≡ true) (sym is_event) (second_so (same_instance d.send c) (has present d.event) hd) in
        both (has present k.event && is_sending v k) (same_instance k.send c)
        (both (has present k.event) (is_sending v k) on (second_so (is_case c d.event k) (is_sending v k) h))
        (first_so (same_instance k.send c) (same_instance k.event d.event) of)

    pub one_case : IsOne c (sends s) → is_asked s present c ≡ true → enabled_cases s w present c ≡ 1
    one_case m h =
        let a = any_some asked cs h in
        let d = a.0 in
        let e = d.event in
        let is_of = both (same_instance d.send c) (same_instance e e) (first_so (same_instance d.send c) (has present e) a.2) (instance_itself e) in
        let one = one_of_event c e m (each_one (λ (k : SendCaseInstance). IsEvent s k.event) cs d scoped.send_triggers a.1) (any_one (is_case c e) cs d a.1 is_of) in
        ap length (filter_twice (λ k. has present k.event && is_sending v k) (λ k. same_instance k.send c) cs)
        ∙ ap length (filter_same counts (member d) cs (λ k mk. same_truth (counts k) (member d k) (counts_member d k a.1 mk a.2) (member_counts d k a.2)))
        ∙ sym (ap length (filter_twice (is_case c e) (is_sending v) cs))
        ∙ sym (many_map send_case (enabled v) (filter (is_case c e) cs))
        ∙ one
