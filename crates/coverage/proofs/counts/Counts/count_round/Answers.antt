use Rattle.std.proofs.Common.{◌≡◌, ◌<◌, ◌^◌, ◌&&◌, ℕ, List, [], ◌∷◌, ◌++◌, map, length, Option, Some, slice_get, sym, ap, ◌∙◌, subst, arith}
use Rattle.std.specs.List.{AllZip}
use Rattle.std.specs.Option.{option_map_or}
use Rattle.std.proofs.lemmas.List.{with_items_is}
use Rattle.rsml_syntax.specs.declared.syntax.Spec.{Spec}
use Rattle.rsml_syntax.specs.declared.world.World.{World}
use Rattle.rsml_meaning.specs.Words.{Each, has}
use Rattle.rsml_meaning.specs.Truth.{view, within}
use Rattle.rsml_meaning.specs.Transitions.{TransitionInstance, transitions, is_enabled}
use Rattle.rsml_meaning.specs.Interfaces.{SendCaseInstance, send_cases, is_sending}
use Rattle.ground_groups.specs.declared.group.Member.TheVariants as members
use Rattle.micro_step.specs.Places.{places_where}
use Rattle.micro_step.specs.Rows.{bits_of, guard_rows, member_rows}
use Rattle.simulator.specs.Simulation.{Simulation}
use Rattle.coverage.specs.declared.counter.Counter.{Counter}
use Rattle.coverage.specs.Coverage.{Coverage, of_transition, of_case, coverage}
use Rattle.coverage.specs.Counters.{IsOf}
use Rattle.coverage.specs.Rounds.{HasAllNumbers}
use Rattle.coverage.proofs.CountedLemmas.{all_ready, numbers_there, numbers_rise, still_all, round_tallies}
use Rattle.coverage.proofs.counts.Counts.count_round.Goals as goal

pub count_taken-requires-clause-ready : goal.count_taken-requires-clause-ready
count_taken-requires-clause-ready c =
    let s = c.self.inside.machine.now.base.spec in
    let few = subst (λ (v : Coverage). Each (λ c. c.count < 2 ^ 63) v.transitions) (sym c.self.view_is) c.requires.transitions in
    all_ready s of_transition (transitions s) c.self.inside.transitions.items c.as_mut_slice.result.now c.as_mut_slice.ensures.value c.self.invariant.0 few

pub count_taken-requires-clause-rising : goal.count_taken-requires-clause-rising
count_taken-requires-clause-rising c =
    let m = c.args.simulator.now in
    let s = c.self.inside.machine.now.base.spec in
    let numbers = subst (λ (v : Coverage). HasAllNumbers v.spec m.last) (sym c.self.view_is) c.requires.numbers in
    let all = numbers.all_taken in
    numbers_rise (λ t. has m.last.present t.event && is_enabled (view s m.last.world) t) (transitions s) m.last.taken all

pub count_taken-requires-clause-there : goal.count_taken-requires-clause-there
count_taken-requires-clause-there c =
    let m = c.args.simulator.now in
    let s = c.self.inside.machine.now.base.spec in
    let numbers = subst (λ (v : Coverage). HasAllNumbers v.spec m.last) (sym c.self.view_is) c.requires.numbers in
    let all = numbers.all_taken in
    numbers_there s of_transition (λ t. has m.last.present t.event && is_enabled (view s m.last.world) t) (transitions s) m.last.taken c.self.inside.transitions.items
    c.as_mut_slice.result.now all c.as_mut_slice.ensures.value c.self.invariant.0

pub count_sent-requires-clause-ready : goal.count_sent-requires-clause-ready
count_sent-requires-clause-ready c =
    let s = c.self.inside.machine.now.base.spec in
    let few = subst (λ (v : Coverage). Each (λ c. c.count < 2 ^ 63) v.send_cases) (sym c.self.view_is) c.requires.send_cases in
    all_ready s of_case (send_cases s) c.self.inside.send_cases.items c.as_mut_slice-2.result.now c.as_mut_slice-2.ensures.value c.self.invariant.1 few

pub count_sent-requires-clause-rising : goal.count_sent-requires-clause-rising
count_sent-requires-clause-rising c =
    let m = c.args.simulator.now in
    let s = c.self.inside.machine.now.base.spec in
    let numbers = subst (λ (v : Coverage). HasAllNumbers v.spec m.last) (sym c.self.view_is) c.requires.numbers in
    let all = numbers.all_sent in
    let same : c.count_taken.new.simulator.last.sent ≡ m.last.sent = ap (λ (z : Simulation). z.last.sent) c.count_taken.ensures.unchanged in
    let all = same ∙ all in
    numbers_rise (λ t. has m.last.present t.event && is_sending (view s m.last.world) t) (send_cases s) c.count_taken.new.simulator.last.sent all

pub count_sent-requires-clause-there : goal.count_sent-requires-clause-there
count_sent-requires-clause-there c =
    let m = c.args.simulator.now in
    let s = c.self.inside.machine.now.base.spec in
    let numbers = subst (λ (v : Coverage). HasAllNumbers v.spec m.last) (sym c.self.view_is) c.requires.numbers in
    let all = numbers.all_sent in
    let same : c.count_taken.new.simulator.last.sent ≡ m.last.sent = ap (λ (z : Simulation). z.last.sent) c.count_taken.ensures.unchanged in
    let all = same ∙ all in
    numbers_there s of_case (λ t. has m.last.present t.event && is_sending (view s m.last.world) t) (send_cases s) c.count_taken.new.simulator.last.sent c.self.inside.send_cases.items
    c.as_mut_slice-2.result.now all c.as_mut_slice-2.ensures.value c.self.invariant.1

pub invariant_of-self : goal.invariant_of-self
invariant_of-self c =
    let s = c.self.inside.machine.now.base.spec in
    let taken_seen = ap (λ (cs : List Counter). length cs) c.as_mut_slice.ensures.value in
    let taken_ok = c.self.inside.transitions.ok.0 in
    let taken_long : length c.count_taken.new.counters ≡ c.self.inside.transitions.len = omega (arith, c.count_taken.auto.counters, taken_seen, taken_ok) in
    let taken_are = with_items_is c.self.inside.transitions c.count_taken.new.counters taken_long in
    let sent_seen = ap (λ (cs : List Counter). length cs) c.as_mut_slice-2.ensures.value in
    let sent_ok = c.self.inside.send_cases.ok.0 in
    let sent_long : length c.count_sent.new.counters ≡ c.self.inside.send_cases.len = omega (arith, c.count_sent.auto.counters, sent_seen, sent_ok) in
    let sent_are = with_items_is c.self.inside.send_cases c.count_sent.new.counters sent_long in (
      subst (λ (cs : List Counter). AllZip (λ t k. IsOf t.guard k) (transitions s) cs) (sym taken_are)
          (still_all s of_transition (transitions s) c.args.simulator.now.last.taken (λ k. bits_of (member_rows c.args.simulator.now.spec c.args.simulator.now.last.world (members.Transition k))) c.self.inside.transitions.items c.as_mut_slice.result.now c.count_taken.new.counters
          c.as_mut_slice.ensures.value c.count_taken.ensures.counted c.self.invariant.0),
      subst (λ (cs : List Counter). AllZip (λ t k. IsOf t.guard k) (send_cases s) cs) (sym sent_are)
          (still_all s of_case (send_cases s) c.count_taken.new.simulator.last.sent (λ k. bits_of (member_rows c.count_taken.new.simulator.spec c.count_taken.new.simulator.last.world (members.SendCase k))) c.self.inside.send_cases.items c.as_mut_slice-2.result.now c.count_sent.new.counters
          c.as_mut_slice-2.ensures.value c.count_sent.ensures.counted c.self.invariant.1),
    )

pub returns-clause-counted : goal.returns-clause-counted
returns-clause-counted c rs r last e =
    let m = c.args.simulator.now in
    let s = c.self.inside.machine.now.base.spec in
    let numbers = subst (λ (v : Coverage). HasAllNumbers v.spec m.last) (sym c.self.view_is) c.requires.numbers in
    let before = subst (λ (v : Coverage). v ≡ coverage v.spec rs) (sym c.self.view_is) e in
    let spec : m.spec ≡ s = c.requires.same ∙ ap (λ (v : Coverage). v.spec) (sym c.self.view_is) in
    let unchanged = c.count_taken.ensures.unchanged in
    let taken_seen = ap (λ (cs : List Counter). length cs) c.as_mut_slice.ensures.value in
    let taken_ok = c.self.inside.transitions.ok.0 in
    let taken_long : length c.count_taken.new.counters ≡ c.self.inside.transitions.len = omega (arith, c.count_taken.auto.counters, taken_seen, taken_ok) in
    let taken_are = with_items_is c.self.inside.transitions c.count_taken.new.counters taken_long in
    let sent_seen = ap (λ (cs : List Counter). length cs) c.as_mut_slice-2.ensures.value in
    let sent_ok = c.self.inside.send_cases.ok.0 in
    let sent_long : length c.count_sent.new.counters ≡ c.self.inside.send_cases.len = omega (arith, c.count_sent.auto.counters, sent_seen, sent_ok) in
    let sent_are = with_items_is c.self.inside.send_cases c.count_sent.new.counters sent_long in
    let taken_numbers : c.args.simulator.now.last.taken ≡ places_where (λ t. has r.present t.event && is_enabled (view s r.world) t) 0 (transitions s) =
    numbers.all_taken ∙ (λ i. places_where (λ t. has (sym last.present i) t.event && is_enabled (view s (sym last.world i)) t) 0 (transitions s)) in
    let taken_rows : (q : ℕ) (t : TransitionInstance) → slice_get (transitions s) q ≡ Some t
    → bits_of (member_rows c.args.simulator.now.spec c.args.simulator.now.last.world (members.Transition q)) ≡ bits_of (guard_rows (view s r.world) (within t.this) t.guard) =
    λ q t at. ap (λ (z : Spec). bits_of (member_rows z m.last.world (members.Transition q))) spec
    ∙ ap (λ (w : World). bits_of (member_rows s w (members.Transition q))) (sym last.world)
    ∙ ap (λ (o : Option TransitionInstance). bits_of (option_map_or (λ t. guard_rows (view s r.world) (within t.this) t.guard) o [])) at in
    let taken_after = round_tallies s of_transition rs r (transitions s) c.args.simulator.now.last.taken (λ k. bits_of (member_rows c.args.simulator.now.spec c.args.simulator.now.last.world (members.Transition k))) c.self.inside.transitions.items c.as_mut_slice.result.now c.count_taken.new.counters
    c.as_mut_slice.ensures.value taken_numbers taken_rows c.count_taken.ensures.counted c.self.invariant.0 (ap (λ (v : Coverage). v.transitions) before) in
    let taken_tallies = ap (map (λ (k : Counter). k.tally)) taken_are ∙ taken_after in
    let sent_numbers : c.count_taken.new.simulator.last.sent ≡ places_where (λ t. has r.present t.event && is_sending (view s r.world) t) 0 (send_cases s) =
    ap (λ (z : Simulation). z.last.sent) unchanged ∙ numbers.all_sent ∙ (λ i. places_where (λ t. has (sym last.present i) t.event && is_sending (view s (sym last.world i)) t) 0 (send_cases s)) in
    let sent_rows : (q : ℕ) (t : SendCaseInstance) → slice_get (send_cases s) q ≡ Some t
    → bits_of (member_rows c.count_taken.new.simulator.spec c.count_taken.new.simulator.last.world (members.SendCase q)) ≡ bits_of (guard_rows (view s r.world) (within t.send.index) t.guard) =
    λ q t at. ap (λ (z : Simulation). bits_of (member_rows z.spec z.last.world (members.SendCase q))) unchanged ∙ ap (λ (z : Spec). bits_of (member_rows z m.last.world (members.SendCase q))) spec
    ∙ ap (λ (w : World). bits_of (member_rows s w (members.SendCase q))) (sym last.world)
    ∙ ap (λ (o : Option SendCaseInstance). bits_of (option_map_or (λ t. guard_rows (view s r.world) (within t.send.index) t.guard) o [])) at in
    let sent_after = round_tallies s of_case rs r (send_cases s) c.count_taken.new.simulator.last.sent (λ k. bits_of (member_rows c.count_taken.new.simulator.spec c.count_taken.new.simulator.last.world (members.SendCase k))) c.self.inside.send_cases.items c.as_mut_slice-2.result.now c.count_sent.new.counters
    c.as_mut_slice-2.ensures.value sent_numbers sent_rows c.count_sent.ensures.counted c.self.invariant.1 (ap (λ (v : Coverage). v.send_cases) before) in
    let sent_tallies = ap (map (λ (k : Counter). k.tally)) sent_are ∙ sent_after in
    let done : ◌≡◌ {A = Coverage} (record { spec = s; transitions = map (λ (k : Counter). k.tally) _; send_cases = map (λ (k : Counter). k.tally) _ }) (coverage s (rs ++ r ∷ [])) =
    λ i. record { spec = s; transitions = taken_tallies i; send_cases = sent_tallies i } in
    done ∙ ap (λ (v : Coverage). coverage v.spec (rs ++ r ∷ [])) c.self.view_is
