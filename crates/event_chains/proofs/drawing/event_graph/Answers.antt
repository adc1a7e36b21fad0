use Rattle.std.proofs.Common.{◌≡◌, ℕ, ◌<◌, ◌==◌, ◌&&◌, ◌||◌, List, map, length, sym, ◌∙◌, subst}
use Rattle.std.specs.List.{list_any}
use Rattle.rsml_syntax.specs.declared.syntax.Spec.{Spec}
use Rattle.rsml_meaning.specs.Words.{Instance, Each}
use Rattle.rsml_meaning.specs.Instances.{states}
use Rattle.rsml_meaning.specs.Transitions.{transitions}
use Rattle.rsml_meaning.specs.Interfaces.{send_cases}
use Rattle.rsml_meaning.specs.Chains.{is_external}
use Rattle.ground_members.specs.Members.{IsEvent}
use Rattle.event_graph.specs.Graphs.{starts, meets}
use Rattle.event_chains.specs.declared.reaction.Reaction.{Reaction}
use Rattle.event_chains.specs.Reactions.{source_of, AreBelow, reacts, reacts_on_line}
use Rattle.event_chains.proofs.DrawLemmas.{triggers_below, raised_below, sources_below, sends_below, drawn}
use Rattle.event_chains.proofs.drawing.event_graph.Goals as goal

pub tell_leads-requires-clause-events : goal.tell_leads-requires-clause-events
tell_leads-requires-clause-events c =
    triggers_below c.requires.transitions.0 c.args.checked.now c.in_ok-graph.graph.count (c.in_ok-graph.ensures.counted ∙ c.in_ok-count.ensures.count)
    (transitions c.args.checked.now) c.args.transitions.now c.requires.transitions.1

pub tell_leads-requires-clause-raises : goal.tell_leads-requires-clause-raises
tell_leads-requires-clause-raises c =
    raised_below c.requires.transitions.0 c.args.checked.now c.in_ok-graph.graph.count (c.in_ok-graph.ensures.counted ∙ c.in_ok-count.ensures.count)
    (transitions c.args.checked.now) c.args.transitions.now c.requires.transitions.1

pub meet_on_lines-requires : goal.meet_on_lines-requires
meet_on_lines-requires c =
    let n = c.tell_starts.new.graph.count in
    subst (λ (rs : List Reaction). AreBelow (length (states c.args.tree.now)) n rs) (sym (c.as_slice.ensures.value ∙ c.in_ok-sources.ensures))
    (subst (λ (z : Spec). AreBelow (length (states z)) n (map source_of c.args.transitions.now)) (sym c.requires.tree)
    (sources_below c.requires.transitions.0 c.args.checked.now n (c.tell_starts.ensures.count ∙ c.tell_leads.ensures.count ∙ c.in_ok-graph.ensures.counted ∙ c.in_ok-count.ensures.count)
    (transitions c.args.checked.now) c.args.transitions.now c.requires.transitions.1))

pub meet_in_sends-requires : goal.meet_in_sends-requires
meet_in_sends-requires c =
    let n = c.meet_on_lines.new.graph.count in
    subst (λ (rs : List Reaction). Each (λ r. r.event < n) rs) (sym (c.as_slice-2.ensures.value ∙ c.in_ok-sends.ensures))
    (sends_below c.requires.send_cases.0 c.args.checked.now n
    (c.meet_on_lines.ensures.count ∙ c.tell_starts.ensures.count ∙ c.tell_leads.ensures.count ∙ c.in_ok-graph.ensures.counted ∙ c.in_ok-count.ensures.count)
    (send_cases c.args.checked.now) c.args.send_cases.now c.requires.send_cases.1)

pub returns : goal.returns
returns c =
    let led = c.tell_leads.new.graph in
    let begun = c.tell_starts.new.graph in
    let lined = c.meet_on_lines.new.graph in
    let sent = c.meet_in_sends.new.graph in
    drawn c.requires.transitions.0 c.requires.send_cases.0 c.args.checked.now c.spec.ensures.checked c.args.transitions.now c.args.send_cases.now
    c.requires.transitions.1 c.requires.send_cases.1 c.in_ok-graph.graph led begun lined sent c.in_ok-count.count
    (record {
      none = c.in_ok-graph.ensures;
      count = c.in_ok-count.ensures.count;
      leads_told = c.tell_leads.ensures.leads;
      led_count = c.tell_leads.ensures.count;
      led_starts = c.tell_leads.ensures.starts;
      led_meets = c.tell_leads.ensures.meets;
      starts_told =
          subst (λ (z : Spec). (a : ℕ) (e : Instance) → IsEvent z e a → starts begun a ≡ (starts led a || is_external z e)) c.requires.interfaces c.tell_starts.ensures.starts;
      begun_count = c.tell_starts.ensures.count;
      begun_leads = c.tell_starts.ensures.leads;
      begun_meets = c.tell_starts.ensures.meets;
      lines_told =
          subst (λ (rs : List Reaction). (a b : ℕ) → meets lined a b ≡ (meets begun a b || list_any (λ r. r.event == a && reacts_on_line c.args.checked.now rs r.owner b) rs)) (c.as_slice.ensures.value ∙ c.in_ok-sources.ensures)
          (subst (λ (z : Spec). (a b : ℕ) → meets lined a b ≡ (meets begun a b || list_any (λ r. r.event == a && reacts_on_line z c.as_slice.result.now r.owner b) c.as_slice.result.now)) c.requires.tree c.in_ok-meet_on_lines.ensures.meets);
      lined_count = c.meet_on_lines.ensures.count;
      lined_leads = c.meet_on_lines.ensures.leads;
      lined_starts = c.meet_on_lines.ensures.starts;
      sends_told =
          subst (λ (rs : List Reaction). (a b : ℕ) → meets sent a b ≡ (meets lined a b || list_any (λ r. r.event == a && reacts rs r.owner b) rs)) (c.as_slice-2.ensures.value ∙ c.in_ok-sends.ensures) c.in_ok-meet_in_sends.ensures.meets;
      sent_count = c.meet_in_sends.ensures.count;
      sent_leads = c.meet_in_sends.ensures.leads;
      sent_starts = c.meet_in_sends.ensures.starts;
      sent_graph = c.count.ensures.graph;
    })
