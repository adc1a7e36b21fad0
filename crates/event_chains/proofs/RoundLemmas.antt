-- Rounds of events and of their numbers.
use Rattle.std.proofs.Common.{◌≡◌, ℕ, ◌<◌, true, arith}
use Rattle.rsml_syntax.specs.declared.syntax.Spec.{Spec}
use Rattle.rsml_syntax.specs.limits.Checked.{IsChecked}
use Rattle.rsml_meaning.specs.Words.{Instance}
use Rattle.rsml_meaning.specs.Instances.{events}
use Rattle.rsml_meaning.specs.Chains.{is_external}
use Rattle.state_tree.proofs.Lists.{within_get}
use Rattle.ground_members.specs.Members.{IsEvent}
use Rattle.event_graph.specs.declared.events.Events.{Events}
use Rattle.event_graph.specs.Sets.{has}
use Rattle.event_graph.specs.Graphs.{Graph}
use Rattle.event_graph.specs.Rounds as by_round
use Rattle.event_graph.proofs.ClashLemmas.{ends_below}
use Rattle.event_chains.specs.Draws.{Draws}
use Rattle.event_chains.specs.Rounds.{IsRound}
use Rattle.event_chains.proofs.ChainLemmas.{event_below, ends_there, ends_back}

module _ (s : Spec) (g : Graph) (checked : IsChecked s) (d : Draws s g) (a : ℕ) (x : Instance) (there : IsEvent s x a) (external : is_external s x ≡ true) where
  pub round_there : (ends : Events) (n : ℕ) → by_round.IsRound (record { graph = g; ends = ends }) a n → IsRound (record { spec = s; ends = ends }) x n
  round_there ends n is k e l = (
    λ h. ends_there s g checked d a k x e there l external n ((is k).0 h),
    λ h. (is k).1 (ends_back s g checked d a k x e there l n h),
  )

  pub round_back : (ends : Events) (n : ℕ) → ((k : ℕ) → has ends k ≡ true → k < g.count) → IsRound (record { spec = s; ends = ends }) x n → by_round.IsRound (record { graph = g; ends = ends }) a n
  round_back ends n within is k = (
    λ h. let e = event k (within k h) in ends_back s g checked d a k x e.0 there e.1 n ((is k e.0 e.1).0 h),
    λ h. let e = event k (ends_below g d.of_events a n k (event_below s g checked d a x there) h) in (is k e.0 e.1).1 (ends_there s g checked d a k x e.0 there e.1 external n h),
  )
    where
      event : (k : ℕ) → k < g.count → (e : Instance) × IsEvent s e k
      event k l = within_get (events s) k (omega (arith, l, d.counted))
