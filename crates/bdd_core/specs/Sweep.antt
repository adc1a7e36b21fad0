-- How far a sweep from a place down has come. No public clause speaks of this.
use Rattle.std.specs.Prelude.{◌≡◌, ℕ, ◌+◌, ◌<◌, ◌≤◌, Bool, true, false, List, length, slice_index_or, Contains, nat_eq}
use Rattle.std.specs.List.{IsDistinct}
use Rattle.bdd_core.specs.Diagram.{Diagram, node_at}
use Rattle.bdd_core.specs.Reach.{Reaches}

-- the places from `at` up have been counted where f reaches them, and their children below are marked
pub record Swept (d : Diagram) (f at : ℕ) (seen : List Bool) (count : ℕ) : Type 0 where
  pub places : List ℕ
  pub counted : length places ≡ count
  pub above : (k : ℕ) → at ≤ k → Reaches d f k → Contains places k
  pub only : (k : ℕ) → Contains places k → (at ≤ k) × Reaches d f k
  pub distinct : IsDistinct nat_eq places
  pub start : f < at → slice_index_or seen f false ≡ true
  pub lows : (p : ℕ) → at ≤ p → Reaches d f p → 2 ≤ p → (node_at d p).low < at
      → slice_index_or seen (node_at d p).low false ≡ true
  pub highs : (p : ℕ) → at ≤ p → Reaches d f p → 2 ≤ p → (node_at d p).high < at
      → slice_index_or seen (node_at d p).high false ≡ true
  pub marked : (k : ℕ) → slice_index_or seen k false ≡ true → (k < at) × Reaches d f k
  pub few : count + at ≤ f + 1
