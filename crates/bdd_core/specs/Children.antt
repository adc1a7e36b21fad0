-- Nodes that wait for the answers of their children: `Is d f r` says that r answers f, and `Open d f` that f may be asked by its children. No public clause speaks of this.
use Rattle.std.specs.Prelude.{◌≡◌, ◌≢◌, ℕ, ◌≤◌, Bool, ⊤, List, Option, Some, None}
use Rattle.bdd_core.specs.declared.frame.Frame.{Frame}
use Rattle.bdd_core.specs.Diagram.{Diagram, IsRef, node_at, level_of}
use Rattle.bdd_core.specs.Steps.{IsCut, IsWithout}
use Rattle.bdd_core.specs.Waiting.{Path}

-- the low child of f, and where that has its answer the high child
abbrev pub IsNextChild : (Diagram → ℕ → ℕ → Type 0) → Diagram → ℕ → Option ℕ → ℕ → Type 0
IsNextChild Is d f None child = (node_at d f).low ≡ child
IsNextChild Is d f (Some low) child = Is d (node_at d f).low low × ((node_at d f).high ≡ child)

-- the node waits for the answer of q
pub record AsksChild (Open : Diagram → ℕ → Type 0) (Is : Diagram → ℕ → ℕ → Type 0) (d : Diagram) (x : Frame) (q : ℕ × ℕ × ℕ) : Type 0 where
  pub f_ref : IsRef d x.f
  pub two : 2 ≤ x.f
  pub is_open : Open d x.f
  pub next : IsNextChild Is d x.f x.low q.0

-- the answer is the low child's, and where that has its answer the high child's
abbrev pub AreAnswers : (Diagram → ℕ → ℕ → Type 0) → Diagram → ℕ → Option ℕ → ℕ → Type 0
AreAnswers Is d f None answer = Is d (node_at d f).low answer
AreAnswers Is d f (Some low) answer = Is d (node_at d f).low low × Is d (node_at d f).high answer

-- the node has the answer that it waits for
pub record HasChild (Open : Diagram → ℕ → Type 0) (Is : Diagram → ℕ → ℕ → Type 0) (d : Diagram) (x : Frame) (answer : ℕ) : Type 0 where
  pub f_ref : IsRef d x.f
  pub two : 2 ≤ x.f
  pub is_open : Open d x.f
  pub answers : AreAnswers Is d x.f x.low answer

-- the last place that the first one leads to has this answer
pub record LeadsTo (Open : Diagram → ℕ → Type 0) (Is : Diagram → ℕ → ℕ → Type 0) (d : Diagram) (first : ℕ × ℕ × ℕ) (waiting : List Frame) (answer : ℕ) : Type 0 where
  pub last : ℕ × ℕ × ℕ
  pub path : Path (AsksChild Open Is d) first waiting last
  pub right : Is d last.0 answer

-- r is what is left of f without the levels
abbrev pub IsRest : List ℕ → Diagram → ℕ → ℕ → Type 0
IsRest levels d f r = IsWithout d f levels r

-- any node may
abbrev pub IsAny : Diagram → ℕ → Type 0
IsAny d f = ⊤

-- r is f where the level has the value
abbrev pub IsCutAt : ℕ → Bool → Diagram → ℕ → ℕ → Type 0
IsCutAt level value d f r = IsCut d f level value r

-- f has another level
abbrev pub IsApart : ℕ → Diagram → ℕ → Type 0
IsApart level d f = level_of d f ≢ level
