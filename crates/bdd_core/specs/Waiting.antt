-- Choices that wait for the answers of their children. No public clause speaks of this.
use Rattle.std.specs.Prelude.{◌≡◌, ℕ, zero, suc, ◌+◌, ◌*◌, ◌<◌, ◌≤◌, Bool, true, false, List, [], ◌∷◌, Option, Some, None}
use Rattle.std.specs.List.{sum_by}
use Rattle.bdd_core.specs.declared.frame.Frame.{Frame}
use Rattle.bdd_core.specs.Diagram.{Diagram, IsRef, level_of, meaning}
use Rattle.bdd_core.specs.Reach.{Reaches}
use Rattle.bdd_core.specs.Steps.{chosen, least_level, IsChoice}

-- what a frame asks
abbrev pub question : Frame → ℕ × ℕ × ℕ
question x = (x.f, x.g, x.h)

-- each frame asks what the one after it answers, from the first question to the last
abbrev pub Path : (Frame → ℕ × ℕ × ℕ → Type 0) → ℕ × ℕ × ℕ → List Frame → ℕ × ℕ × ℕ → Type 0
Path Asks first [] last = first ≡ last
Path Asks first (x ∷ xs) last = (question x ≡ first) × ((next : ℕ × ℕ × ℕ) × Asks x next × Path Asks next xs last)

-- q asks what f, g and h ask where their least level has a value
pub record IsPart (d : Diagram) (f g h : ℕ) (value : Bool) (q : ℕ × ℕ × ℕ) : Type 0 where
  pub f_ref : IsRef d q.0
  pub g_ref : IsRef d q.1
  pub h_ref : IsRef d q.2
  pub f_reached : Reaches d f q.0
  pub g_reached : Reaches d g q.1
  pub h_most : q.2 ≤ h
  pub level : least_level d f g h < least_level d q.0 q.1 q.2
  pub means : (values : ℕ → Bool) → values (least_level d f g h) ≡ value → chosen d q.0 q.1 q.2 values ≡ chosen d f g h values

-- r answers that
pub record IsHalf (d : Diagram) (f g h : ℕ) (value : Bool) (r : ℕ) : Type 0 where
  pub is_ref : IsRef d r
  pub level : least_level d f g h < level_of d r
  pub means : (values : ℕ → Bool) → values (least_level d f g h) ≡ value → meaning d r values ≡ chosen d f g h values

-- a choice of places, the first no constant
pub record IsOpen (d : Diagram) (x : Frame) : Type 0 where
  pub f_ref : IsRef d x.f
  pub g_ref : IsRef d x.g
  pub h_ref : IsRef d x.h
  pub two : 2 ≤ x.f

-- q is the low child, and where the low child has its answer the high child
abbrev pub IsNext : Diagram → Frame → Option ℕ → ℕ × ℕ × ℕ → Type 0
IsNext d x None q = IsPart d x.f x.g x.h false q
IsNext d x (Some low) q = IsHalf d x.f x.g x.h false low × IsPart d x.f x.g x.h true q

-- the choice waits for the answer of q
pub record AsksChoice (d : Diagram) (x : Frame) (q : ℕ × ℕ × ℕ) : Type 0 where
  pub is_open : IsOpen d x
  pub next : IsNext d x x.low q

-- the answer is the low child's, and where that has its answer the high child's
abbrev pub AreHalves : Diagram → Frame → Option ℕ → ℕ → Type 0
AreHalves d x None answer = IsHalf d x.f x.g x.h false answer
AreHalves d x (Some low) answer = IsHalf d x.f x.g x.h false low × IsHalf d x.f x.g x.h true answer

-- the choice has the answer that it waits for
pub record HasAnswer (d : Diagram) (x : Frame) (answer : ℕ) : Type 0 where
  pub is_open : IsOpen d x
  pub halves : AreHalves d x x.low answer

-- the last question that the first one leads to has this answer
pub record Leads (d : Diagram) (first : ℕ × ℕ × ℕ) (waiting : List Frame) (answer : ℕ) : Type 0 where
  pub last : ℕ × ℕ × ℕ
  pub path : Path (AsksChoice d) first waiting last
  pub right : IsChoice d last.0 last.1 last.2 answer

-- 4 to the power n
unfoldable pub fours : ℕ → ℕ
fours zero = 1
fours (suc n) = 4 * fours n

-- more than all that is asked for a frame
abbrev pub weight_by : ℕ → Option ℕ → ℕ
weight_by n None = fours n
weight_by n (Some low) = 1

abbrev pub weight : Frame → ℕ
weight x = weight_by (x.f + x.g + x.h) x.low

-- more than all that is asked before the first question has its answer
unfoldable pub work : List Frame → ℕ
work waiting = sum_by weight waiting
