-- What always holds of an arena.
use Rattle.std.specs.Prelude.{◌^◌, ◌≤◌, ◌==◌, List, length, Contains}
use Rattle.bdd_core.specs.declared.computed.Kept.{Kept}
use Rattle.bdd_core.specs.Diagram.{Diagram, IsRef, IsReduced}
use Rattle.bdd_core.specs.Steps.{IsChoice, IsCut}

-- a kept choice is right
pub record IsRightChoice (d : Diagram) (kept : Kept) : Type 0 where
  pub f_ref : IsRef d kept.f
  pub g_ref : IsRef d kept.g
  pub h_ref : IsRef d kept.h
  pub right : IsChoice d kept.f kept.g kept.h kept.answer

-- a kept cut is right: f where the level g is true if h is 1, and else false
pub record IsRightCut (d : Diagram) (kept : Kept) : Type 0 where
  pub f_ref : IsRef d kept.f
  pub right : IsCut d kept.f kept.g (kept.h == 1) kept.answer

pub record ArenaHolds (d : Diagram) (choices cuts : List Kept) : Type 0 where
  pub is_reduced : IsReduced d
  pub small : length d.nodes ≤ 2 ^ 32
  pub choices_right : (kept : Kept) → Contains choices kept → IsRightChoice d kept
  pub cuts_right : (kept : Kept) → Contains cuts kept → IsRightCut d kept
