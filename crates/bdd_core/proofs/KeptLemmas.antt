-- What a computed table holds after it gained an answer, and that an arena holds with it.
use Rattle.std.proofs.Common.{◌≡◌, ℕ, ◌≤◌, List, ◌++◌, length, take, replicate, ◌⊎◌, inl, inr, refl, subst, sym, arith, Contains, eqb, Bool, true, false}
use mir.Val.{bool_byte}
use Rattle.std.proofs.lemmas.List.Elements.{All-append, All-take, All-weaker, All-contains_itself, All-replicate, All-contains}
use Rattle.bdd_core.specs.declared.computed.Kept.{Kept}
use Rattle.bdd_core.specs.Diagram.{Diagram, IsRef}
use Rattle.bdd_core.specs.Steps.{GainsOnly, blank, IsChoice, IsSameChoice, IsCut}
use Rattle.bdd_core.specs.Holds.{IsRightChoice, IsRightCut, ArenaHolds}
use Rattle.bdd_core.proofs.ChoiceLemmas.{choice-false, choice-to_same}
use Rattle.bdd_core.proofs.CutLemmas.{cut-constant}

-- an answer that was there, or the one gained
abbrev IsOldOr : List Kept → Kept → Kept → Type 0
IsOldOr old more kept = (Contains old kept) ⊎ (kept ≡ more)

-- after empty slots were put at the end
pub gains-resize : (old : List Kept) (n m : ℕ) → GainsOnly old (take n old ++ replicate m blank) blank
gains-resize old n m kept c =
    All-contains (IsOldOr old blank) (take n old ++ replicate m blank) kept
    (All-append (IsOldOr old blank) (take n old) (replicate m blank)
    (All-take (IsOldOr old blank) n old (All-weaker (Contains old) (IsOldOr old blank) (λ x c. inl c) old (All-contains_itself old)))
    (All-replicate (IsOldOr old blank) m blank (inr refl))) c

-- an answer that is there is gained again
pub gains-again : (old mid new : List Kept) (more : Kept) → GainsOnly old mid blank → GainsOnly mid new more → Contains mid more → GainsOnly old new blank
gains-again old mid new more first next there kept c = elim (next kept c) [ inl before ↦ first kept before | inr same ↦ first kept (subst (Contains mid) (sym same) there) ]

pub gains-trans : (old mid new : List Kept) → GainsOnly old mid blank → GainsOnly mid new blank → GainsOnly old new blank
gains-trans old mid new first next kept c = elim (next kept c) [ inl before ↦ first kept before | inr same ↦ inr same ]

pub blank_choice : (d : Diagram) → 2 ≤ length d.nodes → IsRightChoice d blank
blank_choice d two = record { f_ref = omega arith; g_ref = omega arith; h_ref = omega arith; right = choice-false d 0 0 0 (omega arith) refl }

pub blank_cut : (d : Diagram) → 2 ≤ length d.nodes → IsRightCut d blank
blank_cut d two = record { f_ref = omega arith; right = cut-constant d 0 0 (eqb 0 1) (omega arith) (omega arith) }

-- a choice is right under the name that it is kept under
pub right_choice : (d : Diagram) (f g h f2 g2 h2 answer : ℕ) → IsSameChoice d f g h f2 g2 h2 → IsChoice d f g h answer → IsRightChoice d (record { f = f2; g = g2; h = h2; answer = answer })
right_choice d f g h f2 g2 h2 answer s c = record { f_ref = s.f_ref; g_ref = s.g_ref; h_ref = s.h_ref; right = choice-to_same d f g h f2 g2 h2 answer s c }

pub gain_choice-holds : (d : Diagram) (choices new cuts : List Kept) (more : Kept) → ArenaHolds d choices cuts → GainsOnly choices new more → IsRightChoice d more → ArenaHolds d new cuts
gain_choice-holds d choices new cuts more holds gains right = record {
  is_reduced = holds.is_reduced;
  small = holds.small;
  choices_right = λ kept c. elim (gains kept c) [ inl before ↦ holds.choices_right kept before | inr same ↦ subst (IsRightChoice d) (sym same) right ];
  cuts_right = holds.cuts_right;
}

pub gain_cut-holds : (d : Diagram) (choices cuts new : List Kept) (more : Kept) → ArenaHolds d choices cuts → GainsOnly cuts new more → IsRightCut d more → ArenaHolds d choices new
gain_cut-holds d choices cuts new more holds gains right = record {
  is_reduced = holds.is_reduced;
  small = holds.small;
  choices_right = holds.choices_right;
  cuts_right = λ kept c. elim (gains kept c) [ inl before ↦ holds.cuts_right kept before | inr same ↦ subst (IsRightCut d) (sym same) right ];
}

pub right_cut : (d : Diagram) (f level : ℕ) (value : Bool) (answer : ℕ) → IsRef d f → IsCut d f level value answer → IsRightCut d (record { f = f; g = level; h = bool_byte value; answer = answer })
right_cut d f level true answer p c = record { f_ref = p; right = c }
right_cut d f level false answer p c = record { f_ref = p; right = c }
