-- The end: a function that is false, or no key that is left.
use Rattle.std.proofs.Common.{◌≡◌, ℕ, ◌<◌, Bool, true, false, not, ◌&&◌, Some, List, length, replicate, ⊎_elim, refl, sym, ◌∙◌, subst, true≢false}
use Rattle.std.proofs.lemmas.List.{get_or-replicate}
use Rattle.bdd_core.specs.Diagram.{Diagram, meaning}
use Rattle.free_levels.specs.Values.{is_in}
use Rattle.free_levels.specs.Stages.{is_left}
use Rattle.free_levels.specs.Settle.{AreKept}
use Rattle.free_levels.proofs.StageLemmas.{stage-settles, stage-stops}
use Rattle.keyed_levels.specs.Keyed.{KeyedWorlds, AreKeyed, keys_of}
use Rattle.settled_worlds.specs.Settled.{cell_levels, IsProjected, IsSettled}
use Rattle.settled_worlds.specs.Steps.{all_but, HasEnded, IsSwept, IsOver}
use Rattle.settled_worlds.proofs.PartLemmas.{apart}

pub ended : (k : KeyedWorlds) (levels : ℕ → Bool) (a d : Diagram) (x y : List Bool) (f r : ℕ) → x ≡ replicate (length k.keyed) true → IsSwept k levels a d x y f r → IsOver k d y r
    → HasEnded k levels a d f r
ended k levels a d x y f r all swept over =
    let start : (i : ℕ) → i < length k.keyed → is_left x i ≡ true =
    λ i less. subst (λ left. is_left left i ≡ true) (sym all) (get_or-replicate (length k.keyed) i true _ less) in
    record {
      is_ref = swept.is_ref;
      settled = ⊎_elim
          (λ never. stage-stops (keys_of k) levels x y (meaning a f) (meaning d r) start never swept.stage)
          (λ done. stage-settles (keys_of k) levels x y (meaning a f) (meaning d r) start done swept.stage) over;
    }

pub settled : (k : KeyedWorlds) (levels : ℕ → Bool) (a d : Diagram) (f r : ℕ) → HasEnded k levels a d f r → IsSettled a d k f r
settled k levels a d f r end = record { is_ref = end.is_ref; none = end.settled.none }

not_both : (p q : Bool) → (p ≡ true → q ≡ true → ⊥) → (p && q) ≡ false
not_both true true never = absurd (never refl refl)
not_both true false never = refl
not_both false q never = refl

never_both : (p q : Bool) → (p && q) ≡ false → p ≡ true → q ≡ true → ⊥
never_both true true e a b = true≢false e
never_both true false e a b = true≢false (sym b)
never_both false q e a b = true≢false (sym a)

not_true : (b : Bool) → not b ≡ true → b ≡ false
not_true true e = absurd (true≢false (sym e))
not_true false e = refl

-- the levels of a cell that is kept
kept_are : (k : KeyedWorlds) (cell : ℕ) → AreKeyed k → AreKept (keys_of k) (all_but k (Some cell)) (is_in (cell_levels k cell))
kept_are k cell are = record {
  no_key = λ i less. apart k cell i are less;
  others = λ level e. not_true (is_in (cell_levels k cell) level) e;
}

pub projected : (k : KeyedWorlds) (a d : Diagram) (cell f r : ℕ) → AreKeyed k → HasEnded k (all_but k (Some cell)) a d f r → IsProjected a d k (cell_levels k cell) f r
projected k a d cell f r are end = record {
  is_ref = end.is_ref;
  same = λ test depends. (
    λ never v lawful. not_both (meaning a f v) (test v) (λ held passes.
        let m = (end.settled.projects (is_in (cell_levels k cell)) (kept_are k cell are) v).1 (record { other = v; agree = λ level there. refl; lawful = lawful; holds = held }) in
        never_both (meaning d r m.other) (test m.other) (never m.other) m.holds (depends m.other v m.agree ∙ passes)),
    λ never v. not_both (meaning d r v) (test v) (λ held passes.
        let m = (end.settled.projects (is_in (cell_levels k cell)) (kept_are k cell are) v).0 (record { other = v; agree = λ level there. refl; holds = held }) in
        never_both (meaning a f m.other) (test m.other) (never m.other m.lawful) m.holds (depends m.other v m.agree ∙ passes)),
  );
}
