-- The stages of a sweep: a key made exact, a cell forgotten, and the end, where no key is left.
use Rattle.std.proofs.Common.{◌≡◌, ◌↔◌, ℕ, zero, suc, ◌<◌, Bool, true, false, List, [], ◌∷◌, length, get_or, set, refl, sym, ap, subst, ◌∙◌, inl, inr, true≢false, arith}
use Rattle.std.proofs.lemmas.Bool.{cases_eq}
use Rattle.std.proofs.lemmas.Grind.{get_or-set_at}
use Rattle.std.proofs.lemmas.List.{get_or-set_other}
use Rattle.bdd_core.specs.Calls.{with_value}
use Rattle.bdd_core.proofs.CanonicalLemmas.{with_value-same, with_value-apart}
use Rattle.free_levels.specs.declared.cell.Cell.{Cell}
use Rattle.free_levels.specs.Values.{is_in, TrueOff, Ignores}
use Rattle.free_levels.specs.Keys.{Keys, AreKeys, IsCell, levels_of}
use Rattle.free_levels.specs.Settle.{AreKept, MayHold, MayHoldLawfully, IsSettled}
use Rattle.free_levels.specs.Stages.{is_left, Holds, IsStage}
use Rattle.free_levels.proofs.ValueLemmas.{with_value-own, not_in-cons, ignores-all, or-by_left, or-by_right}
use Rattle.free_levels.proofs.ForgetLemmas.{iff-trans}

pub stage-refl : (keys : Keys) (gone : ℕ → Bool) (left : List Bool) (F : (ℕ → Bool) → Bool) → IsStage keys gone left left F F
stage-refl keys gone left F = record { same = λ kept are v. (λ h. h, λ h. h) }

-- where more may be forgotten
pub stage-widen : (keys : Keys) (few many : ℕ → Bool) (before after : List Bool) (F G : (ℕ → Bool) → Bool) → ((level : ℕ) → few level ≡ true → many level ≡ true)
    → IsStage keys few before after F G → IsStage keys many before after F G
stage-widen keys few many before after F G more stage = record {
  same = λ kept are v. stage.same kept (record { no_key = are.no_key; others = λ level e. are.others level (more level e) }) v;
}

-- one stage after another
pub stage-trans : (keys : Keys) (gone : ℕ → Bool) (x y z : List Bool) (F G H : (ℕ → Bool) → Bool) → IsStage keys gone x y F G → IsStage keys gone y z G H → IsStage keys gone x z F H
stage-trans keys gone x y z F G H p q = record { same = λ kept are v. iff-trans (p.same kept are v) (q.same kept are v) }

-- a key made exact
pub stage-exact : (keys : Keys) (gone : ℕ → Bool) (left : List Bool) (place : ℕ) (F R : (ℕ → Bool) → Bool) → AreKeys keys → place < keys.count → keys.count ≡ length left
    → is_left left place ≡ true → ((v : ℕ → Bool) → R v ≡ F (with_value v (keys.level place) (keys.function place v))) → IsStage keys gone left (set left place false) F R
stage-exact keys gone left place F R all lt len is rep =
    let within : place < length left = omega (arith, lt, len) in
    let l : ℕ = keys.level place in
    let e : (ℕ → Bool) → Bool = keys.function place in
    record {
      same = λ kept are v. (
        λ h. record {
          other = h.other;
          agree = h.agree;
          lawful = λ i il there. elim (cases_eq i place) [
            | inl same ↦ absurd (true≢false (sym there ∙ get_or-set_at left place i false false same within))
            | inr ne ↦ h.lawful i il (sym (get_or-set_other left place i false false ne) ∙ there)
          ];
          holds = rep h.other ∙ ap F (with_value-own h.other l (e h.other) (h.lawful place lt is)) ∙ h.holds;
        },
        λ h.
            let w : ℕ → Bool = with_value h.other l (e h.other) in
            record {
              other = w;
              agree = λ level there. with_value-apart h.other l level (e h.other) (λ same. true≢false (sym there ∙ ap kept same ∙ are.no_key place lt)) ∙ h.agree level there;
              lawful = λ i il there. elim (cases_eq i place) [
                | inl same ↦ subst (λ j. w (keys.level j) ≡ keys.function j w) (sym same)
                    (with_value-same h.other l (e h.other) ∙ sym (all.free place place lt lt h.other (e h.other)))
                | inr ne ↦ with_value-apart h.other l (keys.level i) (e h.other) (λ same. ne (all.differ i place il lt same))
                    ∙ h.lawful i il (get_or-set_other left place i false false ne ∙ there)
                    ∙ sym (all.free i place il lt h.other (e h.other))
              ];
              holds = sym (rep h.other) ∙ h.holds;
            },
      );
    }

-- a key struck off whose level the function does not depend on
pub stage-skip : (keys : Keys) (gone : ℕ → Bool) (left : List Bool) (place : ℕ) (F : (ℕ → Bool) → Bool) → AreKeys keys → place < keys.count → keys.count ≡ length left
    → is_left left place ≡ true → Ignores F (keys.level place) → IsStage keys gone left (set left place false) F F
stage-skip keys gone left place F all lt len is ignores =
    stage-exact keys gone left place F F all lt len is (λ v. sym (ignores v (keys.function place v)))

-- a key that is left is not in a list of keys that are not
not_listed : (left : List Bool) (places : List ℕ) (i : ℕ) → ((k : ℕ) → k < length places → is_left left (get_or places k 0) ≡ false) → is_left left i ≡ true → is_in places i ≡ false
not_listed left [] i done there = refl
not_listed left (p ∷ ps) i done there =
    not_in-cons p ps i (λ same. true≢false (sym there ∙ ap (is_left left) same ∙ done 0 (omega arith)))
    (not_listed left ps i (λ k h. done (suc k) (omega (arith, h))) there)

pub never_true : (x : Bool) → (x ≡ true → ⊥) → x ≡ false
never_true true h = absurd (h refl)
never_true false h = refl

-- a cell forgotten, after the keys that read it were made exact
pub stage-forget : (keys : Keys) (cell : Cell) (left : List Bool) (F R : (ℕ → Bool) → Bool) → IsCell keys cell
    → ((k : ℕ) → k < length cell.keys.items → is_left left (get_or cell.keys.items k 0) ≡ false)
    → ((v : ℕ → Bool) → (R v ≡ true) ↔ TrueOff F cell.levels.items v) → IsStage keys (is_in cell.levels.items) left left F R
stage-forget keys cell left F R is done gone = record {
  same = λ kept are v. (
    λ h. record {
      other = h.other;
      agree = h.agree;
      lawful = h.lawful;
      holds = (gone h.other).1 (record { other = h.other; agree = λ l out. refl; holds = h.holds });
    },
    λ h.
        let t : TrueOff F cell.levels.items h.other = (gone h.other).0 h.holds in
        record {
          other = t.other;
          agree = λ level there. t.agree level (never_true (is_in cell.levels.items level) (λ e. true≢false (sym there ∙ are.others level e))) ∙ h.agree level there;
          lawful = λ i il there.
              t.agree (keys.level i) (is.apart i il)
              ∙ h.lawful i il there
              ∙ sym (ignores-all (keys.function i) cell.levels.items (is.unread i il (not_listed left cell.keys.items i done there)) t.other h.other t.agree);
          holds = t.holds;
        },
  );
}

-- a level of a cell is one of the cells' levels
pub level_of_cells : (cells : List Cell) (i : ℕ) (cell : Cell) (level : ℕ) → i < length cells → cell ≡ get_or cells i cell → is_in cell.levels.items level ≡ true → levels_of cells level ≡ true
level_of_cells [] i cell level less at e = absurd (omega (arith, less))
level_of_cells (c ∷ cs) zero cell level less at e = or-by_left (is_in c.levels.items level) (levels_of cs level) (ap (λ (t : Cell). is_in t.levels.items level) (sym at) ∙ e)
level_of_cells (c ∷ cs) (suc i) cell level less at e = or-by_right (is_in c.levels.items level) (levels_of cs level) (level_of_cells cs i cell level (omega (arith, less)) at e)

-- the end: all keys were left, and r is true at no values at which a key that is left is not lawful
stage-ends : (keys : Keys) (gone : ℕ → Bool) (before after : List Bool) (F R : (ℕ → Bool) → Bool) → ((i : ℕ) → i < keys.count → is_left before i ≡ true)
    → ((v : ℕ → Bool) (i : ℕ) → R v ≡ true → i < keys.count → is_left after i ≡ false) → IsStage keys gone before after F R → IsSettled keys gone F R
stage-ends keys gone before after F R start done stage =
    let projects : (kept : ℕ → Bool) → AreKept keys gone kept → (v : ℕ → Bool) → MayHold R kept v ↔ MayHoldLawfully keys F kept v =
    λ kept are v. (
      λ m.
          let h : Holds keys before F kept v = (stage.same kept are v).1 (record { other = m.other; agree = m.agree; lawful = λ i il there. absurd (true≢false (sym there ∙ done m.other i m.holds il)); holds = m.holds }) in
          record { other = h.other; agree = h.agree; lawful = λ i il. h.lawful i il (start i il); holds = h.holds },
      λ m.
          let h : Holds keys after R kept v = (stage.same kept are v).0 (record { other = m.other; agree = m.agree; lawful = λ i il there. m.lawful i il; holds = m.holds }) in
          record { other = h.other; agree = h.agree; holds = h.holds },
    ) in
    let nothing : ℕ → Bool = λ level. false in
    let are : AreKept keys gone nothing = record { no_key = λ i h. refl; others = λ level e. refl } in
    record {
      none = (
        λ never v law. never_true (F v) (λ e.
            let m : MayHold R nothing v = (projects nothing are v).1 (record { other = v; agree = λ level there. refl; lawful = law; holds = e }) in
            true≢false (sym m.holds ∙ never m.other)),
        λ never v. never_true (R v) (λ e.
            let m : MayHoldLawfully keys F nothing v = (projects nothing are v).0 (record { other = v; agree = λ level there. refl; holds = e }) in
            true≢false (sym m.holds ∙ never m.other m.lawful)),
      );
      projects = projects;
    }

-- the end: no key is left
pub stage-settles : (keys : Keys) (gone : ℕ → Bool) (before after : List Bool) (F R : (ℕ → Bool) → Bool) → ((i : ℕ) → i < keys.count → is_left before i ≡ true)
    → ((i : ℕ) → i < keys.count → is_left after i ≡ false) → IsStage keys gone before after F R → IsSettled keys gone F R
stage-settles keys gone before after F R start done stage = stage-ends keys gone before after F R start (λ v i e. done i) stage

-- an end before that: the function is false
pub stage-stops : (keys : Keys) (gone : ℕ → Bool) (before after : List Bool) (F R : (ℕ → Bool) → Bool) → ((i : ℕ) → i < keys.count → is_left before i ≡ true)
    → ((v : ℕ → Bool) → R v ≡ false) → IsStage keys gone before after F R → IsSettled keys gone F R
stage-stops keys gone before after F R start never stage = stage-ends keys gone before after F R start (λ v i e. absurd (true≢false (sym e ∙ never v))) stage
