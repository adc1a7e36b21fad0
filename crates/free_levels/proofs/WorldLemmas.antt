-- Clauses of an encoder that speak of worlds, from those of a sweep, which speak of levels.
use Rattle.std.proofs.Common.{◌≡◌, ◌↔◌, ℕ, ◌<◌, Bool, true, false, ◌&&◌, refl, sym, ap, ◌∙◌, true≢false}
use Rattle.bdd_core.specs.Calls.{with_value}
use Rattle.free_levels.specs.Values.{AgreeOn, Ignores}
use Rattle.free_levels.specs.Keys.{Keys, IsLawful}
use Rattle.free_levels.specs.Settle.{AreKept, MayHold, MayHoldLawfully, IsSettled}
use Rattle.free_levels.proofs.StageLemmas.{never_true}

both_left : (p q : Bool) → (p && q) ≡ true → p ≡ true
both_left true q e = refl
both_left false q e = e

both_right : (p q : Bool) → (p && q) ≡ true → q ≡ true
both_right true q e = e
both_right false q e = absurd (true≢false (sym e))

both_true : (p q : Bool) → p ≡ true → q ≡ true → (p && q) ≡ true
both_true true q e g = g
both_true false q e g = e

-- whether a function can hold lawfully where a test of the kept levels does: asked of the settled function
pub least-asks : (keys : Keys) (gone : ℕ → Bool) (F R : (ℕ → Bool) → Bool) → IsSettled keys gone F R → (kept : ℕ → Bool) → AreKept keys gone kept
    → (test : (ℕ → Bool) → Bool) → ((a b : ℕ → Bool) → AgreeOn kept a b → test a ≡ test b)
    → ((v : ℕ → Bool) → (R v && test v) ≡ false) ↔ ((v : ℕ → Bool) → IsLawful keys v → (F v && test v) ≡ false)
least-asks keys gone F R settled kept are test sees = (
  λ never v law. never_true (F v && test v) (λ e.
      let m : MayHold R kept v = (settled.projects kept are v).1 (record { other = v; agree = λ level there. refl; lawful = law; holds = both_left (F v) (test v) e }) in
      true≢false (sym (both_true (R m.other) (test m.other) m.holds (sees m.other v m.agree ∙ both_right (F v) (test v) e)) ∙ never m.other)),
  λ never v. never_true (R v && test v) (λ e.
      let m : MayHoldLawfully keys F kept v = (settled.projects kept are v).0 (record { other = v; agree = λ level there. refl; holds = both_left (R v) (test v) e }) in
      true≢false (sym (both_true (F m.other) (test m.other) m.holds (sees m.other v m.agree ∙ both_right (R v) (test v) e)) ∙ never m.other m.lawful)),
)

-- an encoder: worlds, the world that values of the levels spell, values that spell a world, and what the keys say of a world
module _ (World : Type 0) (IsWorld : World → Type 0) (world_of : (ℕ → Bool) → World) (spelled : World → ℕ → Bool) (truth_of_key : ℕ → World → Bool) (keys : Keys)
    (is_world : (v : ℕ → Bool) → IsWorld (world_of v))
    (of_spelled : (w : World) → IsWorld w → world_of (spelled w) ≡ w)
    (spells_keys : (w : World) (i : ℕ) → IsWorld w → i < keys.count → spelled w (keys.level i) ≡ truth_of_key i w)
    (exact : (i : ℕ) (v : ℕ → Bool) → i < keys.count → keys.function i v ≡ truth_of_key i (world_of v))
  where
    -- values that spell a world are lawful
    pub lawful-spelled : (w : World) → IsWorld w → IsLawful keys (spelled w)
    lawful-spelled w is i less = spells_keys w i is less ∙ ap (truth_of_key i) (sym (of_spelled w is)) ∙ sym (exact i (spelled w) less)

    -- a key's function does not depend on a level that does not change what the key says of the world
    pub ignores-from_worlds : (i level : ℕ) → i < keys.count → ((v : ℕ → Bool) (b : Bool) → truth_of_key i (world_of (with_value v level b)) ≡ truth_of_key i (world_of v)) → Ignores (keys.function i) level
    ignores-from_worlds i level less same v b = exact i (with_value v level b) less ∙ same v b ∙ sym (exact i v less)

    -- the settled function is false everywhere exactly where the function holds in no world
    pub settled-worlds : (gone : ℕ → Bool) (F R : (ℕ → Bool) → Bool) (truth : World → Bool) → IsSettled keys gone F R
        → ((v : ℕ → Bool) → IsLawful keys v → F v ≡ truth (world_of v))
        → ((v : ℕ → Bool) → R v ≡ false) ↔ ((w : World) → IsWorld w → truth w ≡ false)
    settled-worlds gone F R truth settled means = (
      λ never w is. ap truth (sym (of_spelled w is)) ∙ sym (means (spelled w) (lawful-spelled w is)) ∙ settled.none.0 never (spelled w) (lawful-spelled w is),
      λ never. settled.none.1 (λ v law. means v law ∙ never (world_of v) (is_world v)),
    )

    -- the same for a test of the world that only kept levels decide: what a search for the least world asks
    pub least-worlds : (gone : ℕ → Bool) (F R : (ℕ → Bool) → Bool) (truth test : World → Bool) → IsSettled keys gone F R
        → ((v : ℕ → Bool) → IsLawful keys v → F v ≡ truth (world_of v))
        → (kept : ℕ → Bool) → AreKept keys gone kept
        → ((a b : ℕ → Bool) → AgreeOn kept a b → test (world_of a) ≡ test (world_of b))
        → ((v : ℕ → Bool) → (R v && test (world_of v)) ≡ false) ↔ ((w : World) → IsWorld w → (truth w && test w) ≡ false)
    least-worlds gone F R truth test settled means kept are sees = (
      λ never w is.
          let s : ℕ → Bool = spelled w in
          ap (λ (w : World). truth w && test w) (sym (of_spelled w is))
          ∙ ap (λ t. t && test (world_of s)) (sym (means s (lawful-spelled w is)))
          ∙ (least-asks keys gone F R settled kept are (λ v. test (world_of v)) sees).0 never s (lawful-spelled w is),
      λ never. (least-asks keys gone F R settled kept are (λ v. test (world_of v)) sees).1
          (λ v law. ap (λ t. t && test (world_of v)) (means v law) ∙ never (world_of v) (is_world v)),
    )
