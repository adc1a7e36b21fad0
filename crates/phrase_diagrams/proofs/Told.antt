-- Diagrams that tell truths of worlds.
use Rattle.std.proofs.Common.{◌≡◌, ℕ, zero, suc, ◌⊎◌, inl, inr, ⊎_elim, Bool, ◌&&◌, List, [], ◌∷◌, ◌++◌, length, Some, refl, sym, ap, ◌∙◌, subst, slice_get, arith}
use Rattle.std.specs.Cmp.{first_so}
use Rattle.std.specs.Cmp.Lexicographic.{pointwise}
use Rattle.std.proofs.lemmas.Option.{same_Some}
use Rattle.rsml_syntax.specs.declared.syntax.Spec.{Spec}
use Rattle.rsml_syntax.specs.declared.world.World.{World}
use Rattle.rsml_meaning.specs.Instances.{components}
use Rattle.rsml_meaning.specs.Cells.{cells, is_of}
use Rattle.rsml_meaning.specs.Worlds.{is_choice}
use Rattle.state_tree.specs.Numbers.{AreChoices}
use Rattle.bdd_core.specs.Diagram.{Diagram, meaning}
use Rattle.bdd_core.specs.Calls.{Keeps, Represents}
use Rattle.rsml_ground.specs.Truths.{is_active}
use Rattle.world_levels.specs.Spelling.{WorldLevels, IsLayout, world_of}
use Rattle.world_levels.specs.Laws.{AllSpellAWorld}
use Rattle.phrase_diagrams.specs.Tells.{Tells}
use Rattle.phrase_diagrams.specs.Active.{AreActive, SpellChoices}

-- truths that are equal where the levels spell worlds
pub told_as : (d : Diagram) (levels : WorldLevels) (f g : World → Bool) (r : ℕ) → ((values : ℕ → Bool) → f (world_of levels.spec levels.slots values) ≡ g (world_of levels.spec levels.slots values))
    → Tells d levels f r → Tells d levels g r
told_as d levels f g r e h = record { is_ref = h.is_ref; means = λ values. h.means values ∙ e values }

-- the conjunction of two truths
pub told_both : (old new : Diagram) (levels : WorldLevels) (f g h : World → Bool) (a b r : ℕ)
    → ((values : ℕ → Bool) → h (world_of levels.spec levels.slots values) ≡ (f (world_of levels.spec levels.slots values) && g (world_of levels.spec levels.slots values)))
    → Tells old levels f a → Tells old levels g b → Represents new (λ values. meaning old a values && meaning old b values) r → Tells new levels h r
told_both old new levels f g h a b r e x y z = record {
  is_ref = z.is_ref;
  means = λ values. z.means values ∙ (λ i. x.means values i && y.means values i) ∙ sym (e values);
}

-- a diagram stays
pub tells_keeps : (old new : Diagram) (levels : WorldLevels) (f : World → Bool) (r : ℕ) → Keeps old new → Tells old levels f r → Tells new levels f r
tells_keeps old new levels f r k h = record { is_ref = (let a = k.longer in let b = h.is_ref in omega (arith, a, b)); means = λ values. k.meanings_stay r values h.is_ref ∙ h.means values }

-- the values of the levels spell choices
pub spell_choices : (s : Spec) (levels : WorldLevels) → s ≡ levels.spec → IsLayout levels.spec levels.slots → AllSpellAWorld → SpellChoices s levels
spell_choices s levels e h all values =
    let w = world_of levels.spec levels.slots values in
    subst (λ z. AreChoices z w.choices) (sym e) (first_so (pointwise is_choice (components levels.spec) w.choices) (pointwise (λ c n. is_of c.numbers n) (cells levels.spec) w.cells) (all levels.spec levels.slots h values))

pub active_keeps : (old new : Diagram) (levels : WorldLevels) (s : Spec) (fs : List ℕ) → Keeps old new → AreActive old levels s fs → AreActive new levels s fs
active_keeps old new levels s fs k h node f e = tells_keeps old new levels (λ w. is_active s w node) f k (h node f e)

at_push : {A : Type 0} (xs : List A) (y : A) (i : ℕ) (x : A) → slice_get (xs ++ y ∷ []) i ≡ Some x → (slice_get xs i ≡ Some x) ⊎ ((i ≡ length xs) × (y ≡ x))
at_push [] y zero x e = inr (refl, same_Some y x e)
at_push [] y (suc i) x e = absurd (let no : ⊥ = cc in no)
at_push (z ∷ xs) y zero x e = inl e
at_push (z ∷ xs) y (suc i) x e = ⊎_elim (λ l. inl l) (λ r. inr (ap suc r.0, r.1)) (at_push xs y i x e)

pub active_push : (d : Diagram) (levels : WorldLevels) (s : Spec) (fs : List ℕ) (f : ℕ) → AreActive d levels s fs → Tells d levels (λ w. is_active s w (length fs)) f → AreActive d levels s (fs ++ f ∷ [])
active_push d levels s fs f all h node g e = ⊎_elim
    (λ l. all node g l)
    (λ r. subst (λ i. Tells d levels (λ w. is_active s w i) g) (sym r.0) (subst (λ j. Tells d levels (λ w. is_active s w (length fs)) j) r.1 h))
    (at_push fs f node g e)
