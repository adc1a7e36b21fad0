-- The fields of a receive are written as a message is latched.
use Rattle.std.proofs.Common.{◌≡◌, ℕ, suc, ◌+◌, ◌<◌, Bool, true, false, not, ◌&&◌, List, [], ◌∷◌, map, length, ℤ, Option, Some, None, cond, sym, ap, ◌∙◌, subst, arith}
use Rattle.std.specs.Prelude.{IfSome, slice_get}
use Rattle.std.specs.List.{position_from}
use Rattle.rsml_syntax.specs.declared.syntax.Spec.{Spec}
use Rattle.rsml_syntax.specs.declared.world.World.{World}
use Rattle.rsml_syntax.specs.limits.Checked.{IsChecked}
use Rattle.rsml_meaning.specs.Words.{Instance, Each, same_instance}
use Rattle.rsml_meaning.specs.Interfaces.{ReceiveInstance, receives}
use Rattle.rsml_meaning.specs.Cells.{InputCell, cells}
use Rattle.rsml_meaning.specs.Worlds.{IsWorld}
use Rattle.rsml_meaning.specs.EventLines.{Message}
use Rattle.rsml_meaning.specs.Runs.{latched}
use Rattle.rsml_meaning.proofs.rules.Scoped.{rules_give_scopes}
use Rattle.state_arrays.specs.Places.{previous_place}
use Rattle.interfaces.specs.declared.field.Field.{Field}
use Rattle.interfaces.specs.Kept.{places, written, FieldsAre}
use Rattle.interfaces.specs.Writes.{AreTyped, IsWithin, put_all}
use Rattle.interfaces.proofs.FreshLemmas.{each_fresh}
use Rattle.interfaces.proofs.LatchLemmas.{AreFresh, AreOnce, put_is_latched}
use Rattle.interfaces.proofs.KeptLemmas.{same_some}
use Rattle.interfaces.proofs.OnceLemmas.{once_cell, once_previous}
use Rattle.interfaces.proofs.TurnLemmas.{each_get, first_same, rest_same}
use Rattle.interfaces.proofs.WorldLemmas.{cells_are, full_cells, typed_fit, typed_long, latched_is_world}

all_once : (s : Spec) → IsChecked s → (xs : List Instance) → AreOnce s xs
all_once s checked [] = tt
all_once s checked (x ∷ xs) = ((once_cell s checked x, once_previous s checked x), all_once s checked xs)

place_below : {A : Type 0} (t : A → Bool) (p : ℕ) (xs : List A) (n : ℕ) → position_from t p xs ≡ Some n → n < p + length xs
place_below t p [] n h = absurd (let no : ⊥ = cc in no)
place_below t p (x ∷ xs) n h = by (t x) h (λ k. place_below t (p + 1) xs n k)
  where
    by : (b : Bool) → cond b (Some p) (position_from t (p + 1) xs) ≡ Some n → (position_from t (p + 1) xs ≡ Some n → n < p + 1 + length xs) → n < p + suc (length xs)
    by true k next = let e = same_some p n k in omega (arith, e)
    by false k next = let l = next k in omega (arith, l)

one_within : (s : Spec) (n : ℕ) (x : Instance) (f : Field) → n ≡ length (cells s) → written f ≡ places s x → IsWithin n f
one_within s n x f e h =
    let l = place_below (λ (c : InputCell). not c.previous && same_instance x c.input) 0 (cells s) f.cell (sym (ap (λ (p : Option ℕ × Option ℕ). p.0) h)) in
    (omega (arith, l, e), by f.previous (sym (ap (λ (p : Option ℕ × Option ℕ). p.1) h)))
  where
    by : (o : Option ℕ) → previous_place s x ≡ o → IfSome o (λ p. p < n)
    by None k = tt
    by (Some p) k = let l = place_below (λ (c : InputCell). c.previous && same_instance x c.input) 0 (cells s) p k in omega (arith, l, e)

pub all_within : (s : Spec) (n : ℕ) (xs : List Instance) (fs : List Field) → n ≡ length (cells s) → FieldsAre s xs fs → Each (IsWithin n) fs
all_within s n [] [] e h = tt
all_within s n [] (f ∷ fs) e h = absurd (let no : ⊥ = cc in no)
all_within s n (x ∷ xs) [] e h = tt
all_within s n (x ∷ xs) (f ∷ fs) e h =
    (one_within s n x f e (first_same (written f) (places s x) (map written fs) (map (places s) xs) h), all_within s n xs fs e (rest_same (written f) (places s x) (map written fs) (map (places s) xs) h))

pub full : (s : Spec) (w : World) → IsWorld s w → length w.cells ≡ length (cells s)
full s w h = full_cells (cells s) w.cells (cells_are s w h)

-- the world with these cells
abbrev pub with_cells : World → List ℤ → World
with_cells w ns = record { choices = w.choices; cells = ns }

-- the message of a receive with these numbers
abbrev pub message_of : ReceiveInstance → List ℤ → Message
message_of x ns = record { receive = x; numbers = ns }

pub latched_is : (s : Spec) (w : World) (k : ℕ) (x : ReceiveInstance) (fs : List Field) (ns new : List ℤ) → IsChecked s → IsWorld s w → slice_get (receives s) k ≡ Some x → FieldsAre s x.inputs fs → AreTyped s x.inputs ns
    → new ≡ put_all fs ns w.cells → with_cells w new ≡ latched s w (message_of x ns)
latched_is s w k x fs ns new checked world at fields typed e =
    ap (with_cells w)
    (e ∙ put_is_latched x.receive x.raised s w (full s w world) x.inputs fs ns fields (typed_long s x.inputs ns typed) (each_get (λ (x : ReceiveInstance). AreFresh [] x.inputs) (receives s) k x at (each_fresh s checked)) (all_once s checked x.inputs))

pub latched_world : (s : Spec) (w : World) (k : ℕ) (x : ReceiveInstance) (fs : List Field) (ns new : List ℤ) → IsChecked s → IsWorld s w → slice_get (receives s) k ≡ Some x → FieldsAre s x.inputs fs → AreTyped s x.inputs ns
    → new ≡ put_all fs ns w.cells → IsWorld s (with_cells w new)
latched_world s w k x fs ns new checked world at fields typed e =
    subst (IsWorld s) (sym (latched_is s w k x fs ns new checked world at fields typed e))
    (latched_is_world s (rules_give_scopes s checked.keeps.rules) w world (message_of x ns) (typed_fit s x.inputs ns typed))
