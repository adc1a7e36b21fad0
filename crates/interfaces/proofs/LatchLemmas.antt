-- Writing the fields of a message one after another is latching it.
use Rattle.std.proofs.Common.{◌≡◌, ℕ, suc, ◌+◌, Bool, true, false, not, ◌&&◌, ◌||◌, List, [], ◌∷◌, ◌++◌, map, length, Option, Some, None, zip, ℤ, pos, if◌then◌else◌, cond, get_or, slice_set, unwrap_or, refl, sym, ap, ◌∙◌, subst, true≢false, arith, append_assoc, append-nil}
use Rattle.std.specs.Prelude.{⊤}
use Rattle.std.specs.Cmp.{first_so, second_so}
use Rattle.std.specs.List.{position_from}
use Rattle.std.specs.Option.{option_map}
use Rattle.std.proofs.lemmas.List.Folds.{list_any-append}
use Rattle.rsml_syntax.specs.declared.syntax.Spec.{Spec}
use Rattle.rsml_syntax.specs.declared.world.World.{World}
use Rattle.rsml_meaning.specs.Words.{Instance, Each, same_instance, has, first_some}
use Rattle.rsml_meaning.specs.Cells.{InputCell, cells}
use Rattle.rsml_meaning.specs.Worlds.{held, cell}
use Rattle.rsml_meaning.specs.EventLines.{Message}
use Rattle.rsml_meaning.specs.Runs.{number_for, told, latched_cell, latched}
use Rattle.rsml_meaning.proofs.Same.{instance_same, instance_itself}
use Rattle.rsml_meaning.proofs.Lists.{same_truth}
use Rattle.state_arrays.specs.Places.{cell_place, previous_place}
use Rattle.state_arrays.proofs.ArrayLemmas.{from_later}
use Rattle.interfaces.specs.declared.field.Field.{Field}
use Rattle.interfaces.specs.Kept.{places, written, FieldsAre}
use Rattle.interfaces.specs.Writes.{copied, put_all}
use Rattle.interfaces.proofs.KeptLemmas.{same_some}
use Rattle.interfaces.proofs.OnceLemmas.{Once}

-- Lists.

alike : {A : Type 0} (t : A → Bool) (f g : A → ℤ) (xs : List A) → ((x : A) → t x ≡ false → g x ≡ f x) → Each (λ x. t x ≡ false) xs → map g xs ≡ map f xs
alike t f g [] h e = refl
alike t f g (x ∷ xs) h e = ap (λ (y : ℤ). y ∷ map g xs) (h x e.0) ∙ ap (λ (ys : List ℤ). f x ∷ ys) (alike t f g xs h e.1)

none_each : {A : Type 0} (t : A → Bool) (n : ℕ) (xs : List A) → position_from t n xs ≡ None → Each (λ x. t x ≡ false) xs
none_each t n [] h = tt
none_each t n (x ∷ xs) h = by (t x) refl h (λ k. none_each t (n + 1) xs k)
  where
    by : (b : Bool) → t x ≡ b → cond b (Some n) (position_from t (n + 1) xs) ≡ None → (position_from t (n + 1) xs ≡ None → Each (λ x. t x ≡ false) xs) → Each (λ x. t x ≡ false) (x ∷ xs)
    by true e k next = absurd (let no : ⊥ = cc in no)
    by false e k next = (e, next k)

some_later : (o : Option ℕ) (p : ℕ) → option_map (λ n. 1 + n) o ≡ Some p → (q : ℕ) × (o ≡ Some q) × (p ≡ suc q)
some_later None p h = absurd (let no : ⊥ = cc in no)
some_later (Some q) p h = let e = same_some (1 + q) p h in (q, refl, omega (arith, e))

later_place : {A : Type 0} (t : A → Bool) (xs : List A) (p : ℕ) → position_from t 1 xs ≡ Some p → (q : ℕ) × (position_from t 0 xs ≡ Some q) × (p ≡ suc q)
later_place t xs p h = some_later (position_from t 0 xs) p (sym (from_later t 1 0 xs) ∙ h)

-- the place where an item passes
pub one_set : {A : Type 0} (t : A → Bool) (f g : A → ℤ) (xs : List A) (p : ℕ) (v : ℤ) → position_from t 0 xs ≡ Some p → Once t xs → ((x : A) → t x ≡ true → g x ≡ v) → ((x : A) → t x ≡ false → g x ≡ f x)
    → map g xs ≡ slice_set (map f xs) p v
one_set t f g [] p v h o a b = absurd (let no : ⊥ = cc in no)
one_set t f g (x ∷ xs) p v h o a b = by (t x) refl h (λ q k. one_set t f g xs q v k o.1 a b)
  where
    by : (c : Bool) → t x ≡ c → cond c (Some 0) (position_from t 1 xs) ≡ Some p → ((q : ℕ) → position_from t 0 xs ≡ Some q → map g xs ≡ slice_set (map f xs) q v) → map g (x ∷ xs) ≡ slice_set (map f (x ∷ xs)) p v
    by true e k next =
        subst (λ n. map g (x ∷ xs) ≡ slice_set (map f (x ∷ xs)) n v) (same_some 0 p k) (ap (λ (y : ℤ). y ∷ map g xs) (a x e) ∙ ap (λ (ys : List ℤ). v ∷ ys) (alike t f g xs b (o.0 e)))
    by false e k next =
        let r = later_place t xs p k in
        subst (λ n. map g (x ∷ xs) ≡ slice_set (map f (x ∷ xs)) n v) (sym r.2) (ap (λ (y : ℤ). y ∷ map g xs) (b x e) ∙ ap (λ (ys : List ℤ). f x ∷ ys) (next r.0 r.1))

pub none_set : {A : Type 0} (t : A → Bool) (f g : A → ℤ) (xs : List A) → position_from t 0 xs ≡ None → ((x : A) → t x ≡ false → g x ≡ f x) → map g xs ≡ map f xs
none_set t f g xs h b = alike t f g xs b (none_each t 0 xs h)

-- what the first item that passes gives stands at its place
first_there : {A : Type 0} (t : A → Bool) (h : A → Option ℤ) (f : A → ℤ) (d : ℤ) (xs : List A) (p : ℕ) → ((x : A) → t x ≡ true → h x ≡ Some (f x)) → ((x : A) → t x ≡ false → h x ≡ None)
    → position_from t 0 xs ≡ Some p → unwrap_or (first_some h xs) d ≡ get_or (map f xs) p d
first_there t h f d [] p a b e = absurd (let no : ⊥ = cc in no)
first_there t h f d (x ∷ xs) p a b e = by (t x) refl e (λ q k. first_there t h f d xs q a b k)
  where
    first : Option ℤ → ℤ
    first o = unwrap_or (elim o [ Some y ↦ Some y | None ↦ first_some h xs ]) d

    by : (c : Bool) → t x ≡ c → cond c (Some 0) (position_from t 1 xs) ≡ Some p → ((q : ℕ) → position_from t 0 xs ≡ Some q → unwrap_or (first_some h xs) d ≡ get_or (map f xs) q d)
        → first (h x) ≡ get_or (map f (x ∷ xs)) p d
    by true k e next = ap first (a x k) ∙ ap (λ n. get_or (map f (x ∷ xs)) n d) (same_some 0 p e)
    by false k e next = let r = later_place t xs p e in ap first (b x k) ∙ next r.0 r.1 ∙ ap (λ n. get_or (map f (x ∷ xs)) n d) (sym r.2)

-- Pairs.

zip_place : {A B : Type 0} (t : A → Bool) (n : ℕ) (xs : List A) (ys : List B) → length ys ≡ length xs → position_from (λ (z : A × B). t z.0) n (zip xs ys) ≡ position_from t n xs
zip_place t n [] [] h = refl
zip_place t n [] (y ∷ ys) h = absurd (omega (arith, h))
zip_place t n (x ∷ xs) [] h = absurd (omega (arith, h))
zip_place t n (x ∷ xs) (y ∷ ys) h = ap (λ (o : Option ℕ). cond (t x) (Some n) o) (zip_place t (n + 1) xs ys (omega (arith, h)))

zip_each : {A B : Type 0} (t : A → Bool) (xs : List A) (ys : List B) → Each (λ x. t x ≡ false) xs → Each (λ (z : A × B). t z.0 ≡ false) (zip xs ys)
zip_each t [] [] h = tt
zip_each t [] (y ∷ ys) h = tt
zip_each t (x ∷ xs) [] h = tt
zip_each t (x ∷ xs) (y ∷ ys) h = (h.0, zip_each t xs ys h.1)

zip_once : {A B : Type 0} (t : A → Bool) (xs : List A) (ys : List B) → Once t xs → Once (λ (z : A × B). t z.0) (zip xs ys)
zip_once t [] [] h = tt
zip_once t [] (y ∷ ys) h = tt
zip_once t (x ∷ xs) [] h = tt
zip_once t (x ∷ xs) (y ∷ ys) h = (λ e. zip_each t xs ys (h.0 e), zip_once t xs ys h.1)

-- Instances.

swap : (x y : Instance) → same_instance x y ≡ same_instance y x
swap x y =
    same_truth (same_instance x y) (same_instance y x) (λ e. subst (λ z. same_instance z x ≡ true) (instance_same x y e) (instance_itself x))
    (λ e. subst (λ z. same_instance z y ≡ true) (instance_same y x e) (instance_itself y))

abbrev or_else : {B : Type 0} → Option B → Option B → Option B
or_else (Some y) rest = Some y
or_else None rest = rest

or_none : {B : Type 0} (o : Option B) → or_else o None ≡ o
or_none (Some y) = refl
or_none None = refl

has_more : (xs : List Instance) (x y : Instance) → has (xs ++ (x ∷ [])) y ≡ (has xs y || same_instance y x)
has_more xs x y = list_any-append (same_instance y) xs (x ∷ []) ∙ ap (λ (b : Bool). has xs y || b) (by (same_instance y x))
  where
    by : (b : Bool) → (b || false) ≡ b
    by true = refl
    by false = refl

-- no input of the second list is in the first, or stands in the second twice
abbrev pub AreFresh : List Instance → List Instance → Type 0
AreFresh is [] = ⊤
AreFresh is (x ∷ xs) = (has is x ≡ false) × AreFresh (is ++ (x ∷ [])) xs

-- at most one cell and one previous cell are those of each input
abbrev pub AreOnce : Spec → List Instance → Type 0
AreOnce s xs = Each (λ x. Once (λ (c : InputCell). not c.previous && same_instance x c.input) (cells s) × Once (λ (c : InputCell). c.previous && same_instance x c.input) (cells s)) xs

-- Messages.

module _ (receive raised : Instance) where
  -- the message of these inputs and numbers
  abbrev message : List Instance → List ℤ → Message
  message inputs numbers = record { receive = record { receive = receive; inputs = inputs; raised = raised }; numbers = numbers }

  told_more : (is : List Instance) (ns : List ℤ) (i : Instance) (v : ℤ) (j : Instance) → length ns ≡ length is → told (message (is ++ (i ∷ [])) (ns ++ (v ∷ []))) j ≡ or_else (told (message is ns) j) (number_for j (i, v))
  told_more [] [] i v j h = by (number_for j (i, v))
    where
      by : (o : Option ℤ) → elim o [ Some y ↦ Some y | None ↦ None ] ≡ o
      by (Some y) = refl
      by None = refl
  told_more [] (n ∷ ns) i v j h = absurd (omega (arith, h))
  told_more (k ∷ is) [] i v j h = absurd (omega (arith, h))
  told_more (k ∷ is) (n ∷ ns) i v j h = by (number_for j (k, n)) (told_more is ns i v j (omega (arith, h)))
    where
      by : (o : Option ℤ) → told (message (is ++ (i ∷ [])) (ns ++ (v ∷ []))) j ≡ or_else (told (message is ns) j) (number_for j (i, v))
          → elim o [ Some y ↦ Some y | None ↦ told (message (is ++ (i ∷ [])) (ns ++ (v ∷ []))) j ] ≡ or_else (elim o [ Some y ↦ Some y | None ↦ told (message is ns) j ]) (number_for j (i, v))
      by (Some y) e = refl
      by None e = e

  none_told : (is : List Instance) (ns : List ℤ) (j : Instance) → has is j ≡ false → told (message is ns) j ≡ None
  none_told [] [] j h = refl
  none_told [] (n ∷ ns) j h = refl
  none_told (k ∷ is) [] j h = refl
  none_told (k ∷ is) (n ∷ ns) j h = by (same_instance j k) h (λ e. none_told is ns j e)
    where
      by : (b : Bool) → (b || has is j) ≡ false → (has is j ≡ false → told (message is ns) j ≡ None) → ◌≡◌ {A = Option ℤ} (elim (if b then Some n else None) [ Some y ↦ Some y | None ↦ told (message is ns) j ]) None
      by true e next = absurd (true≢false e)
      by false e next = next e

  module _ (s : Spec) (w : World) where
    -- what a cell holds after a message
    abbrev after : List Instance → List ℤ → InputCell × ℤ → ℤ
    after is ns = latched_cell s w (message is ns)

    -- what it holds, by what is known of it
    abbrev chosen : Bool → Bool → Option ℤ → ℤ → ℤ → ℤ
    chosen previous has told old now = elim previous [ true ↦ if has then old else now | false ↦ unwrap_or told now ]

    -- a field's input that is none of those before
    module _ (is : List Instance) (ns : List ℤ) (i : Instance) (v : ℤ) (long : length ns ≡ length is) (new : has is i ≡ false) (p : ℕ) where
      abbrev zs : List (InputCell × ℤ)
      zs = zip (cells s) w.cells

      abbrev is_own : InputCell × ℤ → Bool
      is_own z = not z.0.previous && same_instance i z.0.input

      abbrev is_before : InputCell × ℤ → Bool
      is_before z = z.0.previous && same_instance i z.0.input

      abbrev old : ℤ
      old = cell s w false i

      -- with the previous cell written
      abbrev between : InputCell × ℤ → ℤ
      between z = cond (is_before z) old (after is ns z)

      own_now : (z : InputCell × ℤ) → is_own z ≡ true → after is ns z ≡ z.1
      own_now z e =
          ap (λ (b : Bool). chosen b (has is z.0.input) (told (message is ns) z.0.input) (cell s w false z.0.input) z.1) (not_false z.0.previous (first_so (not z.0.previous) (same_instance i z.0.input) e))
          ∙ ap (λ (o : Option ℤ). unwrap_or o z.1) (ap (λ j. told (message is ns) j) (sym (instance_same i z.0.input (second_so (not z.0.previous) (same_instance i z.0.input) e))) ∙ none_told is ns i new)
        where
          not_false : (b : Bool) → not b ≡ true → b ≡ false
          not_false true e = absurd (true≢false (sym e))
          not_false false e = refl

      held_is : (z : InputCell × ℤ) (b : Bool) → is_own z ≡ b → held false i z ≡ (if b then Some z.1 else None)
      held_is z b e = ap (λ (c : Bool). if c then Some z.1 else None) (ap (λ (c : Bool). not z.0.previous && c) (swap z.0.input i) ∙ e)

      old_there : position_from is_own 0 zs ≡ Some p → get_or (map (after is ns) zs) p (pos 0) ≡ old
      old_there h =
          sym (first_there is_own (held false i) (after is ns) (pos 0) zs p (λ z e. held_is z true e ∙ ap (λ (n : ℤ). Some n) (sym (own_now z e))) (λ z e. held_is z false e) h)

      between_true : (z : InputCell × ℤ) → is_before z ≡ true → between z ≡ old
      between_true z e = ap (λ (b : Bool). cond b old (after is ns z)) e

      between_false : (z : InputCell × ℤ) → is_before z ≡ false → between z ≡ after is ns z
      between_false z e = ap (λ (b : Bool). cond b old (after is ns z)) e

      copy : (previous : Option ℕ) → position_from is_own 0 zs ≡ Some p → position_from is_before 0 zs ≡ previous → Once is_before zs → map between zs ≡ copied previous p (map (after is ns) zs)
      copy None h e o = none_set is_before (after is ns) between zs e between_false
      copy (Some q) h e o = one_set is_before (after is ns) between zs q old e o between_true between_false ∙ ap (λ (n : ℤ). slice_set (map (after is ns) zs) q n) (sym (old_there h))

      abbrev next : InputCell × ℤ → ℤ
      next = after (is ++ (i ∷ [])) (ns ++ (v ∷ []))

      -- by what the cell is, and whether it is of this input
      next_is : (z : InputCell × ℤ) (b c : Bool) → z.0.previous ≡ b → same_instance i z.0.input ≡ c
          → next z ≡ chosen b (has is z.0.input || c) (or_else (told (message is ns) z.0.input) (if c then Some v else None)) (cell s w false z.0.input) z.1
      next_is z b c e f =
          let g = swap z.0.input i ∙ f in
          ap (λ (x : Bool). chosen x (has (is ++ (i ∷ [])) z.0.input) (told (message (is ++ (i ∷ [])) (ns ++ (v ∷ []))) z.0.input) (cell s w false z.0.input) z.1) e
          ∙ ap (λ (x : Bool). chosen b x (told (message (is ++ (i ∷ [])) (ns ++ (v ∷ []))) z.0.input) (cell s w false z.0.input) z.1) (has_more is i z.0.input ∙ ap (λ (x : Bool). has is z.0.input || x) g)
          ∙ ap (λ (o : Option ℤ). chosen b (has is z.0.input || c) o (cell s w false z.0.input) z.1)
          (told_more is ns i v z.0.input long ∙ ap (λ (x : Bool). or_else (told (message is ns) z.0.input) (if x then Some v else None)) g)

      or_true : (b : Bool) → (b || true) ≡ true
      or_true true = refl
      or_true false = refl

      or_false : (b : Bool) → (b || false) ≡ b
      or_false true = refl
      or_false false = refl

      now_is : (z : InputCell × ℤ) (b : Bool) → z.0.previous ≡ b → after is ns z ≡ chosen b (has is z.0.input) (told (message is ns) z.0.input) (cell s w false z.0.input) z.1
      now_is z b e = ap (λ (x : Bool). chosen x (has is z.0.input) (told (message is ns) z.0.input) (cell s w false z.0.input) z.1) e

      own_next : (z : InputCell × ℤ) → is_own z ≡ true → next z ≡ v
      own_next z e = by z.0.previous (same_instance i z.0.input) refl refl e
        where
          by : (b c : Bool) → z.0.previous ≡ b → same_instance i z.0.input ≡ c → (not b && c) ≡ true → next z ≡ v
          by true c e f h = absurd (true≢false (sym h))
          by false false e f h = absurd (true≢false (sym h))
          by false true e f h =
              next_is z false true e f
              ∙ ap (λ (o : Option ℤ). unwrap_or (or_else o (Some v)) z.1) (ap (λ j. told (message is ns) j) (sym (instance_same i z.0.input f)) ∙ none_told is ns i new)

      other_next : (z : InputCell × ℤ) → is_own z ≡ false → next z ≡ between z
      other_next z e = by z.0.previous (same_instance i z.0.input) refl refl e
        where
          by : (b c : Bool) → z.0.previous ≡ b → same_instance i z.0.input ≡ c → (not b && c) ≡ false → next z ≡ between z
          by false true e f h = absurd (true≢false h)
          by true true e f h =
              next_is z true true e f
              ∙ ap (λ (x : Bool). if x then cell s w false z.0.input else z.1) (or_true (has is z.0.input))
              ∙ ap (λ j. cell s w false j) (sym (instance_same i z.0.input f))
              ∙ sym (between_true z (ap (λ (x : Bool). x && same_instance i z.0.input) e ∙ f))
          by true false e f h =
              next_is z true false e f
              ∙ ap (λ (x : Bool). if x then cell s w false z.0.input else z.1) (or_false (has is z.0.input))
              ∙ sym (now_is z true e)
              ∙ sym (between_false z (ap (λ (x : Bool). x && same_instance i z.0.input) e ∙ f))
          by false false e f h =
              next_is z false false e f
              ∙ ap (λ (o : Option ℤ). unwrap_or o z.1) (or_none (told (message is ns) z.0.input))
              ∙ sym (now_is z false e)
              ∙ sym (between_false z (ap (λ (x : Bool). x && same_instance i z.0.input) e))

      step : (previous : Option ℕ) → position_from is_own 0 zs ≡ Some p → position_from is_before 0 zs ≡ previous → Once is_own zs → Once is_before zs → map next zs ≡ slice_set (copied previous p (map (after is ns) zs)) p v
      step previous h e o b = one_set is_own between next zs p v h o own_next other_next ∙ ap (λ (xs : List ℤ). slice_set xs p v) (copy previous h e b)

    same_pair : (f : Field) (o q : Option ℕ) → written f ≡ (o, q) → (o ≡ Some f.cell) × (q ≡ f.previous)
    same_pair f o q h = (sym (ap (λ (x : Option ℕ × Option ℕ). x.0) h), sym (ap (λ (x : Option ℕ × Option ℕ). x.1) h))

    module _ (full : length w.cells ≡ length (cells s)) where
      all_steps : (xs : List Instance) (fs : List Field) (vs : List ℤ) (is : List Instance) (ns : List ℤ) → FieldsAre s xs fs → length vs ≡ length xs → length ns ≡ length is → AreFresh is xs → AreOnce s xs
          → put_all fs vs (map (after is ns) (zip (cells s) w.cells)) ≡ map (after (is ++ xs) (ns ++ vs)) (zip (cells s) w.cells)
      all_steps [] [] [] is ns h l m n o = ap (λ (js : List Instance). map (after js ns) (zip (cells s) w.cells)) (sym (append-nil is)) ∙ ap (λ (ms : List ℤ). map (after (is ++ []) ms) (zip (cells s) w.cells)) (sym (append-nil ns))
      all_steps [] [] (v ∷ vs) is ns h l m n o = absurd (omega (arith, l))
      all_steps [] (f ∷ fs) vs is ns h l m n o = absurd (let no : ⊥ = cc in no)
      all_steps (x ∷ xs) [] vs is ns h l m n o = absurd (let no : ⊥ = cc in no)
      all_steps (x ∷ xs) (f ∷ fs) [] is ns h l m n o = absurd (omega (arith, l))
      all_steps (x ∷ xs) (f ∷ fs) (v ∷ vs) is ns h l m n o =
          let pair = same_pair f (cell_place s x) (previous_place s x) (first_same (written f) (places s x) (map written fs) (map (places s) xs) h) in
          ap (put_all fs vs)
          (sym (step is ns x v m n.0 f.cell f.previous (zip_place (λ (c : InputCell). not c.previous && same_instance x c.input) 0 (cells s) w.cells full ∙ pair.0)
          (zip_place (λ (c : InputCell). c.previous && same_instance x c.input) 0 (cells s) w.cells full ∙ pair.1) (zip_once (λ (c : InputCell). not c.previous && same_instance x c.input) (cells s) w.cells o.0.0)
          (zip_once (λ (c : InputCell). c.previous && same_instance x c.input) (cells s) w.cells o.0.1)))
          ∙ all_steps xs fs vs (is ++ (x ∷ [])) (ns ++ (v ∷ [])) (rest_same (written f) (places s x) (map written fs) (map (places s) xs) h) (omega (arith, l)) (one_longer is x ns v m) n.1 o.1
          ∙ ap (λ (js : List Instance). map (after js ((ns ++ (v ∷ [])) ++ vs)) (zip (cells s) w.cells)) (append_assoc is (x ∷ []) xs)
          ∙ ap (λ (ms : List ℤ). map (after (is ++ (x ∷ xs)) ms) (zip (cells s) w.cells)) (append_assoc ns (v ∷ []) vs)
        where
          first_same : {P : Type 0} (a b : P) (ps qs : List P) → (a ∷ ps) ≡ (b ∷ qs) → a ≡ b
          first_same a b ps qs e = cc

          rest_same : {P : Type 0} (a b : P) (ps qs : List P) → (a ∷ ps) ≡ (b ∷ qs) → ps ≡ qs
          rest_same a b ps qs e = cc

          one_longer : (is : List Instance) (x : Instance) (ns : List ℤ) (v : ℤ) → length ns ≡ length is → length (ns ++ (v ∷ [])) ≡ length (is ++ (x ∷ []))
          one_longer is x ns v e = let a = longer ns v in let b = longer is x in omega (arith, a, b, e)
            where
              longer : {P : Type 0} (ps : List P) (q : P) → length (ps ++ (q ∷ [])) ≡ length ps + 1
              longer [] q = refl
              longer (p ∷ ps) q = let e = longer ps q in omega (arith, e)

      no_steps : (cs : List InputCell) (ms : List ℤ) → length ms ≡ length cs → map (after [] []) (zip cs ms) ≡ ms
      no_steps [] [] h = refl
      no_steps [] (m ∷ ms) h = absurd (omega (arith, h))
      no_steps (c ∷ cs) [] h = absurd (omega (arith, h))
      no_steps (c ∷ cs) (m ∷ ms) h = ap (λ (n : ℤ). n ∷ map (after [] []) (zip cs ms)) (by c.previous) ∙ ap (λ (ns : List ℤ). m ∷ ns) (no_steps cs ms (omega (arith, h)))
        where
          by : (b : Bool) → chosen b false None (cell s w false c.input) m ≡ m
          by true = refl
          by false = refl

      pub put_is_latched : (xs : List Instance) (fs : List Field) (vs : List ℤ) → FieldsAre s xs fs → length vs ≡ length xs → AreFresh [] xs → AreOnce s xs → put_all fs vs w.cells ≡ (latched s w (message xs vs)).cells
      put_is_latched xs fs vs h l n o = ap (put_all fs vs) (sym (no_steps (cells s) w.cells full)) ∙ all_steps xs fs vs [] [] h l refl n o
