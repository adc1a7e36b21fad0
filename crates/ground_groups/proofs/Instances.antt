-- No two events and no two sends are one.
use Rattle.std.proofs.Common.{◌≡◌, ℕ, zero, suc, Bool, true, false, ◌||◌, List, [], ◌∷◌, ◌++◌, map, flat_map, Some, Option, None, inl, inr, ⊎_elim, refl, sym, ap, ◌∙◌, subst, slice_get, true≢false, arith}
use Rattle.std.specs.Prelude.{⊤}
use Rattle.std.specs.List.{list_any}
use Rattle.std.proofs.lemmas.Option.{same_Some}
use Rattle.std.proofs.lemmas.List.{append_assoc}
use Rattle.rsml_syntax.specs.declared.syntax.Spec.{Spec}
use Rattle.rsml_syntax.specs.declared.syntax.Decl.{Decl}
use Rattle.rsml_syntax.specs.declared.syntax.Decl.TheVariants as decl
use Rattle.rsml_syntax.specs.declared.syntax.Amount.{Amount}
use Rattle.rsml_syntax.specs.text.Names.{Name, same}
use Rattle.rsml_syntax.specs.rules.Globals.{Globals, many, indices, up_to, name_of, names_of, values_of}
use Rattle.rsml_syntax.specs.rules.Rules.{broken_rule}
use Rattle.rsml_syntax.specs.limits.Checked.{IsChecked}
use Rattle.rsml_meaning.specs.Words.{Instance, IsOne, at}
use Rattle.rsml_meaning.specs.Instances.{globals_of, instances, events_of, events}
use Rattle.rsml_meaning.specs.Interfaces.{sends_of, sends}
use Rattle.rsml_meaning.proofs.rules.Sizes.{of_up_to}
use Rattle.rsml_meaning.proofs.Same.{name_itself}
use Rattle.state_arrays.proofs.Distinct.{names_in, name_new}
use Rattle.ground_groups.proofs.Tables.{one_of_append}

-- no item is among those behind it
abbrev pub AreFresh : {A : Type 0} → List A → Type 0
AreFresh [] = ⊤
AreFresh (x ∷ xs) = (IsOne x xs → ⊥) × AreFresh xs

fresh_append : {A : Type 0} (xs ys : List A) → AreFresh xs → AreFresh ys → ((x : A) → IsOne x xs → IsOne x ys → ⊥) → AreFresh (xs ++ ys)
fresh_append [] ys f g h = g
fresh_append (x ∷ xs) ys f g h = ((λ m. ⊎_elim (λ a. f.0 a) (λ b. h x (inl refl) b) (one_of_append x xs ys m)), fresh_append xs ys f.1 g (λ y a b. h y (inr a) b))

one_there : {A : Type 0} (xs : List A) (i : ℕ) (x : A) → slice_get xs i ≡ Some x → IsOne x xs
one_there [] i x h = absurd (let no : ⊥ = cc in no)
one_there (y ∷ xs) zero x h = inl (sym (same_Some y x h))
one_there (y ∷ xs) (suc i) x h = inr (one_there xs i x h)

fresh_place : {A : Type 0} (xs : List A) → AreFresh xs → (i j : ℕ) (x : A) → slice_get xs i ≡ Some x → slice_get xs j ≡ Some x → i ≡ j
fresh_place [] f i j x h k = absurd (let no : ⊥ = cc in no)
fresh_place (y ∷ xs) f zero zero x h k = refl
fresh_place (y ∷ xs) f zero (suc j) x h k = absurd (f.0 (subst (λ z. IsOne z xs) (sym (same_Some y x h)) (one_there xs j x k)))
fresh_place (y ∷ xs) f (suc i) zero x h k = absurd (f.0 (subst (λ z. IsOne z xs) (sym (same_Some y x k)) (one_there xs i x h)))
fresh_place (y ∷ xs) f (suc i) (suc j) x h k = ap suc (fresh_place xs f.1 i j x h k)

-- Instances of one name.

index_of_one : (name : Name) (is : List ℕ) (x : Instance) → IsOne x (map (at name) is) → IsOne x.index is × (x.name ≡ name)
index_of_one name [] x m = absurd m
index_of_one name (i ∷ is) x (inl e) = (inl (ap (λ z. z.index) e), ap (λ z. z.name) e)
index_of_one name (i ∷ is) x (inr m) = let r = index_of_one name is x m in (inr r.0, r.1)

fresh_at : (name : Name) (is : List ℕ) → AreFresh is → AreFresh (map (at name) is)
fresh_at name [] f = tt
fresh_at name (i ∷ is) f = ((λ m. f.0 (index_of_one name is (at name i) m).0), fresh_at name is f.1)

fresh_up_to : (n : ℕ) → AreFresh (up_to n)
fresh_up_to zero = tt
fresh_up_to (suc n) = fresh_append (up_to n) (suc n ∷ []) (fresh_up_to n) ((λ m. m), tt) (λ k a b. apart k a b)
  where
    apart : (k : ℕ) → IsOne k (up_to n) → IsOne k (suc n ∷ []) → ⊥
    apart k a (inl e) = let r = (of_up_to n k a).1 in omega (arith, r, e)
    apart k a (inr m) = m

fresh_indices : (g : Globals) (size : Option Amount) → AreFresh (indices g size)
fresh_indices g None = ((λ m. m), tt)
fresh_indices g (Some amount) = fresh_up_to (many g (Some amount))

fresh_instances : (g : Globals) (name : Name) (size : Option Amount) → AreFresh (instances g name size)
fresh_instances g name size = fresh_at name (indices g size) (fresh_indices g size)

-- What declarations make.

-- what a declaration makes has its name, and no two are one
record Makes (make : Decl → List Instance) : Type 0 where
  pub fresh : (d : Decl) → AreFresh (make d)
  pub named : (d : Decl) (x : Instance) → IsOne x (make d) → x.name ≡ name_of d

-- a declaration among those behind some
record IsFrom (make : Decl → List Instance) (after : List Decl) (x : Instance) : Type 0 where
  pub front : List Decl
  pub d : Decl
  pub back : List Decl
  pub is : after ≡ front ++ (d ∷ back)
  pub among : IsOne x (make d)

made_from : (make : Decl → List Instance) (after : List Decl) (x : Instance) → IsOne x (flat_map make after) → IsFrom make after x
made_from make [] x m = absurd m
made_from make (d ∷ after) x m = ⊎_elim here (λ b. later (made_from make after x b)) (one_of_append x (make d) (flat_map make after) m)
  where
    here : IsOne x (make d) → IsFrom make (d ∷ after) x
    here a = record { front = []; d = d; back = after; is = refl; among = a }

    later : IsFrom make after x → IsFrom make (d ∷ after) x
    later r = record { front = d ∷ r.front; d = r.d; back = r.back; is = ap (λ z. d ∷ z) r.is; among = r.among }

or_true : (b : Bool) → (b || true) ≡ true
or_true true = refl
or_true false = refl

name_in : (name : Name) (before : List Decl) (d : Decl) (after : List Decl) → name ≡ name_of d → list_any (same name) (names_in (before ++ (d ∷ after))) ≡ true
name_in name [] d after e = ap (λ b. b || list_any (same name) (values_of d ++ names_in after)) (subst (λ z. same name z ≡ true) e (name_itself name))
name_in name (c ∷ before) d after e = behind (names_of c) (name_in name before d after e)
  where
    behind : (xs : List Name) → list_any (same name) (names_in (before ++ (d ∷ after))) ≡ true → list_any (same name) (xs ++ names_in (before ++ (d ∷ after))) ≡ true
    behind [] h = h
    behind (x ∷ xs) h = ap (λ b. same name x || b) (behind xs h) ∙ or_true (same name x)

fresh_made : (s : Spec) → broken_rule s ≡ None → (make : Decl → List Instance) → Makes make → (before after : List Decl) → s.decls ≡ before ++ after → AreFresh (flat_map make after)
fresh_made s rules make h before [] e = tt
fresh_made s rules make h before (d ∷ after) e =
    fresh_append (make d) (flat_map make after) (h.fresh d) (fresh_made s rules make h (before ++ (d ∷ [])) after (e ∙ sym (append_assoc before (d ∷ []) after)))
    (λ x a b. apart x a (made_from make after x b))
  where
    apart : (x : Instance) → IsOne x (make d) → IsFrom make after x → ⊥
    apart x a r =
        let split : s.decls ≡ (before ++ (d ∷ r.front)) ++ (r.d ∷ r.back) = e ∙ ap (λ z. before ++ (d ∷ z)) r.is ∙ sym (append_assoc before (d ∷ r.front) (r.d ∷ r.back)) in
        let new = name_new s rules (before ++ (d ∷ r.front)) r.d r.back split in
        let old = name_in (name_of r.d) before d r.front (sym (h.named r.d x r.among) ∙ h.named d x a) in
        true≢false (sym old ∙ new)

events_made : (g : Globals) → Makes (events_of g)
events_made g = record { fresh = fresh; named = named }
  where
    fresh : (d : Decl) → AreFresh (events_of g d)
    fresh (decl.Event name size) = fresh_instances g name size
    fresh (decl.Enumeration name values) = tt
    fresh (decl.Range name low high) = tt
    fresh (decl.Constant name value) = tt
    fresh (decl.Input name size kind initial) = tt
    fresh (decl.Macro name size rows) = tt
    fresh (decl.Function name size cases) = tt
    fresh (decl.Receive name size inputs raised) = tt
    fresh (decl.Send name size fields cases) = tt

    named : (d : Decl) (x : Instance) → IsOne x (events_of g d) → x.name ≡ name_of d
    named (decl.Event name size) x m = (index_of_one name (indices g size) x m).1
    named (decl.Enumeration name values) x m = absurd m
    named (decl.Range name low high) x m = absurd m
    named (decl.Constant name value) x m = absurd m
    named (decl.Input name size kind initial) x m = absurd m
    named (decl.Macro name size rows) x m = absurd m
    named (decl.Function name size cases) x m = absurd m
    named (decl.Receive name size inputs raised) x m = absurd m
    named (decl.Send name size fields cases) x m = absurd m

sends_made : (g : Globals) → Makes (sends_of g)
sends_made g = record { fresh = fresh; named = named }
  where
    fresh : (d : Decl) → AreFresh (sends_of g d)
    fresh (decl.Send name size fields cases) = fresh_instances g name size
    fresh (decl.Event name size) = tt
    fresh (decl.Enumeration name values) = tt
    fresh (decl.Range name low high) = tt
    fresh (decl.Constant name value) = tt
    fresh (decl.Input name size kind initial) = tt
    fresh (decl.Macro name size rows) = tt
    fresh (decl.Function name size cases) = tt
    fresh (decl.Receive name size inputs raised) = tt

    named : (d : Decl) (x : Instance) → IsOne x (sends_of g d) → x.name ≡ name_of d
    named (decl.Send name size fields cases) x m = (index_of_one name (indices g size) x m).1
    named (decl.Event name size) x m = absurd m
    named (decl.Enumeration name values) x m = absurd m
    named (decl.Range name low high) x m = absurd m
    named (decl.Constant name value) x m = absurd m
    named (decl.Input name size kind initial) x m = absurd m
    named (decl.Macro name size rows) x m = absurd m
    named (decl.Function name size cases) x m = absurd m
    named (decl.Receive name size inputs raised) x m = absurd m

pub one_event : (s : Spec) → IsChecked s → (i j : ℕ) (e : Instance) → slice_get (events s) i ≡ Some e → slice_get (events s) j ≡ Some e → i ≡ j
one_event s c = fresh_place (events s) (fresh_made s c.keeps.rules (events_of (globals_of s)) (events_made (globals_of s)) [] s.decls refl)

pub one_send : (s : Spec) → IsChecked s → (i j : ℕ) (x : Instance) → slice_get (sends s) i ≡ Some x → slice_get (sends s) j ≡ Some x → i ≡ j
one_send s c = fresh_place (sends s) (fresh_made s c.keeps.rules (sends_of (globals_of s)) (sends_made (globals_of s)) [] s.decls refl)
