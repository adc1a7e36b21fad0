-- The kinds of first cases at the places of names.
use Rattle.std.proofs.Common.{◌≡◌, ℕ, zero, suc, ◌<◌, ◌≤◌, List, [], ◌∷◌, map, length, get_or, slice_get, Option, Some, None, refl, sym, ap, ◌∙◌, arith}
use Rattle.std.proofs.lemmas.Option.{same_Some}
use Rattle.std.specs.Option.{option_map, option_map_or}
use Rattle.rsml_syntax.specs.text.Names.{Name, place_of}
use Rattle.rsml_syntax.specs.rules.Globals.{Known, Globals, meaning}
use Rattle.rsml_syntax.specs.rules.Kinds.{Kind, cases_of, function_cases}
use Rattle.rsml_rules.specs.declared.breaches.kinds.FirstKind.{FirstKind}
use Rattle.rsml_rules.specs.breaches.Settings.{first_of, first_kind, first_kinds}

not_below : (i : ℕ) → i < 0 → ⊥
not_below i l = omega arith

-- what stands in a list at a place, where the list is that of other things
at_place : {A B C : Type 0} (f : A → C) (h : B → C) (xs : List A) (ys : List B) (i : ℕ) (x : A) → map f xs ≡ map h ys → i < length xs → x ≡ get_or xs i x → option_map h (slice_get ys i) ≡ Some (f x)
at_place f h [] ys i x e l at = absurd (not_below i l)
at_place f h (a ∷ xs) [] i x e l at = absurd cc
at_place f h (a ∷ xs) (b ∷ ys) zero x e l at = cc
at_place f h (a ∷ xs) (b ∷ ys) (suc i) x e l at = at_place f h xs ys i x (cc) (omega arith) at

-- the kind of the first case of the function at a place, by what stands there
kind_at : (g : Globals) (name : Name) (o : Option Known) (kind : Option (Option Kind)) → meaning g name ≡ o → option_map (λ k. first_kind g (cases_of k)) o ≡ Some kind → kind ≡ first_kind g (function_cases g name)
kind_at g name None kind m e = absurd cc
kind_at g name (Some k) kind m e = sym (same_Some _ _ e) ∙ ap (λ (o : Option Known). first_kind g (option_map_or cases_of o [])) (sym m)

-- where the name is declared
pub first_at : (g : Globals) (name : Name) (fs : List FirstKind) (place : ℕ) (found : FirstKind) → map first_of fs ≡ first_kinds g → Some place ≡ place_of name g.names → place < length fs → found ≡ get_or fs place found →
    first_of found ≡ first_kind g (function_cases g name)
first_at g name fs place found all named l at =
    kind_at g name (slice_get g.known place) (first_of found) (ap (λ (o : Option ℕ). option_map_or (λ p. slice_get g.known p) o None) (sym named))
    (at_place first_of (λ (k : Known). first_kind g (cases_of k)) fs g.known place found all l at)

-- nothing stands past the end of as long a list
past_end : {A B C : Type 0} (f : A → C) (h : B → C) (xs : List A) (ys : List B) (i : ℕ) → map f xs ≡ map h ys → length xs ≤ i → slice_get ys i ≡ None
past_end f h xs [] i e l = refl
past_end f h [] (b ∷ ys) i e l = absurd cc
past_end f h (a ∷ xs) (b ∷ ys) zero e l = absurd (not_below (length xs) (omega arith))
past_end f h (a ∷ xs) (b ∷ ys) (suc i) e l = past_end f h xs ys i (cc) (omega arith)

-- where nothing stands at the place of the name
pub first_past : (g : Globals) (name : Name) (fs : List FirstKind) (place : ℕ) → map first_of fs ≡ first_kinds g → Some place ≡ place_of name g.names → length fs ≤ place → None ≡ first_kind g (function_cases g name)
first_past g name fs place all named l =
    ap (λ (o : Option Known). first_kind g (option_map_or cases_of o []))
    (sym (ap (λ (o : Option ℕ). option_map_or (λ p. slice_get g.known p) o None) (sym named) ∙ past_end first_of (λ (k : Known). first_kind g (cases_of k)) fs g.known place all l))
