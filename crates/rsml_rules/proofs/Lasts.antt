-- The last of a path.
use Rattle.std.proofs.Common.{◌≡◌, ℕ, suc, ◌-◌, List, [], ◌∷◌, length, slice_get, Option, Some, None, refl, sym, ap, ◌∙◌, arith}
use Rattle.rsml_syntax.specs.declared.syntax.Mention.{Mention}
use Rattle.rsml_syntax.specs.text.Names.{Name}
use Rattle.rsml_syntax.specs.rules.States.{last_of}
use Rattle.rsml_syntax.specs.rules.Uses.{last_name}

-- the last element
abbrev pub last : {A : Type 0} → List A → Option A
last xs = slice_get xs (length xs - 1)

last_more : {A : Type 0} (x y : A) (ys : List A) → last (x ∷ y ∷ ys) ≡ last (y ∷ ys)
last_more x y ys =
    let longer : suc (suc (length ys)) - 1 ≡ suc (length ys) = omega arith in
    let shorter : length ys ≡ suc (length ys) - 1 = omega arith in
    ap (λ (i : ℕ). slice_get (x ∷ y ∷ ys) i) longer ∙ ap (λ (i : ℕ). slice_get (y ∷ ys) i) shorter

pub last_name_some : (m : Mention) (ms : List Mention) (x : Mention) → last ms ≡ Some x → x.name ≡ last_name m ms
last_name_some m [] x h = cc
last_name_some m (n ∷ []) x h = cc
last_name_some m (n ∷ k ∷ ks) x h = last_name_some n (k ∷ ks) x (sym (last_more n k ks) ∙ h)

pub last_name_none : (m : Mention) (ms : List Mention) → last ms ≡ None → m.name ≡ last_name m ms
last_name_none m [] h = refl
last_name_none m (n ∷ []) h = cc
last_name_none m (n ∷ k ∷ ks) h = let h : last (k ∷ ks) ≡ None = sym (last_more n k ks) ∙ h in let e = last_name_none n (k ∷ ks) h in absurd (some_last k ks h)
  where
    some_last : (y : Mention) (ys : List Mention) → last (y ∷ ys) ≡ None → ⊥
    some_last y [] h = cc
    some_last y (z ∷ zs) h = some_last z zs (sym (last_more y z zs) ∙ h)

pub last_of_some : (names : List Name) (x : Name) → last names ≡ Some x → x ≡ last_of names
last_of_some [] x h = cc
last_of_some (n ∷ []) x h = cc
last_of_some (n ∷ k ∷ ks) x h = last_of_some (k ∷ ks) x (sym (last_more n k ks) ∙ h)

pub last_of_none : (names : List Name) → last names ≡ None → names ≡ []
last_of_none [] h = refl
last_of_none (n ∷ []) h = cc
last_of_none (n ∷ k ∷ ks) h = let e = last_of_none (k ∷ ks) (sym (last_more n k ks) ∙ h) in cc
