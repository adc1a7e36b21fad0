-- What is known of a place of a list is known of its item.
use Rattle.std.proofs.Common.{◌≡◌, ℕ, zero, suc, ◌<◌, List, [], ◌∷◌, map, flat_map, length, get_or, Option, slice_get, refl, sym, ap, ◌∙◌, subst, arith}
use Rattle.std.specs.Prelude.{IfSome, Some, None}
use Rattle.std.proofs.lemmas.List.{length-map}
use Rattle.rsml_syntax.specs.declared.syntax.Spec.{Spec}
use Rattle.rsml_syntax.proofs.Clean.{front_each, back_each}
use Rattle.rsml_meaning.specs.Words.{Instance, Each}
use Rattle.interfaces.specs.declared.field.Field.{Field}
use Rattle.interfaces.specs.Kept.{places, written}
use Rattle.interfaces.proofs.KeptLemmas.{same_some}

pub first_same : {P : Type 0} (a b : P) (ps qs : List P) → (a ∷ ps) ≡ (b ∷ qs) → a ≡ b
first_same a b ps qs e = cc

pub rest_same : {P : Type 0} (a b : P) (ps qs : List P) → (a ∷ ps) ≡ (b ∷ qs) → ps ≡ qs
rest_same a b ps qs e = cc

pub each_at : {A B : Type 0} (P : B → Type 0) (f : A → B) (xs : List A) (i : ℕ) (x : A) → Each P (map f xs) → i < length xs → x ≡ get_or xs i x → P (f x)
each_at P f [] i x h l e = absurd (omega (arith, l))
each_at P f (y ∷ ys) zero x h l e = subst (λ z. P (f z)) (sym e) h.0
each_at P f (y ∷ ys) (suc i) x h l e = each_at P f ys i x h.1 (omega (arith, l)) e

pub some_more : {A : Type 0} (P Q : A → Type 0) (o : Option A) → ((x : A) → P x → Q x) → IfSome o P → IfSome o Q
some_more P Q None f h = tt
some_more P Q (Some x) f h = f x h

pub from_some : {A : Type 0} {G : Type 0} (P : A → Type 0) (xs : List A) (k : ℕ) → k < length xs → ((x : A) → slice_get xs k ≡ Some x → P x → G) → IfSome (slice_get xs k) P → G
from_some P [] k l f h = absurd (omega (arith, l))
from_some P (y ∷ ys) zero l f h = f y refl h
from_some P (y ∷ ys) (suc k) l f h = from_some P ys k (omega (arith, l)) f h

pub each_part : {A B : Type 0} (P : B → Type 0) (f : A → List B) (xs : List A) (i : ℕ) (x : A) → Each P (flat_map f xs) → i < length xs → x ≡ get_or xs i x → Each P (f x)
each_part P f [] i x h l e = absurd (omega (arith, l))
each_part P f (y ∷ ys) zero x h l e = subst (λ z. Each P (f z)) (sym e) (front_each P (f y) (flat_map f ys) h)
each_part P f (y ∷ ys) (suc i) x h l e = each_part P f ys i x (back_each P (f y) (flat_map f ys) h) (omega (arith, l)) e

pub from_two : {A : Type 0} {G : Type 0} (P Q : A → Type 0) (xs : List A) (k : ℕ) → k < length xs → ((x : A) → P x → Q x → G) → IfSome (slice_get xs k) P → IfSome (slice_get xs k) Q → G
from_two P Q [] k l f g h = absurd (omega (arith, l))
from_two P Q (y ∷ ys) zero l f g h = f y g h
from_two P Q (y ∷ ys) (suc k) l f g h = from_two P Q ys k (omega (arith, l)) f g h

pub some_two : {A : Type 0} (P Q R : A → Type 0) (o : Option A) → ((x : A) → P x → Q x → R x) → IfSome o P → IfSome o Q → IfSome o R
some_two P Q R None f g h = tt
some_two P Q R (Some x) f g h = f x g h

pub two_there : {A : Type 0} {G : Type 0} (P Q : A → Type 0) (xs : List A) (k : ℕ) → k < length xs → ((x : A) → slice_get xs k ≡ Some x → P x → Q x → G) → IfSome (slice_get xs k) P → IfSome (slice_get xs k) Q → G
two_there P Q [] k l f g h = absurd (omega (arith, l))
two_there P Q (y ∷ ys) zero l f g h = f y refl g h
two_there P Q (y ∷ ys) (suc k) l f g h = two_there P Q ys k (omega (arith, l)) f g h

pub some_two_there : {A : Type 0} (P Q R : A → Type 0) (o : Option A) → ((x : A) → o ≡ Some x → P x → Q x → R x) → IfSome o P → IfSome o Q → IfSome o R
some_two_there P Q R None f g h = tt
some_two_there P Q R (Some x) f g h = f x refl g h

pub each_get : {A : Type 0} (P : A → Type 0) (xs : List A) (k : ℕ) (x : A) → slice_get xs k ≡ Some x → Each P xs → P x
each_get P [] k x e h = absurd (let no : ⊥ = cc in no)
each_get P (y ∷ ys) zero x e h = subst P (same_some y x e) h.0
each_get P (y ∷ ys) (suc k) x e h = each_get P ys k x e h.1

-- the field at a place is that of the input there
pub field_at : (s : Spec) (xs : List Instance) (fs : List Field) (k : ℕ) (f : Field) → map written fs ≡ map (places s) xs → k < length xs → f ≡ get_or fs k f → IfSome (slice_get xs k) (λ x. written f ≡ places s x)
field_at s [] fs k f h l e = absurd (omega (arith, l))
field_at s (x ∷ xs) [] k f h l e = absurd (let no : ⊥ = cc in no)
field_at s (x ∷ xs) (g ∷ fs) zero f h l e = ap written e ∙ first_same (written g) (places s x) (map written fs) (map (places s) xs) h
field_at s (x ∷ xs) (g ∷ fs) (suc k) f h l e = field_at s xs fs k f (rest_same (written g) (places s x) (map written fs) (map (places s) xs) h) (omega (arith, l)) e

pub fields_long : (s : Spec) (xs : List Instance) (fs : List Field) → map written fs ≡ map (places s) xs → length fs ≡ length xs
fields_long s xs fs h = sym (length-map fs written) ∙ ap length h ∙ length-map xs (places s)
