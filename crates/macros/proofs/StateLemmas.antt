-- Phrases about states alone.
use Rattle.std.proofs.Common.{◌≡◌, ℕ, zero, suc, ◌<◌, Bool, true, ◌&&◌, List, [], ◌∷◌, All, map, flat_map, length, get_or, Option, Some, None, IfSome, Result, Ok, Err, IfOk, refl, sym, ap, ◌∙◌, subst, slice_get, arith}
use Rattle.std.specs.List.{list_any, list_all}
use Rattle.std.proofs.lemmas.List.{length-map, get_or-map}
use Rattle.std.proofs.Math.Bool.{or-false}
use Rattle.std.proofs.lemmas.List.Elements.{All-append}
use Rattle.std.proofs.lemmas.List.Folds.{list_any_at, list_all-append}
use Rattle.rsml_syntax.specs.declared.world.World.{World}
use Rattle.rsml_meaning.specs.Worlds.{IsWorld}
use Rattle.and_or_tables.specs.Ground.{known}
use Rattle.rsml_ground.specs.Grounded.{IsGrounded}
use Rattle.rsml_ground.specs.declared.phrases.GroundPhrase.{GroundPhrase}
use Rattle.rsml_ground.specs.declared.phrases.GroundPhrase.TheVariants as phrases
use Rattle.rsml_ground.specs.Truths.{Grounded, is_active, truths_in}
use Rattle.macros.proofs.Asking.{truth_is}
use Rattle.rsml_ground.specs.declared.choices.Choice.{Choice}
use Rattle.rsml_ground.specs.Choices.{AreOfComponents}
use Rattle.macros.specs.StatePhrases.{AreWays, some_chosen}

-- the phrase that a state is active is true where it is
pub says_state : (g : Grounded) (k node : ℕ) (p : GroundPhrase) (found : Option ℕ) → IsGrounded g → slice_get g.phrases k ≡ Some p → p ≡ phrases.In node
    → IfSome found (λ x. x ≡ node) → IfSome found (λ x. (w : World) → is_active g.spec w x ≡ known (truths_in g w) k)
says_state g k node p None stands at is same = tt
says_state g k node p (Some x) stands at is same = λ w. ap (is_active g.spec w) same ∙ truth_is g w k p (phrases.In node) stands at is

-- the lists that were found are the ways of a phrase, as they are chosen where it is true
pub ways_found : {A E : Type 0} (g : Grounded) (k : ℕ) (lists : A → List (List Choice)) (truth : World → Bool) (o : Result (Option A) E)
    → IfOk o (λ found. IfSome found (λ a. All (AreOfComponents g.spec) (lists a)))
    → IfOk o (λ found. IfSome found (λ a. (w : World) → IsWorld g.spec w → some_chosen w.choices (lists a) ≡ truth w))
    → ((w : World) → truth w ≡ known (truths_in g w) k)
    → IfOk o (λ found. IfSome found (λ a. AreWays g k (lists a)))
ways_found g k lists truth (Err e) fit right is = tt
ways_found g k lists truth (Ok None) fit right is = tt
ways_found g k lists truth (Ok (Some a)) fit right is = record { components = fit; right = λ w in_spec. right w in_spec ∙ is w }

-- what holds of all that is made of items holds of what is made of one of them
pub of_one : {A B : Type 0} (P : B → Type 0) (f : A → B) (xs : List A) (i : ℕ) (x : A) → All P (map f xs) → i < length xs → x ≡ get_or xs i x → P (f x)
of_one P f xs i x all within is =
    subst P (get_or-map f xs i x (f x) within ∙ sym (ap f is)) (all i (f x) (let same = length-map xs f in omega (arith, within, same)))

-- what holds of all that is made of items
pub of_each : {A B : Type 0} (P : B → Type 0) (f : A → B) (xs : List A) → All P (map f xs) → All (λ x. P (f x)) xs
of_each P f xs all i d within = subst P (get_or-map f xs i d (f d) within) (all i (f d) (let same = length-map xs f in omega (arith, within, same)))

-- what is made of one item passes, so that some does
pub some_of_one : {A B : Type 0} (p : B → Bool) (f : A → B) (xs : List A) (i : ℕ) (x : A) → i < length xs → x ≡ get_or xs i x → p (f x) ≡ true
    → true ≡ list_any p (map f xs)
some_of_one p f xs i x within is passed =
    sym (list_any_at p (map f xs) i (f x) (let same = length-map xs f in omega (arith, within, same)) (ap p (get_or-map f xs i x (f x) within ∙ sym (ap f is)) ∙ passed))

-- all items of lists pass where those of each do
pub all_of_lists : {A B : Type 0} (p : B → Bool) (f : A → List B) (xs : List A) → list_all p (flat_map f xs) ≡ list_all (list_all p) (map f xs)
all_of_lists p f [] = refl
all_of_lists p f (x ∷ xs) = list_all-append p (f x) (flat_map f xs) ∙ ap (λ b. list_all p (f x) && b) (all_of_lists p f xs)

-- what holds of the items of each list holds of all their items
pub of_lists : {A B : Type 0} (P : B → Type 0) (f : A → List B) (xs : List A) → All (All P) (map f xs) → All P (flat_map f xs)
of_lists P f [] all = λ i d within. absurd (omega (arith, within))
of_lists P f (x ∷ xs) all = All-append P (f x) (flat_map f xs) (all 0 (f x) (omega arith)) (of_lists P f xs (λ i d within. all (suc i) d (omega (arith, within))))

-- the one list of all items
pub joined_fits : {A B : Type 0} (P : B → Type 0) (f : A → List B) (xs ys : List A) (one : List (List B)) → one ≡ flat_map f ys ∷ [] → ys ≡ xs → All (All P) (map f xs) → All (All P) one
joined_fits {B = B} P f xs ys one is same all =
    subst (λ ls. All (All P) ls) (sym is) (alone (flat_map f ys) (of_lists P f ys (subst (λ zs. All (All P) (map f zs)) (sym same) all)))
  where
    alone : (zs : List B) → All P zs → All (All P) (zs ∷ [])
    alone zs h zero d within = h
    alone zs h (suc i) d within = absurd (omega (arith, within))

pub joined_right : {A B : Type 0} (p : B → Bool) (f : A → List B) (xs ys : List A) (one : List (List B)) (truth : Bool) → one ≡ flat_map f ys ∷ [] → ys ≡ xs
    → list_all (list_all p) (map f xs) ≡ truth → list_any (list_all p) one ≡ truth
joined_right p f xs ys one truth is same all =
    ap (list_any (list_all p)) is ∙ or-false (list_all p (flat_map f ys)) ∙ all_of_lists p f ys ∙ ap (λ zs. list_all (list_all p) (map f zs)) same ∙ all
