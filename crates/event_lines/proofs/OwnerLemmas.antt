-- The declarations of global names, by their numbers.
use Rattle.std.proofs.Common.{◌≡◌, ℕ, zero, suc, ◌+◌, ◌<◌, List, [], ◌∷◌, ◌++◌, map, flat_map, length, replicate, drop, get_or, slice_get, Option, Some, None, refl, sym, ap, ◌∙◌, append_assoc}
use Rattle.std.specs.Option.{option_map, option_map_or}
use Rattle.std.proofs.lemmas.List.{map-append, length_push}
use Rattle.std.proofs.lemmas.Option.{slice_get-map}
use Rattle.rsml_syntax.specs.declared.syntax.Decl.{Decl}
use Rattle.rsml_syntax.specs.text.Names.{Name, place_of}
use Rattle.rsml_syntax.specs.rules.Globals.{Known, names_of, values_of, known_values, known_by}
use Rattle.rsml_names.proofs.Gathering.{split}
use Rattle.event_lines.specs.helpers.Declared.{owners_from, declared_by}

map_replicate : {A B : Type 0} (f : A → B) (n : ℕ) (x : A) → map f (replicate n x) ≡ replicate n (f x)
map_replicate f zero x = refl
map_replicate f (suc n) x = ap (λ ys. f x ∷ ys) (map_replicate f n x)

-- the declaration of what is known
abbrev decl_of : Known → Option Decl
decl_of k = Some k.decl

values_decl : (d : Decl) (n : ℕ) (names : List Name) → map decl_of (known_values d n names) ≡ replicate (length names) (Some d)
values_decl d n [] = refl
values_decl d n (name ∷ names) = ap (λ ys. Some d ∷ ys) (values_decl d (n + 1) names)

known_decl : (d : Decl) → map decl_of (known_by d) ≡ replicate (length (names_of d)) (Some d)
known_decl d = ap (λ ys. Some d ∷ ys) (values_decl d 0 (values_of d))

item_behind : {A : Type 0} (xs : List A) (y : A) (ys : List A) → slice_get (xs ++ (y ∷ ys)) (length xs) ≡ Some y
item_behind [] y ys = refl
item_behind (x ∷ xs) y ys = item_behind xs y ys

owners_behind : (front ds all : List Decl) (n : ℕ) → all ≡ front ++ ds → n ≡ length front → map (λ k. slice_get all k) (owners_from n ds) ≡ map decl_of (flat_map known_by ds)
owners_behind front [] all n e l = refl
owners_behind front (d ∷ ds) all n e l =
    let here : slice_get all n ≡ Some d = ap (λ (xs : List Decl). slice_get xs n) e ∙ ap (λ k. slice_get (front ++ (d ∷ ds)) k) l ∙ item_behind front d ds in
    let later = owners_behind (front ++ (d ∷ [])) ds all (n + 1) (e ∙ sym (append_assoc front (d ∷ []) ds)) (ap (λ k. k + 1) l ∙ sym (length_push front d)) in
    map-append (λ k. slice_get all k) (replicate (length (names_of d)) n) (owners_from (n + 1) ds)
    ∙ ap (λ (ys : List (Option Decl)). ys ++ map (λ k. slice_get all k) (owners_from (n + 1) ds))
    (map_replicate (λ k. slice_get all k) (length (names_of d)) n ∙ ap (replicate (length (names_of d))) here ∙ sym (known_decl d))
    ∙ ap (λ (ys : List (Option Decl)). map decl_of (known_by d) ++ ys) later
    ∙ sym (map-append decl_of (known_by d) (flat_map known_by ds))

-- the number at the place of a name is that of its declaration
pub owner_at : (ds : List Decl) (name : Name) (place : ℕ) → place_of name (flat_map names_of ds) ≡ Some place →
    option_map (λ k. slice_get ds k) (slice_get (owners_from 0 ds) place) ≡ option_map (λ d. Some d) (declared_by ds name)
owner_at ds name place e =
    sym (slice_get-map (λ k. slice_get ds k) (owners_from 0 ds) place)
    ∙ ap (λ (xs : List (Option Decl)). slice_get xs place) (owners_behind [] ds ds 0 refl refl)
    ∙ slice_get-map decl_of (flat_map known_by ds) place
    ∙ by (slice_get (flat_map known_by ds) place)
    ∙ sym (ap (λ (o : Option ℕ). option_map (λ d. Some d) (option_map (λ k. k.decl) (option_map_or (λ p. slice_get (flat_map known_by ds) p) o None))) e)
  where
    by : (o : Option Known) → option_map decl_of o ≡ option_map (λ d. Some d) (option_map (λ k. k.decl) o)
    by None = refl
    by (Some k) = refl

pub no_owner : (ds : List Decl) (name : Name) → place_of name (flat_map names_of ds) ≡ None → declared_by ds name ≡ None
no_owner ds name e = ap (λ (o : Option ℕ). option_map (λ k. k.decl) (option_map_or (λ p. slice_get (flat_map known_by ds) p) o None)) e

-- Numbers one after another: those of the rest follow.

pub owners_turn : (ds : List Decl) (i : ℕ) (d : Decl) (front : List ℕ) → i < length ds → d ≡ get_or ds i d →
    (front ++ replicate (length (names_of d)) i) ++ owners_from (i + 1) (drop (i + 1) ds) ≡ front ++ owners_from i (drop i ds)
owners_turn ds i d front h e =
    append_assoc front (replicate (length (names_of d)) i) (owners_from (i + 1) (drop (i + 1) ds))
    ∙ ap (λ (xs : List Decl). front ++ owners_from i xs) (sym (split ds i d h e))
