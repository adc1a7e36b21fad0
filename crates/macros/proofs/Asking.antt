-- What is asked one after the other: phrases until one settles the truth, and cases until one has a true guard.
use Rattle.std.proofs.Common.{◌≡◌, ℕ, ◌+◌, ◌<◌, Bool, true, false, not, ◌||◌, ◌&&◌, if◌then◌else◌, List, [], length, take, map, Option, Some, ℤ, refl, sym, ap, ◌∙◌, subst, slice_get, arith, get_or}
use Rattle.std.specs.List.{All, list_any, list_all}
use Rattle.std.proofs.Math.Bool.{beq}
use Rattle.std.proofs.lemmas.List.Folds.{list_any_at, list_all_at, list_any_more, list_all_more}
use Rattle.std.proofs.lemmas.List.{length-map}
use Rattle.std.proofs.lemmas.Option.{slice_get_within}
use Rattle.rsml_syntax.specs.declared.world.World.{World}
use Rattle.rsml_meaning.specs.Words.{Each}
use Rattle.and_or_tables.specs.Ground.{known}
use Rattle.rsml_ground.specs.declared.definitions.GroundCase.{GroundCase}
use Rattle.rsml_ground.specs.declared.definitions.GroundGuard.{GroundGuard}
use Rattle.rsml_ground.specs.Rests.{CaseFits, DefinitionFits}
use Rattle.rsml_ground.specs.declared.definitions.Definition.{Definition}
use Rattle.rsml_ground.specs.declared.definitions.Definition.TheVariants as definition
use Rattle.rsml_ground.specs.declared.phrases.GroundPhrase.{GroundPhrase}
use Rattle.rsml_ground.specs.Truths.{Grounded, case_values, function_values, phrase_truth, truths_in}
use Rattle.rsml_ground.specs.Grounded.{IsGrounded}
use Rattle.rsml_ground.proofs.PhraseLemmas.{truths_are_of_phrases}
use Rattle.macros.specs.Guards.{guards_of}
use Rattle.macros.proofs.Below.{IsBelow, each_all, each_so}

-- the truth of the phrase of a number, of its form
pub truth_is : (g : Grounded) (w : World) (k : ℕ) (p q : GroundPhrase) → IsGrounded g → slice_get g.phrases k ≡ Some p → p ≡ q → phrase_truth g w (truths_in g w) q ≡ known (truths_in g w) k
truth_is g w k p q is at same = sym (truths_are_of_phrases g w is k q (at ∙ ap Some same))

-- numbers below that of a phrase are those of phrases
pub numbers_within : (ps : List GroundPhrase) (n : ℕ) (p : GroundPhrase) (ks : List ℕ) → slice_get ps n ≡ Some p → Each (IsBelow n) ks → All (λ k. k < length ps) ks
numbers_within ps n p ks at names =
    each_all (λ k. k < length ps) ks (each_so (λ k less. let within : k < length ps = omega (arith, less, slice_get_within ps n p at) in within) ks names)

-- the values of a function are those of its cases
pub values_of_cases : (cells : List ℤ) (ts : List Bool) (o : Option Definition) (d : Definition) (list cases : List GroundCase) → o ≡ Some d → d ≡ definition.Function list → cases ≡ list
    → case_values cells ts cases ≡ function_values cells ts o
values_of_cases cells ts o d list cases at is same = ap (case_values cells ts) same ∙ sym (ap (function_values cells ts) (at ∙ ap Some is))

-- the guards of a function are those of its cases, in order
pub guards_of_cases : (ds : List Definition) (number : ℕ) (gs : List GroundGuard) (d : Definition) (list cases : List GroundCase)
    → ((e : Definition) → slice_get ds number ≡ Some e → gs ≡ guards_of e) → slice_get ds number ≡ Some d → d ≡ definition.Function list → cases ≡ list
    → gs ≡ map (λ c. c.guard) cases
guards_of_cases ds number gs d list cases all at is same = all d at ∙ ap guards_of is ∙ ap (λ (cs : List GroundCase). map (λ c. c.guard) cs) (sym same)

-- each case of a function that fits does
pub cases_fit : (cells n : ℕ) (d : Definition) (list cases : List GroundCase) → DefinitionFits cells n d → d ≡ definition.Function list → cases ≡ list → All (CaseFits cells n) cases
cases_fit cells n d list cases fits is same =
    subst (λ cs. All (CaseFits cells n) cs) (sym same) (each_all (CaseFits cells n) list (subst (DefinitionFits cells n) is fits))

-- there is a guard for each case
pub has_guard : (gs : List GroundGuard) (cs : List GroundCase) (i : ℕ) → gs ≡ map (λ c. c.guard) cs → i < length cs → i < length gs
has_guard gs cs i all within = subst (λ (xs : List GroundGuard). i < length xs) (sym all) (let h : i < length (map (λ c. c.guard) cs) = omega (arith, within, length-map cs (λ c. c.guard)) in h)

-- What the first item with a truth settles.

abbrev pub settled : {A : Type 0} → Bool → (A → Bool) → List A → Bool
settled settles p xs = if settles then list_any p xs else list_all p xs

pub none_settles : {A : Type 0} (settles : Bool) (p : A → Bool) → settled settles p [] ≡ not settles
none_settles true p = refl
none_settles false p = refl

pub none_yet : {A : Type 0} (settles : Bool) (p : A → Bool) (xs : List A) (i : ℕ) (d : A) → i < length xs → beq (p (get_or xs i d)) settles ≡ false
    → settled settles p (take i xs) ≡ not settles → settled settles p (take (i + 1) xs) ≡ not settles
none_yet true p xs i d within not_it before = list_any_more p xs i d within ∙ ap (λ b. b || p (get_or xs i d)) before ∙ is_false (p (get_or xs i d)) not_it
  where
    is_false : (b : Bool) → beq b true ≡ false → b ≡ false
    is_false false e = refl
    is_false true e = e
none_yet false p xs i d within not_it before = list_all_more p xs i d within ∙ ap (λ b. b && p (get_or xs i d)) before ∙ is_true (p (get_or xs i d)) not_it
  where
    is_true : (b : Bool) → beq b false ≡ false → b ≡ true
    is_true true e = refl
    is_true false e = sym e

pub this_settles : {A : Type 0} (settles : Bool) (p : A → Bool) (xs : List A) (i : ℕ) (d : A) → i < length xs → beq (p (get_or xs i d)) settles ≡ true
    → settled settles p xs ≡ settles
this_settles true p xs i d within is = list_any_at p xs i d within (is_true (p (get_or xs i d)) is)
  where
    is_true : (b : Bool) → beq b true ≡ true → b ≡ true
    is_true true e = refl
    is_true false e = e
this_settles false p xs i d within is = list_all_at p xs i d within (is_false (p (get_or xs i d)) is)
  where
    is_false : (b : Bool) → beq b false ≡ true → b ≡ false
    is_false false e = refl
    is_false true e = sym e
