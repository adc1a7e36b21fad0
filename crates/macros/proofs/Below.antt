-- A phrase names phrases below those on which it rests.
use Rattle.std.proofs.Common.{◌≡◌, ℕ, zero, suc, ◌<◌, ◌≤◌, List, [], ◌∷◌, length, get_or, map, Option, Some, None, refl, sym, ap, ◌∙◌, subst, slice_get, arith}
use Rattle.std.specs.List.{All}
use Rattle.std.proofs.lemmas.Option.{slice_get-get_or, slice_get_within}
use Rattle.rsml_meaning.specs.Words.{Each}
use Rattle.rsml_ground.specs.declared.definitions.GroundGuard.{GroundGuard}
use Rattle.rsml_ground.specs.declared.definitions.GroundGuard.TheVariants as guards
use Rattle.rsml_ground.specs.declared.definitions.GroundCase.{GroundCase}
use Rattle.rsml_ground.specs.declared.definitions.Definition.{Definition}
use Rattle.rsml_ground.specs.declared.definitions.Definition.TheVariants as definition
use Rattle.rsml_ground.specs.declared.phrases.GroundPhrase.{GroundPhrase}
use Rattle.rsml_ground.specs.declared.phrases.GroundPhrase.TheVariants as phrases
use Rattle.rsml_ground.specs.Rests.{GuardFits, CaseFits, DefinitionFits, IsDefined, RestsOn}
use Rattle.rsml_meaning.specs.Cells.{cells}
use Rattle.rsml_ground.specs.Truths.{Grounded}
use Rattle.rsml_ground.specs.Grounded.{IsGrounded}
use Rattle.macros.specs.Guards.{HasShape, GuardBelow, phrases_of, guards_of}
use Rattle.macros.specs.Named.{NamedBy, Named}

pub each_all : {A : Type 0} (P : A → Type 0) (xs : List A) → Each P xs → All P xs
each_all P [] e k d within = absurd (omega (arith, within))
each_all P (x ∷ xs) e zero d within = e.0
each_all P (x ∷ xs) e (suc k) d within = each_all P xs e.1 k d (omega (arith, within))

pub all_each : {A : Type 0} (P : A → Type 0) (xs : List A) → All P xs → Each P xs
all_each P [] a = tt
all_each P (x ∷ xs) a = (a 0 x (omega arith), all_each P xs (λ k d within. a (suc k) d (omega (arith, within))))

pub each_so : {A : Type 0} {P Q : A → Type 0} → ((x : A) → P x → Q x) → (xs : List A) → Each P xs → Each Q xs
each_so f [] e = tt
each_so f (x ∷ xs) e = (f x e.0, each_so f xs e.1)

each_map : {A B : Type 0} (P : B → Type 0) (f : A → B) (xs : List A) → Each (λ x. P (f x)) xs → Each P (map f xs)
each_map P f [] e = tt
each_map P f (x ∷ xs) e = (e.0, each_map P f xs e.1)

pub all_of_map : {A B : Type 0} (P : B → Type 0) (f : A → B) (xs : List A) → All P (map f xs) → All (λ x. P (f x)) xs
all_of_map P f [] a k d within = absurd (omega (arith, within))
all_of_map P f (x ∷ xs) a zero d within = a 0 (f d) (omega arith)
all_of_map P f (x ∷ xs) a (suc k) d within = all_of_map P f xs (λ j e l. a (suc j) e (omega (arith, l))) k d (omega (arith, within))

pub none_some : {A : Type 0} {x : A} → None ≡ Some x → ⊥
none_some h = cc

pub some_same : {A : Type 0} {a b : A} → Some a ≡ Some b → a ≡ b
some_same h = cc

abbrev pub IsBelow : ℕ → ℕ → Type 0
IsBelow n k = k < n

guard_names : (n : ℕ) (g : GroundGuard) → GuardFits n g → Each (IsBelow n) (phrases_of g)
guard_names n guards.Always f = tt
guard_names n (guards.Table table) f = each_map (IsBelow n) (λ row. row.phrase) table.rows (all_each (λ row. row.phrase < n) table.rows f.below)

definition_names : (cells n : ℕ) (d : Definition) → DefinitionFits cells n d → Each (λ g. Each (IsBelow n) (phrases_of g)) (guards_of d)
definition_names cells n (definition.Macro table) f = (guard_names n (guards.Table table) f, tt)
definition_names cells n (definition.Function cases) f =
    each_map (λ g. Each (IsBelow n) (phrases_of g)) (λ c. c.guard) cases (each_so (λ c fits. guard_names n c.guard fits.guard) cases f)

defined_names : (cells n : ℕ) (ds : List Definition) (number : ℕ) → IsDefined ds cells n number → NamedBy (IsBelow n) (slice_get ds number)
defined_names cells n ds number f = subst (NamedBy (IsBelow n)) (sym f.1) (definition_names cells n f.0 f.2)

pub names_below : (ds : List Definition) (cells n : ℕ) (p : GroundPhrase) → RestsOn ds cells n p → Named (IsBelow n) ds p
names_below ds cells n (phrases.In node) r = tt
names_below ds cells n (phrases.Macro number) r = defined_names cells n ds number r
names_below ds cells n (phrases.Any numbers) r = r
names_below ds cells n (phrases.Every numbers) r = r
names_below ds cells n (phrases.Compare left relation right) r = tt
names_below ds cells n (phrases.Function number relation constant) r = defined_names cells n ds number r

-- ---- what rests on fewer phrases rests on more

table_wider : (m n : ℕ) → m ≤ n → (g : GroundGuard) → GuardFits m g → GuardFits n g
table_wider m n less guards.Always f = tt
table_wider m n less (guards.Table table) f = record { shape = f.shape; below = λ k d within. let h = f.below k d within in omega (arith, h, less) }

case_wider : (cells m n : ℕ) → m ≤ n → (c : GroundCase) → CaseFits cells m c → CaseFits cells n c
case_wider cells m n less c f = record { value = f.value; guard = table_wider m n less c.guard f.guard }

pub definition_wider : (cells m n : ℕ) → m ≤ n → (d : Definition) → DefinitionFits cells m d → DefinitionFits cells n d
definition_wider cells m n less (definition.Macro table) f = table_wider m n less (guards.Table table) f
definition_wider cells m n less (definition.Function cases) f = each_so (case_wider cells m n less) cases f

pub rests_wider : (ds : List Definition) (cells m n : ℕ) → m ≤ n → (p : GroundPhrase) → RestsOn ds cells m p → RestsOn ds cells n p
rests_wider ds cells m n less (phrases.In node) r = tt
rests_wider ds cells m n less (phrases.Macro number) r = (r.0, r.1, definition_wider cells m n less r.0 r.2)
rests_wider ds cells m n less (phrases.Any numbers) r = each_so (λ k h. let b : k < n = omega (arith, h, less) in b) numbers r
rests_wider ds cells m n less (phrases.Every numbers) r = each_so (λ k h. let b : k < n = omega (arith, h, less) in b) numbers r
rests_wider ds cells m n less (phrases.Compare left relation right) r = r
rests_wider ds cells m n less (phrases.Function number relation constant) r = (r.0, r.1, definition_wider cells m n less r.0 r.2)

-- ---- definitions

pub defined_fits : (ds : List Definition) (cells n number : ℕ) (d : Definition) → IsDefined ds cells n number → slice_get ds number ≡ Some d → DefinitionFits cells n d
defined_fits ds cells n number d is at = subst (DefinitionFits cells n) (some_same (sym is.1 ∙ at)) is.2

guard_shape : (n : ℕ) (g : GroundGuard) → GuardFits n g → HasShape g
guard_shape n guards.Always f = tt
guard_shape n (guards.Table table) f = f.shape

definition_shape : (cells n : ℕ) (d : Definition) → DefinitionFits cells n d → Each HasShape (guards_of d)
definition_shape cells n (definition.Macro table) f = (f.shape, tt)
definition_shape cells n (definition.Function cases) f = each_map HasShape (λ c. c.guard) cases (each_so (λ c fits. guard_shape n c.guard fits.guard) cases f)

-- the guards of each definition have their shape
pub shapes : (cells n : ℕ) (ds : List Definition) → ((k : ℕ) (d : Definition) → slice_get ds k ≡ Some d → DefinitionFits cells n d)
    → All (λ d. All HasShape (guards_of d)) ds
shapes cells n ds fit k e within =
    let here : Each HasShape (guards_of (get_or ds k e)) = definition_shape cells n (get_or ds k e) (fit k (get_or ds k e) (slice_get-get_or ds k e within)) in
    each_all HasShape (guards_of (get_or ds k e)) here

-- the phrases that guards name, each below a count
pub guards_below : (ds : List Definition) (cells n number : ℕ) (gs : List GroundGuard) → IsDefined ds cells n number
    → ((d : Definition) → slice_get ds number ≡ Some d → gs ≡ guards_of d)
    → All (λ g. All (λ k. k < n) (phrases_of g)) gs
guards_below ds cells n number gs is all =
    subst (λ xs. All (λ g. All (λ k. k < n) (phrases_of g)) xs) (sym (all is.0 is.1))
    (each_all (λ g. All (IsBelow n) (phrases_of g)) (guards_of is.0) (each_so (λ g names. each_all (IsBelow n) (phrases_of g) names) (guards_of is.0) (definition_names cells n is.0 is.2)))

pub below_guard : (n : ℕ) (g : GroundGuard) → GuardBelow n g → All (λ k. k < n) (phrases_of g)
below_guard n guards.Always b = λ k d within. absurd (omega (arith, within))
below_guard n (guards.Table table) b = all_map (λ k. k < n) (λ row. row.phrase) table.rows b
  where
    all_map : {A B : Type 0} (P : B → Type 0) (f : A → B) (xs : List A) → All (λ x. P (f x)) xs → All P (map f xs)
    all_map P f xs a = each_all P (map f xs) (each_map P f xs (all_each (λ x. P (f x)) xs a))

-- an item at each place of a list
pub there : {A : Type 0} (xs : List A) (i : ℕ) → i < length xs → (x : A) × (slice_get xs i ≡ Some x)
there [] i within = absurd (omega (arith, within))
there (x ∷ xs) zero within = (x, refl)
there (x ∷ xs) (suc i) within = there xs i (omega (arith, within))

-- each definition that there is rests on all phrases
pub defined : (g : Grounded) → IsGrounded g → (number : ℕ) → number < length g.definitions → IsDefined g.definitions (length (cells g.spec)) (length g.phrases) number
defined g is number within = let d = there g.definitions number within in (d.0, d.1, is.rest.definition number d.0 d.1)

-- the guards of a definition name phrases that there are
pub guards_within : (g : Grounded) → IsGrounded g → (number : ℕ) (gs : List GroundGuard) → number < length g.definitions
    → ((d : Definition) → slice_get g.definitions number ≡ Some d → gs ≡ guards_of d)
    → All (λ x. All (λ k. k < length g.phrases) (phrases_of x)) gs
guards_within g is number gs within all =
    guards_below g.definitions (length (cells g.spec)) (length g.phrases) number gs (defined g is number within) all

-- the guards of a definition are at its number
pub table_at : (ds : List Definition) (tables : List (List GroundGuard)) (number : ℕ) (d : Definition) (x : List GroundGuard) → tables ≡ map guards_of ds
    → slice_get ds number ≡ Some d → get_or tables number x ≡ guards_of d
table_at ds tables number d x all at = ap (λ (xs : List (List GroundGuard)). get_or xs number x) all ∙ of ds number at
  where
    of : (ds : List Definition) (number : ℕ) → slice_get ds number ≡ Some d → get_or (map guards_of ds) number x ≡ guards_of d
    of [] number at = absurd (none_some at)
    of (e ∷ ds) zero at = ap guards_of (some_same at)
    of (e ∷ ds) (suc number) at = of ds number at

-- a fact of all phrases that a phrase names gives what follows from it
named_by_so : (P Q : ℕ → Type 0) → ((k : ℕ) → P k → Q k) → (o : Option Definition) → NamedBy P o → NamedBy Q o
named_by_so P Q f None e = tt
named_by_so P Q f (Some d) e = each_so (λ g. each_so f (phrases_of g)) (guards_of d) e

pub named_so : (P Q : ℕ → Type 0) → ((k : ℕ) → P k → Q k) → (ds : List Definition) (p : GroundPhrase) → Named P ds p → Named Q ds p
named_so P Q f ds (phrases.In node) e = tt
named_so P Q f ds (phrases.Macro number) e = named_by_so P Q f (slice_get ds number) e
named_so P Q f ds (phrases.Any numbers) e = each_so f numbers e
named_so P Q f ds (phrases.Every numbers) e = each_so f numbers e
named_so P Q f ds (phrases.Compare left relation right) e = tt
named_so P Q f ds (phrases.Function number relation constant) e = named_by_so P Q f (slice_get ds number) e

pub defined_within : (ds : List Definition) (cells n number : ℕ) → IsDefined ds cells n number → number < length ds
defined_within ds cells n number is = slice_get_within ds number is.0 is.1
