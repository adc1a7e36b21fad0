-- The limits leave room for the instances.
use Rattle.std.proofs.Common.{◌≡◌, ℕ, zero, suc, ◌+◌, ◌*◌, ◌≤◌, Bool, true, false, List, [], ◌∷◌, ◌++◌, map, flat_map, length, Option, Some, None, nat_lt, if◌then◌else◌, refl, ap, ◌∙◌, arith, length-append}
use Rattle.std.specs.Prelude.{⊤}
use Rattle.std.proofs.lemmas.Bool.Decides.{nat_tests}
use Rattle.rsml_syntax.specs.declared.syntax.Spec.{Spec}
use Rattle.rsml_syntax.specs.declared.syntax.Decl.{Decl}
use Rattle.rsml_syntax.specs.declared.syntax.Decl.TheVariants as decl
use Rattle.rsml_syntax.specs.declared.syntax.Amount.{Amount}
use Rattle.rsml_syntax.specs.text.Names.{Name, is_in}
use Rattle.rsml_syntax.specs.rules.Globals.{Globals, globals, many, up_to, indices, names_of}
use Rattle.rsml_syntax.specs.limits.Previous.{names_previous}
use Rattle.rsml_syntax.specs.grammar.Parts.{Part, Declared, Opens, Closes, declared, inside, top_of, parts}
use Rattle.rsml_syntax.specs.limits.Limits.{Limit, adds, total, limits, states_at, events_at, cells_at, definitions_at, shown, first_over, over}
use Rattle.rsml_meaning.specs.Words.{Instance, at}
use Rattle.rsml_meaning.specs.Instances.{globals_of, instances, events_of, events}
use Rattle.state_arrays.specs.Made.{inputs_of, previous_of, definitions_made}

-- Limits.

-- each of these limits is kept
abbrev AreKept : Spec → List Limit → Type 0
AreKept s [] = ⊤
AreKept s (l ∷ ls) = (l.count s ≤ l.greatest) × AreKept s ls

all_kept : (s : Spec) (ls : List Limit) → first_over s ls ≡ None → AreKept s ls
all_kept s [] h = tt
all_kept s (l ∷ ls) h = by (nat_lt l.greatest (l.count s)) refl h (λ k. all_kept s ls k)
  where
    chosen : Bool → Option (ℕ × ℕ)
    chosen b = elim b [ true ↦ Some (l.number, shown (l.count s)) | false ↦ first_over s ls ]

    by : (b : Bool) → nat_lt l.greatest (l.count s) ≡ b → chosen b ≡ None → (first_over s ls ≡ None → AreKept s ls) → (l.count s ≤ l.greatest) × AreKept s ls
    by true e k next = cc
    by false e k next = (grind (arith, nat_tests), next k)

-- What the limits say of states, events, cells, and macros and functions.
pub record AreFew (s : Spec) : Type 0 where
  pub states : total states_at s ≤ 4096
  pub events : total events_at s ≤ 1024
  pub cells : total (cells_at s) s ≤ 1024
  pub definitions : total definitions_at s ≤ 8192

few_by : (s : Spec) → AreKept s limits → AreFew s
few_by s h = record { states = h.0; events = h.1.1.0; cells = h.1.1.1.0; definitions = h.1.1.1.1.0 }

pub few : (s : Spec) → over s ≡ None → AreFew s
few s h = few_by s (all_kept s limits h)

-- Counts.

adds_append : {A : Type 0} (f : A → ℕ) (xs ys : List A) → adds f (xs ++ ys) ≡ adds f xs + adds f ys
adds_append f [] ys = omega arith
adds_append f (x ∷ xs) ys = omega (arith, adds_append f xs ys)

many_up_to : (n : ℕ) → length (up_to n) ≡ n
many_up_to zero = refl
many_up_to (suc n) = length-append (up_to n) (suc n ∷ []) ∙ omega (arith, many_up_to n)

many_indices : (g : Globals) (size : Option Amount) → length (indices g size) ≡ many g size
many_indices g None = refl
many_indices g (Some amount) = many_up_to (many g (Some amount))

many_at : (name : Name) (is : List ℕ) → length (map (at name) is) ≡ length is
many_at name [] = refl
many_at name (i ∷ is) = ap suc (many_at name is)

pub many_instances : (g : Globals) (name : Name) (size : Option Amount) → length (instances g name size) ≡ many g size
many_instances g name size = many_at name (indices g size) ∙ many_indices g size

-- what is made of declarations is no more than is counted of them
made_few : (make : Decl → List Instance) (count : Part → ℕ) → ((place : ℕ) (d : Decl) → length (make d) ≤ count (Declared place d)) → (place : ℕ) (ds : List Decl) → length (flat_map make ds) ≤ adds count (declared place ds)
made_few make count h place [] = omega arith
made_few make count h place (d ∷ ds) =
    let l = length-append (make d) (flat_map make ds) in
    let here = h place d in
    let rest = made_few make count h (place + length (names_of d)) ds in
    omega (arith, l, here, rest)

made_of_parts : (s : Spec) (make : Decl → List Instance) (count : Part → ℕ) → ((place : ℕ) (d : Decl) → length (make d) ≤ count (Declared place d)) → length (flat_map make s.decls) ≤ adds count (parts s)
made_of_parts s make count h =
    let here = made_few make count h 0 s.decls in
    let all = adds_append count (declared 0 s.decls) (Opens (top_of s) ∷ (inside None s.body ++ (Closes (top_of s) ∷ []))) in
    omega (arith, here, all)

pub events_few : (s : Spec) → AreFew s → length (events s) ≤ 1024
events_few s h =
    let all = made_of_parts s (events_of (globals_of s)) (events_at (globals s.decls)) of_decl in
    let less = h.events in
    omega (arith, all, less)
  where
    of_decl : (place : ℕ) (d : Decl) → length (events_of (globals_of s) d) ≤ events_at (globals s.decls) (Declared place d)
    of_decl place (decl.Event name size) = let e = many_instances (globals_of s) name size in omega (arith, e)
    of_decl place (decl.Enumeration name values) = omega arith
    of_decl place (decl.Range name low high) = omega arith
    of_decl place (decl.Constant name value) = omega arith
    of_decl place (decl.Input name size kind initial) = omega arith
    of_decl place (decl.Macro name size rows) = omega arith
    of_decl place (decl.Function name size cases) = omega arith
    of_decl place (decl.Receive name size inputs raised) = omega arith
    of_decl place (decl.Send name size fields cases) = omega arith

once : (n : ℕ) (b : Bool) → n ≤ n * (if b then 2 else 1)
once n true = omega arith
once n false = omega arith

pub inputs_few : (s : Spec) → AreFew s → length (flat_map (inputs_of (globals_of s)) s.decls) ≤ 1024
inputs_few s h =
    let all = made_of_parts s (inputs_of (globals_of s)) (cells_at s (globals s.decls)) of_decl in
    let less = h.cells in
    omega (arith, all, less)
  where
    of_decl : (place : ℕ) (d : Decl) → length (inputs_of (globals_of s) d) ≤ cells_at s (globals s.decls) (Declared place d)
    of_decl place (decl.Input name size kind initial) = let e = many_instances (globals_of s) name size in let o = once (many (globals_of s) size) (names_previous s name) in omega (arith, e, o)
    of_decl place (decl.Event name size) = omega arith
    of_decl place (decl.Enumeration name values) = omega arith
    of_decl place (decl.Range name low high) = omega arith
    of_decl place (decl.Constant name value) = omega arith
    of_decl place (decl.Macro name size rows) = omega arith
    of_decl place (decl.Function name size cases) = omega arith
    of_decl place (decl.Receive name size inputs raised) = omega arith
    of_decl place (decl.Send name size fields cases) = omega arith

chosen_few : (xs : List Instance) (b : Bool) → length (if b then xs else []) ≤ length xs
chosen_few xs true = omega arith
chosen_few xs false = omega arith

pub previous_few : (s : Spec) (names : List Name) → AreFew s → length (flat_map (previous_of names (globals_of s)) s.decls) ≤ 1024
previous_few s names h =
    let all = made_of_parts s (previous_of names (globals_of s)) (cells_at s (globals s.decls)) of_decl in
    let less = h.cells in
    omega (arith, all, less)
  where
    of_decl : (place : ℕ) (d : Decl) → length (previous_of names (globals_of s) d) ≤ cells_at s (globals s.decls) (Declared place d)
    of_decl place (decl.Input name size kind initial) =
        let e = many_instances (globals_of s) name size in
        let o = once (many (globals_of s) size) (names_previous s name) in
        let c = chosen_few (instances (globals_of s) name size) (is_in name names) in
        omega (arith, e, o, c)
    of_decl place (decl.Event name size) = omega arith
    of_decl place (decl.Enumeration name values) = omega arith
    of_decl place (decl.Range name low high) = omega arith
    of_decl place (decl.Constant name value) = omega arith
    of_decl place (decl.Macro name size rows) = omega arith
    of_decl place (decl.Function name size cases) = omega arith
    of_decl place (decl.Receive name size inputs raised) = omega arith
    of_decl place (decl.Send name size fields cases) = omega arith

pub definitions_few : (s : Spec) → AreFew s → length (flat_map (definitions_made (globals_of s)) s.decls) ≤ 8192
definitions_few s h =
    let all = made_of_parts s (definitions_made (globals_of s)) (definitions_at (globals s.decls)) of_decl in
    let less = h.definitions in
    omega (arith, all, less)
  where
    of_decl : (place : ℕ) (d : Decl) → length (definitions_made (globals_of s) d) ≤ definitions_at (globals s.decls) (Declared place d)
    of_decl place (decl.Event name size) = omega arith
    of_decl place (decl.Enumeration name values) = omega arith
    of_decl place (decl.Range name low high) = omega arith
    of_decl place (decl.Constant name value) = omega arith
    of_decl place (decl.Input name size kind initial) = omega arith
    of_decl place (decl.Macro name size rows) = let e = many_instances (globals_of s) name size in omega (arith, e)
    of_decl place (decl.Function name size cases) = let e = many_instances (globals_of s) name size in omega (arith, e)
    of_decl place (decl.Receive name size inputs raised) = omega arith
    of_decl place (decl.Send name size fields cases) = omega arith
