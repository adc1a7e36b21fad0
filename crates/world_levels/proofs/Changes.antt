-- What stays of a world where one level changes.
use Rattle.std.proofs.Common.{◌≡◌, ◌≢◌, ℕ, zero, suc, ◌+◌, ◌<◌, Bool, if◌then◌else◌, List, [], ◌∷◌, length, refl, sym, ◌∙◌, ap, arith, inl, inr, Some, slice_get, slice_index_or, pos, ◌+ℤ◌}
use Rattle.std.proofs.lemmas.Bool.Decides.{eqb_tells}
use Rattle.std.proofs.lemmas.Option.{get_or_from_slice_get}
use Rattle.bdd_core.specs.Calls.{with_value}
use Rattle.rsml_syntax.specs.declared.syntax.Spec.{Spec}
use Rattle.rsml_meaning.specs.Instances.{Component, components}
use Rattle.rsml_meaning.specs.Cells.{InputCell, cells}
use Rattle.spelled_numbers.specs.declared.slot.Slot.{Slot}
use Rattle.spelled_numbers.specs.declared.slot.Slot.TheVariants.{Part, Free}
use Rattle.spelled_numbers.specs.Spelling.{weight_for, number, IsLevelOf}
use Rattle.spelled_numbers.proofs.SpellingLemmas.{elsewhere}
use Rattle.world_levels.specs.Spelling.{choices_from, numbers_from, world_of, cell_part}
use Rattle.world_levels.specs.Laws.{DifferInCell}

-- a part has the same number
abbrev SameNumber : List Slot → (ℕ → Bool) → (ℕ → Bool) → ℕ → Type 0
SameNumber slots a b p = number p slots a 0 ≡ number p slots b 0

later : (slots : List Slot) (a b : ℕ → Bool) (p k : ℕ) → SameNumber slots a b (p + suc k) → SameNumber slots a b (suc p + k)
later slots a b p k e =
    let z : suc p + k ≡ p + suc k = omega arith in
    ap (λ i. number i slots a 0) z ∙ e ∙ ap (λ i. number i slots b 0) (sym z)

first : (slots : List Slot) (a b : ℕ → Bool) (p : ℕ) → SameNumber slots a b (p + 0) → SameNumber slots a b p
first slots a b p e =
    let z : p ≡ p + 0 = omega arith in
    ap (λ i. number i slots a 0) z ∙ e ∙ ap (λ i. number i slots b 0) (sym z)

choices_same : (slots : List Slot) (a b : ℕ → Bool) (p : ℕ) (cs : List Component) → ((k : ℕ) → k < length cs → SameNumber slots a b (p + k)) → choices_from slots a p cs ≡ choices_from slots b p cs
choices_same slots a b p [] same = refl
choices_same slots a b p (c ∷ cs) same =
    let here : SameNumber slots a b p = first slots a b p (same 0 (omega arith)) in
    let there : choices_from slots a (suc p) cs ≡ choices_from slots b (suc p) cs = choices_same slots a b (suc p) cs (λ k l. later slots a b p k (same (suc k) (omega (arith, l)))) in
    λ i. here i ∷ there i

numbers_same : (slots : List Slot) (a b : ℕ → Bool) (p : ℕ) (cs : List InputCell) → ((k : ℕ) → SameNumber slots a b (p + k)) → numbers_from slots a p cs ≡ numbers_from slots b p cs
numbers_same slots a b p [] same = refl
numbers_same slots a b p (c ∷ cs) same =
    let here : c.numbers.low +ℤ pos (number p slots a 0) ≡ c.numbers.low +ℤ pos (number p slots b 0) = ap (λ n. c.numbers.low +ℤ pos n) (first slots a b p (same 0)) in
    let there : numbers_from slots a (suc p) cs ≡ numbers_from slots b (suc p) cs = numbers_same slots a b (suc p) cs (λ k. later slots a b p k (same (suc k))) in
    λ i. here i ∷ there i

-- one cell has the same number where its part has
cell_same : (slots : List Slot) (a b : ℕ → Bool) (p : ℕ) (cs : List InputCell) (k : ℕ) → SameNumber slots a b (p + k) → slice_get (numbers_from slots a p cs) k ≡ slice_get (numbers_from slots b p cs) k
cell_same slots a b p [] k e = refl
cell_same slots a b p (c ∷ cs) zero e = ap (λ n. Some (c.numbers.low +ℤ pos n)) (first slots a b p e)
cell_same slots a b p (c ∷ cs) (suc k) e = cell_same slots a b (suc p) cs k (later slots a b p k e)

pub free_spells_nothing : (s : Spec) (slots : List Slot) (values : ℕ → Bool) (level : ℕ) (value : Bool) → slice_get slots level ≡ Some Free
    → world_of s slots (with_value values level value) ≡ world_of s slots values
free_spells_nothing s slots values level value is =
    let none : (p : ℕ) → weight_for p (slice_index_or slots level Free) ≡ 0 = λ p. ap (weight_for p) (get_or_from_slice_get slots level Free Free is) in
    let same : (p : ℕ) → SameNumber slots (with_value values level value) values p = λ p. elsewhere p slots values level value (none p) in
    let choices = choices_same slots (with_value values level value) values 0 (components s) (λ k l. same (0 + k)) in
    let numbers = numbers_same slots (with_value values level value) values (length (components s)) (cells s) (λ k. same (length (components s) + k)) in
    λ i. record { choices = choices i; cells = numbers i }

-- a slot of one part has no weight for another
no_weight : (p q w : ℕ) → q ≢ p → weight_for p (Part q w) ≡ 0
no_weight p q w other = elim (eqb_tells q p) [
  | inl h ↦ absurd (other h.1)
  | inr h ↦ ap (λ b. if b then w else 0) h.0
]

pub cell_spells_itself : (s : Spec) (slots : List Slot) (values : ℕ → Bool) (cell level : ℕ) (value : Bool) → cell < length (cells s) → IsLevelOf (cell_part s cell) slots level
    → DifferInCell s cell (world_of s slots (with_value values level value)) (world_of s slots values)
cell_spells_itself s slots values cell level value less is =
    let apart : (p : ℕ) → cell_part s cell ≢ p → SameNumber slots (with_value values level value) values p =
    λ p other. elsewhere p slots values level value
    (ap (weight_for p) (get_or_from_slice_get slots level (Part (cell_part s cell) is.0) Free is.1) ∙ no_weight p (cell_part s cell) is.0 other) in
    record {
      choices = choices_same slots (with_value values level value) values 0 (components s) (λ k l. apart (0 + k) (λ e. absurd (omega (arith, e, l))));
      cells = λ k other. cell_same slots (with_value values level value) values (length (components s)) (cells s) k
          (apart (length (components s) + k) (λ e. other (omega (arith, e))));
    }
