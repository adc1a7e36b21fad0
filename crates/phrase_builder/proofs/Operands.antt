-- What operands and mentions stand for.
use Rattle.std.proofs.Common.{◌≡◌, ℕ, ◌<◌, ◌≤◌, Bool, true, false, not, List, [], ◌∷◌, length, Some, refl, sym, ap, ◌∙◌, subst, true≢false, IsTrue, ℤ}
use Rattle.std.specs.Cmp.{first_so, second_so}
use Rattle.std.specs.List.{AllZip}
use Rattle.std.specs.Option.{option_map_or}
use Rattle.rsml_syntax.specs.declared.syntax.Spec.{Spec}
use Rattle.rsml_syntax.specs.declared.syntax.Mention.{Mention}
use Rattle.rsml_syntax.specs.declared.syntax.Operand.{Operand}
use Rattle.rsml_syntax.specs.declared.syntax.Operand.TheVariants as written
use Rattle.rsml_syntax.specs.declared.syntax.Term.{Term}
use Rattle.rsml_syntax.specs.declared.syntax.Sum.{Sum}
use Rattle.rsml_syntax.specs.limits.Comparisons.{Indices}
use Rattle.rsml_syntax.specs.rules.Globals.{meaning, number}
use Rattle.rsml_syntax.specs.rules.Uses.{is_input, is_constant, is_constant_operand}
use Rattle.rsml_meaning.specs.Words.{Each}
use Rattle.rsml_meaning.specs.Instances.{globals_of}
use Rattle.rsml_meaning.specs.Cells.{cells}
use Rattle.rsml_meaning.specs.Truth.{instance}
use Rattle.state_arrays.specs.Places.{cell_place, previous_place, definition_place}
use Rattle.rsml_ground.specs.declared.sums.GroundOperand.{GroundOperand}
use Rattle.rsml_ground.specs.declared.sums.GroundOperand.TheVariants as operands
use Rattle.rsml_ground.specs.declared.sums.GroundTerm.{GroundTerm}
use Rattle.rsml_ground.specs.declared.sums.GroundSum.{GroundSum}
use Rattle.rsml_ground.specs.Rests.{IsSmall, OperandFits, SumFits}
use Rattle.rsml_ground.specs.StandsFor.{MentionIs, OperandIs, TermIs, SumIs, IsFunction}
use Rattle.rsml_ground.specs.Scoped.{OperandIsScoped, SumIsScoped, FunctionIsScoped}
use Rattle.phrase_builder.specs.Constants.{IsNumber, AreNumbers}
use Rattle.phrase_builder.proofs.Lists.{some_same, zip_length, each_zip}

-- the name is that of an input
abbrev pub names_input : Spec → Mention → Bool
names_input s m = option_map_or is_input (meaning (globals_of s) m.name) false

-- Operands.

pub mention_cell : (s : Spec) (r : Indices) (m : Mention) → OperandIsScoped s r (written.Mention m) → names_input s m ≡ true → (k : ℕ) × (cell_place s (instance (globals_of s) r m) ≡ Some k)
mention_cell s r m o e = by (names_input s m) o.operand e o.stands
  where
    by : (b : Bool) (x : GroundOperand) → b ≡ true → MentionIs s r m b x → (k : ℕ) × (cell_place s (instance (globals_of s) r m) ≡ Some k)
    by true (operands.Cell k) e h = (k, h)
    by true (operands.Number n) e h = elim h [ ]
    by false x e h = absurd (true≢false (sym e))

pub mention_number : (s : Spec) (r : Indices) (m : Mention) → OperandIsScoped s r (written.Mention m) → names_input s m ≡ false → IsSmall (number (globals_of s) m.name)
mention_number s r m o e = by (names_input s m) o.operand e o.stands o.fits
  where
    by : (b : Bool) (x : GroundOperand) → b ≡ false → MentionIs s r m b x → OperandFits (length (cells s)) x → IsSmall (number (globals_of s) m.name)
    by true x e h f = absurd (true≢false e)
    by false (operands.Number n) e h f = subst IsSmall h f
    by false (operands.Cell k) e h f = elim h [ ]

pub previous_cell : (s : Spec) (r : Indices) (m : Mention) → OperandIsScoped s r (written.Previous m) → (k : ℕ) × (previous_place s (instance (globals_of s) r m) ≡ Some k)
previous_cell s r m o = by o.operand o.stands
  where
    by : (x : GroundOperand) → OperandIs s r (written.Previous m) x → (k : ℕ) × (previous_place s (instance (globals_of s) r m) ≡ Some k)
    by (operands.Cell k) h = (k, h)
    by (operands.Number n) h = elim h [ ]

mention_same : (s : Spec) (r : Indices) (m : Mention) (b : Bool) (x y : GroundOperand) → MentionIs s r m b x → MentionIs s r m b y → x ≡ y
mention_same s r m true (operands.Cell j) (operands.Cell k) h l = ap operands.Cell (some_same (sym h ∙ l))
mention_same s r m true (operands.Number n) y h l = elim h [ ]
mention_same s r m true (operands.Cell j) (operands.Number n) h l = elim l [ ]
mention_same s r m false (operands.Number j) (operands.Number k) h l = ap operands.Number (h ∙ sym l)
mention_same s r m false (operands.Cell n) y h l = elim h [ ]
mention_same s r m false (operands.Number j) (operands.Cell n) h l = elim l [ ]

operand_same : (s : Spec) (r : Indices) (o : Operand) (x y : GroundOperand) → OperandIs s r o x → OperandIs s r o y → x ≡ y
operand_same s r (written.Number d) (operands.Number j) (operands.Number k) h l = ap operands.Number (h ∙ sym l)
operand_same s r (written.Number d) (operands.Cell n) y h l = elim h [ ]
operand_same s r (written.Number d) (operands.Number j) (operands.Cell n) h l = elim l [ ]
operand_same s r (written.Mention m) x y h l = mention_same s r m (names_input s m) x y h l
operand_same s r (written.Previous m) (operands.Cell j) (operands.Cell k) h l = ap operands.Cell (some_same (sym h ∙ l))
operand_same s r (written.Previous m) (operands.Number n) y h l = elim h [ ]
operand_same s r (written.Previous m) (operands.Cell j) (operands.Number n) h l = elim l [ ]

operand_fits : (s : Spec) (r : Indices) (o : Operand) (x : GroundOperand) → OperandIsScoped s r o → OperandIs s r o x → OperandFits (length (cells s)) x
operand_fits s r o x scoped h = subst (OperandFits (length (cells s))) (operand_same s r o scoped.operand x scoped.stands h) scoped.fits

-- Sums.

pub sum_fits : (s : Spec) (r : Indices) (sum : Sum) (x : GroundSum) → SumIsScoped s r sum → SumIs s r sum x → SumFits (length (cells s)) x
sum_fits s r sum x scoped h = record {
  few = subst (λ n. n ≤ 8) (zip_length (TermIs s r) sum.terms x.terms h) scoped.few;
  operands = each_zip (TermIs s r) (λ t. OperandIsScoped s r t.operand) (λ t. OperandFits (length (cells s)) t.operand) (λ t y a b. operand_fits s r t.operand y.operand a b.operand) sum.terms x.terms scoped.terms h;
}

constant_operand : (s : Spec) (r : Indices) (o : Operand) (x : GroundOperand) → is_constant_operand (globals_of s) o ≡ true → OperandIs s r o x → OperandFits (length (cells s)) x → (n : ℤ) × (x ≡ operands.Number n) × IsSmall n
constant_operand s r (written.Number d) (operands.Number n) c h f = (n, refl, f)
constant_operand s r (written.Number d) (operands.Cell k) c h f = elim h [ ]
constant_operand s r (written.Mention m) x c h f = by (names_input s m) x c h f
  where
    by : (b : Bool) (x : GroundOperand) → not b ≡ true → MentionIs s r m b x → OperandFits (length (cells s)) x → (n : ℤ) × (x ≡ operands.Number n) × IsSmall n
    by true x c h f = absurd (true≢false (sym c))
    by false (operands.Number n) c h f = (n, refl, f)
    by false (operands.Cell k) c h f = elim h [ ]
constant_operand s r (written.Previous m) x c h f = absurd (true≢false (sym c))

constant_terms : (s : Spec) (r : Indices) (ts : List Term) (xs : List GroundTerm) → is_constant (globals_of s) (record { terms = ts }) ≡ true → Each (λ t. OperandIsScoped s r t.operand) ts → AllZip (TermIs s r) ts xs → Each IsNumber xs
constant_terms s r [] [] c e h = tt
constant_terms s r (t ∷ ts) (x ∷ xs) c e h =
    let here = is_constant_operand (globals_of s) t.operand in
    let later = is_constant (globals_of s) (record { terms = ts }) in (
      constant_operand s r t.operand x.operand (first_so here later c) h.0.operand (operand_fits s r t.operand x.operand e.0 h.0.operand),
      constant_terms s r ts xs (second_so here later c) e.1 h.1,
    )
constant_terms s r [] (x ∷ xs) c e h = elim h [ ]
constant_terms s r (t ∷ ts) [] c e h = elim h [ ]

pub constant_numbers : (s : Spec) (r : Indices) (sum : Sum) (x : GroundSum) → SumIsScoped s r sum → IsTrue (is_constant (globals_of s) sum) → SumIs s r sum x → AreNumbers x
constant_numbers s r sum x scoped c h = record { few = (sum_fits s r sum x scoped h).few; numbers = constant_terms s r sum.terms x.terms c scoped.terms h }

-- Macros and functions.

pub function_is : (s : Spec) (n : ℕ) (r : Indices) (m : Mention) (k : ℕ) → FunctionIsScoped s n r m → definition_place s (instance (globals_of s) r m) ≡ Some k → IsFunction s r m k
function_is s n r m k h e = subst (IsFunction s r m) (some_same (sym h.place ∙ e)) h.stands

pub function_below : (s : Spec) (n : ℕ) (r : Indices) (m : Mention) (k : ℕ) → FunctionIsScoped s n r m → definition_place s (instance (globals_of s) r m) ≡ Some k → k < n
function_below s n r m k h e = subst (λ j. j < n) (some_same (sym h.place ∙ e)) h.before
