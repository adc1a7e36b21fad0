-- Sums over the places of cells have the numbers of the sums of the text.
use Rattle.std.proofs.Common.{◌≡◌, ℕ, suc, ◌+◌, Bool, true, false, not, ◌&&◌, cond, List, [], ◌∷◌, zip, fold, Option, Some, None, unwrap_or, if◌then◌else◌, ℤ, pos, neg_ℤ, ◌+ℤ◌, slice_index_or, refl, sym, ap, ◌∙◌, subst, arith}
use Rattle.std.specs.List.{AllZip, position_from}
use Rattle.std.specs.Option.{option_map, option_map_or}
use Rattle.std.proofs.lemmas.Option.{same_Some}
use Rattle.rsml_syntax.specs.declared.syntax.Spec.{Spec}
use Rattle.rsml_syntax.specs.declared.world.World.{World}
use Rattle.rsml_syntax.specs.declared.syntax.Mention.{Mention}
use Rattle.rsml_syntax.specs.declared.syntax.Operand.{Operand}
use Rattle.rsml_syntax.specs.declared.syntax.Operand.TheVariants as written
use Rattle.rsml_syntax.specs.declared.syntax.Term.{Term}
use Rattle.rsml_syntax.specs.declared.syntax.Sum.{Sum}
use Rattle.rsml_syntax.specs.limits.Comparisons.{Indices}
use Rattle.rsml_syntax.specs.rules.Globals.{meaning, number}
use Rattle.rsml_syntax.specs.rules.Uses.{is_input}
use Rattle.rsml_meaning.specs.Words.{Instance, same_instance, first_some}
use Rattle.rsml_meaning.specs.Instances.{globals_of}
use Rattle.rsml_meaning.specs.Cells.{InputCell, cells}
use Rattle.rsml_meaning.specs.Worlds.{is_cell, cell}
use Rattle.rsml_meaning.specs.Truth.{View, bare, view, instance, operand, term, sum}
use Rattle.rsml_meaning.proofs.Same.{instance_same}
use Rattle.rsml_meaning.proofs.Stable.{same_rest}
use Rattle.state_arrays.specs.Places.{cell_place, previous_place}
use Rattle.rsml_ground.specs.declared.sums.GroundOperand.{GroundOperand}
use Rattle.rsml_ground.specs.declared.sums.GroundOperand.TheVariants as operands
use Rattle.rsml_ground.specs.declared.sums.GroundTerm.{GroundTerm}
use Rattle.rsml_ground.specs.declared.sums.GroundSum.{GroundSum}
use Rattle.rsml_ground.specs.Truths.{operand_number, term_number, sum_number}
use Rattle.rsml_ground.specs.StandsFor.{MentionIs, OperandIs, TermIs, SumIs}
use Rattle.rsml_ground.specs.Laws.{SumsMeanTheText}

-- Cells.

same_test : (a b : Bool) → (a ≡ true → b ≡ true) → (b ≡ true → a ≡ true) → a ≡ b
same_test true b f g = sym (f refl)
same_test false true f g = g refl
same_test false false f g = refl

same_turned : (x y : Instance) → same_instance x y ≡ same_instance y x
same_turned x y = same_test (same_instance x y) (same_instance y x)
    (λ h. turned x y h)
    (λ h. turned y x h)
  where
    turned : (a b : Instance) → same_instance a b ≡ true → same_instance b a ≡ true
    turned a b h = let e = instance_same a b h in subst (λ z. same_instance z a ≡ true) e (subst (λ z. same_instance a z ≡ true) (sym e) h)

-- the first item that passes stands one place further behind another
next_place : {A : Type 0} (t : A → Bool) (p : ℕ) (xs : List A) → position_from t (suc p) xs ≡ option_map suc (position_from t p xs)
next_place t p [] = refl
next_place t p (x ∷ xs) = by (t x) (ap (λ n. position_from t n xs) (omega arith) ∙ next_place t (p + 1) xs)
  where
    by : (b : Bool) → position_from t (suc p + 1) xs ≡ option_map suc (position_from t (p + 1) xs)
        → cond b (Some (suc p)) (position_from t (suc p + 1) xs) ≡ option_map suc (cond b (Some p) (position_from t (p + 1) xs))
    by true e = refl
    by false e = e

-- the number of the first cell that passes is that at its place
number_at : (t u : InputCell → Bool) → ((c : InputCell) → t c ≡ u c) → (cs : List InputCell) (ws : List ℤ) (k : ℕ) → position_from t 0 cs ≡ Some k
    → slice_index_or ws k (pos 0) ≡ unwrap_or (first_some (λ (c : InputCell × ℤ). if u c.0 then Some c.1 else None) (zip cs ws)) (pos 0)
number_at t u same [] ws k h = absurd (let no : ⊥ = cc in no)
number_at t u same (c ∷ cs) [] k h = refl
number_at t u same (c ∷ cs) (w ∷ ws) k h =
    by (u c) (position_from t 0 cs) (ap (λ b. cond b (Some 0) (option_map suc (position_from t 0 cs))) (sym (same c)) ∙ ap (λ o. cond (t c) (Some 0) o) (sym (next_place t 0 cs)) ∙ h) (number_at t u same cs ws)
  where
    by : (b : Bool) (o : Option ℕ) → cond b (Some 0) (option_map suc o) ≡ Some k → ((j : ℕ) → o ≡ Some j → slice_index_or ws j (pos 0) ≡ unwrap_or (first_some (λ (c : InputCell × ℤ). if u c.0 then Some c.1 else None) (zip cs ws)) (pos 0))
        → slice_index_or (w ∷ ws) k (pos 0) ≡ unwrap_or (elim (if b then Some w else None) [ Some y ↦ Some y | None ↦ first_some (λ (c : InputCell × ℤ). if u c.0 then Some c.1 else None) (zip cs ws) ]) (pos 0)
    by true o e f = ap (λ z. slice_index_or (w ∷ ws) z (pos 0)) (sym (same_Some 0 k e))
    by false None e f = absurd (let no : ⊥ = cc in no)
    by false (Some j) e f = ap (λ z. slice_index_or (w ∷ ws) z (pos 0)) (sym (same_Some (suc j) k e)) ∙ f j refl

-- an input's cell holds what is at its place
pub own_number : (s : Spec) (w : World) (x : Instance) (k : ℕ) → cell_place s x ≡ Some k → slice_index_or w.cells k (pos 0) ≡ cell s w false x
own_number s w x k h =
    number_at (λ c. not c.previous && same_instance x c.input) (λ c. is_cell false x c) (λ c. ap (λ b. not c.previous && b) (same_turned x c.input)) (cells s) w.cells k h

-- its previous cell too
pub previous_number : (s : Spec) (w : World) (x : Instance) (k : ℕ) → previous_place s x ≡ Some k → slice_index_or w.cells k (pos 0) ≡ cell s w true x
previous_number s w x k h =
    number_at (λ c. c.previous && same_instance x c.input) (λ c. is_cell true x c) (λ c. ap (λ b. c.previous && b) (same_turned x c.input)) (cells s) w.cells k h

-- Sums.

module _ (s : Spec) (w : World) (h : Instance → Bool) (g : Instance → List ℤ) where
  -- the world, and any macros and functions
  abbrev U : View
  U = record (bare s w) { holds = h; gives = g }

  mention_same : (r : Indices) (m : Mention) (b : Bool) (x : GroundOperand) → MentionIs s r m b x
      → operand_number w.cells x ≡ elim b [ true ↦ cell s w false (instance (globals_of s) r m) | false ↦ number (globals_of s) m.name ]
  mention_same r m true (operands.Cell k) e = own_number s w (instance (globals_of s) r m) k e
  mention_same r m false (operands.Number n) e = e
  mention_same r m true (operands.Number n) e = elim e [ ]
  mention_same r m false (operands.Cell k) e = elim e [ ]

  operand_same : (r : Indices) (o : Operand) (x : GroundOperand) → OperandIs s r o x → operand_number w.cells x ≡ operand U r o
  operand_same r (written.Number n) (operands.Number z) e = e
  operand_same r (written.Mention m) x e = mention_same r m (option_map_or is_input (meaning (globals_of s) m.name) false) x e
  operand_same r (written.Previous m) (operands.Cell k) e = previous_number s w (instance (globals_of s) r m) k e
  operand_same r (written.Number n) (operands.Cell k) e = elim e [ ]
  operand_same r (written.Previous m) (operands.Number z) e = elim e [ ]

  term_same : (r : Indices) (t : Term) (x : GroundTerm) → TermIs s r t x → term_number w.cells x ≡ term U r t
  term_same r t x e = let o = operand_same r t.operand x.operand e.operand in λ i. if e.minus i then neg_ℤ (o i) else o i

  terms_same : (r : Indices) (ts : List Term) (xs : List GroundTerm) → AllZip (TermIs s r) ts xs → (a : ℤ) → fold (λ a x. a +ℤ term_number w.cells x) a xs ≡ fold (λ a t. a +ℤ term U r t) a ts
  terms_same r [] [] e a = refl
  terms_same r (t ∷ ts) (x ∷ xs) e a =
      ap (λ z. fold (λ a x. a +ℤ term_number w.cells x) (a +ℤ z) xs) (term_same r t x e.0) ∙ terms_same r ts xs e.1 (a +ℤ term U r t)
  terms_same r [] (x ∷ xs) e a = elim e [ ]
  terms_same r (t ∷ ts) [] e a = elim e [ ]

  pub sum_same : (r : Indices) (t : Sum) (x : GroundSum) → SumIs s r t x → sum_number w.cells x ≡ sum U r t
  sum_same r t x e = terms_same r t.terms x.terms e (pos 0)

pub sums_mean_the_text : SumsMeanTheText
sums_mean_the_text g w r t x e =
    sum_same g.spec w (view g.spec w).holds (view g.spec w).gives r t x e ∙ ap (λ v. sum v r t) (sym (same_rest g.spec.decls (bare g.spec w)))
