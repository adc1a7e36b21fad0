-- A comparison that does not name a cell does not tell worlds apart that differ in that cell alone.
use Rattle.std.proofs.Common.{◌≡◌, ◌≢◌, ℕ, false, if◌then◌else◌, List, [], ◌∷◌, refl, sym, ap, ◌∙◌, true≢false, Option, None, Some, slice_get, ℤ, pos, neg_ℤ, ◌+ℤ◌, fold}
use Rattle.std.specs.List.{list_any}
use Rattle.std.proofs.lemmas.Bool.{eq-eqb}
use Rattle.std.proofs.lemmas.Option.{unwrap_or-slice_get}
use Rattle.std.specs.Option.{unwrap_or}
use Rattle.rsml_syntax.specs.declared.world.World.{World}
use Rattle.rsml_syntax.specs.rules.Relations.{compare}
use Rattle.rsml_ground.specs.declared.sums.GroundOperand.{GroundOperand}
use Rattle.rsml_ground.specs.declared.sums.GroundOperand.TheVariants as operands
use Rattle.rsml_ground.specs.declared.sums.GroundTerm.{GroundTerm}
use Rattle.rsml_ground.specs.declared.sums.GroundSum.{GroundSum}
use Rattle.rsml_ground.specs.declared.phrases.GroundPhrase.{GroundPhrase}
use Rattle.rsml_ground.specs.declared.phrases.GroundPhrase.TheVariants as phrases
use Rattle.rsml_ground.specs.Truths.{operand_number, term_number, sum_number}
use Rattle.free_levels.proofs.ValueLemmas.{or-false_left, or-false_right}
use Rattle.keyed_levels.specs.Keyed.{comparison}
use Rattle.settled_worlds.specs.Steps.{is_cell, names, compares}

-- all cells but one hold the same
abbrev AgreeBut : ℕ → List ℤ → List ℤ → Type 0
AgreeBut cell v w = (j : ℕ) → j ≢ cell → slice_get v j ≡ slice_get w j

same_operand : (cell : ℕ) (v w : List ℤ) (o : GroundOperand) → AgreeBut cell v w → is_cell cell o ≡ false → operand_number v o ≡ operand_number w o
same_operand cell v w (operands.Number n) agree not = refl
same_operand cell v w (operands.Cell j) agree not =
    sym (unwrap_or-slice_get v j (pos 0))
    ∙ ap (λ o. unwrap_or o (pos 0)) (agree j (λ e. true≢false (sym (eq-eqb j cell e) ∙ not)))
    ∙ unwrap_or-slice_get w j (pos 0)

same_term : (cell : ℕ) (v w : List ℤ) (t : GroundTerm) → AgreeBut cell v w → is_cell cell t.operand ≡ false → term_number v t ≡ term_number w t
same_term cell v w t agree not = ap (λ n. if t.minus then neg_ℤ n else n) (same_operand cell v w t.operand agree not)

same_terms : (cell : ℕ) (v w : List ℤ) (ts : List GroundTerm) (a : ℤ) → AgreeBut cell v w → list_any (λ t. is_cell cell t.operand) ts ≡ false
    → fold (λ a t. a +ℤ term_number v t) a ts ≡ fold (λ a t. a +ℤ term_number w t) a ts
same_terms cell v w [] a agree not = refl
same_terms cell v w (t ∷ ts) a agree not =
    same_terms cell v w ts (a +ℤ term_number v t) agree (or-false_right (is_cell cell t.operand) (list_any (λ t. is_cell cell t.operand) ts) not)
    ∙ ap (λ n. fold (λ a t. a +ℤ term_number w t) (a +ℤ n) ts) (same_term cell v w t agree (or-false_left (is_cell cell t.operand) (list_any (λ t. is_cell cell t.operand) ts) not))

same_sum : (cell : ℕ) (v w : List ℤ) (x : GroundSum) → AgreeBut cell v w → names cell x ≡ false → sum_number v x ≡ sum_number w x
same_sum cell v w x agree not = same_terms cell v w x.terms (pos 0) agree not

pub same_comparison : (cell : ℕ) (v w : World) (o : Option GroundPhrase) → AgreeBut cell v.cells w.cells → compares cell o ≡ false → comparison v o ≡ comparison w o
same_comparison cell v w None agree not = refl
same_comparison cell v w (Some (phrases.In n)) agree not = refl
same_comparison cell v w (Some (phrases.Macro n)) agree not = refl
same_comparison cell v w (Some (phrases.Any ns)) agree not = refl
same_comparison cell v w (Some (phrases.Every ns)) agree not = refl
same_comparison cell v w (Some (phrases.Function n relation constant)) agree not = refl
same_comparison cell v w (Some (phrases.Compare left relation right)) agree not =
    ap (λ n. compare relation n (sum_number v.cells right)) (same_sum cell v.cells w.cells left agree (or-false_left (names cell left) (names cell right) not))
    ∙ ap (λ n. compare relation (sum_number w.cells left) n) (same_sum cell v.cells w.cells right agree (or-false_right (names cell left) (names cell right) not))
