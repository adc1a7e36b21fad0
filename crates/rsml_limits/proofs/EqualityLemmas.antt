-- The derived equality of this crate's types is that of what they stand for.
use Rattle.std.proofs.Common.{◌≡◌, ◌&&◌, List, [], ◌∷◌, refl, ap}
use Rattle.std.specs.Cmp.Lexicographic.{pointwise}
use Rattle.std.specs.Prelude.{◌==◌}
use Rattle.rsml_syntax.specs.text.Names.{same}
use Rattle.rsml_syntax.specs.limits.Comparisons.{same_cell, same_ground, same_term}
use Rattle.rsml_limits.specs.declared.comparisons.input_cell.InputCell.{InputCell}
use Rattle.rsml_limits.specs.declared.comparisons.atom.Atom.{Atom}
use Rattle.rsml_limits.specs.declared.comparisons.atom.Atom.TheVariants as atoms
use Rattle.rsml_limits.specs.declared.comparisons.ground_term.GroundTerm.{GroundTerm}
use Rattle.rsml_limits.specs.contracts.comparisons.input_cell.InputCellPartialEq.TheImpl as cell_eq
use Rattle.rsml_limits.specs.contracts.comparisons.atom.AtomPartialEq.TheImpl as atom_eq
use Rattle.rsml_limits.specs.contracts.comparisons.ground_term.GroundTermPartialEq.TheImpl as term_eq
use Rattle.rsml_limits.proofs.EquivalenceLemmas.{truth_alike}
use Rattle.rsml_limits.specs.comparisons.Shown.{shown_cell, shown_atom, shown_term, shown_sum}

pub cell_alike : (a b : InputCell) → (cell_eq.ghosts).eq a b ≡ same_cell (shown_cell a) (shown_cell b)
cell_alike a b = ap (λ t. t && (a.at == b.at && same a.input.now b.input.now)) (truth_alike a.previous b.previous)

atom_alike : (a b : Atom) → (atom_eq.ghosts).eq a b ≡ same_ground (shown_atom a) (shown_atom b)
atom_alike (atoms.Number m) (atoms.Number n) = refl
atom_alike (atoms.Number m) (atoms.InputCell b) = refl
atom_alike (atoms.InputCell a) (atoms.Number n) = refl
atom_alike (atoms.InputCell a) (atoms.InputCell b) = cell_alike a b

pub term_alike : (a b : GroundTerm) → (term_eq.ghosts).eq a b ≡ same_term (shown_term a) (shown_term b)
term_alike a b = λ i. truth_alike a.minus b.minus i && atom_alike a.atom b.atom i

pub sum_alike : (a b : List GroundTerm) → pointwise (term_eq.ghosts).eq a b ≡ pointwise same_term (shown_sum a) (shown_sum b)
sum_alike [] [] = refl
sum_alike [] (y ∷ ys) = refl
sum_alike (x ∷ xs) [] = refl
sum_alike (x ∷ xs) (y ∷ ys) = λ i. term_alike x y i && sum_alike xs ys i
