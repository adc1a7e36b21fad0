-- The thresholds that tight comparisons ask for, and the keys of linear ones.
use Rattle.std.specs.Prelude.{Bool, false, ◌&&◌, ◌||◌, List, [], ◌∷◌, ◌++◌, map, filter, length, Option, Some, None, if◌then◌else◌, is_some, ℤ, pos, neg_ℤ, ◌+ℤ◌, ◌-ℤ◌, int_lt, int_le}
use Rattle.std.specs.Option.{option_map_or}
use Rattle.std.specs.Ordering.{int_eq}
use Rattle.std.specs.Cmp.Lexicographic.{pointwise}
use denote.Enum.Bare.{sameb}
use Rattle.rsml_syntax.specs.contracts.syntax.Relation as relation_type
use Rattle.rsml_syntax.specs.declared.syntax.Relation.{Relation}
use Rattle.rsml_syntax.specs.declared.syntax.Relation.TheVariants as relations
use Rattle.rsml_syntax.specs.declared.syntax.Decl.{Decl}
use Rattle.rsml_syntax.specs.declared.syntax.Decl.TheVariants as decl
use Rattle.rsml_syntax.specs.text.Names.{Name}
use Rattle.rsml_syntax.specs.rules.Globals.{Known, Globals, signed, meaning}
use Rattle.rsml_syntax.specs.limits.Comparisons.{InputCell, same_cell, Ground, OfNumber, OfCell, GroundSum, same_term, Comparison, comparison_of}

-- TIGHT COMPARISONS

-- the cell that a sum is, without a minus
abbrev pub single_cell : GroundSum → Option InputCell
single_cell ((false, OfCell cell) ∷ []) = Some cell
single_cell _ = None

-- a number of this sign more; none where there is a cell
abbrev pub plus : Bool → Ground → Option ℤ → Option ℤ
plus minus (OfNumber n) (Some rest) = Some ((if minus then neg_ℤ n else n) +ℤ rest)
plus minus _ _ = None

-- the number of a sum without cells
abbrev pub constant_number : GroundSum → Option ℤ
constant_number [] = Some (pos 0)
constant_number (t ∷ ts) = plus t.0 t.1 (constant_number ts)

-- what is asked of the right side, with the sides swapped
abbrev pub mirrored : Relation → Relation
mirrored relations.Less = relations.Greater
mirrored relations.LessEqual = relations.GreaterEqual
mirrored relations.Greater = relations.Less
mirrored relations.GreaterEqual = relations.LessEqual
mirrored relation = relation

-- the numbers that a comparison of a cell with this constant asks for
abbrev pub asked : Relation → ℤ → List ℤ
asked relations.Less c = c ∷ []
asked relations.GreaterEqual c = c ∷ []
asked relations.LessEqual c = (c +ℤ pos 1) ∷ []
asked relations.Greater c = (c +ℤ pos 1) ∷ []
asked relations.Equal c = c ∷ (c +ℤ pos 1) ∷ []
asked relations.NotEqual c = c ∷ (c +ℤ pos 1) ∷ []

-- the lowest and the highest number of a type
abbrev pub type_ends : Known → ℤ × ℤ
type_ends k = of k.decl
  where
    of : Decl → ℤ × ℤ
    of (decl.Range _ low high) = (signed low, signed high)
    of (decl.Enumeration _ values) = (pos 0, pos (length values) -ℤ pos 1)
    of _ = (pos 0, pos 0)

-- those of an input's type
abbrev pub ends : Globals → Known → ℤ × ℤ
ends g k = elim k.decl [ decl.Input _ _ kind _ ↦ option_map_or type_ends (meaning g kind) (pos 0, pos 0) | _ ↦ (pos 0, pos 0) ]

-- above the lowest number of an input, and at most its highest
abbrev pub is_inner : Globals → Name → ℤ → Bool
is_inner g input n = option_map_or (λ k. int_lt (ends g k).0 n && int_le n (ends g k).1) (meaning g input) false

-- a number of a cell at which a comparison changes
abbrev pub Threshold : Type 0
Threshold = InputCell × ℤ

-- one number of one cell
abbrev pub same_threshold : Threshold → Threshold → Bool
same_threshold a b = int_eq a.1 b.1 && same_cell a.0 b.0

-- those that the comparison of a cell with a constant asks for
abbrev pub cell_thresholds : Globals → Option InputCell → Relation → Option ℤ → List Threshold
cell_thresholds g (Some cell) relation (Some c) = map (λ n. (cell, n)) (filter (is_inner g cell.input) (asked relation c))
cell_thresholds g _ relation _ = []

-- the thresholds that a comparison asks for; one with the constant on the left is read mirrored
abbrev pub thresholds : Globals → Comparison → List Threshold
thresholds g x =
    cell_thresholds g (single_cell x.left) x.relation (constant_number x.right)
    ++ cell_thresholds g (single_cell x.right) (mirrored x.relation) (constant_number x.left)

-- KEYS

-- one side is a cell and the other is constant, or both are constant
abbrev pub is_tight : Comparison → Bool
is_tight x =
    is_some (single_cell x.left) && is_some (constant_number x.right)
    || (is_some (constant_number x.left) && (is_some (single_cell x.right) || is_some (constant_number x.right)))

-- `>` and `>=` swap the sides, `!=` is the negation of `=`
abbrev pub key : Comparison → Comparison
key x = of x.relation
  where
    of : Relation → Comparison
    of relations.Greater = comparison_of x.right relations.Less x.left
    of relations.GreaterEqual = comparison_of x.right relations.LessEqual x.left
    of relations.NotEqual = comparison_of x.left relations.Equal x.right
    of _ = x

-- one relation, and sums that are equal term by term
abbrev pub same_key : Comparison → Comparison → Bool
same_key a b = sameb relation_type.the_type a.relation b.relation && (pointwise same_term a.left b.left && pointwise same_term a.right b.right)

-- the key of a linear comparison
abbrev pub keys : Comparison → List Comparison
keys x = if is_tight x then [] else key x ∷ []
