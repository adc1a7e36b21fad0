-- Sums that have numbers, and blocks that stand for asks.
use Rattle.std.specs.Prelude.{◌≡◌, ℕ, Bool, true, false, ◌&&◌, List, [], map, Some, slice_get}
use Rattle.std.specs.Cmp.Lexicographic.{pointwise}
use denote.Enum.Bare.{sameb}
use Rattle.rsml_syntax.specs.contracts.syntax.Relation as relation_type
use Rattle.rsml_syntax.specs.declared.syntax.Relation.{Relation}
use Rattle.rsml_syntax.specs.declared.syntax.Relation.TheVariants as relations
use Rattle.rsml_syntax.specs.rules.Globals.{Globals}
use Rattle.rsml_syntax.specs.limits.Comparisons.{GroundSum, same_term, comparison_of}
use Rattle.rsml_syntax.specs.limits.Thresholds.{key}
use Rattle.rsml_limits.specs.comparisons.Asks.{Ask, left_sums}
use Rattle.pair_counts.specs.declared.blocks.Block.{Block}
use Rattle.rsml_limits.specs.keys.Classes.{class_of, linear}

-- the relation of the key of a comparison
abbrev pub order_of : Relation → Relation
order_of relation = (key (comparison_of [] relation [])).relation

-- whether that key has the sides swapped
abbrev pub swaps : Relation → Bool
swaps relations.Greater = true
swaps relations.GreaterEqual = true
swaps _ = false

-- A sum, with the relation of the keys that it is a side of.
pub record Ordered : Type 0 where
  pub relation : Relation
  pub terms : GroundSum

abbrev pub ordered : Relation → GroundSum → Ordered
ordered relation terms = record { relation = relation; terms = terms }

abbrev pub same_ordered : Ordered → Ordered → Bool
same_ordered a b = sameb relation_type.the_type a.relation b.relation && pointwise same_term a.terms b.terms

-- Sums, the place of each being its number, and lists of such numbers.
pub record Numbered : Type 0 where
  pub sums : List Ordered
  pub lists : List (List ℕ)

-- What is numbered, with the global names, which say what functions are.
pub record AskBlocks : Type 0 where
  pub globals : Globals
  pub numbered : Numbered

-- what stands at a place stays there
abbrev pub Extends : {A : Type 0} → List A → List A → Type 0
Extends {A = A} old new = (place : ℕ) (x : A) → slice_get old place ≡ Some x → slice_get new place ≡ Some x

-- More sums have numbers, and there are more lists.
pub record Grows (old new : Numbered) : Type 0 where
  pub sums : Extends old.sums new.sums
  pub lists : Extends old.lists new.lists

-- the numbers of sums in turn, all with this relation
abbrev pub AreNumbers : List Ordered → List ℕ → Relation → List GroundSum → Type 0
AreNumbers sums numbers relation these = map (slice_get sums) numbers ≡ map (λ terms. Some (ordered relation terms)) these

-- The list at a place has the numbers of these sums, all with this relation.
pub record IsList (n : Numbered) (place : ℕ) (relation : Relation) (these : List GroundSum) : Type 0 where
  pub numbers : List ℕ
  pub at : slice_get n.lists place ≡ Some numbers
  pub are : AreNumbers n.sums numbers relation these

-- A block that stands for an ask: its number is that of the right side, and its list has the numbers of the left sums that are not
-- tight with it.
pub record IsBlock (g : Globals) (n : Numbered) (a : Ask) (block : Block) : Type 0 where
  pub fixed : slice_get n.sums block.fixed ≡ Some (ordered (order_of a.relation) a.right)
  pub list : IsList n block.list (order_of a.relation) (linear (class_of a.right) (left_sums g a.left))
