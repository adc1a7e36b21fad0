-- The keys of an ask: one for each left sum that is not tight with the right side.
use Rattle.std.proofs.Common.{◌≡◌, Bool, true, false, cond, not, ◌&&◌, ◌||◌, if◌then◌else◌, List, [], ◌∷◌, ◌++◌, map, is_some, refl, ap, ◌∙◌, true≢false}
use Rattle.std.specs.Prelude.{flat_map}
use Rattle.std.proofs.lemmas.Grind.{flat_map-append}
use Rattle.rsml_syntax.specs.declared.syntax.Relation.{Relation}
use Rattle.rsml_syntax.specs.declared.syntax.Relation.TheVariants as relations
use Rattle.rsml_syntax.specs.rules.Globals.{Globals}
use Rattle.rsml_syntax.specs.limits.Comparisons.{OfNumber, OfCell, GroundSum, Comparison, comparison_of}
use Rattle.rsml_syntax.specs.limits.Thresholds.{single_cell, constant_number, is_tight, key, keys}
use Rattle.rsml_limits.specs.comparisons.Asks.{Ask, left_sums, ask_comparisons}
use Rattle.rsml_limits.specs.declared.keys.class.Class.{Class}
use Rattle.rsml_limits.specs.declared.keys.class.Class.TheVariants as classes
use Rattle.rsml_limits.specs.keys.Classes.{class_of, tight, linear}
use Rattle.rsml_limits.specs.keys.Numbered.{order_of, swaps}

-- a cell is not constant
cell_alone : (sum : GroundSum) → (is_some (single_cell sum) && is_some (constant_number sum)) ≡ false
cell_alone [] = refl
cell_alone ((true, t) ∷ ts) = refl
cell_alone ((false, OfNumber n) ∷ ts) = refl
cell_alone ((false, OfCell c) ∷ []) = refl
cell_alone ((false, OfCell c) ∷ (t ∷ ts)) = refl

abbrev class_by : Bool → Bool → Class
class_by cell constant = if constant then classes.Constant else (if cell then classes.InputCell else classes.Other)

-- tightness, by the classes of both sides
tight_by : (cell constant right_cell right_constant : Bool) → (cell && constant) ≡ false → (right_cell && right_constant) ≡ false →
    (cell && right_constant || (constant && (right_cell || right_constant))) ≡ tight (class_by cell constant) (class_by right_cell right_constant)
tight_by true true d l h g = absurd (true≢false h)
tight_by true false true true h g = absurd (true≢false g)
tight_by true false true false h g = refl
tight_by true false false true h g = refl
tight_by true false false false h g = refl
tight_by false true true true h g = absurd (true≢false g)
tight_by false true true false h g = refl
tight_by false true false true h g = refl
tight_by false true false false h g = refl
tight_by false false true true h g = absurd (true≢false g)
tight_by false false true false h g = refl
tight_by false false false true h g = refl
tight_by false false false false h g = refl

tight_seen : (left : GroundSum) (relation : Relation) (right : GroundSum) → is_tight (comparison_of left relation right) ≡ tight (class_of left) (class_of right)
tight_seen left relation right =
    tight_by (is_some (single_cell left)) (is_some (constant_number left)) (is_some (single_cell right)) (is_some (constant_number right)) (cell_alone left) (cell_alone right)

-- the key of a comparison, by its relation
key_by : (swapped : Bool) (left : GroundSum) (relation : Relation) (right : GroundSum) → swaps relation ≡ swapped →
    key (comparison_of left relation right) ≡ (if swapped then comparison_of right (order_of relation) left else comparison_of left (order_of relation) right)
key_by swapped left relation right h = of relation ∙ ap (λ b. if b then comparison_of right (order_of relation) left else comparison_of left (order_of relation) right) h
  where
    of : (r : Relation) → key (comparison_of left r right) ≡ (if swaps r then comparison_of right (order_of r) left else comparison_of left (order_of r) right)
    of relations.Equal = refl
    of relations.NotEqual = refl
    of relations.Less = refl
    of relations.LessEqual = refl
    of relations.Greater = refl
    of relations.GreaterEqual = refl

-- the key of the comparison of a left sum with this
abbrev key_with : Relation → GroundSum → GroundSum → Comparison
key_with relation right left = key (comparison_of left relation right)

-- the keys of comparisons of these sums with one
keys_of : (relation : Relation) (right : GroundSum) (lefts : List GroundSum) →
    flat_map keys (map (λ left. comparison_of left relation right) lefts) ≡ map (key_with relation right) (linear (class_of right) lefts)
keys_of relation right [] = refl
keys_of relation right (l ∷ ls) =
    (λ i. (if tight_seen l relation right i then [] else key_with relation right l ∷ []) ++ keys_of relation right ls i)
    ∙ by (tight (class_of l) (class_of right))
  where
    by : (t : Bool) → (if t then [] else key_with relation right l ∷ []) ++ map (key_with relation right) (linear (class_of right) ls)
        ≡ map (key_with relation right) (cond (not t) (l ∷ linear (class_of right) ls) (linear (class_of right) ls))
    by true = refl
    by false = refl

-- the keys of what is asked
abbrev pub ask_keys : Globals → Ask → List Comparison
ask_keys g a = flat_map keys (ask_comparisons g a)

pub column_keys : (g : Globals) (a : Ask) → swaps a.relation ≡ false →
    ask_keys g a ≡ map (λ left. comparison_of left (order_of a.relation) a.right) (linear (class_of a.right) (left_sums g a.left))
column_keys g a h = keys_of a.relation a.right (left_sums g a.left) ∙ (λ i. map (λ left. key_by false left a.relation a.right h i) (linear (class_of a.right) (left_sums g a.left)))

pub row_keys : (g : Globals) (a : Ask) → swaps a.relation ≡ true →
    ask_keys g a ≡ map (λ left. comparison_of a.right (order_of a.relation) left) (linear (class_of a.right) (left_sums g a.left))
row_keys g a h = keys_of a.relation a.right (left_sums g a.left) ∙ (λ i. map (λ left. key_by true left a.relation a.right h i) (linear (class_of a.right) (left_sums g a.left)))

pub all_keys : (g : Globals) (asks : List Ask) → flat_map keys (flat_map (ask_comparisons g) asks) ≡ flat_map (ask_keys g) asks
all_keys g [] = refl
all_keys g (a ∷ rest) = flat_map-append keys (ask_comparisons g a) (flat_map (ask_comparisons g) rest) ∙ ap (λ ks. ask_keys g a ++ ks) (all_keys g rest)
