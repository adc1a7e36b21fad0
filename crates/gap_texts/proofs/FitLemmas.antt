-- The columns of a set of worlds fit its specification.
use Rattle.std.proofs.Common.{◌≡◌, ℕ, zero, suc, ◌<◌, Bool, ◌&&◌, not, List, [], ◌∷◌, length, Option, refl, sym, ap, ◌∙◌, subst, true≢false, IsTrue}
use Rattle.std.specs.Cmp.{first_so, second_so}
use Rattle.std.specs.Cmp.Lexicographic.{pointwise}
use Rattle.std.specs.List.{AllZip}
use Rattle.std.proofs.lemmas.Option.{same_Some}
use Rattle.rsml_syntax.specs.declared.syntax.Spec.{Spec}
use Rattle.rsml_syntax.specs.declared.world.World.{World}
use Rattle.rsml_meaning.specs.Instances.{components}
use Rattle.rsml_meaning.specs.Cells.{cells, is_of}
use Rattle.rsml_meaning.specs.Groups.{Group, groups}
use Rattle.rsml_meaning.specs.Worlds.{IsWorld, is_choice}
use Rattle.state_tree.specs.Numbers.{HasChild}
use Rattle.state_tree.proofs.Lists.{as_long, beside, get_within, within_get}
use Rattle.state_tree.proofs.Walks.{choice_there}
use Rattle.world_columns.specs.declared.column.Column.{Column}
use Rattle.world_columns.specs.declared.group.GroupGaps.{GroupGaps}
use Rattle.world_columns.specs.declared.group.GroupGaps.TheVariants as told
use Rattle.world_columns.specs.Columns.{lies_in}
use Rattle.world_columns.specs.Gaps.{AreGaps, IsColumn, IsWidestChild}
use Rattle.world_columns.specs.Gaps as widening
use Rattle.world_columns.specs.GapsOf.{AreGroupGaps}
use Rattle.gap_texts.specs.Fitting.{AreColumns, AreOfGroups, FitsColumn, FitsGroup, IsChildOf}

pointwise_long : {A B : Type 0} (t : A → B → Bool) (xs : List A) (ys : List B) → IsTrue (pointwise t xs ys) → length ys ≡ length xs
pointwise_long t [] [] h = refl
pointwise_long t [] (y ∷ ys) h = absurd (true≢false (sym h))
pointwise_long t (x ∷ xs) [] h = absurd (true≢false (sym h))
pointwise_long t (x ∷ xs) (y ∷ ys) h = ap suc (pointwise_long t xs ys (second_so (t x y) (pointwise t xs ys) h))

-- a child that is not any is the world's
widest_fits : (Lies : Option ℕ → Type 0) (s : Spec) (k own : ℕ) (x : Option ℕ) → HasChild s k own → IsWidestChild Lies own x → IsChildOf s k x
widest_fits Lies s k own x has (widening.any h) = tt
widest_fits Lies s k own x has (widening.IsWidestChild.one h) = has

module _ (s : Spec) (set : World → Bool) where
  column_fits : (w : World) (c : Column) → IsWorld s w → IsColumn s set w c → FitsColumn s c
  column_fits w c world is =
      let choices = first_so (pointwise is_choice (components s) w.choices) (pointwise (λ i n. is_of i.numbers n) (cells s) w.cells) world in
      let numbers = second_so (pointwise is_choice (components s) w.choices) (pointwise (λ i n. is_of i.numbers n) (cells s) w.cells) world in
      let as_many = pointwise_long is_choice (components s) w.choices choices in
      record {
        children = record {
          long = is.children ∙ as_many;
          each = λ k x at.
              let component = within_get (components s) k (subst (λ (n : ℕ). k < n) (is.children ∙ as_many) (get_within c.children k x at)) in
              let own = choice_there (components s) w.choices k component.0 choices component.1 in
              widest_fits _ s k own.0 x (component.0, component.1, own.2) (is.child k own.0 x own.1 at);
        };
        spans = is.spans ∙ pointwise_long (λ i n. is_of i.numbers n) (cells s) w.cells numbers;
      }

-- each column of a set fits
pub columns_fit : (s : Spec) (set : World → Bool) (most : ℕ) (cs : List Column) (more : Bool) → AreGaps s set most cs more → AreColumns s cs
columns_fit s set most [] more h k c at = absurd (let no : ⊥ = cc in no)
columns_fit s set zero (d ∷ cs) more h k c at = absurd h
columns_fit s set (suc most) (d ∷ cs) more h zero c at =
    subst (λ (x : Column). FitsColumn s x) (same_Some d c at) (column_fits s set h.0 d h.1.such.0 h.2)
columns_fit s set (suc most) (d ∷ cs) more h (suc k) c at = columns_fit s (λ v. set v && not (lies_in d v)) most cs more h.3 k c at

group_fits : (s : Spec) (most : ℕ) (g : Group) (x : GroupGaps) → AreGroupGaps s most g x → FitsGroup s x
group_fits s most g told.Sound h = tt
group_fits s most g (told.Missing x) h = columns_fit s _ most x.columns x.more h.1
group_fits s most g (told.Double x) h = columns_fit s _ most x.columns x.more h.2

-- what is told of the groups fits
pub groups_fit : (s : Spec) (most : ℕ) (gs : List GroupGaps) → AllZip (AreGroupGaps s most) (groups s) gs → AreOfGroups s gs
groups_fit s most gs h = record {
  long = sym (as_long (AreGroupGaps s most) (groups s) gs h);
  each = λ k x at. let g = beside (AreGroupGaps s most) (groups s) gs k x h at in group_fits s most g.0 x g.2;
}
