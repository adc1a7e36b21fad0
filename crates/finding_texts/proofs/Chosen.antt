-- The children that components have.
use Rattle.std.proofs.Common.{◌≡◌, ℕ, ◌<◌, List, length, get_or, sym, ap, ◌∙◌, subst, slice_get, Some}
use Rattle.rsml_syntax.specs.declared.syntax.Spec.{Spec}
use Rattle.rsml_meaning.specs.Instances.{Component, components}
use Rattle.state_tree.specs.Numbers.{AreChoices, HasChild}
use Rattle.state_tree.proofs.Lists.{get_within, within_get}
use Rattle.state_tree.proofs.Walks.{choice_there}
use Rattle.finding_texts.proofs.Pairs.{item_is}

-- What is chosen of a component: the component itself, the place of its child among all choices, and that it has this child.
pub record IsChosen (s : Spec) (choices : List ℕ) (k : ℕ) : Type 0 where
  pub component : Component
  pub there : slice_get (components s) k ≡ Some component
  pub beside : slice_get choices k ≡ Some (get_or choices k 0)
  pub within : k < length choices
  pub below : get_or choices k 0 < length component.children

pub chosen_at : (s : Spec) (choices : List ℕ) (k : ℕ) → AreChoices s choices → k < length (components s) → IsChosen s choices k
chosen_at s choices k are l =
    let c = within_get (components s) k l in
    let n = choice_there (components s) choices k c.0 are c.1 in
    let same = item_is choices k n.0 0 n.1 in
    record {
      component = c.0;
      there = c.1;
      beside = n.1 ∙ ap (λ (m : ℕ). Some m) (sym same);
      within = get_within choices k n.0 n.1;
      below = subst (λ (m : ℕ). m < length c.0.children) (sym same) n.2;
    }

pub has_child : (s : Spec) (choices : List ℕ) (k : ℕ) → AreChoices s choices → k < length (components s) → HasChild s k (get_or choices k 0)
has_child s choices k are l = let x = chosen_at s choices k are l in (x.component, x.there, x.below)
