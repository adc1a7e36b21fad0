-- How a move enters its target: which components get a child, place by place.
use Rattle.std.proofs.Common.{◌≡◌, ℕ, zero, suc, ◌+◌, ◌<◌, ◌≤◌, true, false, ◌&&◌, List, [], ◌∷◌, zip, length, Some, None, ⊎_elim, refl, sym, ap, ◌∙◌, subst, slice_get, slice_set, if◌then◌else◌, unwrap_or, arith, nat_le, nat_lt, eq-or-lt_of_le}
use Rattle.std.proofs.lemmas.Bool.{cases_lt}
use Rattle.std.proofs.lemmas.Bool.Decides.{nat_tests}
use Rattle.std.proofs.lemmas.List.{length-map}
use Rattle.std.proofs.lemmas.Option.{same_Some}
use Rattle.rsml_syntax.specs.declared.syntax.Spec.{Spec}
use Rattle.rsml_syntax.specs.limits.Checked.{IsChecked}
use Rattle.rsml_meaning.specs.Words.{Path, is_prefix}
use Rattle.rsml_meaning.specs.Instances.{Component, components}
use Rattle.rsml_meaning.specs.Active.{child_place, entered, given_or_kept, enter}
use Rattle.state_tree.specs.Numbers.{path_of, component_path}
use Rattle.state_tree.specs.Tables.{Family, HasFamily, AreFamilies}
use Rattle.state_tree.proofs.Lists.{get_map, get_zip, get_within, within_get, same_items}
use Rattle.state_tree.proofs.Spans.{is_past}
use Rattle.state_tree.proofs.Spread.{end_is}
use Rattle.state_tree.proofs.Walks.{families_there, path_is}

-- Lists.

past_none : {A : Type 0} (xs : List A) (j : ℕ) → length xs ≤ j → slice_get xs j ≡ None
past_none [] j h = refl
past_none (x ∷ xs) zero h = absurd (omega (arith, h))
past_none (x ∷ xs) (suc j) h = past_none xs j (omega (arith, h))

set_here : (xs : List ℕ) (i v : ℕ) → i < length xs → slice_get (slice_set xs i v) i ≡ Some v
set_here [] i v h = absurd (omega (arith, h))
set_here (x ∷ xs) zero v h = refl
set_here (x ∷ xs) (suc i) v h = set_here xs i v (omega (arith, h))

set_else : (xs : List ℕ) (i j v : ℕ) → (i ≡ j → ⊥) → slice_get (slice_set xs i v) j ≡ slice_get xs j
set_else [] i j v h = refl
set_else (x ∷ xs) zero zero v h = absurd (h refl)
set_else (x ∷ xs) zero (suc j) v h = refl
set_else (x ∷ xs) (suc i) zero v h = refl
set_else (x ∷ xs) (suc i) (suc j) v h = set_else xs i j v (λ e. h (ap suc e))

set_long : (xs : List ℕ) (i v : ℕ) → length (slice_set xs i v) ≡ length xs
set_long [] i v = refl
set_long (x ∷ xs) zero v = refl
set_long (x ∷ xs) (suc i) v = ap suc (set_long xs i v)

zip_long : {A B : Type 0} (xs : List A) (ys : List B) → length ys ≡ length xs → length (zip xs ys) ≡ length ys
zip_long [] [] h = refl
zip_long [] (y ∷ ys) h = absurd (omega (arith, h))
zip_long (x ∷ xs) [] h = refl
zip_long (x ∷ xs) (y ∷ ys) h = ap suc (zip_long xs ys (omega (arith, h)))

-- What has been written so far.
pub record IsEntered (old new after : List ℕ) (below : ℕ) : Type 0 where
  pub many : length new ≡ length old
  pub done : (j : ℕ) → j < below → slice_get new j ≡ slice_get after j
  pub rest : (j : ℕ) → below ≤ j → slice_get new j ≡ slice_get old j

pub write_one : (old new after : List ℕ) (below v : ℕ) → below < length new → slice_get after below ≡ Some v → IsEntered old new after below → IsEntered old (slice_set new below v) after (below + 1)
write_one old new after below v l e h = record {
  many = set_long new below v ∙ h.many;
  done = λ j k. ⊎_elim
      (λ m. set_else new below j v (λ q. omega (arith, q, m)) ∙ h.done j m)
      (λ m. let q : below ≡ j = omega (arith, k, m) in subst (λ z. slice_get (slice_set new below v) z ≡ slice_get after z) q (set_here new below v l ∙ sym e))
      (cases_lt j below);
  rest = λ j k. set_else new below j v (λ q. omega (arith, q, k)) ∙ h.rest j (omega (arith, k));
}

pub all_written : (old new after : List ℕ) (below : ℕ) → length after ≡ length old → IsEntered old new after below → ((j : ℕ) → below ≤ j → slice_get old j ≡ slice_get after j) → new ≡ after
all_written old new after below l h same = same_items new after (h.many ∙ sym l) (λ j. ⊎_elim (λ k. h.done j k) (λ k. h.rest j k ∙ same j k) (cases_lt j below))

-- the choices after the move
pub after_long : (s : Spec) (moving target : Path) (old : List ℕ) → length old ≡ length (components s) → length (enter s moving target old) ≡ length old
after_long s moving target old fit = length-map (zip (components s) old) (given_or_kept moving target) ∙ zip_long (components s) old fit

get_after : (s : Spec) (moving target : Path) (old : List ℕ) (j n : ℕ) (c : Component) → slice_get (components s) j ≡ Some c → slice_get old j ≡ Some n → slice_get (enter s moving target old) j ≡ Some (given_or_kept moving target (c, n))
get_after s moving target old j n c e g = get_map (given_or_kept moving target) (zip (components s) old) j (c, n) (get_zip (components s) old j c n e g)

pub given_at : (s : Spec) (moving target : Path) (old : List ℕ) (j : ℕ) (c : Component) → length old ≡ length (components s) → slice_get (components s) j ≡ Some c → is_prefix moving c.path ≡ true
    → slice_get (enter s moving target old) j ≡ Some (child_place c (entered target c))
given_at s moving target old j c fit e below =
    let n = within_get old j (let l = get_within (components s) j c e in omega (arith, l, fit)) in
    get_after s moving target old j n.0 c e n.1 ∙ ap (λ b. Some (unwrap_or (if b then Some (child_place c (entered target c)) else None) n.0)) below

-- a component that is not below keeps its child
kept_at : (s : Spec) (moving target : Path) (old : List ℕ) (j : ℕ) (c : Component) → length old ≡ length (components s) → slice_get (components s) j ≡ Some c → is_prefix moving c.path ≡ false → slice_get old j ≡ slice_get (enter s moving target old) j
kept_at s moving target old j c fit e outside =
    let n = within_get old j (let l = get_within (components s) j c e in omega (arith, l, fit)) in
    n.1 ∙ sym (get_after s moving target old j n.0 c e n.1 ∙ ap (λ b. Some (unwrap_or (if b then Some (child_place c (entered target c)) else None) n.0)) outside)

kept_past : (s : Spec) (moving target : Path) (old : List ℕ) (j : ℕ) → length old ≡ length (components s) → length old ≤ j → slice_get old j ≡ slice_get (enter s moving target old) j
kept_past s moving target old j fit l = past_none old j l ∙ sym (past_none (enter s moving target old) j (let m = after_long s moving target old fit in omega (arith, l, m)))

before_test : (a j e : ℕ) → j < a → (nat_le a j && nat_lt j e) ≡ false
before_test a j e h = grind (arith, nat_tests)

past_test : (a j e : ℕ) → e ≤ j → (nat_le a j && nat_lt j e) ≡ false
past_test a j e h = grind (arith, nat_tests)

module _ (s : Spec) (fs : List Family) (checked : IsChecked s) (all : AreFamilies s fs) (k : ℕ) (c : Component) (here : slice_get (components s) k ≡ Some c) where
  -- the components before the moving one keep their children
  pub kept_before : (target : Path) (old : List ℕ) → length old ≡ length (components s) → (j : ℕ) → j < k → slice_get old j ≡ slice_get (enter s c.path target old) j
  kept_before target old fit j l =
      let d = within_get (components s) j (let m = get_within (components s) k c here in omega (arith, l, m)) in
      let f = families_there s fs checked all k c here in
      let g = families_there s fs checked all j d.0 d.1 in
      let r = end_is s checked f.0.node c.path f.2.path in
      let lower = all.rising j k g.0 f.0 l g.1 f.1 in
      kept_at s c.path target old j d.0 fit d.1 (r.1 g.0.node d.0.path g.2.path ∙ before_test f.0.node g.0.node r.0 lower)

  -- so do those from the first on that is not below it
  pub kept_from : (target : Path) (old : List ℕ) → length old ≡ length (components s) → (below : ℕ) (d : Component) → slice_get (components s) below ≡ Some d → k ≤ below → is_prefix c.path d.path ≡ false
      → (j : ℕ) → below ≤ j → slice_get old j ≡ slice_get (enter s c.path target old) j
  kept_from target old fit below d there l out j m = ⊎_elim (λ w. by_place (within_get (components s) j w)) (λ w. kept_past s c.path target old j fit (omega (arith, w, fit))) (cases_lt j (length (components s)))
    where
      not_lower : (a b : ℕ) (f g : Family) → a ≤ b → slice_get fs a ≡ Some f → slice_get fs b ≡ Some g → f.node ≤ g.node
      not_lower a b f g l p q = ⊎_elim
          (λ e. let same = ap (λ (h : Family). h.node) (same_Some f g (sym p ∙ ap (λ i. slice_get fs i) e ∙ q)) in omega (arith, same))
          (λ m. let z = all.rising a b f g m p q in omega (arith, z))
          (eq-or-lt_of_le l)

      by_place : ((x : Component) × (slice_get (components s) j ≡ Some x)) → slice_get old j ≡ slice_get (enter s c.path target old) j
      by_place x =
          let f = families_there s fs checked all k c here in
          let g = families_there s fs checked all below d there in
          let h = families_there s fs checked all j x.0 x.1 in
          let r = end_is s checked f.0.node c.path f.2.path in
          let a = not_lower k below f.0 g.0 l f.1 g.1 in
          let b = not_lower below j g.0 h.0 m g.1 h.1 in
          let e = is_past f.0.node g.0.node r.0 a (sym (r.1 g.0.node d.path g.2.path) ∙ out) in
          kept_at s c.path target old j x.0 fit x.1 (r.1 h.0.node x.0.path h.2.path ∙ past_test f.0.node h.0.node r.0 (omega (arith, b, e)))

-- the path of a component that is there
pub component_path_is : (s : Spec) (k : ℕ) (c : Component) → slice_get (components s) k ≡ Some c → component_path s k ≡ c.path
component_path_is s k c h = ap (λ o. unwrap_or o []) (get_map (λ (x : Component). x.path) (components s) k c h)

-- nothing is written at first
pub none_written : (s : Spec) (fs : List Family) (k : ℕ) (f : Family) (target : Path) (old : List ℕ) → IsChecked s → AreFamilies s fs → HasFamily s k f → length old ≡ length (components s) → IsEntered old old (enter s (component_path s k) target old) k
none_written s fs k f target old checked all h fit = record {
  many = refl;
  done = λ j l. subst (λ p. slice_get old j ≡ slice_get (enter s p target old) j) (sym (component_path_is s k h.0 h.1)) (kept_before s fs checked all k h.0 h.1 target old fit j l);
  rest = λ j l. refl;
}

-- whether one component is below another, by the paths of their states
below_is : (s : Spec) (k below : ℕ) (f g : Family) (h : HasFamily s k f) (i : HasFamily s below g) → is_prefix (path_of s f.node) (path_of s g.node) ≡ is_prefix h.0.path i.0.path
below_is s k below f g h i = ap (λ p. is_prefix p (path_of s g.node)) (path_is s f.node h.0.path h.2.path) ∙ ap (λ p. is_prefix h.0.path p) (path_is s g.node i.0.path i.2.path)

pub written_more : (s : Spec) (k below v : ℕ) (f g : Family) (target : Path) (old new : List ℕ) → HasFamily s k f → HasFamily s below g → length old ≡ length (components s) → is_prefix (path_of s f.node) (path_of s g.node) ≡ true
    → ((c : Component) → slice_get (components s) below ≡ Some c → v ≡ child_place c (entered target c)) → IsEntered old new (enter s (component_path s k) target old) below
    → IsEntered old (slice_set new below v) (enter s (component_path s k) target old) (below + 1)
written_more s k below v f g target old new h i fit within gives so_far =
    let e = component_path_is s k h.0 h.1 in
    let prefix = subst (λ p. is_prefix p i.0.path ≡ true) (sym e) (sym (below_is s k below f g h i) ∙ within) in
    write_one old new (enter s (component_path s k) target old) below v (let l = get_within (components s) below i.0 i.1 in let m = so_far.many in omega (arith, l, m, fit))
    (given_at s (component_path s k) target old below i.0 fit i.1 prefix ∙ ap (λ n. Some n) (sym (gives i.0 i.1))) so_far

pub written_out : (s : Spec) (fs : List Family) (k below : ℕ) (f g : Family) (target : Path) (old new : List ℕ) → IsChecked s → AreFamilies s fs → HasFamily s k f → HasFamily s below g → length old ≡ length (components s) → k ≤ below
    → is_prefix (path_of s f.node) (path_of s g.node) ≡ false → IsEntered old new (enter s (component_path s k) target old) below → new ≡ enter s (component_path s k) target old
written_out s fs k below f g target old new checked all h i fit l out so_far =
    let e = component_path_is s k h.0 h.1 in
    all_written old new (enter s (component_path s k) target old) below (after_long s (component_path s k) target old fit) so_far (λ j m.
    subst (λ p. slice_get old j ≡ slice_get (enter s p target old) j) (sym e)
    (kept_from s fs checked all k h.0 h.1 target old fit below i.0 i.1 l (sym (below_is s k below f g h i) ∙ out) j m))

pub written_all : (s : Spec) (moving target : Path) (below : ℕ) (old new : List ℕ) → length old ≡ length (components s) → length (components s) ≤ below → IsEntered old new (enter s moving target old) below → new ≡ enter s moving target old
written_all s moving target below old new fit l so_far =
    all_written old new (enter s moving target old) below (after_long s moving target old fit) so_far (λ j m. kept_past s moving target old j fit (omega (arith, l, m, fit)))
