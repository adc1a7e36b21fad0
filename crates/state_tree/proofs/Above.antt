-- The path above a path.
use Rattle.std.proofs.Common.{◌≡◌, ◌≤◌, [], ◌∷◌, length, Option, Some, None, unwrap_or, refl, sym, ap, ◌∙◌, arith}
use Rattle.std.proofs.lemmas.Option.{same_Some}
use Rattle.rsml_syntax.specs.declared.world.Step.{Step}
use Rattle.rsml_meaning.specs.Words.{Path, child_path}
use Rattle.state_tree.specs.nodes.Numbers.{path_above}

pub above_is : (p q : Path) → path_above p ≡ Some q → (x : Step) × (p ≡ child_path q x)
above_is [] q h = absurd (let no : ⊥ = cc in no)
above_is (x ∷ []) q h = absurd (let no : ⊥ = cc in no)
above_is (x ∷ y ∷ p) q h = by_above (path_above (y ∷ p)) refl (same_Some (x ∷ unwrap_or (path_above (y ∷ p)) []) q h) (above_is (y ∷ p))
  where
    by_path : (p : Path) → path_above (y ∷ p) ≡ None → x ∷ unwrap_or (path_above (y ∷ p)) [] ≡ q → (z : Step) × (x ∷ y ∷ p ≡ child_path q z)
    by_path [] e k = (y, ap (λ t. child_path t y) k)
    by_path (z ∷ p) e k = absurd (let no : ⊥ = cc in no)

    by_above : (o : Option Path) → path_above (y ∷ p) ≡ o → x ∷ unwrap_or (path_above (y ∷ p)) [] ≡ q
        → ((r : Path) → path_above (y ∷ p) ≡ Some r → (z : Step) × (y ∷ p ≡ child_path r z)) → (z : Step) × (x ∷ y ∷ p ≡ child_path q z)
    by_above (Some r) e k f =
        let rest = f r e in
        let front : x ∷ r ≡ q = ap (λ (o : Option Path). x ∷ unwrap_or o []) (sym e) ∙ k in
        (rest.0, ap (λ t. x ∷ t) rest.1 ∙ ap (λ t. child_path t rest.0) front)
    by_above None e k f = by_path p e k

pub above_none : (p : Path) → path_above p ≡ None → length p ≤ 1
above_none [] h = omega arith
above_none (x ∷ []) h = omega arith
above_none (x ∷ y ∷ p) h = absurd (let no : ⊥ = cc in no)
