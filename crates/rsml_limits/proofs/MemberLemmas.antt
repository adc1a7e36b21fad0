-- Lists with the same members, and sets of cells.
use Rattle.std.proofs.Common.{◌≡◌, Bool, true, false, ◌||◌, List, [], ◌∷◌, ◌++◌, map, if◌then◌else◌, refl, sym, ap, subst, ◌∙◌, append_assoc}
use Rattle.std.specs.List.{list_any}
use Rattle.std.specs.Cmp.{IsEquivalence, and_equiv, on_equiv, nat_eq_equiv, bool_eq_equiv}
use Rattle.std.specs.Cmp.Lexicographic.{nat_list_eq_equiv}
use Rattle.std.proofs.lemmas.List.{map-append}
use Rattle.std.proofs.lemmas.List.Folds.{list_any-append}
use Rattle.std.proofs.lemmas.Map.Steps.{list_any_congr}
use Rattle.indexmap.specs.IndexSet.{insert_key}
use Rattle.rsml_syntax.specs.limits.Comparisons.{InputCell, same_truth, same_cell}
use Rattle.rsml_limits.specs.declared.comparisons.input_cell.InputCell as rust
use Rattle.rsml_limits.specs.contracts.comparisons.input_cell.InputCellPartialEq.TheImpl as cell_eq
use Rattle.rsml_limits.proofs.EqualityLemmas.{cell_alike}
use Rattle.rsml_limits.proofs.EquivalenceLemmas.{truth_alike}
use Rattle.rsml_limits.specs.comparisons.Shown.{shown_cell}
use Rattle.rsml_limits.specs.thresholds.Pairs.{SameMembers}

truth_equiv : IsEquivalence same_truth
truth_equiv = subst IsEquivalence (λ i a b. truth_alike a b i) bool_eq_equiv

pub cell_equiv : IsEquivalence same_cell
cell_equiv = and_equiv (on_equiv (λ (c : InputCell). c.previous) truth_equiv) (and_equiv (on_equiv (λ (c : InputCell). c.at) nat_eq_equiv) (on_equiv (λ (c : InputCell). c.input) nat_list_eq_equiv))

module _ {A : Type 0} {eq : A → A → Bool} where
  pub same_then : (xs ys zs : List A) → SameMembers eq xs ys → ys ≡ zs → SameMembers eq xs zs
  same_then xs ys zs h e = subst (SameMembers eq xs) e h

  pub same_trans : (xs ys zs : List A) → SameMembers eq xs ys → SameMembers eq ys zs → SameMembers eq xs zs
  same_trans xs ys zs h k = record { same = λ q. h.same q ∙ k.same q }

  -- the same items, and then the same
  pub same_append : (xs ys us vs : List A) → SameMembers eq xs ys → SameMembers eq us vs → SameMembers eq (xs ++ us) (ys ++ vs)
  same_append xs ys us vs h k = record { same = λ q. list_any-append (eq q) xs us ∙ (λ i. h.same q i || k.same q i) ∙ sym (list_any-append (eq q) ys vs) }

  pub same_itself : (xs : List A) → SameMembers eq xs xs
  same_itself xs = record { same = λ q. refl }

  -- one list after another
  pub same_more : (a b more rest : List A) (c : List A) → SameMembers eq b (a ++ more) → SameMembers eq c (b ++ rest) → SameMembers eq c (a ++ (more ++ rest))
  same_more a b more rest c h k =
      same_then c ((a ++ more) ++ rest) (a ++ (more ++ rest)) (same_trans c (b ++ rest) ((a ++ more) ++ rest) k (same_append b (a ++ more) rest rest h (same_itself rest)))
      (append_assoc a more rest)

  pub same_last : (a more rest c : List A) → SameMembers eq c (a ++ more) → SameMembers eq more rest → SameMembers eq c (a ++ rest)
  same_last a more rest c h k = same_trans c (a ++ more) (a ++ rest) h (same_append a a more rest (same_itself a) k)

module _ {A : Type 0} (eq : A → A → Bool) (laws : IsEquivalence eq) where
  -- an item that is put into a set is among its keys
  insert_same : (ks : List A) (k : A) → SameMembers eq (insert_key eq ks k) (ks ++ k ∷ [])
  insert_same ks k = record { same = λ q. by q (list_any (eq k) ks) refl ∙ sym (list_any-append (eq q) ks (k ∷ [])) }
    where
      still : (a b : Bool) → (b ≡ true → a ≡ true) → a ≡ (a || (b || false))
      still true b h = refl
      still false false h = refl
      still false true h = h refl

      by : (q : A) (t : Bool) → list_any (eq k) ks ≡ t → list_any (eq q) (if t then ks else ks ++ k ∷ []) ≡ (list_any (eq q) ks || (eq q k || false))
      by q true there = still (list_any (eq q) ks) (eq q k) (λ e. list_any_congr laws q k ks e ∙ there)
      by q false there = list_any-append (eq q) ks (k ∷ [])

-- an insert, seen through f
module _ {A B : Type 0} (eq : A → A → Bool) (same : B → B → Bool) (f : A → B) (alike : (a b : A) → eq a b ≡ same (f a) (f b)) where
  any_mapped : (k : A) (ks : List A) → list_any (eq k) ks ≡ list_any (same (f k)) (map f ks)
  any_mapped k [] = refl
  any_mapped k (x ∷ xs) = λ i. alike k x i || any_mapped k xs i

  insert_mapped : (ks : List A) (k : A) → map f (insert_key eq ks k) ≡ insert_key same (map f ks) (f k)
  insert_mapped ks k = by (list_any (eq k) ks) ∙ ap (λ t. if t then map f ks else map f ks ++ f k ∷ []) (any_mapped k ks)
    where
      by : (t : Bool) → map f (if t then ks else ks ++ k ∷ []) ≡ (if t then map f ks else map f ks ++ f k ∷ [])
      by true = refl
      by false = map-append f ks (k ∷ [])

pub cell_put : (ks : List rust.InputCell) (k : rust.InputCell) → SameMembers same_cell (map shown_cell (insert_key (cell_eq.ghosts).eq ks k)) (map shown_cell ks ++ shown_cell k ∷ [])
cell_put ks k =
    subst (λ cs. SameMembers same_cell cs (map shown_cell ks ++ shown_cell k ∷ []))
    (sym (insert_mapped (cell_eq.ghosts).eq same_cell shown_cell cell_alike ks k))
    (insert_same same_cell cell_equiv (map shown_cell ks) (shown_cell k))
