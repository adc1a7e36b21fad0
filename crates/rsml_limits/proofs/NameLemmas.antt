-- The lists of functions that are known by their names.
use Rattle.std.proofs.Common.{◌≡◌, ℕ, Bool, true, false, cond, if◌then◌else◌, List, [], ◌∷◌, Some, refl, sym, subst}
use Rattle.std.specs.List.{All}
use Rattle.std.specs.Map.{lookup}
use Rattle.std.proofs.lemmas.List.Elements.{All-nil, All-cons, All-head, All-tail, All-weaker}
use Rattle.indexmap.specs.IndexMap.{insert_entry}
use Rattle.rsml_syntax.specs.rules.Globals.{Globals}
use Rattle.rsml_limits.specs.declared.keys.ask_blocks.ListName.{ListName}
use Rattle.rsml_limits.specs.contracts.keys.ask_blocks.ListNamePartialEq.TheImpl as name_eq
use Rattle.rsml_limits.specs.keys.Numbered.{Numbered, Grows, IsList}
use Rattle.rsml_limits.specs.keys.Shown.{shown_order, named_sums, IsNamedList}
use Rattle.rsml_limits.proofs.AlikeLemmas.{name_same}
use Rattle.rsml_limits.proofs.NumberLemmas.{list_stays}

module _ {K X : Type 0} (eq : K → K → Bool) (P : K → X → Type 0) (alike : (a b : K) (x : X) → eq a b ≡ true → (P a x → P b x) × (P b x → P a x)) where
  -- what holds of all entries holds of the one that is found
  found : (es : List (K × X)) (k : K) (x : X) → All (λ e. P e.0 e.1) es → lookup (eq k) es ≡ Some x → P k x
  found [] k x all h = cc
  found (e ∷ es) k x all h = by (eq k e.0) refl h (found es k x (All-tail (λ e. P e.0 e.1) e es all))
    where
      by : (t : Bool) → eq k e.0 ≡ t → cond t (Some e.1) (lookup (eq k) es) ≡ Some x → (lookup (eq k) es ≡ Some x → P k x) → P k x
      by true same here rest =
          let value : e.1 ≡ x = cc in
          subst (P k) value ((alike k e.0 e.1 same).1 (All-head (λ e. P e.0 e.1) e es all))
      by false same there rest = rest there

  -- and of all when one is put in
  inserted : (es : List (K × X)) (k : K) (x : X) → All (λ e. P e.0 e.1) es → P k x → All (λ e. P e.0 e.1) (insert_entry eq es k x)
  inserted [] k x all h = All-cons (λ e. P e.0 e.1) (k, x) [] h (All-nil (λ e. P e.0 e.1))
  inserted (e ∷ es) k x all h = by (eq k e.0) refl (inserted es k x (All-tail (λ e. P e.0 e.1) e es all) h)
    where
      by : (t : Bool) → eq k e.0 ≡ t → All (λ e. P e.0 e.1) (insert_entry eq es k x) → All (λ e. P e.0 e.1) (if t then (e.0, x) ∷ es else e ∷ insert_entry eq es k x)
      by true same rest = All-cons (λ e. P e.0 e.1) (e.0, x) es ((alike k e.0 x same).0 h) (All-tail (λ e. P e.0 e.1) e es all)
      by false same rest = All-cons (λ e. P e.0 e.1) e (insert_entry eq es k x) (All-head (λ e. P e.0 e.1) e es all) rest

module _ (g : Globals) where
  -- equal names have one list
  one_list : (n : Numbered) (a b : ListName) (place : ℕ) → (name_eq.ghosts).eq a b ≡ true → (IsNamedList g n a place → IsNamedList g n b place) × (IsNamedList g n b place → IsNamedList g n a place)
  one_list n a b place h =
      let same = name_same a b h in
      let alike : IsNamedList g n a place ≡ IsNamedList g n b place = λ i. IsList n place (shown_order (same.order i)) (same.sums g i) in
      (subst (λ T. T) alike, subst (λ T. T) (sym alike))

  pub named_stay : (old new : Numbered) (es : List (ListName × ℕ)) → Grows old new → All (λ e. IsNamedList g old e.0 e.1) es → All (λ e. IsNamedList g new e.0 e.1) es
  named_stay old new es grows all =
      All-weaker (λ e. IsNamedList g old e.0 e.1) (λ e. IsNamedList g new e.0 e.1) (λ e l. list_stays old new e.1 (shown_order e.0.order) (named_sums g e.0) grows l) es all

  pub named_found : (n : Numbered) (es : List (ListName × ℕ)) (name : ListName) (place : ℕ) → All (λ e. IsNamedList g n e.0 e.1) es → lookup ((name_eq.ghosts).eq name) es ≡ Some place → IsNamedList g n name place
  named_found n es name place all h = found (name_eq.ghosts).eq (IsNamedList g n) (one_list n) es name place all h

  pub named_put : (n : Numbered) (es : List (ListName × ℕ)) (name : ListName) (place : ℕ) → All (λ e. IsNamedList g n e.0 e.1) es → IsNamedList g n name place →
      All (λ e. IsNamedList g n e.0 e.1) (insert_entry (name_eq.ghosts).eq es name place)
  named_put n es name place all h = inserted (name_eq.ghosts).eq (IsNamedList g n) (one_list n) es name place all h
