-- Entries by groups: how many numbers are within a range, and adding up.
use Rattle.std.proofs.Common.{◌≡◌, ℕ, ◌≤◌, nat_eq, true, false, ◌&&◌, List, [], ◌∷◌, length, map, filter, Option, Result, Ok, Err, IfOk, OnOk, refl, sym, ap, ◌∙◌, ℤ, int_lt, int_le}
use Rattle.std.specs.Prelude.{flat_map}
use Rattle.std.specs.Cmp.{IsEquivalence, and_equiv, on_equiv, nat_eq_equiv, int_eq_equiv, signed_Decides}
use Rattle.std.specs.List.{IsDistinct}
use Rattle.std.specs.Option.{option_map_or}
use Rattle.std.specs.Ordering.{int_eq}
use Rattle.std.proofs.lemmas.Option.{slice_get_past}
use Rattle.rsml_base.specs.Counting.{distinct, adds}
use Rattle.pair_counts.specs.declared.blocks.Block.{Block}
use Rattle.pair_counts.specs.declared.blocks.Range.{Range}
use Rattle.pair_counts.specs.Grouped.{places_of, places_at}
use Rattle.pair_counts.specs.Outside.{is_outside}
use Rattle.pair_counts.specs.Blocks.{list_at, is_within, entries, same_entry}
use Rattle.pair_counts.proofs.Grouping.{adds_same, filter_flat_map}
use Rattle.pair_counts.proofs.GroupLemmas.{many_in_groups}

no_number : (ns : List ℤ) → filter (λ n. false) ns ≡ []
no_number [] = refl
no_number (n ∷ ns) = no_number ns

-- where there is no range, no number is within
pub none_within : (ranges : List Range) (place : ℕ) (ns : List ℤ) → length ranges ≤ place → filter (is_within ranges place) ns ≡ []
none_within ranges place ns h =
    ap (λ (o : Option Range). filter (λ n. option_map_or (λ r. int_lt r.low n && int_le n r.high) o false) ns) (slice_get_past ranges place h) ∙ no_number ns

pub outside_alike : (range : Range) (a b : ℤ) → int_eq a b ≡ true → is_outside range a ≡ is_outside range b
outside_alike range a b h = ap (is_outside range) ((signed_Decides a b).0 h)

-- how many entries a number has with the lists at places
abbrev pub of_group : List Range → List (List ℤ) → ℕ × List ℕ → ℕ
of_group ranges lists g = length (distinct int_eq (filter (is_within ranges g.0) (flat_map (list_at lists) g.1)))

entry_equiv : IsEquivalence same_entry
entry_equiv = and_equiv (on_equiv (λ (e : ℕ × ℤ). e.0) nat_eq_equiv) (on_equiv (λ (e : ℕ × ℤ). e.1) int_eq_equiv)

-- blocks have as many entries as their groups have together
pub many_entries : (ranges : List Range) (lists : List (List ℤ)) (blocks : List Block) (groups : List (ℕ × List ℕ)) →
    IsDistinct nat_eq (map (λ g. g.0) groups) → ((a : ℕ) → places_at groups a ≡ places_of blocks a) →
    length (distinct same_entry (flat_map (entries ranges lists) blocks)) ≡ adds (of_group ranges lists) groups
many_entries ranges lists blocks groups differ places =
    many_in_groups int_eq same_entry (λ (a : ℕ) (n : ℤ). (a, n)) (λ a c b d. refl) (λ e. e.0) (λ e. e.1) (λ e. refl)
    (λ a place. filter (is_within ranges a) (list_at lists place)) blocks groups differ places entry_equiv
    ∙ adds_same (λ (g : ℕ × List ℕ). length (distinct int_eq (flat_map (λ place. filter (is_within ranges g.0) (list_at lists place)) g.1))) (of_group ranges lists)
    (λ g. ap (λ ns. length (distinct int_eq ns)) (sym (filter_flat_map (is_within ranges g.0) (list_at lists) g.1)))
    groups

-- what holds of a success, where a fact comes with it
pub ok_with : {A E : Type 0} (r : Result A E) (Q : Type 0) (P R : A → Type 0) → OnOk r Q → IfOk r P → (Q → (x : A) → P x → R x) → IfOk r R
ok_with (Ok x) Q P R q p f = f q x p
ok_with (Err e) Q P R q p f = tt
