-- A set for each event: what is in them after one is added, and after one gets an event more.
use Rattle.std.proofs.Common.{◌≡◌, ℕ, zero, suc, ◌<◌, ◌≤◌, ◌==◌, ◌&&◌, ◌||◌, Bool, true, false, List, [], ◌∷◌, ◌++◌, length, set, get_or, Option, Some, None, slice_get, refl, sym, ap, ◌∙◌, ⊎_elim, arith, true≢false}
use Rattle.std.proofs.lemmas.Option.{slice_get_within, slice_get_read, slice_get_past, slice_get-get_or}
use Rattle.std.proofs.lemmas.Bool.{ne_eqb, cases_eq}
use Rattle.std.specs.Cmp.{nat_eq_equiv}
use Rattle.event_graph.specs.declared.events.Events.{Events}
use Rattle.event_graph.specs.Sets.{has, has_at}

pub in_row : (sets : List Events) (a b : ℕ) (s : Events) → slice_get sets a ≡ Some s → has_at sets a b ≡ has s b
unfolding has_at
in_row sets a b s h = ap (λ o. elim o [ Some set ↦ has set b | None ↦ false ]) h

-- only events below the length have a set
pub has_below : (sets : List Events) (a b : ℕ) → has_at sets a b ≡ true → a < length sets
unfolding has_at
has_below sets a b h = by (slice_get sets a) refl h
  where
    by : (o : Option Events) → slice_get sets a ≡ o → elim o [ Some set ↦ has set b | None ↦ false ] ≡ true → a < length sets
    by (Some s) e k = slice_get_within sets a s e
    by None e k = absurd (true≢false (sym k))

pub none_more : (sets : List Events) (s : Events) → ((a b : ℕ) → has_at sets a b ≡ false) → ((q : ℕ) → has s q ≡ false) → (a b : ℕ) → has_at (sets ++ s ∷ []) a b ≡ false
unfolding has_at
none_more [] s h k zero b = k b
none_more [] s h k (suc a) b = refl
none_more (t ∷ sets) s h k zero b = h zero b
none_more (t ∷ sets) s h k (suc a) b = none_more sets s (λ i j. h (suc i) j) k a b

pub none_in_none : (sets : List Events) → sets ≡ [] → (a b : ℕ) → has_at sets a b ≡ false
unfolding has_at
none_in_none sets h zero b = ap (λ xs. has_at xs 0 b) h
none_in_none sets h (suc a) b = ap (λ xs. has_at xs (suc a) b) h

set_same : (sets : List Events) (place : ℕ) (t : Events) → place < length sets → slice_get (set sets place t) place ≡ Some t
set_same [] place t h = absurd (omega (arith, h))
set_same (s ∷ sets) zero t h = refl
set_same (s ∷ sets) (suc place) t h = set_same sets place t (omega (arith, h))

set_other : (sets : List Events) (place a : ℕ) (t : Events) → (a ≡ place → ⊥) → slice_get (set sets place t) a ≡ slice_get sets a
set_other [] place a t h = refl
set_other (s ∷ sets) zero zero t h = absurd (h refl)
set_other (s ∷ sets) zero (suc a) t h = refl
set_other (s ∷ sets) (suc place) zero t h = refl
set_other (s ∷ sets) (suc place) (suc a) t h = set_other sets place a t (λ e. h (ap suc e))

pub put_at : (sets : List Events) (place event : ℕ) (s t : Events) → slice_get sets place ≡ Some s → ((q : ℕ) → has t q ≡ (has s q || event == q)) →
    (a b : ℕ) → has_at (set sets place t) a b ≡ (has_at sets a b || (place == a && event == b))
unfolding has_at
put_at sets place event s t h k a b = ⊎_elim here there (cases_eq a place)
  where
    nothing_more : (x : Bool) (p q : Bool) → p ≡ false → x ≡ (x || (p && q))
    nothing_more true p q e = refl
    nothing_more false p q e = ap (λ o. o && q) (sym e)

    here : a ≡ place → has_at (set sets place t) a b ≡ (has_at sets a b || (place == a && event == b))
    here e =
        let one : has_at sets a b ≡ has s b = ap (λ i. has_at sets i b) e ∙ in_row sets place b s h in
        let two : (place == a) ≡ true = ap (λ i. place == i) e ∙ nat_eq_equiv.refl place in
        ap (λ i. has_at (set sets place t) i b) e ∙ in_row (set sets place t) place b t (set_same sets place t (slice_get_within sets place s h)) ∙ k b
        ∙ sym (λ j. one j || (two j && event == b))

    there : (a ≡ place → ⊥) → has_at (set sets place t) a b ≡ (has_at sets a b || (place == a && event == b))
    there ne = same ∙ nothing_more (has_at sets a b) (place == a) (event == b) (ne_eqb place a (λ e. ne (sym e)))
      where
        same : has_at (set sets place t) a b ≡ has_at sets a b
        same = ap (λ o. elim o [ Some set ↦ has set b | None ↦ false ]) (set_other sets place a t ne)

pub join_at : (sets : List Events) (place : ℕ) (s t u : Events) → slice_get sets place ≡ Some s → ((q : ℕ) → has t q ≡ (has s q || has u q)) →
    (a b : ℕ) → has_at (set sets place t) a b ≡ (has_at sets a b || (place == a && has u b))
unfolding has_at
join_at sets place s t u h k a b = ⊎_elim here there (cases_eq a place)
  where
    nothing_more : (x : Bool) (p q : Bool) → p ≡ false → x ≡ (x || (p && q))
    nothing_more true p q e = refl
    nothing_more false p q e = ap (λ o. o && q) (sym e)

    here : a ≡ place → has_at (set sets place t) a b ≡ (has_at sets a b || (place == a && has u b))
    here e =
        let one : has_at sets a b ≡ has s b = ap (λ i. has_at sets i b) e ∙ in_row sets place b s h in
        let two : (place == a) ≡ true = ap (λ i. place == i) e ∙ nat_eq_equiv.refl place in
        ap (λ i. has_at (set sets place t) i b) e ∙ in_row (set sets place t) place b t (set_same sets place t (slice_get_within sets place s h)) ∙ k b
        ∙ sym (λ j. one j || (two j && has u b))

    there : (a ≡ place → ⊥) → has_at (set sets place t) a b ≡ (has_at sets a b || (place == a && has u b))
    there ne =
        ap (λ o. elim o [ Some set ↦ has set b | None ↦ false ]) (set_other sets place a t ne)
        ∙ nothing_more (has_at sets a b) (place == a) (has u b) (ne_eqb place a (λ e. ne (sym e)))

pub join_where : (sets : List Events) (place m : ℕ) (s t u : Events) → slice_get sets place ≡ Some s → ((q : ℕ) → has t q ≡ (has s q || has u q)) → has_at sets place m ≡ true →
    (a b : ℕ) → has_at (set sets place t) a b ≡ (has_at sets a b || (place == a && (has_at sets place m && has u b)))
join_where sets place m s t u h k held a b = join_at sets place s t u h k a b ∙ (λ j. has_at sets a b || (place == a && (sym held j && has u b)))

pub join_not : (sets : List Events) (place m : ℕ) (u : Events) → has_at sets place m ≡ false →
    (a b : ℕ) → has_at sets a b ≡ (has_at sets a b || (place == a && (has_at sets place m && has u b)))
join_not sets place m u free a b = nothing (has_at sets a b) (place == a) (has_at sets place m) (has u b) free
  where
    nothing : (x p r v : Bool) → r ≡ false → x ≡ (x || (p && (r && v)))
    nothing true p r v e = refl
    nothing false true r v e = ap (λ o. o && v) (sym e)
    nothing false false r v e = refl

pub row_is : (sets : List Events) (place : ℕ) (s : Events) → place < length sets → s ≡ get_or sets place s → (q : ℕ) → has s q ≡ has_at sets place q
row_is sets place s h k q = sym (in_row sets place q s (slice_get_read sets (length sets) place s refl h k))

pub read_is : (sets : List Events) (place : ℕ) (d : Events) → place < length sets → (q : ℕ) → has (get_or sets place d) q ≡ has_at sets place q
read_is sets place d h q = sym (in_row sets place q (get_or sets place d) (slice_get-get_or sets place d h))

pub none_above : (sets : List Events) (a b : ℕ) → length sets ≤ a → has_at sets a b ≡ false
unfolding has_at
none_above sets a b h = ap (λ o. elim o [ Some set ↦ has set b | None ↦ false ]) (slice_get_past sets a h)
