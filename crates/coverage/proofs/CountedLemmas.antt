-- A round is counted of all members.
use Rattle.std.proofs.Common.{◌≡◌, ℕ, zero, suc, ◌<◌, ◌^◌, Bool, true, false, List, [], ◌∷◌, ◌++◌, map, length, Option, Some, None, option_map, slice_get, refl, sym, ap, ◌∙◌, subst}
use Rattle.std.specs.Prelude.{if◌then◌else◌}
use Rattle.std.specs.List.{AllZip}
use Rattle.std.specs.Option.{option_map_or}
use Rattle.std.proofs.lemmas.List.{length-map}
use Rattle.std.proofs.lemmas.Option.{same_Some}
use Rattle.rsml_syntax.specs.declared.syntax.Cell.{Cell}
use Rattle.rsml_syntax.specs.declared.syntax.Spec.{Spec}
use Rattle.rsml_syntax.specs.rules.Tables.{below}
use Rattle.rsml_meaning.specs.Words.{Each}
use Rattle.rsml_meaning.specs.Truth.{view}
use Rattle.rsml_meaning.specs.Steps.{Round}
use Rattle.and_or_tables.specs.Shape.{columns}
use Rattle.and_or_tables.proofs.Spelling.{length-below}
use Rattle.micro_step.specs.Places.{places_where}
use Rattle.state_tree.proofs.Lists.{as_long}
use Rattle.micro_step.specs.Rising.{AreRising, among}
use Rattle.micro_step.specs.Rows.{guard_rows, bits_of}
use Rattle.micro_step.proofs.PlaceLemmas.{among_places, rising_places}
use Rattle.micro_step.proofs.LoopLemmas.{places_below}
use Rattle.coverage.specs.declared.counter.Counter.{Counter}
use Rattle.coverage.specs.Coverage.{Reacting, Covered, reacts, cells_in, covered}
use Rattle.coverage.specs.Counters.{cells_kept, one_more, counted, counted_among, IsOf, IsReady}
use Rattle.coverage.proofs.LoopLemmas.{SoFar}
use Rattle.coverage.proofs.RoundLemmas.{covered_more, covered_same}

module _ {A : Type 0} (P : A → Counter → Type 0) where
  pub by_places : (xs : List A) (cs : List Counter) → ((q : ℕ) (a : A) → slice_get xs q ≡ Some a → (k : Counter) × (slice_get cs q ≡ Some k) × P a k)
      → ((q : ℕ) → slice_get xs q ≡ None → slice_get cs q ≡ None) → AllZip P xs cs
  by_places [] [] some none = tt
  by_places [] (k ∷ cs) some none = let e = none 0 refl in absurd (let no : ⊥ = cc in no)
  by_places (a ∷ xs) [] some none = let e = (some 0 a refl).1 in absurd (let no : ⊥ = cc in no)
  by_places (a ∷ xs) (k ∷ cs) some none =
      let x = some 0 a refl in
      (subst (P a) (sym (same_Some k x.0 x.1)) x.2, by_places xs cs (λ q b e. some (suc q) b e) (λ q e. none (suc q) e))

  pub beside_at : (xs : List A) (cs : List Counter) → AllZip P xs cs → (q : ℕ) (a : A) → slice_get xs q ≡ Some a → (k : Counter) × (slice_get cs q ≡ Some k) × P a k
  beside_at [] [] z q a e = absurd (let no : ⊥ = cc in no)
  beside_at [] (k ∷ cs) z q a e = absurd z
  beside_at (b ∷ xs) [] z q a e = absurd z
  beside_at (b ∷ xs) (k ∷ cs) z zero a e = (k, refl, subst (λ d. P d k) (same_Some b a e) z.0)
  beside_at (b ∷ xs) (k ∷ cs) z (suc q) a e = beside_at xs cs z.1 q a e

  pub none_beside : (xs : List A) (cs : List Counter) → AllZip P xs cs → (q : ℕ) → slice_get xs q ≡ None → slice_get cs q ≡ None
  none_beside [] [] z q e = refl
  none_beside [] (k ∷ cs) z q e = absurd z
  none_beside (b ∷ xs) [] z q e = absurd z
  none_beside (b ∷ xs) (k ∷ cs) z zero e = absurd (let no : ⊥ = cc in no)
  none_beside (b ∷ xs) (k ∷ cs) z (suc q) e = none_beside xs cs z.1 q e

-- Counters of members, and what they have counted.
module _ {A : Type 0} (s : Spec) (of : A → Reacting) where
  -- a counter is of a member, and has counted these rounds
  abbrev pub Counts : List Round → A → Counter → Type 0
  Counts rs a k = IsOf (of a).guard k × (k.tally ≡ covered s rs (of a))

  pub have_counted : (rs : List Round) (xs : List A) (cs : List Counter) → AllZip (λ a k. IsOf (of a).guard k) xs cs → map (λ k. k.tally) cs ≡ map (λ a. covered s rs (of a)) xs
      → AllZip (Counts rs) xs cs
  have_counted rs [] [] z e = tt
  have_counted rs [] (k ∷ cs) z e = absurd z
  have_counted rs (a ∷ xs) [] z e = absurd z
  have_counted rs (a ∷ xs) (k ∷ cs) z e =
      let here : k.tally ≡ covered s rs (of a) = same_Some _ _ (ap (λ (ts : List Covered). slice_get ts 0) e) in
      ((z.0, here), have_counted rs xs cs z.1 (rest (map (λ k. k.tally) cs) (map (λ a. covered s rs (of a)) xs) k.tally (covered s rs (of a)) e))
    where
      rest : (ts us : List Covered) (t u : Covered) → t ∷ ts ≡ u ∷ us → ts ≡ us
      rest ts us t u e = cc

  pub are_of : (rs : List Round) (xs : List A) (cs : List Counter) → AllZip (Counts rs) xs cs → AllZip (λ a k. IsOf (of a).guard k) xs cs
  are_of rs [] [] z = tt
  are_of rs [] (k ∷ cs) z = absurd z
  are_of rs (a ∷ xs) [] z = absurd z
  are_of rs (a ∷ xs) (k ∷ cs) z = (z.0.0, are_of rs xs cs z.1)

  pub tallies : (rs : List Round) (xs : List A) (cs : List Counter) → AllZip (Counts rs) xs cs → map (λ k. k.tally) cs ≡ map (λ a. covered s rs (of a)) xs
  tallies rs [] [] z = refl
  tallies rs [] (k ∷ cs) z = absurd z
  tallies rs (a ∷ xs) [] z = absurd z
  tallies rs (a ∷ xs) (k ∷ cs) z = let here = z.0.1 in let rest = tallies rs xs cs z.1 in λ i. here i ∷ rest i

  still_of : (b : ℕ) (a : A) (k : Counter) → IsOf (of a).guard k → IsOf (of a).guard (counted b k)
  still_of b a k is = record {
    kept = is.kept;
    long = length-map (below (length k.tally.columns)) _ ∙ length-below (length k.tally.columns) ∙ is.long;
  }

  -- the counters of what reacts have counted the round
  pub round_counted : (rs : List Round) (r : Round) (xs : List A) (bits : ℕ → ℕ) (old new : List Counter)
      → ((q : ℕ) (a : A) → slice_get xs q ≡ Some a → bits q ≡ bits_of (guard_rows (view s r.world) (of a).indices (of a).guard))
      → SoFar (places_where (λ a. reacts s (of a) r) 0 xs) bits old new → AllZip (Counts rs) xs old → AllZip (Counts (rs ++ r ∷ [])) xs new
  round_counted rs r xs bits old new rows after z = by_places (Counts (rs ++ r ∷ [])) xs new some none
    where
      none : (q : ℕ) → slice_get xs q ≡ None → slice_get new q ≡ None
      none q e = after q ∙ ap (λ (o : Option Counter). option_map (λ (k : Counter). if among (places_where (λ a. reacts s (of a) r) 0 xs) q then counted (bits q) k else k) o) (none_beside (Counts rs) xs old z q e)

      by : (q : ℕ) (a : A) (k : Counter) → bits q ≡ bits_of (guard_rows (view s r.world) (of a).indices (of a).guard) → Counts rs a k → (b : Bool) → reacts s (of a) r ≡ b
          → Counts (rs ++ r ∷ []) a (if b then counted (bits q) k else k)
      by q a k f c true e = (
        still_of (bits q) a k c.0,
        ap (λ (n : ℕ). one_more n (cells_kept k.masks) k.tally) f
            ∙ ap (λ (cs : List (List Cell)). one_more (bits_of (guard_rows (view s r.world) (of a).indices (of a).guard)) cs k.tally) c.0.kept
            ∙ ap (one_more (bits_of (guard_rows (view s r.world) (of a).indices (of a).guard)) (cells_in (of a).guard)) c.1
            ∙ covered_more s rs r (of a) e,
      )
      by q a k f c false e = (c.0, c.1 ∙ covered_same s rs r (of a) e)

      some : (q : ℕ) (a : A) → slice_get xs q ≡ Some a → (k : Counter) × (slice_get new q ≡ Some k) × Counts (rs ++ r ∷ []) a k
      some q a e =
          let x = beside_at (Counts rs) xs old z q a e in
          let is : among (places_where (λ a. reacts s (of a) r) 0 xs) q ≡ reacts s (of a) r =
          among_places (λ a. reacts s (of a) r) xs q ∙ ap (λ (o : Option A). option_map_or (λ a. reacts s (of a) r) o false) e in
          let here : slice_get new q ≡ Some (if reacts s (of a) r then counted (bits q) x.0 else x.0) =
          after q ∙ ap (λ (o : Option Counter). option_map (λ (k : Counter). if among (places_where (λ a. reacts s (of a) r) 0 xs) q then counted (bits q) k else k) o) x.1
          ∙ ap (λ (b : Bool). Some (if b then counted (bits q) x.0 else x.0)) is in
          (if reacts s (of a) r then counted (bits q) x.0 else x.0, here, by q a x.0 (rows q a e) x.2 (reacts s (of a) r) refl)

  -- with room for one round more they are ready
  pub are_ready : (xs : List A) (cs : List Counter) → AllZip (λ a k. IsOf (of a).guard k) xs cs → Each (λ c. c.count < 2 ^ 63) (map (λ k. k.tally) cs) → Each IsReady cs
  are_ready [] [] z few = tt
  are_ready [] (k ∷ cs) z few = absurd z
  are_ready (a ∷ xs) [] z few = absurd z
  are_ready (a ∷ xs) (k ∷ cs) z few =
      (record { whole = z.0.long ∙ ap (λ (cs : List (List Cell)). columns cs) (sym z.0.kept); room = few.0 }, are_ready xs cs z.1 few.1)

  -- counters stay those of their members
  pub still_all : (xs : List A) (ks : List ℕ) (bits : ℕ → ℕ) (old seen new : List Counter) → seen ≡ old → SoFar ks bits seen new → AllZip (λ a k. IsOf (of a).guard k) xs old
      → AllZip (λ a k. IsOf (of a).guard k) xs new
  still_all xs ks bits old seen new same after z = by_places (λ a k. IsOf (of a).guard k) xs new some none
    where
      at : (q : ℕ) → slice_get new q ≡ option_map (counted_among ks bits q) (slice_get old q)
      at q = after q ∙ ap (λ (cs : List Counter). option_map (counted_among ks bits q) (slice_get cs q)) same

      none : (q : ℕ) → slice_get xs q ≡ None → slice_get new q ≡ None
      none q e = at q ∙ ap (λ (o : Option Counter). option_map (counted_among ks bits q) o) (none_beside (λ a k. IsOf (of a).guard k) xs old z q e)

      by : (q : ℕ) (a : A) (k : Counter) (b : Bool) → IsOf (of a).guard k → IsOf (of a).guard (if b then counted (bits q) k else k)
      by q a k true is = still_of (bits q) a k is
      by q a k false is = is

      some : (q : ℕ) (a : A) → slice_get xs q ≡ Some a → (k : Counter) × (slice_get new q ≡ Some k) × IsOf (of a).guard k
      some q a e =
          let x = beside_at (λ a k. IsOf (of a).guard k) xs old z q a e in
          (counted_among ks bits q x.0, at q ∙ ap (λ (o : Option Counter). option_map (counted_among ks bits q) o) x.1, by q a x.0 (among ks q) x.2)

  -- the tallies after the round, by those before
  pub round_tallies : (rs : List Round) (r : Round) (xs : List A) (ks : List ℕ) (bits : ℕ → ℕ) (old seen new : List Counter) → seen ≡ old
      → ks ≡ places_where (λ a. reacts s (of a) r) 0 xs
      → ((q : ℕ) (a : A) → slice_get xs q ≡ Some a → bits q ≡ bits_of (guard_rows (view s r.world) (of a).indices (of a).guard))
      → SoFar ks bits seen new → AllZip (λ a k. IsOf (of a).guard k) xs old → map (λ k. k.tally) old ≡ map (λ a. covered s rs (of a)) xs
      → map (λ k. k.tally) new ≡ map (λ a. covered s (rs ++ r ∷ []) (of a)) xs
  round_tallies rs r xs ks bits old seen new same numbers rows after z e =
      tallies (rs ++ r ∷ []) xs new
      (round_counted rs r xs bits old new rows
      (λ q. after q ∙ ap (λ (cs : List Counter). option_map (counted_among ks bits q) (slice_get cs q)) same ∙ ap (λ (ns : List ℕ). option_map (counted_among ns bits q) (slice_get old q)) numbers)
      (have_counted rs xs old z e))

  pub all_ready : (xs : List A) (cs seen : List Counter) → seen ≡ cs → AllZip (λ a k. IsOf (of a).guard k) xs cs → Each (λ c. c.count < 2 ^ 63) (map (λ k. k.tally) cs) → Each IsReady seen
  all_ready xs cs seen same z few = subst (Each IsReady) (sym same) (are_ready xs cs z few)

  pub numbers_there : (t : A → Bool) (xs : List A) (ks : List ℕ) (cs seen : List Counter) → ks ≡ places_where t 0 xs → seen ≡ cs → AllZip (λ a k. IsOf (of a).guard k) xs cs
      → Each (λ k. k < length seen) ks
  numbers_there t xs ks cs seen e same z =
      subst (λ n. Each (λ k. k < n) ks) (as_long (λ a k. IsOf (of a).guard k) xs cs z ∙ ap (λ (ds : List Counter). length ds) (sym same)) (places_below t xs ks e)

pub numbers_rise : {A : Type 0} (t : A → Bool) (xs : List A) (ks : List ℕ) → ks ≡ places_where t 0 xs → AreRising ks
numbers_rise t xs ks e = subst AreRising (sym e) (rising_places t 0 xs)
