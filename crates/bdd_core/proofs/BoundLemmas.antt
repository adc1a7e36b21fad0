-- A conjunction adds at most as many nodes as its operands' sizes multiplied.
use Rattle.std.proofs.Common.{◌≡◌, ◌≢◌, ℕ, zero, suc, ◌+◌, ◌-◌, ◌*◌, ◌/◌, ◌<◌, ◌≤◌, Bool, ◌&&◌, List, if◌then◌else◌, length, get_or, sym, ap, subst, ◌∙◌, arith, inl, inr, eqb, Contains, mul_comm}
use Rattle.std.proofs.lemmas.List.{get_or_default}
use Rattle.std.proofs.lemmas.Nat.{mul-add-lt, div-mul-add}
use Rattle.std.proofs.lemmas.Bool.Decides.{eqb_tells}
use Rattle.indexmap.proofs.IndexTableLemmas.Probe.{pigeonhole}
use Rattle.bdd_core.specs.Diagram.{Diagram, IsRef, meaning, IsReduced}
use Rattle.bdd_core.specs.Reach.{IsSize}
use Rattle.bdd_core.specs.Calls.{IsConjunction, AddsConjunctions}
use Rattle.bdd_core.proofs.CanonicalLemmas.{same_place}
use Rattle.bdd_core.proofs.GrowthLemmas.{same_and}

-- from some value for each index below n, a function
choose : {A : Type 0} (P : ℕ → A → Type 0) (d : A) (n : ℕ) → ((i : ℕ) → i < n → (a : A) × P i a) → (g : ℕ → A) × ((i : ℕ) → i < n → P i (g i))
choose P d zero f = (λ _. d, λ i h. absurd (omega arith))
choose P d (suc n) f =
    let r = choose P d n (λ i h. f i (omega arith)) in
    let last = f n (omega arith) in (
      λ i. if eqb i n then last.0 else r.0 i,
      λ i h. elim (eqb_tells i n) [
        | inl e ↦ subst (λ b. P i (if b then last.0 else r.0 i)) (sym e.0) (subst (λ j. P j last.0) (sym e.1) last.1)
        | inr e ↦ subst (λ b. P i (if b then last.0 else r.0 i)) (sym e.0) (r.1 i (let ne : i ≢ n = e.1 in omega arith))
      ],
    )

-- the place k of new is the conjunction of the x-th of some places and the y-th of others
record IsPair (old new : Diagram) (xs ys : List ℕ) (k : ℕ) (p : ℕ × ℕ) : Type 0 where
  pub x_in : p.0 < length xs
  pub y_in : p.1 < length ys
  pub means : (v : ℕ → Bool) → meaning new k v ≡ (meaning old (get_or xs p.0 0) v && meaning old (get_or ys p.1 0) v)

module _ (old new : Diagram) (f g m n : ℕ) (f_size : IsSize old f m) (g_size : IsSize old g n) (adds : AddsConjunctions old new f g) where
  pair_of : (k : ℕ) → length old.nodes ≤ k → IsRef new k → (p : ℕ × ℕ) × IsPair old new f_size.places g_size.places k p
  pair_of k from to =
      let a : IsConjunction old new f g k = adds k from to in
      let x : Contains f_size.places a.f_part = f_size.all a.f_part a.f_reached in
      let y : Contains g_size.places a.g_part = g_size.all a.g_part a.g_reached in
      let reads_x : get_or f_size.places x.0 0 ≡ a.f_part = get_or_default f_size.places x.0 0 a.f_part x.1 ∙ x.2 in
      let reads_y : get_or g_size.places y.0 0 ≡ a.g_part = get_or_default g_size.places y.0 0 a.g_part y.1 ∙ y.2 in (
        (x.0, y.0),
        record {
          x_in = x.1;
          y_in = y.1;
          means = λ v. a.means v ∙ same_and _ _ _ _ (ap (λ k. meaning old k v) (sym reads_x)) (ap (λ k. meaning old k v) (sym reads_y));
        },
      )

  pub bound : IsReduced new → length old.nodes ≤ length new.nodes → length new.nodes ≤ length old.nodes + m * n
  bound is longer =
      let found = choose (λ i. IsPair old new f_size.places g_size.places (length old.nodes + i)) (0, 0) (length new.nodes - length old.nodes)
      (λ i h. pair_of (length old.nodes + i) (omega arith) (omega arith)) in
      let code : ℕ → ℕ = λ i. (found.0 i).0 * n + (found.0 i).1 in
      let few : length new.nodes - length old.nodes ≤ n * m =
      pigeonhole (length new.nodes - length old.nodes) (n * m) code
      (λ i h. mul-add-lt (found.0 i).0 n (found.0 i).1 m (omega (arith, (found.1 i h).x_in, f_size.count)) (omega (arith, (found.1 i h).y_in, g_size.count)))
      (λ i j hi hj e.
      let pi = found.1 i hi in
      let pj = found.1 j hj in
      let x : (found.0 i).0 ≡ (found.0 j).0 =
      sym (div-mul-add (found.0 i).0 n (found.0 i).1 (omega (arith, pi.y_in, g_size.count))) ∙ ap (λ c. c / n) e ∙ div-mul-add (found.0 j).0 n (found.0 j).1 (omega (arith, pj.y_in, g_size.count)) in
      let same_row : (found.0 i).0 * n ≡ (found.0 j).0 * n = ap (λ a. a * n) x in
      let y : (found.0 i).1 ≡ (found.0 j).1 = omega (arith, same_row, e) in
      let same : length old.nodes + i ≡ length old.nodes + j =
      same_place new is (length old.nodes + i) (length old.nodes + j) (omega arith) (omega arith)
      (λ v. pi.means v
      ∙ ap (λ a. meaning old (get_or f_size.places a 0) v && meaning old (get_or g_size.places (found.0 i).1 0) v) x
      ∙ ap (λ a. meaning old (get_or f_size.places (found.0 j).0 0) v && meaning old (get_or g_size.places a 0) v) y
      ∙ sym (pj.means v)) in
      omega (arith, same)) in
      grind (arith, few, mul_comm m n)
