-- A combination of the variables, and what is added to it.
use Rattle.std.proofs.Common.{◌≡◌, ℕ, zero, suc, ◌+◌, ◌<◌, ◌≤◌, List, [], ◌∷◌, length, get_or, set, drop, replicate, refl, sym, ap, subst, rules, Option, Some, None, IfSome, OnSome, ◌∙◌, arith, ℤ, pos, ◌+ℤ◌, ◌*ℤ◌, ◌≤ℤ◌}
use Rattle.std.proofs.lemmas.Int.{ints}
use Rattle.std.proofs.lemmas.List.{at_drop_more, drop_all}
use Rattle.std.specs.Option.{SomeIff}
use Rattle.linear_conflicts.specs.declared.term.Term.{Term}
use Rattle.linear_conflicts.specs.Rows.{terms_at}
use Rattle.linear_conflicts.specs.Steps.{combination}
use Rattle.linear_conflicts.proofs.ProductLemmas.{sum_times, times_sum, times_at_most}

-- no factors
pub combination-zeros : (v : ℕ → ℤ) (n k : ℕ) → combination v (replicate n (pos 0)) k ≡ pos 0
combination-zeros v zero k = refl
combination-zeros v (suc n) k = omega (arith, ints, combination-zeros v n (k + 1))

-- a factor that grows
pub combination-set : (v : ℕ → ℤ) (fs : List ℤ) (i j k : ℕ) (d more f : ℤ) → i < length fs → j ≡ k + i → f ≡ get_or fs i d +ℤ more
    → combination v (set fs i f) k ≡ combination v fs k +ℤ more *ℤ v j
combination-set v [] i j k d more f h e s = absurd (omega arith)
combination-set v (g ∷ fs) zero j k d more f h e s =
    let same : j ≡ k = omega arith in
    let here : f *ℤ v k ≡ g *ℤ v k +ℤ more *ℤ v k = ap (λ x. x *ℤ v k) s ∙ sum_times g more (v k) in
    let there : more *ℤ v j ≡ more *ℤ v k = ap (λ m. more *ℤ v m) same in
    omega (arith, ints, here, there)
combination-set v (g ∷ fs) (suc i) j k d more f h e s =
    omega (arith, ints, combination-set v fs i j (k + 1) d more f (omega arith) (omega arith) s)

-- the least value of the next factor is added
pub least_added : (v : ℕ → ℤ) (fs : List ℤ) (i : ℕ) (d least more whole : ℤ) → i < length fs → more ≤ℤ (least +ℤ get_or fs i d *ℤ v i)
    → (least +ℤ combination v (drop i fs) i) ≤ℤ whole → (more +ℤ combination v (drop (i + 1) fs) (i + 1)) ≤ℤ whole
least_added v fs i d least more whole h m all = omega (arith, ints, m, all, at_drop_more (λ l. combination v l i) fs i d h)

-- all factors have been added
pub least_whole : (v : ℕ → ℤ) (fs : List ℤ) (i : ℕ) (least whole : ℤ) → length fs ≤ i → (least +ℤ combination v (drop i fs) i) ≤ℤ whole → least ≤ℤ whole
least_whole v fs i least whole h all = omega (arith, ints, all, ap (λ l. combination v l i) (drop_all i fs h))

-- all terms have been added
pub terms_whole : (v : ℕ → ℤ) (ts : List Term) (i : ℕ) (w c all : ℤ) → length ts ≤ i → c +ℤ w *ℤ terms_at v (drop i ts) ≡ all → c ≡ all
terms_whole v ts i w c all h e = omega (arith, ints, e, ap (λ l. w *ℤ terms_at v l) (drop_all i ts h))

-- one term more is added
pub term_added : (v : ℕ → ℤ) (ts : List Term) (i : ℕ) (d : Term) (w c more whole : ℤ) → i < length ts
    → more ≡ c +ℤ w *ℤ ((get_or ts i d).factor *ℤ v (get_or ts i d).variable) → c +ℤ w *ℤ terms_at v (drop i ts) ≡ whole
    → more +ℤ w *ℤ terms_at v (drop (i + 1) ts) ≡ whole
term_added v ts i d w c more whole h added all =
    let t = get_or ts i d in
    let next : terms_at v (drop i ts) ≡ t.factor *ℤ v t.variable +ℤ terms_at v (drop (i + 1) ts) = at_drop_more (terms_at v) ts i d h in
    omega (arith, ints, added, all, ap (λ x. w *ℤ x) next ∙ times_sum w (t.factor *ℤ v t.variable) (terms_at v (drop (i + 1) ts)))

-- a row that is met is added
pub row_added : (w c c' s most more bound : ℤ) → pos 0 ≤ℤ w → s ≤ℤ bound → c' ≡ c +ℤ w *ℤ s → more ≡ most +ℤ w *ℤ bound
    → (c' +ℤ most) ≤ℤ (c +ℤ more)
row_added w c c' s most more bound p h e m = omega (arith, ints, times_at_most w s bound p h)

-- what is given where it fits has what its value has
pub some_is : (r : Option ℤ) (fits : Type 0) (x : ℤ) (Has : ℤ → Type 0) → SomeIff r fits x → Has x → IfSome r Has
some_is None fits x Has h has = search rules
some_is (Some y) fits x Has h has = subst Has (sym h.1) has

-- what holds where there is a value, by another that does
pub some_by : {A : Type 0} (r : Option A) (One Other : Type 0) → OnSome r One → (One → Other) → OnSome r Other
some_by None One Other h by = search rules
some_by (Some x) One Other h by = by h
