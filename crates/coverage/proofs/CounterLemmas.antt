-- Counters that have counted nothing yet.
use Rattle.std.proofs.Common.{◌≡◌, ℕ, zero, suc, ◌+◌, List, [], ◌∷◌, ◌++◌, map, length, take, replicate, Some, slice_get, refl, sym, ap, ◌∙◌, subst, arith}
use Rattle.std.specs.List.{AllZip}
use Rattle.rsml_syntax.specs.declared.syntax.Cell.{Cell}
use Rattle.rsml_syntax.specs.declared.syntax.Guard.{Guard}
use Rattle.rsml_syntax.specs.declared.syntax.Guard.TheVariants as written
use Rattle.rsml_syntax.specs.declared.syntax.Row.{Row}
use Rattle.rsml_syntax.specs.declared.syntax.Spec.{Spec}
use Rattle.rsml_syntax.specs.limits.Comparisons.{Indices}
use Rattle.rsml_syntax.specs.rules.Tables.{below}
use Rattle.rsml_meaning.specs.Transitions.{transitions}
use Rattle.rsml_meaning.specs.Interfaces.{send_cases}
use Rattle.and_or_tables.specs.Shape.{columns}
use Rattle.and_or_tables.specs.declared.ground.GroundRow.{GroundRow}
use Rattle.state_tree.proofs.Lists.{beside, zip_push}
use Rattle.rsml_ground.specs.declared.definitions.GroundGuard.{GroundGuard}
use Rattle.rsml_ground.specs.declared.definitions.GroundGuard.TheVariants as guards
use Rattle.rsml_ground.specs.declared.phrases.GroundPhrase.{GroundPhrase}
use Rattle.rsml_ground.specs.Rests.{GuardFits}
use Rattle.rsml_ground.specs.StandsFor.{GuardIs, RowIs}
use Rattle.macros.specs.Guards.{HasShape}
use Rattle.ground_members.specs.declared.transitions.GroundTransition.{GroundTransition}
use Rattle.ground_members.specs.declared.send_cases.GroundSendCase.{GroundSendCase}
use Rattle.ground_members.specs.Members.{TransitionIs, SendCaseIs}
use Rattle.elaborate.specs.Machine.{GroundMachine, StandsFor}
use Rattle.coverage.specs.declared.counter.Counter.{Counter}
use Rattle.coverage.specs.Coverage.{Reacting, Covered, cells_in, covered}
use Rattle.coverage.specs.Counters.{ground_cells, none_yet, IsNew, IsOf}

-- Guards.

shape_of : (n : ℕ) (guard : GroundGuard) → GuardFits n guard → HasShape guard
shape_of n guards.Always fits = tt
shape_of n (guards.Table table) fits = fits.shape

pub transition_shape : (m : GroundMachine) (k : ℕ) (x : GroundTransition) → StandsFor m → slice_get m.transitions k ≡ Some x → HasShape x.guard
transition_shape m k x stands at =
    shape_of (length m.base.phrases) x.guard (beside (TransitionIs m.base.phrases m.base.spec) (transitions m.base.spec) m.transitions k x stands.transitions_are at).2.fits

pub case_shape : (m : GroundMachine) (k : ℕ) (x : GroundSendCase) → StandsFor m → slice_get m.send_cases k ≡ Some x → HasShape x.guard
case_shape m k x stands at =
    shape_of (length m.base.phrases) x.guard (beside (SendCaseIs m.base.phrases m.base.spec) (send_cases m.base.spec) m.send_cases k x stands.cases_are at).2.fits

-- the cells of a guard over numbers are those of the guard that it stands for
same_cells : (ps : List GroundPhrase) (s : Spec) (r : Indices) (a : Guard) (b : GroundGuard) → GuardIs ps s r a b → ground_cells b ≡ cells_in a
same_cells ps s r written.Always guards.Always z = refl
same_cells ps s r (written.Table rows) (guards.Table table) z = by rows table.rows z
  where
    by : (rows : List Row) (xs : List GroundRow) → AllZip (RowIs ps s r) rows xs → map (λ (x : GroundRow). x.cells) xs ≡ map (λ (row : Row). row.cells) rows
    by [] [] z = refl
    by (row ∷ rows) (x ∷ xs) z = let here = z.0.cells in let rest = by rows xs z.1 in λ i. here i ∷ rest i
    by [] (x ∷ xs) z = absurd z
    by (row ∷ rows) [] z = absurd z
same_cells ps s r written.Always (guards.Table table) z = absurd z
same_cells ps s r (written.Table rows) guards.Always z = absurd z

-- One counter after another.

pub one_counter_more : {A : Type 0} (R : A → Counter → Type 0) (xs : List A) (i : ℕ) (x : A) (cs new : List Counter) (c : Counter) → slice_get xs i ≡ Some x → R x c
    → AllZip R (take i xs) cs → new ≡ cs ++ c ∷ [] → AllZip R (take (i + 1) xs) new
one_counter_more {A} R xs i x cs new c at is before e =
    subst (λ (ds : List Counter). AllZip R (take (i + 1) xs) ds) (sym e)
    (subst (λ (ys : List A). AllZip R ys (cs ++ c ∷ [])) (sym (front xs i at)) (zip_push R (take i xs) cs x c before is))
  where
    front : (xs : List A) (i : ℕ) → slice_get xs i ≡ Some x → take (i + 1) xs ≡ take i xs ++ x ∷ []
    front [] i at = absurd (let no : ⊥ = cc in no)
    front (y ∷ xs) zero at = let e : y ≡ x = cc in ap (λ z. z ∷ []) e
    front (y ∷ xs) (suc i) at =
        let next : suc i + 1 ≡ suc (i + 1) = omega arith in
        ap (λ n. take n (y ∷ xs)) next ∙ ap (λ zs. y ∷ zs) (front xs i at)

-- What counters have counted.

abbrev nought : ℕ → ℕ
nought place = 0

zeros : (n : ℕ) → map nought (below n) ≡ replicate {A = ℕ} n 0
zeros zero = refl
zeros (suc n) = onto (below n) n ∙ ap (λ (ns : List ℕ). ns ++ 0 ∷ []) (zeros n) ∙ push n
  where
    push : (n : ℕ) → replicate {A = ℕ} n 0 ++ 0 ∷ [] ≡ replicate (suc n) 0
    push zero = refl
    push (suc n) = ap (λ (ns : List ℕ). 0 ∷ ns) (push n)

    onto : (xs : List ℕ) (k : ℕ) → map nought (xs ++ k ∷ []) ≡ map nought xs ++ 0 ∷ []
    onto [] k = refl
    onto (x ∷ xs) k = ap (λ (ns : List ℕ). 0 ∷ ns) (onto xs k)

many_zeros : (n : ℕ) → length (replicate {A = ℕ} n 0) ≡ n
many_zeros zero = refl
many_zeros (suc n) = ap suc (many_zeros n)

-- in no rounds nothing is covered
nothing_covered : (s : Spec) (x : Reacting) (cells : List (List Cell)) → cells ≡ cells_in x.guard → none_yet (columns cells) ≡ covered s [] x
nothing_covered s x cells e =
    ap (λ (cs : List (List Cell)). none_yet (columns cs)) e
    ∙ ap (λ (ns : List ℕ). (let c : Covered = record { count = 0; columns = ns } in c)) (sym (zeros (columns (cells_in x.guard))))

-- Of the members of a specification, each with what stands for it.
module _ {A B : Type 0} (s : Spec) (ps : List GroundPhrase) (of : A → Reacting) (guard_of : B → GroundGuard) (R : A → B → Type 0)
    (stands : (a : A) (b : B) → R a b → GuardIs ps s (of a).indices (of a).guard (guard_of b)) where
  pub all_new : (xs : List A) (ys : List B) (cs : List Counter) → AllZip R xs ys → AllZip (λ b c. IsNew (ground_cells (guard_of b)) c) ys cs
      → map (λ c. c.tally) cs ≡ map (λ a. covered s [] (of a)) xs
  all_new [] [] [] z n = refl
  all_new (a ∷ xs) (b ∷ ys) (c ∷ cs) z n =
      let cells = same_cells ps s (of a).indices (of a).guard (guard_of b) (stands a b z.0) in
      let here = n.0.none ∙ nothing_covered s (of a) (ground_cells (guard_of b)) cells in
      let rest = all_new xs ys cs z.1 n.1 in
      λ i. here i ∷ rest i
  all_new [] (b ∷ ys) cs z n = absurd z
  all_new (a ∷ xs) [] cs z n = absurd z
  all_new [] [] (c ∷ cs) z n = absurd n
  all_new (a ∷ xs) (b ∷ ys) [] z n = absurd n

  pub all_of : (xs : List A) (ys : List B) (cs : List Counter) → AllZip R xs ys → AllZip (λ b c. IsNew (ground_cells (guard_of b)) c) ys cs
      → AllZip (λ a c. IsOf (of a).guard c) xs cs
  all_of [] [] [] z n = tt
  all_of (a ∷ xs) (b ∷ ys) (c ∷ cs) z n =
      let cells = same_cells ps s (of a).indices (of a).guard (guard_of b) (stands a b z.0) in
      let long = ap (λ (t : Covered). length t.columns) n.0.none ∙ many_zeros (columns (ground_cells (guard_of b))) ∙ ap (λ (cs : List (List Cell)). columns cs) cells in
      (record { kept = n.0.kept ∙ cells; long = long }, all_of xs ys cs z.1 n.1)
  all_of [] (b ∷ ys) cs z n = absurd z
  all_of (a ∷ xs) [] cs z n = absurd z
  all_of [] [] (c ∷ cs) z n = absurd n
  all_of (a ∷ xs) (b ∷ ys) [] z n = absurd n
