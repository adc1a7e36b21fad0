-- Sums and the values of cases, item by item.
use Rattle.std.proofs.Common.{◌≡◌, ℕ, zero, suc, ◌+◌, ◌<◌, Bool, true, false, cond, ◌||◌, List, [], ◌∷◌, ◌++◌, length, get_or, drop, map, fold, Some, if◌then◌else◌, ℤ, ◌+ℤ◌, pos, refl, sym, ap, ◌∙◌, subst, arith, add-one, drop-cons}
use Rattle.std.specs.List.{All, find, list_any}
use Rattle.std.specs.Option.{is_some, unwrap_or}
use Rattle.rsml_ground.specs.declared.sums.GroundTerm.{GroundTerm}
use Rattle.rsml_ground.specs.declared.definitions.GroundGuard.{GroundGuard}
use Rattle.rsml_ground.specs.declared.definitions.GroundGuard.TheVariants as guards
use Rattle.rsml_ground.specs.declared.definitions.GroundCase.{GroundCase}
use Rattle.rsml_ground.specs.Rests.{GuardFits, CaseFits}
use Rattle.macros.specs.Guards.{GuardBelow}
use Rattle.macros.specs.Sought.{is_sought}
use Rattle.macros.specs.declared.sought.Sought.TheVariants as sought
use Rattle.rsml_ground.specs.Truths.{sum_number, term_number, guard_truth, case_values, first_value}

-- one more term
pub sum_more : (cells : List ℤ) (ts : List GroundTerm) (i : ℕ) (d : GroundTerm) (a b whole : ℤ) → i < length ts
    → b ≡ a +ℤ term_number cells (get_or ts i d)
    → fold (λ a t. a +ℤ term_number cells t) a (drop i ts) ≡ whole
    → fold (λ a t. a +ℤ term_number cells t) b (drop (i + 1) ts) ≡ whole
sum_more cells ts i d a b whole h added before =
    ap (λ z. fold (λ a t. a +ℤ term_number cells t) z (drop (i + 1) ts)) added
    ∙ ap (λ k. fold (λ a t. a +ℤ term_number cells t) (a +ℤ term_number cells (get_or ts i d)) (drop k ts)) (add-one i)
    ∙ ap (fold (λ a t. a +ℤ term_number cells t) a) (sym (drop-cons ts i d h)) ∙ before

-- the guard at a place is that of a case
pub below_at : (cells n : ℕ) (cs : List GroundCase) (gs : List GroundGuard) (i : ℕ) (g : GroundGuard) → gs ≡ map (λ c. c.guard) cs → All (CaseFits cells n) cs
    → i < length cs → g ≡ get_or gs i g → GuardBelow n g
below_at cells n cs gs i g all fit h is = subst (GuardBelow n) (sym (is ∙ ap (λ (xs : List GroundGuard). get_or xs i g) all)) (here cs i fit h)
  where
    fits_below : (x : GroundGuard) → GuardFits n x → GuardBelow n x
    fits_below guards.Always f = tt
    fits_below (guards.Table table) f = f.below

    here : (cs : List GroundCase) (i : ℕ) → All (CaseFits cells n) cs → i < length cs → GuardBelow n (get_or (map (λ c. c.guard) cs) i g)
    here [] i fit h = absurd (omega (arith, h))
    here (c ∷ cs) zero fit h = fits_below c.guard (fit 0 c (omega arith)).guard
    here (c ∷ cs) (suc i) fit h = here cs i (λ k d within. fit (suc k) d (omega (arith, within))) (omega (arith, h))

-- the values of the cases from a place on, at a case whose guard is true, and at one whose guard is not
values_here : (cells : List ℤ) (ts : List Bool) (cs : List GroundCase) (i : ℕ) (g : GroundGuard) (c : GroundCase) → i < length cs
    → case_values cells ts (drop i cs)
    ≡ (if guard_truth ts (get_or (map (λ c. c.guard) cs) i g) then sum_number cells (get_or cs i c).value ∷ [] else []) ++ case_values cells ts (drop (suc i) cs)
values_here cells ts [] i g c h = absurd (omega (arith, h))
values_here cells ts (x ∷ cs) zero g c h = refl
values_here cells ts (x ∷ cs) (suc i) g c h = values_here cells ts cs i g c (omega (arith, h))

pub values_true : (cells : List ℤ) (ts : List Bool) (cs : List GroundCase) (gs : List GroundGuard) (i : ℕ) (g : GroundGuard) (c : GroundCase) → gs ≡ map (λ c. c.guard) cs
    → i < length cs → g ≡ get_or gs i g → c ≡ get_or cs i c → guard_truth ts g ≡ true
    → case_values cells ts (drop i cs) ≡ sum_number cells c.value ∷ case_values cells ts (drop (i + 1) cs)
values_true cells ts cs gs i g c all h is at holds =
    values_here cells ts cs i g c h
    ∙ ap (λ b. (if b then sum_number cells (get_or cs i c).value ∷ [] else []) ++ case_values cells ts (drop (suc i) cs))
    (ap (guard_truth ts) (sym (is ∙ ap (λ (xs : List GroundGuard). get_or xs i g) all)) ∙ holds)
    ∙ ap (λ (x : GroundCase). sum_number cells x.value ∷ case_values cells ts (drop (suc i) cs)) (sym at)
    ∙ ap (λ k. sum_number cells c.value ∷ case_values cells ts (drop k cs)) (sym (add-one i))

values_false : (cells : List ℤ) (ts : List Bool) (cs : List GroundCase) (i : ℕ) (g : GroundGuard) → i < length cs
    → guard_truth ts (get_or (map (λ c. c.guard) cs) i g) ≡ false → case_values cells ts (drop i cs) ≡ case_values cells ts (drop (suc i) cs)
values_false cells ts [] i g h fails = absurd (omega (arith, h))
values_false cells ts (x ∷ cs) zero g h fails = ap (λ b. (if b then sum_number cells x.value ∷ [] else []) ++ case_values cells ts cs) fails
values_false cells ts (x ∷ cs) (suc i) g h fails = values_false cells ts cs i g (omega (arith, h)) fails

-- a case whose guard is not true is passed
pub passed : (cells : List ℤ) (ts : List Bool) (cs : List GroundCase) (gs : List GroundGuard) (i : ℕ) (g : GroundGuard) → gs ≡ map (λ c. c.guard) cs
    → i < length cs → g ≡ get_or gs i g → guard_truth ts g ≡ false
    → case_values cells ts (drop (i + 1) cs) ≡ case_values cells ts (drop i cs)
passed cells ts cs gs i g all h is fails =
    ap (λ k. case_values cells ts (drop k cs)) (add-one i)
    ∙ sym (values_false cells ts cs i g h (ap (guard_truth ts) (sym (is ∙ ap (λ (xs : List GroundGuard). get_or xs i g) all)) ∙ fails))

-- at a case whose guard is true its value is found where it is sought, and else passed
at_true : (sought : ℤ → Bool) (cells : List ℤ) (ts : List Bool) (cs : List GroundCase) (gs : List GroundGuard) (i : ℕ) (g : GroundGuard) (c : GroundCase) (b : Bool)
    → gs ≡ map (λ c. c.guard) cs → i < length cs → g ≡ get_or gs i g → c ≡ get_or cs i c → guard_truth ts g ≡ true → sought (sum_number cells c.value) ≡ b
    → find sought (case_values cells ts (drop i cs)) ≡ cond b (Some (sum_number cells c.value)) (find sought (case_values cells ts (drop (i + 1) cs)))
at_true sought cells ts cs gs i g c b all h is at holds asked =
    ap (find sought) (values_true cells ts cs gs i g c all h is at holds)
    ∙ ap (λ b. cond b (Some (sum_number cells c.value)) (find sought (case_values cells ts (drop (i + 1) cs)))) asked

pub this_one : (sought : ℤ → Bool) (cells : List ℤ) (ts : List Bool) (cs : List GroundCase) (gs : List GroundGuard) (i : ℕ) (g : GroundGuard) (c : GroundCase)
    → gs ≡ map (λ c. c.guard) cs → i < length cs → g ≡ get_or gs i g → c ≡ get_or cs i c → guard_truth ts g ≡ true → sought (sum_number cells c.value) ≡ true
    → Some (sum_number cells c.value) ≡ find sought (case_values cells ts (drop i cs))
this_one sought cells ts cs gs i g c all h is at holds asked = sym (at_true sought cells ts cs gs i g c true all h is at holds asked)

pub not_this : (sought : ℤ → Bool) (cells : List ℤ) (ts : List Bool) (cs : List GroundCase) (gs : List GroundGuard) (i : ℕ) (g : GroundGuard) (c : GroundCase)
    → gs ≡ map (λ c. c.guard) cs → i < length cs → g ≡ get_or gs i g → c ≡ get_or cs i c → guard_truth ts g ≡ true → sought (sum_number cells c.value) ≡ false
    → find sought (case_values cells ts (drop (i + 1) cs)) ≡ find sought (case_values cells ts (drop i cs))
not_this sought cells ts cs gs i g c all h is at holds asked = sym (at_true sought cells ts cs gs i g c false all h is at holds asked)

-- a value is found where one is sought
pub some_found : (sought : ℤ → Bool) (ns : List ℤ) → is_some (find sought ns) ≡ list_any sought ns
some_found sought [] = refl
some_found sought (n ∷ ns) = by (some_found sought ns) (sought n)
  where
    by : is_some (find sought ns) ≡ list_any sought ns → (b : Bool) → is_some (cond b (Some n) (find sought ns)) ≡ (b || list_any sought ns)
    by rest true = refl
    by rest false = rest

-- where any value is sought the first is found
pub first_found : (ns : List ℤ) → unwrap_or (find (is_sought sought.Any) ns) (pos 0) ≡ first_value ns
first_found [] = refl
first_found (n ∷ ns) = refl
