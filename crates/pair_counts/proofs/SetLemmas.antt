-- Lists as sets of places among numbers that differ.
use Rattle.std.proofs.Common.{⊎_elim, subst, ◌≡◌, ℕ, zero, suc, ◌+◌, ◌<◌, ◌==◌, ◌||◌, not, Bool, true, false, cond, nat_lt, List, [], ◌∷◌, ◌++◌, length, get_or, take, map, flat_map, slice_get, position, Option, Some, None, refl, sym, ap, ◌∙◌, arith, true≢false}
use Rattle.std.specs.Global.{Vec}
use Rattle.std.specs.Cmp.{IsEquivalence}
use Rattle.std.specs.List.{list_any, AllByRecursion, IsDistinct, position_or_len}
use Rattle.std.specs.Option.{option_map_or}
use Rattle.std.proofs.Math.Dec.{eqb-suc-zero, eqb-zero-suc, eqb-suc-suc}
use Rattle.std.proofs.lemmas.Bool.{cases_eq}
use Rattle.std.proofs.lemmas.List.{take_more, map_push, length-map, length-take-le}
use Rattle.std.proofs.lemmas.List.Folds.{list_any-append}
use Rattle.std.proofs.lemmas.Map.Keys.{IsDistinct-head, IsDistinct-tail}
use Rattle.std.proofs.lemmas.Map.Steps.{list_any_congr}
use Rattle.std.proofs.lemmas.Option.{same_Some, none-some}
use Rattle.pair_counts.specs.declared.set.Set.{Set}
use Rattle.pair_counts.specs.AreSets.{AreSets}
use Rattle.pair_counts.specs.Has.{has, has_at, has_place}
use Rattle.pair_counts.specs.Blocks.{list_at}
use Rattle.pair_counts.specs.Sets.{is_among, is_in}

or_left : (a b : Bool) → (a || b) ≡ false → a ≡ false
or_left true b h = absurd (true≢false h)
or_left false b h = refl

or_right : (a b : Bool) → (a || b) ≡ false → b ≡ false
or_right true b h = absurd (true≢false h)
or_right false b h = h

first_is : {A : Type 0} (test : A → Bool) (xs : List A) (p : ℕ) → position test xs ≡ Some p → position_or_len test xs ≡ p
first_is test xs p h = by (nat_lt (position_or_len test xs) (length xs)) h
  where
    by : (b : Bool) → cond b (Some (position_or_len test xs)) None ≡ Some p → position_or_len test xs ≡ p
    by true e = same_Some (position_or_len test xs) p e
    by false e = absurd (none-some p e)

pub nothing_more : (a b : Bool) → b ≡ false → a ≡ (a || b)
nothing_more true b h = refl
nothing_more false b h = sym h

pub push_same : {A : Type 0} (xs : List (List A)) (y : List A) (p : ℕ) → length xs ≡ p → list_at (xs ++ y ∷ []) p ≡ y
push_same [] y zero h = refl
push_same [] y (suc p) h = absurd (omega arith)
push_same (x ∷ xs) y zero h = absurd (omega arith)
push_same (x ∷ xs) y (suc p) h = push_same xs y p (omega arith)

pub push_other : {A : Type 0} (xs : List (List A)) (y : List A) (p : ℕ) → (length xs ≡ p → ⊥) → list_at (xs ++ y ∷ []) p ≡ list_at xs p
push_other [] y zero h = absurd (h refl)
push_other [] y (suc p) h = refl
push_other (x ∷ xs) y zero h = refl
push_other (x ∷ xs) y (suc p) h = push_other xs y p (λ e. h (omega arith))

abbrev pub items : {A : Type 0} → Vec A → List A
items v = v.items

-- one more place
pub place_last : (places : List ℕ) (p q : ℕ) → has_place (places ++ p ∷ []) q ≡ (has_place places q || p == q)
place_last places p q = list_any-append (λ r. r == q) places (p ∷ []) ∙ ap (λ b. has_place places q || b) (or_false (p == q))
  where
    or_false : (b : Bool) → (b || false) ≡ b
    or_false true = refl
    or_false false = refl

has_same : (sets : List Set) (s : Set) (p q : ℕ) → length sets ≡ p → has_at (sets ++ s ∷ []) p q ≡ has s q
has_same [] s zero q h = refl
has_same [] s (suc p) q h = absurd (omega arith)
has_same (t ∷ sets) s zero q h = absurd (omega arith)
has_same (t ∷ sets) s (suc p) q h = has_same sets s p q (omega arith)

has_other : (sets : List Set) (s : Set) (p q : ℕ) → (length sets ≡ p → ⊥) → has_at (sets ++ s ∷ []) p q ≡ has_at sets p q
has_other [] s zero q h = absurd (h refl)
has_other [] s (suc p) q h = refl
has_other (t ∷ sets) s zero q h = refl
has_other (t ∷ sets) s (suc p) q h = has_other sets s p q (λ e. h (omega arith))

-- THE PLACE OF A NUMBER, AND THE SETS OF LISTS

module _ {A : Type 0} (eq : A → A → Bool) (laws : IsEquivalence eq) where
  apart_from : (x : A) (ys : List A) → AllByRecursion (λ y. eq x y ≡ false) ys → list_any (eq x) ys ≡ false
  apart_from x [] h = refl
  apart_from x (y ∷ ys) h = (λ i. h.0 i || apart_from x ys h.1 i)

  pub none_in : (numbers : List A) (x : A) (q : ℕ) → list_any (eq x) numbers ≡ false → is_in eq numbers (x ∷ []) q ≡ false
  none_in [] x q h = refl
  none_in (y ∷ ys) x zero h = ap (λ b. b || false) (laws.symm y x ∙ or_left (eq x y) (list_any (eq x) ys) h)
  none_in (y ∷ ys) x (suc q) h = none_in ys x q (or_right (eq x y) (list_any (eq x) ys) h)

  at_first : (numbers : List A) (x : A) (q : ℕ) → IsDistinct eq numbers → list_any (eq x) numbers ≡ true → is_in eq numbers (x ∷ []) q ≡ (position_or_len (eq x) numbers == q)
  at_first [] x q differ h = absurd (true≢false (sym h))
  at_first (y ∷ ys) x q differ h = by q (eq x y) refl (λ r later. at_first ys x r (IsDistinct-tail eq y ys differ) later)
    where
      n : ℕ
      n = position_or_len (eq x) ys

      one_more : 1 + position_or_len (eq x) ys ≡ suc (position_or_len (eq x) ys)
      one_more = omega arith

      by : (r : ℕ) (b : Bool) → eq x y ≡ b → ((r : ℕ) → list_any (eq x) ys ≡ true → is_in eq ys (x ∷ []) r ≡ (position_or_len (eq x) ys == r)) →
          is_in eq (y ∷ ys) (x ∷ []) r ≡ (cond (not b) (1 + position_or_len (eq x) ys) 0 == r)
      by zero true same rest = ap (λ b. b || false) (laws.symm y x ∙ same)
      by (suc r) true same rest =
          none_in ys x r (list_any_congr laws x y ys same ∙ apart_from y ys (IsDistinct-head eq y ys differ))
          ∙ sym (eqb-zero-suc r)
      by zero false other rest = ap (λ b. b || false) (laws.symm y x ∙ other) ∙ sym (ap (λ m. m == 0) one_more ∙ eqb-suc-zero (position_or_len (eq x) ys))
      by (suc r) false other rest =
          rest r (sym (ap (λ b. b || list_any (eq x) ys) other) ∙ h)
          ∙ sym (ap (λ m. m == suc r) one_more ∙ eqb-suc-suc (position_or_len (eq x) ys) r)

  -- the place of a number is where it stands
  pub at_place : (numbers : List A) (x : A) (p : ℕ) → IsDistinct eq numbers → position (eq x) numbers ≡ Some p → list_any (eq x) numbers ≡ true → (q : ℕ) →
      (p == q) ≡ is_in eq numbers (x ∷ []) q
  at_place numbers x p differ place there q = ap (λ n. n == q) (sym (first_is (eq x) numbers p place)) ∙ sym (at_first numbers x q differ there)

  in_append : (numbers xs ys : List A) (q : ℕ) → is_in eq numbers (xs ++ ys) q ≡ (is_in eq numbers xs q || is_in eq numbers ys q)
  in_append numbers xs ys q = by (slice_get numbers q)
    where
      by : (o : Option A) → option_map_or (is_among eq (xs ++ ys)) o false ≡ (option_map_or (is_among eq xs) o false || option_map_or (is_among eq ys) o false)
      by None = refl
      by (Some n) = list_any-append (eq n) xs ys

  -- one more number
  pub in_more : (numbers xs : List A) (i : ℕ) (d : A) (q : ℕ) → i < length xs → is_in eq numbers (take (i + 1) xs) q ≡ (is_in eq numbers (take i xs) q || is_in eq numbers (get_or xs i d ∷ []) q)
  in_more numbers xs i d q h = ap (λ ys. is_in eq numbers ys q) (take_more xs i d h) ∙ in_append numbers (take i xs) (get_or xs i d ∷ []) q

  -- one more list with its set
  sets_push : (numbers : List A) (lists : List (List A)) (sets : List Set) (l : List A) (s : Set) → length sets ≡ length lists → AreSets eq numbers lists sets →
      ((q : ℕ) → has s q ≡ is_in eq numbers l q) → AreSets eq numbers (lists ++ l ∷ []) (sets ++ s ∷ [])
  sets_push numbers lists sets l s many before same = record {
    differ = before.differ;
    same = λ p q. ⊎_elim
        (λ (e : length sets ≡ p).
        has_same sets s p q e ∙ same q ∙ ap (λ ns. is_in eq numbers ns q) (sym (push_same lists l p (sym many ∙ e))))
        (λ (ne : length sets ≡ p → ⊥).
        has_other sets s p q ne ∙ before.same p q ∙ ap (λ ns. is_in eq numbers ns q) (sym (push_other lists l p (λ e. ne (many ∙ e)))))
        (cases_eq (length sets) p);
  }

  pub sets_turn : (numbers : List A) (lists : List (Vec A)) (i : ℕ) (v : Vec A) (sets : List Set) (s : Set) → i < length lists → v ≡ get_or lists i v →
      length sets ≡ i → AreSets eq numbers (map items (take i lists)) sets → ((q : ℕ) → has s q ≡ is_in eq numbers v.items q) →
      (more_sets : List Set) → more_sets ≡ sets ++ s ∷ [] → AreSets eq numbers (map items (take (i + 1) lists)) more_sets
  sets_turn numbers lists i v sets s h is many before same more_sets put =
      let more : map items (take (i + 1) lists) ≡ map items (take i lists) ++ v.items ∷ [] =
      ap (map items) (take_more lists i v h) ∙ map_push items (take i lists) (get_or lists i v) ∙ ap (λ w. map items (take i lists) ++ items w ∷ []) (sym is) in
      let long : length sets ≡ length (map items (take i lists)) = omega (arith, length-map (take i lists) items, length-take-le i lists (omega arith)) in
      subst (AreSets eq numbers (map items (take (i + 1) lists))) (sym put)
      (subst (λ ls. AreSets eq numbers ls (sets ++ s ∷ [])) (sym more) (sets_push numbers (map items (take i lists)) sets v.items s long before same))

  -- the sets at places together
  pub in_joined : (numbers : List A) (lists : List (List A)) (sets : List Set) → AreSets eq numbers lists sets → (places : List ℕ) (q : ℕ) →
      list_any (λ place. has_at sets place q) places ≡ is_in eq numbers (flat_map (list_at lists) places) q
  in_joined numbers lists sets are [] q = sym (none (slice_get numbers q))
    where
      none : (o : Option A) → option_map_or (is_among eq []) o false ≡ false
      none None = refl
      none (Some n) = refl
  in_joined numbers lists sets are (p ∷ places) q =
      (λ i. are.same p q i || in_joined numbers lists sets are places q i) ∙ sym (in_append numbers (list_at lists p) (flat_map (list_at lists) places) q)
