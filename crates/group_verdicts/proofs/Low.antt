-- Worlds with the least values in the parts that are not read.
use Rattle.std.proofs.Common.{◌≡◌, ◌≢◌, ℕ, zero, suc, ◌<◌, Bool, true, false, ◌&&◌, if◌then◌else◌, List, [], ◌∷◌, map, Some, refl, sym, ap, ◌∙◌, subst, true≢false, slice_get, slice_index_or, int_le, pos, ◌<ℤ◌, ℤ, arith}
use Rattle.std.specs.Bool.{⊤}
use Rattle.std.specs.Cmp.{first_so, second_so}
use Rattle.std.specs.Cmp.Lexicographic.{pointwise, slice_cmp}
use Rattle.std.specs.Ordering.{MatchOrdering, ordering_then, nat_cmp, int_cmp}
use Rattle.std.specs.declared.cmp.Ordering.{Ordering}
use Rattle.std.specs.declared.cmp.Ordering.TheVariants.{Less, Equal, Greater}
use Rattle.std.proofs.lemmas.Bool.{and_from}
use Rattle.std.proofs.lemmas.Bool.Decides.{nat_tests}
use Rattle.std.proofs.lemmas.Cmp.{ranked, int_ranked}
use Rattle.std.proofs.lemmas.Int.{ints}
use Rattle.std.proofs.lemmas.Option.{same_Some}
use Rattle.rsml_syntax.specs.declared.syntax.Spec.{Spec}
use Rattle.rsml_syntax.specs.declared.world.World.{World}
use Rattle.rsml_meaning.specs.Instances.{Component, components}
use Rattle.rsml_meaning.specs.Cells.{InputCell, cells}
use Rattle.rsml_meaning.specs.Worlds.{IsWorld, is_choice, world_cmp}
use Rattle.guard_encode.specs.declared.reading.ReadParts.{ReadParts}
use Rattle.guard_encode.specs.Reading.{DifferInChoice}
use Rattle.group_verdicts.specs.Narrowing.{IsLow, IsOfRead, low_of, lowered}
use Rattle.group_verdicts.proofs.Parts.{cells_are, choices_are, fits}

-- Lists of values.

-- what passes a test still does
still_pass : {A B : Type 0} (t : A → B → Bool) (l : A → B) → ((x : A) (y : B) → t x y ≡ true → t x (l x) ≡ true)
    → (read : List Bool) (xs : List A) (ys : List B) → pointwise t xs ys ≡ true → pointwise t xs (lowered read (map l xs) ys) ≡ true
still_pass t l least [] xs ys h = h
still_pass t l least (r ∷ read) [] ys h = h
still_pass t l least (r ∷ read) (x ∷ xs) [] h = absurd (true≢false (sym h))
still_pass t l least (r ∷ read) (x ∷ xs) (y ∷ ys) h =
    and_from (t x (if r then y else l x)) (pointwise t xs (lowered read (map l xs) ys)) (here r)
    (still_pass t l least read xs ys (second_so (t x y) (pointwise t xs ys) h))
  where
    here : (b : Bool) → t x (if b then y else l x) ≡ true
    here true = first_so (t x y) (pointwise t xs ys) h
    here false = least x y (first_so (t x y) (pointwise t xs ys) h)

-- what is not read has the least value
pub least_value : {A B : Type 0} (t : A → B → Bool) (l : A → B) (read : List Bool) (xs : List A) (ys : List B) (k : ℕ) (x : A) (d : B)
    → pointwise t xs ys ≡ true
    → slice_get read k ≡ Some false → slice_get xs k ≡ Some x → slice_index_or (lowered read (map l xs) ys) k d ≡ l x
least_value t l [] xs ys k x d h not at = absurd (let no : ⊥ = cc in no)
least_value t l (r ∷ read) [] ys k x d h not at = absurd (let no : ⊥ = cc in no)
least_value t l (r ∷ read) (z ∷ xs) [] k x d h not at = absurd (true≢false (sym h))
least_value t l (r ∷ read) (z ∷ xs) (y ∷ ys) zero x d h not at =
    ap (λ b. if b then y else l z) (same_Some r false not) ∙ ap l (same_Some z x at)
least_value t l (r ∷ read) (z ∷ xs) (y ∷ ys) (suc k) x d h not at = least_value t l read xs ys k x d (second_so (t z y) (pointwise t xs ys) h) not at

-- what is read has the value that it had
pub read_value : {B : Type 0} (read : List Bool) (ls ys : List B) (k : ℕ) (d : B) → slice_index_or read k true ≡ true
    → slice_index_or (lowered read ls ys) k d ≡ slice_index_or ys k d
read_value [] ls ys k d is = refl
read_value (r ∷ read) [] ys k d is = refl
read_value (r ∷ read) (l ∷ ls) [] k d is = refl
read_value (r ∷ read) (l ∷ ls) (y ∷ ys) zero d is = ap (λ b. if b then y else l) is
read_value (r ∷ read) (l ∷ ls) (y ∷ ys) (suc k) d is = read_value read ls ys k d is

-- one value after another gives way to the least, and a test stays that depends on none of these
pub one_by_one : {B : Type 0} (test : List B → Bool) (Fits : List B → Type 0) (read : List Bool) (ls ys : List B)
    → ((k : ℕ) → slice_get read k ≡ Some false → (one other : List B) → Fits one → Fits other → ((j : ℕ) → j ≢ k → slice_get one j ≡ slice_get other j) → test one ≡ test other)
    → ((some : List Bool) → Fits (lowered some ls ys)) → test (lowered read ls ys) ≡ test ys
one_by_one test Fits [] ls ys ignored fit = refl
one_by_one test Fits (r ∷ read) [] ys ignored fit = refl
one_by_one test Fits (r ∷ read) (l ∷ ls) [] ignored fit = refl
one_by_one {B} test Fits (r ∷ read) (l ∷ ls) (y ∷ ys) ignored fit =
    one_by_one (λ zs. test ((if r then y else l) ∷ zs)) (λ zs. Fits ((if r then y else l) ∷ zs)) read ls ys
    (λ k not one other is is2 same. ignored (suc k) not ((if r then y else l) ∷ one) ((if r then y else l) ∷ other) is is2 (later k one other same))
    (λ some. fit (r ∷ some))
    ∙ here r refl
  where
    later : (k : ℕ) (one other : List B) → ((j : ℕ) → j ≢ k → slice_get one j ≡ slice_get other j)
        → (j : ℕ) → j ≢ suc k → slice_get ((if r then y else l) ∷ one) j ≡ slice_get ((if r then y else l) ∷ other) j
    later k one other same zero ne = refl
    later k one other same (suc j) ne = same j (λ e. ne (ap suc e))

    first : (b : Bool) (j : ℕ) → j ≢ 0 → slice_get ((if b then y else l) ∷ ys) j ≡ slice_get (y ∷ ys) j
    first b zero ne = absurd (ne refl)
    first b (suc j) ne = refl

    here : (b : Bool) → r ≡ b → test ((if r then y else l) ∷ ys) ≡ test (y ∷ ys)
    here true e = ap (λ b. test ((if b then y else l) ∷ ys)) e
    here false e = ignored 0 (ap Some e) ((if r then y else l) ∷ ys) (y ∷ ys) (fit (r ∷ [])) (fit []) (first r)

-- Worlds.

least_child : (c : Component) (n : ℕ) → is_choice c n ≡ true → is_choice c 0 ≡ true
least_child c n h = grind (arith, nat_tests, h)

low_end : (low high n : ℤ) → (int_le low n && int_le n high) ≡ true → (int_le low low && int_le low high) ≡ true
low_end low high n h =
    let a = first_so (int_le low n) (int_le n high) h in
    let b = second_so (int_le low n) (int_le n high) h in
    and_from (int_le low low) (int_le low high) (let e : int_le low low ≡ true = grind (arith, ints) in e) (let e : int_le low high ≡ true = grind (arith, ints, a, b) in e)

least_number : (c : InputCell) (n : ℤ) → fits c n ≡ true → fits c c.numbers.low ≡ true
least_number c n h = low_end c.numbers.low c.numbers.high n h

-- it is a world
pub low_is_world : (s : Spec) (read : ReadParts) (w : World) → IsWorld s w → IsWorld s (low_of s read w)
low_is_world s read w is =
    and_from (pointwise is_choice (components s) (lowered read.choices (map (λ c. 0) (components s)) w.choices))
    (pointwise fits (cells s) (lowered read.cells (map (λ c. c.numbers.low) (cells s)) w.cells))
    (still_pass is_choice (λ c. 0) least_child read.choices (components s) w.choices (choices_are s w is))
    (still_pass fits (λ c. c.numbers.low) least_number read.cells (cells s) w.cells (cells_are s w is))

-- with the least values
pub is_low : (s : Spec) (read : ReadParts) (w : World) → IsWorld s w → IsLow s read (low_of s read w)
is_low s read w is = record {
  is_world = low_is_world s read w is;
  first = λ k c not at. least_value is_choice (λ c. 0) read.choices (components s) w.choices k c 0 (choices_are s w is) not at;
  least = λ k c not at. least_value fits (λ c. c.numbers.low) read.cells (cells s) w.cells k c (pos 0) (cells_are s w is) not at;
}

-- and equally true, where none of the parts that are not read matters
pub of_read_parts : (s : Spec) (read : ReadParts) (truth : World → Bool)
    → ((k : ℕ) → slice_get read.choices k ≡ Some false → (v w : World) → IsWorld s v → IsWorld s w → DifferInChoice k v w → truth v ≡ truth w)
    → ((k : ℕ) → slice_get read.cells k ≡ Some false → (v w : World) → IsWorld s v → IsWorld s w
    → v.choices ≡ w.choices → ((j : ℕ) → j ≢ k → slice_get v.cells j ≡ slice_get w.cells j) → truth v ≡ truth w)
    → IsOfRead s read truth
of_read_parts s read truth no_choice no_cell = λ w is.
    let choices = lowered read.choices (map (λ c. 0) (components s)) w.choices in
    one_by_one (λ ns. truth (record { choices = choices; cells = ns })) (λ ns. IsWorld s (record { choices = choices; cells = ns }))
    read.cells (map (λ c. c.numbers.low) (cells s)) w.cells
    (λ k not one other a b same. no_cell k not (record { choices = choices; cells = one }) (record { choices = choices; cells = other }) a b
    refl same)
    (λ some. low_is_world s (record { choices = read.choices; cells = some }) w is)
    ∙ one_by_one (λ ns. truth (record { choices = ns; cells = w.cells })) (λ ns. IsWorld s (record { choices = ns; cells = w.cells }))
    read.choices (map (λ c. 0) (components s)) w.choices
    (λ k not one other a b same. no_choice k not (record { choices = one; cells = w.cells }) (record { choices = other; cells = w.cells }) a b
    (record { choices = same; cells = refl }))
    (λ some. low_is_world s (record { choices = some; cells = [] }) w is)

-- Their order.

-- one answer is that of something that comes no later
abbrev NoLater : Ordering → Ordering → Type 0
NoLater Less o = ⊤
NoLater Equal Less = ⊥
NoLater Equal Equal = ⊤
NoLater Equal Greater = ⊤
NoLater Greater Less = ⊥
NoLater Greater Equal = ⊥
NoLater Greater Greater = ⊤

as_late : (o : Ordering) → NoLater o o
as_late Less = tt
as_late Equal = tt
as_late Greater = tt

then_no_later : (o p q r : Ordering) → NoLater o p → NoLater q r → NoLater (ordering_then o q) (ordering_then p r)
then_no_later Less p q r h k = tt
then_no_later Equal Less q r h k = absurd h
then_no_later Equal Equal q r h k = k
then_no_later Equal Greater Less r h k = tt
then_no_later Equal Greater Equal r h k = tt
then_no_later Equal Greater Greater r h k = tt
then_no_later Greater Less q r h k = absurd h
then_no_later Greater Equal q r h k = absurd h
then_no_later Greater Greater q r h k = tt

before_too : (o : Ordering) → NoLater o Less → o ≡ Less
before_too Less h = refl
before_too Equal h = absurd h
before_too Greater h = absurd h

no_later : {A B : Type 0} (t : A → B → Bool) (l : A → B) (cmp : B → B → Ordering)
    → ((x : A) (y z : B) → t x y ≡ true → NoLater (cmp (l x) z) (cmp y z))
    → (read : List Bool) (xs : List A) (ys zs : List B) → pointwise t xs ys ≡ true
    → NoLater (slice_cmp cmp (lowered read (map l xs) ys) zs) (slice_cmp cmp ys zs)
no_later t l cmp least [] xs ys zs h = as_late (slice_cmp cmp ys zs)
no_later t l cmp least (r ∷ read) [] ys zs h = as_late (slice_cmp cmp ys zs)
no_later t l cmp least (r ∷ read) (x ∷ xs) [] zs h = as_late (slice_cmp cmp [] zs)
no_later t l cmp least (r ∷ read) (x ∷ xs) (y ∷ ys) [] h = tt
no_later t l cmp least (r ∷ read) (x ∷ xs) (y ∷ ys) (z ∷ zs) h =
    then_no_later (cmp (if r then y else l x) z) (cmp y z) (slice_cmp cmp (lowered read (map l xs) ys) zs) (slice_cmp cmp ys zs) (here r)
    (no_later t l cmp least read xs ys zs (second_so (t x y) (pointwise t xs ys) h))
  where
    here : (b : Bool) → NoLater (cmp (if b then y else l x) z) (cmp y z)
    here true = as_late (cmp y z)
    here false = least x y z (first_so (t x y) (pointwise t xs ys) h)

first_child : (y z : ℕ) → NoLater (nat_cmp 0 z) (nat_cmp y z)
first_child y z = by (nat_cmp 0 z) (nat_cmp y z) (ranked 0 z (nat_cmp 0 z) refl) (ranked y z (nat_cmp y z) refl)
  where
    by : (o p : Ordering) → MatchOrdering o (0 < z) (0 ≡ z) (z < 0) → MatchOrdering p (y < z) (y ≡ z) (z < y) → NoLater o p
    by Less p a b = tt
    by Equal Less a b = absurd (omega (arith, a, b))
    by Equal Equal a b = tt
    by Equal Greater a b = tt
    by Greater p a b = absurd (omega (arith, a))

low_number : (l y z : ℤ) → int_le l y ≡ true → NoLater (int_cmp l z) (int_cmp y z)
low_number l y z h = by (int_cmp l z) (int_cmp y z) (int_ranked l z (int_cmp l z) refl) (int_ranked y z (int_cmp y z) refl)
  where
    equal_less : l ≡ z → y <ℤ z → ⊥
    equal_less a b = grind (arith, ints, h)

    greater_less : z <ℤ l → y <ℤ z → ⊥
    greater_less a b = grind (arith, ints, h)

    greater_equal : z <ℤ l → y ≡ z → ⊥
    greater_equal a b = grind (arith, ints, h)

    by : (o p : Ordering) → MatchOrdering o (l <ℤ z) (l ≡ z) (z <ℤ l) → MatchOrdering p (y <ℤ z) (y ≡ z) (z <ℤ y) → NoLater o p
    by Less p a b = tt
    by Equal Less a b = equal_less a b
    by Equal Equal a b = tt
    by Equal Greater a b = tt
    by Greater Less a b = greater_less a b
    by Greater Equal a b = greater_equal a b
    by Greater Greater a b = tt

-- a low world comes before what the world itself comes before
pub low_before : (s : Spec) (read : ReadParts) (v x : World) → IsWorld s v → world_cmp v x ≡ Less → world_cmp (low_of s read v) x ≡ Less
low_before s read v x is before =
    before_too (world_cmp (low_of s read v) x)
    (subst (λ (o : Ordering). NoLater (world_cmp (low_of s read v) x) o) before
    (then_no_later (slice_cmp nat_cmp (low_of s read v).choices x.choices) (slice_cmp nat_cmp v.choices x.choices)
    (slice_cmp int_cmp (low_of s read v).cells x.cells) (slice_cmp int_cmp v.cells x.cells)
    (no_later is_choice (λ c. 0) nat_cmp (λ c y z h. first_child y z) read.choices (components s) v.choices x.choices (choices_are s v is))
    (no_later fits (λ c. c.numbers.low) int_cmp (λ c y z h. low_number c.numbers.low y z (first_so (int_le c.numbers.low y) (int_le y c.numbers.high) h))
    read.cells (cells s) v.cells x.cells (cells_are s v is))))
