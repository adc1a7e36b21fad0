-- What handles find while worlds are narrowed down.
use Rattle.std.specs.Prelude.{ℕ, ◌↔◌, Bool, ◌&&◌, not, IsTrue, List, length, take, Option, MatchOption, ℤ}
use Rattle.std.specs.Ordering.{int_cmp}
use Rattle.std.specs.Cmp.Lexicographic.{slice_cmp}
use Rattle.std.specs.declared.cmp.Ordering.{Ordering}
use Rattle.rsml_syntax.specs.declared.world.World.{World}
use Rattle.rsml_meaning.specs.Worlds.{IsWorld}
use Rattle.guard_encode.specs.declared.reading.ReadParts.{ReadParts}
use Rattle.guard_encode.specs.Encoding.{Encoding, Finds, Keeps, Tells}
use Rattle.group_verdicts.specs.Narrowing.{IsOfNone, Narrows, Bounds, IsLow, IsOfRead, AreLeast}

-- it is true of some world: not of none
abbrev pub IsOfSome : Encoding → (World → Bool) → Type 0
IsOfSome e truth = IsOfNone (IsWorld e.machine.base.spec) truth → ⊥

-- all worlds that f finds pass a test
abbrev pub AllPass : Encoding → Encoding → (World → Bool) → ℕ → Type 0
AllPass old new test f = (truth : World → Bool) → Finds old truth f → IsOfNone (IsWorld new.machine.base.spec) (λ w. truth w && not (test w))

-- if there are worlds that f finds, some of them pass a test, and r finds those; or none of them does
abbrev pub FindsPassing : Encoding → Encoding → (World → Bool) → ℕ → Option ℕ → Type 0
FindsPassing old new test f found = (truth : World → Bool) → Finds old truth f → IsOfSome old truth
    → MatchOption found (IsOfNone (IsWorld new.machine.base.spec) (λ w. truth w && test w))
    (λ r. Finds new (λ w. truth w && test w) r × IsOfSome new (λ w. truth w && test w))

-- r finds the worlds with the least part
pub record FindsLeast {A : Type 0} (e : Encoding) (cmp : A → A → Ordering) (part : World → A) (least : A) (truth : World → Bool) (r : ℕ)
    : Type 0 where
  pub next : World → Bool
  pub found : Finds e next r
  pub narrows : Narrows (IsWorld e.machine.base.spec) cmp part least truth next

-- if there are worlds that f finds, r finds those of them with the least part
abbrev pub Narrowed : {A : Type 0} → Encoding → Encoding → (A → A → Ordering) → (World → A) → A → ℕ → ℕ → Type 0
Narrowed old new cmp part least f r = (truth : World → Bool) → Finds old truth f → IsOfSome old truth
    → FindsLeast new cmp part least truth r

-- if there are worlds that f finds, some of them has a number up to the higher one, and none has one below the lower one
abbrev pub Bounded : Encoding → (World → ℤ) → ℤ → ℤ → ℕ → Type 0
Bounded e number low high f = (truth : World → Bool) → Finds e truth f → IsOfSome e truth
    → Bounds e.machine.base.spec number low high truth

-- it is true of some low world
abbrev pub IsOfSomeLow : Encoding → ReadParts → (World → Bool) → Type 0
IsOfSomeLow e read truth = IsOfNone (IsLow e.machine.base.spec read) truth → ⊥

-- r finds what is true of those low worlds that have the least part, and depends on read parts alone
pub record FindsLeastLow {A : Type 0} (e : Encoding) (read : ReadParts) (cmp : A → A → Ordering) (part : World → A) (least : A)
    (truth : World → Bool) (r : ℕ) : Type 0 where
  pub next : World → Bool
  pub found : Finds e next r
  pub of_read : IsOfRead e.machine.base.spec read next
  pub narrows : Narrows (IsLow e.machine.base.spec read) cmp part least truth next

-- if f finds what depends on read parts alone, and there are low worlds of it, r finds those of them with the least part
abbrev pub NarrowedLow : {A : Type 0} → Encoding → Encoding → ReadParts → (A → A → Ordering) → (World → A) → A → ℕ → ℕ → Type 0
NarrowedLow old new read cmp part least f r = (truth : World → Bool) → Finds old truth f → IsOfRead old.machine.base.spec read truth
    → IsOfSomeLow old read truth
    → FindsLeastLow new read cmp part least truth r

-- and this is the least part that one of them has
abbrev pub IsLeastPart : {A : Type 0} → Encoding → ReadParts → (A → A → Ordering) → (World → A) → A → ℕ → Type 0
IsLeastPart e read cmp part least f = (truth : World → Bool) → Finds e truth f → IsOfRead e.machine.base.spec read truth
    → IsOfSomeLow e read truth
    → (next : World → Bool) × Narrows (IsLow e.machine.base.spec read) cmp part least truth next

-- r tells in which worlds the cells from a place to another that are read have their least numbers
pub record TellsLeast (e : Encoding) (read : ReadParts) (from to r : ℕ) : Type 0 where
  pub test : World → Bool
  pub told : Tells e test r
  pub exact : (w : World) → IsWorld e.machine.base.spec w → IsTrue (test w) ↔ AreLeast e.machine.base.spec read from to w

-- if f finds what depends on read parts alone, r finds the low worlds of it with the least numbers of the first cells
abbrev pub NarrowedTo : Encoding → Encoding → ReadParts → List ℤ → ℕ → ℕ → Type 0
NarrowedTo old new read numbers f r = NarrowedLow old new read (slice_cmp int_cmp) (λ w. take (length numbers) w.cells) numbers f r

-- what was narrowed down to f by numbers is narrowed down to r by more numbers
abbrev pub NarrowedOn : Encoding → Encoding → ReadParts → List ℤ → List ℤ → ℕ → ℕ → Type 0
NarrowedOn old new read numbers more f r = (first : Encoding) (g : ℕ) → Keeps first old → NarrowedTo first old read numbers g f
    → NarrowedTo first new read more g r
