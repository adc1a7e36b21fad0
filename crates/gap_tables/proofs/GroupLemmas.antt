-- What is told of a group at a place.
use Rattle.std.proofs.Common.{◌≡◌, ◌≤◌, ◌<◌, ◌+◌, ℕ, zero, suc, Bool, true, false, List, [], ◌∷◌, ◌++◌, map, length, take, Some, refl, sym, ap, subst, arith, slice_get}
use Rattle.std.specs.List.{AllZip}
use Rattle.rsml_syntax.specs.declared.syntax.Spec.{Spec}
use Rattle.rsml_syntax.specs.declared.world.World.{World}
use Rattle.rsml_meaning.specs.Groups.{Group, groups}
use Rattle.guard_encode.specs.Encoding.{Encoding, Keeps, Tells}
use Rattle.group_verdicts.proofs.FailLemmas.{sound}
use Rattle.group_verdicts.proofs.FoundLemmas.{TellsFailing}
use Rattle.group_verdicts.proofs.Keeping.{on_new, on_old}
use Rattle.group_verdicts.proofs.ListLemmas.{found_more}
use Rattle.world_columns.specs.declared.column.Column.{Column}
use Rattle.world_columns.specs.declared.column.Gaps.{Gaps}
use Rattle.world_columns.specs.declared.group.GroupGaps.TheVariants as gaps
use Rattle.world_columns.specs.Failing.{enables_none, enables_two}
use Rattle.world_columns.specs.Gaps.{AreGaps, EndsWith, none_left, some_left}
use Rattle.world_columns.specs.GapsOf.{NoWorld, SomeWorld}
use Rattle.gap_tables.specs.Widening.{ColumnsAt, ToldAt}

some_world : (s : Spec) (set : World → Bool) (most : ℕ) (cs : List Column) (more : Bool) → (cs ≡ [] → ⊥) → AreGaps s set most cs more → SomeWorld s set
some_world s set most [] more some h = absurd (some refl)
some_world s set zero (c ∷ cs) more some h = absurd h
some_world s set (suc most) (c ∷ cs) more some h = (h.0, h.1.such.0, h.1.such.1)

ends_none : (s : Spec) (set : World → Bool) (most : ℕ) (more : Bool) → 1 ≤ most → EndsWith s set most more → NoWorld s set
ends_none s set most false some (none_left h) = h
ends_none s set most true some (some_left e w is so) = absurd (omega (arith, some, e))

no_world : (s : Spec) (set : World → Bool) (most : ℕ) (cs : List Column) (more : Bool) → 1 ≤ most → cs ≡ [] → AreGaps s set most cs more → NoWorld s set
no_world s set most cs more some none h = ends_none s set most more some (subst (λ (xs : List Column). AreGaps s set most xs more) none h)

not_true : (b : Bool) → (b ≡ true → ⊥) → b ≡ false
not_true true h = absurd (h refl)
not_true false h = refl

-- the columns of what tells the worlds in which the group at a place fails are those of the group
pub columns_at : (a b : Encoding) (group r most : ℕ) (fails : Spec → Group → World → Bool) (x : Gaps) → Keeps a b → TellsFailing a group fails r
    → ((truth : World → Bool) → Tells a truth r → AreGaps b.machine.base.spec truth most x.columns x.more) → ColumnsAt most group fails b.machine.base.spec x
columns_at a b group r most fails x keeps tells columns = on_new (λ s. ColumnsAt most group fails s x) a b keeps (λ g at.
    let s = a.machine.base.spec in
    on_old (λ t. AreGaps t (fails s g) most x.columns x.more) a b keeps (columns (fails s g) (tells g at).told))

-- the group at a place enables a member in each world
abbrev pub NoneAt : ℕ → Spec → Type 0
NoneAt group s = (g : Group) → slice_get (groups s) group ≡ Some g → NoWorld s (enables_none s g)

pub missing_at : (s : Spec) (group most : ℕ) (x : Gaps) → (x.columns ≡ [] → ⊥) → ColumnsAt most group enables_none s x → ToldAt most (gaps.Missing x) group s
missing_at s group most x some columns g at = (some_world s (enables_none s g) most x.columns x.more some (columns g at), columns g at)

pub none_at : (s : Spec) (group most : ℕ) (x : Gaps) → 1 ≤ most → x.columns ≡ [] → ColumnsAt most group enables_none s x → NoneAt group s
none_at s group most x least none columns g at = no_world s (enables_none s g) most x.columns x.more least none (columns g at)

pub double_at : (s : Spec) (group most : ℕ) (x : Gaps) → NoneAt group s → (x.columns ≡ [] → ⊥) → ColumnsAt most group enables_two s x → ToldAt most (gaps.Double x) group s
double_at s group most x never some columns g at = (never g at, some_world s (enables_two s g) most x.columns x.more some (columns g at), columns g at)

pub sound_at : (s : Spec) (group most : ℕ) (x : Gaps) → 1 ≤ most → NoneAt group s → x.columns ≡ [] → ColumnsAt most group enables_two s x → ToldAt most gaps.Sound group s
sound_at s group most x least never none columns g at =
    let two = no_world s (enables_two s g) most x.columns x.more least none (columns g at) in
    sound s g (λ w is. not_true (enables_none s g w) (never g at w is)) (λ w is. not_true (enables_two s g w) (two w is))

-- A list of what is told of each group.

map_same : {A : Type 0} (xs : List A) → map (λ x. x) xs ≡ xs
map_same [] = refl
map_same (x ∷ xs) = ap (λ ys. x ∷ ys) (map_same xs)

pub told_more : {A B : Type 0} (R : A → B → Type 0) (xs : List A) (ys zs : List B) (n : ℕ) (y : B) → n < length xs → AllZip R (take n xs) ys → zs ≡ ys ++ y ∷ [] → ((x : A) → slice_get xs n ≡ Some x → R x y)
    → AllZip R (take (n + 1) xs) zs
told_more R xs ys zs n y less before pushed here =
    subst (λ vs. AllZip R (take (n + 1) xs) vs) (map_same zs)
    (found_more R (λ y. y) xs ys zs n y less (subst (λ vs. AllZip R (take n xs) vs) (sym (map_same ys)) before) pushed here)
