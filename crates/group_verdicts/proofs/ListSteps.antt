-- Low worlds narrowed down to the least list of parts, one part after another.
use Rattle.std.proofs.Common.{◌≡◌, ℕ, ◌+◌, ◌<◌, List, [], ◌∷◌, ◌++◌, length, take, sym, ◌∙◌, slice_index_or}
use Rattle.std.specs.Cmp.Lexicographic.{slice_cmp}
use Rattle.std.specs.declared.cmp.Ordering.{Ordering}
use Rattle.rsml_syntax.specs.declared.world.World.{World}
use Rattle.rsml_meaning.specs.Worlds.{IsWorld}
use Rattle.guard_encode.specs.declared.reading.ReadParts.{ReadParts}
use Rattle.guard_encode.specs.Encoding.{Encoding, Keeps}
use Rattle.guard_encode.proofs.StepLemmas.{keeps_on}
use Rattle.group_verdicts.specs.Narrowing.{Narrows, IsLow}
use Rattle.group_verdicts.specs.Finding.{NarrowedLow, IsLeastPart}
use Rattle.group_verdicts.proofs.Keeping.{on_new, on_old}
use Rattle.group_verdicts.proofs.Narrowed.{none_fixed, one_more, all_fixed}

-- no part yet
pub narrowed_none : {A : Type 0} (e : Encoding) (read : ReadParts) (cmp : A → A → Ordering) (parts : World → List A) (f : ℕ)
    → NarrowedLow e e read (slice_cmp cmp) (λ w. take 0 (parts w)) [] f f
narrowed_none e read cmp parts f = λ truth found of_read some. record {
  next = truth;
  found = found;
  of_read = of_read;
  narrows = none_fixed (IsLow e.machine.base.spec read) cmp parts truth some;
}

-- one more part
pub narrowed_more : {A : Type 0} (a b c : Encoding) (read : ReadParts) (cmp : A → A → Ordering) (parts : World → List A) (d : A) (n many : ℕ)
    → ((w : World) → IsWorld a.machine.base.spec w → length (parts w) ≡ many) → Keeps a b → Keeps b c → n < many
    → (xs : List A) → length xs ≡ n → (x : A) (f mid r : ℕ)
    → NarrowedLow a b read (slice_cmp cmp) (λ w. take n (parts w)) xs f mid
    → NarrowedLow b c read cmp (λ w. slice_index_or (parts w) n d) x mid r
    → NarrowedLow a c read (slice_cmp cmp) (λ w. take (n + 1) (parts w)) (xs ++ x ∷ []) f r
narrowed_more {A} a b c read cmp parts d n many long ab bc less xs so_many x f mid r before here = λ truth found of_read some.
    let t = before truth found of_read some in
    let u = here t.next t.found t.of_read t.narrows.some in
    let still = on_new (λ s. (w : World) → IsWorld s w → length (parts w) ≡ many) a c (keeps_on a b c ab bc) long in
    record {
      next = u.next;
      found = u.found;
      of_read = u.of_read;
      narrows = one_more (IsLow c.machine.base.spec read) cmp parts d many (λ w is. still w is.is_world) n less xs so_many x truth t.next u.next
          (on_new (λ s. Narrows (IsLow s read) (slice_cmp cmp) (λ w. take n (parts w)) xs truth t.next) b c bc t.narrows) u.narrows;
    }

-- all parts
pub narrowed_all : {A : Type 0} (a b : Encoding) (read : ReadParts) (cmp : A → A → Ordering) (parts : World → List A) (n many : ℕ)
    → n ≡ many
    → ((w : World) → IsWorld a.machine.base.spec w → length (parts w) ≡ many) → Keeps a b
    → (xs : List A) (f r : ℕ) → NarrowedLow a b read (slice_cmp cmp) (λ w. take n (parts w)) xs f r
    → NarrowedLow a b read (slice_cmp cmp) parts xs f r
narrowed_all {A} a b read cmp parts n many all long keeps xs f r h = λ truth found of_read some.
    let t = h truth found of_read some in
    let still = on_new (λ s. (w : World) → IsWorld s w → length (parts w) ≡ n) a b keeps (λ w is. long w is ∙ sym all) in
    record {
      next = t.next;
      found = t.found;
      of_read = t.of_read;
      narrows = all_fixed (IsLow b.machine.base.spec read) cmp parts n (λ w is. still w is.is_world) xs truth t.next t.narrows;
    }

-- the least part, without the handle
pub least_part : {A : Type 0} (a b : Encoding) (read : ReadParts) (cmp : A → A → Ordering) (part : World → A) (least : A) (f r : ℕ)
    → Keeps a b
    → NarrowedLow a b read cmp part least f r → IsLeastPart a read cmp part least f
least_part a b read cmp part least f r keeps h = λ truth found of_read some.
    let t = h truth found of_read some in
    (t.next, on_old (λ s. Narrows (IsLow s read) cmp part least truth t.next) a b keeps t.narrows)
