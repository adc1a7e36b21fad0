-- Pieces that are written one after another.
use Rattle.std.proofs.Common.{◌≡◌, ℕ, ◌+◌, ◌<◌, ◌≤◌, Bool, true, false, List, [], ◌∷◌, ◌++◌, length, take, Option, Some, None, refl, sym, ap, ◌∙◌, arith, append_assoc, append-nil, length-append, subst, get_or, flat_map}
use Rattle.std.proofs.lemmas.List.{take-append-le, take_more}
use Rattle.std.proofs.lemmas.Grind.{flat_map-append}
use Rattle.std.proofs.Math.Seq.{take-append-add}
use Rattle.rsml_io.specs.Counts.{counted, Rose}
use Rattle.rsml_io.specs.Writing.{appended, AppendsProperPrefix}
use Rattle.text_writer.specs.Writes.{WriterState, Writes}
use Rattle.text_writer.specs.Laws.{NothingChangesNothing, PiecesAreOne}

-- one text and then another behind what is written are both behind it
pub appended_both : (old : Option (List ℕ)) (a b : List ℕ) → appended (appended old a) b ≡ appended old (a ++ b)
appended_both None a b = refl
appended_both (Some w) a b = ap Some (append_assoc w a b)

nothing_behind : (old : Option (List ℕ)) → appended old [] ≡ old
nothing_behind None = refl
nothing_behind (Some w) = ap Some (append-nil w)

-- a part of no bytes that is no bytes
no_part : (old new : Option (List ℕ)) → AppendsProperPrefix old new [] → ⊥
no_part old new h = omega (arith, h.1)

-- a count that rose stays above
rose_before : (a b c : ℕ) → Rose a b → b ≤ c → Rose a c
rose_before a b c h k = omega (arith, h, k)

-- a count that rises later rises
rose_after : (a b c : ℕ) → a ≤ b → Rose b c → Rose a c
rose_after a b c h k = omega (arith, h, k)

nothing_of : (p q : Bool) (was is : WriterState) (old new : Option (List ℕ)) → was.whole ≡ p → is.whole ≡ q → Writes was old [] is new → (q ≡ p) × (new ≡ old)
nothing_of true true was is old new a b h = (refl, h.all b ∙ nothing_behind old)
nothing_of true false was is old new a b h = absurd (no_part old new (h.part a b))
nothing_of false true was is old new a b h = absurd (let no : ⊥ = let e = h.before b in cc in no)
nothing_of false false was is old new a b h = (refl, h.none a)

pub nothing : NothingChangesNothing
nothing was is old new h = nothing_of was.whole is.whole was is old new refl refl h

-- to write nothing is to leave all as it is
pub still : (was : WriterState) (old : Option (List ℕ)) → Writes was old [] was old
still was old = record {
  before = λ e. e;
  all = λ e. sym (nothing_behind old);
  part = λ e f. absurd (let no : ⊥ = cc in no);
  none = λ e. refl;
  count = omega (arith);
  cause = λ e f. absurd (let no : ⊥ = cc in no);
  same = refl;
}

-- the front of the second piece, behind the first
part_of_second : (old new : Option (List ℕ)) (a b : List ℕ) → AppendsProperPrefix (appended old a) new b → AppendsProperPrefix old new (a ++ b)
part_of_second old new a b h =
    (length a + h.0, omega (arith, h.1, length-append a b), h.2 ∙ appended_both old a (take h.0 b) ∙ ap (appended old) (sym (take-append-add a b h.0)))

-- the front of the first piece
part_of_first : (old new : Option (List ℕ)) (a b : List ℕ) → AppendsProperPrefix old new a → AppendsProperPrefix old new (a ++ b)
part_of_first old new a b h =
    let within : h.0 ≤ length a = omega (arith, h.1) in
    (h.0, omega (arith, h.1, length-append a b), h.2 ∙ ap (appended old) (sym (take-append-le h.0 a b within)))

both_whole : (first second third : WriterState) (old mid new : Option (List ℕ)) (a b : List ℕ) → Writes first old a second mid → Writes second mid b third new
    → third.whole ≡ true → new ≡ appended old (a ++ b)
both_whole first second third old mid new a b h k e = k.all e ∙ ap (λ w. appended w b) (h.all (k.before e)) ∙ appended_both old a b

both_part : (p : Bool) (first second third : WriterState) (old mid new : Option (List ℕ)) (a b : List ℕ) → second.whole ≡ p → Writes first old a second mid → Writes second mid b third new
    → first.whole ≡ true → third.whole ≡ false → AppendsProperPrefix old new (a ++ b)
both_part true first second third old mid new a b m h k e f =
    part_of_second old new a b (let P : Option (List ℕ) → Type 0 = λ w. AppendsProperPrefix w new b in subst P (h.all m) (k.part m f))
both_part false first second third old mid new a b m h k e f =
    part_of_first old new a b (let P : Option (List ℕ) → Type 0 = λ w. AppendsProperPrefix old w a in subst P (sym (k.none m)) (h.part e m))

-- after an earlier refusal the second piece is refused too
refused : (p : Bool) (first second : WriterState) (old mid : Option (List ℕ)) (a : List ℕ) → second.whole ≡ p → Writes first old a second mid → first.whole ≡ false → second.whole ≡ false
refused true first second old mid a m h e = absurd (let no : ⊥ = let f = h.before m in cc in no)
refused false first second old mid a m h e = m

-- a refusal is counted, of the first piece or of the second
both_cause : (p : Bool) (first second third : WriterState) (old mid new : Option (List ℕ)) (a b : List ℕ) → second.whole ≡ p → Writes first old a second mid → Writes second mid b third new
    → first.whole ≡ true → third.whole ≡ false → Rose first.refusals third.refusals
both_cause true first second third old mid new a b m h k e f = rose_after first.refusals second.refusals third.refusals h.count (k.cause m f)
both_cause false first second third old mid new a b m h k e f = rose_before first.refusals second.refusals third.refusals (h.cause e m) k.count

-- to write one piece and then another is to write both
pub both : PiecesAreOne
both first second third old mid new a b h k = record {
  before = λ e. h.before (k.before e);
  all = both_whole first second third old mid new a b h k;
  part = both_part second.whole first second third old mid new a b refl h k;
  none = λ e. k.none (refused second.whole first second old mid a refl h e) ∙ h.none e;
  count = let one = h.count in let two = k.count in omega (arith, one, two);
  cause = both_cause second.whole first second third old mid new a b refl h k;
  same = k.same ∙ h.same;
}

-- to write one piece and then another is to write both, whatever the pieces
pub followed : {first second third : WriterState} {old mid new : Option (List ℕ)} {a b : List ℕ} → Writes first old a second mid → Writes second mid b third new → Writes first old (a ++ b) third new
followed {first} {second} {third} {old} {mid} {new} {a} {b} h k = both first second third old mid new a b h k

-- bytes that are equal are written alike
pub alike : {first second : WriterState} {old new : Option (List ℕ)} {a b : List ℕ} → a ≡ b → Writes first old a second new → Writes first old b second new
alike {first} {second} {old} {new} e h = let P : List ℕ → Type 0 = λ bytes. Writes first old bytes second new in subst P e h

one_taken : {A : Type 0} (f : A → List ℕ) (xs : List A) (i : ℕ) (x : A) → i < length xs → x ≡ get_or xs i x → flat_map f (take i xs) ++ f x ≡ flat_map f (take (i + 1) xs)
one_taken {A} f xs i x b e =
    ap (λ (y : A). flat_map f (take i xs) ++ f y) e
    ∙ sym (ap (λ (ys : List A). flat_map f ys) (take_more xs i x b) ∙ flat_map-append f (take i xs) (get_or xs i x ∷ [])
    ∙ ap (λ (t : List ℕ). flat_map f (take i xs) ++ t) (append-nil (f (get_or xs i x))))

-- behind the texts of the first items that of one more is written
pub one_more : {A : Type 0} {first second third : WriterState} {old mid new : Option (List ℕ)} (f : A → List ℕ) (xs : List A) (i : ℕ) (x : A) → i < length xs → x ≡ get_or xs i x
    → Writes first old (flat_map f (take i xs)) second mid → Writes second mid (f x) third new → Writes first old (flat_map f (take (i + 1) xs)) third new
one_more f xs i x b e h k = alike (one_taken f xs i x b e) (followed h k)
