-- What a sink has got of the bytes that a buffered sink got.
use Rattle.std.proofs.Common.{◌≡◌, ℕ, ◌≤◌, Bool, true, false, List, [], length, Option, sym, ap, subst, ◌∙◌, arith}
use Rattle.std.proofs.Math.Seq.{take-length}
use Rattle.rsml_io.specs.Counts.{Rose}
use Rattle.rsml_io.specs.Writing.{appended}
use Rattle.text_writer.specs.Writes.{WriterState, Writes}
use Rattle.text_writer.specs.Buffering.{begins, AppendsPrefix, Finishes, Written}
use Rattle.text_writer.proofs.Waiting.{either}

rose_before : (a b c : ℕ) → Rose a b → b ≤ c → Rose a c
rose_before a b c h k = omega (arith, h, k)

rose_after : (a b c : ℕ) → a ≤ b → Rose b c → Rose a c
rose_after a b c h k = omega (arith, h, k)

-- a writer that was whole got a prefix of the bytes, or all
prefix : (first last : WriterState) (before text : Option (List ℕ)) (bytes : List ℕ) → first.whole ≡ true
    → Writes first before bytes last text → AppendsPrefix before text bytes
prefix first last before text bytes whole writes = either {X = AppendsPrefix before text bytes} last.whole
    (λ e. (length bytes, omega arith, writes.all e ∙ ap (appended before) (sym (take-length bytes))))
    (λ e. let part = writes.part whole e in (part.0, omega (arith, part.1), part.2))

cause : (first last : WriterState) (before text written : Option (List ℕ)) (bytes : List ℕ) (all : Bool) (name refusals : ℕ)
    → first.whole ≡ true → Writes first before bytes last text → Finishes last text all name refusals written → all ≡ false
    → Rose first.refusals refusals
cause first last before text written bytes all name refusals whole writes finishes refused =
    either {X = Rose first.refusals refusals} last.whole
    (λ e. rose_after first.refusals last.refusals refusals writes.count (finishes.cause e refused))
    (λ e. rose_before first.refusals last.refusals refusals (writes.cause whole e) finishes.count)

-- what was put into a buffered sink from its beginning to its end was written to the sink behind it
pub finished : {first last : WriterState} {began before text written : Option (List ℕ)} {bytes : List ℕ} {all : Bool}
    {name refusals refusals' : ℕ} (held : ℕ) → first ≡ begins held before refusals → began ≡ before → Writes first began bytes last text
    → (bytes ≡ [] → ⊥) → Finishes last text all name refusals' written → Written before refusals bytes all written refusals'
finished {first} {last} {began} {before} {text} {written} {bytes} {all} {name} {refusals} {refusals'} held start same puts some finishes =
    let P : Option (List ℕ) → Type 0 = λ w. Writes first w bytes last text in
    let writes : Writes first before bytes last text = subst P same puts in
    let whole : first.whole ≡ true = ap (λ (s : WriterState). s.whole) start in
    let counted : first.refusals ≡ refusals = ap (λ (s : WriterState). s.refusals) start in
    record {
      whole = λ e. finishes.whole e ∙ writes.all (finishes.earlier e);
      part = λ e. finishes.part e first held refusals before bytes start writes.same some
          (prefix first last before text bytes whole writes);
      count = omega (arith, writes.count, finishes.count);
      cause = λ e. let Q : ℕ → Type 0 = λ n. Rose n refusals' in
          subst Q counted (cause first last before text written bytes all name refusals' whole writes finishes e);
    }
