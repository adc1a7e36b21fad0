-- What stands behind a text, piece by piece.
use Rattle.std.proofs.Common.{◌≡◌, ℕ, ◌+◌, ◌≤◌, Bool, true, false, List, [], ◌++◌, length, take, Option, refl, sym, ap, ◌∙◌, arith, length-append}
use Rattle.std.proofs.lemmas.List.{take-append-le, take_all}
use Rattle.std.proofs.Math.Seq.{take-append-add}
use Rattle.rsml_io.specs.Counts.{Rose}
use Rattle.rsml_io.specs.Writing.{appended}
use Rattle.text_writer.specs.Writes.{WriterState, Writes}
use Rattle.text_writer.proofs.WritingLemmas.{appended_both, still}
use Rattle.text_writer.specs.Buffering.{Flushes}
use Rattle.simulator.specs.helpers.Progress.{Stands, Counted}

not_both : (b : Bool) → b ≡ true → b ≡ false → ⊥
not_both b h k = cc

-- nothing yet
pub nothing_stands : (state : WriterState) (text : Option (List ℕ)) → state.whole ≡ true → Stands text [] state text
nothing_stands state text whole = record { all = (still state text).all; part = λ e. absurd (not_both state.whole whole e) }

pub nothing_counted : (state : WriterState) → state.whole ≡ true → Counted state state
nothing_counted state whole = record { count = omega arith; cause = λ e. absurd (not_both state.whole whole e); same = refl }

-- One more piece.

module _ (first second : WriterState) (old mid new : Option (List ℕ)) (a b : List ℕ) (h : Stands old a first mid) (k : Writes first mid b second new) where
  part_more : (p : Bool) → first.whole ≡ p → second.whole ≡ false → (n : ℕ) × (n ≤ length (a ++ b)) × (new ≡ appended old (take n (a ++ b)))
  part_more true e f =
      let part = k.part e f in (
        length a + part.0,
        omega (arith, part.1, length-append a b),
        part.2 ∙ ap (λ (t : Option (List ℕ)). appended t (take part.0 b)) (h.all e) ∙ appended_both old a (take part.0 b) ∙ ap (appended old) (sym (take-append-add a b part.0)),
      )
  part_more false e f =
      let part = h.part e in
      (part.0, omega (arith, part.1, length-append a b), k.none e ∙ part.2 ∙ ap (appended old) (sym (take-append-le part.0 a b part.1)))

  pub one_more_stands : Stands old (a ++ b) second new
  one_more_stands = record {
    all = λ e. k.all e ∙ ap (λ (t : Option (List ℕ)). appended t b) (h.all (k.before e)) ∙ appended_both old a b;
    part = part_more first.whole refl;
  }

-- what stands while the text stays as it is
pub same_stands : (first second : WriterState) (old mid new : Option (List ℕ)) (a : List ℕ) → new ≡ mid → (second.whole ≡ true → first.whole ≡ true) → Stands old a first mid → Stands old a second new
same_stands first second old mid new a same before h = record {
  all = λ e. same ∙ h.all (before e);
  part = λ e. by (first.whole) refl;
}
  where
    by : (p : Bool) → first.whole ≡ p → (n : ℕ) × (n ≤ length a) × (new ≡ appended old (take n a))
    by true e = (length a, omega arith, same ∙ h.all e ∙ ap (appended old) (sym (take_all (length a) a (omega arith))))
    by false e = let part = h.part e in (part.0, part.1, same ∙ part.2)

-- more bytes than those of which a part stands
pub longer_stands : (state : WriterState) (old new : Option (List ℕ)) (a b : List ℕ) → state.whole ≡ false → Stands old a state new → Stands old (a ++ b) state new
longer_stands state old new a b whole h = record {
  all = λ e. absurd (not_both state.whole e whole);
  part = λ e. let part = h.part e in (part.0, omega (arith, part.1, length-append a b), part.2 ∙ ap (appended old) (sym (take-append-le part.0 a b part.1)));
}

-- Counts.

pub more_counted : (first second third : WriterState) → Counted first second → second.refusals ≤ third.refusals → (second.whole ≡ true → third.whole ≡ false → Rose second.refusals third.refusals)
    → third.target ≡ second.target → Counted first third
more_counted first second third h count cause same = record {
  count = let c = h.count in omega (arith, c, count);
  cause = λ e. by second.whole refl e;
  same = same ∙ h.same;
}
  where
    by : (p : Bool) → second.whole ≡ p → third.whole ≡ false → Rose first.refusals third.refusals
    by true e f = let c = h.count in let r = cause e f in omega (arith, c, r)
    by false e f = let r = h.cause e in omega (arith, count, r)

pub counted_writes : (first second third : WriterState) (old new : Option (List ℕ)) (bytes : List ℕ) → Counted first second → Writes second old bytes third new → Counted first third
counted_writes first second third old new bytes h k = more_counted first second third h k.count k.cause k.same

pub counted_flushes : (first second third : WriterState) (old new : Option (List ℕ)) → Counted first second → Flushes second old third new → Counted first third
counted_flushes first second third old new h k = more_counted first second third h k.count k.cause k.same

-- all of the bytes stand, or some from their front
pub some_stand : (state : WriterState) (old new : Option (List ℕ)) (bytes : List ℕ) → Stands old bytes state new → (n : ℕ) × (n ≤ length bytes) × (new ≡ appended old (take n bytes))
some_stand state old new bytes h = by state.whole refl
  where
    by : (p : Bool) → state.whole ≡ p → (n : ℕ) × (n ≤ length bytes) × (new ≡ appended old (take n bytes))
    by true e = (length bytes, omega arith, h.all e ∙ ap (appended old) (sym (take_all (length bytes) bytes (omega arith))))
    by false e = h.part e

-- to write nothing is to flush nothing
pub unflushed : (state : WriterState) (text : Option (List ℕ)) → Flushes state text state text
unflushed state text = record {
  text = refl;
  before = λ e. e;
  count = omega arith;
  cause = λ e f. absurd (not_both state.whole e f);
  same = refl;
}
