-- The same where it may be told what the file holds.
use Rattle.std.proofs.Common.{◌≡◌, ℕ, List, [], ◌∷◌, ◌++◌, Option, Some, None, IfSome, slice_get, true, refl, sym, ap, ◌∙◌, subst}
use Rattle.rsml_meaning.specs.Certified.{Certified}
use Rattle.rsml_meaning.specs.EventLines.{Bytes}
use Rattle.rsml_meaning.specs.EventFiles.{messages}
use Rattle.rsml_meaning.specs.Interfaces.{ReceiveInstance, receives}
use Rattle.rsml_meaning.specs.Laws.{WellFormedHasNoFault, FirstFaultIsOfLine}
use Rattle.rsml_meaning.specs.Scoped.{WellScoped}
use Rattle.rsml_meaning.specs.RunLaws.{LinesHaveOneRun}
use Rattle.text_writer.specs.Writes.{WriterState}
use Rattle.event_file.specs.Reading.{taken}
use Rattle.text_writer.specs.Buffering.{Flushes}
use Rattle.simulator.specs.declared.sim_end.SimEnd.TheVariants as end
use Rattle.simulator.specs.declared.upcoming.Upcoming.{Upcoming}
use Rattle.simulator.specs.declared.upcoming.Upcoming.TheVariants as upcoming
use Rattle.simulator.specs.Simulation.{Simulation, IsNew}
use Rattle.simulator.specs.Fitting.{FitsFile, Comes, NoneComes, Goes, lines_read}
use Rattle.simulator.specs.helpers.Reacting.{EventIsWritten}
use Rattle.simulator.specs.Ends.{end_by}
use Rattle.simulator.specs.helpers.Progress.{Followed, Stops}
use Rattle.simulator.proofs.FollowedLemmas.{starts, flushed, followed_on, stops_there, stops_refused}

pub each_told : {A : Type 0} {P Q : A → Type 0} (o : Option A) → ((x : A) → P x → Q x) → IfSome o P → IfSome o Q
each_told None f h = h
each_told (Some x) f h = f x h

pub both_told : {A : Type 0} {P Q R : A → Type 0} (o : Option A) → ((x : A) → P x → Q x → R x) → IfSome o P → IfSome o Q → IfSome o R
both_told None f h k = h
both_told (Some x) f h k = f x h k

pub three_told : {A : Type 0} {P Q R S : A → Type 0} (o : Option A) → ((x : A) → P x → Q x → R x → S x) → IfSome o P → IfSome o Q → IfSome o R → IfSome o S
three_told None f h k l = h
three_told (Some x) f h k l = f x h k l

pub any_told : {A : Type 0} {P : A → Type 0} (o : Option A) → ((x : A) → P x) → IfSome o P
any_told None f = tt
any_told (Some x) f = f x

module _ (told : Option Bytes) (old : Option (List ℕ)) where
  abbrev pub AreFollowed : Simulation → WriterState → Option (List ℕ) → Type 0
  AreFollowed m state new = IfSome told (λ content. Followed content m old state new)

  pub starts_told : (m : Simulation) (state : WriterState) → state.whole ≡ true → IsNew m → AreFollowed m state old
  starts_told m state whole new = any_told {P = λ content. Followed content m old state old} told (λ content. starts content m state old whole new)

  pub fits_followed : (told' : Option Bytes) (m : Simulation) (state : WriterState) (new : Option (List ℕ)) → told' ≡ told → AreFollowed m state new → IfSome told' (λ content. FitsFile content m)
  fits_followed told' m state new same h =
      subst (λ (o : Option Bytes). IfSome o (λ content. FitsFile content m)) (sym same)
      (each_told {P = λ content. Followed content m old state new} {Q = λ content. FitsFile content m} told (λ content f. f.has.fits) h)

  pub flushed_told : (m : Simulation) (first second : WriterState) (mid new : Option (List ℕ)) → Flushes first mid second new → AreFollowed m first mid → AreFollowed m second new
  flushed_told m first second mid new k h =
      each_told {P = λ content. Followed content m old first mid} {Q = λ content. Followed content m old second new} told (λ content f. flushed content m first second old mid new k f) h

  module _ (told' : Option Bytes) (same : told' ≡ told) (m m' : Simulation) (first : WriterState) (mid : Option (List ℕ)) (h : AreFollowed m first mid)
      (fits : IfSome told' (λ content. FitsFile content m'))
    where
      fits_there : IfSome told (λ content. FitsFile content m')
      fits_there = subst (λ (o : Option Bytes). IfSome o (λ content. FitsFile content m')) same fits

      -- an event came, and was written with its rounds
      pub followed_told : (k : ℕ) → Comes told' k m m' → (m'' : Simulation) (second : WriterState) (new : Option (List ℕ))
          → m'' ≡ record m' { world = m''.world; present = m''.present; last = m''.last }
          → ((x : ReceiveInstance) → slice_get (receives m'.spec) k ≡ Some x → EventIsWritten m'.spec m'.events x m'.world m'.present m''.world first mid second new) → AreFollowed m'' second new
      followed_told k comes m'' second new rest written =
          let spec : m'.spec ≡ m.spec = ap (λ (z : Simulation). z.spec) comes.changes in
          let event = written comes.message.receive (ap (λ s. slice_get (receives s) k) spec ∙ comes.receive) in
          let next =
          subst (λ (o : Option Bytes). IfSome o (λ content. messages m.spec (lines_read content m') ≡ messages m.spec (lines_read content m) ++ (comes.message ∷ []))) same comes.next in
          three_told {P = λ content. Followed content m old first mid} {Q = λ content. FitsFile content m'}
          {R = λ content. messages m.spec (lines_read content m') ≡ messages m.spec (lines_read content m) ++ (comes.message ∷ [])} {S = λ content. Followed content m'' old second new} told
          (λ content p q e. followed_on content m m' m'' first second old mid new p q comes.message e comes.changes rest event) h fits_there next

      -- it ends
      pub stops_told : (answer : Upcoming) → NoneComes told' answer m m' → IfSome told (λ content. Stops m.spec m.limits content (taken m'.reading) (end_by answer) old first mid)
      stops_told answer none =
          let nothing = subst (λ (o : Option Bytes). IfSome o (λ content. messages m.spec (lines_read content m') ≡ messages m.spec (lines_read content m))) same none.none in
          three_told {P = λ content. Followed content m old first mid} {Q = λ content. FitsFile content m'}
          {R = λ content. messages m.spec (lines_read content m') ≡ messages m.spec (lines_read content m)}
          {S = λ content. Stops m.spec m.limits content (taken m'.reading) (end_by answer) old first mid} told
          (λ content p q e. stops_there content m m'.reading first old mid p e answer (subst (FitsFile content) none.changes q)) h fits_there nothing

  pub refused_told : LinesHaveOneRun → WellFormedHasNoFault → FirstFaultIsOfLine → (m : Simulation) → WellScoped m.spec → Certified m.spec → m.answered ≡ None
      → (k : ℕ) (state : WriterState) (new : Option (List ℕ)) → AreFollowed m state new → IfSome told (λ content. Stops m.spec m.limits content k end.WriteFault old state new)
  refused_told one well first m scoped certified none k state new h =
      each_told {P = λ content. Followed content m old state new} {Q = λ content. Stops m.spec m.limits content k end.WriteFault old state new} told
      (λ content p. stops_refused one well first content m scoped certified none k state old new p) h

-- The answers.

-- one that is no event
pub none_comes : (told : Option Bytes) (m : Simulation) (answer : Upcoming) (m' : Simulation) → ((k : ℕ) → answer ≡ upcoming.Event k → ⊥) → Goes told m answer m' → NoneComes told answer m m'
none_comes told m (upcoming.Event k) m' ne h = absurd (ne k refl)
none_comes told m (upcoming.Ended n) m' ne h = h
none_comes told m (upcoming.LineFault n fault) m' ne h = h
none_comes told m (upcoming.LineTooLong n) m' ne h = h
none_comes told m upcoming.ReadFault m' ne h = h
none_comes told m upcoming.TooLong m' ne h = h

pub ends_by_read : (answer : Upcoming) → end_by answer ≡ end.ReadFault → answer ≡ upcoming.ReadFault
ends_by_read upcoming.ReadFault h = refl
ends_by_read (upcoming.Event k) h = absurd (let no : end.Ended 0 ≡ end.ReadFault → ⊥ = λ e. cc in no h)
ends_by_read (upcoming.Ended n) h = absurd (let no : end.Ended n ≡ end.ReadFault → ⊥ = λ e. cc in no h)
ends_by_read (upcoming.LineFault n fault) h = absurd (let no : end.LineFault n fault ≡ end.ReadFault → ⊥ = λ e. cc in no h)
ends_by_read (upcoming.LineTooLong n) h = absurd (let no : end.LineTooLong n ≡ end.ReadFault → ⊥ = λ e. cc in no h)
ends_by_read upcoming.TooLong h = absurd (let no : end.TooLong ≡ end.ReadFault → ⊥ = λ e. cc in no h)

pub ends_by_no_write : (answer : Upcoming) → end_by answer ≡ end.WriteFault → ⊥
ends_by_no_write upcoming.ReadFault h = let no : end.ReadFault ≡ end.WriteFault → ⊥ = λ e. cc in no h
ends_by_no_write (upcoming.Event k) h = let no : end.Ended 0 ≡ end.WriteFault → ⊥ = λ e. cc in no h
ends_by_no_write (upcoming.Ended n) h = let no : end.Ended n ≡ end.WriteFault → ⊥ = λ e. cc in no h
ends_by_no_write (upcoming.LineFault n fault) h = let no : end.LineFault n fault ≡ end.WriteFault → ⊥ = λ e. cc in no h
ends_by_no_write (upcoming.LineTooLong n) h = let no : end.LineTooLong n ≡ end.WriteFault → ⊥ = λ e. cc in no h
ends_by_no_write upcoming.TooLong h = let no : end.TooLong ≡ end.WriteFault → ⊥ = λ e. cc in no h
