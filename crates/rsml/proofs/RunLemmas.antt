-- What `run` promises, from what the command that its words are leaves.
use Rattle.std.proofs.Common.{◌≡◌, ◌≢◌, ℕ, ◌⊎◌, inl, inr, Some, None, refl, sym, ap, ◌∙◌, subst, lit<}
use Rattle.std.specs.Prelude.{Contains, ⊤}
use Rattle.rsml_meaning.specs.EventFiles.{program_limits, FileFault, long_line, broken_line, long_file}
use Rattle.rsml_meaning.specs.EventLines.{Bytes}
use Rattle.rsml_syntax.specs.declared.syntax.Spec.{Spec}
use Rattle.simulator.specs.Outputs.{end_of, done, faulty}
use Rattle.simulator.specs.Outputs as events_file
use Rattle.simulator.specs.declared.sim_end.SimEnd.{SimEnd}
use Rattle.answering.specs.Lines as lines
use Rattle.answering.specs.Uses.{ReadRefused, Writes}
use Rattle.answering.specs.Writing.{HasWritten}
use Rattle.answering.specs.declared.status.Status.{Status}
use Rattle.answering.specs.declared.status.Status.TheVariants as status
use Rattle.answering.proofs.AnswerLemmas.{Answers, complete, wrote, acted, of_told, of_fits, written_fits}
use Rattle.checking.proofs.HeadlineLemmas.{certified_output, refused_output}
use Rattle.following.specs.Followed.{IsFollowed}
use Rattle.following.specs.Outputs.{EventOutput, FollowOutput, IsCertifiedText, Shows, status_of, texts_of}
use Rattle.following.specs.Outputs as following
use Rattle.following.specs.Steps.{HasFollowed}
use Rattle.following.specs.declared.event_action.EventAction.{EventAction}
use Rattle.following.specs.declared.event_action.EventAction.TheVariants as event_action
use Rattle.following.proofs.NoteLemmas.{shown_as}
use Rattle.following.proofs.FollowLemmas.{EventsUnread, followed, leaves_events, event_fault, never_usage_of}
use Rattle.gapping.proofs.GapLemmas as gapping
use Rattle.gapping.proofs.ExplainedLemmas.{done_explained, refused_explained}
use Rattle.judging.specs.Texts.{IsTextOf}
use Rattle.comparing.specs.Laws.{ReadsAsAlike, SameIsAlike}
use Rattle.proving.specs.Laws.{DoneIsProved}
use Rattle.pairing.specs.Kept.{IsKeptFile, IsKeptText}
use Rattle.pairing.specs.Outputs.{PairOutput}
use Rattle.pairing.specs.Steps.{HasPaired}
use Rattle.pairing.specs.declared.pair_action.PairAction.{PairAction}
use Rattle.pairing.specs.declared.pair_action.PairAction.TheVariants as pair_action
use Rattle.pairing.proofs.DoneLemmas.{proved_output, explained_proof_output, same_output, explained_same_output}
use Rattle.pairing.proofs.PairLemmas.{leaves_second, paired, paired_fits}
use Rattle.pairing.proofs.StatusLemmas.{of_pair}
use Rattle.demonstrating.specs.Steps.{HasDemonstrated}
use Rattle.demonstrating.specs.Summary.{IsSummary}
use Rattle.demonstrating.proofs.DemoLemmas.{demonstrated, demonstrated_fits}
use Rattle.rsml.specs.Commands.{Command, act, follow, pair, demo, version, command_of, specification_file, Names}
use Rattle.rsml.specs.Commands as commands
use Rattle.rsml.specs.Output.{ActionOutput, Output}
use Rattle.rsml.specs.Output as output
use Rattle.rsml.specs.Promises.{Meeting, Runs, Tells, SomeReadRefused, ReadFaultOutput, Certifies, Refuses, TellsOnlyRun, Tabulates, AsksGaps, ExplainsGaps, AsksExplainedGaps, Proves, ExplainsProof, FindsAlike, ExplainsAlike, AreAlike, Pairs, LeavesSecond, Demonstrates, Checks, IsOfOnlyRun, CountsRise, answers_of, judged_answers}
use Rattle.rsml.specs.Promises as promises
use Rattle.rsml.specs.Steps.{HasObeyed}
use Rattle.rsml.specs.Version.{version_text}
use Rattle.rsml.specs.declared.command.Action.{Action}
use Rattle.rsml.specs.declared.command.Action.TheVariants as action
use Rattle.rsml.proofs.ActionLemmas.{acts_texts, of_action, long_is, read_is, write_is, memory_is}

same_some : {A : Type 0} (x y : A) → Some x ≡ Some y → x ≡ y
same_some x y e = ap (λ o. elim o [ Some z ↦ z | None ↦ x ]) e

-- What stands of any command.

-- its answer and what it wrote, by the contents of its files
abbrev AnswersOf : Meeting → Status → Type 0
AnswersOf m answer = Answers (Bytes → Bytes) (Tells m) (Output m.words) (SomeReadRefused m) (ReadFaultOutput m) m.sink answer

-- what holds of the files of a command alone that follows an event file
abbrev OfFollow : (Bytes → Bytes → Type 0) → Command → Type 0
OfFollow P (follow does file events) = P file events
OfFollow P _ = ⊤

-- what it left of other files and of the counts
pub record LeftOver (m : Meeting) (names : Bytes → Type 0) : Type 0 where
  pub others : (file : Bytes) → (names file → ⊥) → (m.file file).reach_after ≡ (m.file file).reach
  pub counts : CountsRise m

-- what it promises of two texts
pub record OfTexts (m : Meeting) (answer : Status) : Type 0 where
  pub proved : Proves m answer
  pub proof_explained : ExplainsProof m answer
  pub alike : FindsAlike m answer
  pub same_explained : ExplainsAlike m answer
  pub unread_second : LeavesSecond m

-- which is nothing, where the command is on no two texts
no_texts : (m : Meeting) (answer : Status) → ((does : PairAction) (file other : Bytes) → command_of m.words ≡ Some (pair does file other) → ⊥) → OfTexts m answer
no_texts m answer none = record {
  proved = λ e text other c. absurd (none pair_action.Prove c.file c.second c.command);
  proof_explained = λ e text other c. absurd (none pair_action.ExplainProve c.file c.second c.command);
  alike = λ e text other c. absurd (none pair_action.Same c.file c.second c.command);
  same_explained = λ e text other c. absurd (none pair_action.ExplainSame c.file c.second c.command);
  unread_second = λ does file other c. absurd (none does file other c);
}

module _ (m : Meeting) (answer : Status) (c : Command) (is : command_of m.words ≡ Some c) where
  -- of the command that the words are
  given : (P : Command → Type 0) → P c → (d : Command) → command_of m.words ≡ Some d → P d
  given P h d e = subst P (same_some c d (sym is ∙ e)) h

  named : (file : Bytes) → Names c file → ReadRefused (m.file file) → SomeReadRefused m
  named file n rose = (c, file, is, n, rose)

  -- its promises, from what it answered, and what each of them is of its kind
  all_runs : AnswersOf m answer → LeftOver m (Names c) → Contains (answers_of c) answer → answer ≢ status.Usage
      → Certifies m answer → Refuses m answer → ((does : EventAction) → TellsOnlyRun does m answer) → Tabulates m answer → ExplainsGaps m answer → OfTexts m answer
      → Demonstrates m answer
      → OfFollow (λ file events. file ≢ events → ((m.file events).reach_after ≡ (m.file events).reach) ⊎ IsFollowed (m.file file) (m.file events) answer) c
      → OfFollow (λ file events. answer ≡ status.EventFault → IsFollowed (m.file file) (m.file events) answer) c
      → Runs m answer
  all_runs h left fits no_usage certifies refuses tells tabulates explains texts demonstrates unread fault = record {
    answered = h.answered;
    usage = record { usage = λ none. absurd (cc (none, is)); only = λ e. absurd (no_usage e) };
    no_memory = h.no_memory;
    read_fault = h.read_fault;
    write_fault = h.write_fault;
    prefix = h.prefix;
    complete = complete (Bytes → Bytes) (Tells m) (Output m.words) (SomeReadRefused m) (ReadFaultOutput m) m.sink answer h;
    certified = certifies;
    refused = refuses;
    traced = tells event_action.Simulate;
    covered = tells event_action.Cover;
    cover_explained = tells event_action.ExplainCover;
    gapped = tabulates;
    gaps_explained = explains;
    proved = texts.proved;
    proof_explained = texts.proof_explained;
    alike = texts.alike;
    same_explained = texts.same_explained;
    demonstrated = demonstrates;
    others = λ file n. left.others file (λ names. n c is names);
    unread_events = λ does file events e.
        given (OfFollow (λ file events. file ≢ events → ((m.file events).reach_after ≡ (m.file events).reach) ⊎ IsFollowed (m.file file) (m.file events) answer))
        unread (follow does file events) e;
    unread_second = texts.unread_second;
    fits = record {
      command = given (λ d. Contains (answers_of d) answer) fits;
      event_fault = λ f does file events e.
          given (OfFollow (λ file events. answer ≡ status.EventFault → IsFollowed (m.file file) (m.file events) answer)) fault (follow does file events) e f;
    };
    counts = left.counts;
  }

-- A command that acts on one file.

-- the action of a command, and another's in its place
abbrev action_in : Action → Command → Action
action_in other (act does file) = does
action_in other _ = other

module _ (m : Meeting) (answer : Status) (does : Action) (file : Bytes) (is : command_of m.words ≡ Some (act does file))
    (h : HasObeyed (act does file) m.file m.sink answer) (left : LeftOver m (Names (act does file))) where
  names_file : Names (act does file) file
  names_file = commands.specification (act does file) file refl

  acted_answers : AnswersOf m answer
  acted_answers =
      acted (Bytes → Bytes) (Tells m) (Output m.words) (SomeReadRefused m) (ReadFaultOutput m) m.sink answer
      (ActionOutput does) (acts_texts does) (m.file file) (λ contents. contents file) (λ contents told. told (act does file) file is names_file)
      (λ contents wanted bytes o. output.acted does file is o) (named m answer (act does file) is file names_file)
      (λ contents rose. promises.ReadFaultOutput.specification (act does file, file, is, refl, rose) refl) h

  acted_fits : Contains (answers_of (act does file)) answer
  acted_fits =
      of_fits (ActionOutput does) (acts_texts does) (m.file file) m.sink answer (λ a. Contains (answers_of (act does file)) a) (of_action does file)
      (memory_is does file) (read_is does file) (write_is does file) (long_is does file) h

  action_usage : (text : Bytes) (wanted : Status) (bytes : Bytes) → ActionOutput does text wanted bytes → wanted ≢ status.Usage
  action_usage text wanted bytes o = ((acts_texts does).answers text wanted bytes o).no_usage

  acted_usage : answer ≢ status.Usage
  acted_usage =
      of_fits (ActionOutput does) (acts_texts does) (m.file file) m.sink answer (λ a. a ≢ status.Usage) action_usage
      (λ f. cc f) (λ f. cc f) (λ f. cc f) (λ f. cc f) h

  -- the command's file is the one that this action read
  same_action : (one : Action) (read text : Bytes) → command_of m.words ≡ Some (act one read) → (m.file read).told ≡ Some text
      → (does ≡ one) × ((m.file file).told ≡ Some text)
  same_action one read text command told =
      let same = same_some (act does file) (act one read) (sym is ∙ command) in
      (ap (action_in does) same, subst (λ (f : Bytes). (m.file f).told ≡ Some text) (sym (same_some file read (ap specification_file same))) told)

  output_of_action : (one : Action) (read text : Bytes) → command_of m.words ≡ Some (act one read) → (m.file read).told ≡ Some text
      → answer ≢ status.NoMemory → answer ≢ status.ReadFault → answer ≢ status.WriteFault
      → (bytes : Bytes) × ActionOutput one text answer bytes × Writes m.sink bytes
  output_of_action one read text command told no_memory no_read no_write =
      let is = same_action one read text command told in
      let o = of_told (ActionOutput does) (acts_texts does) (m.file file) m.sink answer h no_memory no_read no_write text is.1 in
      (o.0, subst (λ (a : Action). ActionOutput a text answer o.0) is.0 o.1, o.2)

  output_on : (text : Bytes) → Checks m text → answer ≢ status.NoMemory → answer ≢ status.ReadFault → answer ≢ status.WriteFault
      → (bytes : Bytes) × ActionOutput action.Check text answer bytes × Writes m.sink bytes
  output_on text c = output_of_action action.Check c.file text c.command c.told

  certifies : Certifies m answer
  certifies e text c =
      let o = output_on text c (λ f. absurd (cc (e, f))) (λ f. absurd (cc (e, f))) (λ f. absurd (cc (e, f))) in
      let r = certified_output text answer o.0 e o.1 in
      (r.0, o.0, r.1, r.2, o.2)

  refuses : Refuses m answer
  refuses e text c =
      let o = output_on text c (λ f. absurd (cc (e, f))) (λ f. absurd (cc (e, f))) (λ f. absurd (cc (e, f))) in
      let r = refused_output text answer o.0 e o.1 in
      (r.0, o.0, r.1, r.2, o.2)

  tabulates : Tabulates m answer
  tabulates (inl e) most text c =
      let o = output_of_action (action.Gaps most) c.file text c.command c.told (λ f. absurd (cc (e, f))) (λ f. absurd (cc (e, f))) (λ f. absurd (cc (e, f))) in
      let r = gapping.done_output most text answer o.0 e o.1 in
      (r.0, o.0, r.1, r.2, o.2)
  tabulates (inr e) most text c =
      let o = output_of_action (action.Gaps most) c.file text c.command c.told (λ f. absurd (cc (e, f))) (λ f. absurd (cc (e, f))) (λ f. absurd (cc (e, f))) in
      let r = gapping.refused_output most text answer o.0 e o.1 in
      (r.0, o.0, r.1, r.2, o.2)

  explains_gaps : ExplainsGaps m answer
  explains_gaps (inl e) most text c =
      let o = output_of_action (action.ExplainGaps most) c.file text c.command c.told (λ f. absurd (cc (e, f))) (λ f. absurd (cc (e, f))) (λ f. absurd (cc (e, f))) in
      let r = done_explained most text answer o.0 e o.1 in
      (r.0, o.0, r.1, r.2, o.2)
  explains_gaps (inr e) most text c =
      let o = output_of_action (action.ExplainGaps most) c.file text c.command c.told (λ f. absurd (cc (e, f))) (λ f. absurd (cc (e, f))) (λ f. absurd (cc (e, f))) in
      let r = refused_explained most text answer o.0 e o.1 in
      (r.0, o.0, r.1, r.2, o.2)

  runs_action : Runs m answer
  runs_action =
      all_runs m answer (act does file) is acted_answers left acted_fits acted_usage certifies refuses
      (λ action e text content c. absurd (cc (is, c.command))) tabulates explains_gaps (no_texts m answer (λ one read other c. absurd (cc (is, c))))
      (λ e n c. absurd (cc (is, c))) tt tt

-- A command that follows an event file.

fault_not_done : (f : FileFault) → status_of (end_of f) ≢ status.Done
fault_not_done (long_line n) e = cc e
fault_not_done (broken_line n rule) e = cc e
fault_not_done long_file e = cc e

-- where it ends with Done, what it writes of the only run was written
of_only_run : (does : EventAction) (s : Spec) (content : Bytes) (ended : SimEnd) (report text : Bytes) → status_of ended ≡ status.Done
    → IsCertifiedText text s → events_file.Output (texts_of does) s program_limits content ended report
    → (bytes : Bytes) → Shows does (λ b. b ≡ report) bytes → IsOfOnlyRun does s content bytes
of_only_run does s content ended report text e c (done rs formed is_run _ is) bytes shown =
    let one = c.deterministic.one_run content formed in
    let whole = (texts_of does).whole s rs in
    record {
      well_formed = formed;
      run = rs;
      is_run = is_run;
      only = λ other r. one.only other r ∙ sym (one.only rs is_run);
      text = shown_as does (λ b. b ≡ report) (λ b. b ≡ whole) (λ b f. f ∙ is) bytes shown;
    }
of_only_run does s content ended report text e c (faulty f rs _ _ is _) bytes shown = absurd (fault_not_done f (ap status_of (sym is) ∙ e))

-- what a report that ends with Done is of: whatever is shown of it is of the only run
report_done : (does : EventAction) (text content : Bytes) (answer : Status) (report : Bytes) → answer ≡ status.Done
    → FollowOutput does text content answer report
    → (s : Spec) × IsCertifiedText text s × ((bytes : Bytes) → Shows does (λ b. b ≡ report) bytes → IsOfOnlyRun does s content bytes)
report_done does text content answer report e (following.checked not_done _) = absurd (not_done e)
report_done does text content answer report e (following.FollowOutput.followed s ended c o is) =
    (s, c, of_only_run does s content ended report text (sym is ∙ e) c o)

done_output : (does : EventAction) (text content : Bytes) (answer : Status) (bytes : Bytes) → answer ≡ status.Done
    → EventOutput does text content answer bytes → (s : Spec) × IsCertifiedText text s × IsOfOnlyRun does s content bytes
done_output event_action.Simulate text content answer bytes e h =
    let r = report_done event_action.Simulate text content answer bytes e h in (r.0, r.1, r.2 bytes refl)
done_output event_action.Cover text content answer bytes e h =
    let r = report_done event_action.Cover text content answer bytes e h in (r.0, r.1, r.2 bytes refl)
done_output event_action.ExplainCover text content answer bytes e h =
    let r = report_done event_action.ExplainCover text content answer h.report e h.reported in
    (r.0, r.1, r.2 bytes (record { report = h.report; notes = h.notes; split = h.split; reported = refl; comments = h.comments }))

abbrev events_of : Bytes → Command → Bytes
events_of other (follow does file events) = events
events_of other _ = other

-- the action of a command on an event file, and another's in its place
abbrev event_action_in : EventAction → Command → EventAction
event_action_in other (follow does file events) = does
event_action_in other _ = other

module _ (m : Meeting) (answer : Status) (does : EventAction) (file events : Bytes) (is : command_of m.words ≡ Some (follow does file events))
    (h : HasFollowed does file events m.file m.sink answer) (left : LeftOver m (Names (follow does file events))) where
  names_specification : Names (follow does file events) file
  names_specification = commands.specification (follow does file events) file refl

  specification_unread : (contents : Bytes → Bytes) → ReadRefused (m.file file) → ReadFaultOutput m contents lines.read
  specification_unread contents rose = promises.ReadFaultOutput.specification (follow does file events, file, is, refl, rose) refl

  events_are_unread : (contents : Bytes → Bytes) (bytes : Bytes)
      → EventsUnread does file events (m.file events) (contents file) (contents events) bytes → ReadFaultOutput m contents bytes
  events_are_unread contents bytes u =
      promises.ReadFaultOutput.events events u.read (record { does = does; file = file; command = is; refused = u.refused; reach = u.reach })
      (record { does = does; file = file; command = is; spec = u.spec; certified = u.certified; output = u.output })

  followed_answers : AnswersOf m answer
  followed_answers =
      followed (Bytes → Bytes) (Tells m) (Output m.words) (SomeReadRefused m) (ReadFaultOutput m) does m.sink answer file events m.file
      (λ contents. contents file) (λ contents. contents events) (λ contents told. told (follow does file events) file is names_specification)
      (λ contents told. told (follow does file events) events is (commands.events does file events))
      (λ contents wanted bytes o. output.Output.followed does file events is o) (named m answer (follow does file events) is file names_specification)
      (named m answer (follow does file events) is events (commands.events does file events)) specification_unread events_are_unread h

  -- of a text and the contents of an event file that were told
  output_of : (text content : Bytes) → (m.file file).told ≡ Some text → (m.file events).told ≡ Some content → answer ≢ status.NoMemory
      → answer ≢ status.ReadFault → answer ≢ status.WriteFault → (bytes : Bytes) × EventOutput does text content answer bytes × Writes m.sink bytes
  output_of text content told told_events no_memory no_read no_write =
      let all =
      followed Bytes (λ c. (m.file events).told ≡ Some c) (λ c. EventOutput does text c) (ReadRefused (m.file file) ⊎ ReadRefused (m.file events)) (λ c bytes. ⊤)
      does m.sink answer file events m.file (λ c. text) (λ c. c) (λ c _. told) (λ c t. t) (λ c wanted bytes o. o) (λ r. inl r) (λ r. inr r) (λ c r. tt)
      (λ c bytes u. tt) h in
      all.answered no_memory no_read no_write content told_events

  tells : (action : EventAction) → TellsOnlyRun action m answer
  tells action e text content c =
      let same = same_some (follow does file events) (follow action c.file c.events) (sym is ∙ c.command) in
      let of_file = subst (λ (f : Bytes). (m.file f).told ≡ Some text) (sym (same_some file c.file (ap specification_file same))) c.told in
      let of_events = subst (λ (f : Bytes). (m.file f).told ≡ Some content) (sym (ap (events_of events) same)) c.told_events in
      let o = output_of text content of_file of_events (λ f. absurd (cc (e, f))) (λ f. absurd (cc (e, f))) (λ f. absurd (cc (e, f))) in
      let r = done_output does text content answer o.0 e o.1 in
      (r.0, o.0, r.1, subst (λ (a : EventAction). IsOfOnlyRun a r.0 content o.0) (ap (event_action_in does) same) r.2, o.2)

  all_but_usage : (a : Status) → answer ≡ a → answer ≢ status.Usage → Contains (answers_of (follow does file events)) answer
  all_but_usage status.EventFault e _ = (0, lit< tt, sym e)
  all_but_usage status.Done e _ = (1, lit< tt, sym e)
  all_but_usage status.Refused e _ = (2, lit< tt, sym e)
  all_but_usage status.SpecFault e _ = (3, lit< tt, sym e)
  all_but_usage status.TooLong e _ = (4, lit< tt, sym e)
  all_but_usage status.ReadFault e _ = (5, lit< tt, sym e)
  all_but_usage status.WriteFault e _ = (6, lit< tt, sym e)
  all_but_usage status.NoMemory e _ = (7, lit< tt, sym e)
  all_but_usage status.Usage e n = absurd (n e)

  runs_following : Runs m answer
  runs_following =
      let no_usage = never_usage_of does file events m.file m.sink answer h in
      all_runs m answer (follow does file events) is followed_answers left (all_but_usage answer refl no_usage) no_usage
      (λ e text c. absurd (cc (is, c.command))) (λ e text c. absurd (cc (is, c.command))) tells (λ e most text c. absurd (cc (is, c.command)))
      (λ e most text c. absurd (cc (is, c.command))) (no_texts m answer (λ one read other c. absurd (cc (is, c))))
      (λ e n c. absurd (cc (is, c))) (leaves_events does file events m.file m.sink answer h) (event_fault does file events m.file m.sink answer h)

-- A command on two texts.

-- the second file of a command, and another in its place
abbrev second_of : Bytes → Command → Bytes
second_of otherwise (pair does file other) = other
second_of otherwise _ = otherwise

-- the action of a command on two texts, and another's in its place
abbrev pair_action_in : PairAction → Command → PairAction
pair_action_in otherwise (pair does file other) = does
pair_action_in otherwise _ = otherwise

module _ (m : Meeting) (answer : Status) (does : PairAction) (file other : Bytes) (is : command_of m.words ≡ Some (pair does file other))
    (h : HasPaired does file other m.file m.sink answer) (left : LeftOver m (Names (pair does file other))) where
  names_first : Names (pair does file other) file
  names_first = commands.specification (pair does file other) file refl

  first_unread : (contents : Bytes → Bytes) → ReadRefused (m.file file) → ReadFaultOutput m contents lines.read
  first_unread contents rose = promises.ReadFaultOutput.specification (pair does file other, file, is, refl, rose) refl

  second_unread : (contents : Bytes → Bytes) (s : Spec) → IsKeptText (contents file) s → ReadRefused (m.file other) → ReadFaultOutput m contents lines.read
  second_unread contents s kept rose =
      promises.ReadFaultOutput.second (record { does = does; file = file; other = other; command = is; spec = s; kept = kept; refused = rose }) refl

  paired_answers : AnswersOf m answer
  paired_answers =
      paired (Bytes → Bytes) (Tells m) (Output m.words) (SomeReadRefused m) (ReadFaultOutput m) does m.sink answer file other m.file
      (λ contents. contents file) (λ contents. contents other) (λ contents told. told (pair does file other) file is names_first)
      (λ contents told. told (pair does file other) other is (commands.other does file other))
      (λ contents wanted bytes o. output.Output.paired does file other is o) (named m answer (pair does file other) is file names_first)
      (named m answer (pair does file other) is other (commands.other does file other)) first_unread second_unread h

  -- of two texts that were told
  output_of_texts : (text content : Bytes) → (m.file file).told ≡ Some text → (m.file other).told ≡ Some content → answer ≢ status.NoMemory
      → answer ≢ status.ReadFault → answer ≢ status.WriteFault → (bytes : Bytes) × PairOutput does text content answer bytes × Writes m.sink bytes
  output_of_texts text content told told_second no_memory no_read no_write =
      let all =
      paired Bytes (λ c. (m.file other).told ≡ Some c) (λ c. PairOutput does text c) (ReadRefused (m.file file) ⊎ ReadRefused (m.file other)) (λ c bytes. ⊤)
      does m.sink answer file other m.file (λ c. text) (λ c. c) (λ c _. told) (λ c t. t) (λ c wanted bytes o. o) (λ r. inl r) (λ r. inr r) (λ c r. tt)
      (λ c s kept r. tt) h in
      all.answered no_memory no_read no_write content told_second

  -- of the action that the words ask for
  output_done : (one : PairAction) (text content : Bytes) → Pairs m one text content → answer ≡ status.Done
      → (bytes : Bytes) × PairOutput one text content answer bytes × Writes m.sink bytes
  output_done one text content c e =
      let same = same_some (pair does file other) (pair one c.file c.second) (sym is ∙ c.command) in
      let of_file = subst (λ (f : Bytes). (m.file f).told ≡ Some text) (sym (same_some file c.file (ap specification_file same))) c.told in
      let of_other = subst (λ (f : Bytes). (m.file f).told ≡ Some content) (sym (ap (second_of other) same)) c.told_second in
      let o = output_of_texts text content of_file of_other (λ f. absurd (cc (e, f))) (λ f. absurd (cc (e, f))) (λ f. absurd (cc (e, f))) in
      (o.0, subst (λ (a : PairAction). PairOutput a text content answer o.0) (ap (pair_action_in does) same) o.1, o.2)

  pairs_fit : (Fits : Status → Type 0) → Fits status.Done → Fits status.Refused → Fits status.SpecFault → Fits status.TooLong → Fits status.ReadFault
      → Fits status.WriteFault → Fits status.NoMemory → Fits answer
  pairs_fit Fits of_done of_refused of_fault of_long of_read of_write of_memory =
      paired_fits does file other m.file m.sink answer Fits (of_pair Fits of_done of_refused of_fault of_long) of_memory of_read of_write of_long h

  module _ (proofs : DoneIsProved) (comparisons : SameIsAlike) where
    proves : Proves m answer
    proves e text content c =
        let o = output_done pair_action.Prove text content c e in
        let r = proved_output proofs text content answer o.0 e o.1 in
        (r.0, r.1, o.0, r.2, r.3, r.4, r.5, o.2)

    explains_proof : ExplainsProof m answer
    explains_proof e text content c =
        let o = output_done pair_action.ExplainProve text content c e in
        let r = explained_proof_output proofs text content answer o.0 e o.1 in
        (r.0, r.1, o.0, r.2, r.3, r.4, r.5, o.2)

    are_alike : (s : Spec) (content : Bytes) (r : ReadsAsAlike s content) → AreAlike s r.second
    are_alike s content r = record { one = r.one; two = r.two; traced = λ events. r.traced program_limits events }

    finds_alike : FindsAlike m answer
    finds_alike e text content c =
        let o = output_done pair_action.Same text content c e in
        let r = same_output comparisons text content answer o.0 e o.1 in
        (r.0, r.2.second, o.0, r.1, r.2.is_text, are_alike r.0 content r.2, r.3, o.2)

    explains_alike : ExplainsAlike m answer
    explains_alike e text content c =
        let o = output_done pair_action.ExplainSame text content c e in
        let r = explained_same_output comparisons text content answer o.0 e o.1 in
        (r.0, r.2.second, o.0, r.1, r.2.is_text, are_alike r.0 content r.2, r.3, o.2)

    -- the files of a command are these
    same_files : (one : PairAction) (f second : Bytes) → command_of m.words ≡ Some (pair one f second) → (file ≡ f) × (other ≡ second)
    same_files one f second c =
        let same = same_some (pair does file other) (pair one f second) (sym is ∙ c) in
        (same_some file f (ap specification_file same), ap (second_of other) same)

    leaves : LeavesSecond m
    leaves one f second c apart =
        let same = same_files one f second c in
        let left = leaves_second does file other m.file m.sink answer h (λ e. apart (sym same.0 ∙ e ∙ same.1)) in
        subst (λ (x : Bytes). ((m.file second).reach_after ≡ (m.file second).reach) ⊎ IsKeptFile (m.file x)) same.0
        (subst (λ (x : Bytes). ((m.file x).reach_after ≡ (m.file x).reach) ⊎ IsKeptFile (m.file file)) same.1 left)

    runs_pair : Runs m answer
    runs_pair =
        all_runs m answer (pair does file other) is paired_answers left
        (pairs_fit (λ a. Contains judged_answers a) (0, lit< tt, refl) (1, lit< tt, refl) (2, lit< tt, refl) (3, lit< tt, refl) (4, lit< tt, refl) (5, lit< tt, refl)
        (6, lit< tt, refl))
        (pairs_fit (λ a. a ≢ status.Usage) (λ f. cc f) (λ f. cc f) (λ f. cc f) (λ f. cc f) (λ f. cc f) (λ f. cc f) (λ f. cc f))
        (λ e text c. absurd (cc (is, c.command))) (λ e text c. absurd (cc (is, c.command))) (λ action e text content c. absurd (cc (is, c.command)))
        (λ e most text c. absurd (cc (is, c.command))) (λ e most text c. absurd (cc (is, c.command)))
        (record { proved = proves; proof_explained = explains_proof; alike = finds_alike; same_explained = explains_alike; unread_second = leaves })
        (λ e n c. absurd (cc (is, c))) tt tt

-- `demo`.

-- the units of a command, or others in their place
abbrev units_in : ℕ → Command → ℕ
units_in other (demo n) = n
units_in other _ = other

module _ (m : Meeting) (answer : Status) (n : ℕ) (is : command_of m.words ≡ Some (demo n))
    (h : HasDemonstrated n m.sink answer) (left : LeftOver m (Names (demo n))) where
  demo_answers : AnswersOf m answer
  demo_answers =
      demonstrated n m.sink answer (Bytes → Bytes) (Tells m) (Output m.words) (SomeReadRefused m) (ReadFaultOutput m)
      (λ contents bytes s. output.demonstrated n is refl s) h

  -- its summary, of nothing
  summary : answer ≡ status.Done → (bytes : Bytes) × IsSummary n bytes × Writes m.sink bytes
  summary e =
      let all = demonstrated n m.sink answer Status (λ a. ⊤) (λ a wanted bytes. IsSummary n bytes) ⊤ (λ a bytes. ⊤) (λ a bytes s. s) h in
      all.answered (λ f. absurd (cc (e, f))) (λ f. absurd (cc (e, f))) (λ f. absurd (cc (e, f))) answer tt

  demonstrates : Demonstrates m answer
  demonstrates e k c =
      let units : n ≡ k = ap (units_in n) (same_some (demo n) (demo k) (sym is ∙ c)) in
      let o = summary e in
      (o.0, subst (λ (u : ℕ). IsSummary u o.0) units o.1, o.2)

  runs_demo : Runs m answer
  runs_demo =
      all_runs m answer (demo n) is demo_answers left
      (demonstrated_fits n m.sink answer (λ a. Contains (answers_of (demo n)) a) (0, lit< tt, refl) (2, lit< tt, refl) (1, lit< tt, refl) h)
      (demonstrated_fits n m.sink answer (λ a. a ≢ status.Usage) (λ f. cc f) (λ f. cc f) (λ f. cc f) h)
      (λ e text c. absurd (cc (is, c.command))) (λ e text c. absurd (cc (is, c.command))) (λ action e text content c. absurd (cc (is, c.command)))
      (λ e most text c. absurd (cc (is, c.command))) (λ e most text c. absurd (cc (is, c.command)))
      (no_texts m answer (λ one read other c. absurd (cc (is, c)))) demonstrates tt tt

-- `version`.

module _ (m : Meeting) (answer : Status) (is : command_of m.words ≡ Some version) (w : HasWritten m.sink version_text status.Done answer)
    (left : LeftOver m (Names version)) where
  runs_version : Runs m answer
  runs_version =
      all_runs m answer version is
      (wrote (Bytes → Bytes) (Tells m) (Output m.words) (SomeReadRefused m) (ReadFaultOutput m) m.sink answer status.Done version_text w
      (λ f. absurd (cc f)) (λ f. absurd (cc f)) (λ contents _. output.versioned is refl refl)) left
      (written_fits (λ a. Contains (answers_of version) a) m.sink version_text status.Done answer w (0, lit< tt, refl) (1, lit< tt, refl))
      (written_fits (λ a. a ≢ status.Usage) m.sink version_text status.Done answer w (λ f. cc f) (λ f. cc f))
      (λ e text c. absurd (cc (is, c.command))) (λ e text c. absurd (cc (is, c.command))) (λ action e text content c. absurd (cc (is, c.command)))
      (λ e most text c. absurd (cc (is, c.command))) (λ e most text c. absurd (cc (is, c.command)))
      (no_texts m answer (λ one read other c. absurd (cc (is, c)))) (λ e n c. absurd (cc (is, c))) tt tt

-- what `run` promises, from what the command that the words are leaves
pub runs_command : DoneIsProved → SameIsAlike → (m : Meeting) (answer : Status) (c : Command) → command_of m.words ≡ Some c → HasObeyed c m.file m.sink answer
    → LeftOver m (Names c) → Runs m answer
runs_command proofs comparisons m answer (act does file) is h left = runs_action m answer does file is h left
runs_command proofs comparisons m answer (follow does file events) is h left = runs_following m answer does file events is h left
runs_command proofs comparisons m answer (pair does file other) is h left = runs_pair m answer does file other is h left proofs comparisons
runs_command proofs comparisons m answer (demo n) is h left = runs_demo m answer n is h left
runs_command proofs comparisons m answer version is h left = runs_version m answer is h left

-- Words that are no command.

module _ (m : Meeting) (answer : Status) (none : command_of m.words ≡ None) (w : HasWritten m.sink lines.usage status.Usage answer)
    (left : LeftOver m (λ file. ⊥)) where
  usage_answers : AnswersOf m answer
  usage_answers =
      wrote (Bytes → Bytes) (Tells m) (Output m.words) (SomeReadRefused m) (ReadFaultOutput m) m.sink answer status.Usage lines.usage w
      (λ f. absurd (cc f)) (λ f. absurd (cc f)) (λ contents _. output.no_command none refl refl)

  -- it is Usage, or tells of a refused write
  either : (answer ≡ status.Usage) ⊎ (answer ≡ status.WriteFault)
  either = written_fits (λ a. (a ≡ status.Usage) ⊎ (a ≡ status.WriteFault)) m.sink lines.usage status.Usage answer w (inl refl) (inr refl)

  no_two : OfTexts m answer
  no_two = no_texts m answer (λ does file other c. absurd (cc (none, c)))

  pub runs_usage : Runs m answer
  runs_usage = record {
    answered = usage_answers.answered;
    usage = record { usage = λ _. either; only = λ e. (none, (w.all (λ f. absurd (cc (e, f)))).1) };
    no_memory = usage_answers.no_memory;
    read_fault = usage_answers.read_fault;
    write_fault = usage_answers.write_fault;
    prefix = usage_answers.prefix;
    complete = complete (Bytes → Bytes) (Tells m) (Output m.words) (SomeReadRefused m) (ReadFaultOutput m) m.sink answer usage_answers;
    certified = λ e text c. absurd (cc (none, c.command));
    refused = λ e text c. absurd (cc (none, c.command));
    traced = λ e text content c. absurd (cc (none, c.command));
    covered = λ e text content c. absurd (cc (none, c.command));
    cover_explained = λ e text content c. absurd (cc (none, c.command));
    gapped = λ e most text c. absurd (cc (none, c.command));
    gaps_explained = λ e most text c. absurd (cc (none, c.command));
    proved = no_two.proved;
    proof_explained = no_two.proof_explained;
    alike = no_two.alike;
    same_explained = no_two.same_explained;
    demonstrated = λ e n c. absurd (cc (none, c));
    others = λ file _. left.others file (λ f. f);
    unread_events = λ does file events c. absurd (cc (none, c));
    unread_second = no_two.unread_second;
    fits = record { command = λ c e. absurd (cc (none, e)); event_fault = λ _ does file events c. absurd (cc (none, c)) };
    counts = left.counts;
  }
