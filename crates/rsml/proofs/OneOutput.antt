-- What a command answers and writes is one thing.
use Rattle.std.proofs.Common.{◌≡◌, ℕ, List, Option, Some, None, length, refl, sym, ap, ◌∙◌, subst}
use Rattle.std.specs.Prelude.{◌++◌}
use Rattle.rsml_meaning.specs.RunLaws.{LastLineIsVerdict, LinesHaveOneRun}
use Rattle.rsml_lexer.specs.Laws.{AtMostOneTokenList, AtMostOneFirstFault, NeverBoth}
use Rattle.rsml_meaning.specs.Certified.{Certified}
use Rattle.rsml_meaning.specs.EventFiles.{Line, program_limits, FileFault, IsWellFormed, IsFirstFault, lines_of, sound_lines}
use Rattle.rsml_meaning.specs.EventLines.{Bytes}
use Rattle.rsml_meaning.specs.Laws.{ReportIsOne, WellFormedHasNoFault, FirstFaultIsOfLine}
use Rattle.rsml_meaning.specs.Runs.{Reaction, IsRun}
use Rattle.rsml_parser.specs.Laws.{HasOneAnswer}
use Rattle.rsml_meaning.specs.ScopeLaws.{RulesGiveScopes}
use Rattle.rsml_syntax.specs.declared.syntax.Spec.{Spec}
use Rattle.rsml_syntax.specs.limits.Limits.{Keeps}
use Rattle.simulator.specs.Outputs.{RunTexts, end_of, fault_line, done, faulty}
use Rattle.simulator.specs.Outputs as events_file
use Rattle.simulator.specs.declared.sim_end.SimEnd.{SimEnd}
use Rattle.simulator.specs.declared.sim_end.SimEnd.TheVariants as end
use Rattle.world_columns.specs.Laws.{GapsAreOne}
use Rattle.judging.proofs.OneText.{one_text}
use Rattle.answering.specs.Lines as lines
use Rattle.answering.specs.declared.status.Status.{Status}
use Rattle.answering.specs.declared.status.Status.TheVariants as status
use Rattle.checking.proofs.OneCheck.{AreOne, one_check, one_format, one_migrate, check_is_done}
use Rattle.explaining.specs.Outputs.{ExplainOutput}
use Rattle.following.specs.Outputs.{EventOutput, FollowOutput, status_of, texts_of}
use Rattle.following.specs.Outputs as following
use Rattle.following.specs.declared.event_action.EventAction.{EventAction}
use Rattle.following.specs.declared.event_action.EventAction.TheVariants as event_action
use Rattle.gapping.specs.Explained.{ExplainGapsOutput}
use Rattle.gapping.proofs.OneGaps.{one_gaps}
use Rattle.comparing.specs.Laws.{SameIsOne}
use Rattle.proving.specs.Laws.{ProveIsOne}
use Rattle.pairing.specs.Outputs.{PairOutput}
use Rattle.pairing.specs.declared.pair_action.PairAction.{PairAction}
use Rattle.pairing.specs.declared.pair_action.PairAction.TheVariants as pair_action
use Rattle.pairing.proofs.OnePair.{one_pair}
use Rattle.demonstrating.specs.Summary.{IsSummary}
use Rattle.demonstrating.proofs.SummaryLemmas.{one_summary}
use Rattle.rsml.specs.Commands.{Command, act, follow, pair, demo, version, command_of}
use Rattle.rsml.specs.Laws.{OutputIsOne, AreSame, whole, explained, explained_cover, explained_gaps, explained_prove, explained_same}
use Rattle.rsml.specs.Output.{ActionOutput, Output, no_command, acted, demonstrated, versioned}
use Rattle.rsml.specs.Output as output
use Rattle.rsml.specs.Version.{version_text}
use Rattle.rsml.specs.declared.command.Action.{Action}
use Rattle.rsml.specs.declared.command.Action.TheVariants as action

are_same : (words : List Bytes) (a b : Status) (xs ys : Bytes) → AreOne a xs b ys → (a ≡ b) × AreSame words xs ys
are_same words a b xs ys one = (one.0, whole one.1)

-- what words come to
abbrev OfWords : (Bytes → Bytes) → Option Command → Status → Bytes → Type 0
OfWords contents None answer bytes = (answer ≡ status.Usage) × (bytes ≡ lines.usage)
OfWords contents (Some (act does file)) answer bytes = ActionOutput does (contents file) answer bytes
OfWords contents (Some (follow does file events)) answer bytes = EventOutput does (contents file) (contents events) answer bytes
OfWords contents (Some (pair does file other)) answer bytes = PairOutput does (contents file) (contents other) answer bytes
OfWords contents (Some (demo n)) answer bytes = (answer ≡ status.Done) × IsSummary n bytes
OfWords contents (Some version) answer bytes = (answer ≡ status.Done) × (bytes ≡ version_text)

of_words : (words : List Bytes) (contents : Bytes → Bytes) (answer : Status) (bytes : Bytes) → Output words contents answer bytes
    → OfWords contents (command_of words) answer bytes
of_words words contents answer bytes (no_command is e h) = subst (λ (c : Option Command). OfWords contents c answer bytes) (sym is) (e, h)
of_words words contents answer bytes (acted does file is o) = subst (λ (c : Option Command). OfWords contents c answer bytes) (sym is) o
of_words words contents answer bytes (output.Output.followed does file events is o) = subst (λ (c : Option Command). OfWords contents c answer bytes) (sym is) o
of_words words contents answer bytes (output.Output.paired does file other is o) = subst (λ (c : Option Command). OfWords contents c answer bytes) (sym is) o
of_words words contents answer bytes (demonstrated n is e h) = subst (λ (c : Option Command). OfWords contents c answer bytes) (sym is) (e, h)
of_words words contents answer bytes (versioned is e h) = subst (λ (c : Option Command). OfWords contents c answer bytes) (sym is) (e, h)

same_some : {A : Type 0} (x y : A) → Some x ≡ Some y → x ≡ y
same_some x y e = ap (λ o. elim o [ Some z ↦ z | None ↦ x ]) e

-- Following an event file.

module _ (no_fault : WellFormedHasNoFault) (of_line : FirstFaultIsOfLine) (scopes : RulesGiveScopes) (runs : LinesHaveOneRun)
    (s : Spec) (keeps : Keeps s) (certified : Certified s) where
  one_run : (ls : List Line) (rs qs : List Reaction) → IsRun s ls rs → IsRun s ls qs → rs ≡ qs
  one_run ls rs qs h k = let one = runs s ls (scopes s keeps.rules) certified in one.only rs h ∙ sym (one.only qs k)

  sound_not_faulty : (content : Bytes) (f : FileFault) → IsWellFormed s program_limits content → IsFirstFault s program_limits content f → ⊥
  sound_not_faulty content f h k =
      let none = (no_fault s program_limits content).1 h in
      let some = (of_line s program_limits content f).1 k in
      cc (none, some)

  one_file_fault : (content : Bytes) (f g : FileFault) → IsFirstFault s program_limits content f → IsFirstFault s program_limits content g
      → f ≡ g
  one_file_fault content f g h k =
      same_some f g (sym ((of_line s program_limits content f).1 h) ∙ (of_line s program_limits content g).1 k)

  one_following : (texts : RunTexts) (content : Bytes) (a b : SimEnd) (xs ys : Bytes) → events_file.Output texts s program_limits content a xs
      → events_file.Output texts s program_limits content b ys → (a ≡ b) × (xs ≡ ys)
  one_following texts content a b xs ys (done rs w r e h) (done qs v q f k) =
      let same = one_run (lines_of content) rs qs r q in
      (e ∙ ap (λ (x : List Reaction). end.Ended (length x)) same ∙ sym f, h ∙ ap (texts.whole s) same ∙ sym k)
  one_following texts content a b xs ys (done rs w r e h) (faulty g qs i q f k) = absurd (sound_not_faulty content g w i)
  one_following texts content a b xs ys (faulty g rs i r e h) (done qs w q f k) = absurd (sound_not_faulty content g w i)
  one_following texts content a b xs ys (faulty g rs i r e h) (faulty d qs j q f k) =
      let same = one_run (sound_lines s program_limits content) rs qs r q in
      let fault = one_file_fault content g d i j in (
        e ∙ ap end_of fault ∙ sym f,
        h ∙ ap (λ (x : List Reaction). texts.before s x ++ fault_line g) same
            ∙ ap (λ (x : FileFault). texts.before s qs ++ fault_line x) fault ∙ sym k,
      )

-- Commands that act on one file.

module _ (faults : AtMostOneFirstFault) (lists : AtMostOneTokenList) (never : NeverBoth) (answers : HasOneAnswer) where
  one_explain : ReportIsOne → (words : List Bytes) (file text : Bytes) → command_of words ≡ Some (act action.Explain file)
      → (a b : Status) (xs ys : Bytes) → ExplainOutput text a xs → ExplainOutput text b ys → (a ≡ b) × AreSame words xs ys
  one_explain one words file text is a b xs ys o p =
      let same = one_check faults lists never answers one text a b o.report p.report o.reported p.reported in
      (same.0, explained file o.report o.notes p.notes is o.split (p.split ∙ ap (λ zs. zs ++ p.notes) (sym same.1)) o.comments p.comments)

  one_explained_gaps : GapsAreOne → (most : ℕ) (words : List Bytes) (file text : Bytes) → command_of words ≡ Some (act (action.ExplainGaps most) file)
      → (a b : Status) (xs ys : Bytes) → ExplainGapsOutput most text a xs → ExplainGapsOutput most text b ys → (a ≡ b) × AreSame words xs ys
  one_explained_gaps gaps most words file text is a b xs ys o p =
      let same = one_gaps gaps faults lists never answers most text a b o.report p.report o.reported p.reported in
      (same.0, explained_gaps most file o.report o.notes p.notes is o.split (p.split ∙ ap (λ zs. zs ++ p.notes) (sym same.1)) o.comments p.comments)

  one_action : ReportIsOne → GapsAreOne → (does : Action) (words : List Bytes) (file text : Bytes) → command_of words ≡ Some (act does file)
      → (a b : Status) (xs ys : Bytes) → ActionOutput does text a xs → ActionOutput does text b ys → (a ≡ b) × AreSame words xs ys
  one_action one gaps action.Check words file text is a b xs ys o p = are_same words a b xs ys (one_check faults lists never answers one text a b xs ys o p)
  one_action one gaps action.Explain words file text is a b xs ys o p = one_explain one words file text is a b xs ys o p
  one_action one gaps action.Format words file text is a b xs ys o p = are_same words a b xs ys (one_format faults lists never answers text a b xs ys o p)
  one_action one gaps action.Migrate words file text is a b xs ys o p = are_same words a b xs ys (one_migrate faults lists never answers text a b xs ys o p)
  one_action one gaps (action.Gaps most) words file text is a b xs ys o p = are_same words a b xs ys (one_gaps gaps faults lists never answers most text a b xs ys o p)
  one_action one gaps (action.ExplainGaps most) words file text is a b xs ys o p = one_explained_gaps gaps most words file text is a b xs ys o p

  -- Commands on two texts.

  one_of_texts : ProveIsOne → SameIsOne → (does : PairAction) (words : List Bytes) (file other text content : Bytes) → command_of words ≡ Some (pair does file other)
      → (a b : Status) (xs ys : Bytes) → PairOutput does text content a xs → PairOutput does text content b ys → (a ≡ b) × AreSame words xs ys
  one_of_texts proofs comparisons pair_action.Prove words file other text content is a b xs ys o p =
      are_same words a b xs ys (one_pair faults lists never answers proofs comparisons pair_action.Prove text content a b xs ys o p)
  one_of_texts proofs comparisons pair_action.ExplainProve words file other text content is a b xs ys o p =
      let same = one_pair faults lists never answers proofs comparisons pair_action.ExplainProve text content a b o.report p.report o.reported p.reported in
      (same.0, explained_prove file other o.report o.notes p.notes is o.split (p.split ∙ ap (λ zs. zs ++ p.notes) (sym same.1)) o.comments p.comments)
  one_of_texts proofs comparisons pair_action.Same words file other text content is a b xs ys o p =
      are_same words a b xs ys (one_pair faults lists never answers proofs comparisons pair_action.Same text content a b xs ys o p)
  one_of_texts proofs comparisons pair_action.ExplainSame words file other text content is a b xs ys o p =
      let same = one_pair faults lists never answers proofs comparisons pair_action.ExplainSame text content a b o.report p.report o.reported p.reported in
      (same.0, explained_same file other o.report o.notes p.notes is o.split (p.split ∙ ap (λ zs. zs ++ p.notes) (sym same.1)) o.comments p.comments)

  -- Commands.

  module _ (one : ReportIsOne) (no_fault : WellFormedHasNoFault) (of_line : FirstFaultIsOfLine) (scopes : RulesGiveScopes)
      (runs : LinesHaveOneRun) (last : LastLineIsVerdict) (gaps : GapsAreOne) (proofs : ProveIsOne) (comparisons : SameIsOne) where
    one_follow : (does : EventAction) (text content : Bytes) (a b : Status) (xs ys : Bytes) → FollowOutput does text content a xs
        → FollowOutput does text content b ys → AreOne a xs b ys
    one_follow does text content a b xs ys (following.checked n o) (following.checked m p) = one_check faults lists never answers one text a b xs ys o p
    one_follow does text content a b xs ys (following.checked n o) (following.FollowOutput.followed s ended c p f) =
        absurd (n (check_is_done faults lists never answers text s a xs c.reads c.keeps c.certified o))
    one_follow does text content a b xs ys (following.FollowOutput.followed s ended c o e) (following.checked m p) =
        absurd (m (check_is_done faults lists never answers text s b ys c.reads c.keeps c.certified p))
    one_follow does text content a b xs ys (following.FollowOutput.followed s x c o e) (following.FollowOutput.followed r y d p f) =
        let q = subst (λ (z : Spec). events_file.Output (texts_of does) z program_limits content y ys) (one_text faults lists never answers text r s d.reads c.reads) p in
        let same = one_following no_fault of_line scopes runs s c.keeps c.certified (texts_of does) content x y xs ys o q in
        (e ∙ ap status_of same.0 ∙ sym f, same.1)

    one_cover : (words : List Bytes) (file events text content : Bytes) → command_of words ≡ Some (follow event_action.ExplainCover file events)
        → (a b : Status) (xs ys : Bytes) → EventOutput event_action.ExplainCover text content a xs → EventOutput event_action.ExplainCover text content b ys
        → (a ≡ b) × AreSame words xs ys
    one_cover words file events text content is a b xs ys o p =
        let same = one_follow event_action.ExplainCover text content a b o.report p.report o.reported p.reported in (
          same.0,
          explained_cover file events o.report o.notes p.notes is o.split (p.split ∙ ap (λ zs. zs ++ p.notes) (sym same.1)) o.comments p.comments,
        )

    one_event : (does : EventAction) (words : List Bytes) (file events text content : Bytes) → command_of words ≡ Some (follow does file events)
        → (a b : Status) (xs ys : Bytes) → EventOutput does text content a xs → EventOutput does text content b ys → (a ≡ b) × AreSame words xs ys
    one_event event_action.Simulate words file events text content is a b xs ys o p =
        are_same words a b xs ys (one_follow event_action.Simulate text content a b xs ys o p)
    one_event event_action.Cover words file events text content is a b xs ys o p =
        are_same words a b xs ys (one_follow event_action.Cover text content a b xs ys o p)
    one_event event_action.ExplainCover words file events text content is a b xs ys o p = one_cover words file events text content is a b xs ys o p

    one_of_words : (words : List Bytes) (contents : Bytes → Bytes) (c : Option Command) → command_of words ≡ c → (a b : Status) (xs ys : Bytes)
        → OfWords contents c a xs → OfWords contents c b ys → (a ≡ b) × AreSame words xs ys
    one_of_words words contents None is a b xs ys o p = (o.0 ∙ sym p.0, whole (o.1 ∙ sym p.1))
    one_of_words words contents (Some (act does file)) is a b xs ys o p = one_action one gaps does words file (contents file) is a b xs ys o p
    one_of_words words contents (Some (follow does file events)) is a b xs ys o p =
        one_event does words file events (contents file) (contents events) is a b xs ys o p
    one_of_words words contents (Some (pair does file other)) is a b xs ys o p =
        one_of_texts proofs comparisons does words file other (contents file) (contents other) is a b xs ys o p
    one_of_words words contents (Some (demo n)) is a b xs ys o p = (o.0 ∙ sym p.0, whole (one_summary last one scopes runs n xs ys o.1 p.1))
    one_of_words words contents (Some version) is a b xs ys o p = (o.0 ∙ sym p.0, whole (o.1 ∙ sym p.1))

    pub one_output : OutputIsOne
    one_output words contents a b xs ys o p =
        one_of_words words contents (command_of words) refl a b xs ys (of_words words contents a xs o) (of_words words contents b ys p)
