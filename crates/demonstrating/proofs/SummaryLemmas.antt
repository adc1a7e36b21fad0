-- The summary of `demo`, from the report and the counts; and that it is one text.
use Rattle.std.proofs.Common.{◌≡◌, ℕ, ◌+◌, ◌≤◌, List, [], ◌∷◌, ◌++◌, length, drop, flat_map, filter, Option, Some, None, Result, Ok, Err, IfOk, Vec, refl, sym, ap, ◌∙◌, arith, length-append}
use Rattle.std.specs.Prelude.{codes, decimal, zip, is_some}
use Rattle.std.proofs.lemmas.List.{nil_from_length}
use Rattle.std.specs.declared.alloc.Global.{Global}
use Rattle.rsml_meaning.specs.RunLaws.{LastLineIsVerdict, LinesHaveOneRun}
use Rattle.rsml_syntax.specs.declared.syntax.Spec.{Spec}
use Rattle.rsml_meaning.specs.Words.{Instance}
use Rattle.rsml_meaning.specs.EventFiles.{lines_of}
use Rattle.rsml_meaning.specs.Findings.{Verdict, sound, none, two}
use Rattle.rsml_meaning.specs.Groups.{Group, groups}
use Rattle.rsml_meaning.specs.Laws.{ReportIsOne}
use Rattle.rsml_meaning.specs.Report.{Answers, AreRight, ClashFound, report_text, refusals, last_line, chain_line, loop_line, clash_line, finding, is_finding, looping, externals}
use Rattle.rsml_meaning.specs.Runs.{Reaction}
use Rattle.rsml_meaning.specs.Texts.{text_line}
use Rattle.rsml_meaning.specs.ScopeLaws.{RulesGiveScopes}
use Rattle.rsml_base.specs.declared.no_memory.NoMemory.{NoMemory}
use Rattle.demonstrating.specs.Events.{event_text}
use Rattle.demonstrating.specs.Laws.{IsDemo}
use Rattle.demonstrating.specs.Plant.{plant}
use Rattle.run_counts.specs.Counts.{counts_of}
use Rattle.run_counts.specs.declared.counts.Counts.{Counts}
use Rattle.rsml_meaning.specs.EventLines.{Bytes}
use Rattle.demonstrating.specs.Summary.{IsReportOf, AreCountsOf, demo_line, verdict_lines, count_lines, IsSummary}

-- A report without loops, clashes and findings.

no_clashes : (xs : List Instance) (cs : List (Option ClashFound)) → length (filter is_some cs) ≡ 0 → flat_map clash_line (zip xs cs) ≡ []
no_clashes [] cs h = refl
no_clashes (x ∷ xs) [] h = refl
no_clashes (x ∷ xs) (None ∷ cs) h = no_clashes xs cs h
no_clashes (x ∷ xs) (Some c ∷ cs) h = absurd (omega (arith, h))

no_findings : (s : Spec) (gs : List Group) (vs : List Verdict) → length (filter is_finding vs) ≡ 0 → flat_map (finding s) (zip gs vs) ≡ []
no_findings s [] vs h = refl
no_findings s (g ∷ gs) [] h = refl
no_findings s (g ∷ gs) (sound ∷ vs) h = no_findings s gs vs h
no_findings s (g ∷ gs) (none w ∷ vs) h = absurd (omega (arith, h))
no_findings s (g ∷ gs) (two w ∷ vs) h = absurd (omega (arith, h))

-- its first line
abbrev first_line : Spec → Bytes
first_line s = text_line (codes "specification " ++ s.name)

-- it is its first line, and then those that a summary shows
bare_report : (s : Spec) (a : Answers) → refusals s a ≡ 0 → report_text s a ≡ first_line s ++ verdict_lines s a
bare_report s a h =
    let loops : looping s a ≡ [] = nil_from_length (looping s a) (omega (arith, h)) in
    let clashes = no_clashes (externals s) a.clashes (omega (arith, h)) in
    let findings = no_findings s (groups s) a.verdicts (omega (arith, h)) in
    let count : Bytes = text_line (codes "groups " ++ decimal (length (groups s))) in
    let chains : Bytes = flat_map chain_line (zip (externals s) a.lengths) in
    ap (λ (es : List Instance). first_line s ++ (count ++ (chains ++ (flat_map loop_line es ++ (flat_map clash_line (zip (externals s) a.clashes) ++ (flat_map (finding s) (zip (groups s) a.verdicts) ++ last_line (refusals s a))))))) loops
    ∙ ap (λ (t : Bytes). first_line s ++ (count ++ (chains ++ (t ++ (flat_map (finding s) (zip (groups s) a.verdicts) ++ last_line (refusals s a)))))) clashes
    ∙ ap (λ (t : Bytes). first_line s ++ (count ++ (chains ++ (t ++ last_line (refusals s a))))) findings
    ∙ ap (λ (n : ℕ). first_line s ++ (count ++ (chains ++ last_line n))) h

-- One text.

behind : (xs ys : Bytes) → drop (length xs) (xs ++ ys) ≡ ys
behind [] ys = refl
behind (x ∷ xs) ys = behind xs ys

same_behind : (xs ys zs : Bytes) → xs ++ ys ≡ xs ++ zs → ys ≡ zs
same_behind xs ys zs h = sym (behind xs ys) ∙ ap (λ (t : Bytes). drop (length xs) t) h ∙ behind xs zs

module _ (last : LastLineIsVerdict) where
  none_refused : (n : ℕ) (a : Answers) → IsDemo n → AreRight (plant n) a → refusals (plant n) a ≡ 0
  none_refused n a d r = (last (plant n) a d.keeps.rules r).1 d.certified

  pub one_summary : ReportIsOne → RulesGiveScopes → LinesHaveOneRun → (n : ℕ) (xs ys : Bytes) → IsSummary n xs → IsSummary n ys → xs ≡ ys
  one_summary one scopes runs n xs ys h k =
      let s = plant n in
      let d = h.is_demo in
      let reports : report_text s h.answers ≡ report_text s k.answers = one s (report_text s h.answers) (report_text s k.answers) (h.answers, h.right, refl) (k.answers, k.right, refl) in
      let lines : verdict_lines s h.answers ≡ verdict_lines s k.answers =
      same_behind (first_line s) (verdict_lines s h.answers) (verdict_lines s k.answers)
      (sym (bare_report s h.answers (none_refused n h.answers d h.right)) ∙ reports ∙ bare_report s k.answers (none_refused n k.answers d k.right)) in
      let run = runs s (lines_of (event_text n)) (scopes s d.keeps.rules) d.certified in
      let same : h.run ≡ k.run = run.only h.run h.is_run ∙ sym (run.only k.run k.is_run) in
      h.text ∙ ap (λ (t : Bytes). demo_line n ++ (t ++ count_lines (counts_of h.run))) lines
      ∙ ap (λ (rs : List Reaction). demo_line n ++ (verdict_lines s k.answers ++ count_lines (counts_of rs))) same ∙ sym k.text

  -- The summary of a report and of counts.

  report_is : (n : ℕ) (report : Bytes) (r : IsReportOf n report) → IsDemo n → report ≡ first_line (plant n) ++ verdict_lines (plant n) r.answers
  report_is n report r d = r.text ∙ bare_report (plant n) r.answers (none_refused n r.answers d r.right)

  -- the report has a first line, of 19 bytes
  pub report_long : (n : ℕ) (report : Bytes) → IsReportOf n report → IsDemo n → 19 ≤ length report
  report_long n report r d =
      let is = ap (λ (t : Bytes). length t) (report_is n report r d) ∙ length-append (first_line (plant n)) (verdict_lines (plant n) r.answers) in
      let first : length (first_line (plant n)) ≡ 19 = refl in
      omega (arith, is, first)

  -- what stands behind that is the summary's
  pub summary_is : (n : ℕ) (report bytes : Bytes) (c : Counts) → IsDemo n → IsReportOf n report → AreCountsOf n c
      → bytes ≡ demo_line n ++ (drop 19 report ++ count_lines c) → IsSummary n bytes
  summary_is n report bytes c d r counts h =
      let s = plant n in
      let rest : drop 19 report ≡ verdict_lines s r.answers = ap (λ (t : Bytes). drop 19 t) (report_is n report r d) ∙ behind (first_line s) (verdict_lines s r.answers) in
      record {
        is_demo = d;
        answers = r.answers;
        right = r.right;
        run = counts.run;
        is_run = counts.is_run;
        text = h ∙ ap (λ (t : Bytes). demo_line n ++ (t ++ count_lines c)) rest
            ∙ ap (λ (k : Counts). demo_line n ++ (verdict_lines s r.answers ++ count_lines k)) counts.counted;
      }

  -- the same of what a call answers
  pub summaries_are : (n : ℕ) (report : Bytes) (c : Counts) (r : Result (Vec ℕ Global) NoMemory) → IsDemo n → IsReportOf n report → AreCountsOf n c
      → IfOk r (λ v. v.items ≡ demo_line n ++ (drop 19 report ++ count_lines c)) → IfOk r (λ v. IsSummary n v.items)
  summaries_are n report c (Ok v) d right counts h = summary_is n report v.items c d right counts h
  summaries_are n report c (Err e) d right counts h = h
