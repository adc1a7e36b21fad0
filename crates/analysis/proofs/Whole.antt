-- The whole report, and when it certifies.
use Rattle.std.proofs.Common.{◌≡◌, ℕ, ◌+◌, ◌≤◌, List, ◌++◌, map, flat_map, zip, length, IsTrue, ◌↔◌, sym, ap, ◌∙◌, subst, arith, append_assoc, codes, decimal}
use Rattle.std.specs.Prelude.{◌==◌}
use Rattle.std.specs.List.{AllZip}
use Rattle.std.proofs.lemmas.Bool.{eqb-true, eq-eqb}
use Rattle.std.proofs.lemmas.List.{nil_from_length}
use Rattle.std.proofs.lemmas.List.Sums.{length-filter, count_by-le-length}
use Rattle.rsml_syntax.specs.declared.syntax.Spec.{Spec}
use Rattle.rsml_syntax.specs.limits.Checked.{IsChecked}
use Rattle.rsml_meaning.specs.Instances.{events}
use Rattle.rsml_meaning.specs.Groups.{groups}
use Rattle.rsml_meaning.specs.Chains.{is_external}
use Rattle.rsml_meaning.specs.Certified.{Certified}
use Rattle.rsml_meaning.specs.Findings.{IsVerdict}
use Rattle.rsml_meaning.specs.Texts.{Text, text_line}
use Rattle.rsml_meaning.specs.Report.{Answers, externals, IsReport, finding, last_line, refusals, report_text}
use Rattle.event_graph.specs.declared.clash.Clash.{Clash}
use Rattle.event_chains.specs.declared.external.External.{External}
use Rattle.event_chains.specs.Found.{AreLooping, AreClashes, AreExternals}
use Rattle.event_chains.specs.Laws.{NoneFoundIsNone}
use Rattle.finding_texts.specs.declared.verdict.Verdict.{Verdict}
use Rattle.finding_texts.specs.Verdicts.{verdict_of}
use Rattle.analysis.specs.Lines.{lines}
use Rattle.analysis.specs.Refusals.{refusals_of}
use Rattle.analysis.proofs.Chained.{LoopsTold, loops_told, ClashesTold, clashes_told, lengths_right, chain_lines}
use Rattle.analysis.proofs.Judged.{found_count, all_sound, none_found}

-- the parts of two texts that are grouped in two ways
assembled : (a b f : Text) {c k d l e m g n : Text} → c ≡ k → d ≡ l → e ≡ m → g ≡ n → (a ++ b) ++ ((c ++ (d ++ e)) ++ (f ++ g)) ≡ a ++ (b ++ (k ++ (l ++ (m ++ (f ++ n)))))
assembled a b f {c} {k} {d} {l} {e} {m} {g} {n} p q r t = regrouped a b c d e f g ∙ (λ i. a ++ (b ++ (p i ++ (q i ++ (r i ++ (f ++ t i))))))
  where
    regrouped : (a b c d e f g : Text) → (a ++ b) ++ ((c ++ (d ++ e)) ++ (f ++ g)) ≡ a ++ (b ++ (c ++ (d ++ (e ++ (f ++ g)))))
    regrouped a b c d e f g = simp append_assoc

-- What is found of a specification.
module _ (s : Spec) (ks : List ℕ) (cs : List Clash) (vs : List Verdict) (looping : AreLooping s ks) (clashing : AreClashes s cs) (judged : AllZip (IsVerdict s) (groups s) (map verdict_of vs)) where
  loops : LoopsTold s ks
  loops = loops_told s ks looping

  clashes : ClashesTold s (externals s) cs
  clashes = subst (ClashesTold s (externals s)) (sym clashing.2) (clashes_told s (externals s) clashing.0 clashing.1)

  abbrev answers : List External → Answers
  answers rs = record { lengths = map (λ r. r.length) rs; clashes = clashes.firsts; loops = loops.flags; verdicts = map verdict_of vs }

  refusals_are : (rs : List External) → refusals_of ks cs vs ≡ refusals s (answers rs)
  refusals_are rs = λ i. loops.count i + (clashes.count i + sym (found_count vs) i)

  text_is : (rs : List External) → AreExternals s rs → (n : ℕ) → n ≡ refusals_of ks cs vs → lines s rs ks cs vs n ≡ report_text s (answers rs)
  text_is rs are n count =
      assembled (text_line (codes "specification " ++ s.name)) (text_line (codes "groups " ++ decimal (length (groups s)))) (flat_map (finding s) (zip (groups s) (map verdict_of vs)))
      (chain_lines s (externals s) rs are) loops.told clashes.told (ap last_line (count ∙ refusals_are rs))

  -- the lines are the report
  pub report_is : (rs : List External) → AreExternals s rs → (text : Text) (n : ℕ) → n ≡ refusals_of ks cs vs → text ≡ lines s rs ks cs vs n → IsReport s text
  report_is rs are text n count e = (
    answers rs,
    record { lengths = lengths_right s (externals s) rs are; clashes = clashes.right; loops = loops.right; verdicts = judged },
    e ∙ text_is rs are n count,
  )

  -- no refusals certify
  pub certified_is : IsChecked s → NoneFoundIsNone → (n : ℕ) → n ≡ refusals_of ks cs vs → IsTrue (n == 0) ↔ Certified s
  certified_is checked law n count = (there, back)
    where
      there : IsTrue (n == 0) → Certified s
      there t =
          let none : n ≡ 0 = eqb-true n 0 t in
          let chains = (law s checked ks cs looping clashing).0 (nil_from_length ks (omega (arith, none, count)), nil_from_length cs (omega (arith, none, count))) in
          record { sound = all_sound s (groups s) vs judged (omega (arith, none, count)); no_loop = chains.no_loop; no_clash = chains.no_clash }

      back : Certified s → IsTrue (n == 0)
      back c =
          let none = (law s checked ks cs looping clashing).1 (record { no_loop = c.no_loop; no_clash = c.no_clash }) in
          let no_loops : length ks ≡ 0 = ap length none.0 in
          let no_clashes : length cs ≡ 0 = ap length none.1 in
          let no_findings = none_found s (groups s) vs judged c.sound in
          eq-eqb n 0 (omega (arith, count, no_loops, no_clashes, no_findings))

  -- no more loop than there are events
  pub loops_few : length ks ≤ length (events s)
  loops_few = loops.few

  -- no more clash than there are events
  pub clashes_few : length cs ≤ length (events s)
  clashes_few = let l = clashes.few in omega (arith, l, length-filter (is_external s) (events s), count_by-le-length (is_external s) (events s))
