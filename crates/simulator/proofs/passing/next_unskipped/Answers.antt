use Rattle.std.proofs.Common.{◌≡◌, ◌≤◌, true, IfSome, refl, sym, ap, ◌∙◌, subst, arith}
use Rattle.rsml_meaning.specs.EventLines.{is_skipped}
use Rattle.rsml_meaning.specs.EventFiles.{Limits}
use Rattle.event_file.specs.Reading.{Answers}
use Rattle.event_file.specs.declared.next.Next.{Next}
use Rattle.event_file.specs.declared.next.Next.TheVariants as next
use Rattle.simulator.proofs.PassingLemmas.{passes_none_told, mid_fits, passes_told, behind_told, unsettled}
use Rattle.simulator.proofs.passing.next_unskipped.Goals as goal

pub lines-init : goal.lines-init
lines-init g c = record {
  limits = refl;
  on = omega arith;
  unrefused = λ h. h;
  passes = passes_none_told (g.F.Files.contents c.args.files.now c.args.name.now) c.args.reader.now c.requires;
  reached = λ h. h;
  contents = λ file. refl;
  count = λ file. omega arith;
  others = λ file other. refl;
}

pub next-requires : goal.next-requires
next-requires g c =
    let kept = c.lines.invariant in
    let name = c.args.name.now in
    mid_fits (g.F.Files.contents c.args.files.now name) c.args.reader.now (g.F.Files.contents c.lines.files name) (kept.contents name) c.lines.reader kept.passes

-- one more line that is skipped
pub lines-preserved : goal.lines-preserved
lines-preserved g c =
    let kept = c.lines.invariant in
    let name = c.args.name.now in
    let told' = g.F.Files.contents c.lines.files name in
    let r' = c.next.new.self in
    let is : c.next.result ≡ next.Line = c.in-Line.is in
    let read : IfSome told' (λ content. Answers content c.lines.reader next.Line r') =
    subst (λ (n : Next). IfSome told' (λ content. Answers content c.lines.reader n r')) is c.next.ensures.told in
    let skipped : is_skipped r'.line ≡ true = ap is_skipped (sym c.line.ensures) ∙ sym c.skipped.ensures ∙ c.if-not-skipped.false in
    record {
      limits = c.next.ensures.limits ∙ kept.limits;
      on = let a = kept.on in let b = c.next.ensures.forward is in omega (arith, a, b);
      unrefused = λ h. c.next.ensures.unrefused is;
      passes = passes_told (g.F.Files.contents c.args.files.now name) c.args.reader.now told' (kept.contents name) c.lines.reader kept.passes r' read c.next.ensures.limits skipped;
      reached = λ h. c.next.ensures.reached (kept.reached h);
      contents = λ file. c.next.ensures.contents file ∙ kept.contents file;
      count = λ file. let a = kept.count file in let b = c.next.ensures.count file in omega (arith, a, b);
      others = λ file other. c.next.ensures.others file other ∙ kept.others file other;
    }

pub lines-smaller : goal.lines-smaller
lines-smaller g c =
    let kept = c.lines.invariant in
    let forward = c.next.ensures.forward c.in-Line.is in
    let within = subst (λ (z : Limits). c.next.new.self.at ≤ z.file) (c.next.ensures.limits ∙ kept.limits) c.next.ensures.within in
    omega (arith, forward, within)

-- a line that is not skipped
pub returns-then-not-skipped-clause-told : goal.returns-then-not-skipped-clause-told
returns-then-not-skipped-clause-told g c =
    let kept = c.lines.invariant in
    let name = c.args.name.now in
    let told' = g.F.Files.contents c.lines.files name in
    let r' = c.next.new.self in
    let read : IfSome told' (λ content. Answers content c.lines.reader next.Line r') =
    subst (λ (n : Next). IfSome told' (λ content. Answers content c.lines.reader n r')) c.in-Line.is c.next.ensures.told in
    behind_told (g.F.Files.contents c.args.files.now name) c.args.reader.now told' (kept.contents name) c.lines.reader kept.passes r' next.Line read (λ ne. absurd (ne refl))

pub returns-then-not-skipped-clause-unskipped : goal.returns-then-not-skipped-clause-unskipped
returns-then-not-skipped-clause-unskipped g c = λ is. ap is_skipped (sym c.line.ensures) ∙ sym c.skipped.ensures ∙ c.if-not-skipped.true

pub returns-then-not-skipped-clause-reached : goal.returns-then-not-skipped-clause-reached
returns-then-not-skipped-clause-reached g c = λ h. c.next.ensures.reached (c.lines.invariant.reached h)

pub returns-then-not-skipped-clause-unrefused : goal.returns-then-not-skipped-clause-unrefused
returns-then-not-skipped-clause-unrefused g c = λ is. c.next.ensures.unrefused c.in-Line.is

pub returns-then-not-skipped-clause-forward : goal.returns-then-not-skipped-clause-forward
returns-then-not-skipped-clause-forward g c = λ is. let a = c.lines.invariant.on in let b = c.next.ensures.forward c.in-Line.is in omega (arith, a, b)

pub returns-then-not-skipped-clause-on : goal.returns-then-not-skipped-clause-on
returns-then-not-skipped-clause-on g c = let a = c.lines.invariant.on in let b = c.next.ensures.forward c.in-Line.is in omega (arith, a, b)

-- no line
pub returns-in_default-clause-told : goal.returns-in_default-clause-told
returns-in_default-clause-told g c =
    let kept = c.lines.invariant in
    let name = c.args.name.now in
    behind_told (g.F.Files.contents c.args.files.now name) c.args.reader.now (g.F.Files.contents c.lines.files name) (kept.contents name) c.lines.reader kept.passes c.next.new.self
    c.next.result c.next.ensures.told c.next.ensures.stays

pub returns-in_default-clause-fault : goal.returns-in_default-clause-fault
returns-in_default-clause-fault g c = λ is unrefused.
    let kept = c.lines.invariant in
    let n = c.next.result in
    let rose = (c.next.ensures.fault is (unsettled c.lines.reader.settled n (kept.unrefused unrefused) (λ a e. (rw e at (c.next.ensures.repeats)).0) is)).1 in
    let count = kept.count c.args.name.now in
    omega (arith, rose, count)

pub returns-in_default-clause-reached : goal.returns-in_default-clause-reached
returns-in_default-clause-reached g c = λ h. c.next.ensures.reached (c.lines.invariant.reached h)

pub returns-in_default-clause-on : goal.returns-in_default-clause-on
returns-in_default-clause-on g c = let a = c.lines.invariant.on in let b = c.next.ensures.stays c.in_default.not-Line in omega (arith, a, b)
