use Rattle.std.proofs.Common.{◌≡◌, Some, None, sym, ap, ◌∙◌, arith}
use Rattle.event_file.specs.Reading.{Reading, limits_of}
use Rattle.event_file.specs.declared.next.Next.TheVariants as next
use Rattle.simulator.proofs.AnsweringLemmas.{new_is, new_fits_file}
use Rattle.simulator.proofs.course.Course.new.Goals as goal

pub invariant_of-result : goal.invariant_of-result
invariant_of-result c =
    let reader = c.in_ok-reader.ensures.new in
    let file = ap (λ (r : Reading). r.limits.file) reader in
    let at = ap (λ (r : Reading). r.at) reader in
    let settled = ap (λ (r : Reading). r.settled) reader in
    let none = c.in_ok-turns.ensures.uncounted in
    let most = c.requires.limits.1 in
    record {
      limit = omega (arith, file, most);
      within = omega (arith, at);
      few = omega (arith, none);
      final = tt;
      unrefused = λ e refused. let no : None ≡ Some next.ReadFault → ⊥ = λ h. cc in no (sym settled ∙ refused);
    }

pub returns-clause-new : goal.returns-clause-new
returns-clause-new c =
    let t = c.in_ok-turns.ensures in
    new_is c.in_ok-turns.turns c.in_ok-reader.reader c.args.checked.now (limits_of c.args.limits) t.spec t.first t.last t.none_taken t.none_sent t.none t.uncounted c.in_ok-reader.ensures.new

pub returns-clause-fits : goal.returns-clause-fits
returns-clause-fits c = λ content.
    let t = c.in_ok-turns.ensures in
    new_fits_file content _ (new_is c.in_ok-turns.turns c.in_ok-reader.reader c.args.checked.now (limits_of c.args.limits) t.spec t.first t.last t.none_taken t.none_sent t.none t.uncounted c.in_ok-reader.ensures.new)
