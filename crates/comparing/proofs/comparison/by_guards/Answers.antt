use Rattle.std.proofs.Common.{sym, subst, ◌∙◌}
use Rattle.rsml_syntax.specs.declared.syntax.Spec.{Spec}
use Rattle.spec_frames.specs.Frames.{HaveSameFrame}
use Rattle.comparing.specs.Steps.{IsDifferenceText}
use Rattle.comparing.proofs.CompareLemmas.{AreSought, none_found, one_found, tells, told}
use Rattle.comparing.proofs.comparison.by_guards.Goals as goal

pub first_difference-requires : goal.first_difference-requires
first_difference-requires c = subst (λ (s : Spec). HaveSameFrame s c.args.two.now.base.spec) (sym c.requires.machine) c.requires.frame

pub difference_text-requires-clause-texts : goal.difference_text-requires-clause-texts
difference_text-requires-clause-texts c = c.in_ok-texts-in-Some.ensures ∙ sym c.requires.machine

pub difference_text-requires-clause-found : goal.difference_text-requires-clause-found
difference_text-requires-clause-found c =
    let s = c.args.one.now.base.spec in
    let t = c.args.two.now.base.spec in
    tells s t c.in-Some.found (one_found s t c.in_ok-first_difference.field-0 c.in-Some.found c.in-Some.is c.in_ok-first_difference.ensures)

pub returns-in-None : goal.returns-in-None
returns-in-None c =
    let t = c.args.two.now.base.spec in (
      c.requires.frame,
      c.requires.certified,
      none_found c.args.checked.now t c.in_ok-first_difference.field-0 c.in-None.is
          (subst (λ (s : Spec). AreSought s t c.in_ok-first_difference.field-0) c.requires.machine c.in_ok-first_difference.ensures),
    )

pub returns-in_ok-text-in-Some : goal.returns-in_ok-text-in-Some
returns-in_ok-text-in-Some c =
    let s = c.args.one.now.base.spec in
    let t = c.args.two.now.base.spec in (
      c.requires.frame,
      c.requires.certified,
      subst (λ (x : Spec). IsDifferenceText x t c.in_ok-text-in-Some.text.items) c.requires.machine
          (told s t c.in-Some.found c.in_ok-text-in-Some.text.items (one_found s t c.in_ok-first_difference.field-0 c.in-Some.found c.in-Some.is c.in_ok-first_difference.ensures) c.in_ok-text-in-Some.ensures),
    )
