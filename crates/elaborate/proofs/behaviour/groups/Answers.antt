use Rattle.std.proofs.Common.{List, sym, subst}
use Rattle.std.specs.List.{AllZip}
use Rattle.rsml_meaning.specs.Interfaces.{definitions}
use Rattle.rsml_ground.specs.declared.definitions.Definition.{Definition}
use Rattle.rsml_ground.specs.StandsFor.{DefinitionIs}
use Rattle.ground_members.specs.Members.{AreSendCases}
use Rattle.elaborate.proofs.behaviour.groups.Goals as goal

pub build-requires-clause-send_cases : goal.build-requires-clause-send_cases
build-requires-clause-send_cases c =
    let ps = c.args.written.now.phrases in
    (ps, subst (AreSendCases ps c.args.checked.now) (sym c.as_slice-2.ensures.value) c.requires.stands.cases_are)

pub build-requires-clause-definitions : goal.build-requires-clause-definitions
build-requires-clause-definitions c =
    let ps = c.args.written.now.phrases in
    let s = c.args.checked.now in
    (ps, subst (λ (ds : List Definition). AllZip (DefinitionIs ps s) (definitions s) ds) (sym c.as_slice-3.ensures.value) c.requires.stands.grounded.stand)
