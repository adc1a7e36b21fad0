use Rattle.std.proofs.Common.{◌∙◌, ap, cond, true}
use Rattle.std.specs.List.{list_any}
use Rattle.rsml_syntax.specs.text.Names.{same}
use Rattle.rsml_syntax.proofs.RenamingLemmas.{name_put, no_name_put, all_put}
use Rattle.rsml_syntax.proofs.renaming.names.Goals as goal
use Rattle.rsml_syntax.proofs.renaming.names.Goals.{in-Name+in_ok-insert, in_default}

pub loop-placed-preserved : goal.loop-placed-preserved
loop-placed-preserved c = λ name. elim c.match-placed.branch [
  | in-Name+in_ok-insert w ↦
      ap (λ s. list_any (λ x. same name x.now) s.keys) w.names-is
      ∙ w.in_ok-insert.ensures.updates.0 (record w.bytes.result { now = name })
      ∙ ap (λ n. cond (same n name) true (list_any (λ x. same name x.now) c.loop-placed.names.keys)) w.bytes.ensures
      ∙ name_put name w.in-Name.name c.args.tokens.now c.loop-placed.placed-index c.placed-item.result _ c.loop-placed-test.true c.placed-item.is w.in-Name.is (c.loop-placed.invariant name)
  | in_default w ↦
      ap (λ s. list_any (λ x. same name x.now) s.keys) w.names-is
      ∙ c.loop-placed.invariant name
      ∙ no_name_put name c.args.tokens.now c.loop-placed.placed-index c.placed-item.result c.loop-placed-test.true c.placed-item.is w.in_default.not-Name
]

pub returns : goal.returns
returns c = λ name. c.loop-placed.invariant name ∙ all_put name c.args.tokens.now c.loop-placed.placed-index c.loop-placed-test.false
