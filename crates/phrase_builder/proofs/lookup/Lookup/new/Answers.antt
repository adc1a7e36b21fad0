use Rattle.std.proofs.Common.{sym, ap, ◌∙◌, subst}
use Rattle.rsml_syntax.specs.limits.Checked.{IsChecked}
use Rattle.rsml_syntax.specs.rules.Globals.{globals}
use Rattle.rsml_meaning.specs.Instances.{globals_of}
use Rattle.rsml_ground.specs.Grounded.{IsShort}
use Rattle.phrase_builder.proofs.lookup.Lookup.new.Goals as goal

pub invariant_of-result : goal.invariant_of-result
invariant_of-result c = record {
  globals = c.in_ok-globals.ensures ∙ ap globals c.as_slice.ensures ∙ ap globals_of c.spec.ensures.same ∙ ap globals_of (sym c.requires.same);
  checked = subst IsChecked (sym c.requires.same) c.spec.ensures.checked;
  short = subst IsShort (sym c.requires.same) c.requires.short;
}
