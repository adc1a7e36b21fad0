use Rattle.rsml_syntax.specs.declared.syntax.Spec.{Spec}
use Rattle.bdd_core.specs.Diagram.{IsRef}
use Rattle.guard_encode.specs.Encoding.{Keeps}
use Rattle.invariants.specs.Told.{TellRows, TellsOf}
use Rattle.invariants.proofs.TableLemmas.{Actives, front_column}
use Rattle.invariants.proofs.tables.column_of.Given as goal

-- where the first rows are as their cells want them
abbrev pub invariant-loop-at : goal.invariant-loop-at
invariant-loop-at l = record {
  keeps : Keeps l.fn.encoder l.encoder;
  is_ref : IsRef l.encoder.diagram l.all;
  told : (s : Spec) (active : Actives) → TellRows s l.fn.encoder active l.rows l.phrases → TellsOf s l.encoder (front_column active l.rows l.place l.at) l.all;
}
