use Rattle.rsml_syntax.specs.declared.syntax.Spec.{Spec}
use Rattle.bdd_core.specs.Diagram.{IsRef}
use Rattle.guard_encode.specs.Encoding.{Keeps}
use Rattle.invariants.specs.Told.{TellRows, TellsOf}
use Rattle.invariants.proofs.TableLemmas.{Actives, some_column}
use Rattle.invariants.proofs.tables.table_of.Given as goal

-- where one of the first columns is true
abbrev pub invariant-loop-place : goal.invariant-loop-place
invariant-loop-place l = record {
  keeps : Keeps l.fn.encoder l.encoder;
  is_ref : IsRef l.encoder.diagram l.some;
  told : (s : Spec) (active : Actives) → TellRows s l.fn.encoder active l.rows l.phrases → TellsOf s l.encoder (some_column active l.rows l.place) l.some;
}
