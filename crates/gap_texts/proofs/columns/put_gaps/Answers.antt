use Rattle.std.proofs.Common.{List, flat_map, sym, ap, subst}
use Rattle.rsml_meaning.specs.Words.{numbered}
use Rattle.world_columns.specs.declared.column.Column.{Column}
use Rattle.text_writer.proofs.WritingLemmas.{followed, alike}
use Rattle.gap_texts.specs.Fitting.{AreColumns}
use Rattle.gap_texts.specs.GapText.{column_text}
use Rattle.gap_texts.proofs.columns.put_gaps.Goals as goal

pub put_columns-requires-clause-columns : goal.put_columns-requires-clause-columns
put_columns-requires-clause-columns g c = subst (λ (cs : List Column). AreColumns c.args.machine.now.base.spec cs) (sym c.as_slice.ensures) c.requires.columns

pub returns : goal.returns
returns g c =
    followed
    (alike (ap (λ (cs : List Column). flat_map (column_text c.args.machine.now.base.spec) (numbered cs)) c.as_slice.ensures) c.put_columns.ensures)
    c.put_more.ensures
