use Rattle.std.proofs.Common.{ℕ, List, ◌++◌, sym, ap, ◌∙◌, subst}
use Rattle.std.specs.List.{AllZip}
use Rattle.rsml_syntax.specs.declared.syntax.Spec.{Spec}
use Rattle.rsml_meaning.specs.Groups.{groups}
use Rattle.source_notes.specs.Comments.{AreComments}
use Rattle.world_columns.specs.declared.group.GroupGaps.{GroupGaps}
use Rattle.world_columns.specs.GapsOf.{AreGroupGaps}
use Rattle.gap_texts.specs.Fitting.{AreOfGroups}
use Rattle.gap_texts.specs.GapText.{gaps_text}
use Rattle.gap_texts.proofs.FitLemmas.{groups_fit}
use Rattle.gapping.specs.Outputs.{status_of}
use Rattle.gapping.proofs.GapLemmas.{all_told}
use Rattle.gapping.proofs.explained.explained_of.Goals as goal

pub group_gaps-requires-clause-texts : goal.group_gaps-requires-clause-texts
group_gaps-requires-clause-texts c = c.in_ok-texts.ensures ∙ sym c.in_ok-machine.ensures

pub gap_text-requires-clause-texts : goal.gap_text-requires-clause-texts
gap_text-requires-clause-texts c = c.in_ok-texts.ensures ∙ sym c.in_ok-machine.ensures

pub gap_text-requires-clause-groups : goal.gap_text-requires-clause-groups
gap_text-requires-clause-groups c =
    let m = c.in_ok-machine.machine.base.spec in
    subst (λ (gs : List GroupGaps). AreOfGroups m gs) (sym c.as_slice.ensures.value) (groups_fit m c.args.most c.in_ok-told.told.items c.in_ok-told.ensures)

pub returns : goal.returns
returns c =
    let s = c.args.checked.now in
    let gs = c.in_ok-told.told.items in
    let right = subst (λ (t : Spec). AllZip (AreGroupGaps t c.args.most) (groups t) gs) c.in_ok-machine.ensures c.in_ok-told.ensures in
    record {
      report = c.in_ok-text.text.items;
      notes = c.in_ok-notes.notes.items;
      split = c.in_ok-put.ensures.ok ∙ ap (λ (ns : List ℕ). c.in_ok-text.text.items ++ ns) c.as_slice-3.ensures.value;
      reported = record {
        answers = gs;
        right = all_told c.column_laws.ensures.inside c.column_laws.ensures.disjoint c.column_laws.ensures.more s c.args.most (groups s) gs right;
        ends = c.status_of.ensures ∙ ap status_of c.as_slice-4.ensures.value;
        text = c.in_ok-text.ensures ∙ ap (λ (t : Spec). gaps_text t c.as_slice.result.now) c.in_ok-machine.ensures ∙ ap (gaps_text s) c.as_slice.ensures.value;
      };
      comments = c.in_ok-notes.ensures;
    }
