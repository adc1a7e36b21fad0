use Rattle.std.proofs.Common.{◌≡◌, ◌++◌, flat_map, zip}
use Rattle.std.specs.Prelude.{codes, decimal}
use Rattle.rsml_meaning.specs.Groups.{groups}
use Rattle.rsml_meaning.specs.Texts.{text_line}
use Rattle.text_writer.proofs.WritingLemmas.{followed, alike}
use Rattle.gap_texts.specs.GapText.{group_gaps_text, unsound}
use Rattle.gap_texts.proofs.RowLemmas.{finished}
use Rattle.gap_texts.proofs.text.gap_text.Goals as goal

pub returns : goal.returns
returns c =
    let s = c.args.machine.now.base.spec in
    let gs = c.args.told.now in
    let name : c.name.result.now ≡ s.name = c.name.ensures in
    let count : c.unsound.result ≡ unsound gs = c.unsound.ensures in
    finished (λ v. v.items) c.finish.result c.new-draft.result c.put_count.new.writer _ c.new-draft.ensures
    (alike (λ i. text_line (codes "specification " ++ name i)
    ++ (flat_map (group_gaps_text s) (zip (groups s) gs) ++ text_line (codes "gaps " ++ decimal (count i))))
    (followed c.put_name.ensures (followed c.put_groups.ensures c.put_count.ensures)))
    c.finish.ensures.ok c.finish.ensures.text
