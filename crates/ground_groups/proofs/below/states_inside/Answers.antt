use Rattle.std.proofs.Common.{[], ◌∷◌, ◌++◌, sym, ap, ◌∙◌, slice_index_or}
use Rattle.ground_groups.proofs.Rising.{blank}
use Rattle.ground_groups.proofs.Runs.{item_same, turn_in, turn_out, ended}
use Rattle.ground_groups.proofs.below.states_inside.Goals.{then-other-key+in_ok-push, else-other-key}
use Rattle.ground_groups.proofs.below.states_inside.Goals as goal

pub returns-then-not-on_one_line : goal.returns-then-not-on_one_line
returns-then-not-on_one_line c =
    let xs = c.args.behind.now in
    let i = c.loop-other.other-index in
    let l = c.loop-other-test.true in
    c.loop-other.invariant
    ∙ ended c.args.tree.now c.requires.checked c.args.key (slice_index_or xs i blank) xs i c.requires.key c.requires.there c.requires.behind c.requires.rising l (item_same xs i blank l)
    (sym c.on_one_line.ensures ∙ c.if-not-on_one_line.true)

pub loop-other-preserved : goal.loop-other-preserved
loop-other-preserved c =
    let s = c.args.tree.now in
    let xs = c.args.behind.now in
    let i = c.loop-other.other-index in
    let l = c.loop-other-test.true in
    let other = slice_index_or xs i blank in
    elim c.if-other-key.branch [
      | then-other-key+in_ok-push w ↦
          ap (λ v. v.items) w.list-is ∙ w.in_ok-push.ensures.items ∙ ap (λ ks. ks ++ other.owner ∷ []) c.loop-other.invariant
          ∙ sym (turn_in s c.args.key other xs i c.requires.behind l (item_same xs i blank l) (sym c.on_one_line.ensures ∙ c.if-not-on_one_line.false) w.if-other-key.true)
      | else-other-key w ↦
          ap (λ v. v.items) w.list-is ∙ c.loop-other.invariant
          ∙ sym (turn_out s c.args.key other xs i l (item_same xs i blank l) w.if-other-key.false)
    ]
