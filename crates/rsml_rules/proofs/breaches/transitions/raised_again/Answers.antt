use Rattle.std.proofs.Common.{◌++◌, ◌∷◌, [], ◌+◌, ◌∙◌, List, Bool, Bor, ap, take, drop, sym}
use Rattle.std.proofs.lemmas.List.{take_more}
use Rattle.std.specs.Prelude.{not}
use Rattle.std.specs.List.{list_any}
use Rattle.rsml_syntax.specs.declared.syntax.Mention.{Mention}
use Rattle.rsml_syntax.specs.text.Names.{Name}
use Rattle.rsml_syntax.specs.rules.Breaches.{breach}
use Rattle.rsml_rules.specs.breaches.Noting.{noted}
use Rattle.rsml_syntax.specs.rules.States.{same_mention, raised_again}
use Rattle.rsml_rules.proofs.Raising.{is_among, seen_more, new_mention, raised_turn}
use Rattle.rsml_rules.proofs.breaches.transitions.raised_again.Goals as goal

pub loop-mention-preserved : goal.loop-mention-preserved
loop-mention-preserved c =
    let ms = c.args.mentions.now in
    let i = c.loop-mention.mention-index in
    let x = c.mention-item.result in
    let seen = c.loop-mention.invariant.seen in
    let again = new_mention _ _ x _ seen c.in_ok-is_new.ensures.added in record {
      seen = λ (m : Mention).
          ap (λ (ks : List (Bor Mention)). is_among ks m) c.in_ok-is_new.ensures.keys
          ∙ seen_more _ _ _ m seen
          ∙ ap (λ (es : List Mention). list_any (same_mention m) es) (sym (take_more ms i x c.loop-mention-test.true ∙ ap (λ (y : Mention). take i ms ++ y ∷ []) (sym c.mention-item.is)));
      rest = ap (λ w. noted w (raised_again (take (i + 1) ms) (drop (i + 1) ms)))
          (c.note.ensures ∙ ap (λ (b : Bool). noted c.loop-mention.worst (breach 14 x.name b)) again)
          ∙ sym (raised_turn c.loop-mention.worst ms i x c.loop-mention-test.true c.mention-item.is)
          ∙ c.loop-mention.invariant.rest;
    }
