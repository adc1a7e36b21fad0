use Rattle.std.proofs.Common.{rules, ◌≡◌, ◌<◌, true, false, length, get_or, sym, ◌∙◌, arith}
use Rattle.std.proofs.lemmas.List.{get_or_default}
use Rattle.free_levels.specs.Stages.{is_left}
use Rattle.keyed_levels.specs.Keyed.{key_at}
use Rattle.settled_worlds.proofs.StepLemmas.{struck_one}
use Rattle.settled_worlds.proofs.striking.strike_key.Goals as goal

pub returns : goal.returns
returns c =
    let less : c.args.place < length c.args.left.now.items = omega (arith, c.requires.many, c.requires.place) in
    let shown : c.index.result.now ≡ true = search rules in
    let there : is_left c.args.left.now.items c.args.place ≡ true =
    sym (get_or_default c.args.left.now.items c.args.place c.index.result.now false less) ∙ sym c.index.ensures ∙ shown in
    let un : get_or c.args.used.now (key_at c.args.levels.now.keyed c.args.place).level false ≡ false = search rules in
    struck_one c.args.levels.now c.args.used.now c.args.left.now.items c.args.place c.requires.keys c.requires.many c.requires.place there un
