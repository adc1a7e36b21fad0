use Rattle.std.proofs.Common.{rules, ◌≡◌, false, slice_get}
use Rattle.keyed_levels.specs.Keyed.{key_at, phrases_of}
use Rattle.settled_worlds.specs.Steps.{compares}
use Rattle.settled_worlds.proofs.PartLemmas.{unread}
use Rattle.settled_worlds.proofs.keys.make_reader_exact.Goals as goal

pub returns-then-not-reads-clause-done : goal.returns-then-not-reads-clause-done
returns-then-not-reads-clause-done c = λ there.
    let un : compares c.args.cell (slice_get (phrases_of c.args.levels.now) (key_at c.args.levels.now.keyed c.args.place).phrase) ≡ false = search rules in
    unread c.args.levels.now c.args.cell c.args.place c.requires.cell un
