use Rattle.std.proofs.Common.{length, ◌≤◌, arith}
use Rattle.std.proofs.lemmas.Bool.Decides.{nat_tests}
use Rattle.std.proofs.lemmas.Option.{slice_get_past}
use Rattle.rsml_meaning.specs.Texts.{instance_text}
use Rattle.text_writer.proofs.WritingLemmas.{alike, still}
use Rattle.instance_texts.specs.Listing.{instance_of}
use Rattle.instance_texts.proofs.FoundLemmas.{text_past}
use Rattle.instance_texts.proofs.texts.put_at.Goals as goal

pub returns-in-None : goal.returns-in-None
returns-in-None g c =
    let past : length c.args.listed.now ≤ c.args.place = let b = c.in-None.ensures.lookup in grind (arith, nat_tests, b) in
    alike (text_past instance_of instance_text c.args.listed.now c.args.place (slice_get_past c.args.listed.now c.args.place past))
    (still (g.W.Writer.state c.args.writer.now) (g.W.Writer.text c.args.writer.now))
