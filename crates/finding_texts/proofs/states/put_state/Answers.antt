use Rattle.std.proofs.Common.{List, [], Option, ap, ◌∙◌}
use Rattle.std.specs.Option.{option_map_or}
use Rattle.rsml_meaning.specs.Words.{Path}
use Rattle.rsml_meaning.specs.Instances.{State}
use Rattle.rsml_meaning.specs.Texts.{path_text}
use Rattle.state_arrays.specs.Places.{path_at}
use Rattle.text_writer.proofs.WritingLemmas.{alike, still}
use Rattle.finding_texts.proofs.states.put_state.Goals as goal

pub returns-in-Some : goal.returns-in-Some
returns-in-Some g c =
    alike (ap (λ (o : Option Path). option_map_or path_text o []) (c.in-Some.ensures ∙ ap (λ (xs : List State). path_at xs c.args.number) c.states.ensures)) c.put_path.ensures

pub returns-in-None : goal.returns-in-None
returns-in-None g c =
    alike (ap (λ (o : Option Path). option_map_or path_text o []) (c.in-None.ensures ∙ ap (λ (xs : List State). path_at xs c.args.number) c.states.ensures))
    (still (g.W.Writer.state c.args.writer.now) (g.W.Writer.text c.args.writer.now))
