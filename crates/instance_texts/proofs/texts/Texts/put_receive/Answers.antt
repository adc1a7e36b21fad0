use Rattle.std.proofs.Common.{List, [], map, slice_get, ap, ◌∙◌}
use Rattle.std.specs.Option.{option_map_or}
use Rattle.rsml_syntax.specs.declared.syntax.Spec.{Spec}
use Rattle.rsml_meaning.specs.Words.{Instance}
use Rattle.rsml_meaning.specs.Texts.{instance_text}
use Rattle.text_writer.proofs.WritingLemmas.{alike}
use Rattle.instance_texts.specs.declared.sorts.Sort.TheVariants as sorts
use Rattle.instance_texts.specs.Listing.{Listed, instance_of, all_listed}
use Rattle.instance_texts.proofs.InstanceLemmas.{receives_listed}
use Rattle.instance_texts.proofs.texts.Texts.put_receive.Goals as goal

pub returns : goal.returns
returns g c =
    alike (ap (λ (xs : List Instance). option_map_or instance_text (slice_get xs c.args.number) [])
    (ap (λ (xs : List Listed). map instance_of xs) (c.as_slice.ensures.value ∙ c.self.invariant.are_receives ∙ ap (λ (s : Spec). all_listed sorts.Receive s) c.self.view_is) ∙ receives_listed c.args.self.now))
    c.put_at.ensures
