use Rattle.std.proofs.Common.{[], ◌++◌, codes, ℤ, Option, ap, ◌∙◌, rules, w64, FitsSigned}
use Rattle.std.specs.Option.{option_map_or}
use Rattle.std.proofs.lemmas.Int.{to_z-of_z}
use Rattle.rsml_syntax.specs.text.Names.{Name}
use Rattle.text_writer.proofs.WritingLemmas.{alike, still}
use Rattle.reactions.specs.Lines.{number_at}
use Rattle.reactions.proofs.fields.put_field.Goals as goal

pub returns-in-Some : goal.returns-in-Some
returns-in-Some g c =
    let s = c.args.sent.now in
    let small : FitsSigned w64 c.args.number = search rules in
    alike (ap (λ (n : ℤ). codes " " ++ (c.in-Some.name.now ++ (codes "=" ++ number_at s c.args.case c.args.place n))) (to_z-of_z w64 c.args.number small)
    ∙ ap (λ (o : Option Name). option_map_or (λ name. codes " " ++ (name ++ (codes "=" ++ number_at s c.args.case c.args.place c.args.number))) o []) c.in-Some.ensures)
    c.put_named.ensures

pub returns-in-None : goal.returns-in-None
returns-in-None g c =
    let s = c.args.sent.now in
    alike (ap (λ (o : Option Name). option_map_or (λ name. codes " " ++ (name ++ (codes "=" ++ number_at s c.args.case c.args.place c.args.number))) o []) c.in-None.ensures)
    (still (g.W.Writer.state c.args.writer.now) (g.W.Writer.text c.args.writer.now))
