use Rattle.std.proofs.Common.{List, ℤ, ap, ◌∙◌, rules, w64, FitsSigned}
use Rattle.std.proofs.lemmas.Int.{to_z-of_z}
use Rattle.rsml_syntax.specs.text.Names.{Name}
use Rattle.rsml_meaning.specs.Instances.{globals_of}
use Rattle.rsml_meaning.specs.Texts.{value_text}
use Rattle.text_writer.proofs.WritingLemmas.{alike, still}
use Rattle.instance_texts.specs.SentCases.{sent_value, names_of_value}
use Rattle.instance_texts.proofs.SentLemmas.{text_by, text_by_none}
use Rattle.instance_texts.proofs.sent_texts.SentTexts.put_sent.Goals as goal

pub returns-in-Some : goal.returns-in-Some
returns-in-Some g c =
    let small : FitsSigned w64 c.args.number = search rules in
    alike (ap (λ (n : ℤ). value_text c.in-Some.names.now n) (to_z-of_z w64 c.args.number small)
    ∙ text_by (names_of_value (globals_of c.args.self.now)) (λ (names : List Name). value_text names c.args.number) c.in-Some.names.now (sent_value c.args.self.now c.args.case c.args.place) c.in-Some.ensures)
    c.put_value.ensures

pub returns-in-None : goal.returns-in-None
returns-in-None g c =
    alike (text_by_none (names_of_value (globals_of c.args.self.now)) (λ (names : List Name). value_text names c.args.number) (sent_value c.args.self.now c.args.case c.args.place) c.in-None.ensures)
    (still (g.W.Writer.state c.args.writer.now) (g.W.Writer.text c.args.writer.now))
