use Rattle.std.proofs.Common.{length, ◌+◌, ◌≤◌, ℕ, vec_len, ap, sym, ◌∙◌, subst}
use Rattle.rsml_syntax.specs.declared.token.Token.TheVariants as token
use Rattle.rsml_syntax.specs.grammar.Layout.{open_after}
use Rattle.rsml_syntax.proofs.PrintLemmas.{wrote, mark_within}
use Rattle.rsml_syntax.proofs.printing.printer.Printer.mark.Goals as goal

pub invariant_of-self : goal.invariant_of-self
invariant_of-self c = record {
  deep = mark_within c.args.mark (vec_len c.args.self.now.text) (vec_len c.write.new.self.text) c.write.new.self.depth c.depth_after-self.result
      (subst (λ (d : ℕ). d ≤ vec_len c.args.self.now.text) (sym c.write.ensures.depth) c.args.self.now.deep)
      (subst (λ l. vec_len c.args.self.now.text + length l ≤ vec_len c.write.new.self.text) c.spelling.ensures c.in_ok-write.ensures.grown)
      c.depth_after-self.ensures.most;
}

pub returns : goal.returns
returns c = wrote c.args.self.now _ (token.Mark c.args.mark) c.spelling.result.now (sym c.spelling.ensures) c.in_ok-write.ensures.text
    (c.depth_after-self.ensures.value ∙ ap (λ d. open_after d (token.Mark c.args.mark)) c.write.ensures.depth) c.in_ok-write.ensures.last
