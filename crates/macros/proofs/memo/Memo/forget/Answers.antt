use Rattle.std.proofs.Common.{◌<◌, ◌+◌, ℕ, List, length, sym, ap, ◌∙◌, subst, arith}
use Rattle.std.specs.List.{All}
use Rattle.macros.proofs.Marks.{seen_many, all_zero, many_replicated, IsFresh, fresh_none}
use Rattle.macros.proofs.memo.Memo.forget.Goals as goal
use Rattle.macros.proofs.memo.Memo.forget.Goals.{then-self, else-self}

pub returns : goal.returns
returns c =
    let n = length c.args.self.now in
    let m = c.self.inside in
    fresh_none c.if-self.self-inside n (elim c.if-self.branch [
      | then-self w ↦ subst (IsFresh n) (sym w.self-inside-is) (record {
        many = sym (seen_many m c.self.invariant c.args.self.now c.self.view_is);
        paired = c.self.invariant.paired ∙ sym (ap (λ (xs : List ℕ). length xs) w.clear.ensures ∙ many_replicated (length m.marks.items) 0);
        below = subst (λ (xs : List ℕ). All (λ k. k < 0 + 1) xs) (sym w.clear.ensures) (all_zero (length m.marks.items) 0);
      })
      | else-self w ↦ subst (IsFresh n) (sym w.self-inside-is) (record {
        many = sym (seen_many m c.self.invariant c.args.self.now c.self.view_is);
        paired = c.self.invariant.paired;
        below = λ k d within. let h = c.self.invariant.marks k d within in omega (arith, h);
      })
    ])
