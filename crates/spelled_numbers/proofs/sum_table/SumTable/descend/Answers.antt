use Rattle.std.proofs.Common.{◌≡◌, ◌-◌, length, drop, refl, sym, subst, arith}
use Rattle.spelled_numbers.specs.Steps.{weight_at, IsAtMost}
use Rattle.spelled_numbers.proofs.StepLemmas.{at_most-all}
use Rattle.spelled_numbers.proofs.WaitingLemmas.{IsAsked, asked-next}
use Rattle.spelled_numbers.proofs.sum_table.SumTable.descend.Goals as goal

pub down-init : goal.down-init
down-init c = record { within = c.requires.within; is_rest = c.requires.rest; path = λ first w. w }

pub returns-then-rest-room : goal.returns-then-rest-room
returns-then-rest-room c = λ first w. record {
  last = c.args.room;
  waits = c.down.invariant.path first w;
  right = at_most-all c.args.arena.now (drop (length c.down.waiting.items) c.args.terms.now) c.args.room c.constant.result c.constant.ensures (omega (arith, c.down.invariant.is_rest, c.if-rest-room.true));
}

pub returns-in-Some : goal.returns-in-Some
returns-in-Some c =
    let at : c.len-at.result ≡ length c.down.waiting.items = omega (arith, c.len-at.ensures, c.down.waiting.ok.0) in
    λ first w. record {
      last = c.args.room;
      waits = c.down.invariant.path first w;
      right = subst (λ n. IsAtMost c.args.arena.now (drop n c.args.terms.now) c.args.room c.in-Some.answer) at
          (c.requires.right.right (record { question = c.args.self.now.question; at = c.len-at.result; room = c.args.room; answer = c.in-Some.answer }) c.in-Some.ensures refl);
    }

pub down-preserved : goal.down-preserved
down-preserved c =
    let at : c.len-at.result ≡ length c.down.waiting.items = omega (arith, c.len-at.ensures, c.down.waiting.ok.0) in
    subst (λ n. IsAsked c.args.arena.now c.args.terms.now c.args.waiting.now.items c.push.new.self.items c.args.room (c.down.rest - weight_at c.args.terms.now n)) (sym at)
    (asked-next c.args.arena.now c.args.terms.now c.args.waiting.now.items c.down.waiting.items c.push.new.self.items c.args.room c.down.rest
    c.down.invariant c.if-rest-room.false c.in_ok-push.ensures.items)
