use Rattle.std.proofs.Common.{length, take, List, sym, ap, ◌∙◌, subst, IfSome}
use Rattle.std.proofs.lemmas.Option.{IfSome_then}
use Rattle.std.proofs.lemmas.Result.{IfOk-weaker}
use Rattle.rsml_meaning.specs.Cells.{cells}
use Rattle.rsml_ground.specs.Truths.{Grounded}
use Rattle.keyed_levels.specs.declared.keyed.Keyed.{Keyed}
use Rattle.keyed_levels.specs.Keyed.{PhraseFits, StandsFor}
use Rattle.guard_encode.specs.Encoding.{Encoding, Grows, encoding_of}
use Rattle.guard_encode.proofs.BoundLemmas.{bound_encoded, bound_exact, bound_grows, grows_itself, own_stands}
use Rattle.guard_encode.proofs.StepLemmas.{own_exact}
use Rattle.guard_encode.proofs.encoder.Encoder.stand_for.Goals as goal

pub stand_for-level-requires : goal.stand_for-level-requires
stand_for-level-requires c =
    subst (λ (g : Grounded). PhraseFits (length (cells g.spec)) c.args.bound) (sym c.self.invariant.same)
    (subst (λ (e : Encoding). PhraseFits (length (cells e.machine.base.spec)) c.args.bound) (sym c.self.view_is) c.requires)

pub invariant_of-self-2 : goal.invariant_of-self-2
invariant_of-self-2 c =
    bound_encoded c.self.inside.machine.now c.self.inside.levels c.stand_for-level.new.self c.self.inside.arena _ c.keep.new.self c.self.invariant c.keys.ensures.law
    c.stand_for-level.ensures.extends c.stand_for-level.ensures.first
    (bound_exact c.self.inside.arena c.self.inside.levels c.stand_for-level.new.self c.self.inside.exact c.push.new.self c.keep.new.self (own_exact _ _ _ _ c.self.invariant)
    c.stand_for-level.ensures.extends c.stand_for-level.ensures.few c.in_ok-push.ensures.ok
    (c.keep.ensures ∙ ap (λ (ks : List Keyed). take (length ks) c.push.new.self) c.keys.ensures.keyed))

pub returns-clause-level : goal.returns-clause-level
returns-clause-level c =
    IfOk-weaker c.stand_for-level.result (λ found. IfSome found (StandsFor c.stand_for-level.new.self c.args.bound)) _
    (λ found h. IfSome_then found h
    (λ level stands. own_stands c.self.inside.machine.now c.stand_for-level.new.self c.self.inside.arena c.args.bound level (c.stand_for-level.ensures.extends.base ∙ c.self.invariant.same) stands))
    c.stand_for-level.ensures.level

pub returns-clause-grows : goal.returns-clause-grows
returns-clause-grows c =
    subst (λ (e : Encoding). Grows e (encoding_of c.self.inside.machine.now c.stand_for-level.new.self c.self.inside.arena)) c.self.view_is
    (bound_grows c.self.inside.machine.now c.self.inside.levels c.stand_for-level.new.self c.self.inside.arena c.self.invariant.same c.stand_for-level.ensures.extends c.stand_for-level.ensures.first)

pub returns-in_err-push-clause-grows : goal.returns-in_err-push-clause-grows
returns-in_err-push-clause-grows c =
    let same = encoding_of c.self.inside.machine.now c.self.inside.levels c.self.inside.arena in
    subst (λ (e : Encoding). Grows e same) c.self.view_is (grows_itself same)
