use Rattle.std.proofs.Common.{arith}
use Rattle.std.proofs.lemmas.Int.{ints}
use Rattle.linear_conflicts.proofs.combination.contradicts.Goals as goal

pub returns : goal.returns
returns c told = record {
  places = c.in-Some.ensures.places;
  contradict = λ v within met. absurd (omega (arith, ints, told, c.in-Some.ensures.most v met, c.in-Some-least_of.ensures v within, c.requires v));
}
