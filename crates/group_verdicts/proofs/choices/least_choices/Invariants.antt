use Rattle.std.proofs.Common.{◌≡◌, length, take}
use Rattle.std.specs.Cmp.Lexicographic.{slice_cmp}
use Rattle.std.specs.Ordering.{nat_cmp}
use Rattle.bdd_core.specs.Diagram.{IsRef}
use Rattle.guard_encode.specs.Encoding.{Keeps}
use Rattle.group_verdicts.specs.Finding.{NarrowedLow}
use Rattle.group_verdicts.proofs.choices.least_choices.Given as goal

-- the components so far have their least children
abbrev pub invariant-loop-component : goal.invariant-loop-component
invariant-loop-component l = record {
  keeps : Keeps l.fn.encoder l.encoder;
  is_ref : IsRef l.encoder.diagram l.rest;
  many : length l.choices ≡ l.component;
  narrowed : NarrowedLow l.fn.encoder l.encoder l.read (slice_cmp nat_cmp) (λ w. take l.component w.choices) l.choices l.fn.f l.rest;
}
