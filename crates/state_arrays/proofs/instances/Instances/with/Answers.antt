use Rattle.std.proofs.Common.{◌++◌, map, ap, ◌∙◌, arith}
use Rattle.rsml_meaning.specs.Words.{at}
use Rattle.state_arrays.specs.Ranges.{range}
use Rattle.state_arrays.specs.Arrays.{has_name}
use Rattle.state_arrays.proofs.ArrayLemmas.{put_last, put_found, put_length}
use Rattle.state_arrays.proofs.instances.Instances.with.Goals as goal

pub invariant_of-result : goal.invariant_of-result
invariant_of-result c =
    let u = c.in_ok-insert.ensures.updates in
    let e = c.in_ok-insert.ensures.entries in
    let v = c.self.invariant in
    let new = ap (λ xs. has_name xs c.args.name.now) c.self.view_is ∙ c.requires in
    let l = put_length c.self.inside.arrays c.insert.new.self c.args.name _ new e v.places in
    let counted = c.count.ensures.is in
    let before = v.is_count in
    record {
      places = put_found c.self.inside.arrays c.insert.new.self c.args.name _ new e v.places v.is_count u.0;
      is_count = omega (arith, before, counted, l);
    }

pub returns : goal.returns
returns c =
    put_last c.self.inside.arrays c.insert.new.self c.args.name _ (ap (λ xs. has_name xs c.args.name.now) c.self.view_is ∙ c.requires) c.in_ok-insert.ensures.entries c.self.invariant.places
    ∙ ap (λ xs. xs ++ map (at c.args.name.now) (range c.args.indices.low c.args.indices.high)) c.self.view_is
