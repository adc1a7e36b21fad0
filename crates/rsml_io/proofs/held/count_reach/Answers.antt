use Rattle.std.proofs.Common.{◌≡◌, Some, None, refl}
use Rattle.std.specs.Prelude.{option_map, position}
use Rattle.rsml_io.specs.Held.{named, reached}
use Rattle.rsml_io.proofs.HeldLemmas.{set_changes, none_changes}
use Rattle.rsml_io.proofs.held.count_reach.Goals as goal

pub returns-in-Some : goal.returns-in-Some
returns-in-Some c =
    let first : Some c.in-Some.place ≡ position (named c.args.name.now) c.args.files.now.items = rw c.as_slice.ensures.value at c.in-Some.ensures.place in
    set_changes c.args.files.now.items c.args.name.now c.in-Some.place c.index_mut-file.result.now first c.index_mut-file.ensures.value
    (option_map (reached c.args.to)) _ (cc) refl

pub returns-in_default : goal.returns-in_default
returns-in_default c =
    let none : None ≡ position (named c.args.name.now) c.args.files.now.items = rw c.as_slice.ensures.value at c.in_default.ensures.place in
    none_changes c.args.files.now.items c.args.name.now (option_map (reached c.args.to)) none refl
