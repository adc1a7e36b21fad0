use Rattle.std.proofs.Common.{◌≡◌, Some, ap, sym, refl, arith}
use Rattle.std.specs.Prelude.{is_some, option_map, position}
use Rattle.rsml_io.specs.Held.{named, refused_once}
use Rattle.rsml_io.proofs.HeldLemmas.{file_there, set_changes, no_file, none_changes, field_rises}
use Rattle.rsml_io.proofs.held.count_fault.Goals as goal

pub returns-in-Some-clause-known : goal.returns-in-Some-clause-known
returns-in-Some-clause-known c =
    let first : Some c.in-Some.place ≡ position (named c.args.name.now) c.args.files.now.items = rw c.as_slice.ensures.value at c.in-Some.ensures.place in
    sym (ap is_some (file_there c.args.files.now.items c.args.name.now c.in-Some.place c.index_mut-file.result.now first c.index_mut-file.ensures.value))

pub returns-in-Some-clause-file : goal.returns-in-Some-clause-file
returns-in-Some-clause-file c =
    let first : Some c.in-Some.place ≡ position (named c.args.name.now) c.args.files.now.items = rw c.as_slice.ensures.value at c.in-Some.ensures.place in
    set_changes c.args.files.now.items c.args.name.now c.in-Some.place c.index_mut-file.result.now first c.index_mut-file.ensures.value
    (option_map refused_once) _ (cc) refl

pub returns-in-Some-clause-count : goal.returns-in-Some-clause-count
returns-in-Some-clause-count c =
    let first : Some c.in-Some.place ≡ position (named c.args.name.now) c.args.files.now.items = rw c.as_slice.ensures.value at c.in-Some.ensures.place in
    let file = c.index_mut-file.result.now in
    let there = file_there c.args.files.now.items c.args.name.now c.in-Some.place file first c.index_mut-file.ensures.value in
    field_rises (λ file. file.faults) refused_once c.args.files.now.items _ c.args.name.now file there (omega arith) (returns-in-Some-clause-file c)

pub returns-in-None-clause-known : goal.returns-in-None-clause-known
returns-in-None-clause-known c = sym (ap is_some (no_file c.args.files.now.items c.args.name.now (rw c.as_slice.ensures.value at c.in-None.ensures.place)))

pub returns-in-None-clause-file : goal.returns-in-None-clause-file
returns-in-None-clause-file c = none_changes c.args.files.now.items c.args.name.now (option_map refused_once) (rw c.as_slice.ensures.value at c.in-None.ensures.place) refl
