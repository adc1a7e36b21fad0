use Rattle.std.proofs.Common.{◌≡◌, ℕ, List, Some, None, refl, ◌∙◌}
use Rattle.std.specs.Prelude.{position}
use Rattle.rsml_io.specs.Held.{named, added}
use Rattle.rsml_io.proofs.HeldLemmas.{set_changes, push_changes}
use Rattle.rsml_io.proofs.held.put.Goals as goal

pub returns-in-Some-clause-ok : goal.returns-in-Some-clause-ok
returns-in-Some-clause-ok c =
    let name = c.args.name.now in
    let bytes = c.args.bytes.now in
    let file = c.index_mut-file.result.now in
    let first : Some c.in-Some.place ≡ position (named name) c.args.files.now.items = rw c.as_slice.ensures.value at c.in-Some.ensures.place in
    let made : (b : List ℕ) → b ≡ bytes → added name bytes (Some file) ≡ Some (record file { bytes = b }) = λ b e. rw e refl in
    set_changes c.args.files.now.items name c.in-Some.place file first c.index_mut-file.ensures.value
    (added name bytes) _ (made _ c.in_ok-bytes.ensures) refl

pub returns-in_ok-push-in-None-clause-ok : goal.returns-in_ok-push-in-None-clause-ok
returns-in_ok-push-in-None-clause-ok c =
    let name = c.args.name.now in
    let bytes = c.args.bytes.now in
    let none : None ≡ position (named name) c.args.files.now.items = rw c.as_slice.ensures.value at c.in-None.ensures.place in
    let same : c.in_ok-name-in-None.name ≡ name = c.in_ok-name-in-None.ensures ∙ c.as_bytes.ensures.value in
    rw c.in_ok-push-in-None.ensures.items (push_changes c.args.files.now.items name (added name bytes) _ none (rw (same, c.in_ok-bytes.ensures) refl) same)
