-- Conditions over numbers hold where those of the text do.
use Rattle.std.proofs.Common.{◌≡◌, ℕ, ◌<◌, Bool, true, false, not, ◌&&◌, List, map, length, Some, slice_get, IsTrue, refl, sym, ap, ◌∙◌, subst}
use Rattle.std.specs.List.{list_any, AllZip}
use Rattle.std.specs.Cmp.{first_so, second_so}
use Rattle.rsml_syntax.specs.declared.syntax.Spec.{Spec}
use Rattle.rsml_syntax.specs.declared.world.World.{World}
use Rattle.rsml_meaning.specs.Words.{Path, Instance, IsOne, is_proper_prefix, same_path}
use Rattle.rsml_meaning.specs.Instances.{states}
use Rattle.rsml_meaning.specs.Active.{active}
use Rattle.rsml_meaning.specs.Worlds.{IsWorld}
use Rattle.rsml_meaning.specs.Truth.{view}
use Rattle.rsml_meaning.specs.Transitions.{TransitionInstance, transitions, is_on, is_from}
use Rattle.rsml_meaning.specs.Groups.{Group, state, send, function, members, meets, reacts_inside, enabled_count, Sound}
use Rattle.rsml_meaning.proofs.Lists.{both, any_one, any_some, same_truth}
use Rattle.state_arrays.specs.Places.{path_at}
use Rattle.state_tree.specs.Numbers.{path_of}
use Rattle.rsml_ground.specs.Truths.{is_active}
use Rattle.rsml_ground.proofs.DeclaredLemmas.{beside_first, path_is}
use Rattle.ground_members.specs.Members.{TransitionIs, IsState}
use Rattle.ground_groups.specs.declared.group.GroupKind.{GroupKind}
use Rattle.ground_groups.specs.declared.group.GroupKind.TheVariants as kinds
use Rattle.ground_groups.specs.declared.group.Member.{Member}
use Rattle.ground_groups.specs.Groups.{KindIs, MemberIs, AreBelow, is_below}
use Rattle.elaborate.specs.Machine.{GroundMachine, StandsFor}
use Rattle.elaborate.specs.Enabled.{meets_at, count_at, SoundAt}
use Rattle.elaborate.specs.Laws.{ConditionsAreThoseOfTheText, SoundnessIsThatOfTheText}
use Rattle.elaborate.proofs.Enabled.{counts_are}
use Rattle.state_tree.proofs.Lists.{place_of_one}
use Rattle.elaborate.proofs.Lists.{path_below}
use Rattle.elaborate.proofs.Paths.{path_same, path_itself}
use Rattle.elaborate.proofs.Views.{view_active}

-- the test of a transition that reacts inside a path
abbrev reacts : Spec → World → Path → Instance → TransitionInstance → Bool
reacts s w path e t = is_on e t && (is_proper_prefix path t.source && (view s w).is_active t.source)

-- an active state below is the source of a transition that reacts inside
below_reacts : (s : Spec) (w : World) (path : Path) (e : Instance) (ks : List ℕ) → AreBelow s (state path e) ks
    → list_any (is_active s w) ks ≡ true → reacts_inside s (view s w) path e ≡ true
below_reacts s w path e ks below h =
    let a = any_some (is_active s w) ks h in
    let p = path_of s a.0 in
    let b = (below a.0).0 a.1 in
    let proper = first_so (is_proper_prefix path p) (list_any (is_from p e) (transitions s)) b.1 in
    let some = any_some (is_from p e) (transitions s) (second_so (is_proper_prefix path p) (list_any (is_from p e) (transitions s)) b.1) in
    let t = some.0 in
    let on = first_so (is_on e t) (same_path t.source p) some.2 in
    let same = path_same t.source p (second_so (is_on e t) (same_path t.source p) some.2) in
    any_one (reacts s w path e) (transitions s) t some.1
    (both (is_on e t) (is_proper_prefix path t.source && (view s w).is_active t.source) on
    (both (is_proper_prefix path t.source) ((view s w).is_active t.source) (subst (λ z. is_proper_prefix path z ≡ true) (sym same) proper)
    (view_active s w t.source ∙ ap (active s w) same ∙ a.2)))

-- the source of a transition that reacts inside is an active state below
reacts_below : (m : GroundMachine) (w : World) → StandsFor m → (path : Path) (e : Instance) (ks : List ℕ) → AreBelow m.base.spec (state path e) ks
    → reacts_inside m.base.spec (view m.base.spec w) path e ≡ true → list_any (is_active m.base.spec w) ks ≡ true
reacts_below m w stands path e ks below h =
    let s = m.base.spec in
    let some = any_some (reacts s w path e) (transitions s) h in
    let t = some.0 in
    let on = first_so (is_on e t) (is_proper_prefix path t.source && (view s w).is_active t.source) some.2 in
    let rest = second_so (is_on e t) (is_proper_prefix path t.source && (view s w).is_active t.source) some.2 in
    let proper = first_so (is_proper_prefix path t.source) ((view s w).is_active t.source) rest in
    let act = second_so (is_proper_prefix path t.source) ((view s w).is_active t.source) rest in
    let k = place_of_one (transitions s) t some.1 in
    let y = beside_first (TransitionIs m.base.phrases s) (transitions s) m.transitions stands.transitions_are k.0 t k.1 in
    let node = y.0.source in
    let is : path_of s node ≡ t.source = path_is s node t.source y.2.source in
    let from : list_any (is_from (path_of s node) e) (transitions s) ≡ true =
    any_one (is_from (path_of s node) e) (transitions s) t some.1
    (both (is_on e t) (same_path t.source (path_of s node)) on (subst (λ z. same_path t.source z ≡ true) (sym is) (path_itself t.source))) in
    let lower : is_below s path e node ≡ true =
    both (is_proper_prefix path (path_of s node)) (list_any (is_from (path_of s node) e) (transitions s)) (subst (λ z. is_proper_prefix path z ≡ true) (sym is) proper) from in
    any_one (is_active s w) ks node ((below node).1 (path_below s node t.source y.2.source, lower))
    (ap (active s w) is ∙ sym (view_active s w t.source) ∙ act)

pub conditions_are : ConditionsAreThoseOfTheText
conditions_are m w stands (state path e) (kinds.State k j) below is are =
    let s = m.base.spec in
    let inside : list_any (is_active s w) below ≡ reacts_inside s (view s w) path e =
    same_truth (list_any (is_active s w) below) (reacts_inside s (view s w) path e) (below_reacts s w path e below are) (reacts_below m w stands path e below are) in
    ap (λ (b : Bool). b && not (list_any (is_active s w) below)) (ap (active s w) (path_is s k path is.0) ∙ sym (view_active s w path))
    ∙ ap (λ (b : Bool). (view s w).is_active path && not b) inside
conditions_are m w stands (send x e) (kinds.Send k j) below is are = refl
conditions_are m w stands (function f) (kinds.Function k) below is are = refl
conditions_are m w stands (state path e) (kinds.Send k j) below is are = absurd is
conditions_are m w stands (state path e) (kinds.Function k) below is are = absurd is
conditions_are m w stands (send x e) (kinds.State k j) below is are = absurd is
conditions_are m w stands (send x e) (kinds.Function k) below is are = absurd is
conditions_are m w stands (function f) (kinds.State k j) below is are = absurd is
conditions_are m w stands (function f) (kinds.Send k j) below is are = absurd is

pub soundness_is : SoundnessIsThatOfTheText
soundness_is m stands g kind below xs is are z = (
  (λ sound w world met. sym (counts_are m w stands g xs z) ∙ sound w world (subst IsTrue (sym (conditions_are m w stands g kind below is are)) met)),
  (λ sound w world met. counts_are m w stands g xs z ∙ sound w world (subst IsTrue (conditions_are m w stands g kind below is are) met)),
)
