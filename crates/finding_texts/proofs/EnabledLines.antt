-- The lines of the members of a group that are enabled.
use Rattle.std.proofs.Common.{◌≡◌, ℕ, ◌<◌, ◌≤◌, Bool, true, false, List, [], ◌∷◌, ◌++◌, flat_map, filter, cond, if◌then◌else◌, take, length, Some, refl, ap, ◌∙◌, slice_get}
use Rattle.std.proofs.lemmas.List.{take_all}
use Rattle.rsml_syntax.specs.declared.syntax.Spec.{Spec}
use Rattle.rsml_syntax.specs.declared.world.World.{World}
use Rattle.rsml_meaning.specs.Truth.{View, view}
use Rattle.rsml_meaning.specs.Groups.{Group, groups, members, enabled}
use Rattle.rsml_meaning.specs.Groups as meaning_of
use Rattle.rsml_meaning.specs.Texts.{Text}
use Rattle.rsml_meaning.specs.Report.{enabled_text}
use Rattle.ground_groups.specs.declared.group.Member.{Member}
use Rattle.ground_groups.specs.Groups.{IsMemberAt}
use Rattle.state_tree.proofs.Lists.{within_get}
use Rattle.finding_texts.specs.Lines.{member_line, line_if_enabled}
use Rattle.finding_texts.specs.Members.{IsMember}

kept : (v : View) (ms : List meaning_of.Member) → flat_map (line_if_enabled v) ms ≡ flat_map member_line (filter (enabled v) ms)
kept v [] = refl
kept v (m ∷ ms) = by (enabled v m) (kept v ms)
  where
    by : (b : Bool) → flat_map (line_if_enabled v) ms ≡ flat_map member_line (filter (enabled v) ms)
        → (if b then member_line m else []) ++ flat_map (line_if_enabled v) ms ≡ flat_map member_line (cond b (m ∷ filter (enabled v) ms) (filter (enabled v) ms))
    by true h = ap (λ (t : Text). member_line m ++ t) h
    by false h = h

-- all lines are those of the enabled members
pub all_lines : (s : Spec) (w : World) (g : Group) (n : ℕ) → length (members s g) ≤ n → flat_map (line_if_enabled (view s w)) (take n (members s g)) ≡ enabled_text s g w
all_lines s w g n l = ap (λ (ms : List meaning_of.Member). flat_map (line_if_enabled (view s w)) ms) (take_all n (members s g) l) ∙ kept (view s w) (members s g)

-- what stands at a place of a group is a member
pub is_member : (s : Spec) (group place : ℕ) (x : Member) → group < length (groups s) → ((g : Group) → slice_get (groups s) group ≡ Some g → IsMemberAt s g place x) → IsMember s x
is_member s group place x l h = let g = within_get (groups s) group l in let m = h g.0 g.1 in (m.0, m.2)
