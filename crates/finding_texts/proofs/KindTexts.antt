-- The text of what a group is, over numbers, is that of the group.
use Rattle.std.proofs.Common.{◌≡◌, [], ◌++◌, codes, Option, ap, ◌∙◌}
use Rattle.std.specs.Option.{option_map, option_map_or}
use Rattle.std.proofs.lemmas.Option.{slice_get-map}
use Rattle.rsml_syntax.specs.declared.syntax.Spec.{Spec}
use Rattle.rsml_meaning.specs.Words.{Instance, Path}
use Rattle.rsml_meaning.specs.Interfaces.{Definition, definitions}
use Rattle.rsml_meaning.specs.Groups.{Group, state, send, function}
use Rattle.rsml_meaning.specs.Texts.{instance_text, path_text}
use Rattle.rsml_meaning.specs.Report.{group_text}
use Rattle.state_arrays.specs.Places.{defined}
use Rattle.ground_groups.specs.declared.group.GroupKind.{GroupKind}
use Rattle.ground_groups.specs.declared.group.GroupKind.TheVariants as kinds
use Rattle.ground_groups.specs.Groups.{KindIs}
use Rattle.finding_texts.specs.Numbers.{event_text, kind_text}

pub kind_is : (s : Spec) (g : Group) (kind : GroupKind) → KindIs s g kind → kind_text s kind ≡ group_text g
kind_is s (state path e) (kinds.State k j) is =
    ap (λ (o : Option Path). option_map_or path_text o [] ++ (codes " on " ++ event_text s j)) is.0
    ∙ ap (λ (o : Option Instance). path_text path ++ (codes " on " ++ option_map_or instance_text o [])) is.1
kind_is s (send x e) (kinds.Send k j) is =
    ap (λ (o : Option Instance). codes "send " ++ (option_map_or instance_text o [] ++ (codes " on " ++ event_text s j))) is.0
    ∙ ap (λ (o : Option Instance). codes "send " ++ (instance_text x ++ (codes " on " ++ option_map_or instance_text o []))) is.1
kind_is s (function f) (kinds.Function k) is =
    ap (λ (o : Option Instance). codes "function " ++ option_map_or instance_text o []) (slice_get-map defined (definitions s) k ∙ ap (λ (o : Option Definition). option_map defined o) is)
kind_is s (state path e) (kinds.Send k j) is = absurd is
kind_is s (state path e) (kinds.Function k) is = absurd is
kind_is s (send x e) (kinds.State k j) is = absurd is
kind_is s (send x e) (kinds.Function k) is = absurd is
kind_is s (function f) (kinds.State k j) is = absurd is
kind_is s (function f) (kinds.Send k j) is = absurd is
