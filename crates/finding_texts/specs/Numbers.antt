-- The texts of what has a number; nothing where nothing has it.
use Rattle.std.specs.Prelude.{ℕ, [], ◌++◌, map, slice_get, codes}
use Rattle.std.specs.Option.{option_map_or}
use Rattle.rsml_syntax.specs.declared.syntax.Spec.{Spec}
use Rattle.rsml_meaning.specs.Instances.{states, events}
use Rattle.rsml_meaning.specs.Interfaces.{sends, definitions}
use Rattle.rsml_meaning.specs.Texts.{Text, instance_text, path_text}
use Rattle.state_arrays.specs.Places.{path_at, defined}
use Rattle.ground_groups.specs.declared.group.GroupKind.{GroupKind}
use Rattle.ground_groups.specs.declared.group.GroupKind.TheVariants as kinds

-- the path of the state
abbrev pub state_text : Spec → ℕ → Text
state_text s number = option_map_or path_text (path_at (states s) number) []

-- the event
abbrev pub event_text : Spec → ℕ → Text
event_text s number = option_map_or instance_text (slice_get (events s) number) []

-- the send
abbrev pub send_text : Spec → ℕ → Text
send_text s number = option_map_or instance_text (slice_get (sends s) number) []

-- the macro or the function
abbrev pub definition_text : Spec → ℕ → Text
definition_text s number = option_map_or instance_text (slice_get (map defined (definitions s)) number) []

-- of what a group is
abbrev pub kind_text : Spec → GroupKind → Text
kind_text s (kinds.State state event) = state_text s state ++ (codes " on " ++ event_text s event)
kind_text s (kinds.Send send event) = codes "send " ++ (send_text s send ++ (codes " on " ++ event_text s event))
kind_text s (kinds.Function function) = codes "function " ++ definition_text s function
