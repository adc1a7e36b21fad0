-- The cells that a receive writes are there, and so is the event that it raises.
use Rattle.std.proofs.Common.{◌≡◌, ℕ, ◌≤◌, List, [], ◌++◌, map, flat_map, length, Some, refl, ap, ◌∙◌, arith}
use Rattle.rsml_syntax.specs.declared.syntax.Spec.{Spec}
use Rattle.rsml_syntax.specs.declared.syntax.Decl.{Decl}
use Rattle.rsml_syntax.specs.declared.syntax.Decl.TheVariants as decl
use Rattle.rsml_syntax.specs.declared.syntax.Mention.{Mention}
use Rattle.rsml_syntax.specs.declared.want.Want.{Want}
use Rattle.rsml_syntax.specs.declared.want.Want.TheVariants as want
use Rattle.rsml_syntax.specs.limits.Checked.{IsChecked}
use Rattle.rsml_syntax.specs.limits.Comparisons.{Indices, index_number}
use Rattle.rsml_syntax.specs.rules.Globals.{size_of, indices}
use Rattle.rsml_syntax.specs.rules.Scopes.{Scope}
use Rattle.rsml_syntax.specs.rules.Uses.{mentioned}
use Rattle.rsml_syntax.specs.rules.Declarations.{repeats, scope_at}
use Rattle.rsml_syntax.specs.rules.Rules.{name_tables}
use Rattle.rsml_syntax.proofs.Clean.{names_in, no_front, no_back, none_each}
use Rattle.rsml_meaning.specs.Words.{Instance, Each, IsOne, same_instance, place_in}
use Rattle.rsml_meaning.specs.Instances.{globals_of, events}
use Rattle.rsml_meaning.specs.Truth.{within, instance}
use Rattle.rsml_meaning.specs.Interfaces.{new_receive, receives_of, receives}
use Rattle.rsml_meaning.proofs.Same.{instance_itself}
use Rattle.rsml_meaning.proofs.Lists.{each_flat_map, each_map_ones, each_one}
use Rattle.rsml_meaning.proofs.rules.Declared.{contents_clean}
use Rattle.rsml_meaning.proofs.rules.Mentions.{IsMentioned, mentioned_is}
use Rattle.rsml_meaning.proofs.rules.Used.{event_is}
use Rattle.rsml_ground.specs.Scoped.{InputIsScoped, ReceiveIsScoped}
use Rattle.rsml_ground.proofs.Declared.{placed, decl_few}
use Rattle.rsml_ground.proofs.Found.{first_is}
use Rattle.rsml_ground.proofs.Operands.{input_scoped}
use Rattle.rsml_ground.proofs.Reading.{Reads, reads_plain, few_sized, index_few}
use Rattle.rsml_ground.proofs.Values.{HasFewValues}

-- what is among instances has a place among them
instance_place : (xs : List Instance) (x : Instance) → IsOne x xs → (n : ℕ) × (place_in xs x ≡ Some n)
instance_place xs x m = let f = first_is (same_instance x) 0 xs x m (instance_itself x) in (f.place, f.is ∙ ap (λ n. Some n) (omega arith))

module _ (s : Spec) (checked : IsChecked s) (few : HasFewValues s) where
  -- the index of a mention is small
  mention_few : (place : Scope) (r : Indices) → Reads s place r → (wanted : Want) (m : Mention) → IsMentioned s place wanted m → index_number (globals_of s) r m.index ≤ 64
  mention_few place r o wanted m u =
      let d = u.names.known.decl in
      index_few s place r o (size_of d) (decl_few s checked.keeps.rules d u.names.means.among) m.index u.indexed

  -- what the cells that the receive instances write and the events that they raise are there
  pub receives_scoped : Each (ReceiveIsScoped s) (receives s)
  receives_scoped = each_flat_map (ReceiveIsScoped s) (receives_of (globals_of s)) s.decls of_decl
    where
      of_decl : (d : Decl) → IsOne d s.decls → Each (ReceiveIsScoped s) (receives_of (globals_of s) d)
      of_decl (decl.Receive name size inputs raised) m =
          let w = name_tables s in
          let h = checked.keeps.rules in
          let d = decl.Receive name size inputs raised in
          let p = placed s h d m in
          let n = length (names_in p.before) in
          let place = scope_at w n size in
          let written = flat_map (mentioned w place want.Input) inputs in
          let repeated = repeats 14 [] (map (λ (m : Mention). m.name) inputs) in
          let last = mentioned w place want.Event raised in
          let clean = contents_clean w n d p.clean in
          let event = mentioned_is s place want.Event raised (no_back repeated last (no_back written (repeated ++ last) clean)) in
          let used = none_each (mentioned w place want.Input) inputs (no_front written (repeated ++ last) clean) in
          let sized = few_sized (globals_of s) size (decl_few s h d m) in
          each_map_ones (ReceiveIsScoped s) (new_receive (globals_of s) name inputs raised) (indices (globals_of s) size)
          (λ i k.
          let o = reads_plain s place size i refl refl sized k in
          let at_event = instance_place (events s) (instance (globals_of s) (within i) raised) (event_is s h place size i (record { this = refl; plain = refl; sized = sized; among = k }) raised event) in
          record {
            inputs = each_map_ones (InputIsScoped s) (instance (globals_of s) (within i)) inputs
                (λ x l. input_scoped s checked few place (within i) o x (each_one (λ x. mentioned w place want.Input x ≡ []) inputs x used l));
            event = at_event.0;
            place = at_event.1;
            fits = mention_few place (within i) o want.Event raised event;
          })
      of_decl _ m = tt
