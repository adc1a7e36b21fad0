-- What a receive raises is an event.
use Rattle.std.proofs.Common.{◌≡◌, [], ◌++◌, map, length, flat_map, None, refl}
use Rattle.rsml_syntax.specs.declared.syntax.Spec.{Spec}
use Rattle.rsml_syntax.specs.declared.syntax.Decl.{Decl}
use Rattle.rsml_syntax.specs.declared.syntax.Decl.TheVariants as decl
use Rattle.rsml_syntax.specs.declared.want.Want.TheVariants as want
use Rattle.rsml_syntax.specs.rules.Globals.{indices}
use Rattle.rsml_syntax.specs.rules.Uses.{mentioned}
use Rattle.rsml_syntax.specs.rules.Declarations.{repeats, scope_at}
use Rattle.rsml_syntax.specs.rules.Rules.{name_tables, broken_rule}
use Rattle.rsml_syntax.proofs.Clean.{IsPlaced, each_placed, names_in, no_back}
use Rattle.rsml_meaning.specs.Words.{Each, IsOne}
use Rattle.rsml_meaning.specs.Instances.{globals_of}
use Rattle.rsml_meaning.specs.Interfaces.{ReceiveInstance, new_receive, receives_of, receives}
use Rattle.rsml_meaning.specs.Scoped.{IsEvent}
use Rattle.rsml_meaning.proofs.Lists.{each_flat_map, each_map_ones, each_one}
use Rattle.rsml_meaning.proofs.rules.Declared.{contents_clean}
use Rattle.rsml_meaning.proofs.rules.Mentions.{mentioned_is}
use Rattle.rsml_meaning.proofs.rules.Used.{decl_sized, event_is}

abbrev RaisesEvent : Spec → ReceiveInstance → Type 0
RaisesEvent s r = IsEvent s r.raised

pub receives_scoped : (s : Spec) → broken_rule s ≡ None → Each (RaisesEvent s) (receives s)
receives_scoped s h = each_flat_map (RaisesEvent s) (receives_of (globals_of s)) s.decls of_decl
  where
    of_decl : (d : Decl) → IsOne d s.decls → Each (RaisesEvent s) (receives_of (globals_of s) d)
    of_decl (decl.Receive name size inputs raised) m =
        let d = decl.Receive name size inputs raised in
        let p = each_one (IsPlaced s) s.decls d (each_placed s h) m in
        let n = length (names_in p.before) in
        let place = scope_at (name_tables s) n size in
        let repeated = repeats 14 [] (map (λ m. m.name) inputs) in
        let used = no_back repeated (mentioned (name_tables s) place want.Event raised)
        (no_back (flat_map (mentioned (name_tables s) place want.Input) inputs) (repeated ++ mentioned (name_tables s) place want.Event raised) (contents_clean (name_tables s) n d p.clean)) in
        each_map_ones (RaisesEvent s) (new_receive (globals_of s) name inputs raised) (indices (globals_of s) size)
        (λ i k. event_is s h place size i (record { this = refl; plain = refl; sized = decl_sized s h d m; among = k }) raised (mentioned_is s place want.Event raised used))
    of_decl _ m = tt
