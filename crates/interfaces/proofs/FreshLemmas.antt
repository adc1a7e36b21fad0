-- A receive names no input twice.
use Rattle.std.proofs.Common.{◌≡◌, ℕ, Bool, true, false, ◌||◌, List, [], ◌∷◌, ◌++◌, map, flat_map, length, refl, sym, ap, ◌∙◌, subst, true≢false}
use Rattle.std.specs.Cmp.{first_so}
use Rattle.std.specs.List.{list_any}
use Rattle.std.proofs.lemmas.List.{map-append}
use Rattle.rsml_syntax.specs.declared.syntax.Spec.{Spec}
use Rattle.rsml_syntax.specs.declared.syntax.Decl.{Decl}
use Rattle.rsml_syntax.specs.declared.syntax.Decl.TheVariants as decl
use Rattle.rsml_syntax.specs.declared.syntax.Mention.{Mention}
use Rattle.rsml_syntax.specs.declared.want.Want.TheVariants as want
use Rattle.rsml_syntax.specs.limits.Checked.{IsChecked}
use Rattle.rsml_syntax.specs.text.Names.{Name, same, is_in}
use Rattle.rsml_syntax.specs.rules.Breaches.{breach}
use Rattle.rsml_syntax.specs.rules.Globals.{indices}
use Rattle.rsml_syntax.specs.rules.Declarations.{repeats, scope_at}
use Rattle.rsml_syntax.specs.rules.Rules.{name_tables}
use Rattle.rsml_syntax.specs.rules.Uses.{mentioned}
use Rattle.rsml_syntax.proofs.Clean.{names_in, no_front, no_back, unbroken}
use Rattle.rsml_meaning.specs.Words.{Instance, Each, IsOne, same_instance, has}
use Rattle.rsml_meaning.specs.Instances.{globals_of}
use Rattle.rsml_meaning.specs.Interfaces.{ReceiveInstance, new_receive, receives_of, receives}
use Rattle.rsml_meaning.specs.Truth.{within, instance}
use Rattle.rsml_meaning.proofs.Lists.{each_flat_map, each_map}
use Rattle.rsml_meaning.proofs.rules.Declared.{contents_clean}
use Rattle.rsml_meaning.proofs.rules.Names.{is_in_any}
use Rattle.rsml_ground.proofs.Declared.{placed}
use Rattle.interfaces.proofs.LatchLemmas.{AreFresh}

abbrev name_of : Mention → Name
name_of m = m.name

module _ (s : Spec) (i : ℕ) where
  abbrev inst : Mention → Instance
  inst m = instance (globals_of s) (within i) m

  none_has : (earlier : List Mention) (m : Mention) → list_any (same m.name) (map name_of earlier) ≡ false → has (map inst earlier) (inst m) ≡ false
  none_has [] m h = refl
  none_has (k ∷ earlier) m h = by (same m.name k.name) (same_instance (inst m) (inst k)) h (λ e. first_so (same m.name k.name) _ e) (λ e. none_has earlier m e)
    where
      by : (b c : Bool) → (b || list_any (same m.name) (map name_of earlier)) ≡ false → (c ≡ true → b ≡ true) → (list_any (same m.name) (map name_of earlier) ≡ false → has (map inst earlier) (inst m) ≡ false)
          → (c || has (map inst earlier) (inst m)) ≡ false
      by true c e f n = absurd (true≢false e)
      by false true e f n = absurd (true≢false (sym (f refl)))
      by false false e f n = n e

  fresh_from : (earlier ms : List Mention) → repeats 14 (map name_of earlier) (map name_of ms) ≡ [] → AreFresh (map inst earlier) (map inst ms)
  fresh_from earlier [] h = tt
  fresh_from earlier (m ∷ ms) h =
      let first = no_front (breach 14 m.name (is_in m.name (map name_of earlier))) (repeats 14 (map name_of earlier ++ (m.name ∷ [])) (map name_of ms)) h in
      let rest = no_back (breach 14 m.name (is_in m.name (map name_of earlier))) (repeats 14 (map name_of earlier ++ (m.name ∷ [])) (map name_of ms)) h in (
        none_has earlier m (sym (is_in_any m.name (map name_of earlier)) ∙ unbroken 14 m.name (is_in m.name (map name_of earlier)) first),
        subst (λ xs. AreFresh xs (map inst ms)) (map-append inst earlier (m ∷ []))
            (fresh_from (earlier ++ (m ∷ [])) ms (ap (λ (ns : List Name). repeats 14 ns (map name_of ms)) (map-append name_of earlier (m ∷ [])) ∙ rest)),
      )

pub each_fresh : (s : Spec) → IsChecked s → Each (λ x. AreFresh [] x.inputs) (receives s)
each_fresh s checked = each_flat_map (λ (x : ReceiveInstance). AreFresh [] x.inputs) (receives_of (globals_of s)) s.decls of_decl
  where
    of_decl : (d : Decl) → IsOne d s.decls → Each (λ x. AreFresh [] x.inputs) (receives_of (globals_of s) d)
    of_decl (decl.Receive name size inputs raised) m =
        let w = name_tables s in
        let d = decl.Receive name size inputs raised in
        let p = placed s checked.keeps.rules d m in
        let n = length (names_in p.before) in
        let place = scope_at w n size in
        let written = flat_map (mentioned w place want.Input) inputs in
        let repeated = repeats 14 [] (map name_of inputs) in
        let last = mentioned w place want.Event raised in
        let clean = no_front repeated last (no_back written (repeated ++ last) (contents_clean w n d p.clean)) in
        each_map (λ (x : ReceiveInstance). AreFresh [] x.inputs) (new_receive (globals_of s) name inputs raised) (indices (globals_of s) size) (λ i. fresh_from s i [] inputs clean)
    of_decl _ m = tt
