-- A mention of an event is an event instance, and a mention of a function a function instance.
use Rattle.std.proofs.Common.{◌≡◌, ℕ, true, length, Option, Some, None, refl, sym, ap, subst, true≢false}
use Rattle.rsml_syntax.specs.declared.syntax.Spec.{Spec}
use Rattle.rsml_syntax.specs.declared.syntax.Mention.{Mention}
use Rattle.rsml_syntax.specs.declared.syntax.Amount.{Amount}
use Rattle.rsml_syntax.specs.declared.syntax.Decl.{Decl}
use Rattle.rsml_syntax.specs.declared.syntax.Decl.TheVariants as decl
use Rattle.rsml_syntax.specs.declared.want.Want.TheVariants as want
use Rattle.rsml_syntax.specs.rules.Globals.{size_of, name_of, indices}
use Rattle.rsml_syntax.specs.limits.Comparisons.{index_number}
use Rattle.rsml_syntax.specs.rules.Scopes.{Scope, size_number, is_indexed}
use Rattle.rsml_syntax.specs.rules.Uses.{fits}
use Rattle.rsml_syntax.specs.rules.Declarations.{scope_at}
use Rattle.rsml_syntax.specs.rules.Rules.{name_tables, broken_rule}
use Rattle.rsml_meaning.specs.Words.{IsOne, at}
use Rattle.rsml_meaning.specs.Instances.{globals_of, instances, events_of}
use Rattle.rsml_meaning.specs.Truth.{within, instance}
use Rattle.rsml_meaning.specs.Interfaces.{functions_of, new_function}
use Rattle.rsml_meaning.specs.Scoped.{IsEvent, IsFunction}
use Rattle.rsml_meaning.proofs.Lists.{each_one, one_map, one_flat_map}
use Rattle.rsml_meaning.proofs.Globals.{Means}
use Rattle.rsml_syntax.proofs.Clean.{IsPlaced, each_placed, names_in}
use Rattle.rsml_meaning.proofs.rules.Declared.{size_clean}
use Rattle.rsml_meaning.proofs.rules.Mentions.{IsMentioned}
use Rattle.rsml_meaning.proofs.rules.Sizes.{IsSized, size_is, index_is_in}

-- the size of a declaration is a number from 1 on
pub decl_sized : (s : Spec) → broken_rule s ≡ None → (d : Decl) → IsOne d s.decls → IsSized (globals_of s) (size_of d)
decl_sized s h d m =
    let p = each_one (IsPlaced s) s.decls d (each_placed s h) m in
    size_is s (scope_at (name_tables s) (length (names_in p.before)) (size_of d)) (name_of d) (size_of d) (size_clean (name_tables s) (length (names_in p.before)) d p.clean)

-- An instance at which names are mentioned: its size, and its index.
pub record Inside (s : Spec) (place : Scope) (around : Option Amount) (i : ℕ) : Type 0 where
  pub this : place.this ≡ size_number (globals_of s) around
  pub plain : place.variable ≡ None
  pub sized : IsSized (globals_of s) around
  pub among : IsOne i (indices (globals_of s) around)

-- a mention of what is declared with this size has one of its indices
index_is : (s : Spec) (place : Scope) (around : Option Amount) (i : ℕ) (m : Mention) (size : Option Amount) → Inside s place around i → IsSized (globals_of s) size
    → is_indexed (globals_of s) place (size_number (globals_of s) size) m.index ≡ true → IsOne (index_number (globals_of s) (within i) m.index) (indices (globals_of s) size)
index_is s place around i m size o z h = index_is_in (globals_of s) place around size m.index i o.this o.plain o.sized z o.among h

module _ (s : Spec) (h : broken_rule s ≡ None) (place : Scope) (around : Option Amount) (i : ℕ) (o : Inside s place around i) (m : Mention) where
  pub event_is : IsMentioned s place want.Event m → IsEvent s (instance (globals_of s) (within i) m)
  event_is u = by_parts u.names.known.decl u.names.known.value u.names.fit u.names.means u.indexed
    where
      by_parts : (d : Decl) (v : Option ℕ) → fits want.Event (record { decl = d; value = v }) ≡ true → Means s.decls m.name (record { decl = d; value = v })
          → is_indexed (globals_of s) place (size_number (globals_of s) (size_of d)) m.index ≡ true → IsEvent s (instance (globals_of s) (within i) m)
      by_parts (decl.Event n size) None f means q =
          let same : n ≡ m.name = means.named refl in
          let here = index_is s place around i m size o (decl_sized s h (decl.Event n size) means.among) q in
          one_flat_map (events_of (globals_of s)) s.decls (decl.Event n size) (instance (globals_of s) (within i) m) means.among
          (subst (λ z. IsOne (at z (index_number (globals_of s) (within i) m.index)) (instances (globals_of s) n size)) same
          (one_map (at n) (indices (globals_of s) size) (index_number (globals_of s) (within i) m.index) here))
      by_parts d (Some v) f means q = absurd (true≢false (sym f))
      by_parts (decl.Enumeration n names) None f means q = absurd (true≢false (sym f))
      by_parts (decl.Range n low high) None f means q = absurd (true≢false (sym f))
      by_parts (decl.Constant n value) None f means q = absurd (true≢false (sym f))
      by_parts (decl.Input n size kind initial) None f means q = absurd (true≢false (sym f))
      by_parts (decl.Macro n size rows) None f means q = absurd (true≢false (sym f))
      by_parts (decl.Function n size cases) None f means q = absurd (true≢false (sym f))
      by_parts (decl.Receive n size inputs raised) None f means q = absurd (true≢false (sym f))
      by_parts (decl.Send n size names cases) None f means q = absurd (true≢false (sym f))

  pub function_is : IsMentioned s place want.Function m → IsFunction s (within i) m
  function_is u = by_parts u.names.known.decl u.names.known.value u.names.fit u.names.means u.indexed
    where
      by_parts : (d : Decl) (v : Option ℕ) → fits want.Function (record { decl = d; value = v }) ≡ true → Means s.decls m.name (record { decl = d; value = v })
          → is_indexed (globals_of s) place (size_number (globals_of s) (size_of d)) m.index ≡ true → IsFunction s (within i) m
      by_parts (decl.Function n size cases) None f means q =
          let same : n ≡ m.name = means.named refl in
          let k = index_number (globals_of s) (within i) m.index in
          let here = index_is s place around i m size o (decl_sized s h (decl.Function n size cases) means.among) q in (
            new_function n cases k,
            one_flat_map (functions_of (globals_of s)) s.decls (decl.Function n size cases) (new_function n cases k) means.among (one_map (new_function n cases) (indices (globals_of s) size) k here),
            ap (λ z. at z k) same,
          )
      by_parts d (Some v) f means q = absurd (true≢false (sym f))
      by_parts (decl.Enumeration n names) None f means q = absurd (true≢false (sym f))
      by_parts (decl.Range n low high) None f means q = absurd (true≢false (sym f))
      by_parts (decl.Constant n value) None f means q = absurd (true≢false (sym f))
      by_parts (decl.Input n size kind initial) None f means q = absurd (true≢false (sym f))
      by_parts (decl.Event n size) None f means q = absurd (true≢false (sym f))
      by_parts (decl.Macro n size rows) None f means q = absurd (true≢false (sym f))
      by_parts (decl.Receive n size inputs raised) None f means q = absurd (true≢false (sym f))
      by_parts (decl.Send n size names cases) None f means q = absurd (true≢false (sym f))
