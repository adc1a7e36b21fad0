use Rattle.std.proofs.Common.{◌≡◌, ℕ, List, Option, Some, None, slice_get, find, length, ◌<◌, ◌≤◌, Bor, sym, ap, ◌∙◌}
use Rattle.std.specs.List.{HoldsAt}
use Rattle.std.proofs.lemmas.Option.{slice_get_past, slice_get-get_or}
use Rattle.std.specs.Option.{option_map, option_and_then, option_copied, MatchOption}
use Rattle.rsml_syntax.specs.text.Names.{Name, same, place_of}
use Rattle.rsml_syntax.specs.rules.Scopes.{Variable}
use Rattle.rsml_names.proofs.BoundLemmas.{first_passing}
use Rattle.rsml_names.specs.Bound.{joined}
use Rattle.rsml_names.proofs.variables.Variables.first.Goals as goal

-- what was read of a slice
read : (r : Option (Bor ℕ)) (places : List ℕ) (i : ℕ) → MatchOption r (length places ≤ i) (λ x. (i < length places) × HoldsAt (λ y. x.now ≡ y) places i) → option_copied r ≡ slice_get places i
read None places i h = sym (slice_get_past places i h)
read (Some x) places i h = ap (λ (n : ℕ). Some n) (h.1 x.now) ∙ sym (slice_get-get_or places i x.now h.0)

-- what stands at the first place of a name, if it is anywhere, is what the clause says
told : (r : Option ℕ) (name bytes : Name) (at : Option ℕ) (names : List Name) (places : List ℕ) (vs : List Variable) → r ≡ option_and_then (slice_get places) at →
    at ≡ place_of bytes names → bytes ≡ name → length names ≡ length places → joined names places ≡ vs → r ≡ option_map (λ (v : Variable). v.place) (find (λ (v : Variable). same name v.name) vs)
told r name bytes at names places vs here found same_name lengths view =
    here
    ∙ ap (λ (o : Option ℕ). option_and_then (slice_get places) o) (found ∙ ap (λ (n : Name). place_of n names) same_name)
    ∙ first_passing (same name) names places lengths
    ∙ ap (λ (ws : List Variable). option_map (λ (v : Variable). v.place) (find (λ (v : Variable). same name v.name) ws)) view

pub returns-in_err-first : goal.returns-in_err-first
returns-in_err-first c =
    told c.from_residual.result c.args.name.now c.bytes.result.now None c.self.inside.names c.self.inside.places.items c.args.self.now
    c.from_residual.ensures c.in_err-first.ensures c.bytes.ensures c.self.invariant c.self.view_is

pub returns : goal.returns
returns c =
    told c.copied.result c.args.name.now c.bytes.result.now (Some c.in_ok-first.first) c.self.inside.names c.self.inside.places.items c.args.self.now
    (c.copied.ensures ∙ read c.get.result c.self.inside.places.items c.in_ok-first.first (rw c.deref.ensures.value at c.get.ensures.lookup.3)) c.in_ok-first.ensures c.bytes.ensures c.self.invariant c.self.view_is
