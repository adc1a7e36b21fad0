-- Where each name is the same constant, sizes, indices, instances and states are the same.
use Rattle.std.proofs.Common.{◌≡◌, ◌∷◌, [], ◌++◌, List, map, flat_map, Option, Some, None, unsigned_abs, refl, ap}
use Rattle.std.specs.Option.{option_map_or}
use Rattle.rsml_syntax.specs.declared.syntax.Spec.{Spec}
use Rattle.rsml_syntax.specs.declared.syntax.Amount.{Amount}
use Rattle.rsml_syntax.specs.declared.syntax.Amount.TheVariants as amounts
use Rattle.rsml_syntax.specs.declared.syntax.Index.{Index}
use Rattle.rsml_syntax.specs.declared.syntax.Index.TheVariants as index
use Rattle.rsml_syntax.specs.declared.syntax.Mention.{Mention}
use Rattle.rsml_syntax.specs.declared.syntax.Body.{Body, Basic, One', All', Row_of-StateDecl, end_of-StateDecl, more_of-StateDecl}
use Rattle.rsml_syntax.specs.text.Names.{Name}
use Rattle.rsml_syntax.specs.rules.Globals.{Globals, constant, many, up_to, indices}
use Rattle.rsml_syntax.specs.limits.Comparisons.{Indices, variable_value, index_number}
use Rattle.rsml_meaning.specs.Words.{Path, at, child_path}
use Rattle.rsml_meaning.specs.Instances.{new_state, inside, row_inside, states, globals_of}
use Rattle.rsml_meaning.specs.Truth.{instance}
use Rattle.claim_syntax.specs.declared.claim.Claim.{Claim}
use Rattle.claim_syntax.specs.Joined.{joined}
use Rattle.ground_claims.proofs.Constants.{same_constant}

module _ (g h : Globals) (same : (name : Name) → constant g name ≡ constant h name) where
  pub same_many : (size : Option Amount) → many g size ≡ many h size
  same_many None = refl
  same_many (Some (amounts.Number n)) = refl
  same_many (Some (amounts.Name name)) = ap (λ o. option_map_or unsigned_abs o 1) (same name)

  pub same_indices : (size : Option Amount) → indices g size ≡ indices h size
  same_indices None = refl
  same_indices (Some amount) = ap up_to (same_many (Some amount))

  pub same_index : (r : Indices) (i : Option Index) → index_number g r i ≡ index_number h r i
  same_index r None = refl
  same_index r (Some (index.Number n)) = refl
  same_index r (Some (index.Name name)) = ap (λ o. option_map_or (λ n. n) (variable_value r name) (option_map_or unsigned_abs o 0)) (same name)
  same_index r (Some index.This) = refl

  pub same_instance : (r : Indices) (m : Mention) → instance g r m ≡ instance h r m
  same_instance r m = ap (at m.name) (same_index r m.index)

  pub same_path : (r : Indices) (path : List Mention) → map (instance g r) path ≡ map (instance h r) path
  same_path r path = λ i. map (λ m. same_instance r m i) path

  mutual
    same_inside : (body : Body) (path : Path) → inside g body path ≡ inside h body path
    same_inside Basic path = refl
    same_inside (One' _ _ children buses transitions) path = same_row children path
    same_inside (All' _ children) path = same_row children path

    same_row : {n : _} (row : Row_of-StateDecl n) (path : Path) → row_inside g row path ≡ row_inside h row path
    same_row end_of-StateDecl path = refl
    same_row (more_of-StateDecl name size body others) path =
        λ i. flat_map (λ k. new_state body (child_path path (at name k)) ∷ same_inside body (child_path path (at name k)) i) (same_indices size i) ++ same_row others path i

module _ (s : Spec) (cs : List Claim) where
  pub claims_change_no_constant : (name : Name) → constant (globals_of (joined s cs)) name ≡ constant (globals_of s) name
  claims_change_no_constant = same_constant s.decls cs

  pub same_states : states (joined s cs) ≡ states s
  same_states = λ i. new_state s.body (at s.top 0 ∷ []) ∷ same_inside (globals_of (joined s cs)) (globals_of s) claims_change_no_constant s.body (at s.top 0 ∷ []) i
