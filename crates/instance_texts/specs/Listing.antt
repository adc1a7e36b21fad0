-- Instances with their declarations, in the order of the text.
use Rattle.std.specs.Prelude.{ℕ, Bool, true, false, List, [], map, flat_map, if◌then◌else◌}
use Rattle.rsml_syntax.specs.declared.syntax.Spec.{Spec}
use Rattle.rsml_syntax.specs.declared.syntax.Decl.{Decl}
use Rattle.rsml_syntax.specs.declared.syntax.Decl.TheVariants as decl
use Rattle.rsml_syntax.specs.rules.Globals.{Globals, name_of, size_of, indices}
use Rattle.rsml_meaning.specs.Words.{Instance, at}
use Rattle.rsml_meaning.specs.Instances.{globals_of}
use Rattle.instance_texts.specs.declared.sorts.Sort.{Sort}
use Rattle.instance_texts.specs.declared.sorts.Sort.TheVariants as sorts

-- An instance: its declaration, and its index there.
pub record Listed : Type 0 where
  pub decl : Decl
  pub index : ℕ

-- the instance of a declaration at an index
abbrev pub at_index : Decl → ℕ → Listed
at_index d i = record { decl = d; index = i }

-- its name, with its index
abbrev pub instance_of : Listed → Instance
instance_of x = at (name_of x.decl) x.index

-- the declaration is one of this sort
abbrev pub is_of : Sort → Decl → Bool
is_of sorts.Event (decl.Event _ _) = true
is_of sorts.Input (decl.Input _ _ _ _) = true
is_of sorts.Definition (decl.Macro _ _ _) = true
is_of sorts.Definition (decl.Function _ _ _) = true
is_of sorts.Receive (decl.Receive _ _ _ _) = true
is_of sorts.Send (decl.Send _ _ _ _) = true
is_of _ _ = false

-- the instances of a declaration, where it is one of this sort
abbrev pub listed_by : Sort → Globals → Decl → List Listed
listed_by sort g d = if is_of sort d then map (at_index d) (indices g (size_of d)) else []

-- the instances of a sort in a specification
abbrev pub all_listed : Sort → Spec → List Listed
all_listed sort s = flat_map (listed_by sort (globals_of s)) s.decls
