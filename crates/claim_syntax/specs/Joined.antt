-- Claims among the declarations of a specification.
use Rattle.std.specs.Prelude.{List, None, map, ◌++◌}
use Rattle.rsml_syntax.specs.declared.syntax.Decl.{Decl}
use Rattle.rsml_syntax.specs.declared.syntax.Decl.TheVariants as decls
use Rattle.rsml_syntax.specs.declared.syntax.Spec.{Spec}
use Rattle.claim_syntax.specs.declared.claim.Claim.{Claim}

-- a claim as a declaration: a macro without a size
abbrev pub macro_of : Claim → Decl
macro_of c = decls.Macro c.name None c.rows

-- the joined specification: the claims stand after its declarations, and all else is the same
abbrev pub joined : Spec → List Claim → Spec
joined s cs = record { name = s.name; decls = s.decls ++ map macro_of cs; top = s.top; body = s.body }
