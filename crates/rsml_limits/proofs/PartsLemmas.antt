-- What is counted of a whole specification.
use Rattle.std.proofs.Common.{◌≡◌, ℕ, ◌+◌, List, [], ◌∷◌, ◌++◌, None, length, refl, ap, ◌∙◌, arith}
use Rattle.rsml_syntax.specs.declared.syntax.Decl.{Decl}
use Rattle.rsml_syntax.specs.declared.syntax.Spec.{Spec}
use Rattle.rsml_syntax.specs.rules.Globals.{names_of}
use Rattle.rsml_syntax.specs.limits.Limits.{adds, shown}
use Rattle.rsml_syntax.specs.grammar.Parts.{Declared, Opens, Closes, declared, inside, top_of}
use Rattle.rsml_limits.specs.declared.counts.counted.Counted.{Counted}
use Rattle.rsml_limits.specs.declared.counts.counted.Counted.TheVariants as kinds
use Rattle.rsml_limits.specs.counts.Counting.{CountedNames, counted, count_of, state_count}
use Rattle.rsml_limits.proofs.Adding.{adds_append}
use Rattle.rsml_limits.proofs.CountChildren.{own}

at_any_place : (k : Counted) (w : CountedNames) (place : ℕ) (d : Decl) → counted k w (Declared place d) ≡ counted k w (Declared 0 d)
at_any_place kinds.States w place d = refl
at_any_place kinds.Transitions w place d = refl
at_any_place kinds.Events w place d = refl
at_any_place kinds.Cells w place d = refl
at_any_place kinds.Definitions w place d = refl
at_any_place kinds.Rows w place d = refl

count_declared : (k : Counted) (w : CountedNames) (place : ℕ) (ds : List Decl) → adds (counted k w) (declared place ds) ≡ adds (λ d. counted k w (Declared 0 d)) ds
count_declared k w place [] = refl
count_declared k w place (d ∷ ds) = omega (arith, at_any_place k w place d, count_declared k w (place + length (names_of d)) ds)

pub count_of_parts : (k : Counted) (w : CountedNames) (s : Spec) →
    count_of k w s ≡ adds (λ d. counted k w (Declared 0 d)) s.decls + (state_count k w None s.body + adds (counted k w) (inside None s.body))
count_of_parts k w s =
    omega (
      arith,
      adds_append (counted k w) (declared 0 s.decls) (Opens (top_of s) ∷ (inside None s.body ++ (Closes (top_of s) ∷ []))),
      adds_append (counted k w) (inside None s.body) (Closes (top_of s) ∷ []),
      count_declared k w 0 s.decls,
      own k w (top_of s),
    )

pub counts_joined : (k : Counted) (w : CountedNames) (s : Spec) (ds : List Decl) (d t n : ℕ) → ds ≡ s.decls → d ≡ shown (adds (λ d. counted k w (Declared 0 d)) ds) →
    t ≡ shown (state_count k w None s.body) → n ≡ shown (adds (counted k w) (inside None s.body)) → shown (shown (d + t) + n) ≡ shown (count_of k w s)
counts_joined k w s ds d t n e p q r = omega (arith, count_of_parts k w s, p ∙ ap (λ (xs : List Decl). shown (adds (λ d. counted k w (Declared 0 d)) xs)) e, q, r)
