use Rattle.std.proofs.Common.{◌≡◌, List, [], ◌∷◌, ◌++◌, length, map, refl, sym, ap, ◌∙◌, append_assoc, append-nil, arith}
use Rattle.std.specs.Vec.Iter.{into_iter_items}
use Rattle.rsml_syntax.specs.declared.syntax.Decl.{Decl}
use Rattle.rsml_syntax.specs.declared.syntax.Spec.{Spec}
use Rattle.claim_syntax.specs.declared.claim.Claim.{Claim}
use Rattle.claim_syntax.specs.Joined.{macro_of, joined}
use Rattle.claim_syntax.proofs.joining.joined.Goals as goal

abbrev with_decls : Spec → List Decl → Spec
with_decls s ds = record { name = s.name; decls = ds; top = s.top; body = s.body }

one_more : (s : Spec) (ds : List Decl) (d : Decl) (c : Claim) (cs : List Claim) → ds ≡ s.decls ++ d ∷ [] → d ≡ macro_of c → joined (with_decls s ds) cs ≡ joined s (c ∷ cs)
one_more s ds d c cs e f =
    ap (λ ds. with_decls s (ds ++ map macro_of cs)) (e ∙ ap (λ (d : Decl). s.decls ++ d ∷ []) f) ∙ ap (with_decls s) (append_assoc s.decls (macro_of c ∷ []) (map macro_of cs))

no_more : (s : Spec) (cs : List Claim) → cs ≡ [] → joined s cs ≡ s
no_more s cs e = ap (joined s) e ∙ ap (with_decls s) (append-nil s.decls)

nothing_left : {X : Type 0} (l : List X) → length l ≡ 0 → l ≡ []
nothing_left [] h = refl
nothing_left (x ∷ xs) h = absurd (omega arith)

pub loop-claim-preserved : goal.loop-claim-preserved
loop-claim-preserved c =
    let at = c.loop-claim in
    let steps : into_iter_items at.claim-iterator ≡ c.in-Some.claim ∷ into_iter_items c.next.new.self = c.in-Some.ensures.steps.0 in (
      one_more at.joined _ _ c.in-Some.claim (into_iter_items c.next.new.self) c.in_ok-push.ensures.ok c.into_declaration.ensures ∙ ap (joined at.joined) (sym steps) ∙ at.invariant.0,
      let was = at.invariant.1 in
          let gone = c.in-Some.ensures.steps.1 in
          let short = ap length steps in
          omega arith,
    )

pub returns : goal.returns
returns c =
    let at = c.loop-claim in
    let none = c.in-None.ensures.steps in
    let empty : into_iter_items at.claim-iterator ≡ [] = nothing_left _ (sym at.invariant.1 ∙ none.0) in
    sym (no_more at.joined (into_iter_items at.claim-iterator) empty) ∙ at.invariant.0 ∙ ap (joined c.args.specification) c.into_iter-claim-iterator.ensures.into_iter_gives.0
