-- Specifications are the same but for names, macros and guards exactly where their frames are one.
use Rattle.std.proofs.Common.{◌≡◌, true, ◌&&◌, [], sym, ap, ◌∙◌}
use Rattle.std.specs.Prelude.{IsTrue, ◌↔◌}
use Rattle.std.specs.Cmp.{first_so, second_so}
use Rattle.std.specs.Cmp.Lexicographic.{pointwise}
use Rattle.rsml_syntax.specs.declared.syntax.Spec.{Spec}
use Rattle.rsml_syntax.specs.text.Names.{same}
use Rattle.spec_frames.specs.Frames.{frame}
use Rattle.spec_frames.specs.helpers.Sameness.{same_decl, kept, same_body, same_spec}
use Rattle.spec_frames.proofs.ListLemmas.{both, name_same, name_itself}
use Rattle.spec_frames.proofs.DeclLemmas.{kept_to, kept_from}
use Rattle.spec_frames.proofs.BodyLemmas.{body_opens, body_from}

frame_of : (s t : Spec) → same_spec s t ≡ true → frame s ≡ frame t
frame_of s t h =
    let a = same s.top t.top in
    let b = pointwise same_decl (kept s.decls) (kept t.decls) in
    let c = same_body s.body t.body in
    let rest = second_so a (b && c) h in
    let top = name_same s.top t.top (first_so a (b && c) h) in
    let decls = kept_to s.decls t.decls (first_so b c rest) in
    let body = body_opens s.body t.body (second_so b c rest) in
    λ i. record { name = []; decls = decls i; top = top i; body = body i }

same_of : (s t : Spec) → frame s ≡ frame t → same_spec s t ≡ true
same_of s t h =
    let b = pointwise same_decl (kept s.decls) (kept t.decls) in
    let c = same_body s.body t.body in
    both (same s.top t.top) (b && c) (ap (same s.top) (sym (ap (λ z. z.top) h)) ∙ name_itself s.top)
    (both b c (kept_from s.decls t.decls (ap (λ z. z.decls) h)) (body_from s.body t.body (ap (λ z. z.body) h)))

pub syntax_same : (s t : Spec) → IsTrue (same_spec s t) ↔ (frame s ≡ frame t)
syntax_same s t = (frame_of s t, same_of s t)
