use Rattle.std.proofs.Common.{IfOk, length, flat_map, subst, ◌≡◌, List}
use Rattle.rsml_meaning.specs.Instances.{events, events_of}
use Rattle.rsml_syntax.specs.declared.syntax.Decl.{Decl}
use Rattle.rsml_syntax.specs.declared.syntax.Spec.{Spec}
use Rattle.rsml_syntax.specs.rules.Globals.{Globals, globals}
use Rattle.elaborate.proofs.count.event_count.Goals as goal

pub returns : goal.returns
returns c =
    let of_globals = subst (λ (g : Globals). IfOk c.counted.result (λ count. count ≡ length (flat_map (events_of g) c.as_slice-decls.result.now))) c.in_ok-globals.ensures c.counted.ensures in
    let of_decls = subst (λ (ds : List Decl). IfOk c.counted.result (λ count. count ≡ length (flat_map (events_of (globals ds)) ds))) c.as_slice-decls.ensures of_globals in
    subst (λ (s : Spec). IfOk c.counted.result (λ count. count ≡ length (events s))) c.spec.ensures.same of_decls
