use Rattle.std.proofs.Common.{rules, ◌<◌, ◌^◌, map, length, refl, sym, subst}
use Rattle.std.proofs.lemmas.List.{length-map}
use Rattle.ground_groups.specs.Heads.{send_key}
use Rattle.ground_groups.proofs.StateLots.{send_lots_are}
use Rattle.ground_groups.proofs.lots.send_lots.Goals as goal

pub returns : goal.returns
returns c = λ ps s checked are.
    let cases = c.args.cases.now in
    let few : length cases < 2 ^ 32 = search rules in
    send_lots_are ps s cases (map send_key cases) c.in_ok-heads.heads.keys (map (λ l. l.items) c.in_ok-places.places.items) checked are refl (record {
      are_heads = c.in_ok-heads.ensures;
      are_places = c.in_ok-places.ensures;
      few = subst (λ n. n < 2 ^ 32) (sym (length-map cases send_key)) few;
    })
