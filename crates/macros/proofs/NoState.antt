-- A number that no state has counts as active.
use Rattle.std.proofs.Common.{◌≡◌, ℕ, ◌≤◌, true, false, ◌&&◌, List, [], ◌∷◌, length, zip, Option, unwrap_or, if◌then◌else◌, refl, ap, ◌∙◌, arith}
use Rattle.std.specs.List.{list_all}
use Rattle.std.proofs.lemmas.Option.{slice_get_past}
use Rattle.std.proofs.lemmas.List.{length-map}
use Rattle.rsml_syntax.specs.declared.syntax.Spec.{Spec}
use Rattle.rsml_syntax.specs.declared.world.World.{World}
use Rattle.rsml_meaning.specs.Words.{Path, is_prefix, is_proper_prefix}
use Rattle.rsml_meaning.specs.Instances.{Component, states, components}
use Rattle.rsml_meaning.specs.Active.{chosen, leads_on, active}
use Rattle.state_tree.specs.nodes.Numbers.{paths}
use Rattle.rsml_ground.specs.Truths.{is_active}

no_prefix : (p : Path) → is_proper_prefix p [] ≡ false
no_prefix [] = refl
no_prefix (x ∷ p) = refl

leads : (c : Component × ℕ) → leads_on [] c ≡ true
leads c = ap (λ b. if b then is_prefix (chosen c) [] else true) (no_prefix c.0.path)

all_lead : (cs : List (Component × ℕ)) → list_all (leads_on []) cs ≡ true
all_lead [] = refl
all_lead (c ∷ cs) = ap (λ b. b && list_all (leads_on []) cs) (leads c) ∙ all_lead cs

pub no_state : (s : Spec) (w : World) (node : ℕ) → length (states s) ≤ node → is_active s w node ≡ true
no_state s w node past =
    ap (active s w) (ap (λ (o : Option Path). unwrap_or o []) (slice_get_past (paths (states s)) node (omega (arith, past, length-map (states s) (λ x. x.path)))))
    ∙ all_lead (zip (components s) w.choices)
