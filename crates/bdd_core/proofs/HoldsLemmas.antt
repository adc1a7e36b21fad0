-- An arena holds from its beginning, and after a node is put in.
use Rattle.std.proofs.Common.{◌≡◌, ◌≢◌, ℕ, zero, suc, ◌<◌, ◌≤◌, List, [], ◌∷◌, ◌++◌, length, refl, sym, ap, subst, ◌∙◌, arith, inl, inr, length-append, slice_get, Some, eqb}
use Rattle.std.proofs.Math.ListN.{get_or-append}
use Rattle.std.proofs.Math.Seq.{get_or-append_seam}
use Rattle.std.proofs.lemmas.Bool.{cases_lt}
use Rattle.std.proofs.lemmas.Option.{slice_get-get_or}
use Rattle.bdd_core.specs.declared.node.Node.{Node}
use Rattle.bdd_core.specs.declared.computed.Kept.{Kept}
use Rattle.bdd_core.specs.Diagram.{Diagram, no_node, IsRef, node_at, level_of, IsReduced, IsReducedNode}
use Rattle.bdd_core.specs.Calls.{Keeps}
use Rattle.bdd_core.specs.Unique.{IsNew, Adds, constant_at}
use Rattle.bdd_core.specs.Holds.{IsRightChoice, IsRightCut, ArenaHolds}
use Rattle.bdd_core.proofs.MeaningLemmas.{with_nodes, Falls, meaning-append, reduced_falls}
use Rattle.bdd_core.proofs.StepLemmas.{keeps_refl, level-keeps}
use Rattle.bdd_core.proofs.ChoiceLemmas.{choice-keeps}
use Rattle.bdd_core.proofs.CutLemmas.{cut-keeps}

keeps-push : (d : Diagram) (t : Node) → Falls d → Keeps d (with_nodes d (d.nodes ++ t ∷ []))
keeps-push d t falls = record {
  same_levels = refl;
  longer = omega (arith, length-append d.nodes (t ∷ []));
  nodes_stay = λ f h. get_or-append d.nodes (t ∷ []) no_node f h;
  meanings_stay = λ f v h. meaning-append d (t ∷ []) falls f v h;
}

pub keeps-insert : (d : Diagram) (t : Node) (new : List Node) → Falls d → Adds d.nodes new t → Keeps d (with_nodes d new)
keeps-insert d t new falls (inl e) = subst (λ ns. Keeps d (with_nodes d ns)) (sym e) (keeps_refl d)
keeps-insert d t new falls (inr p) = subst (λ ns. Keeps d (with_nodes d ns)) (sym p.is) (keeps-push d t falls)

-- a node that may be put in
pub record Fits (d : Diagram) (t : Node) : Type 0 where
  pub fits : t.level < d.levels
  pub low_ref : IsRef d t.low
  pub high_ref : IsRef d t.high
  pub low_level : t.level < level_of d t.low
  pub high_level : t.level < level_of d t.high
  pub differ : t.low ≢ t.high

-- what a node says of itself, carried to more nodes
node-kept : (d e : Diagram) → Keeps d e → (k : ℕ) (t : Node) → k ≤ length d.nodes → IsReducedNode d k t → IsReducedNode e k t
node-kept d e keeps k t p r =
    let low : level_of e t.low ≡ level_of d t.low = level-keeps d e keeps t.low (omega (arith, r.low_before)) in
    let high : level_of e t.high ≡ level_of d t.high = level-keeps d e keeps t.high (omega (arith, r.high_before)) in
    record {
      level_fits = omega (arith, r.level_fits, keeps.same_levels);
      low_before = r.low_before;
      high_before = r.high_before;
      low_level = omega (arith, r.low_level);
      high_level = omega (arith, r.high_level);
      differ = r.differ;
    }

-- each node stands at one place
abbrev pub StandsOnce : Diagram → Type 0
StandsOnce d = (f g : ℕ) → IsRef d f → IsRef d g → node_at d f ≡ node_at d g → f ≡ g

reduced-push : (d : Diagram) (t : Node) → IsReduced d → Fits d t → StandsOnce (with_nodes d (d.nodes ++ t ∷ [])) → IsReduced (with_nodes d (d.nodes ++ t ∷ []))
reduced-push d t is fit once =
    let keeps : Keeps d (with_nodes d (d.nodes ++ t ∷ [])) = keeps-push d t (reduced_falls d is) in
    record {
      at_least = omega (arith, is.at_least, length-append d.nodes (t ∷ []));
      false_level = level-keeps d (with_nodes d (d.nodes ++ t ∷ [])) keeps 0 (omega (arith, is.at_least)) ∙ is.false_level;
      true_level = level-keeps d (with_nodes d (d.nodes ++ t ∷ [])) keeps 1 (omega (arith, is.at_least)) ∙ is.true_level;
      reduced = λ k two h. elim (cases_lt k (length d.nodes)) [
        | inl old ↦ subst (IsReducedNode (with_nodes d (d.nodes ++ t ∷ [])) k) (sym (keeps.nodes_stay k old)) (node-kept d (with_nodes d (d.nodes ++ t ∷ [])) keeps k (node_at d k) (omega arith) (is.reduced k two old))
        | inr last ↦
            let is_last : k ≡ length d.nodes = omega (arith, length-append d.nodes (t ∷ [])) in
            let here : t ≡ node_at (with_nodes d (d.nodes ++ t ∷ [])) k = sym (ap (λ k. node_at (with_nodes d (d.nodes ++ t ∷ [])) k) is_last ∙ get_or-append_seam d.nodes t [] no_node) in
            let fresh : IsReducedNode d k t = record {
              level_fits = fit.fits;
              low_before = omega (arith, fit.low_ref);
              high_before = omega (arith, fit.high_ref);
              low_level = fit.low_level;
              high_level = fit.high_level;
              differ = fit.differ;
            } in
            subst (IsReducedNode (with_nodes d (d.nodes ++ t ∷ [])) k) here (node-kept d (with_nodes d (d.nodes ++ t ∷ [])) keeps k t (omega arith) fresh)
      ];
      once = once;
    }

-- kept answers stay right
choice-kept : (d e : Diagram) → Keeps d e → (x : Kept) → IsRightChoice d x → IsRightChoice e x
choice-kept d e keeps x r = record {
  f_ref = omega (arith, r.f_ref, keeps.longer);
  g_ref = omega (arith, r.g_ref, keeps.longer);
  h_ref = omega (arith, r.h_ref, keeps.longer);
  right = choice-keeps d e keeps x.f x.g x.h x.answer r.f_ref r.g_ref r.h_ref r.right;
}

cut-kept : (d e : Diagram) → Keeps d e → (x : Kept) → IsRightCut d x → IsRightCut e x
cut-kept d e keeps x r = record {
  f_ref = omega (arith, r.f_ref, keeps.longer);
  right = cut-keeps d e keeps x.f x.g (eqb x.h 1) x.answer r.f_ref r.right;
}

-- where a node that fits is new, each node stands once with it at the end
once-push : (d : Diagram) (t : Node) → IsReduced d → Fits d t → IsNew d.nodes t → StandsOnce (with_nodes d (d.nodes ++ t ∷ []))
once-push d t is fit fresh f g hf hg same = elim (cases_lt f (length d.nodes)) [
  | inl f_old ↦ elim (cases_lt g (length d.nodes)) [
    | inl g_old ↦ is.once f g f_old g_old (sym (kept f f_old) ∙ same ∙ kept g g_old)
    | inr g_last ↦ absurd (other f f_old (sym (kept f f_old) ∙ same ∙ last g g_last hg))
  ]
  | inr f_last ↦ elim (cases_lt g (length d.nodes)) [
    | inl g_old ↦ absurd (other g g_old (sym (kept g g_old) ∙ sym same ∙ last f f_last hf))
    | inr g_last ↦ omega (arith, length-append d.nodes (t ∷ []))
  ]
]
  where
    kept : (k : ℕ) → IsRef d k → node_at (with_nodes d (d.nodes ++ t ∷ [])) k ≡ node_at d k
    kept k h = get_or-append d.nodes (t ∷ []) no_node k h

    last : (k : ℕ) → length d.nodes ≤ k → k < length (d.nodes ++ t ∷ []) → node_at (with_nodes d (d.nodes ++ t ∷ [])) k ≡ t
    last k from to =
        let at : k ≡ length d.nodes = omega (arith, length-append d.nodes (t ∷ [])) in
        ap (λ k. node_at (with_nodes d (d.nodes ++ t ∷ [])) k) at ∙ get_or-append_seam d.nodes t [] no_node

    -- it is none of the nodes, and no constant, whose level is greater
    other : (k : ℕ) → IsRef d k → node_at d k ≢ t
    other zero h e = absurd (omega (arith, fit.fits, is.false_level, ap (λ (t : Node). t.level) e))
    other (suc zero) h e = absurd (omega (arith, fit.fits, is.true_level, ap (λ (t : Node). t.level) e))
    other (suc (suc k)) h e = fresh (suc (suc k)) (omega arith) h e

-- an arena holds after a node that fits is put in, where it is new
pub insert-holds : (d : Diagram) (t : Node) (new : List Node) (choices cuts : List Kept) → ArenaHolds d choices cuts → Fits d t → Adds d.nodes new t → ArenaHolds (with_nodes d new) choices cuts
insert-holds d t new choices cuts holds fit (inl e) = subst (λ ns. ArenaHolds (with_nodes d ns) choices cuts) (sym e) holds
insert-holds d t new choices cuts holds fit (inr p) =
    let keeps : Keeps d (with_nodes d (d.nodes ++ t ∷ [])) = keeps-push d t (reduced_falls d holds.is_reduced) in
    subst (λ ns. ArenaHolds (with_nodes d ns) choices cuts) (sym p.is) (record {
      is_reduced = reduced-push d t holds.is_reduced fit (once-push d t holds.is_reduced fit p.is_new);
      small = omega (arith, p.room, length-append d.nodes (t ∷ []));
      choices_right = λ x c. choice-kept d (with_nodes d (d.nodes ++ t ∷ [])) keeps x (holds.choices_right x c);
      cuts_right = λ x c. cut-kept d (with_nodes d (d.nodes ++ t ∷ [])) keeps x (holds.cuts_right x c);
    })

-- the place that an insert added has the node
pub added-reads : (d : Diagram) (t : Node) (new : List Node) (k : ℕ) → Adds d.nodes new t → length d.nodes ≤ k → k < length new → slice_get new k ≡ Some t
added-reads d t new k (inl e) from to = absurd (omega (arith, ap length e))
added-reads d t new k (inr p) from to =
    let last : k ≡ length d.nodes = omega (arith, ap length p.is, length-append d.nodes (t ∷ [])) in
    let at : node_at (with_nodes d new) k ≡ t = ap (λ ns. node_at (with_nodes d ns) k) p.is ∙ ap (λ k. node_at (with_nodes d (d.nodes ++ t ∷ [])) k) last ∙ get_or-append_seam d.nodes t [] no_node in
    slice_get-get_or new k no_node to ∙ ap Some at

-- a new arena holds
pub new-holds : (levels : ℕ) → ArenaHolds (record { levels = levels; nodes = constant_at levels 0 ∷ constant_at levels 1 ∷ [] }) [] []
new-holds levels = record {
  is_reduced = record {
    at_least = omega arith;
    false_level = refl;
    true_level = refl;
    reduced = λ f two h. absurd (omega arith);
    once = λ f g hf hg e. alike f g hf hg (ap (λ (t : Node). t.low) e);
  };
  small = omega arith;
  choices_right = λ x c. absurd (omega (arith, c.1));
  cuts_right = λ x c. absurd (omega (arith, c.1));
}
  where
    alike : (f g : ℕ) → f < 2 → g < 2 → (node_at (record { levels = levels; nodes = constant_at levels 0 ∷ constant_at levels 1 ∷ [] }) f).low ≡ (node_at (record { levels = levels; nodes = constant_at levels 0 ∷ constant_at levels 1 ∷ [] }) g).low → f ≡ g
    alike zero zero hf hg e = refl
    alike zero (suc zero) hf hg e = e
    alike (suc zero) zero hf hg e = e
    alike (suc zero) (suc zero) hf hg e = refl
    alike (suc (suc f)) g hf hg e = absurd (omega arith)
    alike f (suc (suc g)) hf hg e = absurd (omega arith)
