-- Reactions in series: their worlds, their numbers and their texts.
use Rattle.std.proofs.Common.{◌≡◌, ℕ, suc, ◌+◌, List, [], ◌∷◌, ◌++◌, length, flat_map, refl, ap, ◌∙◌, arith}
use Rattle.std.proofs.lemmas.Grind.{flat_map-append}
use Rattle.rsml_syntax.specs.declared.syntax.Spec.{Spec}
use Rattle.rsml_syntax.specs.declared.world.World.{World}
use Rattle.rsml_meaning.specs.Words.{numbered_from}
use Rattle.rsml_meaning.specs.Instances.{globals_of}
use Rattle.rsml_meaning.specs.Runs.{Reaction}
use Rattle.rsml_meaning.specs.Trace.{reaction_text, trace_text}
use Rattle.simulator.specs.helpers.Series.{world_after, texts_from}

pub world_after_both : (w : World) (rs qs : List Reaction) → world_after w (rs ++ qs) ≡ world_after (world_after w rs) qs
world_after_both w [] qs = refl
world_after_both w (r ∷ rs) qs = world_after_both r.world rs qs

numbered_both : (n : ℕ) (rs qs : List Reaction) → numbered_from n (rs ++ qs) ≡ numbered_from n rs ++ numbered_from (n + length rs) qs
numbered_both n [] qs =
    let same : n ≡ n + 0 = omega arith in
    ap (λ (k : ℕ). numbered_from k qs) same
numbered_both n (r ∷ rs) qs =
    let same : suc n + length rs ≡ n + suc (length rs) = omega arith in
    ap (λ (ys : List (ℕ × Reaction)). (n, r) ∷ ys) (numbered_both (suc n) rs qs ∙ ap (λ (k : ℕ). numbered_from (suc n) rs ++ numbered_from k qs) same)

pub texts_both : (s : Spec) (n : ℕ) (rs qs : List Reaction) → texts_from s n (rs ++ qs) ≡ texts_from s n rs ++ texts_from s (n + length rs) qs
texts_both s n rs qs =
    ap (λ (ys : List (ℕ × Reaction)). flat_map (reaction_text (globals_of s)) ys) (numbered_both n rs qs)
    ∙ flat_map-append (reaction_text (globals_of s)) (numbered_from n rs) (numbered_from (n + length rs) qs)

-- the trace of more reactions
pub trace_both : (s : Spec) (rs qs : List Reaction) → trace_text s (rs ++ qs) ≡ trace_text s rs ++ texts_from s (length rs + 1) qs
trace_both s rs qs =
    let same : 1 + length rs ≡ length rs + 1 = omega arith in
    texts_both s 1 rs qs ∙ ap (λ (k : ℕ). trace_text s rs ++ texts_from s k qs) same
