use Rattle.std.proofs.Common.{ℕ, List, map, sym, ap, ◌∙◌, cond, Some, Bor, rules, is_some}
use Rattle.std.specs.Cmp.Lexicographic.{slice_cmp}
use Rattle.std.specs.Ordering.{nat_cmp, is_eq}
use Rattle.std.proofs.lemmas.Map.Text.{is_eq-slice_cmp}
use Rattle.rsml_syntax.specs.text.Names.{place_of}
use Rattle.rsml_names.proofs.NamesLemmas.{put_new, put_again}
use Rattle.rsml_names.proofs.name_list.NameList.add.Goals as goal

pub invariant_of-self-in_default : goal.invariant_of-self-in_default
invariant_of-self-in_default c = λ k.
    c.in_default.ensures.updates.0 (record c.args.name { now = k })
    ∙ ap (λ o. cond (is_eq (slice_cmp nat_cmp c.args.name.now k)) (Some c.len-place.result) o) (c.self.invariant k)
    ∙ ap (λ b. cond b (Some c.len-place.result) (place_of k (map (λ (x : Bor (List ℕ)). x.now) c.self.inside.all.items))) (is_eq-slice_cmp c.args.name.now k)
    ∙ put_new c.self.inside.all.items c.args.name k c.len-place.result (search rules) (ap is_some (sym (c.self.invariant c.args.name.now)) ∙ (sym c.contains_key-again.ensures) ∙ c.if-not-again.true)
    ∙ ap (λ (l : List (Bor (List ℕ))). place_of k (map (λ (x : Bor (List ℕ)). x.now) l)) (sym c.in_ok-push.ensures.items)

pub invariant_of-self-else-not-again : goal.invariant_of-self-else-not-again
invariant_of-self-else-not-again c = λ k.
    c.self.invariant k
    ∙ put_again c.self.inside.all.items c.args.name k (ap is_some (sym (c.self.invariant c.args.name.now)) ∙ (sym c.contains_key-again.ensures) ∙ c.if-not-again.false)
    ∙ ap (λ (l : List (Bor (List ℕ))). place_of k (map (λ (x : Bor (List ℕ)). x.now) l)) (sym c.in_ok-push.ensures.items)
