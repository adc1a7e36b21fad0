use Rattle.std.proofs.Common.{ℕ, List, map, sym, ap, ◌∙◌, cond, Some, Bor, rules, is_some}
use Rattle.std.specs.BTreeMap.{get_by}
use Rattle.std.specs.Cmp.Lexicographic.{slice_cmp}
use Rattle.std.specs.Ordering.{nat_cmp, is_eq}
use Rattle.std.proofs.lemmas.Map.Text.{is_eq-slice_cmp}
use Rattle.rsml_syntax.specs.text.Names.{place_of}
use Rattle.rsml_names.proofs.NamesLemmas.{put_new, put_again}
use Rattle.rsml_names.proofs.name_list.NameList.put.Goals as goal
use Rattle.rsml_names.proofs.name_list.NameList.put.Goals.{then-not-again+in_ok-insert, else-not-again}

pub invariant_of-result : goal.invariant_of-result
invariant_of-result c = λ k. elim c.if-not-again.branch [
  | then-not-again+in_ok-insert w ↦
      ap (λ m. get_by (λ (x : Bor (List ℕ)). slice_cmp nat_cmp k x.now) m) w.first-is
      ∙ w.in_ok-insert.ensures.updates.0 (record c.args.name { now = k })
      ∙ ap (λ o. cond (is_eq (slice_cmp nat_cmp c.args.name.now k)) (Some w.len.result) o) (c.self.invariant k)
      ∙ ap (λ b. cond b (Some w.len.result) (place_of k (map (λ (x : Bor (List ℕ)). x.now) c.self.inside.all.items))) (is_eq-slice_cmp c.args.name.now k)
      ∙ put_new c.self.inside.all.items c.args.name k w.len.result (search rules) (ap is_some (sym (c.self.invariant c.args.name.now)) ∙ (sym c.contains_key-again.ensures) ∙ w.if-not-again.true)
      ∙ ap (λ (l : List (Bor (List ℕ))). place_of k (map (λ (x : Bor (List ℕ)). x.now) l)) (sym c.in_ok-push.ensures.items)
  | else-not-again w ↦
      ap (λ m. get_by (λ (x : Bor (List ℕ)). slice_cmp nat_cmp k x.now) m) w.first-is
      ∙ c.self.invariant k
      ∙ put_again c.self.inside.all.items c.args.name k (ap is_some (sym (c.self.invariant c.args.name.now)) ∙ (sym c.contains_key-again.ensures) ∙ w.if-not-again.false)
      ∙ ap (λ (l : List (Bor (List ℕ))). place_of k (map (λ (x : Bor (List ℕ)). x.now) l)) (sym c.in_ok-push.ensures.items)
]
