-- A path is active where the path before its last step is, and each component there has that step as its child.
use Rattle.std.proofs.Common.{◌≡◌, ◌<◌, Bool, true, false, ◌&&◌, List, [], ◌∷◌, ◌++◌, length, zip, if◌then◌else◌, ⊎_elim, refl, sym, ap, ◌∙◌, subst, true≢false, append_assoc, append-nil, nat_lt, arith, length-append, ltb-true, slice_index_or}
use Rattle.std.specs.List.{list_all}
use Rattle.std.specs.Cmp.{first_so, second_so}
use Rattle.rsml_syntax.specs.declared.syntax.Spec.{Spec}
use Rattle.rsml_syntax.specs.declared.world.World.{World}
use Rattle.rsml_syntax.specs.declared.world.Step.{Step}
use Rattle.rsml_meaning.specs.Words.{Path, at, child_path, same_instance, same_path, is_prefix, is_proper_prefix}
use Rattle.rsml_meaning.specs.Instances.{Component, components}
use Rattle.rsml_meaning.specs.Active.{active, leads_on, chosen}
use Rattle.state_tree.specs.Numbers.{leads_here, leads_to}
use Rattle.rsml_meaning.proofs.Prefixes.{prefix_rest, prefix_append, proper_append, linear, prefix_self, same_path_self, prefix_under}
use Rattle.state_tree.proofs.Lists.{not_true}

-- a path is no shorter than itself
not_longer : (a : Path) → nat_lt (length a) (length a) ≡ false
not_longer a = not_true (nat_lt (length a) (length a)) (λ h. let l = ltb-true (length a) (length a) h in omega (arith, l))

and_right : (a b : Bool) → b ≡ false → (a && b) ≡ false
and_right true b h = h
and_right false b h = refl

and_left : (a b : Bool) → a ≡ false → (a && b) ≡ false
and_left true b e = absurd (true≢false e)
and_left false b e = refl

and_true : (b : Bool) → (b && true) ≡ b
and_true true = refl
and_true false = refl

-- the component at the path itself
at_itself : (p : Path) (x : Step) (c : Component × _) → c.0.path ≡ p → leads_on (child_path p x) c ≡ (leads_on p c && leads_here p x c)
at_itself p x c e =
    let q = child_path p x in
    let proper : is_proper_prefix c.0.path q ≡ true = subst (λ a. is_proper_prefix a q ≡ true) (sym e) (proper_append p x []) in
    let same : same_path c.0.path p ≡ true = subst (λ a. same_path a p ≡ true) (sym e) (same_path_self p) in
    let not_proper : is_proper_prefix c.0.path p ≡ false = subst (λ a. is_proper_prefix a p ≡ false) (sym e) (and_right (is_prefix p p) (nat_lt (length p) (length p)) (not_longer p)) in
    ap (λ b. if b then is_prefix (chosen c) q else true) proper
    ∙ sym (λ i. (if not_proper i then is_prefix (chosen c) p else true) && (if same i then is_prefix (chosen c) q else true))

longer_rest : (a : Path) (y : Step) (r : Path) → is_prefix (a ++ (y ∷ r)) a ≡ false
longer_rest [] y r = refl
longer_rest (x ∷ a) y r = and_right (same_instance x x) (is_prefix (a ++ (y ∷ r)) a) (longer_rest a y r)

-- a component above it
above_it : (p : Path) (x : Step) (c : Component × _) (y : Step) (r : Path) → p ≡ c.0.path ++ (y ∷ r) → leads_on (child_path p x) c ≡ (leads_on p c && leads_here p x c)
above_it p x c y r e =
    let a = c.0.path in
    let k : Step = at (slice_index_or c.0.children c.1 []) 0 in
    let q = child_path p x in
    let eq : q ≡ a ++ (y ∷ (r ++ (x ∷ []))) = ap (λ z. z ++ (x ∷ [])) e ∙ append_assoc a (y ∷ r) (x ∷ []) in
    let proper : is_proper_prefix a q ≡ true = subst (λ z. is_proper_prefix a z ≡ true) (sym eq) (proper_append a y (r ++ (x ∷ []))) in
    let proper_p : is_proper_prefix a p ≡ true = subst (λ z. is_proper_prefix a z ≡ true) (sym e) (proper_append a y r) in
    let other : same_path a p ≡ false = and_right (is_prefix a p) (is_prefix p a) (subst (λ z. is_prefix z a ≡ false) (sym e) (longer_rest a y r)) in
    let left : is_prefix (chosen c) q ≡ (same_instance k y && true) = ap (is_prefix (chosen c)) eq ∙ prefix_under a (k ∷ []) (y ∷ (r ++ (x ∷ []))) in
    let right : is_prefix (chosen c) p ≡ (same_instance k y && true) = ap (is_prefix (chosen c)) e ∙ prefix_under a (k ∷ []) (y ∷ r) in
    ap (λ b. if b then is_prefix (chosen c) q else true) proper ∙ left ∙ sym right ∙ sym (and_true (is_prefix (chosen c) p))
    ∙ sym (λ i. (if proper_p i then is_prefix (chosen c) p else true) && (if other i then is_prefix (chosen c) q else true))

-- what is properly above the longer path is above, or is, the shorter one
shorter : (a p : Path) (x : Step) → is_proper_prefix a (child_path p x) ≡ true → is_prefix a p ≡ true
shorter a p x h =
    let q = child_path p x in
    let r = prefix_rest a q (first_so (is_prefix a q) (nat_lt (length a) (length q)) h) in
    let l = ltb-true (length a) (length q) (second_so (is_prefix a q) (nat_lt (length a) (length q)) h) in
    ⊎_elim (λ s. subst (λ z. is_prefix a z ≡ true) (sym s.1) (prefix_append a s.0)) (λ s. by_rest s.0 s.1 l) (linear a p r.0 (x ∷ []) (sym r.1))
  where
    by_rest : (s : Path) → a ≡ p ++ s → length a < length (p ++ (x ∷ [])) → is_prefix a p ≡ true
    by_rest [] e l = subst (λ z. is_prefix z p ≡ true) (sym (e ∙ append-nil p)) (prefix_self p)
    by_rest (y ∷ s) e l = absurd (let k = ap length e in omega (arith, l, k, length-append p (y ∷ s), length-append p (x ∷ [])))

if_false : (b x : Bool) → b ≡ false → (if b then x else true) ≡ true
if_false true x e = absurd (true≢false e)
if_false false x e = refl

each_leads : (p : Path) (x : Step) (c : Component × _) → leads_on (child_path p x) c ≡ (leads_on p c && leads_here p x c)
each_leads p x c = by_test (is_prefix c.0.path p) refl
  where
    by_rest : (r : Path) → p ≡ c.0.path ++ r → leads_on (child_path p x) c ≡ (leads_on p c && leads_here p x c)
    by_rest [] e = at_itself p x c (sym (e ∙ append-nil c.0.path))
    by_rest (y ∷ r) e = above_it p x c y r e

    by_test : (b : Bool) → is_prefix c.0.path p ≡ b → leads_on (child_path p x) c ≡ (leads_on p c && leads_here p x c)
    by_test true e = let r = prefix_rest c.0.path p e in by_rest r.0 r.1
    by_test false e =
        let q = child_path p x in
        let a = if_false (is_proper_prefix c.0.path q) (is_prefix (chosen c) q) (not_true (is_proper_prefix c.0.path q) (λ h. true≢false (sym (shorter c.0.path p x h) ∙ e))) in
        let b = if_false (is_proper_prefix c.0.path p) (is_prefix (chosen c) p) (and_left (is_prefix c.0.path p) (nat_lt (length c.0.path) (length p)) e) in
        let d = if_false (same_path c.0.path p) (is_prefix (chosen c) q) (and_left (is_prefix c.0.path p) (is_prefix p c.0.path) e) in
        a ∙ sym (λ i. b i && d i)

all_both : {A : Type 0} (f g h : A → Bool) → ((x : A) → h x ≡ (f x && g x)) → (xs : List A) → list_all h xs ≡ (list_all f xs && list_all g xs)
all_both f g h e [] = refl
all_both f g h e (x ∷ xs) = (λ i. e x i && all_both f g h e xs i) ∙ four (f x) (g x) (list_all f xs) (list_all g xs)
  where
    four : (a b c d : Bool) → ((a && b) && (c && d)) ≡ ((a && c) && (b && d))
    four true true c d = refl
    four true false true d = refl
    four true false false d = refl
    four false b c d = refl

pub active_step : (s : Spec) (w : World) (p : Path) (x : Step) → active s w (child_path p x) ≡ (active s w p && leads_to s w.choices p x)
active_step s w p x = all_both (leads_on p) (leads_here p x) (leads_on (child_path p x)) (each_leads p x) (zip (components s) w.choices)
