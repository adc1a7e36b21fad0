-- Of two active sources whose components lie on one line, the sources lie on one line.
use Rattle.std.proofs.Common.{◌≡◌, ℕ, Bool, true, false, ◌&&◌, List, [], ◌∷◌, ◌++◌, map, fold, zip, slice_index_or, if◌then◌else◌, inl, inr, ⊎_elim, refl, sym, ap, ◌∙◌, subst, true≢false, append_assoc}
use Rattle.std.specs.List.{list_all}
use Rattle.std.specs.Cmp.{first_so, second_so}
use Rattle.std.proofs.lemmas.List.{append_cancel_left}
use Rattle.rsml_syntax.specs.declared.syntax.Spec.{Spec}
use Rattle.rsml_syntax.specs.declared.world.World.{World}
use Rattle.rsml_syntax.specs.declared.world.Step.{Step}
use Rattle.rsml_syntax.specs.declared.syntax.Decl.{Decl}
use Rattle.rsml_syntax.specs.declared.syntax.Decl.TheVariants as decl
use Rattle.rsml_syntax.specs.text.Names.{Name}
use Rattle.rsml_meaning.specs.Words.{Instance, Path, at, has, child_path, is_prefix, is_proper_prefix, on_one_line, numbered, Each, IsOne, AllThree}
use Rattle.rsml_meaning.specs.Instances.{Component, components, globals_of}
use Rattle.rsml_meaning.specs.Active.{active, chosen, leads_on}
use Rattle.rsml_meaning.specs.Truth.{View, view, learn, bare, within, guard}
use Rattle.rsml_meaning.specs.Transitions.{TransitionInstance, new_transition, transitions_of, transitions, sources, is_enabled}
use Rattle.rsml_meaning.specs.Steps.{enabled_transitions}
use Rattle.rsml_meaning.specs.Turns.{IsActiveTransition}
use Rattle.rsml_meaning.proofs.Lists.{each_flat_map, each_map, each_filter, each_more, each_ones, each_one, list_all_one, or_left, or_right}
use Rattle.rsml_meaning.proofs.Prefixes.{prefix_rest, proper_append, linear}

abbrev head_or : Step → Path → Step
head_or x [] = x
head_or x (y ∷ p) = y

-- what an active path says of a component above it
above : (cs : List (Component × ℕ)) (c : Component × ℕ) → IsOne c cs → (q : Path) → list_all (leads_on q) cs ≡ true → is_proper_prefix c.0.path q ≡ true → is_prefix (chosen c) q ≡ true
above cs c m q h e = if_true (is_proper_prefix c.0.path q) (is_prefix (chosen c) q) e (list_all_one (leads_on q) cs c h m)
  where
    if_true : (b x : Bool) → b ≡ true → (if b then x else true) ≡ true → x ≡ true
    if_true true x e h = h
    if_true false x e h = absurd (true≢false (sym e))

abbrev child : Component → Name → Path
child c name = child_path c.path (at name 0)

-- an active source is its component's chosen child
source_chosen : (cs : List (Component × ℕ)) (c : Component × ℕ) → IsOne c cs → (x : Name) → list_all (leads_on (child c.0 x)) cs ≡ true → child c.0 x ≡ chosen c
source_chosen cs c m x h =
    let p = c.0.path in
    let k = at (slice_index_or c.0.children c.1 []) 0 in
    let r = prefix_rest (chosen c) (child c.0 x) (above cs c m (child c.0 x) h (proper_append p (at x 0) [])) in
    let e : p ++ (at x 0 ∷ []) ≡ p ++ (k ∷ r.0) = r.1 ∙ append_assoc p (k ∷ []) r.0 in
    let t = append_cancel_left p (at x 0 ∷ []) (k ∷ r.0) e in
    ap (λ z. p ++ (z ∷ [])) (ap (head_or (at x 0)) t)

-- of two active sources, one of whose components begins the other's, the one begins the other
source_below : (cs : List (Component × ℕ)) (c d : Component × ℕ) → IsOne c cs → (x y : Name) → list_all (leads_on (child c.0 x)) cs ≡ true → list_all (leads_on (child d.0 y)) cs ≡ true
    → (r : Path) → d.0.path ≡ c.0.path ++ r → is_prefix (child c.0 x) (child d.0 y) ≡ true
source_below cs c d m x y h k r e =
    let p = c.0.path in
    let down : child d.0 y ≡ p ++ (r ++ (at y 0 ∷ [])) = ap (λ z. z ++ (at y 0 ∷ [])) e ∙ append_assoc p r (at y 0 ∷ []) in
    let proper = subst (λ z. is_proper_prefix p z ≡ true) (sym down) (proper_more p r (at y 0)) in
    subst (λ z. is_prefix z (child d.0 y) ≡ true) (sym (source_chosen cs c m x h)) (above cs c m (child d.0 y) k proper)
  where
    proper_more : (p r : Path) (s : Step) → is_proper_prefix p (p ++ (r ++ (s ∷ []))) ≡ true
    proper_more p [] s = proper_append p s []
    proper_more p (z ∷ r) s = proper_append p z (r ++ (s ∷ []))

-- What is known of a taken transition: its component with the chosen child, and that its source is active.
pub record IsTaken (cs : List (Component × ℕ)) (t : TransitionInstance) : Type 0 where
  c : Component × ℕ
  among : IsOne c cs
  x : Name
  at_component : t.component ≡ c.0.path
  at_source : t.source ≡ child c.0 x
  is_active : list_all (leads_on t.source) cs ≡ true

-- two of them that reach one component have their sources on one line
pub one_line : (cs : List (Component × ℕ)) (t u : TransitionInstance) → IsTaken cs t → IsTaken cs u → (q : Path) → is_prefix t.component q ≡ true → is_prefix u.component q ≡ true → on_one_line t.source u.source ≡ true
one_line cs t u a b q h k =
    let ra = prefix_rest t.component q h in
    let rb = prefix_rest u.component q k in
    let ha = subst (λ z. list_all (leads_on z) cs ≡ true) a.at_source a.is_active in
    let hb = subst (λ z. list_all (leads_on z) cs ≡ true) b.at_source b.is_active in
    ⊎_elim
    (λ r. or_left (is_prefix t.source u.source) (is_prefix u.source t.source)
    (lift (child a.c.0 a.x) t.source (child b.c.0 b.x) u.source (sym a.at_source) (sym b.at_source)
    (source_below cs a.c b.c a.among a.x b.x ha hb r.0 (sym b.at_component ∙ r.1 ∙ ap (λ z. z ++ r.0) a.at_component))))
    (λ r. or_right (is_prefix t.source u.source) (is_prefix u.source t.source)
    (lift (child b.c.0 b.x) u.source (child a.c.0 a.x) t.source (sym b.at_source) (sym a.at_source)
    (source_below cs b.c a.c b.among b.x a.x hb ha r.0 (sym a.at_component ∙ r.1 ∙ ap (λ z. z ++ r.0) b.at_component))))
    (linear t.component u.component ra.0 rb.0 (sym ra.1 ∙ rb.1))
  where
    lift : (p p' q q' : Path) → p ≡ p' → q ≡ q' → is_prefix p q ≡ true → is_prefix p' q' ≡ true
    lift p p' q q' e f h = subst (λ z. is_prefix z q' ≡ true) e (subst (λ z. is_prefix p z ≡ true) f h)

-- What a view says of activity.

learn_keeps : (d : Decl) (v : View) → (learn v d).is_active ≡ v.is_active
learn_keeps (decl.Macro x size rows) v = refl
learn_keeps (decl.Function x size cases) v = refl
learn_keeps _ v = refl

learned : (ds : List Decl) (v : View) → (fold learn v ds).is_active ≡ v.is_active
learned [] v = refl
learned (d ∷ ds) v = learned ds (learn v d) ∙ learn_keeps d v

pub view_active : (s : Spec) (w : World) → (view s w).is_active ≡ active s w
view_active s w = learned s.decls (bare s w)

pub active_in_view : (s : Spec) (w : World) (path : Path) → active s w path ≡ true → (view s w).is_active path ≡ true
active_in_view s w path h = subst (λ (f : Path → Bool). f path ≡ true) (sym (view_active s w)) h

pub active_of_view : (s : Spec) (w : World) (path : Path) → (view s w).is_active path ≡ true → active s w path ≡ true
active_of_view s w path h = subst (λ (f : Path → Bool). f path ≡ true) (view_active s w) h

pub source_active : (s : Spec) (w : World) (t : TransitionInstance) → is_enabled (view s w) t ≡ true → (view s w).is_active t.source ≡ true
source_active s w t h = first_so ((view s w).is_active t.source) (guard (view s w) (within t.this) t.guard) h

-- Where transitions come from.

-- What is known of a transition: its component, and the child that is its source.
pub record IsOf (s : Spec) (cs : List Component) (t : TransitionInstance) : Type 0 where
  c : Component
  among : IsOne c cs
  x : Name
  at_component : t.component ≡ c.path
  at_source : t.source ≡ child c x

each_transition : (s : Spec) → Each (IsOf s (components s)) (transitions s)
each_transition s = each_flat_map (IsOf s (components s)) (transitions_of (globals_of s)) (components s)
    (λ c m. each_flat_map (IsOf s (components s)) (λ t. map (new_transition (globals_of s) c t) (sources c t.1.source)) (numbered c.transitions)
    (λ t k. each_map (IsOf s (components s)) (new_transition (globals_of s) c t) (sources c t.1.source) (λ x. record { c = c; among = m; x = x; at_component = refl; at_source = refl })))

-- a component stands with its choice
choice_of : (R : Component → ℕ → ℕ → Type 0) (cs : List Component) (ns ms : List ℕ) → AllThree R cs ns ms → (c : Component) → IsOne c cs → (n : ℕ) × IsOne (c, n) (zip cs ns)
choice_of R (x ∷ cs) (n ∷ ns) (k ∷ ms) h c (inl e) = (n, inl (λ i. (e i, n)))
choice_of R (x ∷ cs) (n ∷ ns) (k ∷ ms) h c (inr m) = let r = choice_of R cs ns ms h.1 c m in (r.0, inr r.1)
choice_of R [] ns ms h c m = absurd m
choice_of R (x ∷ cs) [] ms h c m = elim h [ ]
choice_of R (x ∷ cs) (n ∷ ns) [] h c m = elim h [ ]

-- transitions with active sources
pub each_active : (s : Spec) (w : World) (R : Component → ℕ → ℕ → Type 0) (ms : List ℕ) → AllThree R (components s) w.choices ms
    → (ts : List TransitionInstance) → Each (IsActiveTransition s w) ts → Each (IsTaken (zip (components s) w.choices)) ts
each_active s w R ms h ts are = each_more (IsActiveTransition s w) (IsTaken (zip (components s) w.choices)) is ts are
  where
    is : (t : TransitionInstance) → IsActiveTransition s w t → IsTaken (zip (components s) w.choices) t
    is t a =
        let o = each_one (IsOf s (components s)) (transitions s) t (each_transition s) a.among in
        let n = choice_of R (components s) w.choices ms h o.c o.among in
        record { c = (o.c, n.0); among = n.1; x = o.x; at_component = o.at_component; at_source = o.at_source; is_active = a.active }

-- those that are taken have active sources
pub enabled_active : (s : Spec) (w : World) (present : List Instance) → Each (IsActiveTransition s w) (enabled_transitions s (view s w) present)
enabled_active s w present =
    each_more (λ t. IsOne t (transitions s) × ((has present t.event && is_enabled (view s w) t) ≡ true)) (IsActiveTransition s w)
    (λ t p. record { among = p.0; active = active_of_view s w t.source (source_active s w t (second_so (has present t.event) (is_enabled (view s w) t) p.1)) })
    (enabled_transitions s (view s w) present)
    (each_filter (λ t. IsOne t (transitions s)) (λ t. has present t.event && is_enabled (view s w) t) (transitions s) (each_ones (λ t. IsOne t (transitions s)) (transitions s) (λ t m. m)))

pub each_taken : (s : Spec) (w : World) (present : List Instance) (R : Component → ℕ → ℕ → Type 0) (ms : List ℕ) → AllThree R (components s) w.choices ms
    → Each (IsTaken (zip (components s) w.choices)) (enabled_transitions s (view s w) present)
each_taken s w present R ms h = each_active s w R ms h (enabled_transitions s (view s w) present) (enabled_active s w present)
