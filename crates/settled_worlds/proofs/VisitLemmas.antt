-- A walk over the nodes of a function, each once: what a visit leaves, and what is known at the end.
use Rattle.std.proofs.Common.{◌≡◌, ◌≢◌, ℕ, zero, suc, ◌+◌, ◌<◌, ◌≤◌, Bool, true, false, List, [], ◌∷◌, ◌++◌, length, get_or, set, if◌then◌else◌, refl, sym, ap, subst, ◌∙◌, inl, inr, eqb, Contains, true≢false, append-nil, append_assoc, arith}
use Rattle.std.proofs.lemmas.Bool.{cases_eq, eqb-true}
use Rattle.std.proofs.lemmas.Grind.{get_or-set_at}
use Rattle.std.proofs.lemmas.List.{get_or_append_left, get_or_default, get_or-set_other, length-append, length-set}
use Rattle.std.proofs.lemmas.List.Elements.{Contains-append_left, Contains-append_cases, Contains-push}
use Rattle.std.proofs.lemmas.Map.Steps.{length-le_from_distinct_below}
use Rattle.std.specs.List.{IsDistinct, list_any}
use Rattle.indexmap.specs.IndexSet.{insert_key}
use Rattle.indexmap.proofs.CallerLemmas.{Contains-list_any}
use Rattle.bdd_core.specs.declared.branch.Branch.{Branch}
use Rattle.bdd_core.specs.Diagram.{Diagram, IsRef, meaning, IsReducedNode, node_at}
use Rattle.bdd_core.specs.Calls.{with_value, Ignores, IsBranch}
use Rattle.bdd_core.proofs.CanonicalLemmas.{with_value-apart}
use Rattle.settled_worlds.specs.Visits.{IsVisited, Visits}

-- INSERTIONS

-- what a set has after an insertion
record Inserts (old new : List ℕ) (k : ℕ) : Type 0 where
  pub more : List ℕ
  pub is : new ≡ old ++ more
  pub has : Contains new k
  pub only : (x : ℕ) → Contains more x → x ≡ k

only_one : (k x : ℕ) → Contains (k ∷ []) x → x ≡ k
only_one k x (zero, h, e) = sym e
only_one k x (suc i, h, e) = absurd (omega arith)

inserts : (ks : List ℕ) (k : ℕ) → Inserts ks (insert_key eqb ks k) k
inserts ks k = by (list_any (eqb k) ks) refl
  where
    by : (b : Bool) → list_any (eqb k) ks ≡ b → Inserts ks (if b then ks else ks ++ k ∷ []) k
    by true e = record {
      more = [];
      is = sym (append-nil ks);
      has = Contains-list_any eqb eqb-true ks k e;
      only = λ x c. absurd (let none : c.0 < 0 = c.1 in omega arith);
    }
    by false e = record { more = k ∷ []; is = refl; has = Contains-push ks k; only = only_one k }

-- different places are at most as many as the nodes
pub few : (d : Diagram) (ks : List ℕ) → IsDistinct eqb ks → ((k : ℕ) → Contains ks k → IsRef d k) → length ks ≤ length d.nodes
few d ks distinct refs =
    length-le_from_distinct_below ks (length d.nodes) distinct (λ q there. refs q (Contains-list_any eqb eqb-true ks q there))

-- VISITS

set_stays : (used : List Bool) (level other : ℕ) → get_or used other false ≡ true → level < length used
    → get_or (set used level true) other false ≡ true
set_stays used level other there less = elim (cases_eq other level) [
  | inl same ↦ get_or-set_at used level other true false same less
  | inr ne ↦ get_or-set_other used level other true false ne ∙ there
]

-- a node visited: its level set, and its children inserted
pub visits_node : (d : Diagram) (f : ℕ) (branch : Branch) (old middle new : List ℕ) (used : List Bool) → IsRef d f → IsBranch d f branch
    → branch.level < length used → middle ≡ insert_key eqb old branch.low → new ≡ insert_key eqb middle branch.high
    → Visits d f old new used (set used branch.level true)
visits_node d f branch old middle new used ref node less first second =
    let low : Inserts old middle branch.low = subst (λ m. Inserts old m branch.low) (sym first) (inserts old branch.low) in
    let high : Inserts middle new branch.high = subst (λ n. Inserts middle n branch.high) (sym second) (inserts middle branch.high) in
    let is_low : (node_at d f).low ≡ branch.low = ap (λ t. t.low) node.node in
    let is_high : (node_at d f).high ≡ branch.high = ap (λ t. t.high) node.node in
    let r : IsReducedNode d f (node_at d f) = node.reduced in
    record {
      visited = inr (record {
        branch = branch;
        node = node;
        low = subst (λ n. Contains n branch.low) (sym high.is) (Contains-append_left middle high.more branch.low low.has);
        high = high.has;
        level = get_or-set_at used branch.level branch.level true false refl less;
      });
      added = low.more ++ high.more;
      seen = high.is ∙ ap (λ m. m ++ high.more) low.is ∙ append_assoc old low.more high.more;
      refs = λ k c. elim (Contains-append_cases low.more high.more k c) [
        | inl there ↦ (let e : k ≡ branch.low = low.only k there in omega (arith, r.low_before, is_low))
        | inr there ↦ (let e : k ≡ branch.high = high.only k there in omega (arith, r.high_before, is_high))
      ];
      many = length-set used branch.level true;
      marks = λ level there. set_stays used branch.level level there less;
    }

-- what has been visited stays so
visited_stays : (d : Diagram) (f k : ℕ) (old new : List ℕ) (before after : List Bool) → Visits d f old new before after
    → IsVisited d old before k → IsVisited d new after k
visited_stays d f k old new before after visits (inl constant) = inl constant
visited_stays d f k old new before after visits (inr marked) = inr (record {
  branch = marked.branch;
  node = marked.node;
  low = subst (λ n. Contains n marked.branch.low) (sym visits.seen)
      (Contains-append_left old visits.added marked.branch.low marked.low);
  high = subst (λ n. Contains n marked.branch.high) (sym visits.seen)
      (Contains-append_left old visits.added marked.branch.high marked.high);
  level = visits.marks marked.branch.level marked.level;
})

-- THE WALK

-- how far a walk from f has come: the places in the list before this one have been visited
pub record Walks (d : Diagram) (f place : ℕ) (seen : List ℕ) (used : List Bool) : Type 0 where
  pub start : Contains seen f
  pub refs : (k : ℕ) → Contains seen k → IsRef d k
  pub within : place ≤ length seen
  pub visited : (i : ℕ) → i < place → IsVisited d seen used (get_or seen i 0)
  pub many : length used ≡ d.levels

pub walks_more : (d : Diagram) (f place : ℕ) (old new : List ℕ) (before after : List Bool) → Walks d f place old before → place < length old
    → Visits d (get_or old place 0) old new before after → Walks d f (place + 1) new after
walks_more d f place old new before after walks less visits =
    let longer : length new ≡ length (old ++ visits.added) = ap length visits.seen in
    record {
      start = subst (λ n. Contains n f) (sym visits.seen) (Contains-append_left old visits.added f walks.start);
      refs = λ k c. elim (Contains-append_cases old visits.added k (subst (λ n. Contains n k) visits.seen c)) [
        | inl there ↦ walks.refs k there
        | inr there ↦ visits.refs k there
      ];
      within = omega (arith, longer, length-append old visits.added);
      visited = λ i below. subst (IsVisited d new after) (sym (stays i (omega arith))) (elim (cases_eq i place) [
        | inl same ↦ subst (λ i. IsVisited d new after (get_or old i 0)) (sym same) visits.visited
        | inr ne ↦ visited_stays d (get_or old place 0) (get_or old i 0) old new before after visits (walks.visited i (omega arith))
      ]);
      many = visits.many ∙ walks.many;
    }
  where
    stays : (i : ℕ) → i < length old → get_or new i 0 ≡ get_or old i 0
    stays i il = ap (λ n. get_or n i 0) visits.seen ∙ get_or_append_left old visits.added 0 i il

-- a function does not depend on a level that is not its node's, and on which its children do not depend
ignores_node : (d : Diagram) (f level : ℕ) (branch : Branch) → IsBranch d f branch → branch.level ≢ level → Ignores d branch.low level
    → Ignores d branch.high level → Ignores d f level
ignores_node d f level branch node apart low high v b =
    node.means (with_value v level b)
    ∙ either (with_value v level b branch.level) (v branch.level) (with_value-apart v level branch.level b apart)
    ∙ sym (node.means v)
  where
    either : (x y : Bool) → x ≡ y → meaning d (if x then branch.high else branch.low) (with_value v level b)
        ≡ meaning d (if y then branch.high else branch.low) v
    either true true e = high v b
    either false false e = low v b
    either true false e = absurd (true≢false e)
    either false true e = absurd (true≢false (sym e))

-- where all places of a list have been visited, their functions do not depend on a level that is not marked
ignores_below : (d : Diagram) (seen : List ℕ) (used : List Bool) (level : ℕ) → get_or used level false ≡ false
    → ((k : ℕ) → Contains seen k → IsVisited d seen used k) → (n k : ℕ) → k < n → Contains seen k → Ignores d k level
ignores_below d seen used level unset all zero k less there = absurd (omega arith)
ignores_below d seen used level unset all (suc n) k less there = by (all k there) (ignores_below d seen used level unset all n)
  where
    by : IsVisited d seen used k → ((x : ℕ) → x < n → Contains seen x → Ignores d x level) → Ignores d k level
    by (inl constant) rest = λ v b. constant.1 (with_value v level b) ∙ sym (constant.1 v)
    by (inr marked) rest =
        let r : IsReducedNode d k (node_at d k) = marked.node.reduced in
        let is_low : (node_at d k).low ≡ marked.branch.low = ap (λ t. t.low) marked.node.node in
        let is_high : (node_at d k).high ≡ marked.branch.high = ap (λ t. t.high) marked.node.node in
        ignores_node d k level marked.branch marked.node (λ e. true≢false (sym marked.level ∙ ap (λ l. get_or used l false) e ∙ unset))
        (rest marked.branch.low (omega (arith, r.low_before, is_low)) marked.low)
        (rest marked.branch.high (omega (arith, r.high_before, is_high)) marked.high)

pub walks_end : (d : Diagram) (f place : ℕ) (seen : List ℕ) (used : List Bool) → Walks d f place seen used → length seen ≤ place
    → (level : ℕ) → get_or used level false ≡ false → Ignores d f level
walks_end d f place seen used walks all level unset = ignores_below d seen used level unset each (suc f) f (omega arith) walks.start
  where
    each : (k : ℕ) → Contains seen k → IsVisited d seen used k
    each k c = subst (IsVisited d seen used) (get_or_default seen c.0 0 k c.1 ∙ c.2) (walks.visited c.0 (omega (arith, c.1)))
