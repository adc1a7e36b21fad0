-- The chains of a unique table: an entry put in front of its bucket, and how far a walk along a chain has come.
use Rattle.std.proofs.Common.{◌≡◌, ◌≢◌, ℕ, ◌+◌, ◌<◌, ◌≤◌, List, [], ◌∷◌, ◌++◌, map, length, get_or, set, replicate, refl, sym, ap, subst, ◌∙◌, arith, ◌⊎◌, inl, inr, Option, Some, None, IfNone, Bool, true, false, ◌&&◌, eqb, eq-eqb, true≢false}
use Rattle.std.specs.Cmp.Derive.{both_true}
use Rattle.std.proofs.lemmas.Bool.{cases_lt, cases_eq}
use Rattle.std.proofs.lemmas.List.{get_or-set_same, get_or-set_other, get_or_append_left, get_or-replicate, map-set, set-get_or, get_or-map, length-map}
use Rattle.bdd_core.specs.declared.node.Node.{Node}
use Rattle.bdd_core.specs.declared.unique.chains.Entry.{Entry}
use Rattle.bdd_core.specs.Diagram.{no_node}
use Rattle.bdd_core.specs.Chains.{bucket_of, node_of, entry_at, bucket_at, IsLast, AreLinked, IsTable}
use Rattle.bdd_core.specs.Unique.{IsNew}

-- the entries before `end` have the same nodes
pub record SameNodes (old new : List Entry) (end : ℕ) : Type 0 where
  pub same : (k : ℕ) → k < end → node_of (entry_at new k) ≡ node_of (entry_at old k)

bucket-same : (old new : List Entry) (buckets end k : ℕ) → SameNodes old new end → k < end → bucket_at new buckets k ≡ bucket_at old buckets k
bucket-same old new buckets end k s less = ap (bucket_of buckets) (s.same k less)

last-same : (old new : List Entry) (buckets bucket end last : ℕ) → SameNodes old new end → IsLast old buckets bucket end last → IsLast new buckets bucket end last
last-same old new buckets bucket end last s l = record {
  before = l.before;
  inside = λ two. bucket-same old new buckets end last s l.before ∙ l.inside two;
  latest = λ k two less e. l.latest k two less (sym (bucket-same old new buckets end k s less) ∙ e);
}

last-at : (entries : List Entry) (buckets bucket bucket2 end last last2 : ℕ) → bucket ≡ bucket2 → last ≡ last2 → IsLast entries buckets bucket end last → IsLast entries buckets bucket2 end last2
last-at entries buckets bucket bucket2 end last last2 e f l = subst (λ b. IsLast entries buckets b end last2) e (subst (IsLast entries buckets bucket end) f l)

-- entries that have the same nodes and the same next places before `end` are linked alike
pub linked-same : (old new : List Entry) (heads : List ℕ) (buckets end : ℕ) → ((k : ℕ) → k < end → entry_at new k ≡ entry_at old k) → AreLinked old heads buckets end → AreLinked new heads buckets end
linked-same old new heads buckets end alike l =
    let s : SameNodes old new end = record { same = λ k less. ap node_of (alike k less) } in
    record {
      from_head = λ b less. last-same old new buckets b end (get_or heads b 0) s (l.from_head b less);
      from_place = λ k two less.
          last-at new buckets (bucket_at old buckets k) (bucket_at new buckets k) k (entry_at old k).next (entry_at new k).next
          (sym (bucket-same old new buckets end k s less)) (ap (λ (e : Entry). e.next) (sym (alike k less)))
          (last-same old new buckets (bucket_at old buckets k) k (entry_at old k).next (record { same = λ j below. s.same j (omega arith) }) (l.from_place k two less));
    }

-- one more entry at the end
pub linked-push : (entries : List Entry) (heads : List ℕ) (buckets : ℕ) (e : Entry) → AreLinked entries heads buckets (length entries) → AreLinked (entries ++ e ∷ []) heads buckets (length entries)
linked-push entries heads buckets e l = linked-same entries (entries ++ e ∷ []) heads buckets (length entries) (λ k less. get_or_append_left entries (e ∷ []) (record { node = no_node; next = 0 }) k less) l

-- the constants need no link
pub linked-none : (entries : List Entry) (buckets : ℕ) → AreLinked entries (replicate buckets 0) buckets 2
linked-none entries buckets = record {
  from_head = λ b less. subst (IsLast entries buckets b 2) (sym (get_or-replicate buckets b 0 0 less)) (record {
    before = omega arith;
    inside = λ two. absurd (omega arith);
    latest = λ k two less e. absurd (omega arith);
  });
  from_place = λ k two less. absurd (omega arith);
}

-- an entry put in front of its bucket
module _ (entries : List Entry) (heads : List ℕ) (buckets place bucket : ℕ) (within : place < length entries) (fits : bucket < length heads) (is : bucket ≡ bucket_at entries buckets place) where
  -- the entries then
  abbrev linked : List Entry
  linked = set entries place (record { node = node_of (entry_at entries place); next = get_or heads bucket 0 })

  here : entry_at linked place ≡ record { node = node_of (entry_at entries place); next = get_or heads bucket 0 }
  here = get_or-set_same entries place (record { node = node_of (entry_at entries place); next = get_or heads bucket 0 }) (record { node = no_node; next = 0 }) within

  elsewhere : (k : ℕ) → k ≢ place → entry_at linked k ≡ entry_at entries k
  elsewhere k ne = get_or-set_other entries place k (record { node = node_of (entry_at entries place); next = get_or heads bucket 0 }) (record { node = no_node; next = 0 }) ne

  same_nodes : (end : ℕ) → SameNodes entries linked end
  same_nodes end = record {
    same = λ k less. elim (cases_eq k place) [
      | inl e ↦ ap (λ j. node_of (entry_at linked j)) e ∙ ap node_of here ∙ ap (λ j. node_of (entry_at entries j)) (sym e)
      | inr ne ↦ ap node_of (elsewhere k ne)
    ];
  }

  same_bucket : (k : ℕ) → bucket_at linked buckets k ≡ bucket_at entries buckets k
  same_bucket k = ap (bucket_of buckets) ((same_nodes (k + 1)).same k (omega arith))

  head-linked : AreLinked entries heads buckets place → (b : ℕ) → b < buckets → (b ≡ bucket) ⊎ (b ≢ bucket) → IsLast linked buckets b (place + 1) (get_or (set heads bucket place) b 0)
  head-linked l b less (inl e) =
      last-at linked buckets bucket b (place + 1) place (get_or (set heads bucket place) b 0) (sym e)
      (sym (ap (λ b. get_or (set heads bucket place) b 0) e ∙ get_or-set_same heads bucket place 0 fits)) (record {
        before = omega arith;
        inside = λ two. same_bucket place ∙ sym is;
        latest = λ k two below e. omega arith;
      })
  head-linked l b less (inr ne) =
      let old : IsLast entries buckets b place (get_or heads b 0) = l.from_head b less in
      let new : IsLast linked buckets b place (get_or heads b 0) = last-same entries linked buckets b place (get_or heads b 0) (same_nodes place) old in
      subst (IsLast linked buckets b (place + 1)) (sym (get_or-set_other heads bucket b place 0 ne)) (record {
        before = omega (arith, new.before);
        inside = new.inside;
        latest = λ k two below e. elim (cases_lt k place) [
          | inl early ↦ new.latest k two early e
          | inr late ↦
              let at : k ≡ place = omega arith in
              absurd (ne (sym e ∙ same_bucket k ∙ ap (bucket_at entries buckets) at ∙ sym is))
        ];
      })

  place-linked : AreLinked entries heads buckets place → bucket < buckets → (k : ℕ) → 2 ≤ k → k < place + 1 → (k ≡ place) ⊎ (k ≢ place)
      → IsLast linked buckets (bucket_at linked buckets k) k (entry_at linked k).next
  place-linked l some k two less (inl e) =
      subst (λ k. IsLast linked buckets (bucket_at linked buckets k) k (entry_at linked k).next) (sym e)
      (last-at linked buckets bucket (bucket_at linked buckets place) place (get_or heads bucket 0) (entry_at linked place).next
      (is ∙ sym (same_bucket place)) (ap (λ (e : Entry). e.next) (sym here))
      (last-same entries linked buckets bucket place (get_or heads bucket 0) (same_nodes place) (l.from_head bucket some)))
  place-linked l some k two less (inr ne) =
      last-at linked buckets (bucket_at entries buckets k) (bucket_at linked buckets k) k (entry_at entries k).next (entry_at linked k).next
      (sym (same_bucket k)) (ap (λ (e : Entry). e.next) (sym (elsewhere k ne)))
      (last-same entries linked buckets (bucket_at entries buckets k) k (entry_at entries k).next (same_nodes k) (l.from_place k two (omega arith)))

  -- it is linked up to itself
  pub link-linked : AreLinked entries heads buckets place → bucket < buckets → AreLinked linked (set heads bucket place) buckets (place + 1)
  link-linked l some = record {
    from_head = λ b less. head-linked l b less (cases_eq b bucket);
    from_place = λ k two less. place-linked l some k two less (cases_eq k place);
  }

-- an entry with the same node in its place
pub nodes-set : (entries : List Entry) (place : ℕ) (e : Entry) → place < length entries → node_of e ≡ node_of (entry_at entries place) → map node_of (set entries place e) ≡ map node_of entries
nodes-set entries place e within same =
    map-set node_of entries place e
    ∙ ap (set (map node_of entries) place) (same ∙ sym (get_or-map node_of entries place (record { node = no_node; next = 0 }) no_node within))
    ∙ set-get_or (map node_of entries) place no_node

abbrev entry_of : Node → ℕ → Entry
entry_of node next = record { node = node; next = next }

-- an entry is put in front of its bucket, as the code reads it
pub link-reads : (entries : List Entry) (heads : List ℕ) (place bucket next : ℕ) (node : Node) → place < length entries → bucket < length heads
    → node ≡ node_of (entry_at entries place) → bucket ≡ bucket_of (length heads) node → next ≡ get_or heads bucket 0
    → AreLinked entries heads (length heads) place → AreLinked (set entries place (record { node = node; next = next })) (set heads bucket place) (length heads) (place + 1)
link-reads entries heads place bucket next node within fits en eb ex l =
    let e : entry_of node next ≡ entry_of (node_of (entry_at entries place)) (get_or heads bucket 0) = λ i. record { node = en i; next = ex i } in
    subst (λ (e : Entry). AreLinked (set entries place e) (set heads bucket place) (length heads) (place + 1)) (sym e)
    (link-linked entries heads (length heads) place bucket within fits (eb ∙ ap (bucket_of (length heads)) en) l fits)

-- how far a walk along the chain of a node's bucket has come: each place of the node is still ahead
pub record IsAhead (entries : List Entry) (buckets : ℕ) (node : Node) (at : ℕ) : Type 0 where
  pub within : at < length entries
  pub inside : 2 ≤ at → bucket_at entries buckets at ≡ bucket_of buckets node
  pub ahead : (k : ℕ) → 2 ≤ k → k < length entries → node_of (entry_at entries k) ≡ node → k ≤ at

pub ahead-start : (entries : List Entry) (heads : List ℕ) (node : Node) → IsTable entries heads → bucket_of (length heads) node < length heads
    → IsAhead entries (length heads) node (get_or heads (bucket_of (length heads) node) 0)
ahead-start entries heads node t less =
    let l : IsLast entries (length heads) (bucket_of (length heads) node) (length entries) (get_or heads (bucket_of (length heads) node) 0) = t.linked.from_head (bucket_of (length heads) node) less in
    record { within = l.before; inside = l.inside; ahead = λ k two within e. l.latest k two within (ap (bucket_of (length heads)) e) }

pub ahead-next : (entries : List Entry) (heads : List ℕ) (node : Node) (at : ℕ) → IsTable entries heads → IsAhead entries (length heads) node at → 2 ≤ at → node_of (entry_at entries at) ≢ node
    → ((entry_at entries at).next < at) × IsAhead entries (length heads) node (entry_at entries at).next
ahead-next entries heads node at t a two ne =
    let l : IsLast entries (length heads) (bucket_at entries (length heads) at) at (entry_at entries at).next = t.linked.from_place at two a.within in (
      l.before,
      record {
        within = omega (arith, l.before, a.within);
        inside = λ second. l.inside second ∙ a.inside two;
        ahead = λ k second within e. l.latest k second (before k (a.ahead k second within e) e) (ap (bucket_of (length heads)) e ∙ sym (a.inside two));
      },
    )
  where
    before : (k : ℕ) → k ≤ at → node_of (entry_at entries k) ≡ node → k < at
    before k most e = elim (cases_lt k at) [ inl less ↦ less | inr past ↦ absurd (ne (ap (λ j. node_of (entry_at entries j)) (omega arith) ∙ e)) ]

pub ahead-end : (entries : List Entry) (buckets : ℕ) (node : Node) (at : ℕ) → IsAhead entries buckets node at → at ≤ 1 → (k : ℕ) → 2 ≤ k → k < length entries → node_of (entry_at entries k) ≢ node
ahead-end entries buckets node at a most k two within e = absurd (omega (arith, a.ahead k two within e))

-- what `==` of two nodes computes
abbrev same_node : Node → Node → Bool
same_node a b = eqb a.level b.level && (eqb a.low b.low && eqb a.high b.high)

same_node-refl : (t : Node) → same_node t t ≡ true
same_node-refl t = both_true (eq-eqb t.level t.level refl) (both_true (eq-eqb t.low t.low refl) (eq-eqb t.high t.high refl))

-- nodes that `==` tells apart
pub other_node : (a b : Node) (test : Bool) → test ≡ same_node a b → test ≡ false → a ≢ b
other_node a b test is fails e = true≢false (sym (same_node-refl b) ∙ ap (λ n. same_node n b) (sym e) ∙ sym is ∙ fails)

-- a node that no entry has is new
pub new-none : (o : Option ℕ) (entries slice : List Entry) (now : List Node) (node : Node) → slice ≡ entries → map node_of entries ≡ now
    → IfNone o ((k : ℕ) → 2 ≤ k → k < length slice → node_of (entry_at slice k) ≢ node) → IfNone o (IsNew now node)
new-none (Some x) entries slice now node es en h = h
new-none None entries slice now node es en h = subst (λ ns. IsNew ns node) (ap (map node_of) es ∙ en)
    (λ k two within e. h k two (omega (arith, within, length-map slice node_of)) (sym (get_or-map node_of slice k (record { node = no_node; next = 0 }) no_node (omega (arith, within, length-map slice node_of))) ∙ e))
