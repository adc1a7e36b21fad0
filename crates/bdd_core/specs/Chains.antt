-- The unique table: the bucket of a node, and the chain of each bucket. No public clause speaks of this.
use Rattle.std.specs.Prelude.{◌≡◌, ℕ, ◌+◌, ◌-◌, ◌*◌, ◌/◌, ◌%◌, ◌^◌, ◌<◌, ◌≤◌, min, max, List, length, slice_index_or, bit_and}
use Rattle.bdd_core.specs.declared.node.Node.{Node}
use Rattle.bdd_core.specs.declared.unique.chains.Entry.{Entry}
use Rattle.bdd_core.specs.Diagram.{no_node}

-- a bucket of so many, by a level and two places
abbrev pub bucket_by : ℕ → ℕ → ℕ → ℕ → ℕ
bucket_by buckets level less more =
    bit_and ((bit_and (((less * 0x9e3779b97f4a7c15) % 2 ^ 64 + (level * 0xd6e8feb86659fd93) % 2 ^ 64) % 2 ^ 64 / 2 ^ 32) (buckets - 1) / 2 ^ 4 + more) % 2 ^ 64) (buckets - 1)

-- the bucket of a node, of so many
unfoldable pub bucket_of : ℕ → Node → ℕ
bucket_of buckets node = bucket_by buckets node.level (min node.low node.high) (max node.low node.high)

abbrev pub node_of : Entry → Node
node_of entry = entry.node

-- the entry at a place
abbrev pub entry_at : List Entry → ℕ → Entry
entry_at entries k = slice_index_or entries k (record { node = no_node; next = 0 })

-- the bucket of the node at a place
abbrev pub bucket_at : List Entry → ℕ → ℕ → ℕ
bucket_at entries buckets k = bucket_of buckets (node_of (entry_at entries k))

-- `last` is the last place before `end` that is in the bucket, or a constant's where there is none
pub record IsLast (entries : List Entry) (buckets bucket end last : ℕ) : Type 0 where
  pub before : last < end
  pub inside : 2 ≤ last → bucket_at entries buckets last ≡ bucket
  pub latest : (k : ℕ) → 2 ≤ k → k < end → bucket_at entries buckets k ≡ bucket → k ≤ last

-- before `end`, the head of each bucket is its last place, and next to a place stands the last one before it in its bucket
pub record AreLinked (entries : List Entry) (heads : List ℕ) (buckets end : ℕ) : Type 0 where
  pub from_head : (bucket : ℕ) → bucket < buckets → IsLast entries buckets bucket end (slice_index_or heads bucket 0)
  pub from_place : (k : ℕ) → 2 ≤ k → k < end → IsLast entries buckets (bucket_at entries buckets k) k (entry_at entries k).next

-- all entries but the two constants are linked
pub record IsTable (entries : List Entry) (heads : List ℕ) : Type 0 where
  pub constants : 2 ≤ length entries
  pub small : length entries ≤ 2 ^ 32
  pub some : 0 < length heads
  pub linked : AreLinked entries heads (length heads) (length entries)
