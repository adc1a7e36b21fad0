-- The numbers of parts in a world.
use Rattle.std.proofs.Common.{◌≡◌, ℕ, zero, suc, ◌<◌, ◌≤◌, List, [], ◌∷◌, length, zip, get_or, Some, None, slice_get, ℤ, neg_ℤ, ◌+ℤ◌, ◌-ℤ◌, unsigned_abs, refl, sym, ◌∙◌, ap, arith}
use Rattle.std.proofs.lemmas.Int.{ints}
use Rattle.std.proofs.lemmas.Option.{slice_get-get_or}
use Rattle.rsml_meaning.specs.Cells.{InputCell}
use Rattle.state_tree.proofs.Lists.{within_get}
use Rattle.world_levels.specs.Spelling.{above_least}

pub minus : (a b : ℤ) → a -ℤ b ≡ a +ℤ neg_ℤ b
minus a b = grind (arith, ints)

pair_at : (cs : List InputCell) (ns : List ℤ) (k : ℕ) (c : InputCell) (n : ℤ) → slice_get cs k ≡ Some c → slice_get ns k ≡ Some n → slice_get (zip cs ns) k ≡ Some (c, n)
pair_at [] ns k c n a b = cc
pair_at (d ∷ cs) [] k c n a b = cc
pair_at (d ∷ cs) (m ∷ ns) zero c n a b = cc
pair_at (d ∷ cs) (m ∷ ns) (suc k) c n a b = pair_at cs ns k c n a b

none_past : (cs : List InputCell) (ns : List ℤ) (k : ℕ) → length ns ≤ k → slice_get (zip cs ns) k ≡ None
none_past [] ns k past = refl
none_past (d ∷ cs) [] k past = refl
none_past (d ∷ cs) (m ∷ ns) zero past = absurd (omega (arith, past))
none_past (d ∷ cs) (m ∷ ns) (suc k) past = none_past cs ns k (omega (arith, past))

-- the item that was read at a place
pub item_at : {A : Type 0} (xs : List A) (k : ℕ) (x : A) → x ≡ get_or xs k x → k < length xs → slice_get xs k ≡ Some x
item_at xs k x is less = slice_get-get_or xs k x less ∙ ap Some (sym is)

pub above_at : (cs : List InputCell) (ns : List ℤ) (k : ℕ) (low number : ℤ) → length ns ≡ length cs → number ≡ get_or ns k number → k < length ns
    → ((c : InputCell) → slice_get cs k ≡ Some c → low ≡ c.numbers.low) → unsigned_abs (number +ℤ neg_ℤ low) ≡ above_least (slice_get (zip cs ns) k)
above_at cs ns k low number same is less lows =
    let r = within_get cs k (omega (arith, same, less)) in
    ap (λ z. unsigned_abs (number +ℤ neg_ℤ z)) (lows r.0 r.1)
    ∙ ap above_least (sym (pair_at cs ns k r.0 number r.1 (item_at ns k number is less)))

pub none_above : (cs : List InputCell) (ns : List ℤ) (k : ℕ) → length ns ≤ k → 0 ≡ above_least (slice_get (zip cs ns) k)
none_above cs ns k past = ap above_least (sym (none_past cs ns k past))
