-- The levels of each part, one slot after another.
use Rattle.std.proofs.Common.{◌≡◌, ℕ, ◌+◌, ◌<◌, ◌≤◌, false, List, [], ◌++◌, length, replicate, drop, slice_index_or, option_to_list, sym, ◌∙◌, ap, arith}
use Rattle.std.proofs.lemmas.List.{append-nil, append_assoc, drop_all, get_or-replicate, length-replicate}
use Rattle.spelled_numbers.specs.declared.weighted.Weighted.{Weighted}
use Rattle.spelled_numbers.specs.declared.slot.Slot.{Slot}
use Rattle.spelled_numbers.specs.declared.slot.Slot.TheVariants.{Free}
use Rattle.spelled_numbers.specs.Bits.{bit_of, bits_of}
use Rattle.spelled_numbers.proofs.BitLemmas.{bits_more}
use Rattle.world_levels.specs.Stored.{AddsBit, AreBits}

-- the lists of the slots so far, and what comes after them
pub record BitsUntil (parts : ℕ) (slots : List Slot) (level : ℕ) (bits : List (List Weighted)) : Type 0 where
  pub many : length bits ≡ parts
  pub each : (p : ℕ) → p < parts → slice_index_or bits p [] ++ bits_of p false (drop level slots) level ≡ bits_of p false slots 0

pub no_bits_yet : (parts : ℕ) (slots : List Slot) (bits : List (List Weighted)) → bits ≡ replicate parts [] → BitsUntil parts slots 0 bits
no_bits_yet parts slots bits e = record {
  many = ap length e ∙ length-replicate parts [];
  each = λ p less. ap (λ ls. slice_index_or ls p [] ++ bits_of p false slots 0) e ∙ ap (λ l. l ++ bits_of p false slots 0) (get_or-replicate parts p [] [] less);
}

pub bits_until_more : (parts : ℕ) (slots : List Slot) (level : ℕ) (slot : Slot) (old new : List (List Weighted)) → level < length slots → slot ≡ slice_index_or slots level Free
    → BitsUntil parts slots level old → AddsBit slot level old new → BitsUntil parts slots (level + 1) new
bits_until_more parts slots level slot old new less is b a = record {
  many = a.many ∙ b.many;
  each = λ p below.
      ap (λ l. l ++ bits_of p false (drop (level + 1) slots) (level + 1)) (a.each p (omega (arith, below, b.many)))
      ∙ append_assoc (slice_index_or old p []) (option_to_list (bit_of p false slot level)) (bits_of p false (drop (level + 1) slots) (level + 1))
      ∙ ap (λ s. slice_index_or old p [] ++ (option_to_list (bit_of p false s level) ++ bits_of p false (drop (level + 1) slots) (level + 1))) is
      ∙ ap (λ l. slice_index_or old p [] ++ l) (sym (bits_more p false slots level less))
      ∙ b.each p below;
}

pub all_bits : (parts : ℕ) (slots : List Slot) (level : ℕ) (bits : List (List Weighted)) → length slots ≤ level → BitsUntil parts slots level bits → AreBits parts slots bits
all_bits parts slots level bits past b = record {
  many = b.many;
  each = λ p below. sym (append-nil (slice_index_or bits p [])) ∙ ap (λ ss. slice_index_or bits p [] ++ bits_of p false ss level) (sym (drop_all level slots past)) ∙ b.each p below;
}
