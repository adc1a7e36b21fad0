-- A level given a value in a function and in the functions of all keys: what a search for the least world does after each part.
use Rattle.std.proofs.Common.{◌≡◌, ◌≢◌, ◌↔◌, ℕ, ◌<◌, Bool, true, sym, ap, ◌∙◌, inl, inr, arith}
use Rattle.std.proofs.lemmas.Bool.{cases_eq}
use Rattle.bdd_core.specs.Calls.{with_value}
use Rattle.bdd_core.proofs.CanonicalLemmas.{with_value-same, with_value-apart}
use Rattle.free_levels.specs.Keys.{Keys}
use Rattle.free_levels.specs.Settle.{MayHoldLawfully}
use Rattle.free_levels.proofs.ValueLemmas.{with_value-own, with_value-twice}

-- then the level is one of those that are kept, and has that value
pub fixes-level : (keys fixed : Keys) (F G : (ℕ → Bool) → Bool) (l : ℕ) (x : Bool) → fixed.count ≡ keys.count
    → ((i : ℕ) → i < keys.count → fixed.level i ≡ keys.level i) → ((i : ℕ) → i < keys.count → keys.level i ≢ l)
    → ((i : ℕ) (v : ℕ → Bool) → i < keys.count → fixed.function i v ≡ keys.function i (with_value v l x))
    → ((v : ℕ → Bool) → G v ≡ F (with_value v l x))
    → (kept v : ℕ → Bool) → MayHoldLawfully fixed G kept v ↔ MayHoldLawfully keys F (with_value kept l true) (with_value v l x)
fixes-level keys fixed F G l x len levels apart exact means kept v = (
  λ m. record {
    other = with_value m.other l x;
    agree = λ k there. elim (cases_eq k l) [
      | inl same ↦ ap (with_value m.other l x) same ∙ with_value-same m.other l x ∙ sym (with_value-same v l x) ∙ ap (with_value v l x) (sym same)
      | inr ne ↦ with_value-apart m.other l k x ne ∙ m.agree k (sym (with_value-apart kept l k true ne) ∙ there) ∙ sym (with_value-apart v l k x ne)
    ];
    lawful = λ i less. with_value-apart m.other l (keys.level i) x (apart i less) ∙ ap m.other (sym (levels i less)) ∙ m.lawful i (omega (arith, less, len)) ∙ exact i m.other less;
    holds = sym (means m.other) ∙ m.holds;
  },
  λ m.
      let w : ℕ → Bool = with_value m.other l (v l) in
      let has : m.other l ≡ x = m.agree l (with_value-same kept l true) ∙ with_value-same v l x in
      let back : with_value w l x ≡ m.other = with_value-twice m.other l (v l) x ∙ with_value-own m.other l x has in
      record {
        other = w;
        agree = λ k there. elim (cases_eq k l) [
          | inl same ↦ ap w same ∙ with_value-same m.other l (v l) ∙ ap v (sym same)
          | inr ne ↦ with_value-apart m.other l k (v l) ne ∙ m.agree k (with_value-apart kept l k true ne ∙ there) ∙ with_value-apart v l k x ne
        ];
        lawful = λ i less.
            let small : i < keys.count = omega (arith, less, len) in
            ap w (levels i small) ∙ with_value-apart m.other l (keys.level i) (v l) (apart i small) ∙ m.lawful i small
            ∙ ap (keys.function i) (sym back) ∙ sym (exact i w small);
        holds = means w ∙ ap F back ∙ m.holds;
      },
)
