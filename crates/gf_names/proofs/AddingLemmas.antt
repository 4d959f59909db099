-- What one more step adds to all that steps have added.
use Rattle.std.proofs.Common.{inl, inr}
use Rattle.std.specs.Prelude.{◌↔◌, ◌⊎◌}

-- All is what Was there and what is Here. The old is the first with Was, the new the old with Here
pub added_more : {First Old New Was Here All : Type 0} → All ↔ (Was ⊎ Here) → Old ↔ (First ⊎ Was)
    → New ↔ (Old ⊎ Here) → New ↔ (First ⊎ All)
added_more parts was adds = (
  λ c. elim (adds.0 c) [
    | inl k ↦ elim (was.0 k) [ inl a ↦ inl a | inr t ↦ inr (parts.1 (inl t)) ]
    | inr t ↦ inr (parts.1 (inr t))
  ],
  λ w. adds.1 (elim w [
    | inl a ↦ inl (was.1 (inl a))
    | inr t ↦ elim (parts.0 t) [ inl u ↦ inl (was.1 (inr u)) | inr u ↦ inr u ]
  ]),
)
