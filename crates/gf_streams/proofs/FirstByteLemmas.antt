-- The first byte that passes a test, as a position in a list.
use Rattle.std.proofs.Common.{◌≡◌, ℕ, ◌<◌, Bool, true, false, List, length, nat_lt, get_or, sym, ap}
use Rattle.std.proofs.Common.{◌∙◌, arith, inl, inr, cond}
use Rattle.std.specs.Prelude.{Option, Some, None}
use Rattle.std.specs.List.{position, position_or_len}
use Rattle.std.proofs.lemmas.Bool.{cases_Bool, lt-ltb, le-ltb}
use Rattle.std.proofs.lemmas.List.Sums.{position_or_len_is}
use Rattle.memchr.specs.Find.{IsFirstByte, Nowhere, Passes}

module _ (test : ℕ → Bool) (hay : List ℕ) where
  fails : (i k : ℕ) → Nowhere (Passes test hay) 0 i → k < i → test (get_or hay k 0) ≡ false
  fails i k n l = elim (cases_Bool (test (get_or hay k 0))) [
    | inl t ↦ absurd (n k (omega arith) l t)
    | inr f ↦ f
  ]

  position_at : (i : ℕ) → position_or_len test hay ≡ i
      → position test hay ≡ cond (nat_lt i (length hay)) (Some i) None
  position_at i e = ap (λ k. cond (nat_lt k (length hay)) (Some k) None) e

  pub position-from_first : (r : Option ℕ) → IsFirstByte test hay r → r ≡ position test hay
  position-from_first None h =
      let e = position_or_len_is test hay (length hay) 0 (omega arith)
      (λ k l. fails (length hay) k h l) (λ l. absurd (omega arith)) in
      let n : nat_lt (length hay) (length hay) ≡ false = le-ltb (length hay) (length hay)
      (omega arith) in
      sym (position_at (length hay) e ∙ ap (λ b. cond b (Some (length hay)) None) n)
  position-from_first (Some i) h =
      let high = h.0.high in
      let e = position_or_len_is test hay i 0 (omega arith) (λ k l. fails i k h.0.before l)
      (λ l. h.1) in
      let n : nat_lt i (length hay) ≡ true = lt-ltb i (length hay) high in
      sym (position_at i e ∙ ap (λ b. cond b (Some i) None) n)
