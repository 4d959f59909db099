-- Lists of the same elements, each once, are equally long. The crates above cite them.
use Rattle.std.proofs.Common.{◌≡◌, ◌≢◌, zero, suc, ◌+◌, ◌≤◌, List, [], ◌∷◌, length, inl, inr}
use Rattle.std.proofs.Common.{subst, sym, ◌∙◌, arith}
use Rattle.std.specs.Prelude.{◌⊎◌, ◌↔◌, All, AllPairs, Contains}
use Rattle.std.proofs.lemmas.List.Elements.{All-contains}
use Rattle.gf_base.proofs.ListLemmas.{Contains-cons_cases, Contains-cons_head, Contains-cons_tail}
use Rattle.gf_base.proofs.ListLemmas.{not_Contains-nil}

module _ {X : Type 0} where
  -- the list ks with x taken out of it
  pub record Without (x : X) (ks : List X) : Type 0 where
    pub rest : List X
    pub shorter : length ks ≡ length rest + 1
    pub keeps : (y : X) → Contains ks y → (y ≡ x) ⊎ Contains rest y

  pub taken_out : (x : X) (ks : List X) → Contains ks x → Without x ks
  taken_out x [] h = absurd (not_Contains-nil x h)
  taken_out x (k ∷ ks) h = elim (Contains-cons_cases k ks x h) [
    | inl e ↦ record {
      rest = ks;
      shorter = omega arith;
      keeps = λ y i. elim (Contains-cons_cases k ks y i)
          [ inl d ↦ inl (d ∙ sym e) | inr j ↦ inr j ];
    }
    | inr i ↦ let w = taken_out x ks i in record {
      rest = k ∷ w.rest;
      shorter = let s = w.shorter in omega arith;
      keeps = λ y j. elim (Contains-cons_cases k ks y j) [
        | inl d ↦ inr (subst (Contains (k ∷ w.rest)) (sym d) (Contains-cons_head k w.rest))
        | inr l ↦ elim (w.keeps y l) [
          | inl d ↦ inl d
          | inr r ↦ inr (Contains-cons_tail k w.rest y r)
        ]
      ];
    }
  ]

  pub no_longer : (gs ks : List X) → AllPairs (λ a b. a ≢ b) gs
      → ((x : X) → Contains gs x → Contains ks x) → length gs ≤ length ks
  no_longer [] ks p f = omega arith
  no_longer (g ∷ gs) ks p f =
      let w = taken_out g ks (f g (Contains-cons_head g gs)) in
      let head : All (λ x. g ≢ x) gs = λ k d l. p zero (suc k) d (omega arith) (omega arith) in
      let r = no_longer gs w.rest (λ i j d l m. p (suc i) (suc j) d (omega arith) (omega arith))
      (λ x i. elim (w.keeps x (f x (Contains-cons_tail g gs x i))) [
        | inl e ↦ absurd (All-contains (λ z. g ≢ z) gs x head i (sym e))
        | inr j ↦ j
      ]) in
      let s = w.shorter in
      omega arith

  pub equally_long : (gs ks : List X) → AllPairs (λ a b. a ≢ b) gs → AllPairs (λ a b. a ≢ b) ks
      → ((x : X) → Contains gs x ↔ Contains ks x) → length gs ≡ length ks
  equally_long gs ks p q f =
      let a = no_longer gs ks p (λ x. (f x).0) in
      let b = no_longer ks gs q (λ x. (f x).1) in
      omega (arith, a, b)
