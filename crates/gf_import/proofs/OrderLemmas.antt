-- What makes an object not be above another of its site: no higher layer, and no later number
-- within a layer.
use Rattle.std.proofs.Common.{◌≡◌, ℕ, ◌≤◌, ◌<◌, [], ◌∷◌, inl, inr, arith, refl, subst}
use Rattle.std.specs.Prelude.{◌⊎◌}
use Rattle.std.specs.declared.cmp.Ordering.{Ordering}
use Rattle.std.specs.declared.cmp.Ordering.TheVariants.{Less, Equal, Greater}
use Rattle.std.specs.Ordering.{MatchOrdering, ordering_then, nat_cmp}
use Rattle.std.specs.Cmp.Lexicographic.{slice_cmp}
use Rattle.std.proofs.lemmas.Cmp.{ranked}
use Rattle.gf_ops.specs.declared.op.Op.{Op}
use Rattle.gf_ops.specs.declared.change.Start.{Start}
use Rattle.gf_ops.specs.OperationOrder.{id_cmp}
use Rattle.gf_versions.specs.Above.{IsAbove}
use Rattle.gf_import.proofs.AloneLemmas.{first_version}

-- an object of layer m, made by the number j of its site, is not above one of layer n made by the
-- number k of that site
pub record IsNoHigher (m j n k : ℕ) : Type 0 where
  pub layer : m ≤ n
  pub number : m ≡ n → j ≤ k

then_greater : (o p : Ordering) → ordering_then o p ≡ Greater → (o ≡ Greater)
    ⊎ ((o ≡ Equal) × (p ≡ Greater))
then_greater Less p e = absurd cc
then_greater Equal p e = inr (refl, e)
then_greater Greater p e = inl refl

greater_num : (x y : ℕ) → nat_cmp x y ≡ Greater → y < x
greater_num x y e = subst (λ o. MatchOrdering o (x < y) (x ≡ y) (y < x)) e
    (ranked x y (nat_cmp x y) refl)

equal_num : (x y : ℕ) → nat_cmp x y ≡ Equal → x ≡ y
equal_num x y e = subst (λ o. MatchOrdering o (x < y) (x ≡ y) (y < x)) e
    (ranked x y (nat_cmp x y) refl)

pub not_above : (a b : Op) (s t : Start) → b.id.site ≡ a.id.site
    → IsNoHigher t.layer b.id.seq s.layer a.id.seq
    → ¬ (IsAbove (first_version b t).key (first_version a s).key)
not_above a b s t site low above =
    let ids = ordering_then (id_cmp b.id a.id) (slice_cmp id_cmp (b.id ∷ []) (a.id ∷ [])) in
    elim (then_greater (nat_cmp t.layer s.layer) ids above) [
      | inl g ↦ let l = greater_num t.layer s.layer g in let m = low.layer in absurd (omega arith)
      | inr e ↦
          let q = low.number (equal_num t.layer s.layer e.0) in
          elim (then_greater (id_cmp b.id a.id) (slice_cmp id_cmp (b.id ∷ []) (a.id ∷ [])) e.1) [
            | inl g ↦
                elim (then_greater (nat_cmp b.id.site a.id.site) (nat_cmp b.id.seq a.id.seq) g) [
                  | inl i ↦ let l = greater_num b.id.site a.id.site i in absurd (omega arith)
                  | inr f ↦ let l = greater_num b.id.seq a.id.seq f.1 in absurd (omega arith)
                ]
            | inr f ↦
                let r : ordering_then (id_cmp b.id a.id) Equal ≡ Greater = f.1 in
                let q : Equal ≡ Greater = rw f.0 at r in absurd cc
          ]
    ]
