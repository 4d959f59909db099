-- The index has the ranks of all setters by the fingerprints of their values.
use Rattle.std.proofs.Common.{◌≡◌, ℕ, zero, suc, ◌≤◌, ◌+◌, true, List, [], ◌∷◌, ◌++◌, length}
use Rattle.std.proofs.Common.{map, take, inl, inr}
use Rattle.std.proofs.Common.{subst, sym, ap, ◌∙◌, arith}
use Rattle.std.specs.Prelude.{◌⊎◌, ◌↔◌, Contains, Option, Some, slice_get, unwrap_or}
use Rattle.std.specs.BTreeMap.{is_at}
use Rattle.std.specs.FinMap.{nat_cmp-IsAntisymmetric}
use Rattle.std.specs.Map.{lookup}
use Rattle.std.specs.Ordering.{nat_cmp}
use Rattle.std.proofs.lemmas.Bool.{cases_Bool, cases_lt, cond-true, cond-false}
use Rattle.std.proofs.lemmas.Cmp.{nat_cmp_total}
use Rattle.std.proofs.lemmas.Option.{slice_get_within}
use Rattle.std.proofs.lemmas.List.{take_all}
use Rattle.gf_base.proofs.InsertLemmas.{holds}
use Rattle.gf_base.proofs.ListLemmas.{not_Contains-nil}
use Rattle.gf_base.proofs.PositionLemmas.{one_value}
use Rattle.gf_maximal.specs.Growing.{joined}
use Rattle.gf_classes.specs.declared.fingerprint.Fingerprint.{Fingerprint}
use Rattle.gf_classes.specs.Fingerprints.{fingerprint_cmp}
use Rattle.gf_classes.specs.SameValues.{Entries, ranks_at, Lists, IsIndex, PutsRank}
use Rattle.gf_classes.proofs.FingerprintLemmas.{at_itself, at_same}

pub Contains-joined : (x : ℕ) (g : List ℕ) (n : ℕ)
    → Contains (joined x g) n ↔ (Contains g n ⊎ (n ≡ x))
Contains-joined x g n = holds nat_cmp nat_cmp_total nat_cmp-IsAntisymmetric x g n

-- under a fingerprint is what was there, and the rank where that is its own
Contains-ranks_at : (old new : Entries) (p : Fingerprint) (x : ℕ) → PutsRank old p x new
    → (q : Fingerprint) (n : ℕ)
    → Contains (ranks_at new q) n ↔ (Contains (ranks_at old q) n ⊎ ((p ≡ q) × (n ≡ x)))
Contains-ranks_at old new p x f q n = elim (cases_Bool (is_at (fingerprint_cmp p) q)) [
  | inl y ↦
      let same = at_same p q y in
      let e : ranks_at new q ≡ joined x (ranks_at old q) =
      ap (λ (o : Option (List ℕ)). unwrap_or o []) (f q ∙ cond-true (is_at (fingerprint_cmp p) q)
      (Some (joined x (ranks_at old p))) (lookup (is_at (fingerprint_cmp q)) old) y)
      ∙ ap (λ z. joined x (ranks_at old z)) same in (
        λ i. elim ((Contains-joined x (ranks_at old q) n).0 (subst (λ z. Contains z n) e i))
            [ inl j ↦ inl j | inr d ↦ inr (same, d) ],
        λ i. subst (λ z. Contains z n) (sym e)
            ((Contains-joined x (ranks_at old q) n).1
            (elim i [ inl j ↦ inl j | inr d ↦ inr d.1 ])),
      )
  | inr g ↦
      let e : ranks_at new q ≡ ranks_at old q =
      ap (λ (o : Option (List ℕ)). unwrap_or o []) (f q ∙ cond-false (is_at (fingerprint_cmp p) q)
      (Some (joined x (ranks_at old p))) (lookup (is_at (fingerprint_cmp q)) old) g) in (
        λ i. inl (subst (λ z. Contains z n) e i),
        λ i. subst (λ z. Contains z n) (sym e) (elim i [
          | inl j ↦ j
          | inr d ↦ absurd (let y : is_at (fingerprint_cmp p) q ≡ true = subst
              (λ z. is_at (fingerprint_cmp p) z ≡ true) d.0 (at_itself p) in cc)
        ]),
      )
]

pub lists_more : (ps : List Fingerprint) (m : ℕ) (e : Fingerprint) (old new : Entries)
    → slice_get ps m ≡ Some e → Lists ps m old → PutsRank old e m new → Lists ps (m + 1) new
lists_more ps m e old new at a put p n =
    let w = Contains-ranks_at old new e m put p n in (
      λ c. elim (w.0 c) [
        | inl k ↦ let i = (a p n).0 k in (let x = i.0 in omega (arith, x), i.1)
        | inr k ↦ (
          let x = k.1 in omega (arith, x),
          ap (slice_get ps) k.1 ∙ (at ∙ ap Some k.0),
        )
      ],
      λ i. w.1 (elim (cases_lt n m) [
        | inl k ↦ inl ((a p n).1 (k, i.1))
        | inr k ↦
            let x = i.0 in
            let same : n ≡ m = omega (arith, x, k) in
            inr (one_value ps m e p at (subst (λ z. slice_get ps z ≡ Some p) same i.1), same)
      ]),
    )

pub lists_all : (ps : List Fingerprint) (m : ℕ) (ix : Entries) → m ≡ length ps → Lists ps m ix
    → IsIndex ps ix
lists_all ps m ix e a = subst (λ z. Lists ps z ix) e a

-- ---- the fingerprints of some things

module _ {X : Type 0} (f : X → Fingerprint) where
  pub mapped_at : (xs : List X) (n : ℕ) (x : X) → slice_get xs n ≡ Some x
      → slice_get (map f xs) n ≡ Some (f x)
  mapped_at [] n x e = absurd cc
  mapped_at (y ∷ ys) zero x e = let q : y ≡ x = cc in ap (λ z. Some (f z)) q
  mapped_at (y ∷ ys) (suc n) x e = mapped_at ys n x e

  pub mapped_more : (xs : List X) (ps new : List Fingerprint) (i : ℕ) (x : X) (p : Fingerprint)
      → slice_get xs i ≡ Some x → p ≡ f x → new ≡ ps ++ p ∷ [] → ps ≡ map f (take i xs)
      → new ≡ map f (take (i + 1) xs)
  mapped_more xs ps new i x p at is e inv = e ∙ (ap (λ z. z ++ p ∷ []) inv
      ∙ (ap (λ z. map f (take i xs) ++ z ∷ []) is ∙ step xs i at))
    where
      step : (ys : List X) (j : ℕ) → slice_get ys j ≡ Some x
          → map f (take j ys) ++ f x ∷ [] ≡ map f (take (j + 1) ys)
      step [] j g = absurd cc
      step (y ∷ ys) zero g = let q : y ≡ x = cc in ap (λ z. f z ∷ []) (sym q)
      step (y ∷ ys) (suc j) g = let k : suc j + 1 ≡ suc (j + 1) = omega arith in
          rw k (ap (λ z. f y ∷ z) (step ys j g))

  pub mapped_all : (xs : List X) (ps : List Fingerprint) (i : ℕ) → length xs ≤ i
      → ps ≡ map f (take i xs) → ps ≡ map f xs
  mapped_all xs ps i l inv = inv ∙ ap (map f) (take_all i xs l)

  -- where the fingerprint of x stands
  pub index_of_mapped : (xs : List X) (ix : Entries) → IsIndex (map f xs) ix → (p : Fingerprint)
      (n : ℕ) (x : X) → slice_get xs n ≡ Some x → Contains (ranks_at ix p) n ↔ (f x ≡ p)
  index_of_mapped xs ix index p n x at =
      let m = mapped_at xs n x at in (
        λ c. one_value (map f xs) n (f x) p m ((index p n).0 c).1,
        λ e. (index p n).1 (slice_get_within (map f xs) n (f x) m, m ∙ ap Some e),
      )
