-- Some keys for which a fact holds, gathered one by one.
use Rattle.std.proofs.Common.{◌≡◌, ℕ, ◌<◌, ◌≤◌, ◌+◌, List, [], ◌∷◌, ◌++◌, take, length, get_or, inl}
use Rattle.std.proofs.Common.{inr, subst, sym}
use Rattle.std.specs.Prelude.{◌↔◌, Contains}
use Rattle.std.proofs.lemmas.List.{take_all, take_more}
use Rattle.std.proofs.lemmas.List.Elements.{Contains-append_left, Contains-push}
use Rattle.std.proofs.lemmas.List.Elements.{Contains-push_cases}
use Rattle.gf_maximal.specs.Growing.{joined}
use Rattle.gf_classes.specs.Rivals.{AddsIf}
use Rattle.gf_classes.proofs.SameValueLemmas.{Contains-joined}

pub adds_joined : (P : Type 0) (x : ℕ) (old new : List ℕ) → P → new ≡ joined x old
    → AddsIf P x old new
adds_joined P x old new t e n = (
  λ i. elim ((Contains-joined x old n).0 (subst (λ z. Contains z n) e i))
      [ inl j ↦ inl j | inr d ↦ inr (t, d) ],
  λ i. subst (λ z. Contains z n) (sym e)
      ((Contains-joined x old n).1 (elim i [ inl j ↦ inl j | inr d ↦ inr d.1 ])),
)

pub adds_none : (P : Type 0) (x : ℕ) (old : List ℕ) → ¬ P → AddsIf P x old old
adds_none P x old off n = (λ i. inl i, λ i. elim i [ inl j ↦ j | inr d ↦ absurd (off d.0) ])

module _ (P : ℕ → Type 0) where
  pub gathers_more : (old new xs : List ℕ) (i : ℕ) → i < length xs
      → ((n : ℕ) → Contains old n ↔ (Contains (take i xs) n × P n))
      → AddsIf (P (get_or xs i 0)) (get_or xs i 0) old new →
      (n : ℕ) → Contains new n ↔ (Contains (take (i + 1) xs) n × P n)
  gathers_more old new xs i l g h n =
      let x = get_or xs i 0 in
      let more = take_more xs i 0 l in (
        λ j. elim ((h n).0 j) [
          | inl k ↦ let w = (g n).0 k in (
            subst (λ z. Contains z n) (sym more) (Contains-append_left (take i xs) (x ∷ []) n w.0),
            w.1,
          )
          | inr k ↦ (
            subst (λ z. Contains z n) (sym more) (subst (Contains (take i xs ++ x ∷ [])) (sym k.1)
                (Contains-push (take i xs) x)),
            subst P (sym k.1) k.0,
          )
        ],
        λ j. (h n).1 (elim (Contains-push_cases (take i xs) x n
            (subst (λ z. Contains z n) more j.0)) [
              | inl k ↦ inl ((g n).1 (k, j.1))
              | inr e ↦ inr (subst P (sym e) j.1, sym e)
            ]),
      )

  pub gathers_all : (g xs ys : List ℕ) (i : ℕ) → length xs ≤ i → xs ≡ ys
      → ((n : ℕ) → Contains g n ↔ (Contains (take i xs) n × P n)) → (n : ℕ)
      → Contains g n ↔ (Contains ys n × P n)
  gathers_all g xs ys i l e h n =
      let all = take_all i xs l in (
        λ j. let w = (h n).0 j in
            (subst (λ z. Contains z n) e (subst (λ z. Contains z n) all w.0), w.1),
        λ j. (h n).1 (
          subst (λ z. Contains z n) (sym all) (subst (λ z. Contains z n) (sym e) j.0),
          j.1,
        ),
      )
