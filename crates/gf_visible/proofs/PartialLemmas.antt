-- The sets of classes that may still show, as one class is met after the other.
use Rattle.std.proofs.Common.{◌≡◌, ℕ, ◌<◌, Bool, List, [], ◌∷◌, filter, length}
use Rattle.std.proofs.Common.{inl, inr, refl, subst, sym, arith}
use Rattle.std.specs.Prelude.{◌⊎◌, ◌↔◌, Contains}
use Rattle.std.specs.FinMap.{nat_cmp-IsAntisymmetric}
use Rattle.std.specs.Ordering.{nat_cmp}
use Rattle.std.proofs.lemmas.Cmp.{nat_cmp_total}
use Rattle.std.proofs.lemmas.Map.Keys.{sorted_tail}
use Rattle.gf_base.proofs.FilterLemmas.{Contains-filter}
use Rattle.gf_base.proofs.InsertLemmas.{inserted, holds}
use Rattle.gf_base.proofs.ListLemmas.{Contains-cons_cases, Contains-cons_head, Contains-cons_tail}
use Rattle.gf_base.proofs.ListLemmas.{not_Contains-nil}
use Rattle.gf_maximal.specs.Growing.{is_in, common, joined}
use Rattle.gf_maximal.specs.LargestSets.{AreLargest, IsRising}
use Rattle.gf_maximal.specs.Parents.{next_cut}
use Rattle.gf_maximal.specs.Rows.{row, conflict, AreRows}
use Rattle.gf_maximal.proofs.GrowingLemmas.{Comes}
use Rattle.gf_maximal.proofs.LargestLemmas.{IsConflict}
use Rattle.gf_visible.specs.Seen.{seen, AreMet, HasMoreParts, IsPartOf}
use Rattle.gf_visible.specs.Seen.{IsSeenPart, MayBeMet}
use Rattle.gf_visible.proofs.SeenLemmas.{all_parts, not_head, part_next}

pub rows_test : (rows : List (List ℕ)) → AreRows rows → IsConflict (conflict rows)
rows_test rows known = record { symmetric = known.symmetric; alone = known.alone }

-- kept sets are largest ones
pub part_largest : (covers c : ℕ → ℕ → Bool) (hs us : List ℕ) (gs : List (List ℕ))
    → IsSeenPart covers c hs us gs → AreLargest c us gs
part_largest covers c hs us gs p g i =
    let w = (Contains-filter (seen covers c hs) p.all g).0 (subst (λ z. Contains z g) p.is i) in
    ((p.table.each g).0 w.0).1

module _ (covers : ℕ → ℕ → Bool) (rows : List (List ℕ)) (known : AreRows rows) (hs us vs : List ℕ)
    (n : ℕ) (may : MayBeMet covers (conflict rows) hs us vs n) where
  abbrev c : ℕ → ℕ → Bool
  c = conflict rows

  pub first_met : (gs : List (List ℕ)) → IsSeenPart covers (conflict rows) hs us gs
      → AreMet covers (conflict rows) hs us vs us vs gs
  first_met gs p = record {
    part = p;
    exactly = λ a. (λ w. w, λ w. w);
    fresh = may.fresh;
    rises = may.rises;
    later = λ a i. i;
  }

  -- one number is met
  pub next_met : (met rest : List ℕ) (x : ℕ) (xs : List ℕ) (gs : List (List ℕ)) → rest ≡ x ∷ xs
      → AreMet covers (conflict rows) hs us vs met rest gs
      → AreMet covers (conflict rows) hs us vs (joined x met) xs
      (filter (seen covers (conflict rows) hs)
      (next_cut (conflict rows) met (common (row rows x) met) x gs))
  next_met met rest x xs gs e m =
      let d = common (row rows x) met in
      let at : (a : ℕ) → Contains (x ∷ xs) a → Contains rest a = λ a i.
      subst (λ z. Contains z a) (sym e) i in
      let here = at x (Contains-cons_head x xs) in
      let rises = subst IsRising e m.rises in
      let more : (a : ℕ) → Contains (joined x met) a ↔ (Contains met a ⊎ (a ≡ x)) = λ a.
      holds nat_cmp nat_cmp_total nat_cmp-IsAntisymmetric x met a in
      let comes : Comes c met x d (joined x met) = record {
        rising = m.part.rises;
        fresh = m.fresh x here;
        rivals = Contains-filter (is_in (row rows x)) met;
        exactly = more;
      } in
      let sorted = inserted nat_cmp nat_cmp_total nat_cmp-IsAntisymmetric x met m.part.rises in
      record {
        part = part_next covers c hs x (may.calm x (m.later x here)) (rows_test rows known) met d
            (joined x met) comes sorted gs
            (filter (seen covers c hs) (next_cut c met d x gs)) m.part refl;
        exactly = λ a. (
          λ w. (m.exactly a).0 (elim w [
            | inl i ↦ elim ((more a).0 i) [
              | inl j ↦ inl j
              | inr f ↦ inr (subst (Contains rest) (sym f) here)
            ]
            | inr i ↦ inr (at a (Contains-cons_tail x xs a i))
          ]),
          λ w. elim ((m.exactly a).1 w) [
            | inl i ↦ inl ((more a).1 (inl i))
            | inr i ↦ elim (Contains-cons_cases x xs a (subst (λ z. Contains z a) e i)) [
              | inl f ↦ inl ((more a).1 (inr f))
              | inr j ↦ inr j
            ]
          ],
        );
        fresh = λ a i j. elim ((more a).0 j) [
          | inl k ↦ m.fresh a (at a (Contains-cons_tail x xs a i)) k
          | inr f ↦ not_head covers c hs x xs rises a i f
        ];
        rises = sorted_tail nat_cmp x xs rises;
        later = λ a i. m.later a (at a (Contains-cons_tail x xs a i));
      }

  -- more sets than so many: more are there at the end
  pub more_met : (met rest : List ℕ) (gs : List (List ℕ)) (m : ℕ)
      → AreMet covers (conflict rows) hs us vs met rest gs → m < length gs
      → HasMoreParts covers (conflict rows) hs us vs m
  more_met met rest gs m w l =
      let all = all_parts covers c hs (rows_test rows known) rest met
      (λ x i. may.calm x (w.later x i)) w.rises w.fresh gs w.part in
      let longer = all.3 in
      record {
        sets = all.1;
        part = record {
          all = all.0;
          part = all.2;
          exactly = λ a. (
            λ i. (w.exactly a).0 ((all.4 a).0 i),
            λ v. (all.4 a).1 ((w.exactly a).1 v),
          );
        };
        many = omega (arith, l, longer);
      }

  -- all are met
  pub all_met : (met : List ℕ) (gs : List (List ℕ))
      → AreMet covers (conflict rows) hs us vs met [] gs
      → IsPartOf covers (conflict rows) hs us vs gs
  all_met met gs w = record {
    all = met;
    part = w.part;
    exactly = λ a. (
      λ i. (w.exactly a).0 (inl i),
      λ v. elim ((w.exactly a).1 v) [ inl i ↦ i | inr n ↦ absurd (not_Contains-nil a n) ],
    );
  }
