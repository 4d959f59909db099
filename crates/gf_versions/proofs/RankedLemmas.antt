-- A valid history has a ranked list, whether or not it is made.
use Rattle.std.proofs.Common.{◌≡◌, List, [], ◌∷◌, map, get_or, sym, subst, inl, inr, arith}
use Rattle.std.specs.Prelude.{◌⊎◌, ◌↔◌, AllPairs, Contains}
use Rattle.std.proofs.lemmas.List.Elements.{Contains-get_or}
use Rattle.std.proofs.lemmas.List.Kept.{AllPairs-cons}
use Rattle.gf_shape.specs.declared.any_shape.AnyShape.{AnyShape}
use Rattle.gf_ops.specs.declared.op.Op.{Op}
use Rattle.gf_ops.specs.ValidHistory.{IsValid}
use Rattle.gf_base.proofs.ListLemmas.{Contains-cons_cases, Contains-cons_head, Contains-cons_tail}
use Rattle.gf_base.proofs.ListLemmas.{Contains-map, Contains-map_from, not_Contains-nil}
use Rattle.gf_base.specs.Pairs.{Pairs}
use Rattle.gf_base.proofs.PairLemmas.{Pairs-map}
use Rattle.gf_versions.specs.declared.key.Version.{Version}
use Rattle.gf_versions.specs.declared.placed.Placed.{Placed}
use Rattle.gf_versions.specs.Above.{IsAbove, AreOrdered, same, first_above, second_above}
use Rattle.gf_versions.specs.ListedVersions.{shown_of}
use Rattle.gf_versions.specs.Ranking.{AreRanked, placed_version}
use Rattle.gf_versions.specs.VersionOf.{IsVersionOf}
use Rattle.gf_versions.specs.Visible.{IsVisible}
use Rattle.gf_versions.proofs.KeyLemmas.{above_transitive}
use Rattle.gf_versions.proofs.TopLemmas.{are_ordered}
use Rattle.gf_versions.proofs.VersionLemmas.{versions_listed, visible_exactly}

all_pairs : {X : Type 0} (R : X → X → Type 0) (xs : List X) → Pairs R xs → AllPairs R xs
all_pairs R [] p = λ i j d l m. absurd (omega arith)
all_pairs R (x ∷ xs) p = AllPairs-cons R x xs
    (λ k d l. p.0 (get_or xs k d) (Contains-get_or xs k d l)) (all_pairs R xs p.1)

abbrev pub Over : Version → Version → Type 0
Over v w = IsAbove v.key w.key

-- ws fall, and are v and vs
pub record IsInserted (v : Version) (vs ws : List Version) : Type 0 where
  pub falling : Pairs Over ws
  pub exactly : (w : Version) → Contains ws w ↔ ((w ≡ v) ⊎ Contains vs w)

module _ (h : List Op) (valid : IsValid h) where
  inserted : (v : Version) → IsVersionOf h v → (vs : List Version)
      → ((w : Version) → Contains vs w → IsVersionOf h w) → Pairs Over vs
      → (ws : List Version) × IsInserted v vs ws
  inserted v is [] of f = (
    v ∷ [],
    record {
      falling = (λ y i. absurd (not_Contains-nil y i), tt);
      exactly = λ w. (
        λ i. elim (Contains-cons_cases v [] w i) [ inl e ↦ inl e | inr j ↦ inr j ],
        λ s. elim s [
          | inl e ↦ subst (Contains (v ∷ [])) (sym e) (Contains-cons_head v [])
          | inr j ↦ absurd (not_Contains-nil w j)
        ],
      );
    },
  )
  inserted v is (x ∷ vs) of
      f = by_order (inserted v is vs (λ w i. of w (Contains-cons_tail x vs w i)) f.1)
      (are_ordered h v x valid is (of x (Contains-cons_head x vs)))
    where
      by_order : (ws : List Version) × IsInserted v vs ws → AreOrdered v x
          → (ws : List Version) × IsInserted v (x ∷ vs) ws
      by_order rest (same e) = (
        x ∷ vs,
        record {
          falling = f;
          exactly = λ w. (
            λ i. inr i,
            λ s. elim s [
              | inl d ↦ subst (Contains (x ∷ vs)) (sym (subst (λ z. w ≡ z) e d))
                  (Contains-cons_head x vs)
              | inr i ↦ i
            ],
          );
        },
      )
      by_order rest (first_above a n) = (
        v ∷ x ∷ vs,
        record {
          falling = (
            λ y i. elim (Contains-cons_cases x vs y i) [
              | inl e ↦ subst (Over v) (sym e) a
              | inr j ↦ above_transitive v.key x.key y.key a (f.0 y j)
            ],
            f,
          );
          exactly = λ w. (
            λ i. Contains-cons_cases v (x ∷ vs) w i,
            λ s. elim s [
              | inl e ↦ subst (Contains (v ∷ x ∷ vs)) (sym e) (Contains-cons_head v (x ∷ vs))
              | inr i ↦ Contains-cons_tail v (x ∷ vs) w i
            ],
          );
        },
      )
      by_order rest (second_above a n) = (
        x ∷ rest.0,
        record {
          falling = (
            λ y i. elim ((rest.1.exactly y).0 i) [
              | inl e ↦ subst (Over x) (sym e) a
              | inr j ↦ f.0 y j
            ],
            rest.1.falling,
          );
          exactly = λ w. (
            λ i. elim (Contains-cons_cases x rest.0 w i) [
              | inl e ↦ inr (subst (Contains (x ∷ vs)) (sym e) (Contains-cons_head x vs))
              | inr j ↦ elim ((rest.1.exactly w).0 j) [
                | inl d ↦ inl d
                | inr k ↦ inr (Contains-cons_tail x vs w k)
              ]
            ],
            λ s. elim s [
              | inl d ↦ Contains-cons_tail x rest.0 w ((rest.1.exactly w).1 (inl d))
              | inr i ↦ elim (Contains-cons_cases x vs w i) [
                | inl e ↦ subst (Contains (x ∷ rest.0)) (sym e) (Contains-cons_head x rest.0)
                | inr k ↦ Contains-cons_tail x rest.0 w ((rest.1.exactly w).1 (inr k))
              ]
            ],
          );
        },
      )

  -- versions have a falling list
  all_inserted : (vs : List Version) → ((w : Version) → Contains vs w → IsVersionOf h w)
      → (ws : List Version) × Pairs Over ws × ((w : Version) → Contains ws w ↔ Contains vs w)
  all_inserted [] of = ([], tt, λ w. (λ i. i, λ i. i))
  all_inserted (v ∷ vs) of =
      let rest = all_inserted vs (λ w i. of w (Contains-cons_tail v vs w i)) in
      let made = inserted v (of v (Contains-cons_head v vs)) rest.0 (λ w i. of
      w (Contains-cons_tail v vs w ((rest.2 w).0 i))) rest.1 in (
        made.0,
        made.1.falling,
        λ w. (
          λ i. elim ((made.1.exactly w).0 i) [
            | inl e ↦ subst (Contains (v ∷ vs)) (sym e) (Contains-cons_head v vs)
            | inr j ↦ Contains-cons_tail v vs w ((rest.2 w).0 j)
          ],
          λ i. (made.1.exactly w).1
              (elim (Contains-cons_cases v vs w i) [
                | inl e ↦ inl e
                | inr j ↦ inr ((rest.2 w).1 j)
              ]),
        ),
      )

  -- THE RANKED LIST is there
  pub some_ranked : (items : List (Placed AnyShape)) × AreRanked h items
  some_ranked =
      let all = versions_listed h valid in
      let seen : (v : Version) → IsVisible h v ↔ Contains (shown_of all.0) v = visible_exactly h
      valid all.0 all.1 in
      let made = all_inserted (shown_of all.0) (λ w i. ((seen w).1 i).version) in (
        map placed_version made.0,
        record {
          exactly = λ i. (
            λ is. subst (λ j. Contains (map placed_version made.0) j) (sym is.placed)
                (Contains-map placed_version made.0 is.version
                ((made.2 is.version).1 ((seen is.version).0 is.visible))),
            λ c.
                let from = Contains-map_from placed_version made.0 i c in
                record {
                  version = from.0;
                  visible = (seen from.0).1 ((made.2 from.0).0 from.1);
                  placed = from.2;
                },
          );
          falling = all_pairs (λ (i j : Placed AnyShape). IsAbove i.key j.key)
              (map placed_version made.0)
              (Pairs-map Over (λ (i j : Placed AnyShape). IsAbove i.key j.key) placed_version made.0
              (λ a b r. r) made.1);
        },
      )
