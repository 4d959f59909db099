-- The last setters of an attribute among the operations of groups.
use Rattle.std.proofs.Common.{◌≡◌, ◌≢◌, true, List, [], ◌∷◌, ◌++◌, map, sym, ap, subst, ◌∙◌}
use Rattle.std.proofs.Common.{inl, inr}
use Rattle.std.specs.Prelude.{◌↔◌, Contains, filter}
use Rattle.std.proofs.lemmas.List.{map-append}
use Rattle.std.proofs.lemmas.List.Elements.{Contains-append_cases, Contains-append_left}
use Rattle.std.proofs.lemmas.List.Elements.{Contains-append_right, Contains-push}
use Rattle.std.proofs.lemmas.List.Elements.{Contains-push_cases}
use Rattle.gf_base.proofs.ListLemmas.{not_Contains-nil}
use Rattle.gf_ops.specs.declared.op.Op.{Op}
use Rattle.gf_ops.specs.declared.op.OpId.{OpId}
use Rattle.gf_ops.specs.declared.op.ObjectId.{ObjectId}
use Rattle.gf_ops.specs.declared.change.Attr.{Attr}
use Rattle.gf_ops.specs.ValidHistory.{IsValid}
use Rattle.gf_ops.specs.Version.{IsMember}
use Rattle.gf_ops.proofs.ValidityLemmas.{same_op}
use Rattle.gf_groups.specs.declared.group.Group.{Group}
use Rattle.gf_names.specs.RisingIds.{IsRisingOf}
use Rattle.gf_visible.specs.ShownVersions.{AreVisibleOn}
use Rattle.gf_status.specs.Differing.{AreGivers}
use Rattle.gf_status.specs.Setters.{AreLastOf, AreOf, IsLastIn, IsLastInOne, sets}
use Rattle.gf_status.proofs.HiddenLemmas.{ids_told}
use Rattle.gf_status.proofs.LastLemmas.{Contains-kept}

module _ {X : Type 0} (f : X → Op) (h : List Op) where
  -- ---- the operations under ids

  abbrev pub AreUnder : List OpId → List X → Type 0
  AreUnder ids found = (a : Op) → Contains (map f found) a ↔ IsMember h ids a

  pub under_none : AreUnder [] []
  under_none a = (
    λ c. absurd (not_Contains-nil a c),
    λ m. absurd (not_Contains-nil a.id m.grouped),
  )

  pub under_same : (ids : List OpId) (found : List X) (i : OpId) → AreUnder ids found
      → ((a : Op) → Contains h a → a.id ≢ i) → AreUnder (ids ++ i ∷ []) found
  under_same ids found i was none a = (
    λ c. let m = (was a).0 c in record {
      contained = m.contained;
      grouped = Contains-append_left ids (i ∷ []) a.id m.grouped;
    },
    λ m. elim (Contains-push_cases ids i a.id m.grouped) [
      | inl k ↦ (was a).1 (record { contained = m.contained; grouped = k })
      | inr e ↦ absurd (none a m.contained (sym e))
    ],
  )

  pub under_more : IsValid h → (ids : List OpId) (found : List X) (i : OpId) (x : X)
      → AreUnder ids found → Contains h (f x) → (f x).id ≡ i
      → AreUnder (ids ++ i ∷ []) (found ++ x ∷ [])
  under_more valid ids found i x was there id = rw (map-append f found (x ∷ [])) (λ a. (
    λ c. elim (Contains-push_cases (map f found) (f x) a c) [
      | inl k ↦ let m = (was a).0 k in record {
        contained = m.contained;
        grouped = Contains-append_left ids (i ∷ []) a.id m.grouped;
      }
      | inr e ↦ record {
        contained = subst (Contains h) e there;
        grouped = subst (Contains (ids ++ i ∷ [])) (sym id ∙ ap (λ (z : Op). z.id) e)
            (Contains-push ids i);
      }
    ],
    λ m. elim (Contains-push_cases ids i a.id m.grouped) [
      | inl k ↦ Contains-append_left (map f found) (f x ∷ []) a
          ((was a).1 (record { contained = m.contained; grouped = k }))
      | inr e ↦ subst (Contains (map f found ++ f x ∷ []))
          (same_op h valid (f x) a there m.contained (id ∙ e)) (Contains-push (map f found) (f x))
    ],
  ))

  -- ---- a group

  module _ (t : Attr) (ids : List OpId) (members found : List X) (under : AreUnder ids members)
      (is : found ≡ filter (λ x. sets t (f x)) members) where
    pub found_of : AreOf h (map f found)
    found_of a c = ((under a).0 ((Contains-kept f (sets t) members found is a).0 c).0).contained

    pub last_in : (ls : List X) → AreLastOf (map f found) (map f ls) → (a : Op)
        → Contains (map f ls) a ↔ IsLastIn h t ids a
    last_in ls last a = (
      λ c.
          let k = (is_found a).0 (last.within a c) in
          record {
            member = (under a).0 k.0;
            sets = k.1;
            last = λ b m s p. last.last a b c ((is_found b).1 ((under b).1 m, s)) p;
          },
      λ l. elim (last.others a ((is_found a).1 ((under a).1 l.member, l.sets))) [
        | inl k ↦ k
        | inr w ↦ let k = (is_found w.0).0 (last.within w.0 w.1) in
            absurd (l.last w.0 ((under w.0).0 k.0) k.1 w.2)
      ],
    )
      where
        is_found : (b : Op) → Contains (map f found) b
            ↔ (Contains (map f members) b × (sets t b ≡ true))
        is_found b = Contains-kept f (sets t) members found is b

  -- ---- several groups

  module _ (t : Attr) where
    abbrev pub AreLasts : List Group → List X → Type 0
    AreLasts groups found = (a : Op) → Contains (map f found) a ↔ IsLastInOne h t groups a

    pub lasts_none : AreLasts [] []
    lasts_none a = (
      λ c. absurd (not_Contains-nil a c),
      λ l. absurd (not_Contains-nil l.group l.listed),
    )

    pub lasts_more : (groups : List Group) (found more : List X) (g : Group)
        → AreLasts groups found
        → ((a : Op) → Contains (map f more) a ↔ IsLastIn h t g.ops a)
        → AreLasts (groups ++ g ∷ []) (found ++ more)
    lasts_more groups found more g was own = rw (map-append f found more) (λ a. (
      λ c. elim (Contains-append_cases (map f found) (map f more) a c) [
        | inl k ↦ let l = (was a).0 k in record {
          group = l.group;
          listed = Contains-append_left groups (g ∷ []) l.group l.listed;
          last = l.last;
        }
        | inr k ↦ record { group = g; listed = Contains-push groups g; last = (own a).0 k }
      ],
      λ l. elim (Contains-push_cases groups g l.group l.listed) [
        | inl k ↦ Contains-append_left (map f found) (map f more) a
            ((was a).1 (record { group = l.group; listed = k; last = l.last }))
        | inr e ↦ Contains-append_right (map f found) (map f more) a
            ((own a).1 (subst (λ (z : Group). IsLastIn h t z.ops a) (sym e) l.last))
      ],
    ))

    -- THE GIVERS of the attribute
    pub givers_told : (groups : List Group) (found : List X) → AreLasts groups found
        → (ids : List OpId) → IsRisingOf (map (λ x. (f x).id) found) ids → (o : ObjectId)
        → AreVisibleOn h o groups → AreGivers h o t ids
    givers_told groups found are ids r o all = record {
      exactly = λ i. (
        λ c.
            let w = (ids_told f found ids r i).0 c in
            let l = (are w.0).0 w.1 in
            let v = (all.exactly l.group).0 l.listed in
            record {
              op = w.0;
              id = w.2;
              gives = record {
                group = l.group;
                object = v.0;
                visible = v.1;
                member = l.last.member;
                sets = l.last.sets;
                last = l.last.last;
              };
            },
        λ g.
            let is = g.gives in
            (ids_told f found ids r i).1 (
              g.op,
              (are g.op).1 (record {
                group = is.group;
                listed = (all.exactly is.group).1 (is.object, is.visible);
                last = record { member = is.member; sets = is.sets; last = is.last };
              }),
              g.id,
            ),
      );
      rising = r.rising;
    }
