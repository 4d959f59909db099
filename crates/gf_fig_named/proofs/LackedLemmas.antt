-- The ids that a version of an object lacks are found among its other versions.
use Rattle.std.proofs.Common.{◌≡◌, Bool, true, false, ℕ, ◌+◌, ◌<◌, List, [], ◌∷◌, ◌++◌}
use Rattle.std.proofs.Common.{get_or, length, refl, sym, ap}
use Rattle.std.proofs.Common.{subst, ◌∙◌, inl, inr, take}
use Rattle.std.specs.Prelude.{◌↔◌, ◌⊎◌, ◌&&◌, ◌==◌, not, Contains, OnOk, Result, Ok, Err}
use Rattle.std.proofs.lemmas.Bool.{and_from, and_parts, cases_Bool, eq-eqb, eqb-true}
use Rattle.std.proofs.lemmas.List.{take_more}
use Rattle.std.proofs.lemmas.List.Elements.{Contains-append_left, Contains-get_or}
use Rattle.std.proofs.lemmas.List.Elements.{Contains-push, Contains-push_cases}
use Rattle.gf_base.proofs.ListLemmas.{Contains-cons_cases, Contains-cons_head, Contains-cons_tail}
use Rattle.gf_base.proofs.ListLemmas.{not_Contains-nil}
use Rattle.gf_shape.specs.declared.any_shape.AnyShape.{AnyShape}
use Rattle.gf_ops.specs.declared.op.ObjectId.{ObjectId}
use Rattle.gf_ops.specs.declared.op.OpId.{OpId}
use Rattle.gf_versions.specs.declared.key.VersionKey.{VersionKey}
use Rattle.gf_versions.specs.declared.placed.Placed.{Placed}
use Rattle.gf_names.specs.RisingIds.{IsRisingOf}
use Rattle.gf_table.specs.Standing.{positions_of}
use Rattle.gf_fig_named.specs.Others.{AreElsewhere, AreLackedAmong, AreLackedAt, AreOthers}
use Rattle.gf_fig_named.specs.Others.{IsElsewhere, IsLackedOf}
use Rattle.gf_fig_named.specs.Places.{ArePlaces}
use Rattle.gf_fig_named.proofs.TakenLemmas.{any_default}

-- what stands at one index is one
pub at_index : (items : List (Placed AnyShape)) (k n : ℕ) (x item : Placed AnyShape) → k ≡ n
    → k < length items → x ≡ get_or items k x → item ≡ get_or items n item → x ≡ item
at_index items k n x item same l is at =
    is ∙ (any_default items k x item l ∙ (ap (λ m. get_or items m item) same ∙ sym at))

-- ---- the ids that are lacked among the items at places

module _ (items : List (Placed AnyShape)) (places : List ℕ) (key : VersionKey) (k : ℕ)
    (x : Placed AnyShape) (l : k < length places) (within : get_or places k 0 < length items)
    (is : x ≡ get_or items (get_or places k 0) x) (old : List OpId)
    (so : AreLackedAmong items (take k places) key old) where
  -- what the item at the next place has
  pub more_lacked : (new : List OpId)
      → ((i : OpId) → Contains new i ↔ (Contains old i ⊎ IsLackedOf key x.key i))
      → AreLackedAmong items (take (k + 1) places) key new
  more_lacked new adds i =
      let p = get_or places k 0 in
      let one : take (k + 1) places ≡ take k places ++ p ∷ [] = take_more places k 0 l in
      rw one (
        (λ c. elim ((adds i).0 c) [
          | inl o ↦ let w = (so i).0 o in record {
            place = w.place;
            listed = Contains-append_left (take k places) (p ∷ []) w.place w.listed;
            item = w.item;
            at = w.at;
            lacked = w.lacked;
          }
          | inr n ↦ record {
            place = p;
            listed = Contains-push (take k places) p;
            item = x;
            at = is;
            lacked = n;
          }
        ]),
        (λ w. (adds i).1 (elim (Contains-push_cases (take k places) p w.place w.listed) [
          | inl t ↦ inl ((so i).1 (record {
            place = w.place;
            listed = t;
            item = w.item;
            at = w.at;
            lacked = w.lacked;
          }))
          | inr e ↦
              let same = at_index items p w.place x w.item e within is w.at in
              inr (subst (λ (y : Placed AnyShape). IsLackedOf key y.key i) (sym same) w.lacked)
        ])),
      )

-- what is lacked among the places of an object is lacked among all items
pub among_all : (items : List (Placed AnyShape)) (t : List (ObjectId × List ℕ))
    → ArePlaces items (length items) t → (key : VersionKey) (found : List OpId)
    → AreLackedAmong items (positions_of t key.object) key found → AreElsewhere items key found
among_all items t places key found so i = (
  (λ c.
      let w = (so i).0 c in
      let l = places.within key.object w.place w.listed in
      record {
        item = w.item;
        listed = subst (Contains items) (sym w.at) (Contains-get_or items w.place w.item l);
        lacked = w.lacked;
      }),
  (λ w.
      let (k, l, at) = w.listed in
      (so i).1 (record {
        place = k;
        listed = subst (λ (o : ObjectId). Contains (positions_of t o) k) w.lacked.object
            (places.each k w.item l (sym at));
        item = w.item;
        at = sym at;
        lacked = w.lacked;
      })),
)

-- what versions of one object lack
pub lacked_when : (key other : VersionKey) (old new : List OpId) → other.object ≡ key.object
    → {T E : Type 0} (r : Result T E)
    → OnOk r ((i : OpId) → Contains new i
    ↔ (Contains old i ⊎ (Contains other.ops i × ¬ (Contains key.ops i))))
    → OnOk r ((i : OpId) → Contains new i ↔ (Contains old i ⊎ IsLackedOf key other i))
lacked_when key other old new same (Err e) adds = tt
lacked_when key other old new same (Ok t) adds = λ i. (
  (λ c. elim ((adds i).0 c) [
    | inl o ↦ inl o
    | inr n ↦ inr (record { object = same; has = n.0; lacking = n.1 })
  ]),
  (λ w. (adds i).1 (elim w [ inl o ↦ inl o | inr n ↦ inr (n.has, n.lacking) ])),
)

pub same_object : (a b : ObjectId) → not (a.0.site == b.0.site && a.0.seq == b.0.seq) ≡ false
    → a ≡ b
same_object a b t =
    let both = and_parts (a.0.site == b.0.site) (a.0.seq == b.0.seq)
    (not_fails (a.0.site == b.0.site && a.0.seq == b.0.seq) t) in
    let site = eqb-true a.0.site b.0.site both.0 in
    let seq = eqb-true a.0.seq b.0.seq both.1 in
    λ i. record { 0 = record { site = site i; seq = seq i } }
  where
    not_fails : (p : Bool) → not p ≡ false → p ≡ true
    not_fails true e = refl
    not_fails false e = absurd cc

-- ids that rise are lacked as those that they are of
pub lacked_rising : (items : List (Placed AnyShape)) (index : ℕ) (item : Placed AnyShape)
    (found ids : List OpId) → index < length items → item ≡ get_or items index item
    → AreElsewhere items item.key found → IsRisingOf found ids → AreLackedAt items index ids
lacked_rising items index item found ids l is so r = record {
  elsewhere = λ x at i.
      let same = at_index items index index item x refl l is at in
      subst (λ (p : Placed AnyShape). Contains ids i ↔ IsElsewhere items p.key i) same (
        (λ c. (so i).0 ((r.exactly i).0 c)),
        (λ w. (r.exactly i).1 ((so i).1 w)),
      );
  rising = r.rising;
}

-- an id is one of a list, or it is not
listed_or : (ids : List OpId) (i : OpId) → Contains ids i ⊎ (¬ (Contains ids i))
listed_or [] i = inr (not_Contains-nil i)
listed_or (j ∷ ids) i = elim (cases_Bool (j.site == i.site && j.seq == i.seq)) [
  | inl t ↦
      let both = and_parts (j.site == i.site) (j.seq == i.seq) t in
      let site = eqb-true j.site i.site both.0 in
      let seq = eqb-true j.seq i.seq both.1 in
      let same : j ≡ i = λ k. record { site = site k; seq = seq k } in
      inl (subst (Contains (j ∷ ids)) same (Contains-cons_head j ids))
  | inr t ↦ elim (listed_or ids i) [
    | inl c ↦ inl (Contains-cons_tail j ids i c)
    | inr n ↦ inr (λ c. elim (Contains-cons_cases j ids i c) [
      | inl e ↦
          let own : (j.site == i.site && j.seq == i.seq) ≡ true =
          subst (λ (k : OpId). (k.site == i.site && k.seq == i.seq) ≡ true) e
          (and_from (i.site == i.site) (i.seq == i.seq) (eq-eqb i.site i.site refl)
          (eq-eqb i.seq i.seq refl)) in
          absurd cc
      | inr d ↦ n d
    ])
  ]
]

-- what an item lacks is what the lead has, or lacks as well
pub led_elsewhere : (items : List (Placed AnyShape)) (lead item : Placed AnyShape)
    → Contains items lead → lead.key.object ≡ item.key.object → (lacked others : List OpId)
    → AreElsewhere items lead.key lacked
    → AreOthers lead.key.ops lacked item.key.ops others → AreElsewhere items item.key others
led_elsewhere items lead item listed one lacked others so are i = (
  (λ c.
      let p = (are i).0 c in
      elim p.0 [
        | inl own ↦ record {
          item = lead;
          listed = listed;
          lacked = record { object = one; has = own; lacking = p.1 };
        }
        | inr l ↦
            let w = (so i).0 l in
            record {
              item = w.item;
              listed = w.listed;
              lacked = record {
                object = w.lacked.object ∙ one;
                has = w.lacked.has;
                lacking = p.1;
              };
            }
      ]),
  (λ w. (are i).1 (
    elim (listed_or lead.key.ops i) [
      | inl own ↦ inl own
      | inr n ↦ inr ((so i).1 (record {
        item = w.item;
        listed = w.listed;
        lacked = record {
          object = w.lacked.object ∙ sym one;
          has = w.lacked.has;
          lacking = n;
        };
      }))
    ],
    w.lacked.lacking,
  )),
)

-- what is appended of two lists in turn
pub both_lacking : (ids lacked own first others : List OpId)
    → ((i : OpId) → Contains first i
    ↔ (Contains [] i ⊎ (Contains ids i × ¬ (Contains own i))))
    → ((i : OpId) → Contains others i
    ↔ (Contains first i ⊎ (Contains lacked i × ¬ (Contains own i))))
    → AreOthers ids lacked own others
both_lacking ids lacked own first others one two i = (
  (λ c. elim ((two i).0 c) [
    | inl f ↦ elim ((one i).0 f) [
      | inl n ↦ absurd (not_Contains-nil i n)
      | inr p ↦ (inl p.0, p.1)
    ]
    | inr p ↦ (inr p.0, p.1)
  ]),
  (λ p. (two i).1 (elim p.0 [
    | inl c ↦ inl ((one i).1 (inr (c, p.1)))
    | inr c ↦ inr (c, p.1)
  ])),
)
