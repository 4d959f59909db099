-- The classes that an operation brings, from its own and those of its aim.
use Rattle.std.proofs.Common.{◌≡◌, ℕ, ◌<◌, ◌≤◌, ◌+◌, List, [], ◌∷◌, ◌++◌, take, length, get_or}
use Rattle.std.proofs.Common.{refl, sym, ap, subst, inl, inr, ◌∙◌, arith}
use Rattle.std.specs.Prelude.{◌↔◌, ◌⊎◌, Contains, Option, Some, None, slice_get}
use Rattle.std.specs.Prelude.{Ok, Err, IfSome}
use Rattle.std.specs.List.Sorted.{IsBinarySearchResult}
use Rattle.std.specs.Ordering.{nat_cmp}
use Rattle.std.proofs.lemmas.List.Sorted.{searched}
use Rattle.std.proofs.lemmas.Bool.{cases_lt, cases_order}
use Rattle.std.proofs.lemmas.List.{take_all, take_more}
use Rattle.std.proofs.lemmas.List.Elements.{Contains-append_left, Contains-push}
use Rattle.std.proofs.lemmas.List.Elements.{Contains-push_cases}
use Rattle.std.proofs.lemmas.Map.Keys.{below_from_sorted}
use Rattle.std.proofs.lemmas.Option.{slice_get-get_or}
use Rattle.gf_base.proofs.ListLemmas.{not_Contains-nil}
use Rattle.gf_base.proofs.PositionLemmas.{contained_at}
use Rattle.gf_maximal.specs.Growing.{joined}
use Rattle.gf_maximal.specs.LargestSets.{IsRising}
use Rattle.std.proofs.lemmas.Cmp.{nat_cmp_total}
use Rattle.std.specs.FinMap.{nat_cmp-IsAntisymmetric}
use Rattle.gf_base.proofs.InsertLemmas.{holds}
use Rattle.gf_ops.specs.declared.op.Op.{Op}
use Rattle.gf_ops.specs.declared.op.OpId.{OpId}
use Rattle.gf_ops.specs.Attribute.{aim_of}
use Rattle.gf_ops.specs.ValidHistory.{IsValid}
use Rattle.gf_groups.proofs.IdPositionLemmas.{same_position}
use Rattle.gf_groups.proofs.PositionLemmas.{positions_on-rising}
use Rattle.gf_classes.specs.Direct.{DirectState, class_at, place}
use Rattle.gf_classes.specs.Own.{AreGiven, IsClassOf, IsNamed, IsAmong, AddsNamed, AreOwn, Owns}
use Rattle.gf_classes.proofs.OwnConflictLemmas.{placed_at}

pub given_rising : (h : List Op) (us : List ℕ) (s : DirectState) → AreGiven h us s → IsRising us
given_rising h us s given = subst IsRising (sym given.positions)
    (positions_on-rising h given.object)

-- a number of a rising list stands at one index
pub same_index : (us : List ℕ) → IsRising us → (i j : ℕ) → i < length us → j < length us
    → place us i ≡ place us j → i ≡ j
same_index us rising i j l m e = elim (cases_order i j) [
  | inl k ↦ k
  | inr k ↦ elim k [
    | inl n ↦ let b = below_from_sorted us i j 0 rising n m in absurd (omega arith)
    | inr n ↦ let b = below_from_sorted us j i 0 rising n l in absurd (omega arith)
  ]
]

-- the class of a position is that at its index
pub class_there : (us : List ℕ) (s : DirectState) → IsRising us → (i p k : ℕ) → i < length us
    → place us i ≡ p → IsClassOf us s p k → class_at s i ≡ Some k
class_there us s rising i p k l e c =
    let w = placed_at us c.index p c.at in
    let same = same_index us rising i c.index l w.0 (e ∙ sym w.1) in
    ap (class_at s) same ∙ c.class

-- ---- the class of a position, searched

rises : (us : List ℕ) → IsRising us → (i j : ℕ) → i ≤ j → j < length us
    → get_or us i 0 ≤ get_or us j 0
rises us rising i j l m = elim (cases_lt i j) [
  | inl n ↦ let b = below_from_sorted us i j 0 rising n m in omega arith
  | inr n ↦ let e = ap (λ z. get_or us z 0) (let q : i ≡ j = omega arith in q) in omega arith
]

module _ (us : List ℕ) (s : DirectState) (rising : IsRising us) (p : ℕ) where
  pub class_from : (i : ℕ) (r : Option ℕ) → IsBinarySearchResult (λ y. nat_cmp y p) us (Ok i)
      → r ≡ class_at s i → IfSome r (λ k. IsClassOf us s p k)
  class_from i (Some k) b e =
      let w = searched us p (Ok i) b (rises us rising) in
      record { index = i; at = slice_get-get_or us i 0 w.0 ∙ ap Some w.1; class = sym e }
  class_from i None b e = tt

  pub class_told : (i : ℕ) (r : Option ℕ) → IsBinarySearchResult (λ y. nat_cmp y p) us (Ok i)
      → r ≡ class_at s i → (k : ℕ) → IsClassOf us s p k → r ≡ Some k
  class_told i r b e k c = let w = searched us p (Ok i) b (rises us rising) in
      e ∙ class_there us s rising i p k w.0 w.1 c

  pub class_missing : (i : ℕ) → IsBinarySearchResult (λ y. nat_cmp y p) us (Err i)
      → (k : ℕ) → ¬ (IsClassOf us s p k)
  class_missing i b k c =
      let w = searched us p (Err i) b (rises us rising) in
      let t = placed_at us c.index p c.at in
      elim (cases_lt c.index i) [
        | inl l ↦ let g = w.1 c.index l in absurd (omega (arith, t.1))
        | inr l ↦ let g = w.2 c.index l t.0 in absurd (omega (arith, t.1))
      ]

pub Contains-joined : (x : ℕ) (g : List ℕ) (n : ℕ)
    → Contains (joined x g) n ↔ (Contains g n ⊎ (n ≡ x))
Contains-joined x g n = holds nat_cmp nat_cmp_total nat_cmp-IsAntisymmetric x g n

module _ (h : List Op) (us : List ℕ) (s : DirectState) where
  -- ---- the classes of some ids, one by one

  pub named_more : (class : Option ℕ) (ids : List OpId) (old new : List ℕ) (i : ℕ) (d : OpId)
      → i < length ids → AreOwn h us s class (take i ids) old
      → AddsNamed h us s (get_or ids i d) old new → AreOwn h us s class (take (i + 1) ids) new
  named_more class ids old new i d l f g k =
      let x = get_or ids i d in
      let more = take_more ids i d l in (
        λ j. elim ((g k).0 j) [
          | inl m ↦ elim ((f k).0 m) [
            | inl e ↦ inl e
            | inr a ↦ inr (record {
              position = a.position;
              op = a.op;
              at = a.at;
              among = subst (λ z. Contains z a.op.id) (sym more)
                  (Contains-append_left (take i ids) (x ∷ []) a.op.id a.among);
              class = a.class;
            })
          ]
          | inr a ↦ inr (record {
            position = a.position;
            op = a.op;
            at = a.at;
            among = subst (λ z. Contains z a.op.id) (sym more)
                (subst (Contains (take i ids ++ x ∷ [])) (sym a.named)
                (Contains-push (take i ids) x));
            class = a.class;
          })
        ],
        λ j. (g k).1 (elim j [
          | inl e ↦ inl ((f k).1 (inl e))
          | inr a ↦ elim (Contains-push_cases (take i ids) x a.op.id
              (subst (λ z. Contains z a.op.id) more a.among)) [
                | inl c ↦ inl ((f k).1 (inr (record {
                  position = a.position;
                  op = a.op;
                  at = a.at;
                  among = c;
                  class = a.class;
                })))
                | inr e ↦ inr (record {
                  position = a.position;
                  op = a.op;
                  at = a.at;
                  named = sym e;
                  class = a.class;
                })
              ]
        ]),
      )

  pub named_none : (class : Option ℕ) (own : List ℕ)
      → ((k : ℕ) → Contains own k ↔ (class ≡ Some k)) → AreOwn h us s class [] own
  named_none class own f k = (
    λ j. inl ((f k).0 j),
    λ j. elim j [
      | inl e ↦ (f k).1 e
      | inr a ↦ absurd (not_Contains-nil a.op.id a.among)
    ],
  )

  -- a class that was found by its id is added
  pub adds_class : (id : OpId) (k : ℕ) (old new : List ℕ) → IsNamed h us s id k
      → ((m : ℕ) → IsNamed h us s id m → Some k ≡ Some m) → new ≡ joined k old
      → AddsNamed h us s id old new
  adds_class id k old new named all e m = (
    λ i. elim ((Contains-joined k old m).0 (subst (λ z. Contains z m) e i)) [
      | inl j ↦ inl j
      | inr f ↦ inr (subst (IsNamed h us s id) (sym f) named)
    ],
    λ j. subst (λ z. Contains z m) (sym e) ((Contains-joined k old m).1 (elim j [
      | inl i ↦ inl i
      | inr n ↦ inr (let q = all m n in let r : m ≡ k = cc in r)
    ])),
  )

  pub named_all : (class : Option ℕ) (ids : List OpId) (own : List ℕ) (i : ℕ) → length ids ≤ i
      → AreOwn h us s class (take i ids) own → AreOwn h us s class ids own
  named_all class ids own i l f = subst (λ z. AreOwn h us s class z own) (take_all i ids l) f

  -- ---- what an operation brings

  module _ (valid : IsValid h) (rising : IsRising us) (i : ℕ) (a : Op) (l : i < length us)
      (at : slice_get h (place us i) ≡ Some a) where
    owns_from : (k : ℕ) → ((class_at s i ≡ Some k) ⊎ IsAmong h us s (aim_of a) k)
        → Owns h us s (place us i) k
    owns_from k j = elim j [
      | inl e ↦ record {
        op = a;
        at = at;
        first = a;
        brings = inl refl;
        position = place us i;
        at_first = at;
        class = record { index = i; at = slice_get-get_or us i 0 l; class = e };
      }
      | inr m ↦ record {
        op = a;
        at = at;
        first = m.op;
        brings = inr (record { contained = contained_at h m.position m.op m.at; aimed = m.among });
        position = m.position;
        at_first = m.at;
        class = m.class;
      }
    ]

    owns_to : (k : ℕ) → Owns h us s (place us i) k
        → (class_at s i ≡ Some k) ⊎ IsAmong h us s (aim_of a) k
    owns_to k o =
        let one : o.op ≡ a = let z : Some o.op ≡ Some a = sym o.at ∙ at in cc in
        elim o.brings [
          | inl e ↦
              let same = same_position h valid (place us i) o.position a o.first at o.at_first
              (ap (λ (z : Op). z.id) (sym (e ∙ one))) in
              inl (class_there us s rising i o.position k l same o.class)
          | inr m ↦ inr (record {
            position = o.position;
            op = o.first;
            at = o.at_first;
            among = subst (λ (z : Op). Contains (aim_of z) o.first.id) one m.aimed;
            class = o.class;
          })
        ]

    -- its class, and those of its aim, are the classes that it brings
    pub owns_told : (k : ℕ)
        → ((class_at s i ≡ Some k) ⊎ IsAmong h us s (aim_of a) k) ↔ Owns h us s (place us i) k
    owns_told k = (owns_from k, owns_to k)
