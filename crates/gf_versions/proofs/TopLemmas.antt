-- The first version of a falling list that holds a point is the top one there.
use Rattle.std.proofs.Common.{◌≡◌, suc, Bool, true, List, [], ◌∷◌, refl, sym, subst, ap, ◌∙◌, inl}
use Rattle.std.proofs.Common.{inr, arith}
use Rattle.std.specs.Prelude.{AllPairs, Contains, find, Option, Some, None, option_map, unwrap_or}
use Rattle.std.specs.Prelude.{◌⊎◌, ◌↔◌}
use Rattle.std.specs.declared.cmp.Ordering.{Ordering}
use Rattle.std.specs.declared.cmp.Ordering.TheVariants.{Less, Equal, Greater}
use Rattle.std.specs.Ordering.{ordering_reverse}
use Rattle.std.proofs.lemmas.Bool.{cases_Bool, cond-true, cond-false}
use Rattle.gf_plane.specs.declared.point.Point.{Point}
use Rattle.gf_plane.specs.declared.colour.Rgb.{Rgb}
use Rattle.gf_ops.specs.declared.op.Op.{Op}
use Rattle.gf_ops.specs.ValidHistory.{IsValid}
use Rattle.gf_versions.specs.declared.key.Version.{Version}
use Rattle.gf_versions.specs.declared.key.VersionKey.{VersionKey}
use Rattle.gf_shape.specs.declared.any_shape.AnyShape.{AnyShape}
use Rattle.gf_versions.specs.declared.placed.Placed.{Placed}
use Rattle.gf_shape.specs.ShapeMeaning.{any_holds}
use Rattle.gf_plane.specs.White.{white}
use Rattle.gf_versions.specs.Above.{IsAbove, AreOrdered, same, first_above, second_above, key_cmp}
use Rattle.gf_versions.specs.ListedVersions.{shown_of}
use Rattle.gf_versions.specs.HistoryColour.{HistoryColour, HasOneColour, IsSeenAt, IsTopAt, top}
use Rattle.gf_versions.specs.HistoryColour.{blank}
use Rattle.gf_versions.specs.Ranking.{AreRanked, first_colour, placed_version}
use Rattle.gf_versions.specs.VersionOf.{IsVersionOf}
use Rattle.gf_versions.specs.Visible.{IsVisible, version_holds}
use Rattle.gf_versions.proofs.VersionLemmas.{one_of_group, versions_listed, visible_exactly}
use Rattle.gf_versions.specs.KeyOrder.{key_cmp_total}
use Rattle.gf_versions.proofs.KeyLemmas.{above_one_way, above_transitive, neither_above}
use Rattle.gf_versions.proofs.KeyLemmas.{key_cmp_exact}
use Rattle.gf_base.proofs.ListLemmas.{Contains-cons_cases, Contains-cons_head, Contains-cons_tail}
use Rattle.gf_base.proofs.ListLemmas.{not_Contains-nil}
use Rattle.gf_versions.proofs.ShapeLemmas.{shape_holds}

module _ {X : Type 0} (Above : X → X → Type 0) where
  -- in a falling list the head is above each later element, and the rest falls
  pub head_above : (x : X) (xs : List X) → AllPairs Above (x ∷ xs) → (w : X) → Contains xs w
      → Above x w
  head_above x xs o w (k, h, e) = subst (Above x) e (o 0 (suc k) w (omega arith) (omega arith))

  pub tail_falls : (x : X) (xs : List X) → AllPairs Above (x ∷ xs) → AllPairs Above xs
  tail_falls x xs o i j d l m = o (suc i) (suc j) d (omega arith) (omega arith)

module _ {X : Type 0} (Above : X → X → Type 0) (one_way : (a b : X) → Above a b → ¬ (Above b a))
    (test : X → Bool) where
  -- v passes, and no element above it does
  pub record IsFirst (xs : List X) (v : X) : Type 0 where
    pub known : Contains xs v
    pub passes : test v ≡ true
    pub highest : (w : X) → Contains xs w → test w ≡ true → ¬ (Above w v)

  -- in a falling list the first that passes is above each other that passes
  pub find_first : (xs : List X) (v : X) → AllPairs Above xs → find test xs ≡ Some v → IsFirst xs v
  find_first [] v o e = absurd cc
  find_first (x ∷ xs) v o e = elim (cases_Bool (test x)) [
    | inl t ↦ let f : Some x ≡ Some v = sym (cond-true (test x) (Some x) (find test xs) t) ∙ e in
        let s : x ≡ v = cc in
        subst (IsFirst (x ∷ xs)) s (record {
          known = (0, omega arith, refl);
          passes = t;
          highest = λ w h k a. elim (Contains-cons_cases x xs w h) [
            | inl q ↦ let b = subst (λ (z : X). Above z x) q a in one_way x x b b
            | inr r ↦ one_way w x a (head_above Above x xs o w r)
          ];
        })
    | inr t ↦ let f = find_first xs v (tail_falls Above x xs o)
        (sym (cond-false (test x) (Some x) (find test xs) t) ∙ e) in record {
          known = Contains-cons_tail x xs v f.known;
          passes = f.passes;
          highest = λ w h k. elim (Contains-cons_cases x xs w h) [
            | inl q ↦ absurd (let p : test x ≡ true = subst (λ (z : X). test z ≡ true) q k in cc)
            | inr r ↦ f.highest w r k
          ];
        }
  ]

module _ {X : Type 0} (test : X → Bool) where
  pub find_none : (xs : List X) → find test xs ≡ None → (w : X) → Contains xs w → test w ≡ true → ⊥
  find_none [] e w (k, h, q) t = absurd (omega arith)
  find_none (x ∷ xs) e w h t = elim (cases_Bool (test x)) [
    | inl s ↦ let f : Some x ≡ None = sym (cond-true (test x) (Some x) (find test xs) s) ∙ e in
        absurd cc
    | inr s ↦ elim (Contains-cons_cases x xs w h) [
      | inl q ↦ let p : test x ≡ true = subst (λ (z : X). test z ≡ true) q t in absurd cc
      | inr r ↦ find_none xs (sym (cond-false (test x) (Some x) (find test xs) s) ∙ e) w r t
    ]
  ]

-- the items of a ranking, and what they hold at p
module _ (h : List Op) (p : Point) (items : List (Placed AnyShape))
    (ranked : AreRanked h items) where
  abbrev is_there : Placed AnyShape → Bool
  is_there i = any_holds i.shape p

  placed : (v : Version) → IsVisible h v → Contains items (placed_version v)
  placed v s = (ranked.exactly (placed_version v)).0
      (record { version = v; visible = s; placed = refl })

  -- the first that holds p is the version on top there
  pub top_found : (i : Placed AnyShape) → find is_there items ≡ Some i
      → (v : Version) × IsTopAt h p v × (i ≡ placed_version v)
  top_found i e =
      let first = find_first (λ (j k : Placed AnyShape). IsAbove j.key k.key)
      (λ j k. above_one_way j.key k.key) is_there items i ranked.falling e in
      let member = (ranked.exactly i).1 first.known in
      let v = member.version in (
        v,
        record {
          seen = record {
            visible = member.visible;
            holds = sym (shape_holds v.form v.place p)
                ∙ (sym (ap (λ (j : Placed AnyShape). any_holds j.shape p) member.placed)
                ∙ first.passes);
          };
          top = λ w s above. first.highest (placed_version w) (placed w s.visible)
              (shape_holds w.form w.place p ∙ s.holds)
              (subst (λ (j : Placed AnyShape). IsAbove w.key j.key) (sym member.placed) above);
        },
        member.placed,
      )

  -- where none holds p, none is seen there
  pub none_found : find is_there items ≡ None → (v : Version) → ¬ (IsSeenAt h p v)
  none_found e v s = find_none is_there items e (placed_version v) (placed v s.visible)
      (shape_holds v.form v.place p ∙ s.holds)

-- the first item of a ranking that holds p has the history's colour
pub first_gives : (h : List Op) (p : Point) (items : List (Placed AnyShape)) → AreRanked h items
    → HistoryColour h p (first_colour any_holds items p)
first_gives h p items ranked = by_answer (find (λ (i : Placed AnyShape). any_holds i.shape p) items)
    refl
  where
    by_answer : (r : Option (Placed AnyShape)) → find (λ (i : Placed AnyShape). any_holds i.shape p)
        items ≡ r → HistoryColour h p (unwrap_or (option_map (λ (i : Placed AnyShape). i.colour) r)
        white)
    by_answer (Some i) e =
        let found = top_found h p items ranked i e in
        subst (HistoryColour h p) (sym (ap (λ (j : Placed AnyShape). j.colour) found.2))
        (top found.0 found.1)
    by_answer None e = blank (none_found h p items ranked e)

-- the colour with its reason
taken_apart : {h : List Op} {p : Point} {c : Rgb} → HistoryColour h p c
    → ((v : Version) × IsTopAt h p v × (c ≡ v.colour))
    ⊎ (((v : Version) → ¬ (IsSeenAt h p v)) × (c ≡ white))
taken_apart (top v t) = inl (v, t, refl)
taken_apart (blank n) = inr (n, refl)

-- two versions with one key are one
one_of_key : (h : List Op) → IsValid h → (v w : Version) → IsVersionOf h v → IsVersionOf h w
    → v.key ≡ w.key → v ≡ w
one_of_key h valid v w x y e = one_of_group h valid v w x y (ap (λ (k : VersionKey). k.object) e)
    (ap (λ (k : VersionKey). k.ops) e)

-- a history has one colour at a point
pub one_colour : (h : List Op) (p : Point) (c d : Rgb) → IsValid h → HistoryColour h p c
    → HistoryColour h p d → c ≡ d
one_colour h p c d valid x y = elim (taken_apart x) [
  | inl s ↦ elim (taken_apart y) [
    | inl r ↦
        let k = neither_above s.0.key r.0.key (r.1.top s.0 s.1.seen) (s.1.top r.0 r.1.seen) in
        let e = one_of_key h valid s.0 r.0 s.1.seen.visible.version r.1.seen.visible.version k in
        s.2 ∙ (ap (λ (v : Version). v.colour) e ∙ sym r.2)
    | inr n ↦ absurd (n.0 s.0 s.1.seen)
  ]
  | inr m ↦ elim (taken_apart y) [
    | inl r ↦ absurd (m.0 r.0 r.1.seen)
    | inr n ↦ m.1 ∙ sym n.1
  ]
]

-- v is one of the versions, passes, and none that passes is above it
record IsHighest (test : Version → Bool) (vs : List Version) (v : Version) : Type 0 where
  known : Contains vs v
  passes : test v ≡ true
  highest : (w : Version) → Contains vs w → test w ≡ true → ¬ (IsAbove w.key v.key)

-- among some versions either one that passes is the highest, or none passes
highest_or_none : (test : Version → Bool) (vs : List Version)
    → ((v : Version) × IsHighest test vs v) ⊎ ((v : Version) → Contains vs v → test v ≡ true → ⊥)
highest_or_none test [] = inr (λ v c t. not_Contains-nil v c)
highest_or_none test (x ∷ vs) = elim (cases_Bool (test x)) [
  | inr t ↦ elim (highest_or_none test vs) [
    | inl f ↦ inl (
      f.0,
      record {
        known = Contains-cons_tail x vs f.0 f.1.known;
        passes = f.1.passes;
        highest = λ w c k. elim (Contains-cons_cases x vs w c) [
          | inl e ↦ absurd (let p : test x ≡ true = subst (λ z. test z ≡ true) e k in cc)
          | inr d ↦ f.1.highest w d k
        ];
      },
    )
    | inr n ↦ inr (λ v c k. elim (Contains-cons_cases x vs v c) [
      | inl e ↦ absurd (let p : test x ≡ true = subst (λ z. test z ≡ true) e k in cc)
      | inr d ↦ n v d k
    ])
  ]
  | inl t ↦ elim (highest_or_none test vs) [
    | inl f ↦ inl (higher x vs t f.0 f.1 (key_cmp x.key f.0.key) refl)
    | inr n ↦ inl (
      x,
      record {
        known = Contains-cons_head x vs;
        passes = t;
        highest = λ w c k a. elim (Contains-cons_cases x vs w c) [
          | inl e ↦ not_above_itself x.key (subst (λ (z : Version). IsAbove z.key x.key) e a)
          | inr d ↦ n w d k
        ];
      },
    )
  ]
]
  where
    not_above_itself : (k : VersionKey) → ¬ (IsAbove k k)
    not_above_itself k a = above_one_way k k a a

    higher : (x : Version) (vs : List Version) → test x ≡ true → (v : Version) → IsHighest test vs v
        → (o : Ordering) → key_cmp x.key v.key ≡ o → (u : Version) × IsHighest test (x ∷ vs) u
    higher x vs t v f Greater e = (
      x,
      record {
        known = Contains-cons_head x vs;
        passes = t;
        highest = λ w c k a. elim (Contains-cons_cases x vs w c) [
          | inl i ↦ not_above_itself x.key (subst (λ (z : Version). IsAbove z.key x.key) i a)
          | inr d ↦ f.highest w d k (above_transitive w.key x.key v.key a e)
        ];
      },
    )
    higher x vs t v f o e = (
      v,
      record {
        known = Contains-cons_tail x vs v f.known;
        passes = f.passes;
        highest = λ w c k a. elim (Contains-cons_cases x vs w c) [
          | inl i ↦ let b : IsAbove x.key v.key = subst (λ (z : Version). IsAbove z.key v.key) i
              a in absurd cc
          | inr d ↦ f.highest w d k a
        ];
      },
    )

-- a valid history has a colour at a point
pub some_colour : (h : List Op) (p : Point) → IsValid h → (c : Rgb) × HistoryColour h p c
some_colour h p valid = elim (highest_or_none (λ v. version_holds v p) (shown_of all.0)) [
  | inl f ↦ (
    f.0.colour,
    top f.0 (record {
      seen = record { visible = (seen f.0).1 f.1.known; holds = f.1.passes };
      top = λ w s. f.1.highest w ((seen w).0 s.visible) s.holds;
    }),
  )
  | inr n ↦ (white, blank (λ v s. n v ((seen v).0 s.visible) s.holds))
]
  where
    all : (vs : List Version) × ((v : Version) → Contains vs v ↔ IsVersionOf h v)
    all = versions_listed h valid

    seen : (v : Version) → IsVisible h v ↔ Contains (shown_of all.0) v
    seen = visible_exactly h valid all.0 all.1

-- exactly one
pub has_one_colour : (h : List Op) (p : Point) → IsValid h → HasOneColour h p
has_one_colour h p valid =
    let some = some_colour h p valid in
    record {
      colour = some.0;
      meant = some.1;
      only = λ c meant. one_colour h p c some.0 valid meant some.1;
    }

-- two versions of a valid history are one, or one is above the other
pub are_ordered : (h : List Op) (v w : Version) → IsValid h → IsVersionOf h v → IsVersionOf h w
    → AreOrdered v w
are_ordered h v w valid x y = by_answer (key_cmp v.key w.key) refl
  where
    by_answer : (o : Ordering) → key_cmp v.key w.key ≡ o → AreOrdered v w
    by_answer Less e = let above : IsAbove w.key v.key = key_cmp_total.antisymm w.key v.key
        ∙ ap ordering_reverse e in second_above above (above_one_way w.key v.key above)
    by_answer Equal e = same (one_of_key h valid v w x y (key_cmp_exact v.key w.key e))
    by_answer Greater e = first_above e (above_one_way v.key w.key e)
