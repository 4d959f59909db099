-- Each largest set with a new number has one parent among the sets before: the list grows by cuts
-- of parents alone.
use Rattle.std.proofs.Common.{◌≡◌, ◌≢◌, ℕ, Bool, true, false, List, map, inl, inr, refl}
use Rattle.std.proofs.Common.{subst, sym, ◌∙◌}
use Rattle.std.specs.Prelude.{◌⊎◌, ◌↔◌, Contains, filter, not, ◌||◌, ◌&&◌, nat_lt}
use Rattle.std.specs.List.{list_any, list_all}
use Rattle.std.specs.FinMap.{nat_cmp-IsAntisymmetric}
use Rattle.std.specs.Ordering.{nat_cmp}
use Rattle.std.proofs.lemmas.Bool.{cases_Bool, cond-true, cond-false, and_parts, and_from, or_cases}
use Rattle.std.proofs.lemmas.Bool.{or_left, or_right, ltb-true, lt-ltb}
use Rattle.std.proofs.lemmas.Cmp.{nat_cmp_total}
use Rattle.std.proofs.lemmas.List.Elements.{Contains-append_cases, Contains-append_left}
use Rattle.std.proofs.lemmas.List.Elements.{Contains-append_right}
use Rattle.std.proofs.lemmas.List.Kept.{IsStrictlySortedBy-filter, AllPairs-filter}
use Rattle.gf_base.proofs.ListLemmas.{Contains-map, Contains-map_from}
use Rattle.gf_base.proofs.FilterLemmas.{Contains-filter, list_any_true, list_any_from}
use Rattle.gf_base.proofs.FilterLemmas.{list_all_true, list_all_from}
use Rattle.gf_base.proofs.RisingLemmas.{one_rising}
use Rattle.gf_base.proofs.InsertLemmas.{inserted, holds}
use Rattle.gf_base.proofs.PairLemmas.{AllPairs-append, AllPairs-map}
use Rattle.gf_maximal.specs.Growing.{is_in, intersects, without, common, joined}
use Rattle.gf_maximal.specs.LargestSets.{Hits, IsLargest, IsRising, AreLargestSets}
use Rattle.gf_maximal.proofs.LargestLemmas.{With, IsConflict, largest_with, largest_stays}
use Rattle.gf_maximal.proofs.LargestLemmas.{largest_was, largest_alike}
use Rattle.gf_maximal.proofs.MaximalLemmas.{Within, in_list, from_list, intersects_one}
use Rattle.gf_maximal.proofs.MaximalLemmas.{intersects_from, intersects_none, Contains-without}
use Rattle.gf_maximal.proofs.GrowingLemmas.{Comes, IsCalm, joins, is_joined, told_apart}
use Rattle.gf_maximal.specs.Parents.{met, cut, is_told, is_parent, next_cut}
use Rattle.gf_maximal.proofs.FirstLemmas.{HitsBelow, IsFirst, one_first}
use Rattle.gf_maximal.proofs.FirstLemmas.{first_largest, first_over}

-- ---- the test in words

module _ (c : ℕ → ℕ → Bool) (d g : List ℕ) (a : ℕ) where
  abbrev pub IsTold : Type 0
  IsTold = Contains g a ⊎ (Hits c (Contains (without d g)) a ⊎ (Contains d a × HitsBelow c g a))

  pub told : is_told c d g a ≡ true → IsTold
  told t = elim (or_cases (is_in g a) (list_any (c a) (without d g)
      || (is_in d a && list_any (λ b. nat_lt b a && c a b) g)) t) [
        | inl i ↦ inl (from_list g a i)
        | inr w ↦ inr (elim (or_cases (list_any (c a) (without d g))
            (is_in d a && list_any (λ b. nat_lt b a && c a b) g) w) [
              | inl v ↦ inl (list_any_true (c a) (without d g) v)
              | inr v ↦
                  let p = and_parts (is_in d a) (list_any (λ b. nat_lt b a && c a b) g) v in
                  let q = list_any_true (λ b. nat_lt b a && c a b) g p.1 in
                  let r = and_parts (nat_lt q.0 a) (c a q.0) q.2 in
                  inr (from_list d a p.0, (q.0, q.1, ltb-true q.0 a r.0, r.1))
            ])
      ]

  pub is_told_from : IsTold → is_told c d g a ≡ true
  is_told_from w = elim w [
    | inl i ↦ or_left (is_in g a) _ (in_list g a i)
    | inr v ↦ or_right (is_in g a) _ (elim v [
      | inl p ↦ or_left (list_any (c a) (without d g)) _
          (list_any_from (c a) (without d g) p.0 p.1 p.2)
      | inr p ↦ or_right (list_any (c a) (without d g)) _ (and_from (is_in d a) _
          (in_list d a p.0)
          (list_any_from (λ b. nat_lt b a && c a b) g p.1.0 p.1.1
          (and_from (nat_lt p.1.0 a) (c a p.1.0) (lt-ltb p.1.0 a p.1.2) p.1.3)))
    ])
  ]

-- ---- only what conflicts with a number that d takes away need be asked

module _ (c : ℕ → ℕ → Bool) (us d : List ℕ) where
  pub Contains-common : (g : List ℕ) (a : ℕ) → Contains (common d g) a ↔ (Contains g a × Contains d a)
  Contains-common g a = (
    λ h. let w = (Contains-filter (is_in d) g a).0 h in (w.0, from_list d a w.1),
    λ h. (Contains-filter (is_in d) g a).1 (h.0, in_list d a h.1),
  )

  pub far : (g : List ℕ) → IsLargest c (Contains us) (Contains g) → (a : ℕ) → Contains us a
      → ¬ (Hits c (Contains (common d g)) a) → IsTold c d g a
  far g m a u n = elim (m.largest a u) [
    | inl i ↦ inl i
    | inr w ↦ elim (cases_Bool (is_in d w.0)) [
      | inl t ↦ absurd (n (w.0, (Contains-common g w.0).1 (w.1, from_list d w.0 t), w.2))
      | inr f ↦ inr (inl (
        w.0,
        (Contains-without d g w.0).1 (w.1, λ y. let z = in_list d w.0 y in absurd cc),
        w.2,
      ))
    ]
  ]

module _ (c : ℕ → ℕ → Bool) (s : IsConflict c) (us : List ℕ) (x : ℕ) (d all : List ℕ)
    (comes : Comes c us x d all) where
  -- a largest set of vs that rises
  abbrev IsSet : List ℕ → List ℕ → Type 0
  IsSet vs g = IsRising g × IsLargest c (Contains vs) (Contains g)

  rises : (g : List ℕ) → IsRising g → IsRising (joined x g)
  rises g r = inserted nat_cmp nat_cmp_total nat_cmp-IsAntisymmetric x g r

  has : (g : List ℕ) (a : ℕ) → Contains (joined x g) a ↔ (Contains g a ⊎ (a ≡ x))
  has g a = holds nat_cmp nat_cmp_total nat_cmp-IsAntisymmetric x g a

  back : {P Q : Type 0} → P ↔ Q → Q ↔ P
  back e = (e.1, e.0)

  same : {P : Type 0} → P ↔ P
  same = (λ h. h, λ h. h)

  hit : (a : ℕ) → Contains d a → c a x ≡ true
  hit a h = s.symmetric a x ∙ ((comes.rivals a).0 h).1

  calm : (a : ℕ) → Contains us a → ¬ (Contains d a) → c a x ≡ false
  calm a h n = elim (cases_Bool (c x a)) [
    | inl t ↦ absurd (n ((comes.rivals a).1 (h, t)))
    | inr k ↦ s.symmetric a x ∙ k
  ]

  missing : (g : List ℕ) → Within g us → ¬ (Contains g x)
  missing g w h = comes.fresh (w x h)

  apart : (g h : List ℕ) → IsRising g → IsRising h → Within g us → Within h us
      → joined x g ≡ joined x h → g ≡ h
  apart g h r t v w e = one_rising nat_cmp nat_cmp_total g h r t
      (λ a. (told_apart c s us x d all comes g h v e a, told_apart c s us x d all comes h g w (sym e) a))

  -- ---- a set, and what d leaves of it

  rest_of : (g : List ℕ) → IsSet us g → IsCalm c s us x d all comes (without d g)
  rest_of g m = record {
    rising = IsStrictlySortedBy-filter nat_cmp (λ a. not (is_in d a)) g m.0;
    inside = λ a i. m.1.within a ((Contains-without d g a).0 i).0;
    compatible = λ a b i j. m.1.compatible a b ((Contains-without d g a).0 i).0
        ((Contains-without d g b).0 j).0;
    avoids = λ a i. let w = (Contains-without d g a).0 i in calm a (m.1.within a w.0) w.1;
  }

  parent_told : (g : List ℕ) → is_parent c us d g ≡ true → (a : ℕ) → Contains us a → IsTold c d g a
  parent_told g t a u = told c d g a (list_all_true (is_told c d g) us
      (and_parts (intersects d g) (list_all (is_told c d g) us) t).1 a u)

  -- a parent is the first completion of what d leaves of it
  parent_first : (g : List ℕ) → IsSet us g → is_parent c us d g ≡ true
      → IsFirst c us (without d g) g
  parent_first g m t = record {
    inside = m.1.within;
    kept = λ a i. ((Contains-without d g a).0 i).0;
    compatible = m.1.compatible;
    first = λ a u. elim (parent_told g t a u) [
      | inl i ↦ inl i
      | inr w ↦ inr (elim w [ inl v ↦ inl v | inr v ↦ inr v.1 ])
    ];
  }

  cut_set : (g : List ℕ) → IsSet us g → is_parent c us d g ≡ true → IsSet all (cut d x g)
  cut_set g m t =
      let k = rest_of g m in
      let lost : (a : ℕ) → Contains d a → Hits c (Contains (cut d x g)) a = λ a i.
      (x, (has (without d g) x).1 (inr refl), hit a i) in (
        rises (without d g) k.rising,
        record {
          within = λ a i. (comes.exactly a).1
              (elim ((has (without d g) a).0 i) [ inl j ↦ inl (k.inside a j) | inr e ↦ inr e ]);
          compatible = joins c s us x d all comes (without d g) k;
          largest = λ a i. elim ((comes.exactly a).0 i) [
            | inl u ↦ elim (parent_told g t a u) [
              | inl j ↦ elim (cases_Bool (is_in d a)) [
                | inl y ↦ inr (lost a (from_list d a y))
                | inr n ↦ inl ((has (without d g) a).1 (inl
                    ((Contains-without d g a).1 (j, λ y. let z = in_list d a y in absurd cc))))
              ]
              | inr w ↦ inr (elim w [
                | inl v ↦ (v.0, (has (without d g) v.0).1 (inl v.1), v.2)
                | inr v ↦ lost a v.0
              ])
            ]
            | inr e ↦ inl ((has (without d g) a).1 (inr e))
          ];
        },
      )

  met_hit : (g : List ℕ) → intersects d g ≡ true → met d x g ≡ g
  met_hit g t = cond-true (intersects d g) g (joined x g) t

  met_calm : (g : List ℕ) → intersects d g ≡ false → met d x g ≡ joined x g
  met_calm g n = cond-false (intersects d g) g (joined x g) n

  calm_one : (g : List ℕ) → IsSet us g → intersects d g ≡ false → IsCalm c s us x d all comes g
  calm_one g m n = record {
    rising = m.0;
    inside = m.1.within;
    compatible = m.1.compatible;
    avoids = λ a i. calm a (m.1.within a i) (intersects_none d g n a i);
  }

  upwards : (p q : ℕ → Type 0) → ((a : ℕ) → p a ↔ q a) → IsLargest c (With c (Contains us) x) p
      → IsLargest c (Contains all) q
  upwards p q e m = largest_alike c (With c (Contains us) x) (Contains all) p q
      (λ a. back (comes.exactly a)) e m

  met_set : (g : List ℕ) → IsSet us g → IsSet all (met d x g)
  met_set g m = elim (cases_Bool (intersects d g)) [
    | inl t ↦
        let v = intersects_one d g t in
        subst (IsSet all) (sym (met_hit g t)) (
          m.0,
          upwards (Contains g) (Contains g) (λ a. same) (largest_stays c (Contains us) (Contains g) x
              m.1 (v.0, v.2, ((comes.rivals v.0).0 v.1).1)),
        )
    | inr n ↦ subst (IsSet all) (sym (met_calm g n)) (
      rises g m.0,
      upwards (With c (Contains g) x) (Contains (joined x g)) (λ a. back (has g a))
          (largest_with c s (Contains us) (Contains g) x m.1 (calm_one g m n).avoids),
    )
  ]

  module _ (gs : List (List ℕ)) (table : AreLargestSets c us gs) where
    abbrev parents : List (List ℕ)
    parents = filter (is_parent c us d) gs

    abbrev mets : List (List ℕ)
    mets = map (met d x) gs

    abbrev cuts : List (List ℕ)
    cuts = map (cut d x) parents

    listed : (g : List ℕ) → Contains gs g → IsSet us g
    listed g h = (table.each g).0 h

    parent : (g : List ℕ) → Contains parents g → IsSet us g × (is_parent c us d g ≡ true)
    parent g h = let w = (Contains-filter (is_parent c us d) gs g).0 h in (listed g w.0, w.1)

    sound : (q : List ℕ) → Contains (next_cut c us d x gs) q → IsSet all q
    sound q h = elim (Contains-append_cases mets cuts q h) [
      | inl i ↦ let w = Contains-map_from (met d x) gs q i in
          subst (IsSet all) (sym w.2) (met_set w.0 (listed w.0 w.1))
      | inr i ↦ let w = Contains-map_from (cut d x) parents q i in
          let p = parent w.0 w.1 in
          subst (IsSet all) (sym w.2) (cut_set w.0 p.0 p.1)
    ]

    met_in : (q g : List ℕ) → Contains gs g → q ≡ met d x g → Contains (next_cut c us d x gs) q
    met_in q g h e = Contains-append_left mets cuts q
        (subst (Contains mets) (sym e) (Contains-map (met d x) gs g h))

    -- a largest set that conflicts with x was there, and stays
    stayed : (q : List ℕ) → IsSet all q → Hits c (Contains q) x → Contains (next_cut c us d x gs) q
    stayed q m w =
        let old = largest_was c s (Contains us) (Contains q) x
        (largest_alike c (Contains all) (With c (Contains us) x) (Contains q) (Contains q)
        comes.exactly (λ a. same) m.1) w in
        met_in q q ((table.each q).1 (m.0, old)) (sym (met_hit q
        (intersects_from d q w.0 ((comes.rivals w.0).1 (old.within w.0 w.1, w.2)) w.1)))

    -- one that holds x is the first completion of the rest with x, or the cut of that
    came : (q : List ℕ) → IsSet all q → Contains q x → Contains (next_cut c us d x gs) q
    came q m here =
        let rest = filter (is_in us) q in
        let of : (a : ℕ) → Contains rest a → Contains q a × Contains us a = λ a i.
        let w = (Contains-filter (is_in us) q a).0 i in (w.0, from_list us a w.1) in
        let to : (a : ℕ) → Contains q a → Contains us a → Contains rest a = λ a i u.
        (Contains-filter (is_in us) q a).1 (i, in_list us a u) in
        let o = first_over c s us rest comes.rising (λ a i. (of a i).1)
        (λ a b i j. m.1.compatible a b (of a i).0 (of b j).0) in
        let n : IsSet us o.0 = (o.1, first_largest c s us rest o.0 o.2) in
        let h = (table.each o.0).1 n in
        let free : (a : ℕ) → Contains q a → ¬ (Contains d a) = λ a i j.
        let y = hit a j in let z = m.1.compatible a x i here in absurd cc in
        let up : (a : ℕ) → Contains q a → Contains us a → Contains (without d o.0) a = λ a i u.
        (Contains-without d o.0 a).1 (o.2.kept a (to a i u), free a i) in
        elim (cases_Bool (intersects d o.0)) [
          | inl t ↦
              let known : (a : ℕ) → Contains us a → IsTold c d o.0 a = λ a u.
              elim (o.2.first a u) [
                | inl i ↦ inl i
                | inr w ↦ elim w [
                  | inl v ↦ inr (inl (v.0, up v.0 (of v.0 v.1).0 (of v.0 v.1).1, v.2))
                  | inr v ↦ elim (m.1.largest a ((comes.exactly a).1 (inl u))) [
                    | inl i ↦ inl (o.2.kept a (to a i u))
                    | inr p ↦ inr (elim ((comes.exactly p.0).0 (m.1.within p.0 p.1)) [
                      | inl k ↦ inl (p.0, up p.0 p.1 k, p.2)
                      | inr e ↦ inr (
                        (comes.rivals a).1
                            (u, s.symmetric x a ∙ subst (λ z. c a z ≡ true) e p.2),
                        v,
                      )
                    ])
                  ]
                ]
              ] in
              let yes : is_parent c us d o.0 ≡ true = and_from (intersects d o.0)
              (list_all (is_told c d o.0) us) t
              (list_all_from (is_told c d o.0) us (λ a u. is_told_from c d o.0 a (known a u))) in
              let e : q ≡ cut d x o.0 = is_joined c s us x d all comes q (without d o.0) m here (rest_of o.0 n) up in
              Contains-append_right mets cuts q (subst (Contains cuts) (sym e)
              (Contains-map (cut d x) parents o.0
              ((Contains-filter (is_parent c us d) gs o.0).1 (h, yes))))
          | inr k ↦ met_in q o.0 h (is_joined c s us x d all comes q o.0 m here (calm_one o.0 n k)
              (λ a i u. o.2.kept a (to a i u)) ∙ sym (met_calm o.0 k))
        ]

    -- ---- each once

    fresh : {G : Type 0} (g k : List ℕ) → Contains gs g → g ≡ joined x k → G
    fresh g k h e = absurd (missing g (listed g h).1.within
        (subst (λ z. Contains z x) (sym e) ((has k x).1 (inr refl))))

    met_apart : (g h : List ℕ) → Contains gs g → Contains gs h → met d x g ≡ met d x h → g ≡ h
    met_apart g h i j e = elim (cases_Bool (intersects d g)) [
      | inl t ↦ elim (cases_Bool (intersects d h)) [
        | inl k ↦ sym (met_hit g t) ∙ (e ∙ met_hit h k)
        | inr k ↦ fresh g h i (sym (met_hit g t) ∙ (e ∙ met_calm h k))
      ]
      | inr t ↦ elim (cases_Bool (intersects d h)) [
        | inl k ↦ fresh h g j (sym (met_hit h k) ∙ (sym e ∙ met_calm g t))
        | inr k ↦ apart g h (listed g i).0 (listed h j).0 (listed g i).1.within
            (listed h j).1.within (sym (met_calm g t) ∙ (e ∙ met_calm h k))
      ]
    ]

    -- of two parents with one cut both are the first completion of the same
    cut_apart : (g h : List ℕ) → Contains parents g → Contains parents h → cut d x g ≡ cut d x h
        → g ≡ h
    cut_apart g h i j e =
        let p = parent g i in let q = parent h j in
        let k = rest_of g p.0 in let l = rest_of h q.0 in
        let f : without d g ≡ without d h = apart (without d g) (without d h) k.rising l.rising
        k.inside l.inside e in
        one_first c us (without d g) g h p.0.0 q.0.0 (parent_first g p.0 p.1)
        (subst (λ z. IsFirst c us z h) (sym f) (parent_first h q.0 q.1))

    -- what d leaves of a set that it meets is not largest
    less : (g h : List ℕ) → IsSet us g → IsSet us h → intersects d h ≡ true → g ≢ without d h
    less g h m n t e =
        let v = intersects_one d h t in
        let gone : (a : ℕ) → Contains g a → Contains (without d h) a = λ a i.
        subst (λ z. Contains z a) e i in
        elim (m.1.largest v.0 (n.1.within v.0 v.2)) [
          | inl i ↦ ((Contains-without d h v.0).0 (gone v.0 i)).1 v.1
          | inr w ↦
              let y = n.1.compatible v.0 w.0 v.2 ((Contains-without d h w.0).0 (gone w.0 w.1)).0 in
              let z = w.2 in absurd cc
        ]

    met_or_cut : (g h : List ℕ) → Contains gs g → Contains parents h → met d x g ≢ cut d x h
    met_or_cut g h i j e =
        let m = listed g i in let p = parent h j in let k = rest_of h p.0 in
        elim (cases_Bool (intersects d g)) [
          | inl t ↦ fresh g (without d h) i (sym (met_hit g t) ∙ e)
          | inr n ↦ less g h m p.0
              (and_parts (intersects d h) (list_all (is_told c d h) us) p.1).0
              (apart g (without d h) m.0 k.rising m.1.within k.inside (sym (met_calm g n) ∙ e))
        ]

    -- THE RULE: the list has all largest sets again, each once
    pub largest_next_cut : AreLargestSets c all (next_cut c us d x gs)
    largest_next_cut = record {
      each = λ q. (
        sound q,
        λ m. elim (m.1.largest x ((comes.exactly x).1 (inr refl))) [
          | inl here ↦ came q m here
          | inr w ↦ stayed q m w
        ],
      );
      once = AllPairs-append (λ g h. g ≢ h) mets cuts
          (AllPairs-map (met d x) gs met_apart table.once)
          (AllPairs-map (cut d x) parents cut_apart
          (AllPairs-filter (λ g h. g ≢ h) (is_parent c us d) gs table.once))
          (λ g h i j e.
          let v = Contains-map_from (met d x) gs g i in
          let w = Contains-map_from (cut d x) parents h j in
          met_or_cut v.0 w.0 v.1 w.1 (sym v.2 ∙ (e ∙ w.2)));
    }
