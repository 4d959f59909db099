-- What is asked of a set before it is cut.
use Rattle.std.proofs.Common.{◌≡◌, ◌<◌, ℕ, Bool, true, false, List, [], ◌∷◌, inl, inr, refl, subst}
use Rattle.std.proofs.Common.{sym, ap, ◌∙◌, arith, length, get_or, map, ◌++◌}
use Rattle.std.proofs.lemmas.List.{get_or_default}
use Rattle.std.specs.Prelude.{◌⊎◌, ◌↔◌, Contains, filter, Option, None, Some}
use Rattle.std.specs.List.{list_any, list_all, range_with_len}
use Rattle.std.proofs.lemmas.Bool.{cases_Bool}
use Rattle.std.specs.FinMap.{nat_cmp-IsAntisymmetric}
use Rattle.std.specs.Ordering.{nat_cmp}
use Rattle.std.proofs.lemmas.Cmp.{nat_cmp_total}
use Rattle.gf_base.proofs.InsertLemmas.{holds}
use Rattle.gf_base.proofs.ListLemmas.{Contains-cons_cases, Contains-cons_head, Contains-cons_tail}
use Rattle.gf_base.proofs.ListLemmas.{not_Contains-nil}
use Rattle.gf_base.proofs.FilterLemmas.{list_any_true, list_any_false}
use Rattle.gf_base.proofs.FilterLemmas.{list_all_true, list_all_from}
use Rattle.gf_maximal.specs.Growing.{is_in, intersects, without, common, joined}
use Rattle.gf_maximal.specs.LargestSets.{IsLargest}
use Rattle.gf_maximal.specs.Parents.{met, cut, is_told, is_parent, next_cut}
use Rattle.gf_maximal.specs.Rows.{row, conflict, AreRows}
use Rattle.gf_maximal.specs.Cutting.{spared, keepers, IsAsked, AreDoubtful}
use Rattle.gf_maximal.proofs.MaximalLemmas.{in_list, from_list, not_in, out_of, intersects_one}
use Rattle.gf_maximal.proofs.MaximalLemmas.{intersects_from, Contains-without}
use Rattle.gf_maximal.proofs.PutLemmas.{Contains-range}
use Rattle.gf_maximal.proofs.RunSetLemmas.{bool_same}
use Rattle.gf_maximal.proofs.UnitedLemmas.{Contains-united}
use Rattle.gf_maximal.proofs.ParentLemmas.{told, is_told_from, Contains-common, far}

-- ---- what rows spare

pub in_spared : (rows : List (List ℕ)) (xs g : List ℕ) (a : ℕ) → Contains (spared rows g xs) a
    ↔ (Contains g a × ((b : ℕ) → Contains xs b → conflict rows b a ≡ false))
in_spared rows [] g a = (λ h. (h, λ b i. absurd (not_Contains-nil b i)), λ w. w.0)
in_spared rows (x ∷ xs) g a =
    let deep = in_spared rows xs (without (row rows x) g) a in
    let one = Contains-without (row rows x) g a in (
      λ h. let w = deep.0 h in let v = one.0 w.0 in (
        v.0,
        λ b i. elim (Contains-cons_cases x xs b i) [
          | inl e ↦ subst (λ z. conflict rows z a ≡ false) (sym e) (out_of (row rows x) a v.1)
          | inr j ↦ w.1 b j
        ],
      ),
      λ w. deep.1 (
        one.1 (w.0, not_in (row rows x) a (w.1 x (Contains-cons_head x xs))),
        λ b i. w.1 b (Contains-cons_tail x xs b i),
      ),
    )

-- ---- who is in doubt

module _ (rows : List (List ℕ)) (known : AreRows rows) (us d g : List ℕ) where
  -- what the rest lets in
  pub doubt_kept : (others kept found : List ℕ) → others ≡ without g us → kept ≡ without d g
      → found ≡ spared rows others kept → AreDoubtful (conflict rows) us d g found
  doubt_kept others kept found e f h =
      let in_found : (a : ℕ) → Contains found a ↔ ((Contains us a × (¬ (Contains g a)))
      × ((b : ℕ) → Contains (without d g) b → conflict rows b a ≡ false)) = λ a.
      let w = in_spared rows kept others a in (
        λ i. let v = w.0 (subst (λ z. Contains z a) h i) in (
          (Contains-without g us a).0 (subst (λ z. Contains z a) e v.0),
          λ b j. v.1 b (subst (λ z. Contains z b) (sym f) j),
        ),
        λ v. subst (λ z. Contains z a) (sym h) (w.1 (
          subst (λ z. Contains z a) (sym e) ((Contains-without g us a).1 v.0),
          λ b j. v.1 b (subst (λ z. Contains z b) f j),
        )),
      ) in
      record {
        within = λ a i. ((in_found a).0 i).0.0;
        others = λ a u n. is_told_from (conflict rows) d g a
            (elim (cases_Bool (is_in g a)) [
              | inl t ↦ inl (from_list g a t)
              | inr t ↦ elim (cases_Bool (list_any (conflict rows a) (without d g))) [
                | inl k ↦ inr (inl (list_any_true (conflict rows a) (without d g) k))
                | inr k ↦ absurd (n ((in_found a).1 (
                  (u, not_in g a t),
                  λ b j. known.symmetric b a
                      ∙ list_any_false (conflict rows a) (without d g) k b j,
                )))
              ]
            ]);
      }

  -- what conflicts with a number that is taken away
  pub doubt_gone : (others lost found : List ℕ)
      → IsLargest (conflict rows) (Contains us) (Contains g) → others ≡ without g us
      → lost ≡ common d g → found ≡ without (spared rows others lost) others
      → AreDoubtful (conflict rows) us d g found
  doubt_gone others lost found m e f h =
      let here : (a : ℕ) → Contains us a → ¬ (Contains g a) → Contains others a = λ a u n.
      subst (λ z. Contains z a) (sym e) ((Contains-without g us a).1 (u, n)) in
      let kept : (a : ℕ) → Contains found a → Contains others a = λ a i.
      ((Contains-without (spared rows others lost) others a).0 (subst (λ z. Contains z a) h i)).0 in
      record {
        within = λ a i. ((Contains-without g us a).0 (subst (λ z. Contains z a) e (kept a i))).0;
        others = λ a u n. is_told_from (conflict rows) d g a
            (elim (cases_Bool (is_in g a)) [
              | inl t ↦ inl (from_list g a t)
              | inr t ↦ elim (cases_Bool (is_in (spared rows others lost) a)) [
                | inl k ↦
                    let w = (in_spared rows lost others a).0
                    (from_list (spared rows others lost) a k) in
                    far (conflict rows) us d g m a u (λ v.
                    let no = w.1 v.0 (subst (λ z. Contains z v.0) (sym f) v.1) in
                    let yes = known.symmetric v.0 a ∙ v.2 in absurd cc)
                | inr k ↦ absurd (n (subst (λ z. Contains z a) (sym h)
                    ((Contains-without (spared rows others lost) others a).1
                    (here a u (not_in g a t), not_in (spared rows others lost) a k))))
              ]
            ]);
      }

-- ---- asking

module _ (c : ℕ → ℕ → Bool) (us d g xs beyond others : List ℕ) (doubt : AreDoubtful c us d g xs)
    (e : beyond ≡ without d xs) (f : others ≡ common d xs) where
  pub beyond_within : (a : ℕ) → Contains beyond a → Contains us a
  beyond_within a i =
      doubt.within a ((Contains-without d xs a).0 (subst (λ z. Contains z a) e i)).0

  pub others_within : (a : ℕ) → Contains others a → Contains us a
  others_within a i =
      doubt.within a ((Contains-common c us d xs a).0 (subst (λ z. Contains z a) f i)).0

  all_asked : list_all (is_told c d g) beyond ≡ true → list_all (is_told c d g) others ≡ true
      → list_all (is_told c d g) us ≡ true
  all_asked t k = list_all_from (is_told c d g) us (λ a u. elim (cases_Bool (is_in xs a)) [
    | inl i ↦ elim (cases_Bool (is_in d a)) [
      | inl j ↦ list_all_true (is_told c d g) others k a (subst (λ z. Contains z a) (sym f)
          ((Contains-common c us d xs a).1 (from_list xs a i, from_list d a j)))
      | inr j ↦ list_all_true (is_told c d g) beyond t a (subst (λ z. Contains z a) (sym e)
          ((Contains-without d xs a).1 (from_list xs a i, not_in d a j)))
    ]
    | inr n ↦ doubt.others a u (not_in xs a n)
  ])

  pub asked : (o : Option ℕ) → list_all (is_told c d g) beyond ≡ true → IsAsked c others d g o
      → IsAsked c us d g o
  asked None t k = all_asked t k
  asked (Some a) t w = (others_within a w.0, w.1)

-- ---- a witness

module _ (c : ℕ → ℕ → Bool) (d r : List ℕ) (a : ℕ) (same : (b : ℕ) → c a b ≡ is_in r b) where
  -- a number of the row keeps a out, unless it is taken away and is no lower one
  in_keepers : (b : ℕ) → Contains (keepers d r a) b
      ↔ (Contains r b × ((¬ (Contains d b)) ⊎ (Contains d a × (b < a))))
  in_keepers b = elim (cases_Bool (is_in d a)) [
    | inl t ↦
        let low = range_with_len 0 a in
        let in_low : Contains low b ↔ (b < a) = (
          λ h. let w = ((Contains-range a 0 b).0 h).1 in omega arith,
          λ l. (Contains-range a 0 b).1 (omega arith, omega arith),
        ) in
        let both = Contains-united (without d r) (common low r) b in
        let left = Contains-without d r b in
        let right = Contains-common c r low r b in
        rw t (
          λ h. elim (both.0 h) [
            | inl i ↦ let w = left.0 i in (w.0, inl w.1)
            | inr i ↦ let w = right.0 i in (w.0, inr (from_list d a t, in_low.0 w.1))
          ],
          λ w. both.1 (elim w.1 [
            | inl n ↦ inl (left.1 (w.0, n))
            | inr v ↦ inr (right.1 (w.0, in_low.1 v.1))
          ]),
        )
    | inr t ↦ let left = Contains-without d r b in rw t (
      λ h. let w = left.0 h in (w.0, inl w.1),
      λ w. left.1 (w.0, elim w.1 [ inl n ↦ n | inr v ↦ absurd (not_in d a t v.0) ]),
    )
  ]

  in_joined : (g : List ℕ) (b : ℕ) → Contains (joined a g) b ↔ (Contains g b ⊎ (b ≡ a))
  in_joined g b = holds nat_cmp nat_cmp_total nat_cmp-IsAntisymmetric a g b

  -- a set tells a if it has a or a number that keeps it out
  pub reached : (w g : List ℕ) → w ≡ joined a (keepers d r a) → intersects w g ≡ is_told c d g a
  reached w g e = rw e (bool_same (intersects (joined a (keepers d r a)) g) (is_told c d g a)
      (λ t.
      let o = intersects_one (joined a (keepers d r a)) g t in
      is_told_from c d g a (elim ((in_joined (keepers d r a) o.0).0 o.1) [
        | inl i ↦
            let v = (in_keepers o.0).0 i in
            let hit : c a o.0 ≡ true = same o.0 ∙ in_list r o.0 v.0 in
            inr (elim v.1 [
              | inl n ↦ inl (o.0, (Contains-without d g o.0).1 (o.2, n), hit)
              | inr k ↦ inr (k.0, (o.0, o.2, k.1, hit))
            ])
        | inr f ↦ inl (subst (Contains g) f o.2)
      ]))
      (λ t. elim (told c d g a t) [
        | inl i ↦ intersects_from (joined a (keepers d r a)) g a
            ((in_joined (keepers d r a) a).1 (inr refl)) i
        | inr k ↦ elim k [
          | inl v ↦
              let p = (Contains-without d g v.0).0 v.1 in
              intersects_from (joined a (keepers d r a)) g v.0
              ((in_joined (keepers d r a) v.0).1 (inl ((in_keepers v.0).1
              (from_list r v.0 (sym (same v.0) ∙ v.2), inl p.1)))) p.0
          | inr v ↦
              intersects_from (joined a (keepers d r a)) g v.1.0
              ((in_joined (keepers d r a) v.1.0).1 (inl ((in_keepers v.1.0).1
              (from_list r v.1.0 (sym (same v.1.0) ∙ v.1.3), inr (v.0, v.1.2))))) v.1.1
        ]
      ]))

-- ---- what calls leave

pub meet_told : (rows : List (List ℕ)) (n : ℕ) (us r d : List ℕ)
    (gs there mets found new : List (List ℕ)) → n < length rows → r ≡ get_or rows n r
    → d ≡ common r us → there ≡ gs → mets ≡ map (met d n) gs
    → found ≡ map (cut d n) (filter (is_parent (conflict rows) us d) there) → new ≡ mets ++ found
    → new ≡ next_cut (conflict rows) us (common (row rows n) us) n gs
meet_told rows n us r d gs there mets found new l read e f g h i =
    let d_is : d ≡ common (row rows n) us =
    e ∙ ap (λ z. common z us) (read ∙ get_or_default rows n r [] l) in
    let parts : new ≡ next_cut (conflict rows) us d n gs =
    i ∙ (ap (λ z. z ++ found) g ∙ ap (λ z. map (met d n) gs ++ z)
    (h ∙ ap (λ z. map (cut d n) (filter (is_parent (conflict rows) us d) z)) f)) in
    parts ∙ ap (λ z. next_cut (conflict rows) us z n gs) d_is
