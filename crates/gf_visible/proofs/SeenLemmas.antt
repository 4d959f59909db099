-- Sets that grow by numbers which cover none: what may not show any more never shows, and no set
-- that may show is lost.
use Rattle.std.proofs.Common.{◌≡◌, ◌≢◌, ℕ, ◌≤◌, Bool, true, false, not, List, [], ◌∷◌}
use Rattle.std.proofs.Common.{◌++◌, filter, length, inl, inr, refl, subst, sym, ap, ◌∙◌, arith}
use Rattle.std.specs.Prelude.{◌⊎◌, ◌↔◌, Contains}
use Rattle.std.specs.List.{list_any}
use Rattle.std.specs.FinMap.{nat_cmp-IsAntisymmetric}
use Rattle.std.specs.Ordering.{nat_cmp}
use Rattle.std.proofs.lemmas.Bool.{cases_Bool, cond-true, cond-false, or_cases, or_left, or_right}
use Rattle.std.proofs.lemmas.Bool.{not_from_false, not-true}
use Rattle.std.proofs.lemmas.Cmp.{nat_cmp_total}
use Rattle.std.proofs.lemmas.List.Elements.{filter-append, Contains-append_cases}
use Rattle.std.proofs.lemmas.List.Elements.{Contains-append_left, Contains-append_right}
use Rattle.std.proofs.lemmas.List.Kept.{AllPairs-filter}
use Rattle.std.proofs.lemmas.List.{append-nil}
use Rattle.std.proofs.lemmas.Map.Keys.{sorted_tail}
use Rattle.gf_base.proofs.FilterLemmas.{Contains-filter, list_any_true, list_any_from}
use Rattle.gf_base.proofs.FilterLemmas.{list_all_true, list_all_from}
use Rattle.gf_base.proofs.InsertLemmas.{inserted, holds}
use Rattle.gf_base.proofs.ListLemmas.{Contains-cons_head, Contains-cons_tail, Contains-cons_cases}
use Rattle.gf_base.proofs.ListLemmas.{not_Contains-nil}
use Rattle.gf_base.proofs.PairLemmas.{AllPairs-append}
use Rattle.gf_base.proofs.RisingLemmas.{below_from_less, below_tail, one_rising}
use Rattle.gf_maximal.specs.Growing.{joined, without, intersects}
use Rattle.gf_maximal.specs.LargestSets.{IsLargest, IsRising, AreLargestSets}
use Rattle.gf_maximal.specs.Parents.{met, cut, next_cut}
use Rattle.gf_maximal.proofs.GrowingLemmas.{Comes}
use Rattle.gf_maximal.proofs.LargestLemmas.{IsConflict, largest_alike}
use Rattle.gf_maximal.proofs.ListingLemmas.{largest_sets}
use Rattle.gf_maximal.proofs.MaximalLemmas.{Contains-without}
use Rattle.gf_maximal.proofs.ParentLemmas.{largest_next_cut}
use Rattle.gf_maximal.proofs.PartLemmas.{met_keeps_count, next_part}
use Rattle.gf_visible.specs.Choices.{AreShowing, IsCovered}
use Rattle.gf_visible.specs.Seen.{stands, seen, IsSeenPart, IsCalm}

-- the same numbers have the same largest sets
pub largest_sets_alike : (c : ℕ → ℕ → Bool) (us vs : List ℕ) (gs : List (List ℕ))
    → ((a : ℕ) → Contains us a ↔ Contains vs a) → AreLargestSets c us gs → AreLargestSets c vs gs
largest_sets_alike c us vs gs e t = record {
  each = λ g. (
    λ i. let w = (t.each g).0 i in (
      w.0,
      largest_alike c (Contains us) (Contains vs) (Contains g)
          (Contains g) e (λ a. (λ x. x, λ x. x)) w.1,
    ),
    λ w. (t.each g).1 (
      w.0,
      largest_alike c (Contains vs) (Contains us) (Contains g)
          (Contains g) (λ a. ((e a).1, (e a).0)) (λ a. (λ x. x, λ x. x)) w.1,
    ),
  );
  once = t.once;
}

module _ (covers c : ℕ → ℕ → Bool) (hs : List ℕ) where
  abbrev Seen : List ℕ → Bool
  Seen g = seen covers c hs g

  -- ---- what is seen

  -- one of two sets has all that covers or conflicts in the other
  seen_from : (g k : List ℕ) → ((h a : ℕ) → Contains hs h → Contains g a → covers h a ≡ true
      → Contains k a) → ((h a : ℕ) → Contains hs h → Contains g a → c h a ≡ true → Contains k a)
      → Seen g ≡ true → Seen k ≡ true
  seen_from g k f e t = list_all_from (stands covers c k) hs (λ h i.
      elim (or_cases (list_any (covers h) g) (list_any (c h) g)
      (list_all_true (stands covers c g) hs t h i)) [
        | inl y ↦ let w = list_any_true (covers h) g y in
            or_left (list_any (covers h) k) (list_any (c h) k)
            (list_any_from (covers h) k w.0 (f h w.0 i w.1 w.2) w.2)
        | inr y ↦ let w = list_any_true (c h) g y in
            or_right (list_any (covers h) k) (list_any (c h) k)
            (list_any_from (c h) k w.0 (e h w.0 i w.1 w.2) w.2)
      ])

  module _ (x : ℕ) (calm : IsCalm covers c hs x) where
    has : (g : List ℕ) (a : ℕ) → Contains (joined x g) a ↔ (Contains g a ⊎ (a ≡ x))
    has g a = holds nat_cmp nat_cmp_total nat_cmp-IsAntisymmetric x g a

    -- x itself covers none, and no rival of hs
    old_cover : (g : List ℕ) (h a : ℕ) → Contains (joined x g) a → covers h a ≡ true → Contains g a
    old_cover g h a i t = elim ((has g a).0 i) [
      | inl j ↦ j
      | inr e ↦ let n = calm.covers_none h in
          let y = subst (λ z. covers h z ≡ true) e t in absurd cc
    ]

    old_rival : (g : List ℕ) (h a : ℕ) → Contains hs h → Contains (joined x g) a → c h a ≡ true
        → Contains g a
    old_rival g h a i j t = elim ((has g a).0 j) [
      | inl k ↦ k
      | inr e ↦ let n = calm.apart h i in
          let y = subst (λ z. c h z ≡ true) e t in absurd cc
    ]

    joined_seen : (g : List ℕ) → Seen (joined x g) ≡ true → Seen g ≡ true
    joined_seen g t = seen_from (joined x g) g (λ h a i j y. old_cover g h a j y)
        (λ h a i j y. old_rival g h a i j y) t

    met_was_seen : (d g : List ℕ) → Seen (met d x g) ≡ true → Seen g ≡ true
    met_was_seen d g t = elim (cases_Bool (intersects d g)) [
      | inl y ↦ subst (λ z. Seen z ≡ true) (cond-true (intersects d g) g (joined x g) y) t
      | inr n ↦ joined_seen g
          (subst (λ z. Seen z ≡ true) (cond-false (intersects d g) g (joined x g) n) t)
    ]

    met_is_seen : (d g : List ℕ) → Seen g ≡ true → Seen (met d x g) ≡ true
    met_is_seen d g t = elim (cases_Bool (intersects d g)) [
      | inl y ↦ subst (λ z. Seen z ≡ true) (sym (cond-true (intersects d g) g (joined x g) y)) t
      | inr n ↦ subst (λ z. Seen z ≡ true) (sym (cond-false (intersects d g) g (joined x g) n))
          (seen_from g (joined x g) (λ h a i j y. (has g a).1 (inl j))
          (λ h a i j y. (has g a).1 (inl j)) t)
    ]

    cut_was_seen : (d g : List ℕ) → Seen (cut d x g) ≡ true → Seen g ≡ true
    cut_was_seen d g t = seen_from (without d g) g
        (λ h a i j y. ((Contains-without d g a).0 j).0)
        (λ h a i j y. ((Contains-without d g a).0 j).0) (joined_seen (without d g) t)

    -- ---- one number more

    module _ (s : IsConflict c) (us d all : List ℕ) (comes : Comes c us x d all)
        (rises : IsRising all) where
      pub part_next : (gs new : List (List ℕ)) → IsSeenPart covers c hs us gs
          → new ≡ filter (seen covers c hs) (next_cut c us d x gs)
          → IsSeenPart covers c hs all new
      part_next gs new p e = record {
        rises = rises;
        all = next_cut c us d x p.all;
        table = largest_next_cut c s us x d all comes p.all p.table;
        is = e ∙ (ap (λ z. filter Seen (next_cut c us d x z)) p.is
            ∙ next_part c us d x Seen Seen p.all (λ g i t. met_was_seen d g t)
            (λ g i t. cut_was_seen d g t));
      }

      -- they get no fewer
      longer : (gs : List (List ℕ)) → (p : IsSeenPart covers c hs us gs)
          → length gs ≤ length (filter Seen (next_cut c us d x p.all))
      longer gs p = subst (λ z. length z ≤ length (filter Seen (next_cut c us d x p.all))) (sym p.is)
          (met_keeps_count c us d x Seen p.all (λ g i t. met_is_seen d g t))

  -- ---- all numbers

  -- the head of a rising list is none of the rest
  pub not_head : (x : ℕ) (xs : List ℕ) → IsRising (x ∷ xs) → (y : ℕ) → Contains xs y → y ≢ x
  not_head x xs r y i e =
      let l = below_from_less x y (below_tail nat_cmp nat_cmp_total x xs r y i) in
      omega (arith, l, e)

  -- xs come behind us, one after the other
  module _ (s : IsConflict c) where
    pub all_parts : (xs us : List ℕ) → ((x : ℕ) → Contains xs x → IsCalm covers c hs x)
        → IsRising xs → ((x : ℕ) → Contains xs x → ¬ (Contains us x))
        → (gs : List (List ℕ)) → IsSeenPart covers c hs us gs
        → (all : List ℕ) × (fs : List (List ℕ)) × IsSeenPart covers c hs all fs
        × (length gs ≤ length fs)
        × ((a : ℕ) → Contains all a ↔ (Contains us a ⊎ Contains xs a))
    all_parts [] us calm once fresh gs p = (
      us,
      gs,
      p,
      omega arith,
      λ a. (λ i. inl i, λ w. elim w [ inl i ↦ i | inr n ↦ absurd (not_Contains-nil a n) ]),
    )
    all_parts (x ∷ xs) us calm once fresh gs p =
        let d = filter (c x) us in
        let here = Contains-cons_head x xs in
        let more : (a : ℕ) → Contains (joined x us) a ↔ (Contains us a ⊎ (a ≡ x)) = λ a.
        holds nat_cmp nat_cmp_total nat_cmp-IsAntisymmetric x us a in
        let comes : Comes c us x d (joined x us) = record {
          rising = p.rises;
          fresh = fresh x here;
          rivals = Contains-filter (c x) us;
          exactly = more;
        } in
        let rises = inserted nat_cmp nat_cmp_total nat_cmp-IsAntisymmetric x us p.rises in
        let new = filter Seen (next_cut c us d x p.all) in
        let q : IsSeenPart covers c hs (joined x us) new = record {
          rises = rises;
          all = next_cut c us d x p.all;
          table = largest_next_cut c s us x d (joined x us) comes p.all p.table;
          is = refl;
        } in
        let l = longer x (calm x here) s us d (joined x us) comes rises gs p in
        let rest = all_parts xs (joined x us) (λ y i. calm y (Contains-cons_tail x xs y i))
        (sorted_tail nat_cmp x xs once) (λ y i j. elim ((more y).0 j) [
          | inl k ↦ fresh y (Contains-cons_tail x xs y i) k
          | inr e ↦ not_head x xs once y i e
        ]) new q in
        let m = rest.3 in (
          rest.0,
          rest.1,
          rest.2,
          omega (arith, l, m),
          λ a. (
            λ i. elim ((rest.4 a).0 i) [
              | inl j ↦ elim ((more a).0 j) [
                | inl k ↦ inl k
                | inr e ↦ inr (subst (Contains (x ∷ xs)) (sym e) here)
              ]
              | inr j ↦ inr (Contains-cons_tail x xs a j)
            ],
            λ w. (rest.4 a).1 (elim w [
              | inl i ↦ inl ((more a).1 (inl i))
              | inr i ↦ elim (Contains-cons_cases x xs a i) [
                | inl e ↦ inl ((more a).1 (inr e))
                | inr j ↦ inr j
              ]
            ]),
          ),
        )

-- ---- what shows of all numbers

module _ (hides : ℕ → Bool) (covers c : ℕ → ℕ → Bool) (hs us : List ℕ) (hiders : (k : ℕ)
    → Contains hs k ↔ (Contains us k × (hides k ≡ true))) where
  -- of largest sets those are seen in which each number that hides is covered
  covered_of_seen : (g : List ℕ) → IsLargest c (Contains us) (Contains g)
      → seen covers c hs g ≡ true → IsCovered hides covers c g
  covered_of_seen g m t k i y =
      elim (or_cases (list_any (covers k) g) (list_any (c k) g)
      (list_all_true (stands covers c g) hs t k ((hiders k).1 (m.within k i, y)))) [
        | inl u ↦ list_any_true (covers k) g u
        | inr u ↦
            let w = list_any_true (c k) g u in
            let no = m.compatible k w.0 i w.1 in let yes = w.2 in absurd cc
      ]

  seen_of_covered : (g : List ℕ) → IsLargest c (Contains us) (Contains g)
      → IsCovered hides covers c g → seen covers c hs g ≡ true
  seen_of_covered g m f = list_all_from (stands covers c g) hs (λ k i.
      let w = (hiders k).0 i in
      elim (m.largest k w.0) [
        | inl j ↦ let v = f k j w.1 in
            or_left (list_any (covers k) g) (list_any (c k) g)
            (list_any_from (covers k) g v.0 v.1 v.2)
        | inr v ↦ or_right (list_any (covers k) g) (list_any (c k) g)
            (list_any_from (c k) g v.0 v.1 v.2)
      ])

  pub part_shows : (gs : List (List ℕ)) → IsSeenPart covers c hs us gs
      → AreShowing hides covers c us gs
  part_shows gs p = subst (AreShowing hides covers c us) (sym p.is) (record {
    exactly = λ g. (
      λ i.
          let w = (Contains-filter (seen covers c hs) p.all g).0 i in
          let m = (p.table.each g).0 w.0 in
          record { rises = m.0; largest = m.1; covered = covered_of_seen g m.1 w.1 },
      λ w. (Contains-filter (seen covers c hs) p.all g).1 (
        (p.table.each g).1 (w.rises, w.largest),
        seen_of_covered g w.largest w.covered,
      ),
    );
    once = AllPairs-filter (λ g k. g ≢ k) (seen covers c hs) p.all p.table.once;
  })

-- ---- where growth begins

all_kept : {X : Type 0} (p : X → Bool) (xs : List X) → ((x : X) → Contains xs x → p x ≡ true)
    → filter p xs ≡ xs
all_kept p [] f = refl
all_kept p (x ∷ xs) f =
    cond-true (p x) (x ∷ filter p xs) (filter p xs) (f x (Contains-cons_head x xs))
    ∙ ap (λ z. x ∷ z) (all_kept p xs (λ y i. f y (Contains-cons_tail x xs y i)))

none_kept : {X : Type 0} (p : X → Bool) (xs : List X)
    → filter p (filter (λ x. not (p x)) xs) ≡ []
none_kept p [] = refl
none_kept p (x ∷ xs) = elim (cases_Bool (p x)) [
  | inl t ↦ rw t (none_kept p xs)
  | inr n ↦ rw (n, n) (none_kept p xs)
]

-- numbers without a conflict have one largest set
pub part_of_calm : (covers c : ℕ → ℕ → Bool) (hs us : List ℕ) → IsRising us
    → ((a b : ℕ) → Contains us a → Contains us b → c a b ≡ false) → (gs : List (List ℕ))
    → gs ≡ filter (seen covers c hs) (us ∷ []) → IsSeenPart covers c hs us gs
part_of_calm covers c hs us rises calm gs e = record {
  rises = rises;
  all = us ∷ [];
  table = record {
    each = λ g. (
      λ i. elim (Contains-cons_cases us [] g i) [
        | inl same ↦ subst (λ z. IsRising z × IsLargest c (Contains us) (Contains z)) (sym same) (
          rises,
          record { within = λ a j. j; compatible = calm; largest = λ a j. inl j },
        )
        | inr n ↦ absurd (not_Contains-nil g n)
      ],
      λ w.
          let same = one_rising nat_cmp nat_cmp_total us g rises w.0 (λ a. (
            λ i. elim (w.1.largest a i) [
              | inl j ↦ j
              | inr v ↦ let no = calm a v.0 i (w.1.within v.0 v.1) in let yes = v.2 in absurd cc
            ],
            λ i. w.1.within a i,
          )) in
          subst (Contains (us ∷ [])) same (Contains-cons_head us []),
    );
    once = λ i j d l m. absurd (omega arith);
  };
  is = e;
}

-- the sets that show, of numbers among which are all that hide
module _ (hides : ℕ → Bool) (covers c : ℕ → ℕ → Bool) (s : IsConflict c) (hs us : List ℕ)
    (rises : IsRising us) (hiders : (k : ℕ) → Contains hs k ↔ (Contains us k × (hides k ≡ true)))
  where
    pub part_of_showing : (gs : List (List ℕ)) → AreShowing hides covers c us gs
        → IsSeenPart covers c hs us gs
    part_of_showing gs t = record {
      rises = rises;
      all = gs ++ others;
      table = record {
        each = λ g. (
          λ i. elim (Contains-append_cases gs others g i) [
            | inl j ↦ let w = (t.exactly g).0 j in (w.rises, w.largest)
            | inr j ↦ (table.each g).0 ((Contains-filter unseen all_sets.0 g).0 j).0
          ],
          λ w. elim (cases_Bool (seen covers c hs g)) [
            | inl y ↦ Contains-append_left gs others g ((t.exactly g).1 (record {
              rises = w.0;
              largest = w.1;
              covered = covered_of_seen hides covers c hs us hiders g w.1 y;
            }))
            | inr n ↦ Contains-append_right gs others g
                ((Contains-filter unseen all_sets.0 g).1
                ((table.each g).1 w, not_from_false (seen covers c hs g) n))
          ],
        );
        once = AllPairs-append (λ g k. g ≢ k) gs others t.once
            (AllPairs-filter (λ g k. g ≢ k) unseen all_sets.0 table.once)
            (λ g k i j e. differ g k i j e);
      };
      is = sym (filter-append (seen covers c hs) gs others
          ∙ (ap (λ z. z ++ filter (seen covers c hs) others)
          (all_kept (seen covers c hs) gs (λ g i. is_seen g i))
          ∙ (ap (λ z. gs ++ z) (none_kept (seen covers c hs) all_sets.0) ∙ append-nil gs)));
    }
      where
        all_sets : (fs : List (List ℕ)) × AreLargestSets c us fs
        all_sets = largest_sets c s us rises

        table : AreLargestSets c us all_sets.0
        table = all_sets.1

        unseen : List ℕ → Bool
        unseen g = not (seen covers c hs g)

        others : List (List ℕ)
        others = filter unseen all_sets.0

        is_seen : (g : List ℕ) → Contains gs g → seen covers c hs g ≡ true
        is_seen g i = let w = (t.exactly g).0 i in
            seen_of_covered hides covers c hs us hiders g w.largest w.covered

        differ : (g k : List ℕ) → Contains gs g → Contains others k → g ≢ k
        differ g k i j e =
            let y = is_seen g i in
            let n = ((Contains-filter unseen all_sets.0 k).0 j).1 in
            let z : seen covers c hs k ≡ true = subst (λ z. seen covers c hs z ≡ true) e y in
            absurd (let u = z in let v = not-true (seen covers c hs k) n in cc)
