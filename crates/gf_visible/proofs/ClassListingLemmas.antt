-- The sets that show of all classes, from those of the classes that were met first.
use Rattle.std.proofs.Common.{◌≡◌, ℕ, ◌+◌, ◌^◌, ◌≤◌, ◌<◌, Bool, true, List, [], ◌∷◌, filter, get_or, length}
use Rattle.std.proofs.Common.{take, inl, inr, not, refl, subst, sym, ap, ◌∙◌, arith}
use Rattle.std.specs.Prelude.{◌⊎◌, ◌↔◌, Contains, Option, Some, None}
use Rattle.std.specs.Ordering.{nat_cmp}
use Rattle.std.proofs.lemmas.Bool.{cases_Bool}
use Rattle.std.proofs.lemmas.List.{length-take, take_all}
use Rattle.std.proofs.lemmas.List.Elements.{Contains-get_or}
use Rattle.std.proofs.lemmas.List.Kept.{IsStrictlySortedBy-filter}
use Rattle.gf_base.proofs.FilterLemmas.{Contains-filter}
use Rattle.gf_maximal.specs.Growing.{is_in, without}
use Rattle.gf_maximal.specs.LargestSets.{IsRising}
use Rattle.gf_maximal.specs.Rows.{AreRows, conflict}
use Rattle.gf_maximal.proofs.MaximalLemmas.{Contains-without, from_list, not_in}
use Rattle.gf_ops.specs.OperationOrder.{IsSite}
use Rattle.gf_visible.specs.Choices.{AreShowing, showing}
use Rattle.gf_visible.specs.ClassListing.{AreDeciding, AreHiders, IsLead}
use Rattle.gf_visible.specs.ClassSays.{TimelineState, are_sides, covers, hides, is_deciding}
use Rattle.gf_visible.specs.ClassSays.{is_other, said}
use Rattle.gf_visible.specs.Seen.{seen, HasMoreParts, IsPartListing, IsPartOf, MayBeMet}
use Rattle.gf_visible.specs.ShownSets.{HasMoreShowing, IsShowingListing}
use Rattle.gf_visible.proofs.PartialLemmas.{first_met, more_met, rows_test}
use Rattle.gf_visible.proofs.SeenLemmas.{largest_sets_alike, part_of_calm, part_of_showing}
use Rattle.gf_visible.proofs.SeenLemmas.{part_shows}
use Rattle.gf_visible.proofs.ShowingLemmas.{showing_all}
use Rattle.gf_visible.proofs.TimelineLemmas.{hiders_decide, rest_calm, sides_apart, sides_calm}

-- numbers below a length that fits
pub fitting : (n m : ℕ) → n < m → (xs : List ℕ) → ((a : ℕ) → Contains xs a → a < n)
    → (k d : ℕ) → k < length xs → get_or xs k d + 1 < m
fitting n m fits xs below k d l =
    let w = below (get_or xs k d) (Contains-get_or xs k d l) in omega (arith, fits, w)

-- ---- those that hide

pub are_hiders : (t : TimelineState) (used hs : List ℕ) → IsRising used
    → ((k : ℕ) → Contains used k → k < length t.rows)
    → ((k : ℕ) → Contains used k → hides t.says k ≡ true → IsSite (said t.says k).site)
    → hs ≡ filter (hides t.says) used → AreHiders t used hs
are_hiders t used hs rises below sites e =
    let exactly : (k : ℕ) → Contains hs k ↔ (Contains used k × (hides t.says k ≡ true)) = λ k. (
      λ i. (Contains-filter (hides t.says) used k).0 (subst (λ z. Contains z k) e i),
      λ w. subst (λ z. Contains z k) (sym e) ((Contains-filter (hides t.says) used k).1 w),
    ) in
    record {
      rises = rises;
      below = below;
      exactly = exactly;
      sites = λ k i. let w = (exactly k).0 i in sites k w.0 w.1;
    }

-- some of rising numbers
pub some_rise : (p : ℕ → Bool) (us found : List ℕ) → found ≡ filter p us → IsRising us
    → IsRising found
some_rise p us found e r = subst IsRising (sym e) (IsStrictlySortedBy-filter nat_cmp p us r)

pub some_within : (p : ℕ → Bool) (us found : List ℕ) → found ≡ filter p us → (a : ℕ)
    → Contains found a → Contains us a
some_within p us found e a i = ((Contains-filter p us a).0 (subst (λ z. Contains z a) e i)).0

module _ (t : TimelineState) (known : AreRows t.rows) (used hs : List ℕ)
    (all : AreHiders t used hs) where
  abbrev c : ℕ → ℕ → Bool
  c = conflict t.rows

  module _ (us : List ℕ) (gs : List (List ℕ)) (lead : IsLead t used hs us gs) (vs : List ℕ)
      (rest : vs ≡ without us used) where
    in_rest : (a : ℕ) → Contains vs a ↔ (Contains used a × (¬ (Contains us a)))
    in_rest a =
        let w = Contains-without us used a in (
          λ i. w.0 (subst (λ z. Contains z a) rest i),
          λ v. subst (λ z. Contains z a) (sym rest) (w.1 v),
        )

    pub rest_may : IsRising vs
        → MayBeMet (covers t.says) (conflict t.rows) hs us vs (length t.rows)
    rest_may rises = record {
      rises = rises;
      fresh = λ a i. ((in_rest a).0 i).1;
      calm = λ a i. let w = (in_rest a).0 i in lead.calm a w.0 w.1;
      below = λ a w. elim w [
        | inl i ↦ all.below a (lead.within a i)
        | inr i ↦ all.below a ((in_rest a).0 i).0
      ];
    }

    -- what was met and the rest are all
    is_all : (a : ℕ) → (Contains us a ⊎ Contains vs a) ↔ Contains used a
    is_all a = (
      λ w. elim w [ inl i ↦ lead.within a i | inr i ↦ ((in_rest a).0 i).0 ],
      λ i. elim (cases_Bool (is_in us a)) [
        | inl y ↦ inl (from_list us a y)
        | inr n ↦ inr ((in_rest a).1 (i, not_in us a n))
      ],
    )

    shows_all : (fs : List (List ℕ)) → IsPartOf (covers t.says) (conflict t.rows) hs us vs fs
        → AreShowing (hides t.says) (covers t.says) (conflict t.rows) used fs
    shows_all fs p = part_shows (hides t.says) (covers t.says) c hs used all.exactly fs (record {
      rises = all.rises;
      all = p.part.all;
      table = largest_sets_alike c p.all used p.part.all (λ a. (
        λ i. (is_all a).0 ((p.exactly a).0 i),
        λ i. (p.exactly a).1 ((is_all a).1 i),
      )) p.part.table;
      is = p.part.is;
    })

    pub more_shown : (m : ℕ) → HasMoreParts (covers t.says) (conflict t.rows) hs us vs m
        → HasMoreShowing (hides t.says) (covers t.says) (conflict t.rows) used m
    more_shown m w = record { sets = w.sets; all = shows_all w.sets w.part; many = w.many }

    pub listing_told : (m : ℕ) (found : Option (List (List ℕ)))
        → IsPartListing (covers t.says) (conflict t.rows) hs us vs m found
        → IsShowingListing (hides t.says) (covers t.says) (conflict t.rows) used m found
    listing_told m (Some fs) w = (shows_all fs w.0, w.1)
    listing_told m None w = more_shown m w

  -- ---- two sides

  pub lead_of_sides : (us : List ℕ) → us ≡ filter (is_other t.rows t.says hs) used
      → are_sides t.rows t.says hs us ≡ true → (gs : List (List ℕ))
      → gs ≡ filter (seen (covers t.says) (conflict t.rows) hs) (us ∷ [])
      → IsLead t used hs us gs
  lead_of_sides us e sides gs d = record {
    part = part_of_calm (covers t.says) c hs us
        (some_rise (is_other t.rows t.says hs) used us e all.rises)
        (λ a b i j. sides_apart t.rows known t.says hs used us sides a b i j) gs d;
    within = some_within (is_other t.rows t.says hs) used us e;
    calm = λ a i out. sides_calm t.rows known t.says hs used us sides e a i out;
  }

  -- ---- a search

  pub are_deciding : (ds : List ℕ) → ds ≡ filter (is_deciding t.rows t.says hs) used
      → length t.rows < 2 ^ 64 → AreDeciding t used hs ds
  are_deciding ds is fits = record {
    is = is;
    rises = some_rise (is_deciding t.rows t.says hs) used ds is all.rises;
    bounded = fitting (length t.rows) 18446744073709551616 fits ds
        (λ a i. all.below a (some_within (is_deciding t.rows t.says hs) used ds is a i));
  }

  module _ (ds : List ℕ) (decide : AreDeciding t used hs ds) (h : hs ≡ filter (hides t.says) used)
    where
      abbrev choices : List (List ℕ)
      choices = showing (hides t.says) (covers t.says) c ds

      lead_of_showing : (gs : List (List ℕ))
          → AreShowing (hides t.says) (covers t.says) (conflict t.rows) ds gs
          → IsLead t used hs ds gs
      lead_of_showing gs w = record {
        part = part_of_showing (hides t.says) (covers t.says) c (rows_test t.rows known) hs ds
            decide.rises (hiders_decide t.rows known t.says hs used ds decide.is h) gs w;
        within = some_within (is_deciding t.rows t.says hs) used ds decide.is;
        calm = λ a i out. rest_calm t.rows known t.says hs used ds decide.is a i out;
      }

      all_choices : AreShowing (hides t.says) (covers t.says) (conflict t.rows) ds
          (showing (hides t.says) (covers t.says) (conflict t.rows) ds)
      all_choices = showing_all (hides t.says) (covers t.says) c known.symmetric known.alone ds
          decide.rises

      module _ (m : ℕ) (finds : List (List ℕ)) (e : finds
          ≡ take (m + 1) (showing (hides t.says) (covers t.says) (conflict t.rows) ds)) where
        pub search_more : m < length finds
            → HasMoreShowing (hides t.says) (covers t.says) (conflict t.rows) used m
        search_more l =
            let len = ap length e ∙ length-take (m + 1) choices in
            let lead = lead_of_showing choices all_choices in
            let rest = without ds used in
            let rises = IsStrictlySortedBy-filter nat_cmp (λ a. not (is_in ds a)) used all.rises in
            let may = rest_may ds choices lead rest refl rises in
            more_shown ds choices lead rest refl m
            (more_met (covers t.says) t.rows known hs ds rest (length t.rows) may ds rest choices m
            (first_met (covers t.says) t.rows known hs ds rest (length t.rows) may choices lead.part)
            (omega (arith, l, len)))

        pub search_lead : length finds ≤ m → IsLead t used hs ds finds
        search_lead l =
            let len = ap length e ∙ length-take (m + 1) choices in
            let few : length choices ≤ m + 1 = omega (arith, l, len) in
            subst (IsLead t used hs ds) (sym (e ∙ take_all (m + 1) choices few))
            (lead_of_showing choices all_choices)
