-- How far the operations reach that a clock counts or a site made, and that exactly those up to
-- there are known.
use Rattle.std.proofs.Common.{◌≡◌, ◌≢◌, ℕ, zero, suc, ◌+◌, ◌≤◌, ◌<◌, true, false, List, []}
use Rattle.std.proofs.Common.{◌∷◌, ◌++◌, filter, length, take, get_or, refl, sym, ap, subst, ◌∙◌}
use Rattle.std.proofs.Common.{inl, inr, arith}
use Rattle.std.specs.Prelude.{◌⊎◌, Contains, max, nat_eq, nat_le}
use Rattle.std.proofs.lemmas.Bool.{cases_Bool, cases_eq, cases_lt, eq-eqb, eqb-true, le-leb}
use Rattle.std.proofs.lemmas.Bool.{leb-true}
use Rattle.std.proofs.lemmas.Bool.{or_cases, or_left, or_right}
use Rattle.std.proofs.lemmas.List.{take_more}
use Rattle.std.proofs.lemmas.List.Elements.{Contains-append_left, Contains-get_or, Contains-push}
use Rattle.std.proofs.lemmas.List.Elements.{Contains-push_cases}
use Rattle.gf_base.proofs.FilterLemmas.{Contains-filter}
use Rattle.gf_base.proofs.ListLemmas.{not_Contains-nil}
use Rattle.gf_ops.specs.declared.op.Op.{Op}
use Rattle.gf_ops.specs.declared.op.Clock.{Clock}
use Rattle.gf_ops.specs.Accepted.{AreAccepted, IsAccepted}
use Rattle.gf_ops.specs.OperationOrder.{IsSite, Precedes, count_of, entry}
use Rattle.gf_ops.specs.ValidHistory.{IsValid}
use Rattle.gf_ops.proofs.CountedLemmas.{number_counted}
use Rattle.gf_ops.proofs.HistoryLemmas.{seq_in_range, site_in_range}
use Rattle.gf_ops.proofs.ValidityLemmas.{same_op}
use Rattle.gf_causal.proofs.CourseLemmas.{same_id}
use Rattle.gf_take.specs.Bases.{IsBase, IsKnownTo, IsOwnOrCounted}
use Rattle.gf_take.specs.Reaching.{AreReached, IsReach, ReachesTo, is_counted, is_own_or_counted, reach_at}
use Rattle.gf_take.proofs.KeptLemmas.{kept_accepted, kept_more, kept_same, next_kept}
use Rattle.gf_take.proofs.PartLemmas.{known_before}

-- ---- the reach of one more operation

module _ (s : ℕ) (c : Clock) (t : ℕ) where
  reached_more : (h : List Op) (a : Op) (n : ℕ) → ReachesTo s c t h n
      → ReachesTo s c t (h ++ a ∷ []) n
  reached_more h a n r = record {
    op = r.op;
    contained = Contains-append_left h (a ∷ []) r.op r.contained;
    counted = r.counted;
    reach = r.reach;
  }

  pub reach_same : (h : List Op) (a : Op) (n : ℕ) → IsReach s c t h n → is_own_or_counted s c a ≡ false
      → IsReach s c t (h ++ a ∷ []) n
  reach_same h a n r other = record {
    most = λ x m counted. elim (Contains-push_cases h a x m) [
      | inl k ↦ r.most x k counted
      | inr e ↦ let f : is_own_or_counted s c x ≡ false = subst (λ y. is_own_or_counted s c y ≡ false) e other in
          absurd cc
    ];
    least = elim r.least [ inl e ↦ inl e | inr w ↦ inr (reached_more h a n w) ];
  }

  pub reach_more : (h : List Op) (a : Op) (n m : ℕ) → IsReach s c t h n → is_own_or_counted s c a ≡ true
      → n ≤ m → reach_at t a ≤ m → (m ≡ n) ⊎ (m ≡ reach_at t a) → IsReach s c t (h ++ a ∷ []) m
  reach_more h a n m r counted l k e = record {
    most = λ x i u. elim (Contains-push_cases h a x i) [
      | inl j ↦ let q = r.most x j u in omega arith
      | inr q ↦ subst (λ y. reach_at t y ≤ m) q k
    ];
    least = elim e [
      | inl same ↦ elim r.least [
        | inl q ↦ inl (same ∙ q)
        | inr w ↦ inr (subst (ReachesTo s c t (h ++ a ∷ [])) (sym same) (reached_more h a n w))
      ]
      | inr same ↦ inr (record {
        op = a;
        contained = Contains-push h a;
        counted = counted;
        reach = omega arith;
      })
    ];
  }

  -- and of one more item of a list
  module _ (h : List Op) (i : ℕ) (a : Op) (within : i < length h) (is : a ≡ get_or h i a) where
    item_more : take (i + 1) h ≡ take i h ++ a ∷ []
    item_more = take_more h i a within ∙ ap (λ y. take i h ++ y ∷ []) (sym is)

    pub reach_item_same : (n : ℕ) → IsReach s c t (take i h) n → is_own_or_counted s c a ≡ false
        → IsReach s c t (take (i + 1) h) n
    reach_item_same n r other =
        subst (λ l. IsReach s c t l n) (sym item_more) (reach_same (take i h) a n r other)

    pub reach_item_more : (n m : ℕ) → IsReach s c t (take i h) n → is_own_or_counted s c a ≡ true → n ≤ m
        → reach_at t a ≤ m → (m ≡ n) ⊎ (m ≡ reach_at t a) → IsReach s c t (take (i + 1) h) m
    reach_item_more n m r counted l k e =
        subst (λ l. IsReach s c t l m) (sym item_more) (reach_more (take i h) a n m r counted l k e)

-- the greater of two numbers is one of them
pub one_of_two : (a b m : ℕ) → m ≡ max a b → (m ≡ b) ⊎ (m ≡ a)
one_of_two a b m e = elim (cases_lt a b) [
  | inl l ↦ inl (grind (arith))
  | inr l ↦ inr (grind (arith))
]

-- ---- what is counted is known

reach_own : (t : ℕ) (x : Op) → nat_eq x.id.site t ≡ true → reach_at t x ≡ x.id.seq
reach_own t x e = rw e refl

reach_other : (t : ℕ) (x : Op) → nat_eq x.id.site t ≡ false → reach_at t x ≡ entry x.past t
reach_other t x e = rw e refl

module _ (s : ℕ) (c : Clock) where
  own_or_counted_told : (x : Op) → is_own_or_counted s c x ≡ true → IsOwnOrCounted s c x
  own_or_counted_told x t = elim (or_cases (nat_eq x.id.site s) (nat_le x.id.seq (entry c x.id.site)) t) [
    | inl e ↦ inr (eqb-true x.id.site s e)
    | inr l ↦ inl (leb-true x.id.seq (entry c x.id.site) l)
  ]

  own_or_counted_true : (x : Op) → IsOwnOrCounted s c x → is_own_or_counted s c x ≡ true
  own_or_counted_true x (inl l) = or_right _ _ (le-leb x.id.seq (entry c x.id.site) l)
  own_or_counted_true x (inr e) = or_left _ _ (eq-eqb x.id.site s e)

  module _ (h : List Op) (valid : IsValid h) (reach : Clock)
      (reached : AreReached s c h reach) where
    site_of : (a : Op) → Contains h a → IsSite a.id.site
    site_of a m = site_in_range a (valid.in_range a m)

    -- what an operation reaches is this one, or comes before it
    reached_known : (a x : Op) → Contains h a → Contains h x → a.id.seq ≤ reach_at a.id.site x
        → (a ≡ x) ⊎ Precedes a x
    reached_known a x m n l = elim (cases_Bool (nat_eq x.id.site a.id.site)) [
      | inl e ↦
          let site = eqb-true x.id.site a.id.site e in
          let most : a.id.seq ≤ x.id.seq =
          subst (λ k. a.id.seq ≤ k) (reach_own a.id.site x e) l in
          let own : entry x.past a.id.site + 1 ≡ x.id.seq =
          subst (λ t. entry x.past t + 1 ≡ x.id.seq) site (valid.own x n) in
          elim (cases_lt a.id.seq x.id.seq) [
            | inl less ↦ inr (omega arith)
            | inr more ↦ inl (same_op h valid a x m n (same_id a x (sym site) (omega arith)))
          ]
      | inr e ↦ inr (subst (λ k. a.id.seq ≤ k) (reach_other a.id.site x e) l)
    ]

    known_reached : (a x : Op) → Contains h x → (a ≡ x) ⊎ Precedes a x
        → a.id.seq ≤ reach_at a.id.site x
    known_reached a x n (inl e) =
        subst (λ (y : Op). a.id.seq ≤ reach_at a.id.site y) e
        (subst (λ k. a.id.seq ≤ k) (sym (reach_own a.id.site a (eq-eqb a.id.site a.id.site refl)))
        (omega arith))
    known_reached a x n (inr before) = elim (cases_Bool (nat_eq x.id.site a.id.site)) [
      | inl e ↦
          let site = eqb-true x.id.site a.id.site e in
          let own : entry x.past a.id.site + 1 ≡ x.id.seq =
          subst (λ t. entry x.past t + 1 ≡ x.id.seq) site (valid.own x n) in
          subst (λ k. a.id.seq ≤ k) (sym (reach_own a.id.site x e)) (omega arith)
      | inr e ↦ subst (λ k. a.id.seq ≤ k) (sym (reach_other a.id.site x e)) before
    ]

    pub counted_known : (a : Op) → Contains h a → is_counted reach a ≡ true → IsKnownTo s c h a
    counted_known a m t =
        let l = leb-true a.id.seq (entry reach a.id.site) t in
        let first = (seq_in_range a (valid.in_range a m)).0 in
        elim ((reached a.id.site (site_of a m)).least) [
          | inl e ↦ absurd (omega arith)
          | inr w ↦
              let q = w.reach in
              record {
                contained = m;
                counted = w.op;
                there = w.contained;
                is_own_or_counted = own_or_counted_told w.op w.counted;
                known = reached_known a w.op m w.contained (omega arith);
              }
        ]

    pub known_counted : (a : Op) → IsKnownTo s c h a → is_counted reach a ≡ true
    known_counted a k =
        let most = (reached a.id.site (site_of a k.contained)).most k.counted k.there
        (own_or_counted_true k.counted k.is_own_or_counted) in
        let l = known_reached a k.counted k.there k.known in
        le-leb a.id.seq (entry reach a.id.site) (omega arith)

    -- what comes before an operation that is counted is counted
    pub counted_closed : (a x : Op) → Contains h a → Contains h x → is_counted reach a ≡ true
        → Precedes x a → is_counted reach x ≡ true
    counted_closed a x m n t before =
        known_counted x (known_before s c h valid a x (counted_known a m t) n before)

    -- what is counted of the history is its base
    pub counted_base : AreAccepted h → IsBase s c h (filter (is_counted reach) h)
    counted_base run = record {
      exactly = λ a. (
        λ m. let f = (Contains-filter (is_counted reach) h a).0 m in counted_known a f.0 f.1,
        λ k. (Contains-filter (is_counted reach) h a).1 (k.contained, known_counted a k),
      );
      accepted = kept_accepted h valid (is_counted reach) counted_closed run (λ x m. m);
    }

  -- a history is its own base where the clock counts all operations of each other site
  pub whole_base : (h : List Op) → IsValid h → AreAccepted h
      → ((t : ℕ) → IsSite t → t ≢ s → count_of h t ≤ entry c t) → IsBase s c h h
  whole_base h valid run all = record {
    exactly = λ a. (
      λ m. record {
        contained = m;
        counted = a;
        there = m;
        is_own_or_counted = elim (cases_eq a.id.site s) [
          | inl own ↦ inr own
          | inr other ↦
              let most = number_counted h valid a m in
              let counted = all a.id.site (site_in_range a (valid.in_range a m)) other in
              inl (omega (arith, most, counted))
        ];
        known = inl refl;
      },
      λ k. k.contained,
    );
    accepted = run;
  }

-- ---- one item of the history

pub item_site : (h : List Op) → IsValid h → (i : ℕ) (a : Op) → i < length h → a ≡ get_or h i a
    → IsSite a.id.site
item_site h valid i a within is =
    site_in_range a (valid.in_range a (subst (Contains h) (sym is) (Contains-get_or h i a within)))

module _ (s : ℕ) (c : Clock) (h : List Op) (valid : IsValid h) (reach : Clock)
    (reached : AreReached s c h reach) (i : ℕ) (a : Op) (within : i < length h)
    (is : a ≡ get_or h i a) where
  pub item_accepted : AreAccepted h → is_counted reach a ≡ true
      → IsAccepted (filter (is_counted reach) (take i h)) a
  item_accepted run t =
      subst (IsAccepted (filter (is_counted reach) (take i h))) (sym is)
      (next_kept h valid (is_counted reach) (counted_closed s c h valid reach reached) run i a
      within
      (subst (λ x. is_counted reach x ≡ true) is t))

  pub item_counted : is_counted reach a ≡ true → filter (is_counted reach) (take (i + 1) h)
      ≡ filter (is_counted reach) (take i h) ++ a ∷ []
  item_counted t =
      ap (filter (is_counted reach)) (item_more s c 1 h i a within is)
      ∙ kept_more (is_counted reach) (take i h) a t

  pub item_left : is_counted reach a ≡ false → filter (is_counted reach) (take (i + 1) h)
      ≡ filter (is_counted reach) (take i h)
  item_left t =
      ap (filter (is_counted reach)) (item_more s c 1 h i a within is)
      ∙ kept_same (is_counted reach) (take i h) a t

-- a clock of eight reaches
pub eight : (P : ℕ → ℕ → Type 0) (a b c d e f g h : ℕ) → P 1 a → P 2 b → P 3 c → P 4 d → P 5 e
    → P 6 f → P 7 g → P 8 h → (t : ℕ) → IsSite t
    → P t (entry (record { 0 = a ∷ b ∷ c ∷ d ∷ e ∷ f ∷ g ∷ h ∷ [] }) t)
eight P a b c d e f g h p q r u v w x y (suc zero) i = p
eight P a b c d e f g h p q r u v w x y (suc (suc zero)) i = q
eight P a b c d e f g h p q r u v w x y (suc (suc (suc zero))) i = r
eight P a b c d e f g h p q r u v w x y (suc (suc (suc (suc zero)))) i = u
eight P a b c d e f g h p q r u v w x y (suc (suc (suc (suc (suc zero))))) i = v
eight P a b c d e f g h p q r u v w x y (suc (suc (suc (suc (suc (suc zero)))))) i = w
eight P a b c d e f g h p q r u v w x y (suc (suc (suc (suc (suc (suc (suc zero))))))) i = x
eight P a b c d e f g h p q r u v w x y (suc (suc (suc (suc (suc (suc (suc (suc zero)))))))) i = y
eight P a b c d e f g h p q r u v w x y t i = let l = i.0 in let m = i.1 in absurd (omega arith)

-- of no operations nothing is reached
pub nothing_reached : (s : ℕ) (c : Clock)
    → AreReached s c [] (record { 0 = 0 ∷ 0 ∷ 0 ∷ 0 ∷ 0 ∷ 0 ∷ 0 ∷ 0 ∷ [] })
nothing_reached s c =
    eight (λ t n. IsReach s c t [] n) 0 0 0 0 0 0 0 0 (none 1) (none 2) (none 3) (none 4) (none 5)
    (none 6) (none 7) (none 8)
  where
    none : (t : ℕ) → IsReach s c t [] 0
    none t = record { most = λ x m. absurd (not_Contains-nil x m); least = inl refl }
