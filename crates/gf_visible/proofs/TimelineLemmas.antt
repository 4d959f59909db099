-- What classes say of each other, told of the numbers that stand for them.
use Rattle.std.proofs.Common.{◌≡◌, ℕ, zero, suc, ◌-◌, ◌<◌, Bool, true, false, not, max, List, []}
use Rattle.std.proofs.Common.{◌∷◌, filter, fold, get_or, length, inl, inr, refl, subst, sym, ap, ◌∙◌, arith}
use Rattle.std.specs.Prelude.{◌↔◌, ◌||◌, ◌&&◌, nat_lt, nat_le, Contains, slice_index_or}
use Rattle.std.specs.List.{list_any, list_all}
use Rattle.std.proofs.lemmas.Bool.{cases_Bool, or_cases, or_left, or_right, and_parts, leb-true}
use Rattle.std.proofs.lemmas.Bool.{le-leb, ltb-true, lt-ltb, not-true, cases_lt, and_from}
use Rattle.std.proofs.lemmas.Bool.{not_from_false}
use Rattle.std.proofs.lemmas.List.{get_or_past}
use Rattle.std.proofs.lemmas.List.Elements.{Contains-get_or}
use Rattle.gf_base.proofs.FilterLemmas.{Contains-filter}
use Rattle.gf_base.proofs.FilterLemmas.{list_any_false, list_all_true}
use Rattle.gf_base.proofs.ListLemmas.{Contains-cons_head, Contains-cons_tail}
use Rattle.gf_maximal.specs.Growing.{is_in, intersects}
use Rattle.gf_maximal.specs.Rows.{row, conflict, AreRows}
use Rattle.gf_maximal.proofs.MaximalLemmas.{in_list, from_list, out_of}
use Rattle.gf_maximal.proofs.MaximalLemmas.{intersects_none}
use Rattle.gf_maximal.proofs.RunSetLemmas.{bool_same}
use Rattle.gf_ops.specs.declared.op.Clock.{Clock}
use Rattle.gf_ops.specs.OperationOrder.{IsSite, entry}
use Rattle.gf_visible.specs.declared.says.Says.{Says}
use Rattle.gf_visible.specs.ClassSays.{are_calm, are_sides, covers, greater, hides, is_after}
use Rattle.gf_visible.specs.ClassSays.{is_deciding, is_other, known_in, knows_some, matters}
use Rattle.gf_visible.specs.ClassSays.{no_clock, either_clock, said}
use Rattle.gf_visible.specs.Seen.{IsCalm, seen, stands}

-- nothing meets the set of none
pub none_meets : (g : List ℕ) → intersects [] g ≡ false
none_meets [] = refl
none_meets (a ∷ g) = none_meets g

-- ---- clocks

-- the entries of what either clock knows
entry_greater : (c d : Clock) (i : ℕ) → i < 8
    → slice_index_or (either_clock c d).0 i 0 ≡ greater c d i
entry_greater c d zero l = refl
entry_greater c d (suc zero) l = refl
entry_greater c d (suc (suc zero)) l = refl
entry_greater c d (suc (suc (suc zero))) l = refl
entry_greater c d (suc (suc (suc (suc zero)))) l = refl
entry_greater c d (suc (suc (suc (suc (suc zero))))) l = refl
entry_greater c d (suc (suc (suc (suc (suc (suc zero)))))) l = refl
entry_greater c d (suc (suc (suc (suc (suc (suc (suc zero))))))) l = refl
entry_greater c d (suc (suc (suc (suc (suc (suc (suc (suc i)))))))) l = absurd (omega arith)

pub entry_either_clock : (c d : Clock) (s : ℕ) → IsSite s
    → entry (either_clock c d) s ≡ max (entry c s) (entry d s)
entry_either_clock c d s w = let l = w.1 in let m = w.0 in entry_greater c d (s - 1) (omega arith)

no_entry : (i : ℕ) → slice_index_or no_clock.0 i 0 ≡ 0
no_entry zero = refl
no_entry (suc zero) = refl
no_entry (suc (suc zero)) = refl
no_entry (suc (suc (suc zero))) = refl
no_entry (suc (suc (suc (suc zero)))) = refl
no_entry (suc (suc (suc (suc (suc zero))))) = refl
no_entry (suc (suc (suc (suc (suc (suc zero)))))) = refl
no_entry (suc (suc (suc (suc (suc (suc (suc zero))))))) = refl
no_entry (suc (suc (suc (suc (suc (suc (suc (suc i)))))))) = refl

pub entry_none : (s : ℕ) → entry no_clock s ≡ 0
entry_none s = no_entry (s - 1)

-- to come after what either clock knows is to come after what one of them does
le_max : (n a b : ℕ) → nat_le n (max a b) ≡ (nat_le n a || nat_le n b)
le_max n a b = bool_same (nat_le n (max a b)) (nat_le n a || nat_le n b)
    (λ t. let l = leb-true n (max a b) t in elim (cases_lt a b) [
      | inl m ↦ or_right (nat_le n a) (nat_le n b) (le-leb n b (omega (arith, l, m)))
      | inr m ↦ or_left (nat_le n a) (nat_le n b) (le-leb n a (omega (arith, l, m)))
    ])
    (λ t. elim (or_cases (nat_le n a) (nat_le n b) t) [
      | inl u ↦ let l = leb-true n a u in le-leb n (max a b) (omega (arith, l))
      | inr u ↦ let l = leb-true n b u in le-leb n (max a b) (omega (arith, l))
    ])

module _ (t : List Says) (s : Says) (site : IsSite s.site) where
  or_assoc : (a b c : Bool) → ((a || b) || c) ≡ (a || (b || c))
  or_assoc true b c = refl
  or_assoc false b c = refl

  and_or : (a b c : Bool) → (a && (b || c)) ≡ ((a && b) || (a && c))
  and_or true b c = refl
  and_or false b c = refl

  either_clock_after : (c d : Clock)
      → is_after s (either_clock c d) ≡ (is_after s c || is_after s d)
  either_clock_after c d =
      ap (λ n. nat_lt 0 s.last && nat_le s.last n) (entry_either_clock c d s.site site)
      ∙ (ap (λ b. nat_lt 0 s.last && b) (le_max s.last (entry c s.site) (entry d s.site))
      ∙ and_or (nat_lt 0 s.last) (nat_le s.last (entry c s.site))
      (nat_le s.last (entry d s.site)))

  known_from : (g : List ℕ) (c : Clock)
      → is_after s (fold (λ (c : Clock) (k : ℕ). either_clock c (said t k).known) c g)
      ≡ (is_after s c || list_any (λ k. is_after s (said t k).known) g)
  known_from [] c = sym (or_false (is_after s c))
    where
      or_false : (b : Bool) → (b || false) ≡ b
      or_false true = refl
      or_false false = refl
  known_from (k ∷ g) c =
      known_from g (either_clock c (said t k).known)
      ∙ (ap (λ b. b || list_any (λ k. is_after s (said t k).known) g)
      (either_clock_after c (said t k).known)
      ∙ or_assoc (is_after s c) (is_after s (said t k).known)
      (list_any (λ k. is_after s (said t k).known) g))

  none_after : is_after s no_clock ≡ false
  none_after = elim (cases_Bool (is_after s no_clock)) [
    | inl t ↦
        let w = and_parts (nat_lt 0 s.last) (nat_le s.last (entry no_clock s.site)) t in
        let l = ltb-true 0 s.last w.0 in
        let m = leb-true s.last (entry no_clock s.site) w.1 in
        let e = no_entry (s.site - 1) in absurd (omega (arith, l, m, e))
    | inr n ↦ n
  ]

  -- to come before what the showings of a set know is to come before one of them
  pub after_known : (g : List ℕ)
      → is_after s (known_in t g) ≡ list_any (λ k. is_after s (said t k).known) g
  after_known g = known_from g no_clock
      ∙ ap (λ b. b || list_any (λ k. is_after s (said t k).known) g) none_after

-- a clock that knows none has no entry
knows_none : (c : Clock) → knows_some c ≡ false → (i : ℕ) → slice_index_or c.0 i 0 ≡ 0
knows_none c n i = elim (cases_lt i (length c.0)) [
  | inl l ↦ elim (cases_lt 0 (get_or c.0 i 0)) [
    | inl m ↦
        let no = list_any_false (λ n. nat_lt 0 n) c.0 n (get_or c.0 i 0) (Contains-get_or c.0 i 0 l)
        in
        let yes = lt-ltb 0 (get_or c.0 i 0) m in absurd cc
    | inr m ↦ let e : get_or c.0 i 0 ≡ 0 = omega (arith, m) in e
  ]
  | inr l ↦ get_or_past c.0 i 0 l
]

module _ (rows : List (List ℕ)) (known : AreRows rows) (t : List Says) (hs : List ℕ) where
  apart_of : (g : List ℕ) (k j : ℕ) → intersects (row rows k) g ≡ false → Contains g j
      → conflict rows k j ≡ false
  apart_of g k j n i = out_of (row rows k) j (λ c. intersects_none (row rows k) g n j i c)

  -- what does not matter covers none, and has no rival that hides
  pub calm_of : (x : ℕ) → matters rows t hs x ≡ false
      → IsCalm (covers t) (conflict rows) hs x
  calm_of x n =
      let p = or_parts (knows_some (said t x).known) (intersects (row rows x) hs) n in
      record {
        covers_none = λ k. elim (cases_Bool (covers t k x)) [
          | inl y ↦
              let w = and_parts (nat_lt 0 (said t k).last)
              (nat_le (said t k).last (entry (said t x).known (said t k).site)) y in
              let l = ltb-true 0 (said t k).last w.0 in
              let m = leb-true (said t k).last (entry (said t x).known (said t k).site) w.1 in
              let e = knows_none (said t x).known p.0 ((said t k).site - 1) in
              absurd (omega (arith, l, m, e))
          | inr f ↦ f
        ];
        apart = λ k i. known.symmetric k x ∙ apart_of hs x k p.1 i;
      }
    where
      or_parts : (a b : Bool) → (a || b) ≡ false → (a ≡ false) × (b ≡ false)
      or_parts true b e = absurd cc
      or_parts false b e = (refl, e)

  module _ (used : List ℕ) where
    -- two sides: the others are without a conflict
    pub sides_apart : (us : List ℕ) → are_sides rows t hs us ≡ true → (a b : ℕ) → Contains us a
        → Contains us b → conflict rows a b ≡ false
    sides_apart us y a b i j =
        let w = and_parts (list_all (λ k. not (matters rows t hs k)) hs) (are_calm rows us) y in
        apart_of us a b (not-true (intersects (row rows a) us)
        (list_all_true (λ k. not (intersects (row rows k) us)) us w.1 a i)) j

    -- and what is none of them is calm
    pub sides_calm : (us : List ℕ) → are_sides rows t hs us ≡ true
        → us ≡ filter (is_other rows t hs) used → (x : ℕ) → Contains used x → ¬ (Contains us x)
        → IsCalm (covers t) (conflict rows) hs x
    sides_calm us y e x i out = calm_of x (elim (cases_Bool (is_in hs x)) [
      | inl h ↦ not-true (matters rows t hs x) (list_all_true (λ k. not (matters rows t hs k)) hs
          (and_parts (list_all (λ k. not (matters rows t hs k)) hs) (are_calm rows us) y).0 x
          (from_list hs x h))
      | inr h ↦ elim (cases_Bool (matters rows t hs x)) [
        | inl m ↦
            let test : is_other rows t hs x ≡ true = and_from (not (is_in hs x))
            (matters rows t hs x) (not_from_false (is_in hs x) h) m in
            absurd (out (subst (λ z. Contains z x) (sym e)
            ((Contains-filter (is_other rows t hs) used x).1 (i, test))))
        | inr n ↦ n
      ]
    ])

    -- what does not decide is calm
    pub rest_calm : (us : List ℕ) → us ≡ filter (is_deciding rows t hs) used → (x : ℕ)
        → Contains used x → ¬ (Contains us x) → IsCalm (covers t) (conflict rows) hs x
    rest_calm us e x i out = calm_of x (elim (cases_Bool (matters rows t hs x)) [
      | inl m ↦ absurd (out (subst (λ z. Contains z x) (sym e)
          ((Contains-filter (is_deciding rows t hs) used x).1
          (i, or_right (is_in hs x) (matters rows t hs x) m))))
      | inr n ↦ n
    ])

    -- all that hide are among those that decide
    pub hiders_decide : (us : List ℕ) → us ≡ filter (is_deciding rows t hs) used
        → hs ≡ filter (hides t) used
        → (k : ℕ) → Contains hs k ↔ (Contains us k × (hides t k ≡ true))
    hiders_decide us e h k = (
      λ i.
          let w = (Contains-filter (hides t) used k).0 (subst (λ z. Contains z k) h i) in (
            subst (λ z. Contains z k) (sym e) ((Contains-filter (is_deciding rows t hs) used k).1
                (w.0, or_left (is_in hs k) (matters rows t hs k) (in_list hs k i))),
            w.1,
          ),
      λ w.
          let v = (Contains-filter (is_deciding rows t hs) used k).0
          (subst (λ z. Contains z k) e w.0) in
          subst (λ z. Contains z k) (sym h) ((Contains-filter (hides t) used k).1 (v.0, w.1)),
    )

    pub hiders_used : hs ≡ filter (hides t) used
        → (k : ℕ) → Contains hs k ↔ (Contains used k × (hides t k ≡ true))
    hiders_used h k = (
      λ i. (Contains-filter (hides t) used k).0 (subst (λ z. Contains z k) h i),
      λ w. subst (λ z. Contains z k) (sym h) ((Contains-filter (hides t) used k).1 w),
    )

-- ---- what is seen

all_agree : (p q : ℕ → Bool) (xs : List ℕ) → ((x : ℕ) → Contains xs x → p x ≡ q x)
    → list_all p xs ≡ list_all q xs
all_agree p q [] f = refl
all_agree p q (x ∷ xs) f = rw (
  f x (Contains-cons_head x xs),
  all_agree p q xs (λ y i. f y (Contains-cons_tail x xs y i)),
) refl

-- each hider is asked with what the showings of the set know
pub seen_told : (rows : List (List ℕ)) (t : List Says) (hs g : List ℕ) (known : Clock)
    → known ≡ known_in t g → ((k : ℕ) → Contains hs k → IsSite (said t k).site)
    → list_all (λ k. is_after (said t k) known || intersects (row rows k) g) hs
    ≡ seen (covers t) (conflict rows) hs g
seen_told rows t hs g known e sites = all_agree
    (λ k. is_after (said t k) known || intersects (row rows k) g)
    (stands (covers t) (conflict rows) g) hs
    (λ k i. ap (λ b. b || intersects (row rows k) g)
    (ap (is_after (said t k)) e ∙ after_known t (said t k) (sites k i) g))
