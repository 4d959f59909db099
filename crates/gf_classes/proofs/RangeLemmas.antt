-- The setters that are apart from one are ranges of ranks, one a site.
use Rattle.std.proofs.Common.{◌≡◌, ◌≢◌, ℕ, ◌<◌, ◌≤◌, ◌+◌, ◌*◌, Bool, true, false, List, []}
use Rattle.std.proofs.Common.{◌∷◌, ◌++◌}
use Rattle.std.proofs.Common.{length, get_or, inl, inr, subst, sym, ◌∙◌, arith, nat_le}
use Rattle.std.proofs.Common.{nat_lt, ◌&&◌, true≢false}
use Rattle.std.specs.Prelude.{◌⊎◌, ◌↔◌, Contains}
use Rattle.std.proofs.lemmas.Bool.{cases_lt, or_cases, or_left, or_right, and_parts, and_from}
use Rattle.std.proofs.lemmas.Option.{slice_get_within, get_or_from_slice_get}
use Rattle.std.proofs.lemmas.Option.{slice_get-get_or}
use Rattle.std.proofs.lemmas.List.Elements.{Contains-push, Contains-push_cases}
use Rattle.std.proofs.lemmas.List.Elements.{Contains-append_left}
use Rattle.gf_base.proofs.PositionLemmas.{contained_at}
use Rattle.gf_base.proofs.ListLemmas.{not_Contains-nil}
use Rattle.gf_maximal.specs.declared.run.Run.{Run}
use Rattle.gf_maximal.specs.Runs.{numbers_of, members}
use Rattle.gf_maximal.proofs.RunLemmas.{nat_le_true, nat_le_from, nat_le_false, nat_lt_true}
use Rattle.gf_maximal.proofs.RunLemmas.{nat_lt_from}
use Rattle.gf_maximal.proofs.RunSetLemmas.{in_numbers, in_members, of_one, has_one}
use Rattle.gf_classes.specs.declared.setters.Setter.{Setter}
use Rattle.gf_classes.specs.declared.setters.TheConstants.{BLOCK}
use Rattle.gf_classes.specs.Setters.{AreSorted, IsKeyed, key_of, known}
use Rattle.gf_classes.specs.Ranges.{is_unknowing, AreKeysOf, SplitsAt, IsRange, HasRank}
use Rattle.gf_classes.specs.Ranges.{Trims, IsCutRange, AreRanges, AreNear, IsCut}

-- ---- searches by halves

pub splits : (test : Setter → Bool) (ss : List Setter) (k : ℕ) → k ≤ length ss
    → ((i : ℕ) (d : Setter) → 0 ≤ i → i < k → test (get_or ss i d) ≡ true)
    × ((i : ℕ) (d : Setter) → k ≤ i → i < length ss → test (get_or ss i d) ≡ false)
    → SplitsAt test ss k
splits test ss k b p = record {
  bound = b;
  below = λ q e at l. subst (λ z. test z ≡ true) (get_or_from_slice_get ss q e e at)
      (p.0 q e (omega arith) l);
  above = λ q e at l. subst (λ z. test z ≡ false) (get_or_from_slice_get ss q e e at)
      (p.1 q e l (slice_get_within ss q e at));
}

module _ (ss : List Setter) (sorted : AreSorted ss) where
  pub keys_parted : (key : ℕ) (i j : ℕ) (d : Setter) → i ≤ j → j < length ss
      → nat_le (get_or ss j d).key key ≡ true → nat_le (get_or ss i d).key key ≡ true
  keys_parted key i j d l k t =
      let up = sorted.rising i j d l k in
      let v = nat_le_true (get_or ss j d).key key t in
      nat_le_from (get_or ss i d).key key (omega (arith, up, v))

  -- a key between those of a log is of that log
  pub in_log : (e : Setter) → IsKeyed e → (t s : ℕ) → s < 8 → key_of t s 0 ≤ e.key
      → e.key < key_of t s BLOCK → (e.attribute ≡ t) × (e.site ≡ s) × (e.key ≡ key_of t s 0 + e.seq)
  in_log e k t s w from to =
      let a = k.site in
      let b = k.seq in
      let c = k.key in
      let same : e.attribute * 8 + e.site ≡ t * 8 + s = omega (arith, a, b, c, from, to) in
      (omega (arith, same, a, w), omega (arith, same, a, w), omega (arith, same, c))

  module _ (r : Run) (of : AreKeysOf r) (s n : ℕ) (site : s < 8) where
    -- what does not know the operation
    in_unknowing : (e : Setter) → IsKeyed e → r.start ≤ e.key → e.key < r.end
        → (e.attribute ≡ of.attribute) × (e.site ≡ of.site)
    in_unknowing e k from to =
        let b = of.start in
        let c = of.end in
        let w = in_log e k of.attribute of.site of.within (omega (arith, from, b))
        (omega (arith, to, c)) in
        (w.0, w.1)

    pub unknowing_parted : (i j : ℕ) (d : Setter) → i ≤ j → j < length ss
        → is_unknowing r s n (get_or ss j d) ≡ true → is_unknowing r s n (get_or ss i d) ≡ true
    unknowing_parted i j d l k t =
        let a = get_or ss i d in
        let b = get_or ss j d in
        let up = sorted.rising i j d l k in
        let a_in : Contains ss a = contained_at ss i a
        (slice_get-get_or ss i d (omega (arith, l, k))) in
        let b_in : Contains ss b = contained_at ss j b (slice_get-get_or ss j d k) in
        elim (cases_lt a.key r.start) [
          | inl m ↦ or_left (nat_lt a.key r.start)
              (nat_lt a.key r.end && nat_lt (known a.past s) n) (nat_lt_from a.key r.start m)
          | inr m ↦ elim (or_cases (nat_lt b.key r.start)
              (nat_lt b.key r.end && nat_lt (known b.past s) n) t) [
                | inl u ↦ let v = nat_lt_true b.key r.start u in absurd (omega (arith, up, m, v))
                | inr u ↦
                    let w = and_parts (nat_lt b.key r.end) (nat_lt (known b.past s) n) u in
                    let to = nat_lt_true b.key r.end w.0 in
                    let less = nat_lt_true (known b.past s) n w.1 in
                    let p = in_unknowing a (sorted.keyed a a_in) m (omega (arith, up, to)) in
                    let q = in_unknowing b (sorted.keyed b b_in) (omega (arith, up, m)) to in
                    let x = (sorted.keyed a a_in).key in
                    let y = (sorted.keyed b b_in).key in
                    let attributes : a.attribute ≡ b.attribute = p.0 ∙ sym q.0 in
                    let sites : a.site ≡ b.site = p.1 ∙ sym q.1 in
                    let seqs : a.seq ≤ b.seq = omega (arith, x, y, up, attributes, sites) in
                    let g = sorted.growing a b a_in b_in attributes sites seqs s site in
                    or_right (nat_lt a.key r.start)
                    (nat_lt a.key r.end && nat_lt (known a.past s) n)
                    (and_from (nat_lt a.key r.end) (nat_lt (known a.past s) n)
                    (nat_lt_from a.key r.end (omega (arith, up, to)))
                    (nat_lt_from (known a.past s) n (omega (arith, g, less))))
              ]
        ]

  -- ---- one site

  module _ (x : Setter) (s : ℕ) where
    -- of its own site none is apart
    pub own_range : s ≡ x.site → (r : Run) → r.end ≡ 0 → IsRange ss x s r
    own_range own r end = record {
      bound = omega (arith, end);
      found = λ q e at. (
        λ w. let l = w.1 in absurd (omega (arith, l, end)),
        λ w. absurd (w.1.other (w.0 ∙ own)),
      );
    }

    pub other_range : s ≢ x.site → s < 8 → (r : Run) (lo hi : ℕ)
        → r.start ≡ key_of x.attribute s 0 → r.end ≡ key_of x.attribute s BLOCK
        → SplitsAt (λ (e : Setter). nat_le e.key (r.start + known x.past s)) ss lo
        → SplitsAt (is_unknowing r x.site x.seq) ss hi
        → IsRange ss x s (record { start = lo; end = hi })
    other_range other site r lo hi start end low high = record {
      bound = high.bound;
      found = λ q e at.
          let k = sorted.keyed e (contained_at ss q e at) in (
            λ w.
                let l = nat_le_false e.key (r.start + known x.past s) (low.above q e at w.0) in
                let u = high.below q e at w.1 in
                elim (or_cases (nat_lt e.key r.start)
                (nat_lt e.key r.end && nat_lt (known e.past x.site) x.seq) u) [
                  | inl v ↦ let m = nat_lt_true e.key r.start v in absurd (omega (arith, l, m))
                  | inr v ↦
                      let p = and_parts (nat_lt e.key r.end)
                      (nat_lt (known e.past x.site) x.seq) v in
                      let m = nat_lt_true e.key r.end p.0 in
                      let g = in_log e k x.attribute s site (omega (arith, l, start))
                      (omega (arith, m, end)) in
                      let c = g.2 in (
                        g.1,
                        record {
                          other = λ z. other (sym g.1 ∙ z);
                          attribute = g.0;
                          unknown = subst (λ z. known x.past z < e.seq) (sym g.1)
                              (omega (arith, l, start, c));
                          unknowing = nat_lt_true (known e.past x.site) x.seq p.1;
                        },
                      )
                ],
            λ w.
                let a = w.1.attribute in
                let b = w.0 in
                let c = k.key in
                let d = k.seq in
                let n : known x.past s < e.seq = subst (λ z. known x.past z < e.seq) w.0
                w.1.unknown in
                let key : e.key ≡ r.start + e.seq = omega (arith, a, b, c, start) in (
                  elim (cases_lt q lo) [
                    | inl l ↦ let v = nat_le_true e.key (r.start + known x.past s)
                        (low.below q e at l) in absurd (omega (arith, v, n, key))
                    | inr l ↦ l
                  ],
                  elim (cases_lt q hi) [
                    | inl l ↦ l
                    | inr l ↦ absurd (true≢false
                        (sym (or_right (nat_lt e.key r.start)
                        (nat_lt e.key r.end && nat_lt (known e.past x.site) x.seq)
                        (and_from (nat_lt e.key r.end) (nat_lt (known e.past x.site) x.seq)
                        (nat_lt_from e.key r.end (omega (arith, key, d, start, end)))
                        (nat_lt_from (known e.past x.site) x.seq w.1.unknowing)))
                        ∙ high.above q e at l))
                  ],
                ),
          );
    }

-- ---- what is cut off

pub cut_range : (ss : List Setter) (x : Setter) (s : ℕ) (cut : List Run) (r t u : Run)
    → IsRange ss x s r → Trims cut r t → Trims cut t u → IsCutRange ss x s cut u
cut_range ss x s cut r t u i a b = record {
  bound = λ q out lo hi.
      let w = (a q out).1 ((b q out).1 (lo, hi)) in
      let k = w.1 in
      let n = i.bound in
      omega (arith, k, n);
  found = λ q e at out. (
    λ w. (i.found q e at).0 ((a q out).1 ((b q out).1 w)),
    λ w. (b q out).0 ((a q out).0 ((i.found q e at).1 w)),
  );
}

-- ---- all sites

pub one_range : (ss : List Setter) (x : Setter) (m : ℕ) (cut rs new : List Run) (r : Run)
    → new ≡ rs ++ r ∷ [] → AreRanges ss x m cut rs → IsCutRange ss x m cut r
    → AreRanges ss x (m + 1) cut new
one_range ss x m cut rs new r e a i = subst (AreRanges ss x (m + 1) cut) (sym e) (record {
  bound = λ q out w. elim (parted q w) [
    | inl v ↦ a.bound q out v
    | inr v ↦ i.bound q out v.0 v.1
  ];
  found = λ q d at out. (
    λ w. elim (parted q w) [
      | inl v ↦ let u = (a.found q d at out).0 v in let l = u.0 in (omega (arith, l), u.1)
      | inr v ↦ let u = (i.found q d at out).0 v in let l = u.0 in (omega (arith, l), u.1)
    ],
    λ w. elim (cases_lt d.site m) [
      | inl l ↦
          let v = (a.found q d at out).1 (l, w.1) in record {
            run = v.run;
            contained = Contains-append_left rs (r ∷ []) v.run v.contained;
            from = v.from;
            below = v.below;
          }
      | inr l ↦
          let k = w.0 in
          let v = (i.found q d at out).1 (omega (arith, l, k), w.1) in record {
            run = r;
            contained = Contains-push rs r;
            from = v.0;
            below = v.1;
          }
    ],
  );
})
  where
    parted : (q : ℕ) → HasRank (rs ++ r ∷ []) q → HasRank rs q ⊎ ((r.start ≤ q) × (q < r.end))
    parted q w = elim (Contains-push_cases rs r w.run w.contained) [
      | inl c ↦ inl (record { run = w.run; contained = c; from = w.from; below = w.below })
      | inr f ↦ inr (
        subst (λ (z : Run). z.start ≤ q) (sym f) w.from,
        subst (λ (z : Run). q < z.end) (sym f) w.below,
      )
    ]

-- a set of runs has the numbers of the runs
pub has_rank : (rs : List Run) (q : ℕ) → HasRank rs q ↔ Contains (members rs) q
has_rank rs q = (
  λ w. (in_members rs q).1 (has_one rs w.run q w.contained (w.from, w.below)),
  λ c. let w = of_one rs q ((in_members rs q).0 c) in
      record { run = w.0; contained = w.1; from = w.2.0; below = w.2.1 },
)

-- ---- as a set

module _ (rs : List Run) (d : List ℕ)
    (h : (a : ℕ) → Contains d a ↔ ((r : Run) × Contains rs r × Contains (numbers_of r) a)) where
  set_has : (q : ℕ) → Contains d q ↔ HasRank rs q
  set_has q = (
    λ c. let w = (h q).0 c in let v = (in_numbers w.0 q).0 w.2 in
        record { run = w.0; contained = w.1; from = v.0; below = v.1 },
    λ v. (h q).1 (v.run, v.contained, (in_numbers v.run q).1 (v.from, v.below)),
  )

  -- the set has what is apart, but for what is cut off
  pub cut_from : (ss : List Setter) (x : Setter) (cut : List Run) (s : List ℕ) → AreSorted ss
      → members cut ≡ s → AreRanges ss x 8 cut rs → IsCut ss x s d
  cut_from ss x cut s sorted is a = record {
    bound = λ q out c. a.bound q (outside q out) ((set_has q).0 c);
    found = λ q e at out. (
      λ c. ((a.found q e at (outside q out)).0 ((set_has q).0 c)).1,
      λ w. (set_has q).1 ((a.found q e at (outside q out)).1
          ((sorted.keyed e (contained_at ss q e at)).site, w)),
    );
  }
    where
      outside : (q : ℕ) → ¬ (Contains s q) → ¬ (HasRank cut q)
      outside q out w = out (subst (λ z. Contains z q) is ((has_rank cut q).0 w))

  pub near_from : (ss : List Setter) (x : Setter) (cut : List Run) (s : List ℕ) → AreSorted ss
      → members cut ≡ s → s ≡ [] → AreRanges ss x 8 cut rs → AreNear ss x d
  near_from ss x cut s sorted is e a =
      let w = cut_from ss x cut s sorted is a in record {
        bound = λ q c. w.bound q (none q) c;
        found = λ q d at. w.found q d at (none q);
      }
    where
      none : (q : ℕ) → ¬ (Contains s q)
      none q c = not_Contains-nil q (subst (λ z. Contains z q) e c)
