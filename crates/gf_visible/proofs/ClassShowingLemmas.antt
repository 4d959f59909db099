-- A set of classes shows where the set of their members does.
use Rattle.std.proofs.Common.{◌≡◌, ℕ, zero, suc, ◌≤◌, Bool, true, false, not, max, List, [], ◌∷◌}
use Rattle.std.proofs.Common.{map, fold, inl, inr, refl, subst, sym, ap, ◌∙◌, arith}
use Rattle.std.specs.Prelude.{◌⊎◌, ◌&&◌, nat_le, nat_lt, Contains, Option, Some, None}
use Rattle.std.specs.Prelude.{option_map, slice_get, slice_index_or, unwrap_or}
use Rattle.std.specs.Option.{is_some}
use Rattle.std.proofs.lemmas.Bool.{and_from, and_parts, leb-true, le-leb, ltb-true, lt-ltb}
use Rattle.std.proofs.lemmas.Bool.{cases_lt}
use Rattle.gf_ops.specs.declared.op.Op.{Op}
use Rattle.gf_ops.specs.OperationOrder.{IsSite, entry}
use Rattle.gf_ops.specs.Limits.{IsInRange}
use Rattle.gf_ops.specs.ValidHistory.{IsValid}
use Rattle.gf_ops.specs.declared.op.ObjectId.{ObjectId}
use Rattle.gf_ops.proofs.HistoryLemmas.{seq_in_range, site_in_range}
use Rattle.gf_classes.specs.Hiding.{hiding_site_at, shown_by}
use Rattle.gf_classes.specs.ConflictClasses.{AreClassesOf}
use Rattle.gf_table.specs.Positions.{positions_on}
use Rattle.gf_groups.specs.Growing.{before_at, conflict_at}
use Rattle.gf_groups.specs.Versions.{IsMade}
use Rattle.gf_maximal.specs.Classes.{ClassesState, gathered, members_of, spread, used}
use Rattle.gf_maximal.specs.Rows.{conflict}
use Rattle.gf_maximal.proofs.ClassLemmas.{gathered_largest, gathered_rises, in_spread, spread_gathered}
use Rattle.gf_maximal.proofs.ClassLemmas.{spread_largest, spread_one, spread_rises}
use Rattle.gf_visible.specs.declared.says.Says.{Says}
use Rattle.gf_visible.specs.ClassSays.{covers, hides, either_clock, said, says_of, silent}
use Rattle.gf_visible.specs.ClassSays.{with_op, with_said}
use Rattle.gf_visible.specs.ShownAt.{covers_at, hides_at, later_at, shows_at, shows_or_hides_at}
use Rattle.gf_visible.specs.Choices.{AreShowing, IsCovered, IsShowing}
use Rattle.gf_visible.specs.ShownSets.{IsSetListing, IsShowingListing}
use Rattle.gf_visible.proofs.SetterLemmas.{setter_shows}
use Rattle.gf_visible.proofs.ShownSetLemmas.{are_shown}
use Rattle.gf_visible.proofs.TimelineLemmas.{entry_either_clock, entry_none}
use Rattle.gf_base.proofs.ListLemmas.{Contains-cons_cases, Contains-cons_head, Contains-cons_tail}
use Rattle.gf_base.proofs.ListLemmas.{Contains-map, Contains-map_from, not_Contains-nil}
use Rattle.gf_base.proofs.PairLemmas.{AllPairs-map}
use Rattle.gf_base.proofs.PositionLemmas.{contained_at}
use Rattle.std.proofs.lemmas.List.{length-map}

-- what an operation at the position i says
pub record Says_at (h : List Op) (i : ℕ) (b : Bool) : Type 0 where
  pub op : Op
  pub at : slice_get h i ≡ Some op
  pub says : shown_by op.change ≡ Some b

module _ (h : List Op) where
  hides_told : (i : ℕ) → hides_at h i ≡ true → Says_at h i false
  hides_told i t = by_op (slice_get h i) refl t
    where
      by_said : (a : Op) → slice_get h i ≡ Some a → (r : Option Bool) → shown_by a.change ≡ r
          → (is_some r && not (unwrap_or r false)) ≡ true → Says_at h i false
      by_said a e (Some true) d t = absurd cc
      by_said a e (Some false) d t = record { op = a; at = e; says = d }
      by_said a e None d t = absurd cc

      by_op : (r : Option Op) → slice_get h i ≡ r → hides_at h i ≡ true → Says_at h i false
      by_op (Some a) e t = by_said a e (shown_by a.change) refl (rw e at t)
      by_op None e t = let u = rw e at t in absurd cc

  shows_told : (i : ℕ) → shows_at h i ≡ true → Says_at h i true
  shows_told i t = by_op (slice_get h i) refl t
    where
      by_said : (a : Op) → slice_get h i ≡ Some a → (r : Option Bool) → shown_by a.change ≡ r
          → unwrap_or r false ≡ true → Says_at h i true
      by_said a e (Some true) d t = record { op = a; at = e; says = d }
      by_said a e (Some false) d t = absurd cc
      by_said a e None d t = absurd cc

      by_op : (r : Option Op) → slice_get h i ≡ r → shows_at h i ≡ true → Says_at h i true
      by_op (Some a) e t = by_said a e (shown_by a.change) refl (rw e at t)
      by_op None e t = let u = rw e at t in absurd cc

  hides_from : (i : ℕ) → Says_at h i false → hides_at h i ≡ true
  hides_from i w = rw (w.at, w.says) refl

  shows_from : (i : ℕ) → Says_at h i true → shows_at h i ≡ true
  shows_from i w = rw (w.at, w.says) refl

  one_op : (r : Option Op) (a b : Op) → r ≡ Some a → r ≡ Some b → a ≡ b
  one_op r a b d e = let q = sym d ∙ e in cc

  -- ---- what a class says

  -- s is what the operations at the positions with p say
  record IsSaid (p : ℕ → Type 0) (s : Says) : Type 0 where
    hides : (a : ℕ) → p a → (w : Says_at h a false) → w.op.id.seq ≤ s.last
    last : 1 ≤ s.last → (a : ℕ) × (w : Says_at h a false) × p a
        × (w.op.id.site ≡ s.site) × (w.op.id.seq ≡ s.last)
    knows : (a : ℕ) → p a → (w : Says_at h a true) → (t : ℕ) → IsSite t
        → entry w.op.past t ≤ entry s.known t
    from : (t : ℕ) → IsSite t → 1 ≤ entry s.known t → (a : ℕ) × (w : Says_at h a true)
        × p a × (entry w.op.past t ≡ entry s.known t)

  said_alike : (p q : ℕ → Type 0) (s : Says) → ((a : ℕ) → p a → q a) → ((a : ℕ) → q a → p a)
      → IsSaid p s → IsSaid q s
  said_alike p q s f g k = record {
    hides = λ a i w. k.hides a (g a i) w;
    last = λ l. let v = k.last l in (v.0, v.1, f v.0 v.2, v.3, v.4);
    knows = λ a i w. k.knows a (g a i) w;
    from = λ t site l. let v = k.from t site l in (v.0, v.1, f v.0 v.2, v.3);
  }

  -- all that hide do so at one site
  abbrev AreOfOneSite : (ℕ → Type 0) → Type 0
  AreOfOneSite p = (a b : ℕ) → p a → p b → hiding_site_at h a ≡ hiding_site_at h b

  abbrev Or : (ℕ → Type 0) → ℕ → ℕ → Type 0
  Or p i a = p a ⊎ (a ≡ i)

  site_told : (a : ℕ) (w : Says_at h a false) → hiding_site_at h a ≡ w.op.id.site
  site_told a w = rw (w.at, w.says) refl

  module _ (p : ℕ → Type 0) (s : Says) (k : IsSaid p s) (i : ℕ) where
    -- the operation at i is that of what is said at i
    op_of : (b : Bool) (a : Op) → slice_get h i ≡ Some a → (j : ℕ) → j ≡ i → (w : Says_at h j b)
        → w.op ≡ a
    op_of b a e j same w = one_op (slice_get h i) w.op a
        (subst (λ z. slice_get h z ≡ Some w.op) same w.at) e

    no_more : (s2 : Says) → ((b : Bool) → ¬ (Says_at h i b)) → s2 ≡ s → IsSaid (Or p i) s2
    no_more s2 none e = subst (IsSaid (Or p i)) (sym e) (record {
      hides = λ a j w. elim j [
        | inl x ↦ k.hides a x w
        | inr same ↦ absurd (none false (subst (λ z. Says_at h z false) same w))
      ];
      last = λ l. let v = k.last l in (v.0, v.1, inl v.2, v.3, v.4);
      knows = λ a j w t site. elim j [
        | inl x ↦ k.knows a x w t site
        | inr same ↦ absurd (none true (subst (λ z. Says_at h z true) same w))
      ];
      from = λ t site l. let v = k.from t site l in (v.0, v.1, inl v.2, v.3);
    })

    with_showing : (a : Op) (w : Says_at h i true) → w.op ≡ a
        → IsSaid (Or p i)
        (record { site = s.site; last = s.last; known = either_clock s.known a.past })
    with_showing a x same = record {
      hides = λ b j w. elim j [
        | inl y ↦ k.hides b y w
        | inr e ↦
            let one = op_of false x.op x.at b e w in
            let said = w.says in let d = x.says in
            let f : shown_by x.op.change ≡ Some false = subst (λ (z : Op).
            shown_by z.change ≡ Some false) one said in absurd (let g = sym f ∙ d in cc)
      ];
      last = λ l. let v = k.last l in (v.0, v.1, inl v.2, v.3, v.4);
      knows = λ b j w t site.
          let e = entry_either_clock s.known a.past t site in
          elim j [
            | inl y ↦ let l = k.knows b y w t site in omega (arith, e, l)
            | inr f ↦
                let one = op_of true x.op x.at b f w in
                let past : entry w.op.past t ≡ entry a.past t =
                ap (λ (z : Op). entry z.past t) (one ∙ same) in
                omega (arith, e, past)
          ];
      from = λ t site l.
          let e = entry_either_clock s.known a.past t site in
          elim (cases_lt (entry s.known t) (entry a.past t)) [
            | inl m ↦
                let past : entry x.op.past t ≡ entry a.past t =
                ap (λ (z : Op). entry z.past t) same in
                (i, x, inr refl, omega (arith, e, m, past))
            | inr m ↦
                let v = k.from t site (omega (arith, e, m, l)) in
                let q = v.3 in (v.0, v.1, inl v.2, omega (arith, e, m, q))
          ];
    }

    with_hiding : AreOfOneSite (Or p i) → (a : Op) (w : Says_at h i false) → w.op ≡ a
        → IsSaid (Or p i) (record { site = a.id.site; last = max s.last a.id.seq; known = s.known })
    with_hiding parted a x same = record {
      hides = λ b j w. elim j [
        | inl y ↦ let l = k.hides b y w in omega (arith, l)
        | inr e ↦
            let one = op_of false x.op x.at b e w in
            let seq : w.op.id.seq ≡ a.id.seq = ap (λ (z : Op). z.id.seq) (one ∙ same) in
            omega (arith, seq)
      ];
      last = λ l.
          let seq : x.op.id.seq ≡ a.id.seq = ap (λ (z : Op). z.id.seq) same in
          let site : x.op.id.site ≡ a.id.site = ap (λ (z : Op). z.id.site) same in
          elim (cases_lt s.last a.id.seq) [
            | inl m ↦ (i, x, inr refl, site, omega (arith, m, seq))
            | inr m ↦
                let v = k.last (omega (arith, m, l)) in
                let q = v.4 in (
                  v.0,
                  v.1,
                  inl v.2,
                  sym (site_told v.0 v.1) ∙ (parted v.0 i (inl v.2) (inr refl)
                      ∙ (site_told i x ∙ site)),
                  omega (arith, m, q),
                )
          ];
      knows = λ b j w t t_site. elim j [
        | inl y ↦ k.knows b y w t t_site
        | inr e ↦
            let one = op_of true x.op x.at b e w in
            let said = w.says in let d = x.says in
            let f : shown_by x.op.change ≡ Some true = subst (λ (z : Op).
            shown_by z.change ≡ Some true) one said in absurd (let g = sym f ∙ d in cc)
      ];
      from = λ t site l. let v = k.from t site l in (v.0, v.1, inl v.2, v.3);
    }

    by_said : AreOfOneSite (Or p i) → (a : Op) → slice_get h i ≡ Some a → (r : Option Bool)
        → shown_by a.change ≡ r → IsSaid (Or p i) (with_said r s a)
    by_said parted a e (Some true) d =
        with_showing a (record { op = a; at = e; says = d }) refl
    by_said parted a e (Some false) d =
        with_hiding parted a (record { op = a; at = e; says = d }) refl
    by_said parted a e None d = no_more s (λ b w.
        let one = op_of b a e i refl w in
        let f : shown_by a.change ≡ Some b = subst (λ (z : Op). shown_by z.change ≡ Some b) one
        w.says in
        let g = sym f ∙ d in cc) refl

    by_op : AreOfOneSite (Or p i) → (r : Option Op) → slice_get h i ≡ r
        → IsSaid (Or p i) (with_op s r)
    by_op parted (Some a) e = by_said parted a e (shown_by a.change) refl
    by_op parted None e = no_more s (λ b w. let g = sym w.at ∙ e in cc) refl

  all_said : (xs : List ℕ) (p : ℕ → Type 0) (s : Says) → IsSaid p s
      → AreOfOneSite (λ a. p a ⊎ Contains xs a)
      → IsSaid (λ a. p a ⊎ Contains xs a) (fold (λ s i. with_op s (slice_get h i)) s xs)
  all_said [] p s k parted = said_alike p (λ a. p a ⊎ Contains [] a) s (λ a i. inl i)
      (λ a w. elim w [ inl i ↦ i | inr n ↦ absurd (not_Contains-nil a n) ]) k
  all_said (x ∷ xs) p s k parted =
      let to : (a : ℕ) → (Or p x a ⊎ Contains xs a) → p a ⊎ Contains (x ∷ xs) a = λ a w. elim w [
        | inl v ↦ elim v [
          | inl i ↦ inl i
          | inr e ↦ inr (subst (Contains (x ∷ xs)) (sym e) (Contains-cons_head x xs))
        ]
        | inr i ↦ inr (Contains-cons_tail x xs a i)
      ] in
      let back : (a : ℕ) → (p a ⊎ Contains (x ∷ xs) a) → Or p x a ⊎ Contains xs a = λ a w. elim w [
        | inl i ↦ inl (inl i)
        | inr i ↦ elim (Contains-cons_cases x xs a i) [
          | inl e ↦ inl (inr e)
          | inr j ↦ inr j
        ]
      ] in
      said_alike (λ a. Or p x a ⊎ Contains xs a) (λ a. p a ⊎ Contains (x ∷ xs) a) _ to back
      (all_said xs (Or p x) (with_op s (slice_get h x))
      (by_op p s k x (λ a b i j. parted a b (to a (inl i)) (to b (inl j))) (slice_get h x) refl)
      (λ a b i j. parted a b (to a i) (to b j)))

  none_said : IsSaid (λ a. ⊥) silent
  none_said = record {
    hides = λ a n w. absurd n;
    last = λ l. absurd (omega (arith, l));
    knows = λ a n w. absurd n;
    from = λ t site l. let e = entry_none t in absurd (omega (arith, l, e));
  }

  members_said : (g : List ℕ) → AreOfOneSite (Contains g) → IsSaid (Contains g) (says_of h g)
  members_said g parted = said_alike (λ a. ⊥ ⊎ Contains g a) (Contains g) (says_of h g)
      (λ a w. elim w [ inl n ↦ absurd n | inr i ↦ i ]) (λ a i. inr i)
      (all_said g (λ a. ⊥) silent none_said (λ a b i j.
      parted a b (elim i [ inl n ↦ absurd n | inr k ↦ k ])
      (elim j [ inl n ↦ absurd n | inr k ↦ k ])))

-- ---- classes and their members

module _ (h : List Op) (valid : IsValid h) (us : List ℕ) (s : ClassesState)
    (classes : AreClassesOf h us s) where
  -- what each class says
  abbrev pub timeline : List Says
  timeline = map (says_of h) s.members

  map_at : (xs : List (List ℕ)) (k : ℕ) → slice_index_or (map (says_of h) xs) k silent
      ≡ says_of h (slice_index_or xs k [])
  map_at [] k = refl
  map_at (x ∷ xs) zero = refl
  map_at (x ∷ xs) (suc k) = map_at xs k

  told : (k : ℕ) → IsSaid h (Contains (members_of s k)) (said timeline k)
  told k = subst (IsSaid h (Contains (members_of s k))) (sym (map_at s.members k))
      (members_said h (members_of s k) (λ a b i j. classes.parted k a b i j))

  in_range : (a : ℕ) (op : Op) → slice_get h a ≡ Some op → IsInRange op
  in_range a op e = valid.in_range op (contained_at h a op e)

  -- a class with an operation that hides
  class_hides : (k a : ℕ) → Contains (members_of s k) a → hides_at h a ≡ true
      → hides timeline k ≡ true
  class_hides k a i y =
      let w = hides_told h a y in
      let l = (told k).hides a i w in
      let o = (seq_in_range w.op (in_range a w.op w.at)).0 in
      lt-ltb 0 (said timeline k).last (omega (arith, l, o))

  pub class_site : (k : ℕ) → hides timeline k ≡ true → IsSite (said timeline k).site
  class_site k y =
      let w = (told k).last (ltb-true 0 (said timeline k).last y) in
      subst IsSite w.3 (site_in_range w.1.op (in_range w.0 w.1.op w.1.at))

  -- who comes before whom, by the numbers
  before_told : (a b : ℕ) (v w : Op) → slice_get h a ≡ Some v → slice_get h b ≡ Some w
      → before_at h a b ≡ true → v.id.seq ≤ entry w.past v.id.site
  before_told a b v w e d y = leb-true v.id.seq (entry w.past v.id.site) (rw (e, d) at y)

  before_from : (a b : ℕ) (v w : Op) → slice_get h a ≡ Some v → slice_get h b ≡ Some w
      → v.id.seq ≤ entry w.past v.id.site → before_at h a b ≡ true
  before_from a b v w e d l = rw (e, d) (le-leb v.id.seq (entry w.past v.id.site) l)

  module _ (g : List ℕ) where
    -- where all that hides among the members is covered, each class that hides is
    covered_classes : IsCovered (hides_at h) (covers_at h) (conflict_at h) (spread s g)
        → IsCovered (hides timeline) (covers timeline) (conflict s.rows) g
    covered_classes f k i y =
        let own = said timeline k in
        let some = ltb-true 0 own.last y in
        let a = (told k).last some in
        let over = f a.0 ((in_spread s g a.0).1 (k, i, a.2)) (hides_from h a.0 a.1) in
        let both = and_parts (later_at h a.0 over.0) (shows_at h over.0) over.2 in
        let after = (and_parts (shows_or_hides_at h over.0) (before_at h a.0 over.0) both.0).1 in
        let b = shows_told h over.0 both.1 in
        let j = (in_spread s g over.0).0 over.1 in
        let first = before_told a.0 over.0 a.1.op b.op a.1.at b.at after in
        let site : IsSite own.site = class_site k y in
        let most = (told j.0).knows over.0 j.2 b own.site site in
        let same : entry b.op.past a.1.op.id.site ≡ entry b.op.past own.site =
        ap (entry b.op.past) a.3 in
        let seq = a.4 in (
          j.0,
          j.1,
          and_from (nat_lt 0 own.last) (nat_le own.last (entry (said timeline j.0).known own.site))
              y (le-leb own.last (entry (said timeline j.0).known own.site)
              (omega (arith, first, most, same, seq))),
        )

    -- and the other way round
    covered_members : IsCovered (hides timeline) (covers timeline) (conflict s.rows) g
        → IsCovered (hides_at h) (covers_at h) (conflict_at h) (spread s g)
    covered_members f a i y =
        let k = (in_spread s g a).0 i in
        let own = said timeline k.0 in
        let yes = class_hides k.0 a k.2 y in
        let w = hides_told h a y in
        let over = f k.0 k.1 yes in
        let both = and_parts (nat_lt 0 own.last)
        (nat_le own.last (entry (said timeline over.0).known own.site)) over.2 in
        let some = ltb-true 0 own.last yes in
        let last = (told k.0).last some in
        let most = leb-true own.last (entry (said timeline over.0).known own.site) both.1 in
        let site : IsSite own.site = class_site k.0 yes in
        let b = (told over.0).from own.site site (omega (arith, some, most)) in
        let seq = (told k.0).hides a k.2 w in
        let one : w.op.id.site ≡ own.site = sym (site_told h a w)
        ∙ (classes.parted k.0 a last.0 k.2 last.2 ∙ (site_told h last.0 last.1 ∙ last.3)) in
        let same : entry b.1.op.past w.op.id.site ≡ entry b.1.op.past own.site =
        ap (entry b.1.op.past) one in
        let known = b.3 in
        let before = before_from a b.0 w.op b.1.op w.at b.1.at
        (omega (arith, seq, most, same, known)) in (
          b.0,
          (in_spread s g b.0).1 (over.0, over.1, b.2),
          and_from (later_at h a b.0) (shows_at h b.0)
              (and_from (shows_or_hides_at h b.0) (before_at h a b.0)
              (setter_shows h b.0 (shows_from h b.0 b.1)) before) (shows_from h b.0 b.1),
        )

  -- THE SETS THAT SHOW are those of the classes that show, spread out
  pub shown_spread : (gs : List (List ℕ))
      → AreShowing (hides timeline) (covers timeline) (conflict s.rows) (used s) gs
      → AreShowing (hides_at h) (covers_at h) (conflict_at h) us (map (spread s) gs)
  shown_spread gs t = record {
    exactly = λ q. (
      λ i.
          let w = Contains-map_from (spread s) gs q i in
          let m = (t.exactly w.0).0 w.1 in
          subst (IsShowing (hides_at h) (covers_at h) (conflict_at h) us) (sym w.2) (record {
            rises = spread_rises s w.0;
            largest = spread_largest (conflict_at h) us s classes.classes w.0 m.largest;
            covered = covered_members w.0 m.covered;
          }),
      λ m.
          let g = gathered s q in
          let same = spread_gathered (conflict_at h) us s classes.classes q m.rises m.largest in
          subst (Contains (map (spread s) gs)) same (Contains-map (spread s) gs g
          ((t.exactly g).1 (record {
            rises = gathered_rises s q;
            largest = gathered_largest (conflict_at h) us s classes.classes q m.largest;
            covered = covered_classes g (subst
                (IsCovered (hides_at h) (covers_at h) (conflict_at h)) (sym same) m.covered);
          }))),
    );
    once = AllPairs-map (spread s) gs (λ g k i j e.
        let v = (t.exactly g).0 i in
        let w = (t.exactly k).0 j in
        spread_one (conflict_at h) us s classes.classes g k v.rises w.rises v.largest.within
        w.largest.within e) t.once;
  }

-- ---- the listing

module _ (h : List Op) (valid : IsValid h) (o : ObjectId) (made : IsMade h o) (s : ClassesState)
    (classes : AreClassesOf h (positions_on h o) s) where
  abbrev t : List Says
  t = timeline h valid (positions_on h o) s classes

  pub listing_spread : (m : ℕ) (found : Option (List (List ℕ)))
      → IsShowingListing (hides (map (says_of h) s.members)) (covers (map (says_of h) s.members))
      (conflict s.rows) (used s) m found
      → IsSetListing h (positions_on h o) m (option_map (map (spread s)) found)
  listing_spread m (Some gs) w = (
    are_shown h valid o made (map (spread s) gs)
        (shown_spread h valid (positions_on h o) s classes gs w.0),
    let few = w.1 in let e = length-map gs (spread s) in omega (arith, e, few),
  )
  listing_spread m None w = record {
    sets = map (spread s) w.sets;
    all = are_shown h valid o made (map (spread s) w.sets)
        (shown_spread h valid (positions_on h o) s classes w.sets w.all);
    many = let e = length-map w.sets (spread s) in let l = w.many in omega (arith, e, l);
  }
