-- Growth by cuts from the set of none, one number after the other.
use Rattle.std.proofs.Common.{◌≡◌, ◌<◌, ◌≤◌, ◌+◌, ℕ, zero, suc, Bool, List, [], ◌∷◌, ◌++◌}
use Rattle.std.proofs.Common.{length, get_or, take, drop, inl, inr, subst, sym, arith}
use Rattle.std.proofs.Common.{cond, nat_le, ◌-◌, false}
use Rattle.std.specs.Prelude.{Contains, filter}
use Rattle.std.specs.FinMap.{nat_cmp-IsAntisymmetric}
use Rattle.std.specs.Ordering.{nat_cmp}
use Rattle.std.proofs.lemmas.Bool.{lt-leb}
use Rattle.std.proofs.lemmas.Cmp.{nat_cmp_total}
use Rattle.std.proofs.lemmas.Map.Keys.{sorted_tail}
use Rattle.std.proofs.lemmas.List.{take-append-drop, take_more, take_all}
use Rattle.std.proofs.lemmas.List.Elements.{Contains-append_left}
use Rattle.std.proofs.lemmas.List.Elements.{Contains-push, Contains-push_cases}
use Rattle.gf_base.proofs.CountLemmas.{equally_long}
use Rattle.gf_base.proofs.FilterLemmas.{Contains-filter}
use Rattle.gf_base.proofs.InsertLemmas.{inserted, holds}
use Rattle.gf_base.proofs.ListLemmas.{Contains-cons_cases, Contains-cons_head, Contains-cons_tail}
use Rattle.gf_base.proofs.ListLemmas.{not_Contains-nil}
use Rattle.gf_base.proofs.RisingLemmas.{one_rising, rising_nil, rising_front, rising_below}
use Rattle.gf_base.proofs.RisingLemmas.{below_from_less, below_tail}
use Rattle.gf_maximal.specs.Growing.{joined, common}
use Rattle.gf_maximal.specs.LargestSets.{IsRising, AreLargest, AreLargestSets}
use Rattle.gf_maximal.specs.Parents.{next_cut}
use Rattle.gf_maximal.specs.Rows.{row, conflict, AreRows}
use Rattle.gf_maximal.specs.Cutting.{IsGrown}
use Rattle.gf_maximal.proofs.GrowingLemmas.{Comes, largest_first}
use Rattle.gf_maximal.proofs.LargestLemmas.{IsConflict}
use Rattle.gf_maximal.proofs.ParentLemmas.{largest_next_cut}
use Rattle.gf_maximal.proofs.PartLemmas.{next_cut_longer}

joined_rises : (x : ℕ) (g : List ℕ) → IsRising g → IsRising (joined x g)
joined_rises x g r = inserted nat_cmp nat_cmp_total nat_cmp-IsAntisymmetric x g r

-- two lists of all largest sets are equally long
pub alike_long : (c : ℕ → ℕ → Bool) (us : List ℕ) (gs hs : List (List ℕ)) → AreLargestSets c us gs
    → AreLargestSets c us hs → length gs ≡ length hs
alike_long c us gs hs t u = equally_long gs hs t.once u.once
    (λ g. (λ i. (u.each g).1 ((t.each g).0 i), λ i. (t.each g).1 ((u.each g).0 i)))

-- numbers that rise have a list of all their largest sets
pub largest_sets : (c : ℕ → ℕ → Bool) → IsConflict c → (us : List ℕ) → IsRising us
    → (gs : List (List ℕ)) × AreLargestSets c us gs
largest_sets c s [] r = ([] ∷ [], largest_first c)
largest_sets c s (x ∷ us) r =
    let rises = sorted_tail nat_cmp x us r in
    let rest = largest_sets c s us rises in
    let d = filter (c x) us in
    let comes : Comes c us x d (x ∷ us) = record {
      rising = rises;
      fresh = λ h. let l = below_from_less x x (below_tail nat_cmp nat_cmp_total x us r x h) in
          absurd (omega arith);
      rivals = Contains-filter (c x) us;
      exactly = λ a. (
        λ h. elim (Contains-cons_cases x us a h) [ inl e ↦ inr e | inr i ↦ inl i ],
        λ h. elim h [
          | inl i ↦ Contains-cons_tail x us a i
          | inr e ↦ subst (Contains (x ∷ us)) (sym e) (Contains-cons_head x us)
        ],
      );
    } in (
      next_cut c us d x rest.0,
      largest_next_cut c s us x d (x ∷ us) comes rest.0 rest.1,
    )

module _ (rows : List (List ℕ)) (known : AreRows rows) where
  pub row_comes : (us : List ℕ) (x : ℕ) → IsRising us → ¬ (Contains us x)
      → Comes (conflict rows) us x (common (row rows x) us) (joined x us)
  row_comes us x r n = record {
    rising = r;
    fresh = n;
    rivals = λ a. Contains-filter (conflict rows x) us a;
    exactly = λ a. holds nat_cmp nat_cmp_total nat_cmp-IsAntisymmetric x us a;
  }

  pub largest_met : (us : List ℕ) (x : ℕ) (gs : List (List ℕ)) → IsRising us → ¬ (Contains us x)
      → AreLargestSets (conflict rows) us gs → AreLargestSets (conflict rows) (joined x us)
      (next_cut (conflict rows) us (common (row rows x) us) x gs)
  largest_met us x gs r n t = largest_next_cut (conflict rows)
      (record { symmetric = known.symmetric; alone = known.alone }) us x
      (common (row rows x) us) (joined x us) (row_comes us x r n) gs t

  pub grown_more : (us all : List ℕ) (x : ℕ) (gs new : List (List ℕ)) → x < length rows
      → ¬ (Contains us x) → IsGrown rows us gs → all ≡ joined x us
      → new ≡ next_cut (conflict rows) us (common (row rows x) us) x gs → IsGrown rows all new
  grown_more us all x gs new l n t e f = rw (e, f) (record {
    rising = joined_rises x us t.rising;
    below = λ a h. elim ((holds nat_cmp nat_cmp_total nat_cmp-IsAntisymmetric x us a).0 h) [
      | inl i ↦ t.below a i
      | inr d ↦ subst (λ z. z < length rows) (sym d) l
    ];
    sets = largest_met us x gs t.rising n t.sets;
  })

pub grown_first : (rows : List (List ℕ)) (us : List ℕ) (gs : List (List ℕ)) → us ≡ []
    → gs ≡ [] ∷ [] → IsGrown rows us gs
grown_first rows us gs e f = rw (e, f) (record {
  rising = rising_nil nat_cmp nat_cmp_total;
  below = λ a h. absurd (not_Contains-nil a h);
  sets = largest_first (conflict rows);
})

pub grown_each : (rows : List (List ℕ)) (us : List ℕ) (gs : List (List ℕ)) → IsGrown rows us gs
    → AreLargest (conflict rows) us gs
grown_each rows us gs t g h = ((t.sets.each g).0 h).1

-- ---- the numbers us up to a place

module _ (us : List ℕ) (rises : IsRising us) (i d : ℕ) (l : i < length us) where
  front_rises : IsRising (take i us)
  front_rises = rising_front nat_cmp nat_cmp_total (take i us) (drop i us)
      (subst IsRising (sym (take-append-drop i us)) rises)

  more_rises : IsRising (take (i + 1) us)
  more_rises = rising_front nat_cmp nat_cmp_total (take (i + 1) us) (drop (i + 1) us)
      (subst IsRising (sym (take-append-drop (i + 1) us)) rises)

  pub fresh_at : ¬ (Contains (take i us) (get_or us i d))
  fresh_at h =
      let b = below_from_less (get_or us i d) (get_or us i d)
      (rising_below nat_cmp nat_cmp_total (take i us) (get_or us i d) []
      (subst IsRising (take_more us i d l) more_rises) (get_or us i d) h) in omega arith

  pub joined_take : joined (get_or us i d) (take i us) ≡ take (i + 1) us
  joined_take =
      let x = get_or us i d in
      let has : (a : ℕ) → _ = λ a. holds nat_cmp nat_cmp_total nat_cmp-IsAntisymmetric x
      (take i us) a in
      one_rising nat_cmp nat_cmp_total (joined x (take i us)) (take (i + 1) us)
      (joined_rises x (take i us) front_rises) more_rises (λ a. (
        λ h. subst (λ z. Contains z a) (sym (take_more us i d l)) (elim ((has a).0 h) [
          | inl j ↦ Contains-append_left (take i us) (x ∷ []) a j
          | inr e ↦ subst (Contains (take i us ++ x ∷ [])) (sym e) (Contains-push (take i us) x)
        ]),
        λ h. (has a).1 (elim (Contains-push_cases (take i us) x a
            (subst (λ z. Contains z a) (take_more us i d l) h)) [
              | inl j ↦ inl j
              | inr e ↦ inr (sym e)
            ]),
      ))

module _ (rows : List (List ℕ)) (known : AreRows rows) (us : List ℕ) (rises : IsRising us)
    (hs : List (List ℕ)) (all : AreLargestSets (conflict rows) us hs) where
  -- the sets get no fewer
  falls_by : (k i : ℕ) → i + k ≡ length us → (gs : List (List ℕ))
      → AreLargestSets (conflict rows) (take i us) gs → length gs ≤ length hs
  falls_by zero i e gs t =
      let whole : take i us ≡ us = take_all i us (omega arith) in
      let same = alike_long (conflict rows) us gs hs
      (subst (λ z. AreLargestSets (conflict rows) z gs) whole t) all in omega arith
  falls_by (suc k) i e gs t =
      let l : i < length us = omega arith in
      let x = get_or us i 0 in
      let d = common (row rows x) (take i us) in
      let new = next_cut (conflict rows) (take i us) d x gs in
      let more = subst (λ z. AreLargestSets (conflict rows) z new) (joined_take us rises i 0 l)
      (largest_met rows known (take i us) x gs (front_rises us rises i 0 l)
      (fresh_at us rises i 0 l) t) in
      let deep = falls_by k (i + 1) (omega arith) new more in
      let one = next_cut_longer (conflict rows) (take i us) d x gs in
      omega arith

  pub never_falls : (i : ℕ) → i ≤ length us → (gs : List (List ℕ))
      → AreLargestSets (conflict rows) (take i us) gs → length gs ≤ length hs
  never_falls i l gs t = falls_by (length us - i) i (omega arith) gs t

  -- more sets on the way are more in the end
  pub too_many : (i most n : ℕ) → i ≤ length us → (gs : List (List ℕ))
      → AreLargestSets (conflict rows) (take i us) gs → most < length gs → n ≡ most + 1
      → n ≡ cond (nat_le (length hs) most) (length hs) (most + 1)
  too_many i most n l gs t m e =
      let f = never_falls i l gs t in
      let no : nat_le (length hs) most ≡ false = lt-leb (length hs) most (omega arith) in
      rw no e
