-- What an operation knows that a drawing did not know.
use Rattle.std.proofs.Common.{◌≡◌, ◌≢◌, ℕ, ◌+◌, ◌<◌, ◌≤◌, List, [], ◌∷◌, ◌++◌, length, get_or, take}
use Rattle.std.proofs.Common.{inl, inr, sym, subst, ◌∙◌, arith, ap}
use Rattle.std.specs.Prelude.{Contains, IfNone, IfSome, None, Option, Some}
use Rattle.std.proofs.lemmas.Bool.{le-leb, leb-true}
use Rattle.std.proofs.lemmas.List.{take_more}
use Rattle.std.proofs.lemmas.List.Elements.{Contains-push_cases}
use Rattle.gf_ops.specs.declared.op.Op.{Op}
use Rattle.gf_ops.specs.declared.op.OpId.{OpId}
use Rattle.gf_ops.specs.declared.op.Clock.{Clock}
use Rattle.gf_ops.specs.OperationOrder.{IsSite, Precedes, count_of, entry}
use Rattle.gf_ops.specs.ValidHistory.{IsValid}
use Rattle.gf_ops.proofs.CountedLemmas.{number_counted}
use Rattle.gf_ops.proofs.HistoryLemmas.{site_in_range}
use Rattle.gf_take.specs.Reaching.{AreReached}
use Rattle.gf_take.proofs.ReachLemmas.{counted_known, known_counted}
use Rattle.gf_take_run.specs.KnownHistory.{IsNewer, WasKnown}
use Rattle.gf_take_run.specs.TakeSteps.{IsBeyond, IsNewerThan}

module _ (s : ℕ) (knew : Clock) (h : List Op) (valid : IsValid h) (known : Clock)
    (reached : AreReached 0 knew h known) where
  site_of : (a : Op) → Contains h a → IsSite a.id.site
  site_of a m = site_in_range a (valid.in_range a m)

  -- what the drawing knew is counted
  was_counted : (x : Op) → Contains h x → WasKnown knew h x → x.id.seq ≤ entry known x.id.site
  was_counted x m w =
      leb-true x.id.seq (entry known x.id.site) (known_counted 0 knew h valid known reached x
      (record {
        contained = m;
        counted = w.counted;
        there = w.contained;
        is_own_or_counted = inl w.within;
        known = w.known;
      }))

  -- what is counted the drawing knew
  counted_was : (x : Op) → Contains h x → x.id.seq ≤ entry known x.id.site → WasKnown knew h x
  counted_was x m l =
      let k = counted_known 0 knew h valid known reached x m
      (le-leb x.id.seq (entry known x.id.site) l) in
      elim k.is_own_or_counted [
        | inl w ↦ record { counted = k.counted; contained = k.there; within = w; known = k.known }
        | inr z ↦ let i = site_of k.counted k.there in let f = i.0 in absurd (omega (arith, z, f))
      ]

  -- an operation of the site behind the drawing that knows more of another site is newer
  pub beyond_newer : (a : Op) → Contains h a → a.id.site ≡ s → entry knew s < a.id.seq → (i : OpId)
      → IsBeyond s a.past known i → IsNewerThan s knew h a i
  beyond_newer a m own after i b =
      let fewer = b.fewer in
      let last = b.last in
      let t = valid.closed a m i
      (record { site = b.site; first = omega arith; last = omega (arith, last) }) in
      let site = ap (λ (j : OpId). j.site) t.id in
      let seq = ap (λ (j : OpId). j.seq) t.id in
      record {
        known = t.op;
        newer = record {
          contained = m;
          own = own;
          after = after;
          there = t.contained;
          other = λ e. b.other (sym site ∙ e);
          knows = before t.op site seq;
          unknown = λ w.
              let l = subst (λ k. t.op.id.seq ≤ entry known k) site (was_counted t.op t.contained w)
              in
              absurd (omega (arith, l, seq, fewer));
        };
        id = sym t.id;
      }
    where
      before : (x : Op) → x.id.site ≡ i.site → x.id.seq ≡ i.seq → Precedes x a
      before x site seq =
          let last = b.last in
          subst (λ t. x.id.seq ≤ entry a.past t) (sym site) (omega (arith, seq, last))

  -- where it knows no more of others, it is not newer
  pub within_not_newer : (a : Op) → ((t : ℕ) → IsSite t → t ≢ s → entry a.past t ≤ entry known t)
      → (x : Op) → ¬ (IsNewer s knew h a x)
  within_not_newer a l x n =
      let w = l x.id.site (site_of x n.there) n.other in
      n.unknown (counted_was x n.there (below w))
    where
      below : entry a.past x.id.site ≤ entry known x.id.site → x.id.seq ≤ entry known x.id.site
      below w = let k = n.knows in omega (arith, k, w)

-- where the drawing knew all operations of the site, none is newer
pub none_newer : (s : ℕ) (knew : Clock) (h : List Op) → IsValid h → count_of h s ≤ entry knew s
    → (a x : Op) → ¬ (IsNewer s knew h a x)
none_newer s knew h valid all a x n =
    let own : a.id.seq ≤ count_of h s = subst (λ t. a.id.seq ≤ count_of h t) n.own
    (number_counted h valid a n.contained) in
    let after = n.after in
    absurd (omega (arith, own, all, after))

-- one more operation that is not bad
pub none_more : (Bad : Op → Type 0) (ops : List Op) (k : ℕ) (a : Op) → k < length ops
    → a ≡ get_or ops k a → ((b : Op) → Contains (take k ops) b → ¬ (Bad b)) → ¬ (Bad a)
    → (b : Op) → Contains (take (k + 1) ops) b → ¬ (Bad b)
none_more Bad ops k a l is before not b m bad =
    elim (Contains-push_cases (take k ops) a b (subst (λ (os : List Op). Contains os b) more m)) [
      | inl j ↦ before b j bad
      | inr q ↦ not (subst Bad (sym q) bad)
    ]
  where
    more : take (k + 1) ops ≡ take k ops ++ a ∷ []
    more = take_more ops k a l ∙ ap (λ (b : Op). take k ops ++ b ∷ []) (sym is)

pub some_lifted : {A : Type 0} (P Q : A → Type 0) (r : Option A) → ((a : A) → P a → Q a)
    → IfSome r P → IfSome r Q
some_lifted P Q (Some a) f p = f a p
some_lifted P Q None f p = tt

pub none_lifted : {A : Type 0} (P Q : Type 0) (r : Option A) → (P → Q) → IfNone r P → IfNone r Q
none_lifted P Q (Some a) f p = tt
none_lifted P Q None f p = f p
