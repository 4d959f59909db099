-- What holds of the entries that a buffer keeps.
use Rattle.std.proofs.Common.{Bor, ℕ, ◌≡◌, ◌≢◌, List, [], ◌∷◌, ◌++◌, Bool, true, false, cond, inl}
use Rattle.std.proofs.Common.{inr, refl, ap, subst, sym, ◌∙◌, arith}
use Rattle.std.specs.Prelude.{Contains, Option, Some, None, IfSome, IfNone, option_copied}
use Rattle.std.specs.declared.cmp.Ordering.{Ordering}
use Rattle.std.specs.declared.cmp.Ordering.TheVariants.{Less, Equal, Greater}
use Rattle.std.specs.Ordering.{nat_cmp, match_ordering}
use Rattle.std.specs.Cmp.{IsTotalOrder, nat_cmp_total, eq_by_cmp_equiv}
use Rattle.std.specs.BTreeMap.{is_at, insert_entry}
use Rattle.std.specs.Map.{keys_of, values_of, lookup, remove_entry}
use Rattle.std.specs.List.Sorted.{IsStrictlySortedBy}
use Rattle.std.proofs.lemmas.Cmp.{then_total, on_total}
use Rattle.std.proofs.lemmas.Map.Lookups.{CmpEqualImpliesEq, exact_pairs, exact_unsigned}
use Rattle.std.proofs.lemmas.Map.Views.{tells_apart, Contains-from_lookup, lookup-from_Contains}
use Rattle.std.proofs.lemmas.Map.Keys.{IsDistinct-from_sorted}
use Rattle.gf_ops.specs.declared.op.Op.{Op}
use Rattle.gf_ops.specs.declared.op.OpId.{OpId}
use Rattle.gf_ops.specs.Limits.{IsInRange}
use Rattle.gf_ops.specs.OperationOrder.{id_cmp}
use Rattle.gf_causal.specs.HeldOperations.{ids_of, IsFree, Adds}
use Rattle.gf_causal.specs.Keeping.{keyed, IsKept}
use Rattle.gf_base.proofs.ListLemmas.{Contains-cons_head, Contains-cons_tail, Contains-map}
use Rattle.gf_base.proofs.ListLemmas.{Contains-map_from}
use Rattle.gf_causal.proofs.ListLemmas.{Contains-between, Contains-between_cases}

-- ids that compare alike are one
pub exact_ids : CmpEqualImpliesEq id_cmp
exact_ids i j h =
    let e = exact_pairs nat_cmp nat_cmp exact_unsigned exact_unsigned (i.site, i.seq)
    (j.site, j.seq) h in
    ap (λ (p : ℕ × ℕ). record { site = p.0; seq = p.1 }) e

pub ids_total : IsTotalOrder id_cmp
ids_total = then_total (on_total (λ i. i.site) nat_cmp_total) (on_total (λ i. i.seq) nat_cmp_total)

keys-keyed : (ops : List Op) → keys_of (keyed ops) ≡ ids_of ops
keys-keyed [] = refl
keys-keyed (a ∷ ops) = ap (λ is. a.id ∷ is) (keys-keyed ops)

values-keyed : (ops : List Op) → values_of (keyed ops) ≡ ops
values-keyed [] = refl
values-keyed (a ∷ ops) = ap (λ r. a ∷ r) (values-keyed ops)

-- no entries are those of an empty buffer
pub IsKept-nil : (es : List (OpId × Op)) → es ≡ [] → IsKept es
unfolding IsStrictlySortedBy
IsKept-nil es e = rw e (record {
  keys = refl;
  held = record { in_range = λ a (k, l, q). absurd (omega arith); rising = tt };
})

module _ (es : List (OpId × Op)) (kept : IsKept es) where
  -- an operation is found under its id
  lookup-held : (a : Op) → Contains (values_of es) a → lookup (is_at (id_cmp a.id)) es ≡ Some a
  lookup-held a h =
      let d = IsDistinct-from_sorted id_cmp (ids_of (values_of es)) kept.held.rising in
      let c = Contains-map (λ (b : Op). (b.id, b)) (values_of es) a h in
      let f = lookup-from_Contains (eq_by_cmp_equiv ids_total) a.id a (keyed (values_of es))
      (rw (keys-keyed (values_of es)) d) c in
      rw kept.keys f

  -- what is found is held, under this id
  held_from_lookup : (i : OpId) (a : Op) → lookup (is_at (id_cmp i)) es ≡ Some a
      → Contains (values_of es) a × (a.id ≡ i)
  held_from_lookup i a e =
      let c = Contains-from_lookup (tells_apart exact_ids) i a es e in
      let m = Contains-map_from (λ (b : Op). (b.id, b)) (values_of es) (i, a)
      (subst (λ r. Contains r (i, a)) kept.keys c) in
      let b = ap (λ (p : OpId × Op). p.1) m.2 in (
        subst (Contains (values_of es)) (sym b) m.1,
        ap (λ (x : Op). x.id) b ∙ sym (ap (λ (p : OpId × Op). p.0) m.2),
      )

  -- operations under one id are one
  pub one_held : (a b : Op) → Contains (values_of es) a → Contains (values_of es) b → a.id ≡ b.id
      → a ≡ b
  one_held a b h k e =
      let f = lookup-held a h in
      let g = subst (λ i. lookup (is_at (id_cmp i)) es ≡ Some b) (sym e) (lookup-held b k) in cc

  pub found_held : (i : OpId) (r : Option (Bor Op)) → option_copied r ≡ lookup (is_at (id_cmp i)) es
      → IfSome r (λ op. Contains (values_of es) op.now × (op.now.id ≡ i))
  found_held i None e = tt
  found_held i (Some op) e = held_from_lookup i op.now (sym e)

  pub none_held : (i : OpId) (r : Option (Bor Op)) → option_copied r ≡ lookup (is_at (id_cmp i)) es
      → IfNone r (IsFree (values_of es) i)
  none_held i None e = λ a h q. let f = subst (λ j. lookup (is_at (id_cmp j)) es ≡ Some a) q
      (lookup-held a h) in absurd cc
  none_held i (Some op) e = tt

  -- under an id that is free nothing is found
  lookup-free : (i : OpId) → IsFree (values_of es) i → lookup (is_at (id_cmp i)) es ≡ None
  lookup-free i free = none_found (lookup (is_at (id_cmp i)) es) refl
    where
      none_found : (r : Option Op) → lookup (is_at (id_cmp i)) es ≡ r
          → lookup (is_at (id_cmp i)) es ≡ None
      none_found None e = e
      none_found (Some a) e = let f = held_from_lookup i a e in absurd (free a f.0 f.1)

-- the entries es are those of ops with a at its place
record Put (ops : List Op) (a : Op) (es : List (OpId × Op)) : Type 0 where
  before : List Op
  after : List Op
  without : ops ≡ before ++ after
  entries : es ≡ keyed (before ++ a ∷ after)

put_here : (ops : List Op) (a : Op) → Put ops a (keyed (a ∷ ops))
put_here ops a = record { before = []; after = ops; without = refl; entries = refl }

put_later : (b : Op) (ops : List Op) (a : Op) (es : List (OpId × Op)) → Put ops a es
    → Put (b ∷ ops) a ((b.id, b) ∷ es)
put_later b ops a es p = record {
  before = b ∷ p.before;
  after = p.after;
  without = ap (λ r. b ∷ r) p.without;
  entries = ap (λ r. (b.id, b) ∷ r) p.entries;
}

put_by : (b : Op) (ops : List Op) (a : Op) (o : Ordering) → id_cmp a.id b.id ≡ o → a.id ≢ b.id
    → Put ops a (insert_entry id_cmp (keyed ops) a.id a) →
    Put (b ∷ ops) a (match_ordering o (keyed (a ∷ b ∷ ops)) ((b.id, a) ∷ keyed ops)
    ((b.id, b) ∷ insert_entry id_cmp (keyed ops) a.id a))
put_by b ops a Less e n p = put_here (b ∷ ops) a
put_by b ops a Equal e n p = absurd (n (exact_ids a.id b.id e))
put_by b ops a Greater e n p = put_later b ops a (insert_entry id_cmp (keyed ops) a.id a) p

put-insert : (ops : List Op) (a : Op) → IsFree ops a.id
    → Put ops a (insert_entry id_cmp (keyed ops) a.id a)
put-insert [] a f = put_here [] a
put-insert (b ∷ ops) a f =
    put_by b ops a (id_cmp a.id b.id) refl (λ e. f b (Contains-cons_head b ops) (sym e))
    (put-insert ops a (λ c h. f c (Contains-cons_tail b ops c h)))

module _ (es : List (OpId × Op)) (kept : IsKept es) (a : Op) (free : IsFree (values_of es) a.id)
    (fs : List (OpId × Op)) (inserted : fs ≡ insert_entry id_cmp es a.id a) where
  put_kept : Put (values_of es) a fs
  put_kept = rw inserted (subst (λ r. Put (values_of es) a (insert_entry id_cmp r a.id a))
      (sym kept.keys) (put-insert (values_of es) a free))

  pub Adds-insert : Adds (values_of es) a (values_of fs)
  Adds-insert =
      let p = put_kept in
      record {
        before = p.before;
        after = p.after;
        without = p.without;
        with_it = ap values_of p.entries ∙ values-keyed (p.before ++ a ∷ p.after);
      }

  pub IsKept-insert : IsInRange a → IsStrictlySortedBy id_cmp (keys_of fs) → IsKept fs
  IsKept-insert r s =
      let p = put_kept in
      let v = ap values_of p.entries ∙ values-keyed (p.before ++ a ∷ p.after) in
      record {
        keys = rw v p.entries;
        held = record {
          in_range = λ b h. elim (Contains-between_cases p.before a p.after b
              (subst (λ r. Contains r b) v h)) [
                | inl e ↦ subst IsInRange (sym e) r
                | inr m ↦ kept.held.in_range b (subst (λ r. Contains r b) (sym p.without) m)
              ];
          rising = rw (v, ← keys-keyed (p.before ++ a ∷ p.after), ← p.entries) s;
        };
      }

-- the entries es are those of ops without a
record Taken (ops : List Op) (a : Op) (es : List (OpId × Op)) : Type 0 where
  before : List Op
  after : List Op
  with_it : ops ≡ before ++ a ∷ after
  entries : es ≡ keyed (before ++ after)

taken_by : (b : Op) (ops : List Op) (i : OpId) (a : Op) (t : Bool)
    → cond t (Some b) (lookup (is_at (id_cmp i)) (keyed ops)) ≡ Some a →
    (lookup (is_at (id_cmp i)) (keyed ops) ≡ Some a
    → Taken ops a (remove_entry (is_at (id_cmp i)) (keyed ops))) →
    Taken (b ∷ ops) a (cond t (keyed ops) ((b.id, b) ∷ remove_entry (is_at (id_cmp i)) (keyed ops)))
taken_by b ops i a true e k = let q : b ≡ a = cc in record {
  before = [];
  after = ops;
  with_it = ap (λ x. x ∷ ops) q;
  entries = refl;
}
taken_by b ops i a false e k =
    let t = k e in
    record {
      before = b ∷ t.before;
      after = t.after;
      with_it = ap (λ r. b ∷ r) t.with_it;
      entries = ap (λ r. (b.id, b) ∷ r) t.entries;
    }

taken-remove : (ops : List Op) (i : OpId) (a : Op) → lookup (is_at (id_cmp i)) (keyed ops) ≡ Some a
    → Taken ops a (remove_entry (is_at (id_cmp i)) (keyed ops))
taken-remove [] i a e = absurd cc
taken-remove (b ∷ ops) i a e = taken_by b ops i a (is_at (id_cmp i) b.id) e (taken-remove ops i a)

-- where nothing is found, nothing is taken out
remove-none : (test : OpId → Bool) (es : List (OpId × Op)) → lookup test es ≡ None
    → remove_entry test es ≡ es
remove-none test [] e = refl
remove-none test ((i, a) ∷ es) e = by_test (test i) e (remove-none test es)
  where
    by_test : (t : Bool) → cond t (Some a) (lookup test es) ≡ None
        → (lookup test es ≡ None → remove_entry test es ≡ es)
        → cond t es ((i, a) ∷ remove_entry test es) ≡ (i, a) ∷ es
    by_test true e k = absurd cc
    by_test false e k = ap (λ r. (i, a) ∷ r) (k e)

-- what the entries es and a look-up under the id i become when that id is taken out
module _ (es : List (OpId × Op)) (kept : IsKept es) (i : OpId) (r : Option Op)
    (found : r ≡ lookup (is_at (id_cmp i)) es) (fs : List (OpId × Op))
    (removed : fs ≡ remove_entry (is_at (id_cmp i)) es) where
  taken_kept : (a : Op) → lookup (is_at (id_cmp i)) es ≡ Some a → Taken (values_of es) a fs
  taken_kept a e = rw removed
      (subst (λ r. Taken (values_of es) a (remove_entry (is_at (id_cmp i)) r)) (sym kept.keys)
      (taken-remove (values_of es) i a (subst (λ r. lookup (is_at (id_cmp i)) r ≡ Some a) kept.keys
      e)))

  pub take_held : (a : Op) → Contains (values_of es) a → a.id ≡ i
      → (r ≡ Some a) × Adds (values_of fs) a (values_of es)
  take_held a h q =
      let e = subst (λ i. lookup (is_at (id_cmp i)) es ≡ Some a) q (lookup-held es kept a h) in
      let t = taken_kept a e in (
        found ∙ e,
        record {
          before = t.before;
          after = t.after;
          without = ap values_of t.entries ∙ values-keyed (t.before ++ t.after);
          with_it = t.with_it;
        },
      )

  pub take_free : IsFree (values_of es) i → (r ≡ None) × (values_of fs ≡ values_of es)
  take_free free = let e = lookup-free es kept i free in
      (found ∙ e, ap values_of (removed ∙ remove-none (is_at (id_cmp i)) es e))

  pub IsKept-take : IsStrictlySortedBy id_cmp (keys_of fs) → IsKept fs
  IsKept-take s = by_found (lookup (is_at (id_cmp i)) es) refl
    where
      by_found : (r : Option Op) → lookup (is_at (id_cmp i)) es ≡ r → IsKept fs
      by_found None e = rw (removed, remove-none (is_at (id_cmp i)) es e) kept
      by_found (Some a) e =
          let t = taken_kept a e in
          let v = ap values_of t.entries ∙ values-keyed (t.before ++ t.after) in
          record {
            keys = rw v t.entries;
            held = record {
              in_range = λ b h. kept.held.in_range b
                  (subst (λ r. Contains r b) (sym t.with_it)
                  (Contains-between t.before a t.after b (subst (λ r. Contains r b) v h)));
              rising = rw (v, ← keys-keyed (t.before ++ t.after), ← t.entries) s;
            };
          }
