-- What holds of every history.
use Rattle.std.proofs.Common.{◌≡◌, ◌≢◌, ℕ, ◌-◌, ◌≤◌, ◌<◌, Bool, true, false, cond, ◌&&◌, List, []}
use Rattle.std.proofs.Common.{◌∷◌, length, get_or, refl, ap, sym, subst, ◌∙◌, arith, rules, inl}
use Rattle.std.proofs.Common.{inr, true≢false}
use Rattle.std.specs.Prelude.{◌⊎◌, IfNone, All, Contains, Option, Some, None}
use Rattle.std.specs.Prelude.{IsTrue, slice_index, slice_index_or, count_by, nat_eq}
use Rattle.std.proofs.lemmas.Bool.{cases_lt}
use Rattle.std.proofs.lemmas.Bool.Decides.{eqb_tells}
use Rattle.std.proofs.lemmas.List.Elements.{All-head, All-tail, Contains-get_or}
use Rattle.std.proofs.lemmas.List.Sums.{sum_by-cons}
use Rattle.std.proofs.lemmas.List.{get_or_default}
use Rattle.gf_ops.specs.declared.op.Op.{Op}
use Rattle.gf_ops.specs.declared.op.OpId.{OpId}
use Rattle.gf_ops.specs.declared.op.Clock.{Clock}
use Rattle.gf_ops.specs.declared.op.ObjectId.{ObjectId}
use Rattle.gf_ops.specs.declared.change.Change.TheVariants.{Set}
use Rattle.gf_ops.specs.declared.change.Value.{Value}
use Rattle.gf_ops.specs.Attribute.{Kind, made_kind, suits}
use Rattle.gf_ops.specs.Accepted.{CountsAtMost}
use Rattle.gf_ops.specs.HistoryIndex.{position, IsHistory}
use Rattle.gf_ops.specs.KnownObject.{Knows, KnowsSome, KnowsSuited}
use Rattle.gf_ops.specs.Limits.{is_id, is_clock, is_change, IsInRange}
use Rattle.gf_ops.specs.OperationOrder.{IsSite, Precedes, count_of}
use Rattle.gf_ops.specs.ValidHistory.{IsWithin, IsValid}
use Rattle.gf_ops.proofs.ValidityLemmas.{Holds, closed_by_last, same_op}

-- ---- limits

-- the first of three tests
first_of : (p q r : Bool) → IsTrue (p && q && r) → IsTrue p
first_of true q r t = refl
first_of false q r t = absurd cc

in_range_id : (a : Op) → IsInRange a → IsTrue (is_id a.id)
in_range_id a r = first_of (is_id a.id) (is_clock a.past) (is_change a.change) r

-- the parts of an id in range
id_site : (i : OpId) → IsTrue (is_id i) → IsSite i.site
id_site i t = (search rules, search rules)

id_seq : (i : OpId) → IsTrue (is_id i) → (1 ≤ i.seq) × (i.seq ≤ 10000)
id_seq i t = (search rules, search rules)

pub site_in_range : (a : Op) → IsInRange a → IsSite a.id.site
site_in_range a r = id_site a.id (in_range_id a r)

pub seq_in_range : (a : Op) → IsInRange a → (1 ≤ a.id.seq) × (a.id.seq ≤ 10000)
seq_in_range a r = id_seq a.id (in_range_id a r)

-- ---- counts

-- a test that no element passes counts none
count_none : {X : Type 0} (p : X → Bool) (xs : List X) → All (λ x. p x ≡ false) xs
    → count_by p xs ≡ 0
count_none p [] t = refl
count_none p (x ∷ xs) t =
    let i = count_none p xs (All-tail (λ y. p y ≡ false) x xs t) in
    let b = All-head (λ y. p y ≡ false) x xs t in
    sum_by-cons (λ y. cond (p y) 1 0) x xs ∙ rw b (omega (arith, i))

-- no operation is of what is no site
pub count_beyond : (h : List Op) (s : ℕ) → IsValid h → ¬ (IsSite s) → count_of h s ≡ 0
count_beyond h s v n = count_none (λ a. nat_eq a.id.site s) h (λ k d l.
    let a = get_or h k d in
    let site = site_in_range a (v.in_range a (Contains-get_or h k d l)) in
    elim (eqb_tells a.id.site s) [ inl p ↦ absurd (n (subst IsSite p.1 site)) | inr p ↦ p.0 ])

-- where operations are counted is a site
pub counted_site : (h : List Op) (s : ℕ) → IsValid h → 1 ≤ count_of h s → IsSite s
counted_site h s v l = elim (cases_lt s 1) [
  | inl m ↦ let z = count_beyond h s v (λ i. let j = i.0 in omega arith) in absurd (omega arith)
  | inr m ↦ elim (cases_lt 8 s) [
    | inl n ↦ let z = count_beyond h s v (λ i. let j = i.1 in omega arith) in absurd (omega arith)
    | inr n ↦ (omega arith, omega arith)
  ]
]

-- ---- positions

-- the operation under an id that is counted is at its position
pub position_read : (h : List Op) (rows : List (List ℕ)) (counts : Clock) (i : OpId) (row : List ℕ)
    → IsHistory h rows counts → 1 ≤ i.seq → i.seq ≤ count_of h i.site →
    row ≡ slice_index_or rows (i.seq - 1) row → (slice_index row (i.site - 1) < length h)
    × (op : Op) × (get_or h (slice_index row (i.site - 1)) op ≡ op) × (op.id ≡ i)
position_read h rows counts i row t first last e =
    let p = t.placed i (counted_site h i.site t.valid (omega arith)) first last in
    let same : slice_index_or rows (i.seq - 1) [] ≡ row = get_or_default rows (i.seq - 1) [] row
    p.row ∙ sym e in
    subst (λ (r : List ℕ). (slice_index r (i.site - 1) < length h) × (op : Op)
    × (get_or h (slice_index r (i.site - 1)) op ≡ op) × (op.id ≡ i)) same
    (p.within, p.op, p.there, p.id)

-- an id that is counted has a row
pub row_within : (h : List Op) (rows : List (List ℕ)) (counts : Clock) (i : OpId)
    → IsHistory h rows counts → 1 ≤ i.seq → i.seq ≤ count_of h i.site → i.seq - 1 < length rows
row_within h rows counts i t first last = (t.placed i (counted_site h i.site t.valid (omega arith))
    first last).row

-- a history has an operation under each id that it counts
pub has_counted : (h : List Op) (rows : List (List ℕ)) (counts : Clock) → IsHistory h rows counts
    → (i : OpId) → IsSite i.site → 1 ≤ i.seq → i.seq ≤ count_of h i.site → Holds h i
has_counted h rows counts t i site first last =
    let p = t.placed i site first last in
    record { op = p.op; contained = (position rows i, p.within, p.there); id = p.id; such = tt }

-- no operation has an id that is not counted
pub not_counted : (h : List Op) (rows : List (List ℕ)) (counts : Clock) (i : OpId)
    → IsHistory h rows counts → (i.seq < 1) ⊎ (count_of h i.site < i.seq) → (op : Op)
    → Contains h op → op.id ≢ i
not_counted h rows counts i t out op c e =
    let r = t.reached op c in
    let first = (seq_in_range op (t.valid.in_range op c)).0 in
    let site : op.id.site ≡ i.site = ap (λ (j : OpId). j.site) e in
    let seq : op.id.seq ≡ i.seq = ap (λ (j : OpId). j.seq) e in
    let last = rw site at r in
    elim out [ inl l ↦ absurd (omega arith) | inr l ↦ absurd (omega arith) ]

-- ---- the object that an operation changes

-- an operation knows an object as one of one kind
one_kind : (h : List Op) → IsValid h → (a : Op) (o : ObjectId) (k l : Kind) → Knows h a o k
    → Knows h a o l → k ≡ l
one_kind h valid a o k l x y =
    let p = x.made in
    let q = y.made in
    let same = same_op h valid p.op q.op p.contained q.contained (p.id ∙ sym q.id) in
    let e : Some k ≡ Some l = sym p.such ∙ (ap (λ (b : Op). made_kind b.change) same ∙ q.such) in cc

pub not_suited : (h : List Op) → IsValid h → (a : Op) (o : ObjectId) (k : Kind) (v : Value)
    → Knows h a o k → suits k v ≡ false → ¬ (KnowsSuited h a o v)
not_suited h valid a o k v x off s = let e = one_kind h valid a o k s.kind x s.known in
    absurd (true≢false (sym s.suited ∙ (ap (λ j. suits j v) (sym e) ∙ off)))

-- what was set was not made
pub not_made : (h : List Op) → IsValid h → (a maker : Op) (o p : ObjectId) (v : Value)
    (aim : List OpId) → Contains h maker → maker.id ≡ o.0 → maker.change ≡ Set p v aim
    → ¬ (KnowsSome h a o)
not_made h valid a maker o p v aim c id e s =
    let x = s.known.made in
    let same = same_op h valid x.op maker x.contained c (x.id ∙ sym id) in
    let none : made_kind x.op.change ≡ None = ap (λ (b : Op). made_kind b.change) same
    ∙ ap made_kind e in
    let some = x.such in cc

pub not_there : (h : List Op) (a : Op) (o : ObjectId) → ((b : Op) → Contains h b → b.id ≢ o.0)
    → ¬ (KnowsSome h a o)
not_there h a o none s =
    none s.known.made.op s.known.made.contained s.known.made.id

pub none_told : {X : Type 0} (A : Type 0) (r : Option X) → A → IfNone r A
none_told A None a = a
none_told A (Some x) a = tt

-- ---- what the operations that an operation knows knew

module _ (h : List Op) (a b : Op) (s j : ℕ) (from : j ≡ s) (there : Contains h b)
    (before : Precedes b a) (site : b.id.site ≡ s) where
  -- the last operation of the site of b that a knows decides for b
  pub closed_by_found : IsValid h → (last : Op) → Contains h last → last.id ≡ record {
    site = s;
    seq = slice_index a.past.0 (j - 1);
  } → IsWithin last.past a.past → IsWithin b.past a.past
  closed_by_found valid last c id within =
      let known : last.id.site ≡ s = ap (λ (i : OpId). i.site) id in
      let number : last.id.seq ≡ slice_index a.past.0 (j - 1) = ap (λ (i : OpId). i.seq) id in
      let range = valid.in_range b there in
      closed_by_last h valid a last b c (rw (known, ← from) number) within there
      (site_in_range b range) (seq_in_range b range).0 (site ∙ sym known) before

  -- and there is one
  pub closed_by_none : (rows : List (List ℕ)) (counts : Clock) → IsHistory h rows counts
      → CountsAtMost a.past h → ((op : Op) → Contains h op
      → op.id ≢ record { site = s; seq = slice_index a.past.0 (j - 1) }) → ⊥
  closed_by_none rows counts t within none =
      let range = t.valid.in_range b there in
      let is : IsSite s = subst IsSite site (site_in_range b range) in
      let first = (seq_in_range b range).0 in
      let last : b.id.seq ≤ slice_index a.past.0 (s - 1) = rw site at before in
      let most = within s is in
      let holds = has_counted h rows counts t
      (record { site = s; seq = slice_index a.past.0 (j - 1) }) is (rw from (omega arith))
      (rw from most) in
      none holds.op holds.contained holds.id
