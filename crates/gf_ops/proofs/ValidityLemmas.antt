-- Valid histories: what they keep, and that they stay valid with one more operation behind them.
use Rattle.std.proofs.Common.{◌≡◌, ◌≢◌, ◌+◌, ◌≤◌, List, [], ◌∷◌, ◌++◌, get_or, subst, sym, ap, ◌∙◌}
use Rattle.std.proofs.Common.{arith, inl, inr}
use Rattle.std.specs.Prelude.{Contains, ⊤}
use Rattle.std.proofs.lemmas.Bool.{cases_eq, cases_order}
use Rattle.std.proofs.lemmas.List.{get_or_default}
use Rattle.std.proofs.lemmas.List.Elements.{Contains-get_or, Contains-push_cases}
use Rattle.std.proofs.lemmas.List.Elements.{Contains-append_left}
use Rattle.std.proofs.lemmas.List.Quantifiers.{all_pairs_push}
use Rattle.gf_ops.specs.declared.op.Op.{Op}
use Rattle.gf_ops.specs.declared.op.OpId.{OpId}
use Rattle.gf_ops.specs.declared.change.Change.{Change}
use Rattle.gf_ops.specs.declared.change.Change.TheVariants.{Create, Set}
use Rattle.gf_ops.specs.Aims.{AimsAt, IsAimed}
use Rattle.gf_ops.specs.HasOperation.{HasSuch}
use Rattle.gf_ops.specs.KnownObject.{IsSuited}
use Rattle.gf_ops.specs.Limits.{IsInRange}
use Rattle.gf_ops.specs.OperationOrder.{IsSite, Precedes, entry, count_of}
use Rattle.gf_ops.specs.ValidHistory.{IsWithin, Counts, Has, IsValid}
use Rattle.gf_ops.specs.Accepted.{IsNext}

-- h has an operation under id i
abbrev pub Holds : List Op → OpId → Type 0
Holds h i = HasSuch h i (λ op. ⊤)

-- what a part of h has, h has
abbrev pub has_beyond : {i : OpId} {P : Op → Type 0} (part h : List Op)
    → ((x : Op) → Contains part x → Contains h x) → HasSuch part i P → HasSuch h i P
has_beyond part h inside t =
    record { op = t.op; contained = inside t.op t.contained; id = t.id; such = t.such }

-- what h has, it still has with a behind it
abbrev has_before : {i : OpId} {P : Op → Type 0} (h : List Op) (a : Op) → HasSuch h i P
    → HasSuch (h ++ a ∷ []) i P
has_before h a = has_beyond h (h ++ a ∷ []) (Contains-append_left h (a ∷ []))

-- what suits by a part of h suits by h
pub suited_beyond : (part h : List Op) → ((x : Op) → Contains part x → Contains h x)
    → (a : Op) (c : Change) → IsSuited part a c → IsSuited h a c
suited_beyond part h inside a (Create start) s = tt
suited_beyond part h inside a (Set o v aim) s = record {
  kind = s.kind;
  known = record { made = has_beyond part h inside s.known.made; before = s.known.before };
  suited = s.suited;
}

-- the next operation knows no operation that h lacks
counted : (h : List Op) (a : Op) (i : OpId) → IsNext h a → Counts a.past i
    → i.seq ≤ count_of h i.site
counted h a i next c = let most = next.known i.site c.site in let last = c.last in omega arith

-- an aim is still one with another operation behind h
aimed_before : (h : List Op) (a b : Op) → ((x : Op) → Contains h x → x.id ≢ a.id) → IsAimed h b
    → IsAimed (h ++ a ∷ []) b
aimed_before h a b fresh t = record {
  each = λ i c.
      let m = t.each i c in
      record { on = has_before h a m.on; before = m.before; within = m.within };
  compatible = λ x y m n. t.compatible x y (was x m) (was y n);
}
  where
    was : (x : Op) → AimsAt (h ++ a ∷ []) b x → AimsAt h b x
    was x m = elim (Contains-push_cases h a x m.contained) [
      | inl k ↦ record { contained = k; aimed = m.aimed }
      | inr e ↦ let w = (t.each x.id m.aimed).on in
          absurd (fresh w.op w.contained (w.id ∙ ap (λ (z : Op). z.id) (sym e)))
    ]

-- an operation that the next one knows is there, with all that it knows
next_closed : (h : List Op) (a : Op) (i : OpId) → IsNext h a → Counts a.past i → Holds h i
    → Has h a.past i
next_closed h a i next c t = record {
  op = t.op;
  contained = t.contained;
  id = t.id;
  such = next.closed t.op t.contained (subst (λ (j : OpId). j.seq ≤ entry a.past j.site) (sym t.id)
      c.last);
}

-- the next operation, whose change suits and whose aim is one, keeps a history valid, if its id is
-- new and the history has as many operations of each site as it counts
pub IsValid-push : (h : List Op) (a : Op) → IsValid h → IsInRange a → IsNext h a
    → IsSuited h a a.change → IsAimed h a →
    (fresh : (b : Op) → Contains h b → b.id ≢ a.id) →
    (known : (i : OpId) → IsSite i.site → 1 ≤ i.seq → i.seq ≤ count_of h i.site → Holds h i) →
    IsValid (h ++ a ∷ [])
IsValid-push h a valid in_range next suited aimed fresh known = record {
  in_range = λ b m. elim (Contains-push_cases h a b m) [
    | inl k ↦ valid.in_range b k
    | inr e ↦ subst IsInRange e in_range
  ];
  distinct = all_pairs_push (λ x y. x.id ≢ y.id) h a valid.distinct
      (λ k d l. fresh (get_or h k d) (Contains-get_or h k d l));
  own = λ b m. elim (Contains-push_cases h a b m) [
    | inl k ↦ valid.own b k
    | inr e ↦ subst (λ (x : Op). entry x.past x.id.site + 1 ≡ x.id.seq) e next.numbered.own
  ];
  closed = λ b m i c. elim (Contains-push_cases h a b m) [
    | inl k ↦ has_before h a (valid.closed b k i c)
    | inr e ↦
        let d : Counts a.past i = subst (λ (x : Op). Counts x.past i) (sym e) c in
        let t = next_closed h a i next d (known i d.site d.first (counted h a i next d)) in
        has_before h a (subst (λ (x : Op). Has h x.past i) e t)
  ];
  suited = λ b m. elim (Contains-push_cases h a b m) [
    | inl k ↦ suited_before b (valid.suited b k)
    | inr e ↦ subst (λ (x : Op). IsSuited (h ++ a ∷ []) x x.change) e (suited_before a suited)
  ];
  aimed = λ b m. elim (Contains-push_cases h a b m) [
    | inl k ↦ aimed_before h a b fresh (valid.aimed b k)
    | inr e ↦ subst (IsAimed (h ++ a ∷ [])) e (aimed_before h a a fresh aimed)
  ];
}
  where
    suited_before : (b : Op) → IsSuited h b b.change → IsSuited (h ++ a ∷ []) b b.change
    suited_before b = suited_beyond h (h ++ a ∷ []) (Contains-append_left h (a ∷ [])) b b.change

-- an operation of a valid history is the only one under its id
pub same_op : (h : List Op) → IsValid h → (a b : Op) → Contains h a → Contains h b → a.id ≡ b.id
    → a ≡ b
same_op h valid a b (i, l, e) (j, m, f) s = elim (cases_order i j) [
  | inl k ↦ let u = get_or_default h i a b l in let v : get_or h i b ≡ get_or h j b = ap
      (λ n. get_or h n b) k in cc
  | inr k ↦ elim k [
    | inl n ↦ let g = valid.distinct i j b n m in let u = get_or_default h i a b l in
        absurd (g (ap (λ (x : Op). x.id) (sym u ∙ e) ∙ (s ∙ sym (ap (λ (x : Op). x.id) f))))
    | inr n ↦ let g = valid.distinct j i a n l in let u = get_or_default h j a b m in
        absurd (g (ap (λ (x : Op). x.id) (u ∙ f) ∙ (sym s ∙ sym (ap (λ (x : Op). x.id) e))))
  ]
]

-- the pasts of one site only grow
pub pasts_grow : (h : List Op) → IsValid h → (a b : Op) → Contains h a → Contains h b
    → a.id.site ≡ b.id.site → IsSite a.id.site → 1 ≤ a.id.seq → a.id.seq ≤ b.id.seq
    → IsWithin a.past b.past
pasts_grow h valid a b x y site is first last = elim (cases_eq a.id.seq b.id.seq) [
  | inl e ↦ subst (λ (c : Op). IsWithin a.past c.past)
      (same_op h valid a b x y (λ j. record { site = site j; seq = e j })) (λ s i. omega arith)
  | inr n ↦
      let own = valid.own b y in
      let known : a.id.seq ≤ entry b.past a.id.site = rw site (omega arith) in
      let has = valid.closed b y a.id (record { site = is; first = first; last = known }) in
      subst (λ (c : Op). IsWithin c.past b.past) (same_op h valid has.op a has.contained x has.id)
      has.such
]

-- no operation comes before itself
pub precedes_irreflexive : (h : List Op) → IsValid h → (a : Op) → Contains h a → ¬ (Precedes a a)
precedes_irreflexive h valid a x before = let own = valid.own a x in absurd (omega arith)

-- and each knows what those that it knows knew
pub precedes_transitive : (h : List Op) → IsValid h → (a b c : Op) → Contains h b → Contains h c
    → IsSite a.id.site → IsSite b.id.site → 1 ≤ b.id.seq → Precedes a b → Precedes b c
    → Precedes a c
precedes_transitive h valid a b c y z site other first before after =
    let has = valid.closed c z b.id (record { site = other; first = first; last = after }) in
    let grown = subst (λ (d : Op). IsWithin d.past c.past)
    (same_op h valid has.op b has.contained y has.id) has.such a.id.site site in
    omega arith

-- where the last operation of a site that a knows knew no more than a, no operation of that site
-- that a knows did
pub closed_by_last : (h : List Op) → IsValid h → (a last b : Op) → Contains h last
    → last.id.seq ≡ entry a.past last.id.site → IsWithin last.past a.past → Contains h b
    → IsSite b.id.site → 1 ≤ b.id.seq →
    b.id.site ≡ last.id.site → Precedes b a → IsWithin b.past a.past
closed_by_last h valid a last b x seq within y site first same before s i =
    let known = rw same at before in
    let grown = pasts_grow h valid b last y x same site first (omega arith) s i in
    let rest = within s i in omega arith
