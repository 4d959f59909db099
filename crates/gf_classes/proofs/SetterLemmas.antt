-- The setters of an object in a valid history, sorted: the later ones of a site know more.
use Rattle.std.proofs.Common.{◌≡◌, ℕ, ◌<◌, ◌≤◌, ◌+◌, ◌-◌, List, [], ◌∷◌, ◌++◌, length, get_or}
use Rattle.std.proofs.Common.{inl, inr, refl, subst, sym, ap, ◌∙◌, arith}
use Rattle.std.specs.Prelude.{◌⊎◌, Contains, Option, Some, None, slice_get}
use Rattle.std.specs.List.Sorted.{IsPermutation, IsNonDecreasingBy}
use Rattle.std.proofs.lemmas.Bool.{cases_lt}
use Rattle.std.proofs.lemmas.List.Elements.{Contains-push, Contains-push_cases}
use Rattle.std.proofs.lemmas.List.Elements.{Contains-append_left}
use Rattle.std.proofs.lemmas.List.Sorted.{Contains-permutation, IsPermutation-sym}
use Rattle.std.proofs.lemmas.Option.{slice_get-get_or}
use Rattle.gf_base.proofs.ListLemmas.{not_Contains-nil}
use Rattle.gf_base.proofs.PositionLemmas.{contained_at, position_of, one_value}
use Rattle.gf_ops.specs.declared.op.Op.{Op}
use Rattle.gf_ops.specs.declared.op.OpId.{OpId}
use Rattle.gf_ops.specs.declared.op.ObjectId.{ObjectId}
use Rattle.gf_ops.specs.declared.change.Change.{Change}
use Rattle.gf_ops.specs.declared.change.Change.TheVariants.{Create, Set}
use Rattle.gf_ops.specs.declared.change.Value.{Value}
use Rattle.gf_ops.specs.Attribute.{attribute_of, attribute_index, object_of, changed_object}
use Rattle.gf_ops.specs.OperationOrder.{entry}
use Rattle.gf_ops.specs.ValidHistory.{IsValid, IsWithin}
use Rattle.gf_ops.proofs.AttributeLemmas.{attribute_index_below}
use Rattle.gf_ops.proofs.HistoryLemmas.{site_in_range, seq_in_range}
use Rattle.gf_table.specs.Positions.{positions_on}
use Rattle.gf_groups.proofs.OnPositionLemmas.{on_op, all_positions}
use Rattle.gf_groups.proofs.IdPositionLemmas.{same_position}
use Rattle.gf_classes.specs.declared.setters.Setter.{Setter}
use Rattle.gf_classes.specs.Direct.{place}
use Rattle.gf_classes.specs.Hiding.{hiding_site}
use Rattle.gf_classes.specs.Fingerprints.{fingerprint_of, has_own_fingerprint}
use Rattle.gf_classes.specs.Setters.{setter_by, setter_in, IsTaken, AreTaken, IsSetter, IsKeyed}
use Rattle.gf_classes.specs.Setters.{with_some, AreSetters, known, key_of}

-- an id has one operation
pub one_op : (h : List Op) → IsValid h → (x y : Op) → Contains h x → Contains h y → x.id ≡ y.id
    → x ≡ y
one_op h valid x y f g ids =
    let p = position_of h x f in
    let q = position_of h y g in
    let same = same_position h valid p.0 q.0 x y p.1 q.1 ids in
    one_value h q.0 x y (subst (λ z. slice_get h z ≡ Some x) same p.1) q.1

-- ---- taken one by one

module _ (h : List Op) (us : List ℕ) where
  pub taken_none : AreTaken h us 0 []
  taken_none e = (
    λ c. absurd (not_Contains-nil e c),
    λ t. let l = t.within in absurd (omega (arith, l)),
  )

  further : (m : ℕ) (e : Setter) → IsTaken h us m e → IsTaken h us (m + 1) e
  further m e t = record {
    index = t.index;
    within = let l = t.within in omega (arith, l);
    at = t.at;
  }

  -- what is at the index m
  abbrev met : ℕ → Option Setter
  met m = setter_in (slice_get h (place us m)) m (place us m)

  last_or : (m : ℕ) (e : Setter) → IsTaken h us (m + 1) e → IsTaken h us m e ⊎ (met m ≡ Some e)
  last_or m e t = elim (cases_lt t.index m) [
    | inl l ↦ inl (record { index = t.index; within = l; at = t.at })
    | inr l ↦ inr (let k = t.within in let same : t.index ≡ m = omega (arith, l, k) in
        subst (λ z. met z ≡ Some e) same t.at)
  ]

  pub taken_more : (m : ℕ) (es new : List Setter) (r : Option Setter) → met m ≡ r
      → new ≡ with_some es r → AreTaken h us m es → AreTaken h us (m + 1) new
  taken_more m es new None n f a = subst (AreTaken h us (m + 1)) (sym f) (λ e. (
    λ c. further m e ((a e).0 c),
    λ t. elim (last_or m e t) [
      | inl k ↦ (a e).1 k
      | inr k ↦ absurd (let x : None ≡ Some e = sym n ∙ k in cc)
    ],
  ))
  taken_more m es new (Some d) s f a = subst (AreTaken h us (m + 1)) (sym f) (λ e. (
    λ c. elim (Contains-push_cases es d e c) [
      | inl k ↦ further m e ((a e).0 k)
      | inr k ↦ record { index = m; within = omega arith; at = s ∙ ap Some k }
    ],
    λ t. elim (last_or m e t) [
      | inl k ↦ Contains-append_left es (d ∷ []) e ((a e).1 k)
      | inr k ↦ let one : d ≡ e = let x : Some d ≡ Some e = sym s ∙ k in cc in
          subst (Contains (es ++ d ∷ [])) one (Contains-push es d)
    ],
  ))

-- ---- what a setter stands for

-- what the change of a setter is
record Sets (a : Op) (i q : ℕ) (c : Change) (e : Setter) : Type 0 where
  object : ObjectId
  value : Value
  aim : List OpId
  change : c ≡ Set object value aim
  is : setter_by a i q (Set object value aim) ≡ Some e

sets : (a : Op) (i q : ℕ) (c : Change) (e : Setter) → setter_by a i q c ≡ Some e → Sets a i q c e
sets a i q (Create start) e s = absurd cc
sets a i q (Set o v aim) e s = record {
  object = o;
  value = v;
  aim = aim;
  change = refl;
  is = s;
}

-- the operation is there
in_some : (r : Option Op) (i q : ℕ) (e : Setter) → setter_in r i q ≡ Some e
    → (a : Op) × (r ≡ Some a) × (setter_by a i q a.change ≡ Some e)
in_some (Some a) i q e s = (a, refl, s)
in_some None i q e s = absurd cc

module _ (h : List Op) (valid : IsValid h) (o : ObjectId) (us : List ℕ)
    (on : us ≡ positions_on h o) where
  -- the object of an operation at one of the positions
  pub object_at : (i : ℕ) (a : Op) → i < length us → slice_get h (place us i) ≡ Some a
      → object_of a ≡ o
  object_at i a l at =
      let c : Contains us (place us i) = contained_at us i (place us i)
      (slice_get-get_or us i 0 l) in
      let t = (all_positions h o (place us i)).0 (subst (λ z. Contains z (place us i)) on c) in
      let w = on_op o (slice_get h (place us i)) t in
      let same : a ≡ w.0 = let x : Some a ≡ Some w.0 = sym at ∙ w.1 in cc in
      ap object_of same ∙ w.2

  setter_from : (e : Setter) → IsTaken h us (length us) e → IsSetter h us o e
  setter_from e t =
      let i = t.index in
      let q = place us i in
      let w = in_some (slice_get h q) i q e t.at in
      let a = w.0 in
      let s = sets a i q a.change e w.2 in
      let own : s.object ≡ o = sym (ap (changed_object a.id) s.change)
      ∙ object_at i a t.within w.1 in
      let v = s.value in
      let site = site_in_range a (valid.in_range a (contained_at h q a w.1)) in
      let site_is : a.id.site - 1 ≡ e.site = let x = s.is in cc in
      let index_is : i ≡ e.index = let x = s.is in cc in
      let position_is : q ≡ e.position = let x = s.is in cc in
      record {
        op = a;
        within = subst (λ z. z < length us) index_is t.within;
        placed = ap (place us) (sym index_is) ∙ position_is;
        at = ap (slice_get h) (sym position_is) ∙ w.1;
        value = v;
        aim = s.aim;
        change = s.change ∙ ap (λ z. Set z v s.aim) own;
        attribute = let x = s.is in cc;
        site = let lo = site.0 in omega (arith, lo, site_is);
        seq = let x = s.is in cc;
        past = let x = s.is in cc;
        fingerprint = let x = s.is in cc;
        own = let x = s.is in cc;
        hiding = let x = s.is in cc;
      }

  -- ---- sorted

  module _ (all ss : List Setter) (taken : AreTaken h us (length us) all)
      (moved : IsPermutation all ss) where
    is_setter : (e : Setter) → Contains ss e → IsSetter h us o e
    is_setter e c = setter_from e
        ((taken e).0 (Contains-permutation ss all e (IsPermutation-sym all ss moved) c))

    keyed : (e : Setter) → Contains ss e → IsKeyed e
    keyed e c =
        let t = (taken e).0 (Contains-permutation ss all e (IsPermutation-sym all ss moved) c) in
        let w = is_setter e c in
        let r = valid.in_range w.op (contained_at h e.position w.op w.at) in
        let site = (site_in_range w.op r).1 in
        let seq = (seq_in_range w.op r).1 in
        let below = attribute_index_below (attribute_of w.value) in
        let a = w.attribute in
        let b = w.site in
        let d = w.seq in
        record {
          attribute = omega (arith, below, a);
          site = omega (arith, site, b);
          seq = omega (arith, seq, d);
          key = keyed_by e t;
        }
      where
        keyed_by : (d : Setter) → IsTaken h us (length us) d → d.key ≡ key_of d.attribute d.site
            d.seq
        keyed_by d t =
            let i = t.index in
            let q = place us i in
            let w = in_some (slice_get h q) i q d t.at in
            let s = sets w.0 i q w.0.change d w.2 in
            let x = s.is in cc

    -- the later operation of a site knows all that the earlier one knows
    grows : (a b : Op) → Contains h a → Contains h b → a.id.site ≡ b.id.site → a.id.seq ≤ b.id.seq
        → IsWithin a.past b.past
    grows a b c d e l = elim (cases_lt a.id.seq b.id.seq) [
      | inl m ↦
          let own = valid.own b d in
          let r = valid.in_range a c in
          let up : a.id.seq ≤ entry b.past b.id.site = omega (arith, own, m) in
          let k = valid.closed b d a.id (record {
            site = site_in_range a r;
            first = (seq_in_range a r).0;
            last = subst (λ z. a.id.seq ≤ entry b.past z) (sym e) up;
          }) in
          subst (λ (z : Op). IsWithin z.past b.past) (one_op h valid k.op a k.contained c k.id)
          k.such
      | inr m ↦
          let same : a.id.seq ≡ b.id.seq = omega (arith, l, m) in
          let ids : a.id ≡ b.id = λ i. record { site = e i; seq = same i } in
          let eq = one_op h valid a b c d ids in
          λ s site. let z : entry a.past s ≡ entry b.past s = ap (λ (y : Op). entry y.past s) eq in
          omega (arith, z)
    ]

    growing : (a b : Setter) → Contains ss a → Contains ss b → a.attribute ≡ b.attribute
        → a.site ≡ b.site → a.seq ≤ b.seq → (s : ℕ) → s < 8 → known a.past s ≤ known b.past s
    growing a b c d e f l s w =
        let x = is_setter a c in
        let y = is_setter b d in
        let xs = x.site in
        let ys = y.site in
        let xn = x.seq in
        let yn = y.seq in
        let g = grows x.op y.op (contained_at h a.position x.op x.at)
        (contained_at h b.position y.op y.at) (omega (arith, xs, ys, f)) (omega (arith, xn, yn, l))
        (s + 1) (omega (arith), omega (arith, w)) in
        let at : s + 1 - 1 ≡ s = omega arith in
        let p : known a.past s ≡ entry x.op.past (s + 1) =
        ap (λ z. known z s) (sym x.past) ∙ ap (λ z. get_or x.op.past.0 z 0) (sym at) in
        let q : known b.past s ≡ entry y.op.past (s + 1) =
        ap (λ z. known z s) (sym y.past) ∙ ap (λ z. get_or y.op.past.0 z 0) (sym at) in
        omega (arith, g, p, q)

    pub sorted_setters : IsNonDecreasingBy (λ (e : Setter). e.key) ss → AreSetters h us o ss
    sorted_setters rising = record {
      each = is_setter;
      all = λ i a v aim l at set.
          let e : Setter = record {
            key = key_of (attribute_index (attribute_of v)) (a.id.site - 1) a.id.seq;
            attribute = attribute_index (attribute_of v);
            site = a.id.site - 1;
            seq = a.id.seq;
            past = a.past;
            fingerprint = fingerprint_of v;
            own = has_own_fingerprint v;
            hiding = hiding_site a;
            index = i;
            position = place us i;
          } in
          let is : setter_in (slice_get h (place us i)) i (place us i) ≡ Some e =
          ap (λ r. setter_in r i (place us i)) at ∙ ap (setter_by a i (place us i)) set in
          record {
            setter = e;
            contained = Contains-permutation all ss e moved
                ((taken e).1 (record { index = i; within = l; at = is }));
            index = refl;
          };
      sorted = record { keyed = keyed; rising = rising; growing = growing };
    }
