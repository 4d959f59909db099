-- The setters that are apart and have different values are those that conflict directly.
use Rattle.std.proofs.Common.{◌≡◌, ◌≢◌, ℕ, ◌≤◌, ◌+◌, ◌-◌, true, List, [], get_or, inl, inr, refl}
use Rattle.std.proofs.Common.{subst, sym, ap, ◌∙◌, arith}
use Rattle.std.specs.Prelude.{◌⊎◌, ◌↔◌, Contains, Option, Some, None, slice_get, unwrap_or}
use Rattle.std.specs.BTreeMap.{is_at}
use Rattle.std.specs.Map.{lookup}
use Rattle.std.proofs.lemmas.Bool.{cases_lt}
use Rattle.gf_base.proofs.FilterLemmas.{Contains-filter}
use Rattle.gf_base.proofs.ListLemmas.{not_Contains-nil}
use Rattle.gf_base.proofs.PositionLemmas.{contained_at, position_of, one_value, there_is}
use Rattle.gf_maximal.specs.Growing.{is_in, without, common}
use Rattle.gf_maximal.proofs.MaximalLemmas.{in_list, Contains-without}
use Rattle.gf_ops.specs.declared.op.Op.{Op}
use Rattle.gf_ops.specs.declared.op.ObjectId.{ObjectId}
use Rattle.gf_ops.specs.declared.op.Clock.{Clock}
use Rattle.gf_ops.specs.Attribute.{attribute_of, change_value, changed_object, object_of}
use Rattle.gf_ops.specs.ConflictTests.{value_eq}
use Rattle.gf_ops.specs.DirectConflict.{DirectConflict}
use Rattle.gf_ops.specs.OperationOrder.{Precedes, entry}
use Rattle.gf_ops.specs.ValidHistory.{IsValid}
use Rattle.gf_ops.proofs.AttributeLemmas.{one_attribute}
use Rattle.gf_ops.proofs.DirectConflictLemmas.{value_as-given, value_as-own}
use Rattle.gf_ops.proofs.SameLemmas.{value_eq-same, value_eq-true}
use Rattle.gf_groups.proofs.ConflictTestLemmas.{direct_decided}
use Rattle.gf_groups.proofs.IdPositionLemmas.{same_position}
use Rattle.gf_groups.specs.VersionList.{in_direct_conflict}
use Rattle.gf_classes.specs.declared.fingerprint.Fingerprint.{Fingerprint}
use Rattle.gf_classes.specs.declared.setters.Setter.{Setter}
use Rattle.gf_classes.specs.Direct.{both_direct, direct_at}
use Rattle.gf_classes.specs.Fingerprints.{fingerprint_cmp, fingerprint_of}
use Rattle.gf_classes.specs.Setters.{IsSetter, AreSetters, fingerprints, known}
use Rattle.gf_classes.specs.Ranges.{AreApart, AreNear, IsCut}
use Rattle.gf_classes.specs.SameValues.{Entries, ranks_at, IsIndex}
use Rattle.gf_classes.specs.Rivals.{op_value, value_set, setter_value, have_one_value}
use Rattle.gf_classes.specs.Rivals.{AreRivals, are_one, AreRivalRanks}
use Rattle.gf_classes.proofs.FingerprintLemmas.{determined_value}
use Rattle.gf_classes.proofs.SameValueLemmas.{index_of_mapped}

module _ (h : List Op) (valid : IsValid h) (us : List ℕ) (o : ObjectId) where
  -- what the clock of a setter knows of a site
  past_of : (e : Setter) (w : IsSetter h us o e) (s : ℕ)
      → entry w.op.past (s + 1) ≡ known e.past s
  past_of e w s =
      let at : s + 1 - 1 ≡ s = omega arith in
      ap (λ z. get_or w.op.past.0 z 0) at ∙ ap (λ (z : Clock). known z s) w.past

  -- b knows a
  precedes : (a b : Setter) (x : IsSetter h us o a) (y : IsSetter h us o b)
      → Precedes x.op y.op ↔ (a.seq ≤ known b.past a.site)
  precedes a b x y =
      let p = past_of b y a.site in
      let s = x.site in
      let n = x.seq in
      let e : entry y.op.past x.op.id.site ≡ known b.past a.site =
      ap (entry y.op.past) s ∙ p in
      (λ l. omega (arith, l, n, e), λ l. omega (arith, l, n, e))

  -- two setters of one site: one knows the other, or they are one
  one_site : (a b : Setter) (x : IsSetter h us o a) (y : IsSetter h us o b) → a.site ≡ b.site
      → ¬ (Precedes x.op y.op) → ¬ (Precedes y.op x.op) → x.op ≡ y.op
  one_site a b x y e n m =
      let xs = x.site in
      let ys = y.site in
      let sites : x.op.id.site ≡ y.op.id.site = omega (arith, xs, ys, e) in
      let xo = valid.own x.op (contained_at h a.position x.op x.at) in
      let yo = valid.own y.op (contained_at h b.position y.op y.at) in
      let xy : entry y.op.past x.op.id.site ≡ entry y.op.past y.op.id.site =
      ap (entry y.op.past) sites in
      let yx : entry x.op.past y.op.id.site ≡ entry x.op.past x.op.id.site =
      ap (entry x.op.past) (sym sites) in
      elim (cases_lt x.op.id.seq y.op.id.seq) [
        | inl l ↦ absurd (n (omega (arith, yo, xy, l)))
        | inr l ↦ elim (cases_lt y.op.id.seq x.op.id.seq) [
          | inl k ↦ absurd (m (omega (arith, xo, yx, k)))
          | inr k ↦
              let seqs : x.op.id.seq ≡ y.op.id.seq = omega (arith, l, k) in
              let ids : x.op.id ≡ y.op.id = λ i. record { site = sites i; seq = seqs i } in
              let same = same_position h valid a.position b.position x.op y.op x.at y.at ids in
              one_value h b.position x.op y.op
              (subst (λ z. slice_get h z ≡ Some x.op) same x.at) y.at
        ]
      ]

  own_object : (e : Setter) (w : IsSetter h us o e) → object_of w.op ≡ o
  own_object e w = ap (changed_object w.op.id) w.change

  gives : (e : Setter) (w : IsSetter h us o e)
      → change_value w.op.change (attribute_of w.value) ≡ Some w.value
  gives e w = ap (λ c. change_value c (attribute_of w.value)) w.change ∙ value_as-own w.value

  module _ (x e : Setter) (a : IsSetter h us o x) (b : IsSetter h us o e) where
    apart_conflict : AreApart x e → a.value ≢ b.value → DirectConflict a.op b.op
    apart_conflict w n = record {
      concurrent = record {
        different = λ q.
            let xs = a.site in
            let es = b.site in
            let k : a.op.id.site ≡ b.op.id.site = ap (λ (z : Op). z.id.site) q in
            w.other (omega (arith, xs, es, k));
        not_before = λ p. let l = (precedes x e a b).0 p in let k = w.unknowing in
            omega (arith, l, k);
        not_after = λ p. let l = (precedes e x b a).0 p in let k = w.unknown in
            omega (arith, l, k);
      };
      one_object = own_object x a ∙ sym (own_object e b);
      apart = record {
        attribute = attribute_of a.value;
        first = a.value;
        second = b.value;
        first_given = gives x a;
        second_given = subst (λ z. change_value b.op.change z ≡ Some b.value)
            (one_attribute (attribute_of b.value) (attribute_of a.value)
            (sym b.attribute ∙ (w.attribute ∙ a.attribute))) (gives e b);
        differ = n;
      };
    }

    conflict_apart : DirectConflict a.op b.op → AreApart x e × (a.value ≢ b.value)
    conflict_apart c =
        let p = c.apart in
        let first = value_as-given a.value p.first p.attribute
        (ap (λ z. change_value z p.attribute) (sym a.change) ∙ p.first_given) in
        let second = value_as-given b.value p.second p.attribute
        (ap (λ z. change_value z p.attribute) (sym b.change) ∙ p.second_given) in (
          record {
            other = λ s. c.concurrent.different (one_site x e a b (sym s) c.concurrent.not_before
                c.concurrent.not_after);
            attribute = b.attribute
                ∙ (ap Rattle.gf_ops.specs.Attribute.attribute_index (second.1 ∙ sym first.1)
                ∙ sym a.attribute);
            unknown = elim (cases_lt (known x.past e.site) e.seq) [
              | inl l ↦ l
              | inr l ↦ absurd (c.concurrent.not_after ((precedes e x b a).1 l))
            ];
            unknowing = elim (cases_lt (known e.past x.site) x.seq) [
              | inl l ↦ l
              | inr l ↦ absurd (c.concurrent.not_before ((precedes x e a b).1 l))
            ];
          },
          λ q. p.differ (sym first.0 ∙ (q ∙ second.0)),
        )

    -- what stands at two positions conflicts
    pub direct_is : direct_at h x.position e.position ≡ in_direct_conflict a.op b.op
    direct_is = ap (λ r. both_direct r (slice_get h e.position)) a.at
        ∙ ap (both_direct (Some a.op)) b.at

    direct_apart : (direct_at h x.position e.position ≡ true)
        ↔ (AreApart x e × (a.value ≢ b.value))
    direct_apart = (
      λ t. conflict_apart ((direct_decided a.op b.op).0 (sym direct_is ∙ t)),
      λ w. direct_is ∙ (direct_decided a.op b.op).1 (apart_conflict w.0 w.1),
    )

  -- ---- by what is found

  module _ (ss : List Setter) (setters : AreSetters h us o ss) (ix : Entries)
      (index : IsIndex (fingerprints ss) ix) (x : Setter) (there : Contains ss x) (near : List ℕ)
      (is_near : AreNear ss x near) where
    abbrev own : IsSetter h us o x
    own = setters.each x there

    abbrev at_rank : (q : ℕ) (e : Setter) → slice_get ss q ≡ Some e → IsSetter h us o e
    at_rank q e at = setters.each e (contained_at ss q e at)

    -- the near ones without s, which are those of the near ones with the value of x
    rivals_by : (s d : List ℕ) → ((q : ℕ) (e : Setter) (at : slice_get ss q ≡ Some e)
        → Contains near q → Contains s q ↔ (own.value ≡ (at_rank q e at).value))
        → d ≡ without s near → AreRivals h ss x d
    rivals_by s d f g q = (
      λ c.
          let w = (Contains-without s near q).0 (subst (λ z. Contains z q) g c) in
          let t = there_is ss q (is_near.bound q w.0) in
          let e = t.0 in
          let apart = (is_near.found q e t.1).0 w.0 in
          record {
            setter = e;
            at = t.1;
            direct = (direct_apart x e own (at_rank q e t.1)).1
                (apart, λ same. w.1 ((f q e t.1 w.0).1 same));
          },
      λ r.
          let e = r.setter in
          let w = (direct_apart x e own (at_rank q e r.at)).0 r.direct in
          let n = (is_near.found q e r.at).1 w.0 in
          subst (λ z. Contains z q) (sym g)
          ((Contains-without s near q).1 (n, λ c. w.1 ((f q e r.at n).0 c))),
    )

    abbrev ranks : List ℕ
    ranks = ranks_at ix x.fingerprint

    -- the ranks of the setters with the fingerprint of x
    listed : (q : ℕ) (e : Setter) (at : slice_get ss q ≡ Some e)
        → Contains ranks q ↔ (fingerprint_of own.value ≡ fingerprint_of (at_rank q e at).value)
    listed q e at =
        let w = at_rank q e at in
        let i = index_of_mapped (λ (z : Setter). z.fingerprint) ss ix index x.fingerprint q e at
        in (
          λ c. sym own.fingerprint ∙ (sym (i.0 c) ∙ w.fingerprint),
          λ same. i.1 (w.fingerprint ∙ (sym same ∙ sym own.fingerprint)),
        )

    -- the index has x itself
    pub rivals_none : lookup (is_at (fingerprint_cmp x.fingerprint)) ix ≡ None
        → AreRivals h ss x near
    rivals_none none =
        let p = position_of ss x there in
        let c = (index_of_mapped (λ (z : Setter). z.fingerprint) ss ix index x.fingerprint p.0 x
        p.1).1 refl in
        absurd (not_Contains-nil p.0
        (subst (λ z. Contains z p.0) (ap (λ (r : Option (List ℕ)). unwrap_or r []) none) c))

    module _ (s : List ℕ) (some : lookup (is_at (fingerprint_cmp x.fingerprint)) ix ≡ Some s) where
      is_ranks : ranks ≡ s
      is_ranks = ap (λ (r : Option (List ℕ)). unwrap_or r []) some

      value_at : (e : Setter) (w : IsSetter h us o e) → setter_value h (Some e) ≡ Some w.value
      value_at e w = ap op_value w.at ∙ ap value_set w.change

      -- only some of the near ones with the fingerprint of x have its value
      pub rivals_compared : (c k d : List ℕ) → c ≡ common s near
          → ((n : ℕ) → Contains k n
          ↔ (Contains c n × (have_one_value h (slice_get ss n) (Some x) ≡ true)))
          → d ≡ without k near → AreRivals h ss x d
      rivals_compared c k d both f g = rivals_by k d
          (λ q e at n.
          let w = at_rank q e at in
          let is : have_one_value h (slice_get ss q) (Some x) ≡ value_eq w.value own.value =
          ap (λ r. have_one_value h r (Some x)) at
          ∙ (ap (λ r. are_one r (setter_value h (Some x))) (value_at e w)
          ∙ ap (are_one (Some w.value)) (value_at x own)) in (
            λ i. sym (value_eq-true w.value own.value (sym is ∙ ((f q).0 i).1)),
            λ same. (f q).1 (
              subst (λ z. Contains z q) (sym both)
                  ((Contains-filter (is_in s) near q).1 (
                    n,
                    in_list s q (subst (λ z. Contains z q) is_ranks
                        ((listed q e at).1 (ap fingerprint_of same))),
                  )),
              is ∙ (ap (λ z. value_eq z own.value) (sym same) ∙ value_eq-same own.value),
            ),
          ))
          g

  -- ---- the ranks of rivals

  module _ (ss : List Setter) (setters : AreSetters h us o ss) (x : Setter)
      (there : Contains ss x) where
    -- the rivals themselves
    pub rival_ranks_whole : (d : List ℕ) → AreRivals h ss x d → AreRivalRanks h ss x d None
    rival_ranks_whole d exact q = (
      λ r. record {
        setter = r.setter;
        at = r.at;
        contained = (exact q).1 r;
        other = λ e. absurd cc;
      },
      λ w. (exact q).0 w.contained,
    )

    -- what is apart, but for the setters with the value of x
    pub rival_ranks_own : (ix : Entries) → IsIndex (fingerprints ss) ix → x.own ≡ true
        → (s : List ℕ) → lookup (is_at (fingerprint_cmp x.fingerprint)) ix ≡ Some s
        → (d : List ℕ) (f : Option Fingerprint) → IsCut ss x s d
        → (f ≡ Some x.fingerprint) ⊎ ((f ≡ None) × ((q : ℕ) → Contains d q → ¬ (Contains s q)))
        → AreRivalRanks h ss x d f
    rival_ranks_own ix index own s some d f cut except q = (
      λ r.
          let e = r.setter in
          let b = setters.each e (contained_at ss q e r.at) in
          let w = (direct_apart x e a b).0 r.direct in
          let apart_value : x.fingerprint ≢ e.fingerprint = λ same.
          w.1 (sym (determined_value a.value b.value (sym a.own ∙ own)
          (sym b.fingerprint ∙ (sym same ∙ a.fingerprint)))) in
          let out : ¬ (Contains s q) = λ c. apart_value (sym ((listed_at e r.at).0 c)) in
          record {
            setter = e;
            at = r.at;
            contained = (cut.found q e r.at out).1 w.0;
            other = λ k. elim except [
              | inl g ↦ apart_value (let z : Some x.fingerprint ≡ Some e.fingerprint = sym g ∙ k in
                  cc)
              | inr g ↦ absurd (let z : None ≡ Some e.fingerprint = sym g.0 ∙ k in cc)
            ];
          },
      λ w.
          let e = w.setter in
          let b = setters.each e (contained_at ss q e w.at) in
          let out : ¬ (Contains s q) = λ c. elim except [
            | inl g ↦ w.other (g ∙ ap Some (sym ((listed_at e w.at).0 c)))
            | inr g ↦ g.1 q w.contained c
          ] in
          record {
            setter = e;
            at = w.at;
            direct = (direct_apart x e a b).1 (
              (cut.found q e w.at out).0 w.contained,
              λ same. out ((listed_at e w.at).1 (b.fingerprint
                  ∙ (ap fingerprint_of (sym same) ∙ sym a.fingerprint))),
            );
          },
    )
      where
        a : IsSetter h us o x
        a = setters.each x there

        listed_at : (e : Setter) → slice_get ss q ≡ Some e
            → Contains s q ↔ (e.fingerprint ≡ x.fingerprint)
        listed_at e at =
            let is : ranks_at ix x.fingerprint ≡ s =
            ap (λ (r : Option (List ℕ)). unwrap_or r []) some in
            let i = index_of_mapped (λ (z : Setter). z.fingerprint) ss ix index x.fingerprint q e
            at in (
              λ c. i.0 (subst (λ z. Contains z q) (sym is) c),
              λ k. subst (λ z. Contains z q) is (i.1 k),
            )
