-- The classes of the setters of an object are direct classes of its operations.
use Rattle.std.proofs.Common.{◌≡◌, ◌≢◌, ℕ, ◌<◌, true, false, List, [], get_or, length}
use Rattle.std.proofs.Common.{inl, inr, refl, subst, sym, ap, ◌∙◌, arith}
use Rattle.std.specs.Prelude.{◌↔◌, Contains, Option, Some, None, slice_get}
use Rattle.std.proofs.lemmas.Bool.{cases_Bool, cases_lt}
use Rattle.std.proofs.lemmas.Bool.Decides.{Decides-like, same_from_decides}
use Rattle.std.proofs.lemmas.List.{get_or_past}
use Rattle.std.proofs.lemmas.Option.{slice_get_within, get_or_from_slice_get}
use Rattle.gf_base.proofs.ListLemmas.{not_Contains-nil}
use Rattle.gf_base.proofs.PositionLemmas.{contained_at, position_of, one_value, there_is}
use Rattle.gf_maximal.specs.Rows.{row, conflict, AreRows}
use Rattle.gf_maximal.proofs.MaximalLemmas.{in_list, from_list}
use Rattle.gf_maximal.proofs.RunSetLemmas.{bool_same}
use Rattle.gf_ops.specs.declared.op.Op.{Op}
use Rattle.gf_ops.specs.declared.op.ObjectId.{ObjectId}
use Rattle.gf_ops.specs.declared.change.Change.{Change}
use Rattle.gf_ops.specs.declared.change.Change.TheVariants.{Create, Set}
use Rattle.gf_ops.specs.declared.change.Start.{Start}
use Rattle.gf_ops.specs.Attribute.{object_of, changed_object}
use Rattle.gf_ops.specs.DirectConflict.{DirectConflict}
use Rattle.gf_ops.specs.KnownObject.{IsSuited}
use Rattle.gf_ops.specs.OperationOrder.{Precedes}
use Rattle.gf_ops.specs.ValidHistory.{IsValid}
use Rattle.gf_ops.proofs.DirectConflictLemmas.{direct-sym}
use Rattle.gf_table.specs.Positions.{positions_on}
use Rattle.gf_groups.specs.VersionList.{in_direct_conflict}
use Rattle.gf_groups.proofs.ConflictTestLemmas.{direct_decided}
use Rattle.gf_classes.specs.declared.setters.Setter.{Setter}
use Rattle.gf_classes.specs.declared.kinds.Kind.{Kind}
use Rattle.gf_classes.specs.Direct.{both_direct, direct_at, class_at, place, AreDirect}
use Rattle.gf_classes.specs.Hiding.{hiding_site_of, hiding_site_at}
use Rattle.gf_classes.specs.Setters.{AreSetters, fingerprints}
use Rattle.gf_classes.specs.SameValues.{Entries, IsIndex}
use Rattle.gf_classes.specs.Rivals.{AreRivalRanks}
use Rattle.gf_classes.specs.declared.fingerprint.Fingerprint.{Fingerprint}
use Rattle.gf_classes.specs.declared.rival_ranks.RivalRanks.{RivalRanks}
use Rattle.gf_classes.specs.Kinds.{IsKind, IsFirst, Fits, AreKinds}
use Rattle.gf_classes.specs.Kinds.{AreRowsOf, ArePut}
use Rattle.gf_classes.proofs.SetterLemmas.{one_op, object_at}

-- ---- direct conflicts

in_direct-sym : (a b : Op) → in_direct_conflict a b ≡ in_direct_conflict b a
in_direct-sym a b = same_from_decides (in_direct_conflict a b) (in_direct_conflict b a)
    (direct_decided a b) (Decides-like (in_direct_conflict b a) (direct-sym b a) (direct-sym a b)
    (direct_decided b a))

both-sym : (r s : Option Op) → both_direct r s ≡ both_direct s r
both-sym (Some a) (Some b) = in_direct-sym a b
both-sym (Some a) None = refl
both-sym None (Some b) = refl
both-sym None None = refl

direct_at-sym : (h : List Op) (i j : ℕ) → direct_at h i j ≡ direct_at h j i
direct_at-sym h i j = both-sym (slice_get h i) (slice_get h j)

both_told : (r s : Option Op) → both_direct r s ≡ true
    → (a : Op) × (b : Op) × (r ≡ Some a) × (s ≡ Some b) × DirectConflict a b
both_told (Some a) (Some b) t = (a, b, refl, refl, (direct_decided a b).0 t)
both_told (Some a) None t = absurd cc
both_told None s t = absurd cc

both_alone : (r : Option Op) → both_direct r r ≡ false
both_alone (Some a) = elim (cases_Bool (in_direct_conflict a a)) [
  | inl t ↦ absurd (((direct_decided a a).0 t).concurrent.different refl)
  | inr f ↦ f
]
both_alone None = refl

-- what makes an object conflicts with nothing on it
creation_free : (h : List Op) → IsValid h → (a b : Op) → Contains h a → Contains h b → (s : Start)
    → a.change ≡ Create s → ¬ (DirectConflict a b)
creation_free h valid a b ca cb s made c = by b.change refl
  where
    own : (object_of a).0 ≡ a.id
    own = ap (λ d. (changed_object a.id d).0) made

    by : (d : Change) → b.change ≡ d → ⊥
    by (Create t) e =
        let ids : a.id ≡ b.id = sym own ∙ (ap (λ (o : ObjectId). o.0) c.one_object
        ∙ ap (λ d. (changed_object b.id d).0) e) in
        c.concurrent.different (one_op h valid a b ca cb ids)
    by (Set o v aim) e =
        let k = (subst (IsSuited h b) e (valid.suited b cb)).known in
        let ids : k.made.op.id ≡ a.id = k.made.id
        ∙ (ap (λ d. (changed_object b.id d).0) (sym e)
        ∙ (ap (λ (p : ObjectId). p.0) (sym c.one_object) ∙ own)) in
        c.concurrent.not_before (subst (λ (z : Op). Precedes z b)
        (one_op h valid k.made.op a k.made.contained ca ids) k.before)

-- ---- classes

module _ (h : List Op) (valid : IsValid h) (o : ObjectId) (us : List ℕ)
    (on : us ≡ positions_on h o) (ss : List Setter) (setters : AreSetters h us o ss)
    (ks : List Kind) (cs : List (Option ℕ)) (kinds : AreKinds h ss (length ss) ks cs)
    (rs : List (List ℕ)) (rows : AreRowsOf ks (length ks) rs)
    (cl : List (Option ℕ)) (put : ArePut ss cs (length ss) (length us) cl) where
  -- q is one of the ranks, and its fingerprint is another
  abbrev Told : List ℕ → Option Fingerprint → ℕ → Fingerprint → Type 0
  Told d f q p = Contains d q × (f ≢ Some p)

  -- setters conflict where the rank of one is a rival of the other
  rival_is : (x y : Setter) (q : ℕ) (d : List ℕ) (f : Option Fingerprint) → slice_get ss q ≡ Some y
      → AreRivalRanks h ss x d f
      → Told d f q y.fingerprint ↔ (direct_at h x.position y.position ≡ true)
  rival_is x y q d f at exact = (
    λ c.
        let r = (exact q).1 (record { setter = y; at = at; contained = c.0; other = c.1 }) in
        subst (λ (z : Setter). direct_at h x.position z.position ≡ true)
        (one_value ss q r.setter y r.at at) r.direct,
    λ t.
        let w = (exact q).0 (record { setter = y; at = at; direct = t }) in (
          w.contained,
          subst (λ (z : Setter). f ≢ Some z.fingerprint) (one_value ss q w.setter y w.at at)
              w.other,
        ),
  )

  -- the first member of a class conflicts with that of another where this is in its row
  first_is : (d e : Kind) (x : IsFirst h ss (length ss) d) (y : IsFirst h ss (length ss) e)
      → Told d.rival_ranks.ranks d.rival_ranks.except e.first e.fingerprint
      ↔ (direct_at h x.setter.position y.setter.position ≡ true)
  first_is d e x y = subst (λ p. Told d.rival_ranks.ranks d.rival_ranks.except e.first p
      ↔ (direct_at h x.setter.position y.setter.position ≡ true)) (sym y.fingerprint)
      (rival_is x.setter y.setter e.first d.rival_ranks.ranks d.rival_ranks.except y.at x.rivals)

  turned : (x y : Setter) → direct_at h x.position y.position ≡ true
      → direct_at h y.position x.position ≡ true
  turned x y t = direct_at-sym h y.position x.position ∙ t

  -- ---- rows

  row_told : (a b : ℕ) → conflict rs a b ≡ true
      → (d : Kind) × (e : Kind) × (slice_get ks a ≡ Some d) × (slice_get ks b ≡ Some e)
      × Told d.rival_ranks.ranks d.rival_ranks.except e.first e.fingerprint
  row_told a b t =
      let c = from_list (row rs a) b t in
      elim (cases_lt a (length ks)) [
        | inl l ↦
            let k = there_is ks a l in
            let w = rows.each a k.0 l k.1 in
            let m = (w.exact b).0 (subst (λ z. Contains z b)
            (get_or_from_slice_get rs a w.row [] w.at) c) in
            (k.0, m.kind, k.1, m.at, (m.first, m.other))
        | inr l ↦
            let n = rows.count in
            absurd (not_Contains-nil b (subst (λ z. Contains z b)
            (get_or_past rs a [] (omega (arith, l, n))) c))
      ]

  row_from : (a b : ℕ) (d e : Kind) → slice_get ks a ≡ Some d → slice_get ks b ≡ Some e
      → Told d.rival_ranks.ranks d.rival_ranks.except e.first e.fingerprint → conflict rs a b ≡ true
  row_from a b d e i j c =
      let w = rows.each a d (slice_get_within ks a d i) i in
      in_list (row rs a) b (subst (λ z. Contains z b)
      (sym (get_or_from_slice_get rs a w.row [] w.at))
      ((w.exact b).1 (record { kind = e; at = j; first = c.0; other = c.1 })))

  rows_turned : (a b : ℕ) → conflict rs a b ≡ true → conflict rs b a ≡ true
  rows_turned a b t =
      let w = row_told a b t in
      let d = w.0 in
      let e = w.1 in
      let x = kinds.firsts a d w.2 in
      let y = kinds.firsts b e w.3 in
      row_from b a e d w.3 w.2 ((first_is e d y x).1
      (turned x.setter y.setter ((first_is d e x y).0 w.4)))

  are_rows : AreRows rs
  are_rows = record {
    symmetric = λ a b. bool_same (conflict rs a b) (conflict rs b a) (rows_turned a b)
        (rows_turned b a);
    alone = λ a. elim (cases_Bool (conflict rs a a)) [
      | inl t ↦
          let w = row_told a a t in
          let x = kinds.firsts a w.0 w.2 in
          let same : w.1 ≡ w.0 = one_value ks a w.1 w.0 w.3 w.2 in
          let y = (first_is w.0 w.0 x x).0 (subst (λ (z : Kind).
          Told w.0.rival_ranks.ranks w.0.rival_ranks.except z.first z.fingerprint) same w.4) in
          absurd (let z = both_alone (slice_get h x.setter.position) in cc)
      | inr f ↦ f
    ];
  }

  -- ---- members

  -- a setter of the class k has the index i
  record Member (i k : ℕ) : Type 0 where
    rank : ℕ
    setter : Setter
    at : slice_get ss rank ≡ Some setter
    index : setter.index ≡ i
    rival_ranks : RivalRanks
    exact : AreRivalRanks h ss setter rival_ranks.ranks rival_ranks.except
    kind : IsKind ks k setter.hiding rival_ranks

  member : (i k : ℕ) → class_at (record { classes = cl; rows = rs }) i ≡ Some k → Member i k
  member i k t =
      let p = put.found i k t in
      let f = kinds.fits p.rank p.setter p.below p.at in
      let is : f.class ≡ Some k = sym (get_or_from_slice_get cs p.rank f.class None f.at)
      ∙ p.given in
      let fits = subst (Fits h ss ks p.setter) is f.fits in record {
        rank = p.rank;
        setter = p.setter;
        at = p.at;
        index = p.index;
        rival_ranks = fits.0;
        exact = fits.1;
        kind = fits.2;
      }

  position_is : (e : Setter) (p i : ℕ) → slice_get ss p ≡ Some e → e.index ≡ i
      → place us i ≡ e.position
  position_is e p i at is = ap (place us) (sym is)
      ∙ (setters.each e (contained_at ss p e at)).placed

  -- a member conflicts with what the first member of its class conflicts with
  as_first : (i k : ℕ) (x : Member i k) (y : Setter) (q : ℕ) → slice_get ss q ≡ Some y
      → (direct_at h x.setter.position y.position ≡ true)
      ↔ (direct_at h (kinds.firsts k x.kind.kind x.kind.at).setter.position y.position ≡ true)
  as_first i k x y q at =
      let d = x.kind.kind in
      let a = kinds.firsts k d x.kind.at in
      let own = rival_is x.setter y q x.rival_ranks.ranks x.rival_ranks.except at x.exact in
      let first = rival_is a.setter y q d.rival_ranks.ranks d.rival_ranks.except at a.rivals in
      let there : Told d.rival_ranks.ranks d.rival_ranks.except q y.fingerprint
      ≡ Told x.rival_ranks.ranks x.rival_ranks.except q y.fingerprint =
      ap (λ z. Told z d.rival_ranks.except q y.fingerprint) x.kind.ranks
      ∙ ap (λ z. Told x.rival_ranks.ranks z q y.fingerprint) x.kind.except in (
        λ t. first.0 (subst (λ z. z) (sym there) (own.1 t)),
        λ t. own.0 (subst (λ z. z) there (first.1 t)),
      )

  conflicts_told : (i j k l : ℕ) (x : Member i k) (y : Member j l)
      → direct_at h x.setter.position y.setter.position ≡ true → conflict rs k l ≡ true
  conflicts_told i j k l x y t =
      let d = x.kind.kind in
      let e = y.kind.kind in
      let a = kinds.firsts k d x.kind.at in
      let b = kinds.firsts l e y.kind.at in
      let two = turned a.setter y.setter ((as_first i k x y.setter y.rank y.at).0 t) in
      let four = turned b.setter a.setter ((as_first j l y a.setter d.first a.at).0 two) in
      row_from k l d e x.kind.at y.kind.at ((first_is d e a b).1 four)

  conflicts_from : (i j k l : ℕ) (x : Member i k) (y : Member j l) → conflict rs k l ≡ true
      → direct_at h x.setter.position y.setter.position ≡ true
  conflicts_from i j k l x y t =
      let w = row_told k l t in
      let d = x.kind.kind in
      let e = y.kind.kind in
      let dw : w.0 ≡ d = one_value ks k w.0 d w.2 x.kind.at in
      let ew : w.1 ≡ e = one_value ks l w.1 e w.3 y.kind.at in
      let told : Told d.rival_ranks.ranks d.rival_ranks.except e.first e.fingerprint =
      subst (λ (z : Kind). Told d.rival_ranks.ranks d.rival_ranks.except z.first z.fingerprint) ew
      (subst (λ (z : Kind). Told z.rival_ranks.ranks z.rival_ranks.except w.1.first w.1.fingerprint) dw
      w.4) in
      let a = kinds.firsts k d x.kind.at in
      let b = kinds.firsts l e y.kind.at in
      let three = turned a.setter b.setter ((first_is d e a b).0 told) in
      let two = turned y.setter a.setter ((as_first j l y a.setter d.first a.at).1 three) in
      (as_first i k x y.setter y.rank y.at).1 two

  -- ---- what has no class

  free : (i j : ℕ) → i < length us → j < length us
      → class_at (record { classes = cl; rows = rs }) i ≡ None
      → direct_at h (place us i) (place us j) ≢ true
  free i j il jl none t =
      let w = both_told (slice_get h (place us i)) (slice_get h (place us j)) t in
      let a = w.0 in
      let b = w.1 in
      let ca = contained_at h (place us i) a w.2 in
      let cb = contained_at h (place us j) b w.3 in
      by a b ca cb w.2 w.3 w.4 a.change b.change refl refl
    where
      by : (a b : Op) → Contains h a → Contains h b → slice_get h (place us i) ≡ Some a
          → slice_get h (place us j) ≡ Some b → DirectConflict a b → (c d : Change)
          → a.change ≡ c → b.change ≡ d → ⊥
      by a b ca cb ai bi x (Create s) d e f = creation_free h valid a b ca cb s e x
      by a b ca cb ai bi x (Set p v aim) (Create s) e f = creation_free h valid b a cb ca s f
          (direct-sym a b x)
      by a b ca cb ai bi x (Set p v aim) (Set q u mia) e f =
          let po : p ≡ o = sym (ap (changed_object a.id) e) ∙ object_at h valid o us on i a il ai in
          let qo : q ≡ o = sym (ap (changed_object b.id) f) ∙ object_at h valid o us on j b jl bi in
          let y = setters.all i a v aim il ai (e ∙ ap (λ z. Set z v aim) po) in
          let z = setters.all j b u mia jl bi (f ∙ ap (λ k. Set k u mia) qo) in
          let m = position_of ss y.setter y.contained in
          let n = position_of ss z.setter z.contained in
          let within = slice_get_within ss m.0 y.setter m.1 in
          let none_at = put.none m.0 y.setter within m.1
          (ap (λ k. get_or cl k None) y.index ∙ none) in
          let fit = kinds.fits m.0 y.setter within m.1 in
          let is : fit.class ≡ None = sym (get_or_from_slice_get cs m.0 fit.class None fit.at)
          ∙ none_at in
          let lone = subst (Fits h ss ks y.setter) is fit.fits in
          lone n.0 (record {
            setter = z.setter;
            at = n.1;
            direct = subst (λ k. direct_at h k z.setter.position ≡ true)
                (position_is y.setter m.0 i m.1 y.index)
                (subst (λ k. direct_at h (place us i) k ≡ true)
                (position_is z.setter n.0 j n.1 z.index) t);
          })

  hiding_is : (i k : ℕ) (x : Member i k) → hiding_site_at h (place us i) ≡ x.kind.kind.hiding
  hiding_is i k x =
      let w = setters.each x.setter (contained_at ss x.rank x.setter x.at) in
      ap (hiding_site_at h) (position_is x.setter x.rank i x.at x.index)
      ∙ (ap hiding_site_of w.at ∙ (sym w.hiding ∙ sym x.kind.hiding))

  pub are_direct : AreDirect h us (record { classes = cl; rows = rs })
  are_direct = record {
    count = put.count;
    rows = are_rows;
    bound = λ i k t.
        let x = member i k t in
        let l = slice_get_within ks k x.kind.kind x.kind.at in
        let n = rows.count in
        omega (arith, l, n);
    free = λ i j il jl none. elim (cases_Bool (direct_at h (place us i) (place us j))) [
      | inl t ↦ absurd (free i j il jl none t)
      | inr f ↦ f
    ];
    conflicts = λ i j k l s t.
        let x = member i k s in
        let y = member j l t in
        let pi = position_is x.setter x.rank i x.at x.index in
        let pj = position_is y.setter y.rank j y.at y.index in
        ap (λ z. direct_at h z (place us j)) pi ∙ (ap (direct_at h x.setter.position) pj
        ∙ bool_same (direct_at h x.setter.position y.setter.position) (conflict rs k l)
        (conflicts_told i j k l x y) (conflicts_from i j k l x y));
    parted = λ i j k s t.
        let x = member i k s in
        let y = member j k t in
        hiding_is i k x ∙ (ap (λ (z : Kind). z.hiding)
        (one_value ks k x.kind.kind y.kind.kind x.kind.at y.kind.at) ∙ sym (hiding_is j k y));
  }

-- the classes of the setters of one object, with their premises
pub kinds_are : (h h2 : List Op) (us : List ℕ) (o : ObjectId) (ss s2 : List Setter)
    (ps : List Fingerprint) (ks : List Kind) (cs : List (Option ℕ)) (ix : Entries) → h2 ≡ h
    → s2 ≡ ss → ps ≡ fingerprints ss → IsIndex ps ix → AreSetters h us o ss → IsValid h
    → ((vs : List ℕ) (p : ObjectId) → IsValid h2 → AreSetters h2 vs p s2
    → IsIndex (fingerprints s2) ix → AreKinds h2 s2 (length s2) ks cs)
    → AreKinds h ss (length ss) ks cs
kinds_are h h2 us o ss s2 ps ks cs ix he se pe index setters valid f =
    let g = subst (λ z. (vs : List ℕ) (p : ObjectId) → IsValid z → AreSetters z vs p s2
    → IsIndex (fingerprints s2) ix → AreKinds z s2 (length s2) ks cs) he f in
    let k = subst (λ z. (vs : List ℕ) (p : ObjectId) → IsValid h → AreSetters h vs p z
    → IsIndex (fingerprints z) ix → AreKinds h z (length z) ks cs) se g in
    k us o valid setters (subst (λ z. IsIndex z ix) pe index)
