-- Setters in classes by their rivals, one by one, and the rows of the classes.
use Rattle.std.proofs.Common.{◌≡◌, ◌≢◌, ℕ, zero, suc, ◌<◌, ◌≤◌, ◌+◌, true, false, List, [], ◌∷◌}
use Rattle.std.proofs.Common.{◌++◌, length, get_or, set, take, inl, inr, refl, subst, sym, ap, ◌∙◌}
use Rattle.std.proofs.Common.{arith, nat_lt, pos}
use Rattle.std.specs.Prelude.{◌⊎◌, ◌↔◌, Contains, Option, Some, None, slice_get, ◌==◌, ◌&&◌}
use Rattle.std.specs.Prelude.{bytes_eq}
use Rattle.std.specs.Prelude.{unwrap_or}
use Rattle.std.proofs.lemmas.Bool.{cases_lt, and_parts}
use Rattle.std.proofs.lemmas.Bool.Decides.{Decides-eqb}
use Rattle.std.proofs.lemmas.List.{length-set, length_push, take_more, take_all}
use Rattle.std.proofs.lemmas.List.Elements.{Contains-push, Contains-push_cases}
use Rattle.std.proofs.lemmas.List.Elements.{Contains-append_left}
use Rattle.std.proofs.lemmas.Option.{slice_get_within, get_or_from_slice_get, slice_get-get_or}
use Rattle.std.proofs.lemmas.Slice.Eq.{bytes_eq-Decides}
use Rattle.gf_base.proofs.ListLemmas.{not_Contains-nil}
use Rattle.gf_base.proofs.PositionLemmas.{one_value, there_is, got_push, got_more}
use Rattle.gf_base.proofs.PositionLemmas.{got_last}
use Rattle.gf_maximal.specs.declared.run.Run.{Run}
use Rattle.gf_maximal.specs.Runs.{numbers_of, members}
use Rattle.gf_maximal.proofs.RunLemmas.{nat_lt_true, nat_lt_from, nat_lt_false}
use Rattle.gf_maximal.proofs.RunSetLemmas.{in_numbers, in_members, of_one, has_one}
use Rattle.gf_ops.specs.declared.op.Op.{Op}
use Rattle.gf_ops.specs.declared.change.Attr.TheVariants.{Place}
use Rattle.gf_classes.specs.declared.setters.Setter.{Setter}
use Rattle.gf_classes.specs.declared.kinds.Kind.{Kind}
use Rattle.gf_classes.specs.declared.rival_ranks.RivalRanks.{RivalRanks}
use Rattle.gf_classes.specs.declared.fingerprint.Fingerprint.{Fingerprint}
use Rattle.gf_classes.specs.Fingerprints.{fingerprint_cmp, are_same}
use Rattle.gf_classes.specs.SameValues.{Entries, ranks_at, IsIndex}
use Rattle.gf_classes.proofs.FingerprintLemmas.{same_told}
use Rattle.gf_classes.proofs.SameValueLemmas.{index_of_mapped}
use Rattle.gf_maximal.specs.Growing.{without}
use Rattle.gf_maximal.proofs.MaximalLemmas.{Contains-without}
use Rattle.std.specs.BTreeMap.{is_at}
use Rattle.std.specs.Map.{lookup}
use Rattle.gf_classes.specs.Ranges.{HasRank}
use Rattle.gf_classes.specs.Rivals.{AreRivalRanks}
use Rattle.gf_classes.specs.Kinds.{is_kind, IsKind, Gives, IsFirst, AreRising, Fits}
use Rattle.gf_classes.specs.Kinds.{AreKinds, IsFirstFrom, IsMet, IsAmong, IsWithin}
use Rattle.gf_classes.specs.Kinds.{AreRowsOf, ButFor, kind_fingerprints}
use Rattle.gf_classes.specs.Kinds.{put_class, IsPut, ArePut}

-- what is read where there is nothing
abbrev pub no_setter : Setter
no_setter = record {
  key = 0;
  attribute = 0;
  site = 0;
  seq = 0;
  past = record { 0 = [] };
  fingerprint = record { attribute = Place; first = pos 0; second = pos 0; third = pos 0 };
  own = false;
  hiding = 0;
  index = 0;
  position = 0;
}

-- ---- one class

pub kind_told : (ks : List Kind) (k : ℕ) (r : Option Kind) (found : RivalRanks) (site : ℕ)
    → r ≡ slice_get ks k → is_kind r found site ≡ true → IsKind ks k site found
kind_told ks k (Some d) found site e t =
    let w = and_parts (d.hiding == site && bytes_eq d.rival_ranks.ranks found.ranks)
    (are_same d.rival_ranks.except found.except) t in
    let v = and_parts (d.hiding == site) (bytes_eq d.rival_ranks.ranks found.ranks) w.0 in record {
      kind = d;
      at = sym e;
      hiding = (Decides-eqb d.hiding site).0 v.0;
      ranks = (bytes_eq-Decides d.rival_ranks.ranks found.ranks).0 v.1;
      except = same_told d.rival_ranks.except found.except w.1;
    }
kind_told ks k None found site e t = absurd cc

-- ---- one more setter

module _ (h : List Op) (ss : List Setter) where
  pub kinds_none : AreKinds h ss 0 [] []
  kinds_none = record {
    firsts = λ k d at. absurd cc;
    rising = λ j k a b at. absurd cc;
    count = refl;
    fits = λ p e l at. absurd (omega (arith, l));
  }

  module _ (m : ℕ) (ks : List Kind) (cs : List (Option ℕ)) (old : AreKinds h ss m ks cs)
      (e : Setter) (at : slice_get ss m ≡ Some e) (found : RivalRanks)
      (rivals : AreRivalRanks h ss e found.ranks found.except) where
    abbrev last : Kind
    last = record {
      first = m;
      fingerprint = e.fingerprint;
      hiding = e.hiding;
      rival_ranks = found;
    }

    longer : (k : ℕ) (d : Kind) → IsFirst h ss m d → IsFirst h ss (m + 1) d
    longer k d f = record {
      setter = f.setter;
      at = f.at;
      below = let l = f.below in omega (arith, l);
      fingerprint = f.fingerprint;
      hiding = f.hiding;
      rivals = f.rivals;
    }

    is_first : IsFirst h ss (m + 1) last
    is_first = record {
      setter = e;
      at = at;
      below = omega arith;
      fingerprint = refl;
      hiding = refl;
      rivals = rivals;
    }

    -- the classes are the same, or one more
    abbrev Grown : List Kind → Type 0
    Grown new = (new ≡ ks) ⊎ (new ≡ ks ++ last ∷ [])

    firsts : (new : List Kind) → Grown new → (k : ℕ) (d : Kind) → slice_get new k ≡ Some d
        → IsFirst h ss (m + 1) d
    firsts new (inl g) k d i = longer k d (old.firsts k d (ap (λ z. slice_get z k) (sym g) ∙ i))
    firsts new (inr g) k d i = elim (got_push ks last k d
        (ap (λ z. slice_get z k) (sym g) ∙ i)) [
          | inl j ↦ longer k d (old.firsts k d j)
          | inr j ↦ subst (IsFirst h ss (m + 1)) (sym j.1) is_first
        ]

    rising : (new : List Kind) → Grown new → AreRising new
    rising new (inl g) = subst AreRising (sym g) old.rising
    rising new (inr g) = subst AreRising (sym g) (λ j k a b i n l.
        elim (got_push ks last j a i) [
          | inl x ↦ elim (got_push ks last k b n) [
            | inl y ↦ old.rising j k a b x y l
            | inr y ↦ let below = (old.firsts j a x).below in
                let is = ap (λ (z : Kind). z.first) y.1 in omega (arith, below, is)
          ]
          | inr x ↦ elim (got_push ks last k b n) [
            | inl y ↦
                let w = slice_get_within ks k b y in
                let z = x.0 in
                absurd (omega (arith, l, w, z))
            | inr y ↦ let z = x.0 in let w = y.0 in absurd (omega (arith, l, w, z))
          ]
        ])

    kept : (new : List Kind) → Grown new → (d : Setter) (c : Option ℕ) → Fits h ss ks d c
        → Fits h ss new d c
    kept new g d None f = f
    kept new g d (Some k) f = (
      f.0,
      f.1,
      record {
        kind = f.2.kind;
        at = still g;
        hiding = f.2.hiding;
        ranks = f.2.ranks;
        except = f.2.except;
      },
    )
      where
        still : Grown new → slice_get new k ≡ Some f.2.kind
        still (inl q) = ap (λ z. slice_get z k) q ∙ f.2.at
        still (inr q) = ap (λ z. slice_get z k) q ∙ got_more ks (last ∷ []) k f.2.kind f.2.at

    grown : (new : List Kind) (c : Option ℕ) → Gives ks last new c → Grown new
    grown new None g = inl g.1
    grown new (Some k) g = g.grown

    fits_last : (new : List Kind) (c : Option ℕ) → Gives ks last new c → Fits h ss new e c
    fits_last new None g = λ q r. not_Contains-nil q (subst (λ z. Contains z q) g.0
        ((rivals q).0 r).contained)
    fits_last new (Some k) g = (found, rivals, g.kind)

    pub kinds_more : (new : List Kind) (c : Option ℕ) (all : List (Option ℕ))
        → Gives ks last new c → all ≡ cs ++ c ∷ [] → AreKinds h ss (m + 1) new all
    kinds_more new c all gives is =
        let g = grown new c gives in
        let count = old.count in
        record {
          firsts = firsts new g;
          rising = rising new g;
          count = let n = length_push cs c in let l = ap length is in omega (arith, n, l, count);
          fits = λ p d l i. elim (cases_lt p m) [
            | inl n ↦ let f = old.fits p d n i in record {
              class = f.class;
              at = ap (λ z. slice_get z p) is ∙ got_more cs (c ∷ []) p f.class f.at;
              fits = kept new g d f.class f.fits;
            }
            | inr n ↦
                let same : p ≡ m = omega (arith, l, n) in
                let one : d ≡ e = one_value ss m d e
                (subst (λ z. slice_get ss z ≡ Some d) same i) at in
                record {
                  class = c;
                  at = ap (λ z. slice_get z p) is ∙ (ap (slice_get (cs ++ c ∷ []))
                      (same ∙ sym count) ∙ got_last cs c);
                  fits = subst (λ z. Fits h ss new z c) (sym one) (fits_last new c gives);
                }
          ];
        }

-- ---- rows

pub firsts_parted : (ks : List Kind) → AreRising ks → (n : ℕ) (i j : ℕ) (d : Kind) → i ≤ j
    → j < length ks → nat_lt (get_or ks j d).first n ≡ true → nat_lt (get_or ks i d).first n ≡ true
firsts_parted ks rising n i j d l k t = elim (cases_lt i j) [
  | inl m ↦
      let v = nat_lt_true (get_or ks j d).first n t in
      let w = rising i j (get_or ks i d) (get_or ks j d)
      (slice_get-get_or ks i d (omega (arith, l, k))) (slice_get-get_or ks j d k) m in
      nat_lt_from (get_or ks i d).first n (omega (arith, v, w))
  | inr m ↦ let same : i ≡ j = omega (arith, l, m) in
      subst (λ z. nat_lt (get_or ks z d).first n ≡ true) (sym same) t
]

pub first_from : (n : ℕ) (ks : List Kind) (k : ℕ) → k ≤ length ks
    → ((i : ℕ) (d : Kind) → 0 ≤ i → i < k → nat_lt (get_or ks i d).first n ≡ true)
    × ((i : ℕ) (d : Kind) → k ≤ i → i < length ks → nat_lt (get_or ks i d).first n ≡ false)
    → IsFirstFrom n ks k
first_from n ks k b p = record {
  bound = b;
  below = λ q d at l. nat_lt_true d.first n (subst (λ (z : Kind). nat_lt z.first n ≡ true)
      (get_or_from_slice_get ks q d d at) (p.0 q d (omega arith) l));
  above = λ q d at l. nat_lt_false d.first n (subst (λ (z : Kind). nat_lt z.first n ≡ false)
      (get_or_from_slice_get ks q d d at) (p.1 q d l (slice_get_within ks q d at)));
}

module _ (ks : List Kind) where
  -- rs have the classes of which the first member is in one of the runs qs
  abbrev pub HasFirsts : List Run → List Run → Type 0
  HasFirsts qs rs = (l : ℕ) → HasRank rs l ↔ IsWithin ks qs l

  pub firsts_none : HasFirsts [] []
  firsts_none l = (
    λ w. absurd (not_Contains-nil w.run w.contained),
    λ w. absurd (not_Contains-nil w.first.run w.first.contained),
  )

  pub firsts_more : (qs : List Run) (i : ℕ) (r d : Run) (rs new : List Run) (j k : ℕ)
      → i < length qs → r ≡ get_or qs i d → IsFirstFrom r.start ks j → IsFirstFrom r.end ks k
      → new ≡ rs ++ record { start = j; end = k } ∷ [] → HasFirsts (take i qs) rs
      → HasFirsts (take (i + 1) qs) new
  firsts_more qs i r d rs new j k il is from to e a =
      subst (λ z. HasFirsts z new) (sym (take_more qs i d il))
      (subst (HasFirsts (take i qs ++ get_or qs i d ∷ [])) (sym e) (subst
      (λ z. HasFirsts (take i qs ++ z ∷ []) (rs ++ one ∷ [])) is step))
    where
      one : Run
      one = record { start = j; end = k }

      step : HasFirsts (take i qs ++ r ∷ []) (rs ++ one ∷ [])
      step l = (
        λ w. elim (Contains-push_cases rs one w.run w.contained) [
          | inl c ↦
              let v = (a l).0 (record {
                run = w.run;
                contained = c;
                from = w.from;
                below = w.below;
              }) in record {
                kind = v.kind;
                at = v.at;
                first = record {
                  run = v.first.run;
                  contained = Contains-append_left (take i qs) (r ∷ []) v.first.run
                      v.first.contained;
                  from = v.first.from;
                  below = v.first.below;
                };
              }
          | inr c ↦
              let lo : j ≤ l = subst (λ (z : Run). z.start ≤ l) (sym c) w.from in
              let hi : l < k = subst (λ (z : Run). l < z.end) (sym c) w.below in
              let bound = to.bound in
              let t = there_is ks l (omega (arith, hi, bound)) in record {
                kind = t.0;
                at = t.1;
                first = record {
                  run = r;
                  contained = Contains-push (take i qs) r;
                  from = from.above l t.0 t.1 lo;
                  below = to.below l t.0 t.1 hi;
                };
              }
        ],
        λ w. elim (Contains-push_cases (take i qs) r w.first.run w.first.contained) [
          | inl c ↦
              let v = (a l).1 (record {
                kind = w.kind;
                at = w.at;
                first = record {
                  run = w.first.run;
                  contained = c;
                  from = w.first.from;
                  below = w.first.below;
                };
              }) in record {
                run = v.run;
                contained = Contains-append_left rs (one ∷ []) v.run v.contained;
                from = v.from;
                below = v.below;
              }
          | inr c ↦
              let lo : r.start ≤ w.kind.first = subst (λ (z : Run). z.start ≤ w.kind.first) (sym c)
              w.first.from in
              let hi : w.kind.first < r.end = subst (λ (z : Run). w.kind.first < z.end) (sym c)
              w.first.below in
              record {
                run = one;
                contained = Contains-push rs one;
                from = elim (cases_lt l j) [
                  | inl x ↦ let y = from.below l w.kind w.at x in absurd (omega (arith, lo, y))
                  | inr x ↦ x
                ];
                below = elim (cases_lt l k) [
                  | inl x ↦ x
                  | inr x ↦ let y = to.above l w.kind w.at x in absurd (omega (arith, hi, y))
                ];
              }
        ],
      )

  pub met_from : (qs rs : List Run) (i : ℕ) (ranks row : List ℕ) → length qs ≤ i
      → members qs ≡ ranks → HasFirsts (take i qs) rs
      → ((a : ℕ) → Contains row a ↔ ((r : Run) × Contains rs r × Contains (numbers_of r) a))
      → (l : ℕ) → Contains row l ↔ IsMet ks ranks l
  met_from qs rs i ranks row il is a has l =
      let all : HasFirsts qs rs = subst (λ z. HasFirsts z rs) (take_all i qs il) a in (
        λ c.
            let w = (has l).0 c in
            let v = (in_numbers w.0 l).0 w.2 in
            let f = (all l).0 (record { run = w.0; contained = w.1; from = v.0; below = v.1 }) in
            record {
              kind = f.kind;
              at = f.at;
              first = subst (λ z. Contains z f.kind.first) is
                  ((in_members qs f.kind.first).1 (has_one qs f.first.run f.kind.first
                  f.first.contained (f.first.from, f.first.below)));
            },
        λ w.
            let m = of_one qs w.kind.first ((in_members qs w.kind.first).0
            (subst (λ z. Contains z w.kind.first) (sym is) w.first)) in
            let v = (all l).1 (record {
              kind = w.kind;
              at = w.at;
              first = record { run = m.0; contained = m.1; from = m.2.0; below = m.2.1 };
            }) in
            (has l).1 (v.run, v.contained, (in_numbers v.run l).1 (v.from, v.below)),
      )

  module _ (ix : Entries) (index : IsIndex (kind_fingerprints ks) ix) (c : List ℕ) where
    pub but_none : ButFor ks None c c
    but_none = record {
      within = λ l i. i;
      found = λ l e at i. (λ j q. absurd cc, λ n. i);
    }

    pub but_lone : (f : Fingerprint) → lookup (is_at (fingerprint_cmp f)) ix ≡ None
        → ButFor ks (Some f) c c
    but_lone f none = record {
      within = λ l i. i;
      found = λ l e at i. (
        λ j q.
            let same : e.fingerprint ≡ f = let z : Some f ≡ Some e.fingerprint = q in cc in
            not_Contains-nil l (subst (λ z. Contains z l)
            (ap (λ (r : Option (List ℕ)). unwrap_or r []) none)
            ((index_of_mapped (λ (d : Kind). d.fingerprint) ks ix index f l e at).1 same)),
        λ n. i,
      );
    }

    pub but_some : (f : Fingerprint) (s d : List ℕ)
        → lookup (is_at (fingerprint_cmp f)) ix ≡ Some s → d ≡ without s c
        → ButFor ks (Some f) c d
    but_some f s d some is = record {
      within = λ l i. ((Contains-without s c l).0 (subst (λ z. Contains z l) is i)).0;
      found = λ l e at i.
          let there : ranks_at ix f ≡ s = ap (λ (r : Option (List ℕ)). unwrap_or r []) some in
          let w = index_of_mapped (λ (d : Kind). d.fingerprint) ks ix index f l e at in (
            λ j q.
                let same : e.fingerprint ≡ f = let z : Some f ≡ Some e.fingerprint = q in cc in
                ((Contains-without s c l).0 (subst (λ z. Contains z l) is j)).1
                (subst (λ z. Contains z l) there (w.1 same)),
            λ n. subst (λ z. Contains z l) (sym is) ((Contains-without s c l).1 (
              i,
              λ k. n (ap Some (sym (w.0 (subst (λ z. Contains z l) (sym there) k)))),
            )),
          );
    }

  pub row_from : (g all row : List ℕ) (f : Option Fingerprint)
      → ((l : ℕ) → Contains all l ↔ IsMet ks g l) → ButFor ks f all row
      → (l : ℕ) → Contains row l ↔ IsAmong ks g f l
  row_from g all row f m b l = (
    λ c.
        let i = b.within l c in
        let w = (m l).0 i in
        record {
          kind = w.kind;
          at = w.at;
          first = w.first;
          other = (b.found l w.kind w.at i).0 c;
        },
    λ w.
        let i = (m l).1 (record { kind = w.kind; at = w.at; first = w.first }) in
        (b.found l w.kind w.at i).1 w.other,
  )

  pub rows_none : AreRowsOf ks 0 []
  rows_none = record { count = refl; each = λ k d l at. absurd (omega (arith, l)) }

  pub rows_more : (m : ℕ) (e : Kind) (rs new : List (List ℕ)) (row : List ℕ)
      → slice_get ks m ≡ Some e
      → ((l : ℕ) → Contains row l ↔ IsAmong ks e.rival_ranks.ranks e.rival_ranks.except l)
      → new ≡ rs ++ row ∷ [] → AreRowsOf ks m rs → AreRowsOf ks (m + 1) new
  rows_more m e rs new row there exact is a = record {
    count = let c = a.count in let n = length_push rs row in let l = ap length is in
        omega (arith, c, n, l);
    each = λ k d l at. elim (cases_lt k m) [
      | inl n ↦ let w = a.each k d n at in record {
        row = w.row;
        at = ap (λ z. slice_get z k) is ∙ got_more rs (row ∷ []) k w.row w.at;
        exact = w.exact;
      }
      | inr n ↦
          let same : k ≡ m = omega (arith, l, n) in
          let one : d ≡ e = one_value ks m d e
          (subst (λ z. slice_get ks z ≡ Some d) same at) there in
          record {
            row = row;
            at = ap (λ z. slice_get z k) is ∙ (ap (slice_get (rs ++ row ∷ []))
                (same ∙ sym a.count) ∙ got_last rs row);
            exact = λ x. subst (λ (z : Kind). Contains row x
                ↔ IsAmong ks z.rival_ranks.ranks z.rival_ranks.except x) (sym one)
                (exact x);
          }
    ];
  }

-- ---- classes at the indices of their setters

set_same : (xs : List (Option ℕ)) (i : ℕ) (v d : Option ℕ) → i < length xs
    → get_or (set xs i v) i d ≡ v
set_same [] i v d l = absurd (omega (arith, l))
set_same (x ∷ xs) zero v d l = refl
set_same (x ∷ xs) (suc i) v d l = set_same xs i v d (omega (arith, l))

set_other : (xs : List (Option ℕ)) (i j : ℕ) (v d : Option ℕ) → j ≢ i
    → get_or (set xs i v) j d ≡ get_or xs j d
set_other [] i j v d n = refl
set_other (x ∷ xs) zero zero v d n = absurd (n refl)
set_other (x ∷ xs) zero (suc j) v d n = refl
set_other (x ∷ xs) (suc i) zero v d n = refl
set_other (x ∷ xs) (suc i) (suc j) v d n = set_other xs i j v d (λ e. n (ap suc e))

module _ (ss : List Setter) (cs : List (Option ℕ)) (n : ℕ) where
  pub put_none : (us : List (Option ℕ)) → length us ≡ n
      → ((i k : ℕ) → get_or us i None ≢ Some k) → ArePut ss cs 0 n us
  put_none us e f = record {
    count = e;
    found = λ i k at. absurd (f i k at);
    none = λ p d l at. absurd (omega (arith, l));
  }

  module _ (m : ℕ) (us : List (Option ℕ)) (old : ArePut ss cs m n us) (e : Setter)
      (at : slice_get ss m ≡ Some e) where
    later : (i k : ℕ) → IsPut ss cs m i k → IsPut ss cs (m + 1) i k
    later i k p = record {
      rank = p.rank;
      below = let l = p.below in omega (arith, l);
      setter = p.setter;
      at = p.at;
      index = p.index;
      given = p.given;
    }

    pub put_more : (c : Option ℕ) (new : List (Option ℕ)) → get_or cs m None ≡ c
        → new ≡ put_class us e.index c → e.index < n → ArePut ss cs (m + 1) n new
    put_more None new given is l = subst (ArePut ss cs (m + 1) n) (sym is) (record {
      count = old.count;
      found = λ i k t. later i k (old.found i k t);
      none = λ p d w i t. elim (cases_lt p m) [
        | inl k ↦ old.none p d k i t
        | inr k ↦ let same : p ≡ m = omega (arith, w, k) in
            ap (λ z. get_or cs z None) same ∙ given
      ];
    })
    put_more (Some c) new given is l = subst (ArePut ss cs (m + 1) n) (sym is) (record {
      count = length-set us e.index (Some c) ∙ old.count;
      found = λ i k t. elim (cases_nat i e.index) [
        | inl same ↦
            let one : Some c ≡ Some k = sym (set_same us e.index (Some c) None within)
            ∙ (ap (λ z. get_or (set us e.index (Some c)) z None) (sym same) ∙ t) in
            record {
              rank = m;
              below = omega arith;
              setter = e;
              at = at;
              index = sym same;
              given = given ∙ one;
            }
        | inr other ↦ later i k (old.found i k
            (sym (set_other us e.index i (Some c) None other) ∙ t))
      ];
      none = λ p d w i t. elim (cases_nat d.index e.index) [
        | inl same ↦ absurd (
            let one : Some c ≡ None = sym (set_same us e.index (Some c) None within)
            ∙ (ap (λ z. get_or (set us e.index (Some c)) z None) (sym same) ∙ t) in cc)
        | inr other ↦ elim (cases_lt p m) [
          | inl k ↦ old.none p d k i (sym (set_other us e.index d.index (Some c) None other) ∙ t)
          | inr k ↦
              let same : p ≡ m = omega (arith, w, k) in
              let one : d ≡ e = one_value ss m d e
              (subst (λ z. slice_get ss z ≡ Some d) same i) at in
              absurd (other (ap (λ (z : Setter). z.index) one))
        ]
      ];
    })
      where
        within : e.index < length us
        within = let k = old.count in omega (arith, k, l)

        cases_nat : (a b : ℕ) → (a ≡ b) ⊎ (a ≢ b)
        cases_nat a b = elim (cases_lt a b) [
          | inl x ↦ inr (λ q. omega (arith, x, q))
          | inr x ↦ elim (cases_lt b a) [
            | inl y ↦ inr (λ q. omega (arith, y, q))
            | inr y ↦ inl (omega (arith, x, y))
          ]
        ]
