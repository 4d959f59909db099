-- A new operation conflicts with one of a site that did not know it if and only if it does with one
-- of the latest two of its attribute.
use Rattle.std.proofs.Common.{◌≡◌, ◌≢◌, ℕ, ◌≤◌, true, List, [], ◌∷◌, ◌++◌, set, Option, Some, None}
use Rattle.std.proofs.Common.{refl, sym, ap, subst, ◌∙◌, inl, inr, arith}
use Rattle.std.specs.Prelude.{◌⊎◌, ◌↔◌, ◌-◌, IsTrue, nat_le, Contains, slice_index_or}
use Rattle.std.proofs.lemmas.Bool.{cases_eq, leb-true, le-leb}
use Rattle.std.proofs.lemmas.List.{get_or-set_same, get_or-set_other, length-set}
use Rattle.std.proofs.lemmas.List.Elements.{Contains-push_cases, Contains-append_left}
use Rattle.std.proofs.lemmas.List.Elements.{Contains-append_right}
use Rattle.gf_ops.specs.declared.aim_walk.Latest.{Latest}
use Rattle.gf_ops.specs.declared.op.Op.{Op}
use Rattle.gf_ops.specs.declared.op.OpId.{OpId}
use Rattle.gf_ops.specs.declared.op.ObjectId.{ObjectId}
use Rattle.gf_ops.specs.declared.change.Start.{Start}
use Rattle.gf_ops.specs.declared.change.Change.TheVariants.{Create, Set}
use Rattle.gf_ops.specs.declared.change.Value.{Value}
use Rattle.gf_ops.specs.AimTests.{ConflictsAt}
use Rattle.gf_ops.specs.AimWalk.{index_of, Sets, IsOfSite, KnewAt, SetsAt, SetsSome, GivesAnother}
use Rattle.gf_ops.specs.AimWalk.{NoneKnew, NoneAbove, IsLatest, TellsOne, IsAimTable}
use Rattle.gf_ops.specs.AimWalk.{ConflictsWithLatest}
use Rattle.gf_ops.specs.AimWalk.{ConflictsWithTable}
use Rattle.gf_ops.specs.Attribute.{attribute_of, object_of}
use Rattle.gf_ops.specs.ConflictTests.{sets_another}
use Rattle.gf_ops.specs.DirectConflict.{DirectConflict}
use Rattle.gf_ops.specs.OperationOrder.{Precedes, entry}
use Rattle.gf_ops.specs.ValidHistory.{IsValid}
use Rattle.gf_ops.proofs.DirectConflictLemmas.{apart_from, direct_told}
use Rattle.gf_base.proofs.ListLemmas.{Contains-cons_head}
use Rattle.gf_ops.proofs.ValidityLemmas.{same_op}
use Rattle.gf_ops.proofs.AttributeLemmas.{attribute_index_below}
use Rattle.gf_ops.proofs.SetterLemmas.{value_cases, sets_one, other_told, other_from}
use Rattle.gf_ops.proofs.SetterLemmas.{sets_apart, SetBoth, both_set}

module _ (h : List Op) (valid : IsValid h) where
  -- the operation under j knew i
  pub knew_told : (m : Op) → Contains h m → (j : OpId) → m.id ≡ j → (t : ℕ) → j.site ≡ t
      → (i : OpId) (n : ℕ) → n ≡ i.site → IsTrue (nat_le i.seq (slice_index_or m.past.0 (n - 1) 0))
      ↔ KnewAt h t i j
  knew_told m there j id t site i n e =
      let same : slice_index_or m.past.0 (n - 1) 0 ≡ entry m.past i.site = ap
      (λ k. slice_index_or m.past.0 (k - 1) 0) e in (
        λ q. record {
          op = m;
          contained = there;
          id = id;
          site = site;
          known = subst (λ k. i.seq ≤ k) same (leb-true i.seq (slice_index_or m.past.0 (n - 1) 0)
              q);
        },
        λ k. le-leb i.seq (slice_index_or m.past.0 (n - 1) 0)
            (subst (λ l. i.seq ≤ l) (sym same) (subst (λ (z : Op). i.seq ≤ entry z.past i.site)
            (same_op h valid k.op m k.contained there (k.id ∙ sym id)) k.known)),
      )

  -- ---- what the table has for the attribute of an operation

  module _ (table : List (Option Latest)) (m : Op) (there : Contains h m) (i : OpId)
      (id : m.id ≡ i) where
    found : (q : ConflictsWithTable h table i) → q.op ≡ m
    found q = same_op h valid q.op m q.contained there (q.id ∙ sym id)

    pub made_conflicts : (s : Start) → m.change ≡ Create s → ¬ (ConflictsWithTable h table i)
    made_conflicts s e q = let f : Set q.sets.object q.value q.sets.aim ≡ Create s = sym q.sets.is
        ∙ (ap (λ (z : Op). z.change) (found q) ∙ e) in absurd cc

    module _ (o : ObjectId) (v : Value) (aim : List OpId) (e : m.change ≡ Set o v aim) (k : ℕ)
        (p : k ≡ index_of v) where
      read : (q : ConflictsWithTable h table i) → slice_index_or table k None ≡ Some q.latest
      read q =
          let sets = subst (λ z. Sets z q.value) (found q) q.sets in
          let same : index_of q.value ≡ k = ap index_of
          (sets_one m q.value v sets (record { object = o; aim = aim; is = e })) ∙ sym p in
          ap (λ n. slice_index_or table n None) (sym same) ∙ q.at

      pub none_conflicts : slice_index_or table k None ≡ None → ¬ (ConflictsWithTable h table i)
      none_conflicts none q = let f : Some q.latest ≡ None = sym (read q) ∙ none in absurd cc

      pub some_conflicts : (l : Latest) → slice_index_or table k None ≡ Some l
          → ConflictsWithLatest h m l ↔ ConflictsWithTable h table i
      some_conflicts l at = (
        λ w. record {
          op = m;
          contained = there;
          id = id;
          value = v;
          sets = record { object = o; aim = aim; is = e };
          latest = l;
          at = ap (λ n. slice_index_or table n None) (sym p) ∙ at;
          conflicts = w;
        },
        λ q.
            let f : Some q.latest ≡ Some l = sym (read q) ∙ at in
            let g : q.latest ≡ l = cc in
            subst (ConflictsWithLatest h m) g
            (subst (λ z. ConflictsWithLatest h z q.latest) (found q) q.conflicts),
      )

  of_site : (ids : List OpId) (t : ℕ) (i : OpId) (v : Value) (s : SetsAt h t i v) → Contains ids i
      → IsOfSite h ids t s.op
  of_site ids t i v s c = record {
    contained = s.contained;
    among = subst (Contains ids) (sym s.id) c;
    site = ap (λ (j : OpId). j.site) s.id ∙ s.site;
  }

  -- ---- a new operation, and those of one site that did not know it

  module _ (ids : List OpId) (t : ℕ) (x : Op) (there : Contains h x)
      (unknown : NoneKnew h ids t x.id) (object : (y : Op) → IsOfSite h ids t y
      → object_of x ≡ object_of y) where
    -- x conflicts directly with each later one behind y that gives another value, where it does
    -- with y
    behind_met : (y : Op) → IsOfSite h ids t y → DirectConflict x y
        → (v w : Value) (i : OpId) (z : SetsAt h t i w) → Contains ids i → y.id.seq ≤ i.seq
        → Sets x v → index_of v ≡ index_of w → v ≢ w → ConflictsAt h x i
    behind_met y of d v w i z c l s e n =
        let at = of_site ids t i w z c in
        let seq : z.op.id.seq ≡ i.seq = ap (λ (j : OpId). j.seq) z.id in
        let site : z.op.id.site ≡ y.id.site = at.site ∙ sym of.site in
        let not_after : ¬ (Precedes z.op x) = λ p. let q : z.op.id.seq ≤ entry x.past
        y.id.site = subst (λ k. z.op.id.seq ≤ entry x.past k) site p in
        d.concurrent.not_after (omega (arith, q, l, seq)) in
        record {
          op = z.op;
          contained = z.contained;
          id = z.id;
          direct = direct_told x z.op (unknown z.op at, not_after) (object z.op at)
              (apart_from x.change z.op.change (sets_apart x z.op v w s z.sets e n));
        }

    entry_met : (y : Op) → IsOfSite h ids t y → DirectConflict x y
        → (b : SetBoth x y) (o : Option Latest) → TellsOne h ids t (index_of b.first) o
        → (l : Latest) × (o ≡ Some l) × ConflictsWithLatest h x l
    entry_met y of d b None none = absurd (none y b.second of b.sets_second (sym b.index))
    entry_met y of d b (Some l) k = elim (value_cases b.first k.value) [
      | inl e ↦
          let far = k.beyond y b.second of b.sets_second (sym b.index) (λ g. b.differ (e ∙ sym g))
          in (
            l,
            refl,
            inr (behind_met y of d b.first k.other_value l.other k.other k.other_among far.1
                b.sets_first (sym k.other_index) (λ g. far.0 (sym g ∙ e))),
          )
      | inr n ↦ (
        l,
        refl,
        inl (behind_met y of d b.first k.value l.nearest k.nearest k.nearest_among
            (k.last y b.second of b.sets_second (sym b.index)) b.sets_first (sym k.index) n),
      )
    ]

    -- THE LATEST TWO decide: the table has one with which it conflicts
    pub table_met : (table : List (Option Latest)) → IsAimTable h ids t table → (y : Op)
        → IsOfSite h ids t y → DirectConflict x y → ConflictsWithTable h table x.id
    table_met table tells y of d =
        let b = both_set h valid x y there of.contained x.change y.change refl refl d in
        let met = entry_met y of d b (slice_index_or table (index_of b.first) None)
        (tells.each (index_of b.first) (attribute_index_below (attribute_of b.first))) in
        record {
          op = x;
          contained = there;
          id = refl;
          value = b.first;
          sets = b.sets_first;
          latest = met.0;
          at = met.1;
          conflicts = met.2;
        }

  -- and with what the table has it conflicts
  pub table_tells : (ids : List OpId) (t : ℕ) (table : List (Option Latest))
      → IsAimTable h ids t table → (i : OpId) (m : ConflictsWithTable h table i)
      → (y : Op) × IsOfSite h ids t y × DirectConflict m.op y
  table_tells ids t table tells i m =
      let k : IsLatest h ids t (index_of m.value) m.latest = subst
      (TellsOne h ids t (index_of m.value)) m.at
      (tells.each (index_of m.value) (attribute_index_below (attribute_of m.value)))
      in
      elim m.conflicts [
        | inl a ↦ (
          a.op,
          record {
            contained = a.contained;
            among = subst (Contains ids) (sym a.id) k.nearest_among;
            site = ap (λ (j : OpId). j.site) a.id ∙ k.nearest.site;
          },
          a.direct,
        )
        | inr a ↦ (
          a.op,
          record {
            contained = a.contained;
            among = subst (Contains ids) (sym a.id) k.other_among;
            site = ap (λ (j : OpId). j.site) a.id ∙ k.other.site;
          },
          a.direct,
        )
      ]

  -- ---- one more id

  module _ (ids : List OpId) (t : ℕ) (i : OpId) where
    more_cases : (y : Op) → IsOfSite h (ids ++ i ∷ []) t y → IsOfSite h ids t y ⊎ (y.id ≡ i)
    more_cases y of = elim (Contains-push_cases ids i y.id of.among) [
      | inl c ↦ inl (record { contained = of.contained; among = c; site = of.site })
      | inr e ↦ inr (sym e)
    ]

    still : (j : OpId) → Contains ids j → Contains (ids ++ i ∷ []) j
    still j c = Contains-append_left ids (i ∷ []) j c

    -- an entry stays where the operation under the id sets nothing of its attribute
    entry_stays : (k : ℕ) (o : Option Latest) → ((v : Value) → SetsAt h t i v → index_of v ≢ k)
        → TellsOne h ids t k o → TellsOne h (ids ++ i ∷ []) t k o
    entry_stays k None off none = λ y v of s e. elim (more_cases y of) [
      | inl old ↦ none y v old s e
      | inr same ↦ off v (record {
        op = y;
        contained = of.contained;
        id = same;
        site = ap (λ (j : OpId). j.site) (sym same) ∙ of.site;
        sets = s;
      }) e
    ]
    entry_stays k (Some l) off r = record {
      value = r.value;
      nearest = r.nearest;
      nearest_among = still l.nearest r.nearest_among;
      index = r.index;
      last = λ y v of s e. elim (more_cases y of) [
        | inl old ↦ r.last y v old s e
        | inr same ↦ absurd (off v
            (record {
              op = y;
              contained = of.contained;
              id = same;
              site = ap (λ (j : OpId). j.site) (sym same) ∙ of.site;
              sets = s;
            }) e)
      ];
      other_value = r.other_value;
      other = r.other;
      other_among = still l.other r.other_among;
      other_index = r.other_index;
      beyond = λ y v of s e n. elim (more_cases y of) [
        | inl old ↦ r.beyond y v old s e n
        | inr same ↦ absurd (off v
            (record {
              op = y;
              contained = of.contained;
              id = same;
              site = ap (λ (j : OpId). j.site) (sym same) ∙ of.site;
              sets = s;
            }) e)
      ];
    }

    pub tells_stay : (table : List (Option Latest)) → ¬ (SetsSome h t i) → IsAimTable h ids t table
        → IsAimTable h (ids ++ i ∷ []) t table
    tells_stay table off tells = record {
      wide = tells.wide;
      each = λ k l. entry_stays k (slice_index_or table k None)
          (λ v at e. off (record { value = v; at = at })) (tells.each k l);
    }

    module _ (w : Value) (at : SetsAt h t i w) where
      value_is : (y : Op) (v : Value) → Contains h y → y.id ≡ i → Sets y v → v ≡ w
      value_is y v c e s = sets_one at.op v w
          (subst (λ z. Sets z v) (same_op h valid y at.op c at.contained (e ∙ sym at.id)) s) at.sets

      pub tells_more : (table : List (Option Latest)) (l : Latest) → IsAimTable h ids t table
          → IsLatest h (ids ++ i ∷ []) t (index_of w) l
          → IsAimTable h (ids ++ i ∷ []) t (set table (index_of w) (Some l))
      tells_more table l tells latest = record {
        wide = length-set table (index_of w) (Some l) ∙ tells.wide;
        each = λ k b. elim (cases_eq k (index_of w)) [
          | inl e ↦
              let wide = tells.wide in
              let read = get_or-set_same table (index_of w) (Some l) None
              (omega (arith, b, e, wide)) in
              subst (λ n. TellsOne h (ids ++ i ∷ []) t n
              (slice_index_or (set table (index_of w) (Some l)) n None)) (sym e)
              (subst (TellsOne h (ids ++ i ∷ []) t (index_of w)) (sym read) latest)
          | inr n ↦
              let read = get_or-set_other table (index_of w) k (Some l) None n in
              let off : (v : Value) → SetsAt h t i v
              → index_of v ≢ k = λ v s e.
              n (sym e ∙ ap index_of (value_is s.op v s.contained s.id s.sets)) in
              subst (TellsOne h (ids ++ i ∷ []) t k) (sym read)
              (entry_stays k (slice_index_or table k None) off (tells.each k b))
        ];
      }

      module _ (above : NoneAbove h ids t i) where
        last_now : (y : Op) (v : Value) → IsOfSite h (ids ++ i ∷ []) t y → Sets y v
            → index_of v ≡ index_of w → y.id.seq ≤ i.seq
        last_now y v of s e = elim (more_cases y of) [
          | inl old ↦ above at.site y old
          | inr same ↦ let seq : y.id.seq ≡ i.seq = ap (λ (j : OpId). j.seq) same in
              omega (arith, seq)
        ]

        among : Contains (ids ++ i ∷ []) i
        among = Contains-append_right ids (i ∷ []) i (Contains-cons_head i [])

        pub latest_first : TellsOne h ids t (index_of w) None
            → IsLatest h (ids ++ i ∷ []) t (index_of w) (record { nearest = i; other = i })
        latest_first none = record {
          value = w;
          nearest = at;
          nearest_among = among;
          index = refl;
          last = last_now;
          other_value = w;
          other = at;
          other_among = among;
          other_index = refl;
          beyond = λ y v of s e n. elim (more_cases y of) [
            | inl old ↦ absurd (none y v old s e)
            | inr same ↦ absurd (n (value_is y v of.contained same s))
          ];
        }

        module _ (l : Latest) (r : IsLatest h ids t (index_of w) l) where
          pub latest_turns : GivesAnother h l.nearest w
              → IsLatest h (ids ++ i ∷ []) t (index_of w)
              (record { nearest = i; other = l.nearest })
          latest_turns g =
              let same = same_op h valid g.op r.nearest.op g.contained r.nearest.contained
              (g.id ∙ sym r.nearest.id) in
              let differ : r.value ≢ w = other_told r.nearest.op r.value w r.nearest.sets
              (subst (λ (z : Op). sets_another z.change w ≡ true) same g.another) in
              record {
                value = w;
                nearest = at;
                nearest_among = among;
                index = refl;
                last = last_now;
                other_value = r.value;
                other = r.nearest;
                other_among = still l.nearest r.nearest_among;
                other_index = r.index;
                beyond = λ y v of s e n. elim (more_cases y of) [
                  | inl old ↦ (differ, r.last y v old s e)
                  | inr new ↦ absurd (n (value_is y v of.contained new s))
                ];
              }

          pub latest_keeps : ¬ (GivesAnother h l.nearest w)
              → IsLatest h (ids ++ i ∷ []) t (index_of w) (record { nearest = i; other = l.other })
          latest_keeps off =
              let same : r.value ≡ w = elim (value_cases r.value w) [
                | inl e ↦ e
                | inr n ↦
                    absurd (off (record {
                      op = r.nearest.op;
                      contained = r.nearest.contained;
                      id = r.nearest.id;
                      another = other_from r.nearest.op r.value w r.nearest.sets r.index n;
                    }))
              ] in
              record {
                value = w;
                nearest = at;
                nearest_among = among;
                index = refl;
                last = last_now;
                other_value = r.other_value;
                other = r.other;
                other_among = still l.other r.other_among;
                other_index = r.other_index;
                beyond = λ y v of s e n. elim (more_cases y of) [
                  | inl old ↦ let b = r.beyond y v old s e (λ g. n (g ∙ same)) in
                      (λ g. b.0 (g ∙ sym same), b.1)
                  | inr new ↦ absurd (n (value_is y v of.contained new s))
                ];
              }
