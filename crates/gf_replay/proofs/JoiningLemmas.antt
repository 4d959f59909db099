-- What one site adds behind a history joins the operations that deliver the history, in whatever
-- order they come.
use Rattle.std.specs.Prelude.{Contains, ◌⊎◌}
use Rattle.std.proofs.Common.{◌≡◌, ◌≢◌, ℕ, ◌+◌, ◌≤◌, List, [], ◌∷◌, ◌++◌, sym, ap}
use Rattle.std.proofs.Common.{subst}
use Rattle.std.proofs.Common.{◌∙◌, inl, inr, arith}
use Rattle.std.proofs.lemmas.Bool.{cases_lt, cases_eq}
use Rattle.std.proofs.lemmas.List.Elements.{Contains-append_cases, Contains-append_left}
use Rattle.std.proofs.lemmas.List.Elements.{Contains-append_right, Contains-push}
use Rattle.gf_ops.specs.declared.op.Op.{Op}
use Rattle.gf_ops.specs.declared.op.OpId.{OpId}
use Rattle.gf_ops.specs.OperationOrder.{entry, count_of}
use Rattle.gf_ops.specs.Accepted.{AreAccepted}
use Rattle.gf_ops.specs.ValidHistory.{IsValid}
use Rattle.gf_ops.proofs.HistoryLemmas.{seq_in_range}
use Rattle.gf_ops.proofs.ValidityLemmas.{same_op}
use Rattle.gf_causal.specs.Blocking.{Blocks}
use Rattle.gf_causal.specs.Ready.{IsReady}
use Rattle.gf_causal.specs.DeliveredPart.{AreOneById, HaveSame, IsDelivery, IsLastDelivery}
use Rattle.gf_causal.proofs.CourseLemmas.{delivered_part, has_counted, number_counted, same_id}
use Rattle.gf_causal.proofs.FinishLemmas.{delivery-push}
use Rattle.gf_site.proofs.CourseLemmas.{all_ready}
use Rattle.gf_replay.specs.Denoting.{Delivers}
use Rattle.gf_replay.proofs.AddedLemmas.{AreAdded, added_accepted, added_count, added_own}
use Rattle.gf_replay.proofs.AddedLemmas.{added_valid}

module _ (s : ℕ) (ops h : List Op) (delivers : Delivers ops h) (run : AreAccepted h)
    (free : (a : Op) → Contains ops a → ¬ (Blocks s h a)) (new : List Op) (m : AreAdded s h new)
  where
    within_ops : (a : Op) → Contains h a → Contains ops a
    within_ops a i =
        let t = (delivers.delivered a).0 i in t.delivery.from_offered a t.contained

    -- what is not in the history is of another site, and knows no more of site s than it has
    waiting : (a : Op) → Contains ops a → ¬ (Contains h a)
        → (a.id.site ≢ s) × (entry a.past s ≤ count_of h s)
    waiting a i out = (
      λ e. free a i (record { waits = out; knows = inl e }),
      elim (cases_lt (count_of h s) (entry a.past s)) [
        | inl l ↦ absurd (free a i (record { waits = out; knows = inr l }))
        | inr l ↦ l
      ],
    )

    -- what was read stands in the history or not
    stands : (a : Op) → Contains ops a → Contains h a ⊎ (¬ (Contains h a))
    stands a i = elim (cases_lt (count_of h a.id.site) a.id.seq) [
      | inl above ↦ inr (λ j. let l = number_counted (all_ready run) a j in
          absurd (omega arith))
      | inr l ↦ elim (cases_lt 0 a.id.seq) [
        | inl f ↦
            let t = has_counted (all_ready run) a.id f l in
            inl (subst (Contains h)
            (delivers.one t.op a (within_ops t.op t.contained) i (same_id t.op a t.site t.seq))
            t.contained)
        | inr z ↦ inr (λ j.
            let r = (seq_in_range a (delivers.valid.in_range a j)).0 in absurd (omega arith))
      ]
    ]

    -- an operation that was read is none that is new
    pub not_new : (a b : Op) → Contains ops a → Contains new b → a.id ≢ b.id
    not_new a b i j e =
        let own = added_own s h new m b j in
        let at = ap (λ (k : OpId). k.site) e in
        let number = ap (λ (k : OpId). k.seq) e in
        elim (stands a i) [
          | inl k ↦
              let l = number_counted (all_ready run) a k in
              let n = subst (λ t. a.id.seq ≤ count_of h t) (at ∙ own.0) l in
              let f = own.1 in absurd (omega arith)
          | inr out ↦ (waiting a i out).0 (at ∙ own.0)
        ]

    valid_all : IsValid (h ++ new)
    valid_all = added_valid s h run delivers.valid new m

    pub run_all : AreAccepted (h ++ new)
    run_all = added_accepted s h run new m

    one_all : AreOneById (ops ++ new)
    one_all a b i j e = elim (Contains-append_cases ops new a i) [
      | inl k ↦ elim (Contains-append_cases ops new b j) [
        | inl l ↦ delivers.one a b k l e
        | inr l ↦ absurd (not_new a b k l e)
      ]
      | inr k ↦ elim (Contains-append_cases ops new b j) [
        | inl l ↦ absurd (not_new b a l k (sym e))
        | inr l ↦ same_op (h ++ new) valid_all a b (Contains-append_right h new a k)
            (Contains-append_right h new b l) e
      ]
    ]

    -- what stands behind the history and the new operations is not ready there
    not_twice : (a : Op) → Contains (h ++ new) a → ¬ (IsReady (h ++ new) a)
    not_twice a i r =
        let l = number_counted (all_ready run_all) a i in let q = r.seq in absurd (omega arith)

    -- what waited is not ready there either
    not_woken : (a : Op) → Contains ops a → ¬ (Contains h a) → ¬ (IsReady (h ++ new) a)
    not_woken a i out r =
        let w = waiting a i out in
        let ready : IsReady h a = record {
          seq = subst (λ n. a.id.seq ≡ n + 1) (added_count s h new m a.id.site w.0) r.seq;
          others = λ t u n. elim (cases_eq t s) [
            | inl e ↦ rw e w.1
            | inr o ↦ subst (λ k. entry a.past t ≤ k) (added_count s h new m t o) (r.others t u n)
          ];
        } in
        let was : IsDelivery ops h = record {
          from_offered = within_ops;
          once = delivers.valid.distinct;
          in_turn = all_ready run;
        } in
        out ((delivers.delivered a).1 (record {
          added = h ++ a ∷ [];
          delivery = delivery-push ops h a was i ready;
          contained = Contains-push h a;
        }))

    pub last : (all : List Op) → HaveSame all (ops ++ new) → IsLastDelivery all (h ++ new)
    last all same = record {
      delivery = record {
        from_offered = λ a i. (same a).1 (elim (Contains-append_cases h new a i) [
          | inl j ↦ Contains-append_left ops new a (within_ops a j)
          | inr j ↦ Contains-append_right ops new a j
        ]);
        once = valid_all.distinct;
        in_turn = all_ready run_all;
      };
      last = λ a i r. elim (Contains-append_cases ops new a ((same a).0 i)) [
        | inl j ↦ elim (stands a j) [
          | inl k ↦ not_twice a (Contains-append_left h new a k) r
          | inr out ↦ not_woken a j out r
        ]
        | inr j ↦ not_twice a (Contains-append_right h new a j) r
      ];
    }

    -- what was read and what is new deliver the history with what is new
    pub join_delivers : (all : List Op) → HaveSame all (ops ++ new) → Delivers all (h ++ new)
    join_delivers all same =
        let one : AreOneById all = λ a b i j e. one_all a b ((same a).0 i) ((same b).0 j) e in
        record {
          one = one;
          delivered = delivered_part all (h ++ new) one (last all same);
          valid = valid_all;
        }
