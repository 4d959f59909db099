-- What is kept of accepted operations is accepted, where all that comes before it is kept.
use Rattle.std.proofs.Common.{◌≡◌, ℕ, ◌≤◌, ◌<◌, Bool, true, false, cond, List, [], ◌∷◌}
use Rattle.std.proofs.Common.{◌++◌, filter, length, take, drop, get_or, sym, ap, subst, ◌∙◌, inl}
use Rattle.std.proofs.Common.{inr}
use Rattle.std.proofs.Common.{arith}
use Rattle.std.specs.Prelude.{Contains}
use Rattle.std.proofs.lemmas.Bool.{cases_Bool, cases_lt}
use Rattle.std.proofs.lemmas.List.{append-nil, take-append-drop}
use Rattle.std.proofs.lemmas.List.Elements.{Contains-append_left, Contains-get_or, Contains-push}
use Rattle.std.proofs.lemmas.List.Elements.{filter-append}
use Rattle.gf_base.proofs.FilterLemmas.{Contains-filter}
use Rattle.gf_ops.specs.declared.op.Op.{Op}
use Rattle.gf_ops.specs.Accepted.{AreAccepted, IsAccepted, next, none}
use Rattle.gf_ops.specs.OperationOrder.{Precedes, count_of, entry}
use Rattle.gf_ops.specs.ValidHistory.{IsValid}
use Rattle.gf_ops.proofs.AcceptedLemmas.{accepted_at}
use Rattle.gf_causal.specs.Ready.{IsReady}
use Rattle.gf_causal.proofs.CourseLemmas.{count_within, has_counted, number_counted}
use Rattle.gf_causal.proofs.PartLemmas.{part_accepts}
use Rattle.gf_site.proofs.CourseLemmas.{all_ready}

-- ---- what is kept of one more

module _ (keep : Op → Bool) where
  kept_push : (h : List Op) (a : Op) (b : Bool) → keep a ≡ b
      → filter keep (h ++ a ∷ []) ≡ filter keep h ++ cond b (a ∷ []) []
  kept_push h a b e = filter-append keep h (a ∷ [])
      ∙ ap (λ c. filter keep h ++ cond c (a ∷ []) []) e

  pub kept_more : (h : List Op) (a : Op) → keep a ≡ true
      → filter keep (h ++ a ∷ []) ≡ filter keep h ++ a ∷ []
  kept_more h a e = kept_push h a true e

  pub kept_same : (h : List Op) (a : Op) → keep a ≡ false
      → filter keep (h ++ a ∷ []) ≡ filter keep h
  kept_same h a e = kept_push h a false e ∙ append-nil (filter keep h)

-- ---- what is kept is accepted

module _ (whole : List Op) (valid : IsValid whole) (keep : Op → Bool)
    (closed : (a x : Op) → Contains whole a → Contains whole x → keep a ≡ true → Precedes x a
    → keep x ≡ true) where
  module _ (h : List Op) (run : AreAccepted h) (kept : AreAccepted (filter keep h))
      (within : (x : Op) → Contains h x → Contains whole x) (a : Op) (there : Contains whole a)
      (accepted : IsAccepted h a) (stays : keep a ≡ true) where
    part_within : (x : Op) → Contains (filter keep h) x → Contains whole x
    part_within x m = within x ((Contains-filter keep h x).0 m).0

    -- as many as a knows of a site are kept
    enough : (t n : ℕ) → n ≤ count_of h t → ((x : Op) → x.id.site ≡ t → x.id.seq ≡ n → Precedes x a)
        → n ≤ count_of (filter keep h) t
    enough t n few before = elim (cases_lt 0 n) [
      | inl l ↦
          let w = has_counted (all_ready run) (record { site = t; seq = n }) l few in
          let k = closed a w.op there (within w.op w.contained) stays (before w.op w.site w.seq) in
          let m = number_counted (all_ready kept) w.op
          ((Contains-filter keep h w.op).1 (w.contained, k)) in
          let q = subst (λ r. w.op.id.seq ≤ count_of (filter keep h) r) w.site m in
          let e = w.seq in omega arith
      | inr l ↦ omega arith
    ]

    ready : IsReady (filter keep h) a
    ready = record {
      seq =
          let number = accepted.next.numbered in
          let seq = number.seq in
          let own = number.own in
          let more = count_within (all_ready kept) (all_ready run)
          (λ x m. ((Contains-filter keep h x).0 m).0) a.id.site in
          let all = enough a.id.site (count_of h a.id.site) (omega arith)
          (λ x at e. rw at (omega arith)) in
          omega arith;
      others = λ t i d.
          let most = accepted.next.known t i in
          enough t (entry a.past t) most (λ x at e. rw at (omega arith));
    }

    one_kept : IsAccepted (filter keep h) a
    one_kept = part_accepts whole (filter keep h) valid part_within (all_ready kept) a there ready

  pub kept_accepted : {h : List Op} → AreAccepted h → ((x : Op) → Contains h x → Contains whole x)
      → AreAccepted (filter keep h)
  kept_accepted none within = none
  kept_accepted (next {h} {a} r c) within =
      let before : (x : Op) → Contains h x → Contains whole x =
      λ x m. within x (Contains-append_left h (a ∷ []) x m) in
      let kept = kept_accepted r before in
      elim (cases_Bool (keep a)) [
        | inl e ↦ subst AreAccepted (sym (kept_more keep h a e))
            (next kept (one_kept h r kept before a (within a (Contains-push h a)) c e))
        | inr e ↦ subst AreAccepted (sym (kept_same keep h a e)) kept
      ]

  -- an operation that is kept is accepted behind those kept before it
  pub next_kept : AreAccepted whole → (i : ℕ) (d : Op) → i < length whole
      → keep (get_or whole i d) ≡ true → IsAccepted (filter keep (take i whole)) (get_or whole i d)
  next_kept run i d l stays =
      let before = accepted_at run i d l in
      let within : (x : Op) → Contains (take i whole) x → Contains whole x =
      λ x m. subst (λ h. Contains h x) (take-append-drop i whole)
      (Contains-append_left (take i whole) (drop i whole) x m) in
      one_kept (take i whole) before.run (kept_accepted before.run within) within
      (get_or whole i d) (Contains-get_or whole i d l) before.accepted stays
