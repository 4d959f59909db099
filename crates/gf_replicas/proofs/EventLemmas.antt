-- Courses of one set of operations have events. Along the first course: before an operation is
-- authored, its site takes what stands before it in its own course; all
-- of that is known to the operation, so it stands before it in the first course too, and was
-- authored. At the end each site takes the rest.
use Rattle.std.proofs.Common.{◌≡◌, ℕ, zero, suc, ◌+◌, ◌<◌, ◌≤◌, List, [], ◌∷◌, ◌++◌, map, length}
use Rattle.std.proofs.Common.{append_assoc, append-nil, add-one, set, inl, inr, refl, sym, ap}
use Rattle.std.proofs.Common.{subst, ◌∙◌, arith}
use Rattle.std.specs.Prelude.{Contains, Some, slice_get}
use Rattle.std.proofs.lemmas.List.{length-set}
use Rattle.std.proofs.lemmas.List.Elements.{Contains-append_left, Contains-append_right}
use Rattle.std.proofs.lemmas.List.Elements.{Contains-append_cases, Contains-push}
use Rattle.std.proofs.lemmas.List.Elements.{Contains-push_cases}
use Rattle.std.proofs.lemmas.Option.{slice_get_within}
use Rattle.gf_ops.specs.declared.op.Op.{Op}
use Rattle.gf_ops.specs.Limits.{IsInRange}
use Rattle.gf_ops.specs.OperationOrder.{clock_of, entry, count_of}
use Rattle.gf_ops.specs.Accepted.{IsAccepted}
use Rattle.gf_ops.specs.ValidHistory.{IsValid}
use Rattle.gf_ops.proofs.HistoryLemmas.{site_in_range, seq_in_range}
use Rattle.gf_base.proofs.ListLemmas.{not_Contains-nil, Contains-cons_cases, Contains-cons_head}
use Rattle.gf_base.proofs.ListLemmas.{Contains-cons_tail}
use Rattle.gf_ops.proofs.ValidityLemmas.{same_op}
use Rattle.gf_base.proofs.PositionLemmas.{got_set, got_set_same, set_set, set_itself, one_value}
use Rattle.gf_base.proofs.PositionLemmas.{there_is, position_in, position_of}
use Rattle.gf_causal.specs.DeliveredPart.{AreReady}
use Rattle.gf_causal.proofs.CourseLemmas.{has_counted, number_counted, same_id}
use Rattle.gf_causal.proofs.ReadyLemmas.{least_ready}
use Rattle.gf_site.specs.SiteState.{SiteState, authored}
use Rattle.gf_site.specs.Course.{IsCourse, none as course_none, next as course_next}
use Rattle.gf_site.proofs.AuthorLemmas.{entry-clock_of}
use Rattle.gf_site.proofs.CourseLemmas.{accepted_ready, course_ready, last_accepted}
use Rattle.gf_replicas.specs.declared.event.Event.{Event}
use Rattle.gf_replicas.specs.declared.event.Event.TheVariants.{Author, Offer, Step}
use Rattle.gf_replicas.specs.World.{new_sites, holds, authors, receives, applies, offer_in, IsWorld}
use Rattle.gf_replicas.specs.World.{start, next}
use Rattle.gf_replicas.specs.Courses.{AreCourses, HaveEvents}
use Rattle.gf_replicas.proofs.SitesLemmas.{length-new_sites, new_at}
use Rattle.gf_site.proofs.ValidLemmas.{fresh_id, course_valid}
use Rattle.gf_replicas.proofs.CutLemmas.{Comes, course_cut, Split, split_at}

-- the site with the index k, with these operations
abbrev resting : ℕ → List Op → SiteState
resting k ops = record { number = suc k; ops = ops; held = [] }

same_lists : {X Y : Type 0} (f : X → Y) (xs : List X) (ys : List Y) → length xs ≡ length ys
    → ((k : ℕ) (x : X) (y : Y) → slice_get xs k ≡ Some x → slice_get ys k ≡ Some y → f x ≡ y)
    → map f xs ≡ ys
same_lists f [] [] l e = refl
same_lists f [] (y ∷ ys) l e = absurd (omega (arith, l))
same_lists f (x ∷ xs) [] l e = absurd (omega (arith, l))
same_lists f (x ∷ xs) (y ∷ ys) l e = λ i. e 0 x y refl refl i ∷ same_lists f xs ys
    (omega (arith, l)) (λ k u v. e (suc k) u v) i

only_one : {X : Type 0} (a b : X) → Contains (a ∷ []) b → b ≡ a
only_one a b c = elim (Contains-cons_cases a [] b c) [
  | inl e ↦ e
  | inr m ↦ absurd (not_Contains-nil b m)
]

before_it : (s : ℕ) → 1 ≤ s → (k : ℕ) × (s ≡ suc k)
before_it zero l = absurd (omega (arith, l))
before_it (suc k) l = (k, refl)

-- ---- worlds that some events come to

record Reached (n : ℕ) (sites : List SiteState) (messages : List Op) : Type 0 where
  events : List Event
  offers : List (ℕ × Op)
  run : IsWorld n events offers (record { sites = sites; messages = messages })

module _ (n : ℕ) (sites : List SiteState) (messages : List Op) (k : ℕ) (h : List Op) (a : Op)
    (w : Reached n sites messages) (at : slice_get sites k ≡ Some (resting k h))
    (ready : AreReady h) (accepted : IsAccepted h a) (in_range : IsInRange a) where
  -- the operation is the site's own
  make_one : a.id.site ≡ suc k → a.past ≡ clock_of h
      → Reached n (set sites k (resting k (h ++ a ∷ []))) (messages ++ a ∷ [])
  make_one s p =
      let number : a.id.seq ≡ count_of h (suc k) + 1 = subst (λ t. a.id.seq ≡ count_of h t + 1) s
      accepted.next.numbered.seq in
      let is : a ≡ authored (suc k) h a.change = λ i. record {
        id = record { site = s i; seq = number i };
        past = p i;
        change = a.change;
      } in
      record {
        events = w.events ++ Author (suc k) a.change ∷ [];
        offers = w.offers ++ [];
        run = next w.run (authors
            at (record { is = is; in_range = in_range; accepted = accepted; state = refl }));
      }

  -- the operation was authored
  take_one : Contains messages a → Reached n (set sites k (resting k (h ++ a ∷ []))) messages
  take_one c =
      let m = position_of messages a c in
      let held : SiteState = record { number = suc k; ops = h; held = a ∷ [] } in
      let offered = next w.run
      (receives {s = suc k} {m = m.0} at m.1
      (holds (record {
        not_held = λ b d. absurd (not_Contains-nil b d);
        not_added = λ b d. fresh_id h ready a accepted b d;
      }) (record { before = []; after = []; without = refl; with_it = refl }))) in
      let stepped = next offered
      (applies {s = suc k} {i = a.id} (got_set_same sites k held (resting k h) at) (
        record {
          op = a;
          id = refl;
          takes = record {
            first = record {
              contained = Contains-cons_head a [];
              ready = accepted_ready h a accepted;
              least = λ b d r. least_ready h a b (accepted_ready h a accepted) r
                  (subst (λ (x : Op). a.id.site ≤ x.id.site) (sym (only_one a b d)) (omega arith));
            };
            in_range = in_range;
            taken = record { before = []; after = []; without = refl; with_it = refl };
          };
          accepted = accepted;
          ops = refl;
        },
        refl,
      )) in
      record {
        events = (w.events ++ Offer (suc k) m.0 ∷ []) ++ Step (suc k) ∷ [];
        offers = (w.offers ++ offer_in messages (Offer (suc k) m.0)) ++ [];
        run = subst (λ l. IsWorld n ((w.events ++ Offer (suc k) m.0 ∷ []) ++ Step (suc k) ∷ [])
            ((w.offers ++ offer_in messages (Offer (suc k) m.0)) ++ [])
            (record { sites = l; messages = messages }))
            (set_set sites k held (resting k (h ++ a ∷ []))) stepped;
      }

-- the events for some operations that follow in the site's course
take_all : (n : ℕ) (messages : List Op) (k : ℕ) (all : List Op) → IsCourse (k + 1) all
    → (rest h more : List Op) → all ≡ (h ++ rest) ++ more
    → ((a : Op) → Contains rest a → Contains messages a) → (sites : List SiteState)
    → slice_get sites k ≡ Some (resting k h) → Reached n sites messages
    → Reached n (set sites k (resting k (h ++ rest))) messages
take_all n messages k all c [] h more e among sites at w = subst (λ l. Reached n l messages)
    (sym (set_itself sites k (resting k h) at) ∙ ap (λ g. set sites k (resting k g))
    (sym (append-nil h))) w
take_all n messages k all c (a ∷ rest) h more e among sites at w =
    let t = course_cut c h a (rest ++ more) (e ∙ append_assoc h (a ∷ rest) more) in
    let one = take_one n sites messages k h a w at (course_ready t.course) t.accepted
    (t.valid.in_range a (Contains-push h a)) (among a (Contains-cons_head a rest)) in
    let there = got_set_same sites k (resting k (h ++ a ∷ [])) (resting k h) at in
    let all_rest = take_all n messages k all c rest (h ++ a ∷ []) more
    (e ∙ ap (λ l. l ++ more) (sym (append_assoc h (a ∷ []) rest)))
    (λ b d. among b (Contains-cons_tail a rest b d)) (set sites k (resting k (h ++ a ∷ []))) there
    one in
    subst (λ l. Reached n l messages)
    (set_set sites k (resting k (h ++ a ∷ [])) (resting k ((h ++ a ∷ []) ++ rest))
    ∙ ap (λ g. set sites k (resting k g)) (append_assoc h (a ∷ []) rest)) all_rest

-- ---- worlds on the way to the lists

-- the site with the index k has a beginning of its course h, of messages, and holds nothing
record IsAt (messages : List Op) (k : ℕ) (h : List Op) (x : SiteState) : Type 0 where
  ops : List Op
  rest : List Op
  is : x ≡ resting k ops
  whole : h ≡ ops ++ rest
  from : (a : Op) → Contains ops a → Contains messages a

-- each site is at a beginning of its course, and the first j of them are done
record Come (lists : List (List Op)) (j : ℕ) (messages : List Op) : Type 0 where
  sites : List SiteState
  reached : Reached (length lists) sites messages
  long : length sites ≡ length lists
  at : (k : ℕ) (h : List Op) (x : SiteState) → slice_get lists k ≡ Some h
      → slice_get sites k ≡ Some x → IsAt messages k h x
  done : (k : ℕ) (h : List Op) (x : SiteState) → k < j → slice_get lists k ≡ Some h
      → slice_get sites k ≡ Some x → x.ops ≡ h

begin : (lists : List (List Op)) → Come lists 0 []
begin lists = record {
  sites = new_sites (length lists);
  reached = record { events = []; offers = []; run = start };
  long = length-new_sites (length lists);
  at = λ k h x e f. record {
    ops = [];
    rest = h;
    is = new_at (length lists) (suc k) x f;
    whole = refl;
    from = λ a c. absurd (not_Contains-nil a c);
  };
  done = λ k h x l e f. absurd (omega (arith, l));
}

module _ (lists : List (List Op)) (courses : AreCourses lists) (c : List Op)
    (in_lists : Contains lists c) (valid : IsValid c) where
  module _ (q : List Op) (a : Op) (within : (b : Op) → Contains q b → Contains c b)
      (in_c : Contains c a) (ready : AreReady q) (accepted : IsAccepted q a)
      (w : Come lists 0 q) where
    module _ (k : ℕ) (h : List Op) (x : SiteState) (site : a.id.site ≡ suc k)
        (h_at : slice_get lists k ≡ Some h) (x_at : slice_get w.sites k ≡ Some x) where
      in_h : (b : Op) → Contains c b → Contains h b
      in_h b d = (courses.same c h in_lists (position_in lists k h h_at) b).0 d

      course_h : IsCourse (k + 1) h
      course_h = courses.course k h h_at

      now : IsAt q k h x
      now = w.at k h x h_at x_at

      -- the operation stands in what is left of its site's course
      in_rest : Contains now.rest a
      in_rest = elim (Contains-append_cases now.ops now.rest a
          (subst (λ l. Contains l a) now.whole (in_h a in_c))) [
            | inl d ↦ absurd (fresh_id q ready a accepted a (now.from a d) refl)
            | inr d ↦ d
          ]

      cut : Split now.rest a
      cut = split_at now.rest a in_rest

      h_is : h ≡ (now.ops ++ cut.before) ++ a ∷ cut.after
      h_is = now.whole ∙ ap (λ l. now.ops ++ l) cut.whole
          ∙ sym (append_assoc now.ops cut.before (a ∷ cut.after))

      comes : Comes (k + 1) (now.ops ++ cut.before) a
      comes = course_cut course_h (now.ops ++ cut.before) a cut.after h_is

      past_is : a.past ≡ clock_of (now.ops ++ cut.before)
      past_is = comes.own (site ∙ sym (add-one k))

      -- what stands before it there was authored, since it knows that
      before_authored : (f : Op) → Contains cut.before f → Contains q f
      before_authored f d =
          let here = Contains-append_right now.ops cut.before f d in
          let in_range = (course_valid comes.course).in_range f here in
          let known : entry a.past f.id.site ≡ count_of (now.ops ++ cut.before) f.id.site = ap
          (λ p. entry p f.id.site) past_is ∙ entry-clock_of (now.ops ++ cut.before) f.id.site
          (site_in_range f in_range) in
          let few = number_counted (course_ready comes.course) f here in
          let most = accepted.next.known f.id.site (site_in_range f in_range) in
          let t = has_counted ready f.id (seq_in_range f in_range).0
          (omega (arith, known, few, most)) in
          let same = same_op h (course_valid course_h) t.op f (in_h t.op (within t.op t.contained))
          (subst (λ l. Contains l f) (sym h_is) (Contains-append_left (now.ops ++ cut.before)
          (a ∷ cut.after) f here)) (same_id t.op f t.site t.seq) in
          subst (Contains q) same t.contained

      made : Reached (length lists) (set w.sites k (resting k ((now.ops ++ cut.before) ++ a ∷ [])))
          (q ++ a ∷ [])
      made =
          let at : slice_get w.sites k ≡ Some (resting k now.ops) = x_at ∙ ap Some now.is in
          let taken = take_all (length lists) q k h course_h cut.before now.ops (a ∷ cut.after) h_is
          before_authored w.sites at w.reached in
          let there = got_set_same w.sites k (resting k (now.ops ++ cut.before)) (resting k now.ops)
          at in
          let own = make_one (length lists) (set w.sites k (resting k (now.ops ++ cut.before))) q k
          (now.ops ++ cut.before) a taken there (course_ready comes.course) comes.accepted
          (valid.in_range a in_c) site past_is in
          subst (λ l. Reached (length lists) l (q ++ a ∷ []))
          (set_set w.sites k (resting k (now.ops ++ cut.before))
          (resting k ((now.ops ++ cut.before) ++ a ∷ []))) own

      from_grown : (b : Op) → Contains ((now.ops ++ cut.before) ++ a ∷ []) b
          → Contains (q ++ a ∷ []) b
      from_grown b d = elim (Contains-push_cases (now.ops ++ cut.before) a b d) [
        | inl e ↦ elim (Contains-append_cases now.ops cut.before b e) [
          | inl f ↦ Contains-append_left q (a ∷ []) b (now.from b f)
          | inr f ↦ Contains-append_left q (a ∷ []) b (before_authored b f)
        ]
        | inr e ↦ subst (Contains (q ++ a ∷ [])) e (Contains-push q a)
      ]

      forward_at : Come lists 0 (q ++ a ∷ [])
      forward_at = record {
        sites = set w.sites k (resting k ((now.ops ++ cut.before) ++ a ∷ []));
        reached = made;
        long = length-set w.sites k (resting k ((now.ops ++ cut.before) ++ a ∷ [])) ∙ w.long;
        at = λ i g y e f. elim (got_set w.sites k i (resting k ((now.ops ++ cut.before) ++ a ∷ []))
            y f) [
              | inl d ↦
                  let same : h ≡ g = one_value lists k h g h_at
                  (subst (λ m. slice_get lists m ≡ Some g) d.0 e) in
                  subst (λ m. IsAt (q ++ a ∷ []) m g y) (sym d.0)
                  (record {
                    ops = (now.ops ++ cut.before) ++ a ∷ [];
                    rest = cut.after;
                    is = d.1;
                    whole = sym same ∙ h_is ∙ sym (append_assoc (now.ops ++ cut.before) (a ∷ [])
                        cut.after);
                    from = from_grown;
                  })
              | inr d ↦ let t = w.at i g y e d.1 in record {
                ops = t.ops;
                rest = t.rest;
                is = t.is;
                whole = t.whole;
                from = λ b m. Contains-append_left q (a ∷ []) b (t.from b m);
              }
            ];
        done = λ i g y l e f. absurd (omega (arith, l));
      }

    forward : Come lists 0 (q ++ a ∷ [])
    forward =
        let k = before_it a.id.site (site_in_range a (valid.in_range a in_c)).0 in
        let few = courses.among c a in_lists in_c in
        let h = there_is lists k.0 (omega (arith, few, k.1)) in
        let x = there_is w.sites k.0 (omega (arith, few, k.1, w.long)) in
        forward_at k.0 h.0 x.0 k.1 h.1 x.1

  authored_all : {s : ℕ} {q : List Op} → IsCourse s q → ((b : Op) → Contains q b → Contains c b)
      → Come lists 0 q
  authored_all course_none within = begin lists
  authored_all (course_next {h = q} a r v o) within =
      let inner : (b : Op) → Contains q b
      → Contains c b = λ b d. within b (Contains-append_left q (a ∷ []) b d) in
      forward q a inner (within a (Contains-push q a)) (course_ready r)
      (last_accepted q a (course_ready r) v) (authored_all r inner)

  -- each of the first j sites takes the rest
  taken_all : (j : ℕ) → j ≤ length lists → Come lists 0 c → Come lists j c
  taken_all zero l w = w
  taken_all (suc j) l first =
      let w = taken_all j (omega (arith, l)) first in
      let h = there_is lists j (omega (arith, l)) in
      let x = there_is w.sites j (omega (arith, l, w.long)) in
      let t = w.at j h.0 x.0 h.1 x.1 in
      let from_h : (b : Op) → Contains h.0 b
      → Contains c b = λ b d. (courses.same c h.0 in_lists (position_in lists j h.0 h.1) b).1 d in
      let whole : h.0 ≡ (t.ops ++ t.rest) ++ [] = t.whole ∙ sym (append-nil (t.ops ++ t.rest)) in
      let at : slice_get w.sites j ≡ Some (resting j t.ops) = x.1 ∙ ap Some t.is in
      let all_rest = take_all (length lists) c j h.0 (courses.course j h.0 h.1) t.rest t.ops []
      whole (λ b d. from_h b (subst (λ l. Contains l b) (sym t.whole)
      (Contains-append_right t.ops t.rest b d))) w.sites at w.reached in
      record {
        sites = set w.sites j (resting j (t.ops ++ t.rest));
        reached = all_rest;
        long = length-set w.sites j (resting j (t.ops ++ t.rest)) ∙ w.long;
        at = λ i g y e f. elim (got_set w.sites j i (resting j (t.ops ++ t.rest)) y f) [
          | inl d ↦
              let same : h.0 ≡ g = one_value lists j h.0 g h.1
              (subst (λ m. slice_get lists m ≡ Some g) d.0 e) in
              subst (λ m. IsAt c m g y) (sym d.0)
              (record {
                ops = t.ops ++ t.rest;
                rest = [];
                is = d.1;
                whole = sym same ∙ whole;
                from = λ b m. from_h b (subst (λ l. Contains l b) (sym t.whole) m);
              })
          | inr d ↦ w.at i g y e d.1
        ];
        done = λ i g y m e f. elim (got_set w.sites j i (resting j (t.ops ++ t.rest)) y f) [
          | inl d ↦ ap (λ (z : SiteState). z.ops) d.1 ∙ sym t.whole
              ∙ one_value lists j h.0 g h.1 (subst (λ m. slice_get lists m ≡ Some g) d.0 e)
          | inr d ↦ let n = d.0 in w.done i g y (omega (arith, m, n)) e d.1
        ];
      }

have_events : (lists : List (List Op)) (messages : List Op) → Come lists (length lists) messages
    → HaveEvents lists
have_events lists messages w = record {
  events = w.reached.events;
  world = record { sites = w.sites; messages = messages };
  run = record { offers = w.reached.offers; is = w.reached.run };
  lists_are = same_lists (λ (x : SiteState). x.ops) w.sites lists w.long
      (λ k x h e f. w.done k h x (slice_get_within lists k h f) f e);
  held_none = λ x c.
      let k = position_of w.sites x c in
      let l = slice_get_within w.sites k.0 x k.1 in
      let h = there_is lists k.0 (omega (arith, l, w.long)) in
      ap (λ (y : SiteState). y.held) (w.at k.0 h.0 x h.1 k.1).is;
}

-- the claim of this file
pub courses_have_events : (lists : List (List Op)) → AreCourses lists → HaveEvents lists
courses_have_events [] courses = have_events [] [] (begin [])
courses_have_events (c ∷ lists) courses =
    let first = courses.course 0 c refl in
    let there = Contains-cons_head c lists in
    let valid = course_valid first in
    let w = authored_all (c ∷ lists) courses c there valid first (λ b d. d) in
    have_events (c ∷ lists) c (taken_all (c ∷ lists) courses c there valid (length (c ∷ lists))
    (omega arith) w)
