-- Each step of a link keeps its rule.
use Rattle.std.proofs.Common.{◌≡◌, ◌≢◌, ◌≤◌, ◌<◌, ℕ, zero, suc, true, false, true≢false, List, []}
use Rattle.std.proofs.Common.{◌∷◌, ◌++◌, length, set, refl, sym, ap, ◌∙◌, subst, ⊎_elim}
use Rattle.std.proofs.Common.{append_assoc, arith, length-append}
use Rattle.std.specs.Prelude.{IsTrue, IsFalse}
use mathlib.Core.Option.{some, some-ne-none}
use lib.ListN.{get_elem?}
use Rattle.crossbeam_queue.specs.Fifo.{Pushes, Pops, Forks, Merges, Learns}
use Rattle.crossbeam_queue.proofs.Lists.{at_set, at_snoc}
use Rattle.gf_link.specs.declared.message.Message.{Message}
use Rattle.gf_link.specs.declared.rule.Log.{Log}
use Rattle.gf_link.specs.Ends.{is_ended, ends_last}
use Rattle.gf_link.specs.Kept.{log, PassesFit, IsLossless, TakesMessage}
use Rattle.gf_link.proofs.EndLemmas.{lasts_more, lasts_front}

at_end : (l : List Log) (a b : Log) (j : ℕ) → get_elem? l j ≢ some b
    → get_elem? (l ++ a ∷ []) j ≡ some b → j ≡ length l
at_end [] a b zero n e = refl
at_end [] a b (suc j) n e = absurd (some-ne-none b (sym e))
at_end (x ∷ xs) a b zero n e = absurd (n e)
at_end (x ∷ xs) a b (suc j) n e = ap suc (at_end xs a b j n e)

abbrev Each : (ℕ → Log → Type 0) → List Log → Type 0
Each F views = (port : ℕ) (v : Log) → get_elem? views port ≡ some v → F port v

each_set : (F : ℕ → Log → Type 0) (views : List Log) (port : ℕ) (w : Log) → F port w
    → ((j : ℕ) (u : Log) → j ≢ port → get_elem? views j ≡ some u → F j u)
    → Each F (set views port w)
each_set F views port w mine others j u e = ⊎_elim
    (λ (x : (j ≡ port) × (w ≡ u)). subst (λ (y : ℕ × Log). F y.0 y.1) (λ i. (sym x.0 i, x.1 i))
    mine)
    (λ (x : (j ≢ port) × (get_elem? views j ≡ some u)). others j u x.0 x.1)
    (at_set views port j w u e)

-- a link begins empty
pub begins : IsLossless [] (log true true [] [] ∷ [])
begins = record {
  writer = 0;
  reader = 0;
  sent = [];
  taken = [];
  whole = refl;
  few = omega arith;
  last = refl;
  fits = each_set (PassesFit 0 0 [] []) (log true true [] [] ∷ []) 0 (log true true [] [])
      (record { sender = λ _. (refl, refl); taker = λ _. (refl, refl) })
      (λ j u other e. absurd (other (at_end [] _ u j (λ x. some-ne-none u (sym x)) e)));
}

-- a message is sent
pub pushes : (n port : ℕ) (v : Log) (m : Message) → v.sends ≡ true → length v.sent < 1024
    → IsFalse (is_ended v.sent)
    → Pushes IsLossless n port v m (λ w. w ≡ log v.sends v.takes (v.sent ++ m ∷ []) v.taken)
pushes n port v m may room still items views _ h at =
    let mine = h.fits port v at in
    let same : v.sent ≡ h.sent = (mine.sender may).1 in
    let sent = h.sent ++ m ∷ [] in
    let w : Log = log v.sends v.takes (v.sent ++ m ∷ []) v.taken in
    let short : length h.sent < 1024 = subst (λ xs. length xs < 1024) same room in
    let closed : IsFalse (is_ended h.sent) = subst (λ xs. IsFalse (is_ended xs)) same still in
    let kept : IsLossless (items ++ m ∷ []) (set views port w) = record {
      writer = h.writer;
      reader = h.reader;
      sent = sent;
      taken = h.taken;
      whole = ap (λ l. l ++ m ∷ []) h.whole ∙ append_assoc h.taken items (m ∷ []);
      few = omega (arith, length-append h.sent (m ∷ []));
      last = lasts_more h.sent m h.last closed;
      fits = each_set (PassesFit h.writer h.reader sent h.taken) views port w
          (record {
            sender = λ _. ((mine.sender may).0, ap (λ l. l ++ m ∷ []) same);
            taker = mine.taker;
          })
          (λ j u other e. record {
            sender = λ p. absurd (other (((h.fits j u e).sender p).0 ∙ sym (mine.sender may).0));
            taker = (h.fits j u e).taker;
          });
    } in (w, kept, refl)

-- the link holds no more than was sent
pub no_more : (port : ℕ) (v : Log) → v.sends ≡ true
    → Learns IsLossless port v (λ items. length items ≤ length v.sent)
no_more port v may items views h at =
    let same = ((h.fits port v at).sender may).1 in
    omega (arith, ap length same, ap length h.whole, length-append h.taken items)

-- the first message is taken
pub pops : (port : ℕ) (v : Log) → v.takes ≡ true → Pops IsLossless port v (TakesMessage v)
pops port v may m items views h at =
    let mine = h.fits port v at in
    let same : v.taken ≡ h.taken = (mine.taker may).1 in
    let taken = h.taken ++ m ∷ [] in
    let w : Log = log v.sends v.takes v.sent (v.taken ++ m ∷ []) in
    let whole : h.sent ≡ taken ++ items = h.whole ∙ sym (append_assoc h.taken (m ∷ []) items) in
    let now : v.taken ++ m ∷ [] ≡ taken = ap (λ l. l ++ m ∷ []) same in
    let kept : IsLossless items (set views port w) = record {
      writer = h.writer;
      reader = h.reader;
      sent = h.sent;
      taken = taken;
      whole = whole;
      few = h.few;
      last = h.last;
      fits = each_set (PassesFit h.writer h.reader h.sent taken) views port w
          (record { sender = mine.sender; taker = λ _. ((mine.taker may).0, now) })
          (λ j u other e. record {
            sender = (h.fits j u e).sender;
            taker = λ p. absurd (other (((h.fits j u e).taker p).0 ∙ sym (mine.taker may).0));
          });
    } in
    let front : IsTrue (ends_last taken) = lasts_front taken items
    (subst (λ xs. IsTrue (ends_last xs)) whole h.last) in
    let tells : TakesMessage v m w = record {
      grown = refl;
      few = (let f = h.few in omega
          (arith, ap length whole, ap length now, length-append taken items));
      lasts = subst (λ xs. IsTrue (ends_last xs)) (sym now) front;
    } in (w, kept, tells)

-- the pass is split
pub forks : (port : ℕ) (v : Log) → v.sends ≡ true → v.takes ≡ true
    → Forks IsLossless port v (log true false v.sent []) (log false true [] v.taken)
forks port v a b items views h at =
    let l : Log = log true false v.sent [] in
    let r : Log = log false true [] v.taken in
    let mine = h.fits port v at in
    let vs : List Log = set views port l in
    let Old : ℕ → Log → Type 0 = λ j u. (u.sends ≡ true → (j ≡ h.writer) × (u.sent ≡ h.sent))
    × (u.takes ≢ true) in
    let old : Each Old vs = each_set Old views port l (
      (λ _. mine.sender a),
      λ p. true≢false (sym p),
    ) (λ j u other e. (
      (h.fits j u e).sender,
      λ p. other (((h.fits j u e).taker p).0 ∙ sym (mine.taker b).0),
    )) in record {
      writer = h.writer;
      reader = length vs;
      sent = h.sent;
      taken = h.taken;
      whole = h.whole;
      few = h.few;
      last = h.last;
      fits = λ j u e. ⊎_elim (λ x.
          record { sender = (old j u x).0; taker = λ p. absurd ((old j u x).1 p) })
          (λ (is : r ≡ u). record {
            sender = λ p. absurd (true≢false (sym (ap (λ (y : Log). y.sends) is ∙ p)));
            taker = λ p. (
              at_end vs r u j (λ x. (old j u x).1 p) e,
              ap (λ (y : Log). y.taken) (sym is) ∙ (mine.taker b).1,
            );
          }) (at_snoc vs r u j e);
    }

-- the passes are joined
pub merges : (port : ℕ) (v : Log) (other : ℕ) (u : Log) → v.sends ≡ true → u.takes ≡ true
    → Merges IsLossless port v other u (log true true v.sent u.taken) (log false false [] [])
merges port v other u a b items views h at two at' =
    let both : Log = log true true v.sent u.taken in
    let mine = h.fits port v at in
    let vs : List Log = set views port both in
    let was : get_elem? views other ≡ some u = ⊎_elim (λ x. absurd (two x.0)) (λ x. x.1)
    (at_set views port other both u at') in
    let theirs = (h.fits other u was).taker b in
    let Now : ℕ → Log → Type 0 = λ j y. j ≢ other → PassesFit h.writer port h.sent h.taken j y in
    let now : Each Now vs = each_set Now views port both
    (λ _. record { sender = λ _. mine.sender a; taker = λ _. (refl, theirs.1) })
    (λ j y _ e apart. record {
      sender = (h.fits j y e).sender;
      taker = λ p. absurd (apart (((h.fits j y e).taker p).0 ∙ sym theirs.0));
    }) in record {
      writer = h.writer;
      reader = port;
      sent = h.sent;
      taken = h.taken;
      whole = h.whole;
      few = h.few;
      last = h.last;
      fits = each_set (PassesFit h.writer port h.sent h.taken) vs other (log false false [] [])
          (record {
            sender = λ p. absurd (true≢false (sym p));
            taker = λ p. absurd (true≢false (sym p));
          })
          (λ j y apart e. now j y e apart);
    }

-- with both lists known, what the link holds is the rest
pub totals : (port : ℕ) (v : Log) → v.sends ≡ true → v.takes ≡ true
    → Learns IsLossless port v (λ items. (v.sent ≡ v.taken ++ items) × IsTrue (ends_last v.sent))
totals port v a b items views h at =
    let mine = h.fits port v at in
    let same = (mine.sender a).1 in (
      same ∙ h.whole ∙ ap (λ l. l ++ items) (sym (mine.taker b).1),
      subst (λ xs. IsTrue (ends_last xs)) (sym same) h.last,
    )
