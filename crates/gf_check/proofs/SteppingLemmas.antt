-- What is told of the lines so far, over the steps behind an offer.
use Rattle.std.specs.Prelude.{ℕ, ◌⊎◌, Contains, Option}
use Rattle.std.proofs.Common.{◌≡◌, List, [], ◌∷◌, ◌++◌, refl, sym, ap, subst, ◌∙◌, inl, inr}
use Rattle.std.proofs.lemmas.List.Elements.{Contains-append_left}
use Rattle.gf_base.proofs.ListLemmas.{not_Contains-nil}
use Rattle.gf_streams.specs.TextLines.{numbered_lines}
use Rattle.gf_ops.specs.declared.op.Op.{Op}
use Rattle.gf_ops.specs.declared.op.OpId.{OpId}
use Rattle.gf_ops.specs.declared.faults.OpFault.{OpFault}
use Rattle.gf_ops.specs.Accepted.{AreAccepted}
use Rattle.gf_ops.specs.ValidHistory.{IsValid}
use Rattle.gf_causal.specs.HeldOperations.{AreHeld}
use Rattle.gf_causal.specs.Ready.{NoneIsReady}
use Rattle.gf_site.specs.ReplicaState.{ReplicaState}
use Rattle.gf_site.specs.ReplicaSteps.{AppliesNext, ForgetsNext}
use Rattle.gf_replay.specs.declared.reading_error.LineCause.TheVariants as cause
use Rattle.gf_replay.specs.declared.reading_error.ReadingError.{ReadingError}
use Rattle.gf_replay.specs.declared.reading_error.ReadingError.TheVariants as reading
use Rattle.gf_replay.specs.Taking.{HasOrHolds, KeepsAll, of_line}
use Rattle.gf_replay.proofs.TakingLemmas.{dropped_ready, held_more, idle_steps, keeps_applied}
use Rattle.gf_replay.proofs.TakingLemmas.{more_there}
use Rattle.gf_check.specs.declared.telling.Telling.{Telling}
use Rattle.gf_check.specs.FaultLines.{Told, errors}
use Rattle.gf_check.specs.TrueFaults.{IsDenotedBy, IsTrueOf}
use Rattle.gf_check.specs.AllFaults.{IsFaultOf, TellsDropped, TellsOp}
use Rattle.gf_check.specs.Telling.{HasTold, TellsOnce, again as told_again, anew}
use Rattle.gf_check.specs.CheckedLines.{BeginsWith, HasChecked, HasOffered, HasRead, IsStepping}
use Rattle.gf_check.proofs.OrderLemmas.{order_drop}
use Rattle.gf_check.proofs.ReadLemmas.{HasRead-op, Refuses-op}
use Rattle.gf_check.proofs.ToldLemmas.{error_cases, error_last, error_there}

-- ---- the first fault

module _ (none more : Type 0) (editor : Option ℕ) (bytes : List ℕ) where
  pub begins_as : (none → more) → (told : List Told) → BeginsWith none editor bytes told
      → BeginsWith more editor bytes told
  begins_as f [] b = f b
  begins_as f (t ∷ ts) b = b

  begins_there : (e : ReadingError) (told : List Told) → Contains (errors told) e
      → BeginsWith none editor bytes told → BeginsWith more editor bytes told
  begins_there e [] c b = absurd (not_Contains-nil e c)
  begins_there e (t ∷ ts) c b = b

  pub begins_more : (u : Told) → (none → IsFaultOf editor bytes u.error) → (told : List Told)
      → BeginsWith none editor bytes told → BeginsWith more editor bytes (told ++ u ∷ [])
  begins_more u f [] b = f b
  begins_more u f (t ∷ ts) b = b

-- ---- what is kept or told

-- an operation that a line denotes is denoted by more lines
pub denoted_left : (editor : Option ℕ) (lines more : List (ℕ × List ℕ)) (a : Op)
    → IsDenotedBy editor lines a → IsDenotedBy editor (lines ++ more) a
denoted_left editor lines more a d = record {
  number = d.number;
  text = d.text;
  there = Contains-append_left lines more (d.number, d.text) d.there;
  denotes = d.denotes;
}

pub told_still : (told : List Told) (u : Told) (n : ℕ) (i : OpId) → TellsOp told n i
    → TellsOp (told ++ u ∷ []) n i
told_still told u n i (inl c) = inl (error_there told u (reading.Line n cause.Clash) c)
told_still told u n i (inr d) = inr (d.0, error_there told u (reading.Dropped i d.0) d.1)

-- ---- steps

module _ (editor : Option ℕ) (bytes : List ℕ) (left : List (ℕ × List ℕ)) (x y : ReplicaState)
    (t : Telling) (h : IsStepping editor bytes left x t) where
  -- a step that adds an operation takes nothing away and brings nothing
  pub step_applied : (id : OpId) → AreHeld x.held → AppliesNext x id y
      → IsStepping editor bytes left y t
  step_applied id held s = record {
    told = h.told;
    is = h.is;
    first = begins_as (HasOffered editor bytes left x) (HasOffered editor bytes left y) editor bytes
        (λ o. record {
          number = o.number;
          text = o.text;
          before = o.before;
          read = o.read;
          op = o.op;
          denotes = o.denotes;
          offered = o.offered;
          offers = o.offers;
          keeps = keeps_applied o.offered x y id held o.keeps s;
        }) h.told h.first;
    before = h.before;
    whole = h.whole;
    each = h.each;
    all = λ n line a i d. elim (h.all n line a i d)
        [ inl j ↦ inl ((keeps.same a).0 j) | inr told ↦ inr told ];
    denoted = λ a i. h.denoted a ((keeps.same a).1 i);
    only = h.only;
    order = h.order;
    below = h.below;
    one = λ a b i j. h.one a b ((keeps.same a).1 i) ((keeps.same b).1 j);
  }
    where
      keeps : KeepsAll x y
      keeps = keeps_applied x x y id held (record { same = λ a. (λ i. i, λ i. i); others = λ o. o })
          s

  module _ (id : OpId) (fault : OpFault) (s : ForgetsNext x id fault y) where
    had : (a : Op) → HasOrHolds y a → HasOrHolds x a
    had a (inl j) = inl (held_more y.held x.held s.op s.takes.taken a j)
    had a (inr j) = inr (subst (λ ops. Contains ops a) s.ops j)

    -- what is no longer there is told
    kept : (told : List Told) → Contains (errors told) (reading.Dropped id fault) → (n : ℕ) (a : Op)
        → HasOrHolds x a ⊎ TellsOp told n a.id → HasOrHolds y a ⊎ TellsOp told n a.id
    kept told c n a (inl (inl j)) = elim (more_there y.held x.held s.op s.takes.taken a j) [
      | inl e ↦ inr (inr (subst (TellsDropped told) (sym (ap (λ (b : Op). b.id) e ∙ s.id))
          (fault, c)))
      | inr k ↦ inl (inl k)
    ]
    kept told c n a (inl (inr j)) = inl (inr (subst (λ ops. Contains ops a) (sym s.ops) j))
    kept told c n a (inr d) = inr d

    in_bytes : (a : Op) → HasOrHolds x a → IsDenotedBy editor (numbered_lines bytes) a
    in_bytes a i = subst (λ ls. IsDenotedBy editor ls a) (sym h.whole)
        (denoted_left editor h.before left a (h.denoted a i))

    is_true : IsValid x.ops → IsTrueOf editor (numbered_lines bytes) (reading.Dropped id fault)
    is_true valid = record {
      history = x.ops;
      valid = valid;
      of_these = λ a c. in_bytes a (inr c);
      op = s.op;
      one = in_bytes s.op (inl s.takes.first.contained);
      named = s.id;
      ready = s.takes.first.ready;
      refused = s.refused;
    }

    -- the operation that was offered last refuses the bytes, where no fault came before
    refuses : AreAccepted x.ops → IsValid x.ops → HasOffered editor bytes left x
        → IsFaultOf editor bytes (reading.Dropped id fault)
    refuses accepted valid o = record {
      fault = tt;
      refuses = Refuses-op bytes o.number o.text left o.before editor o.read o.op o.denotes
          (reading.Dropped id fault) (record {
            offered = o.offered;
            offers = o.offers;
            drops = dropped_ready o.offered x y id fault o.keeps accepted valid s;
          });
    }

    dropped : AreAccepted x.ops → IsValid x.ops → (u : Telling)
        → TellsOnce (reading.Dropped id fault) h.told u → IsStepping editor bytes left y u
    dropped accepted valid u (told_again there is) = record {
      told = h.told;
      is = is;
      first = begins_there (HasOffered editor bytes left x) (HasOffered editor bytes left y) editor
          bytes (reading.Dropped id fault) h.told there h.first;
      before = h.before;
      whole = h.whole;
      each = h.each;
      all = λ n line a i d. kept h.told there n a (h.all n line a i d);
      denoted = λ a i. h.denoted a (had a i);
      only = h.only;
      order = h.order;
      below = h.below;
      one = λ a b i j. h.one a b (had a i) (had b j);
    }
    dropped accepted valid u (anew fresh one) = record {
      told = h.told ++ last ∷ [];
      is = one.is;
      first = begins_more (HasOffered editor bytes left x) (HasOffered editor bytes left y) editor
          bytes last (refuses accepted valid) h.told h.first;
      before = h.before;
      whole = h.whole;
      each = λ n line e i d. error_there h.told last (of_line n e) (h.each n line e i d);
      all = λ n line a i d. kept (h.told ++ last ∷ []) (error_last h.told last) n a
          (elim (h.all n line a i d) [
            | inl j ↦ inl j
            | inr told ↦ inr (told_still h.told last n a.id told)
          ]);
      denoted = λ a i. h.denoted a (had a i);
      only = λ e c. elim (error_cases h.told last e c) [
        | inl j ↦ h.only e j
        | inr same ↦ subst (IsTrueOf editor (numbered_lines bytes)) same (is_true valid)
      ];
      order = order_drop h.told id fault one.why fresh h.order;
      below = λ k i m why c. elim (error_cases h.told last (reading.Line m why) c)
          [ inl j ↦ h.below k i m why j | inr same ↦ absurd cc ];
      one = λ a b i j. h.one a b (had a i) (had b j);
    }
      where
        last : Told
        last = record { error = reading.Dropped id fault; why = one.why }

    -- a step that drops an operation, which is told once
    pub step_dropped : AreAccepted x.ops → IsValid x.ops → (u : Telling)
        → ((told : List Told) → HasTold told t → TellsOnce (reading.Dropped id fault) told u)
        → IsStepping editor bytes left y u
    step_dropped accepted valid u tells = dropped accepted valid u (tells h.told h.is)

  -- a step that finds none ready is the last one
  pub steps_end : AreAccepted x.ops → IsValid x.ops → NoneIsReady x.ops x.held × (y ≡ x)
      → HasChecked editor bytes left y t
  steps_end accepted valid idle = subst (λ z. HasChecked editor bytes left z t) (sym idle.1)
      (record {
        tells = record {
          told = h.told;
          is = h.is;
          first = begins_as (HasOffered editor bytes left x) (HasRead editor bytes left x) editor
              bytes (λ o. HasRead-op bytes o.number o.text left o.before editor o.read o.op
              o.denotes x (record {
                offered = o.offered;
                offers = o.offers;
                steps = idle_steps o.offered x x o.keeps accepted valid (idle.0, refl);
              })) h.told h.first;
          before = h.before;
          whole = h.whole;
          each = h.each;
          all = h.all;
          denoted = h.denoted;
          only = h.only;
          order = h.order;
          below = h.below;
          one = h.one;
        };
        none = idle.0;
      })
