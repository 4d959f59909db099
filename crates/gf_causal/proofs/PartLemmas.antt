-- What is ready behind a part of a valid history, and in that history, is accepted behind the part.
use Rattle.std.proofs.Common.{◌≤◌, List, inl, inr, subst, arith}
use Rattle.std.specs.Prelude.{Contains}
use Rattle.std.proofs.lemmas.Bool.{cases_eq}
use Rattle.gf_ops.specs.declared.op.Op.{Op}
use Rattle.gf_ops.specs.declared.op.OpId.{OpId}
use Rattle.gf_ops.specs.declared.change.Change.{Change}
use Rattle.gf_ops.specs.declared.change.Change.TheVariants.{Create, Set}
use Rattle.gf_ops.specs.OperationOrder.{entry}
use Rattle.gf_ops.specs.ValidHistory.{Counts, IsValid}
use Rattle.gf_ops.specs.KnownObject.{IsSuited}
use Rattle.gf_ops.specs.Accepted.{CountsAtMost, IsCausallyClosed, IsAccepted}
use Rattle.gf_ops.proofs.HistoryLemmas.{site_in_range, seq_in_range}
use Rattle.gf_ops.proofs.ValidityLemmas.{Holds, same_op}
use Rattle.gf_ops.proofs.AimedLemmas.{aimed_within}
use Rattle.gf_causal.specs.Ready.{IsReady}
use Rattle.gf_causal.specs.DeliveredPart.{AreReady}
use Rattle.gf_causal.proofs.CourseLemmas.{has_counted, same_id}

module _ (h part : List Op) (valid : IsValid h) (within : (a : Op) → Contains part a → Contains h a)
    (in_turn : AreReady part) (a : Op) (there : Contains h a) (ready : IsReady part a) where
  -- of its own site it knows all before it, as in h
  counts_known : CountsAtMost a.past part
  counts_known s i = elim (cases_eq s a.id.site) [
    | inl e ↦ let own = valid.own a there in let seq = ready.seq in rw e (omega arith)
    | inr d ↦ ready.others s i d
  ]

  -- what it knows knew in h no more than it
  knew_within : IsCausallyClosed part a
  knew_within b c known s i =
      let r = valid.in_range b (within b c) in
      let t = valid.closed a there b.id
      (record { site = site_in_range b r; first = (seq_in_range b r).0; last = known }) in
      subst (λ (x : Op). entry x.past s ≤ entry a.past s)
      (same_op h valid t.op b t.contained (within b c) t.id) (t.such s i)

  -- the creation that it knows in h is in the part, which has each number up to its count
  suited_within : (c : Change) → IsSuited h a c → IsSuited part a c
  suited_within (Create start) s = tt
  suited_within (Set o v aim) s =
      let k = s.known.made in
      let known = s.known.before in
      let r = valid.in_range k.op k.contained in
      let first = (seq_in_range k.op r).0 in
      let most = counts_known k.op.id.site (site_in_range k.op r) in
      let t = has_counted in_turn k.op.id first (omega arith) in
      let same = same_op h valid t.op k.op (within t.op t.contained) k.contained
      (same_id t.op k.op t.site t.seq) in
      record {
        kind = s.kind;
        known = record {
          made = record {
            op = k.op;
            contained = subst (Contains part) same t.contained;
            id = k.id;
            such = k.such;
          };
          before = known;
        };
        suited = s.suited;
      }

  -- what it knows is in the part
  counted_there : (i : OpId) → Counts a.past i → Holds part i
  counted_there i c =
      let most = counts_known i.site c.site in
      let last = c.last in
      let t = has_counted in_turn i c.first (omega arith) in
      record {
        op = t.op;
        contained = t.contained;
        id = λ j. record { site = t.site j; seq = t.seq j };
        such = tt;
      }

  pub part_accepts : IsAccepted part a
  part_accepts = record {
    next = record {
      numbered = record { seq = ready.seq; own = valid.own a there };
      known = counts_known;
      closed = knew_within;
    };
    suited = suited_within a.change (valid.suited a there);
    aimed = aimed_within h part valid within a counted_there (valid.aimed a there);
  }
