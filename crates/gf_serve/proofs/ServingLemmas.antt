-- How the requests so far are answered, one more each turn, and what is left at the end.
use Rattle.std.specs.Prelude.{IfSome, None, Option, Some}
use Rattle.std.specs.Io.KnownBytes.{Appends, IsAtEnd, Keeps, prepend_known}
use Rattle.std.proofs.Common.{◌≡◌, ◌+◌, ◌-◌, ◌^◌, ℕ, List, [], ◌++◌, append_assoc, refl, sym, subst}
use Rattle.std.proofs.Common.{◌∙◌, ap}
use Rattle.std.proofs.lemmas.List.{append-nil}
use Rattle.gf_ops.specs.declared.op.Op.{Op}
use Rattle.gf_replay.specs.Behind.{HasDelivered}
use Rattle.gf_replay.proofs.ReadingLemmas.{none_delivered}
use Rattle.gf_site.specs.ReplicaState.{ReplicaState, new_replica}
use Rattle.gf_serve.specs.declared.serve_error.ServeError.{ServeError}
use Rattle.gf_serve.specs.declared.serve_error.ServeError.TheVariants as serve
use Rattle.gf_serve.specs.Serves.{AnswersAll, AnswersFirst, EndsService, Serves, answered, begun}
use Rattle.gf_serve.specs.ServingSteps.{HasServedSome}
use Rattle.gf_serve.specs.Turns.{AnswersRequest, LeavesTurn}

appends_none : (old : Option (List ℕ)) → Appends old old []
appends_none None = tt
appends_none (Some xs) = sym (append-nil xs)

appends_more : (old mid new : Option (List ℕ)) (xs ys : List ℕ) → Appends old mid xs
    → Appends mid new ys → Appends old new (xs ++ ys)
appends_more None mid new xs ys a b = tt
appends_more (Some o) None new xs ys a b = absurd a
appends_more (Some o) (Some m) None xs ys a b = absurd b
appends_more (Some o) (Some m) (Some n) xs ys a b =
    b ∙ (ap (λ l. l ++ ys) a ∙ append_assoc o xs ys)

-- before the first request nothing is answered
pub served_none : (left taken : Option (List ℕ)) (x : ReplicaState) → x ≡ new_replica
    → HasServedSome left (prepend_known [] left) 0 taken taken x
served_none None taken x new = tt
served_none (Some all) taken x new = record {
  out = [];
  known = [];
  served = begun;
  delivered = subst (HasDelivered []) (sym new) none_delivered;
  written = appends_none taken;
}

-- one more request is answered
pub served_more : (all left behind : Option (List ℕ)) (n : ℕ) (old mid new : Option (List ℕ))
    (x y : ReplicaState) → HasServedSome all left n old mid x
    → ((known : List Op) → HasDelivered known x → AnswersRequest known left behind mid new y)
    → HasServedSome all behind (n + 1) old new y
served_more None left behind n old mid new x y h answers = tt
served_more (Some all) None behind n old mid new x y h answers = absurd h
served_more (Some all) (Some rest) None n old mid new x y h answers =
    absurd (answers h.known h.delivered).used
served_more (Some all) (Some rest) (Some others) n old mid new x y h answers =
    let a = answers h.known h.delivered in
    record {
      out = h.out ++ a.text;
      known = a.next;
      served = answered a.bytes a.asks a.body a.text a.next
          (subst (Serves all n h.out h.known) a.used h.served) a.is_raw a.answered;
      delivered = a.delivered;
      written = appends_more old mid new h.out a.text h.written a.written;
    }

-- at the end of the input all requests are answered
pub served_all : (all left : Option (List ℕ)) (n : ℕ) (old mid new : Option (List ℕ))
    (x y : ReplicaState) → HasServedSome all left n old mid x
    → ((known : List Op) → HasDelivered known x
    → IsAtEnd left × Appends mid new [] × HasDelivered known y)
    → IfSome all (λ bytes. AnswersAll bytes old new)
served_all None left n old mid new x y h ends = tt
served_all (Some all) None n old mid new x y h ends = absurd h
served_all (Some all) (Some rest) n old mid new x y h ends =
    let (end, grows, same) = ends h.known h.delivered in
    record {
      count = n;
      out = h.out ++ [];
      known = h.known;
      served = subst (λ r. Serves all n (h.out ++ []) h.known r) end
          (subst (λ o. Serves all n o h.known rest) (sym (append-nil h.out)) h.served);
      written = appends_more old mid new h.out [] h.written grows;
    }

-- a turn ends the service as it ends itself
ended : (n : ℕ) (known : List Op) (rest : List ℕ) (old new : Option (List ℕ)) (e : ServeError)
    → LeavesTurn known rest old new e → EndsService n known rest old new e
ended n known rest old new serve.ReadFailed l = l
ended n known rest old new serve.OutOfMemory l = l
ended n known rest old new serve.CutOff l = l
ended n known rest old new serve.NoRequest l = l
ended n known rest old new serve.WriteFailed l = l
ended n known rest old new serve.TooMany (l, k) = absurd l

-- those so far are the first ones, and the turn behind them says why there are no more
pub served_first : (all left : Option (List ℕ)) (n : ℕ) (old mid new : Option (List ℕ))
    (x : ReplicaState) (e : ServeError) → HasServedSome all left n old mid x
    → IfSome left (λ rest. (known : List Op) → HasDelivered known x
    → LeavesTurn known rest mid new e)
    → IfSome all (λ bytes. AnswersFirst bytes old new e)
served_first None left n old mid new x e h leaves = tt
served_first (Some all) None n old mid new x e h leaves = absurd h
served_first (Some all) (Some rest) n old mid new x e h leaves = record {
  count = n;
  out = h.out;
  known = h.known;
  rest = rest;
  served = h.served;
  mid = mid;
  written = h.written;
  ended = ended n h.known rest mid new e (leaves h.known h.delivered);
}

keeps_same : (old : Option (List ℕ)) → Keeps old old
keeps_same None = tt
keeps_same (Some xs) = refl

-- there is no number for one more
pub served_most : (all left : Option (List ℕ)) (n : ℕ) (old mid : Option (List ℕ))
    (x : ReplicaState) → HasServedSome all left n old mid x → n ≡ 2 ^ 64 - 1
    → IfSome all (λ bytes. AnswersFirst bytes old mid serve.TooMany)
served_most None left n old mid x h most = tt
served_most (Some all) None n old mid x h most = absurd h
served_most (Some all) (Some rest) n old mid x h most = record {
  count = n;
  out = h.out;
  known = h.known;
  rest = rest;
  served = h.served;
  mid = mid;
  written = h.written;
  ended = (most, keeps_same mid);
}
