-- What one turn reads and writes.
use Rattle.std.specs.Prelude.{Err, IfSome, None, Ok, OnErr, OnOk, Option, Result, Some}
use Rattle.std.specs.Prelude.{length, option_and_then}
use Rattle.std.specs.Io.KnownBytes.{Appends, Consumes}
use Rattle.std.proofs.Common.{◌≡◌, ◌∷◌, ℕ, List, [], ◌++◌, append_assoc, inl, inr, refl, sym}
use Rattle.std.proofs.Common.{subst, ◌∙◌, ap, arith}
use Rattle.std.proofs.Math.Seq.{take-length}
use Rattle.gf_streams.specs.Taken.{AppendsPrefix}
use Rattle.gf_ops.specs.declared.op.Op.{Op}
use Rattle.gf_replay.specs.Behind.{HasDelivered}
use Rattle.gf_site.specs.ReplicaState.{ReplicaState}
use Rattle.gf_serve.specs.declared.asking.Task.{Task}
use Rattle.gf_serve.specs.declared.dialogue.RawRequest.{RawRequest}
use Rattle.gf_serve.specs.declared.serve_error.ServeError.{ServeError}
use Rattle.gf_serve.specs.declared.serve_error.ServeError.TheVariants as serve
use Rattle.gf_serve.specs.RequestLines.{EndsRequests, IsLine, Tells, count_behind}
use Rattle.gf_serve.specs.Requests.{body_bytes}
use Rattle.gf_serve.specs.ServingSteps.{AnswersRawRequest, IsUnreadBody}
use Rattle.gf_serve.specs.ServingSteps.{TakesRawRequest}
use Rattle.gf_serve.specs.Turns.{AnswersRequest, LeavesTurn}

consumes_more : (old mid new : Option (List ℕ)) (xs ys : List ℕ) → Consumes old mid xs
    → Consumes mid new ys → Consumes old new (xs ++ ys)
consumes_more None mid new xs ys a b = tt
consumes_more (Some o) None new xs ys a b = absurd a
consumes_more (Some o) (Some m) None xs ys a b = absurd b
consumes_more (Some o) (Some m) (Some n) xs ys a b =
    a ∙ (ap (λ l. xs ++ l) b ∙ sym (append_assoc xs ys n))

-- a line that came, and the body behind it, are a request
pub raw_taken : (old mid new : Option (List ℕ)) (line text : List ℕ) (n : ℕ) (raw : RawRequest)
    → IsLine line → text ≡ line → Tells text raw.asks n → length raw.body.items ≡ n
    → Consumes old mid (line ++ 10 ∷ []) → Consumes mid new raw.body.items
    → TakesRawRequest old new raw
raw_taken old mid new line text n raw is same tells count front behind = record {
  bytes = line ++ 10 ∷ raw.body.items;
  is_raw = record {
    line = line;
    is_line = is;
    tells = subst (λ m. Tells line raw.asks m) (sym count)
        (subst (λ t. Tells t raw.asks n) same tells);
    is = refl;
  };
  takes = subst (λ l. Consumes old new l) (append_assoc line (10 ∷ []) raw.body.items)
      (consumes_more old mid new (line ++ 10 ∷ []) raw.body.items front behind);
}

-- what is written whole or in part is written as a prefix
pub written_some : {A E : Type 0} (old new : Option (List ℕ)) (bytes : List ℕ) (r : Result A E)
    → OnOk r (Appends old new bytes) → OnErr r (AppendsPrefix old new bytes)
    → AppendsPrefix old new bytes
written_some old new bytes (Ok x) grows part =
    (length bytes, omega arith, subst (Appends old new) (sym (take-length bytes)) grows)
written_some old new bytes (Err e) grows part = part

-- a line that tells says how many bytes stand behind it
told_count : (line : List ℕ) (asks : Option Task) (n : ℕ) → Tells line asks n
    → count_behind line ≡ Some n
told_count line asks n t = ap (option_and_then body_bytes) t.is_json ∙ t.counts

-- no request is whole whose body is not
unread_body : (rest line behind : List ℕ) (asks : Option Task) (n : ℕ) (e : ServeError)
    → rest ≡ line ++ 10 ∷ behind → IsLine line → Tells line asks n → IsUnreadBody n behind e
    → EndsRequests rest e
unread_body rest line behind asks n serve.CutOff is l t u = inr (record {
  line = line;
  body = behind;
  is = is;
  is_line = l;
  count = n;
  counts = told_count line asks n t;
  fewer = u;
})
unread_body rest line behind asks n serve.ReadFailed is l t u = tt
unread_body rest line behind asks n serve.OutOfMemory is l t u = tt
unread_body rest line behind asks n serve.NoRequest is l t u = absurd u
unread_body rest line behind asks n serve.WriteFailed is l t u = absurd u
unread_body rest line behind asks n serve.TooMany is l t u = absurd u

-- what is left behind a line and its end
behind_line : (rest behind line : List ℕ) → rest ≡ (line ++ 10 ∷ []) ++ behind
    → rest ≡ line ++ 10 ∷ behind
behind_line rest behind line is = is ∙ append_assoc line (10 ∷ []) behind

-- the same, of what is known
pub unread_body_left : (old mid : Option (List ℕ)) (line text : List ℕ) (asks : Option Task) (n : ℕ)
    (e : ServeError) → IsLine line → text ≡ line → Tells text asks n
    → Consumes old mid (line ++ 10 ∷ []) → IfSome mid (λ rest. IsUnreadBody n rest e)
    → IfSome old (λ rest. EndsRequests rest e)
unread_body_left None mid line text asks n e l same t c u = tt
unread_body_left (Some rest) None line text asks n e l same t c u = absurd c
unread_body_left (Some rest) (Some behind) line text asks n e l same t c u =
    unread_body rest line behind asks n e (behind_line rest behind line c) l
    (subst (λ x. Tells x asks n) same t) u

-- a request that came is answered
pub turn_answered : (known : List Op) (unread left old new : Option (List ℕ)) (raw : RawRequest)
    (text written : List ℕ) (y : ReplicaState) → TakesRawRequest unread left raw
    → AnswersRawRequest known raw text y → written ≡ text → Appends old new written
    → AnswersRequest known unread left old new y
turn_answered known unread left old new raw text written y takes a same grows = record {
  bytes = takes.bytes;
  asks = raw.asks;
  body = raw.body.items;
  is_raw = takes.is_raw;
  used = takes.takes;
  text = text;
  next = a.next;
  answered = a.answered;
  written = subst (Appends old new) same grows;
  delivered = a.delivered;
}

-- where the sink fails, a prefix of the answer is written
pub left_unwritten : (unread left old new : Option (List ℕ)) (raw : RawRequest)
    (text written : List ℕ) (x y : ReplicaState) (e : ServeError) → TakesRawRequest unread left raw
    → ((known : List Op) → HasDelivered known x → AnswersRawRequest known raw text y)
    → written ≡ text → AppendsPrefix old new written → e ≡ serve.WriteFailed
    → IfSome unread (λ rest. (known : List Op) → HasDelivered known x
    → LeavesTurn known rest old new e)
left_unwritten None left old new raw text written x y e takes answers same part is = tt
left_unwritten (Some rest) None old new raw text written x y e takes answers same part is =
    absurd takes.takes
left_unwritten (Some rest) (Some behind) old new raw text written x y e takes answers same part
    is = λ known d.
    let a = answers known d in
    subst (LeavesTurn known rest old new) (sym is) (
      text,
      inl (record {
        bytes = takes.bytes;
        behind = behind;
        begins = takes.takes;
        asks = raw.asks;
        body = raw.body.items;
        is_raw = takes.is_raw;
        next = a.next;
        answered = a.answered;
      }),
      subst (AppendsPrefix old new) same part,
    )
