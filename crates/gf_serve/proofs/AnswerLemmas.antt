-- What an answer says of the operations that are known.
use Rattle.std.specs.Prelude.{Contains, IfOk, None, Ok, Option, Result, Some, Vec, codes}
use Rattle.std.proofs.Common.{Global}
use Rattle.std.proofs.Common.{◌≡◌, ℕ, ◌+◌, ◌<◌, List, [], ◌∷◌, ◌++◌, append_assoc, ap, get_or, length}
use Rattle.std.proofs.Common.{◌∙◌, refl, sym, subst, take}
use Rattle.std.proofs.lemmas.List.{take_more}
use Rattle.std.proofs.lemmas.List.Elements.{Contains-append_right, Contains-get_or}
use Rattle.gf_ops.specs.Accepted.{AreAccepted, next as accepted_next}
use Rattle.gf_ops.specs.ValidHistory.{IsValid}
use Rattle.gf_site.proofs.GrowthLemmas.{accepted_behind}
use Rattle.gf_site.proofs.ValidLemmas.{valid_push}
use Rattle.gf_ops.specs.declared.op.Op.{Op}
use Rattle.gf_causal.specs.HeldOperations.{AreHeld}
use Rattle.gf_drawing.specs.declared.compiling.CompileFault.{CompileFault}
use Rattle.gf_drawing.specs.declared.compiling.CompileFault.TheVariants as compile
use Rattle.gf_replay.specs.Behind.{DeliversLines, Divides, HasDelivered}
use Rattle.gf_replay.specs.Refusing.{RefusesText}
use Rattle.gf_replay.specs.declared.reading_error.ReadingError.{ReadingError}
use Rattle.gf_replay.specs.declared.reading_error.ReadingError.TheVariants as reading
use Rattle.gf_replay.proofs.ReadingLemmas.{divided}
use Rattle.gf_run.specs.Refusals.{of_compile, of_reading}
use Rattle.gf_run.specs.declared.answering.Answer.{Answer}
use Rattle.gf_site.specs.ReplicaState.{ReplicaState}
use Rattle.gf_site.specs.SiteState.{SiteState}
use Rattle.gf_studio.specs.FigRun.{RefusesHistory}
use Rattle.gf_take.proofs.JoinLemmas.{takes_on}
use Rattle.gf_take_run.specs.declared.take_run_error.TakeRunError.{TakeRunError}
use Rattle.gf_take_run.specs.declared.take_run_error.TakeRunError.TheVariants as refused
use Rattle.gf_take_run.specs.declared.taken.Taken.{Taken}
use Rattle.gf_take_run.specs.TakeRun.{RefusesFigText}
use Rattle.gf_take_run.specs.TakenBehind.{TakesBehind}
use Rattle.gf_serve.specs.declared.reply.Arrival.{Arrival}
use Rattle.gf_serve.specs.declared.reply.Reply.{Reply}
use Rattle.gf_serve.specs.declared.reply.Reply.TheVariants as reply
use Rattle.gf_serve.specs.declared.request.Request.{Request}
use Rattle.gf_serve.specs.declared.request.Request.TheVariants as request
use Rattle.gf_serve.specs.declared.request.TakeText.{TakeText}
use Rattle.gf_serve.specs.declared.asking.Task.{Task}
use Rattle.gf_serve.specs.declared.dialogue.RawRequest.{RawRequest}
use Rattle.gf_serve.specs.ReplyTexts.{IsReplyText, refused_text}
use Rattle.gf_serve.specs.Turns.{IsAnswered, IsRequest}
use Rattle.gf_serve.specs.ServingSteps.{AnswersRawRequest}
use Rattle.gf_serve.specs.Serving.{Answers, AnswersNext, RefusesLines, RefusesNamed, RefusesTake}
use Rattle.gf_serve.specs.Serving.{TakesLines}

-- what leaves the known operations as they are
pub unchanged : (known : List Op) (asked : Request) (answer : Reply) (x : ReplicaState)
    → HasDelivered known x → Answers known asked answer known → AnswersNext known asked answer x
unchanged known asked answer x d a = record { next = known; answers = a; delivered = d }

-- lines that were taken join the known operations
pub lines_taken : (known : List Op) (bytes : List ℕ) (came : Arrival) (x y : ReplicaState)
    → HasDelivered known x → AreHeld x.held → AreHeld y.held → (t : DeliversLines known bytes y)
    → came.new + (length x.ops + length x.held) ≡ length y.ops + length y.held
    → came.waiting ≡ length y.held → TakesLines known bytes came (known ++ t.ops)
lines_taken known bytes came x y d before after t new wait = record {
  ops = t.ops;
  lines = t.lines;
  joined = refl;
  counts = record {
    before = x.ops;
    waited = x.held;
    was = divided known x d before;
    history = y.ops;
    waiting = y.held;
    is = divided (known ++ t.ops) y t.delivered after;
    new = new;
    wait = wait;
  };
}

-- why lines are not read is why they are not taken
pub lines_refused : (known : List Op) (bytes : List ℕ) (fault : ReadingError)
    → RefusesText known bytes fault → RefusesLines known bytes (of_reading fault)
lines_refused known bytes (reading.Line n why) f = f
lines_refused known bytes (reading.Dropped id why) f = f
lines_refused known bytes reading.OutOfMemory f = tt

-- why a history has no drawing is why there is no named text
pub named_refused : (known : List Op) (x : ReplicaState) → Divides known x.ops x.held
    → (fault : CompileFault) → RefusesHistory x.ops fault → RefusesNamed known (of_compile fault)
named_refused known x d compile.TooManyVersions f =
    record { history = x.ops; delivers = d.delivers; such = f }
named_refused known x d compile.TooManyColours f =
    record { history = x.ops; delivers = d.delivers; such = f }
named_refused known x d compile.OutOfMemory f = tt

-- why a FIG text is refused is why nothing is taken of it
pub take_refused : (known : List Op) (t : TakeText) (e : TakeRunError)
    → RefusesFigText t.request known t.fig.items e → RefusesTake known t e
take_refused known t (refused.Run e) f = f
take_refused known t (refused.Waits i j) f = f
take_refused known t refused.NoDrawing f = absurd f
take_refused known t (refused.Fig faults) f = f
take_refused known t (refused.Figure broken) f = f
take_refused known t refused.TooManyFigures f = f
take_refused known t refused.Unnamed f = f
take_refused known t (refused.Absent i) f = f
take_refused known t (refused.Older i j) f = f
take_refused known t (refused.Behind i) f = f
take_refused known t refused.Exhausted f = f
take_refused known t refused.Differs f = f

-- what is taken joins the known operations
pub taken_next : (known : List Op) (t : TakeText) (answer : Answer Taken) (new : List Op)
    (x y : ReplicaState) → HasDelivered known x
    → TakesBehind t.request known x.ops t.fig.items new answer
    → y ≡ record { ops = x.ops ++ new; held = x.held }
    → AnswersNext known (request.Take t) (reply.Taken answer) y
taken_next known t answer new x y d takes is =
    let drawn = takes.takes.taken in
    record {
      next = known ++ new;
      answers = record { history = x.ops; new = new; takes = takes; joined = refl };
      delivered = subst (HasDelivered (known ++ new)) (sym is)
          (takes_on t.request.site takes.knew known drawn.base new x d takes.read drawn.is_base
          drawn.changes drawn.takes.makes);
    }

-- a reply to what is asked for answers the request that came
pub asked_answered : {E : Type 0} (known : List Op) (raw : RawRequest) (asks : Task)
    (request : Request) (reply : Reply) (r : Result (Vec ℕ Global) E) (text : Vec ℕ Global)
    (y : ReplicaState) → raw.asks ≡ Some asks → IsRequest asks raw.body.items request
    → AnswersNext known request reply y → r ≡ Ok text → IfOk r (λ t. IsReplyText reply t.items)
    → AnswersRawRequest known raw text.items y
asked_answered {E} known raw asks request reply r text y is fits a ok written = record {
  next = a.next;
  answered = subst (λ (t : Option Task). IsAnswered known t raw.body.items text.items a.next)
      (sym is) (record {
        request = request;
        is_request = fits;
        reply = reply;
        answers = a.answers;
        written = subst (λ (q : Result (Vec ℕ Global) E). IfOk q (λ t. IsReplyText reply t.items)) ok
            written;
      });
  delivered = a.delivered;
}

-- where no request is asked for, that is answered
pub none_answered : {E : Type 0} (known : List Op) (raw : RawRequest) (r : Result (Vec ℕ Global) E)
    (text : Vec ℕ Global) (x : ReplicaState) → raw.asks ≡ None → HasDelivered known x
    → r ≡ Ok text → IfOk r (λ t. t.items ≡ refused_text (codes "no such request"))
    → AnswersRawRequest known raw text.items x
none_answered {E} known raw r text x none d ok written = record {
  next = known;
  answered = subst (λ (t : Option Task). IsAnswered known t raw.body.items text.items known)
      (sym none) (
        subst (λ (q : Result (Vec ℕ Global) E).
            IfOk q (λ t. t.items ≡ refused_text (codes "no such request"))) ok written,
        refl,
      );
  delivered = d;
}

-- a replica that was given the history of a site has the site's operations
pub given_history : (x y : ReplicaState) (s t : SiteState) (ops : List Op)
    → y ≡ record x { ops = s.ops } → s ≡ t → t.ops ≡ ops
    → y ≡ record { ops = ops; held = x.held }
given_history x y s t ops given same is =
    subst (λ (l : List Op). y ≡ record { ops = l; held = x.held })
    (ap (λ (u : SiteState). u.ops) same ∙ is) given

-- what is kept of a history by rule
pub record IsForgotten (Keeps : List Op → Type 0) (h : List Op) : Type 0 where
  pub valid : IsValid h
  pub accepted : AreAccepted h
  pub kept : Keeps h

-- one operation more is there
pub forgotten_more : (Keeps New : List Op → Type 0) (h ops : List Op) (i : ℕ) (a : Op)
    → i < length ops → a ≡ get_or ops i a → IsValid (h ++ ops) → AreAccepted (h ++ ops)
    → IsForgotten Keeps (h ++ take i ops)
    → (IsValid (h ++ take i ops) → IsValid ((h ++ take i ops) ++ a ∷ []) → Keeps (h ++ take i ops)
    → New ((h ++ take i ops) ++ a ∷ []))
    → IsForgotten New (h ++ take (i + 1) ops)
forgotten_more Keeps New h ops i a within is valid run f forgets =
    let front = h ++ take i ops in
    let fits = accepted_behind h ops run i a within is in
    let inside = subst (Contains ops) (sym is) (Contains-get_or ops i a within) in
    let range = valid.in_range a (Contains-append_right h ops a inside) in
    let more = valid_push front f.accepted f.valid a range fits in
    let longer = take_more ops i a within ∙ ap (λ (b : Op). take i ops ++ b ∷ []) (sym is) in
    subst (IsForgotten New) (append_assoc h (take i ops) (a ∷ [])
    ∙ ap (λ l. h ++ l) (sym longer)) (record {
      valid = more;
      accepted = accepted_next f.accepted fits;
      kept = forgets f.valid more f.kept;
    })
