-- Turns stay turns when the site's list grows.
use Rattle.std.proofs.Common.{◌≡◌, ◌≢◌, ℕ, List, [], ◌∷◌, ◌++◌, append_assoc, map, inl, inr, refl}
use Rattle.std.proofs.Common.{sym, ap, subst, ◌∙◌}
use Rattle.std.specs.Prelude.{Contains, Option, Some, None, ◌==◌}
use Rattle.std.proofs.lemmas.List.{append-nil}
use Rattle.std.proofs.lemmas.Bool.{eq-eqb}
use Rattle.std.proofs.lemmas.Bool.Decides.{eqb_tells}
use Rattle.std.proofs.lemmas.List.Elements.{filter-append, Contains-append_left}
use Rattle.std.proofs.lemmas.List.Elements.{Contains-push_cases}
use Rattle.gf_ops.specs.declared.op.Op.{Op}
use Rattle.gf_ops.specs.declared.op.OpId.{OpId}
use Rattle.gf_ops.specs.declared.change.Change.{Change}
use Rattle.gf_json.specs.declared.scripts.Command.{Command}
use Rattle.gf_json.specs.declared.scripts.Command.TheVariants.{Author, Await}
use Rattle.gf_site.specs.declared.cause.Cause.{Cause}
use Rattle.gf_site.specs.declared.cause.Cause.TheVariants.{Exhausted, Range, NoObject, WrongKind}
use Rattle.gf_site.specs.declared.cause.Cause.TheVariants.{BadAim, OwnId, NeverComes}
use Rattle.gf_worker.specs.declared.report.Report.{Report}
use Rattle.gf_worker.specs.Messages.{own}
use Rattle.gf_worker.specs.Played.{IsPlayed}
use Rattle.gf_site.specs.CommandAnswers.{AuthorAnswer, AwaitAnswer, ComesAfter, NothingComes}
use Rattle.gf_worker.specs.Turns.{Turn, Answer, IsCommandTurn}

own_none : (s : ℕ) (a : Op) → a.id.site ≢ s → own s (a ∷ []) ≡ []
own_none s a n = elim (eqb_tells a.id.site s) [ inl p ↦ absurd (n p.1) | inr p ↦ rw p.0 refl ]

own_one : (s : ℕ) (a : Op) → a.id.site ≡ s → own s (a ∷ []) ≡ a ∷ []
own_one s a e = rw (eq-eqb a.id.site s e) refl

pub own_other : (s : ℕ) (ops : List Op) (a : Op) → a.id.site ≢ s → own s (ops ++ a ∷ []) ≡ own s ops
own_other s ops a n = filter-append (λ (a : Op). a.id.site == s) ops (a ∷ [])
    ∙ ap (λ l. own s ops ++ l) (own_none s a n) ∙ append-nil (own s ops)

pub own_same : (s : ℕ) (ops : List Op) (a : Op) → a.id.site ≡ s
    → own s (ops ++ a ∷ []) ≡ own s ops ++ a ∷ []
own_same s ops a e = filter-append (λ (a : Op). a.id.site == s) ops (a ∷ [])
    ∙ ap (λ l. own s ops ++ l) (own_one s a e)

pub nothing_push : (s : ℕ) (later : List Op) (a : Op) → NothingComes s later
    → (a.id.site ≢ s → ComesAfter s later a) → NothingComes s (later ++ a ∷ [])
nothing_push s later a n f x c d =
    let wide : ComesAfter s later x → ComesAfter s (later ++ a ∷ []) x = λ k. record {
      op = k.op;
      contained = Contains-append_left later (a ∷ []) k.op k.contained;
      site = k.site;
      before = k.before;
    } in
    elim (Contains-push_cases later a x c) [
      | inl k ↦ wide (n x k d)
      | inr e ↦ wide (subst (ComesAfter s later) e
          (f (subst (λ (y : Op). y.id.site ≢ s) (sym e) d)))
    ]

author_more : (s : ℕ) (before later : List Op) (a : Op) (c : Change) (r : Option Cause)
    → AuthorAnswer s before later c r → AuthorAnswer s before (later ++ a ∷ []) c r
author_more s before later a c None h = record {
  rest = h.rest ++ a ∷ [];
  next = ap (λ l. l ++ a ∷ []) h.next;
}
author_more s before later a c (Some Exhausted) h = h
author_more s before later a c (Some Range) h = h
author_more s before later a c (Some NoObject) h = h
author_more s before later a c (Some WrongKind) h = h
author_more s before later a c (Some BadAim) h = h
author_more s before later a c (Some OwnId) h = h
author_more s before later a c (Some NeverComes) h = h

await_more : (s : ℕ) (before later : List Op) (a : Op) (i : OpId) (r : Option Cause)
    → AwaitAnswer s before later i r → (r ≡ Some NeverComes → NothingComes s later
    → NothingComes s (later ++ a ∷ [])) →
    AwaitAnswer s before (later ++ a ∷ []) i r
await_more s before later a i None h f = h
await_more s before later a i (Some Range) h f = h
await_more s before later a i (Some OwnId) h f = h
await_more s before later a i (Some NeverComes) h f = (h.0, h.1, h.2, f refl h.3)
await_more s before later a i (Some Exhausted) h f = h
await_more s before later a i (Some NoObject) h f = h
await_more s before later a i (Some WrongKind) h f = h
await_more s before later a i (Some BadAim) h f = h

answer_more : (s : ℕ) (before later : List Op) (a : Op) (c : Command) (r : Option Cause)
    → Answer s before later c r → (r ≡ Some NeverComes → NothingComes s later
    → NothingComes s (later ++ a ∷ [])) →
    Answer s before (later ++ a ∷ []) c r
answer_more s before later a (Author c) r h f = author_more s before later a c r h
answer_more s before later a (Await i) r h f = await_more s before later a i r h f

pub turn_more : (s : ℕ) (ops : List Op) (a : Op) (t : Turn) (w : IsCommandTurn s ops t)
    → (t.refusal ≡ Some NeverComes → NothingComes s w.later → NothingComes s (w.later ++ a ∷ []))
    → IsCommandTurn s (ops ++ a ∷ []) t
turn_more s ops a t w f = record {
  later = w.later ++ a ∷ [];
  whole = ap (λ l. l ++ a ∷ []) w.whole ∙ append_assoc t.before w.later (a ∷ []);
  answer = answer_more s t.before w.later a t.command t.refusal w.answer f;
}

-- what was played stays played when an operation of another site comes
unfoldable pub played_more : (s : ℕ) (commands : List Command) (ops : List Op) (report : Report)
    (a : Op) (p : IsPlayed s commands ops report) → a.id.site ≢ s →
    ((t : Turn) (c : Contains p.turns t) → t.refusal ≡ Some NeverComes
    → NothingComes s (p.right t c).later → ComesAfter s (p.right t c).later a)
    → IsPlayed s commands (ops ++ a ∷ []) report
played_more s commands ops report a p n f = record {
  turns = p.turns;
  each = p.each;
  right = λ t c. turn_more s ops a t (p.right t c) (λ e k. nothing_push s (p.right t c).later a k
      (λ d. f t c e k));
  rising = p.rising;
  counted = p.counted;
  made = ap (map (λ a. a.change)) (own_other s ops a n) ∙ p.made;
  accepted = p.accepted ∙ ap (map (λ a. a.id)) (sym (own_other s ops a n));
  refused = p.refused;
}
