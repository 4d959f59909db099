-- How what was made grows by a command, and what a refused command says of them all.
use Rattle.std.specs.Prelude.{Some, None, Ok, Option}
use Rattle.std.proofs.Common.{◌≡◌, ℕ, List, [], ◌∷◌, ◌++◌, refl, sym, ap, subst, ◌∙◌, append_assoc}
use Rattle.std.proofs.Common.{inl, inr}
use Rattle.std.proofs.lemmas.List.Elements.{Contains-append_cases, Contains-push_cases}
use Rattle.gf_base.proofs.ListLemmas.{not_Contains-nil}
use Rattle.gf_json.specs.OperationLines.{denoted}
use Rattle.gf_json.specs.WrittenLines.{op_text}
use Rattle.std.proofs.lemmas.List.{append-nil}
use Rattle.std.proofs.lemmas.List.Concat.{flat_map-append}
use Rattle.gf_ops.specs.declared.op.Op.{Op}
use Rattle.gf_ops.specs.declared.op.OpId.{OpId}
use Rattle.gf_ops.specs.declared.change.Change.{Change}
use Rattle.gf_ops.specs.Limits.{IsInRange}
use Rattle.gf_ops.specs.Accepted.{IsAccepted}
use Rattle.gf_site.specs.SiteState.{SiteState, authored}
use Rattle.gf_run.specs.declared.studio_error.StudioError.TheVariants as studio
use Rattle.gf_site.specs.CommandAnswers.{AwaitAnswer}
use Rattle.gf_keep.specs.Keeping.{AreKeeping}
use Rattle.gf_site.specs.MadeEach.{MakesEach}
use Rattle.gf_keep.specs.declared.keep.Keep.{Keep}
use Rattle.gf_edit.specs.declared.edit_command.EditCommand.{EditCommand}
use Rattle.gf_edit.specs.declared.edit_command.EditCommand.TheVariants.{Author, Await}
use Rattle.gf_edit.specs.declared.edit_command.EditCommand.TheVariants.{Keep as KeepOf}
use Rattle.gf_edit.specs.declared.edit_error.EditError.{EditError}
use Rattle.gf_edit.specs.declared.edit_error.EditError.TheVariants as edit
use Rattle.gf_run.specs.declared.answering.Answer.{Answer}
use Rattle.gf_edit.specs.declared.made.Made.{Made}
use Rattle.gf_edit.specs.declared.numbered.Numbered.{Numbered}
use Rattle.gf_edit.specs.MadeOperations.{last_id, made_of, made_until}
use Rattle.gf_edit.specs.Making.{HasRefused, author, await, keep, none, written_line, written_lines}
use Rattle.gf_edit.specs.RefusedCommands.{KeepsNone, RefusesFor}
use Rattle.gf_edit.specs.MakingSteps.{HasPassed, Passes, RefusesCommand, RefusesMaking, WritesKeep}
use Rattle.gf_edit.specs.MakingSteps.{WritesOp, told_after}

-- what is told of operations with one more behind them
last_push : (i : OpId) (ops : List Op) (a : Op) → last_id i (ops ++ a ∷ []) ≡ a.id
last_push i [] a = refl
last_push i (x ∷ ops) a = last_push x.id ops a

pub made_push : (ops : List Op) (a : Op) → Some (made_until (made_of ops) a.id) ≡ made_of
    (ops ++ a ∷ [])
made_push [] a = refl
made_push (x ∷ ops) a = ap (λ i. Some (record { first = x.id; last = i }))
    (sym (last_push x.id ops a))

told_all : (ops more : List Op) → told_after (made_of ops) more ≡ made_of (ops ++ more)
told_all ops [] = ap made_of (sym (append-nil ops))
told_all ops (a ∷ more) = ap (λ m. told_after m more) (made_push ops a)
    ∙ (told_all (ops ++ a ∷ []) more ∙ ap made_of (append_assoc ops (a ∷ []) more))

written_push : (ops : List Op) (a : Op) → written_lines (ops ++ a ∷ []) ≡ written_lines
    ops ++ written_line a
written_push ops a = flat_map-append written_line ops (a ∷ []) ∙ ap (λ t. written_lines ops ++ t)
    (append-nil (written_line a))

-- before the first command nothing was made
pub passed_none : (s : ℕ) (h : List Op) (x : SiteState) (e : Answer (Option Made)) → x.number ≡ s → x.ops ≡ h
    → e.text.items ≡ [] → e.value ≡ None → HasPassed s h [] x e
passed_none s h x e number ops is told = record {
  new = [];
  makes = none;
  ops = ops ∙ sym (append-nil h);
  number = number;
  is = is;
  told = told;
  reads = λ a i. absurd (not_Contains-nil a i);
}

module _ (s : ℕ) (h : List Op) (done : List Numbered) (n : ℕ) (x : SiteState) (e : Answer (Option Made))
    (has : HasPassed s h done x e) where
  made : (c : Change) (y : SiteState) (f : Answer (Option Made)) → WritesOp c x y e f
      → HasPassed s h (done ++ record { line = n; command = Author c } ∷ []) y f
  made c y f w =
      let o = authored s (h ++ has.new) c in
      let a : w.op ≡ o = w.authors.is ∙ (λ i. authored (has.number i) (has.ops i) c) in
      let accepted = subst (λ l. IsAccepted l w.op) has.ops w.authors.accepted in
      record {
        new = has.new ++ o ∷ [];
        makes = author n c has.makes
            (record {
              in_range = subst IsInRange a w.authors.in_range;
              accepted = subst (IsAccepted (h ++ has.new)) a accepted;
            });
        ops = ap (λ (z : SiteState). z.ops) w.authors.state
            ∙ (ap (λ l. l ++ w.op ∷ []) has.ops ∙ (ap (λ (b : Op). (h ++ has.new) ++ b ∷ []) a
            ∙ append_assoc h has.new (o ∷ [])));
        number = ap (λ (z : SiteState). z.number) w.authors.state ∙ has.number;
        is = w.is ∙ (ap (λ t. t ++ written_line w.op) has.is
            ∙ (ap (λ (b : Op). written_lines has.new ++ written_line b) a
            ∙ sym (written_push has.new o)));
        told = w.told ∙ (ap (λ m. Some (made_until m w.op.id)) has.told
            ∙ (ap (λ (b : Op). Some (made_until (made_of has.new) b.id)) a ∙ made_push has.new o));
        reads = λ b i. elim (Contains-push_cases has.new o b i) [
          | inl j ↦ has.reads b j
          | inr q ↦ subst (λ (k : Op). denoted (op_text k) ≡ Ok k) (a ∙ q) w.reads
        ];
      }

  kept : (k : Keep) (y : SiteState) (f : Answer (Option Made)) → WritesKeep k x y e f
      → HasPassed s h (done ++ record { line = n; command = KeepOf k } ∷ []) y f
  kept k y f w =
      let ops = w.writes.ops in
      let keeping = subst (λ (l : List Op). AreKeeping l k w.changes) has.ops w.keeping in
      let makes = subst (λ (l : List Op). MakesEach s l w.changes ops) has.ops
      (subst (λ (m : ℕ). MakesEach m x.ops w.changes ops) has.number w.writes.makes) in
      record {
        new = has.new ++ ops;
        makes = keep n k has.makes keeping makes;
        ops = w.writes.had ∙ (ap (λ l. l ++ ops) has.ops ∙ append_assoc h has.new ops);
        number = w.writes.number ∙ has.number;
        is = w.writes.is ∙ (ap (λ t. t ++ written_lines ops) has.is
            ∙ sym (flat_map-append written_line has.new ops));
        told = w.writes.told ∙ (ap (λ m. told_after m ops) has.told ∙ told_all has.new ops);
        reads = λ b i. elim (Contains-append_cases has.new ops b i) [
          | inl j ↦ has.reads b j
          | inr j ↦ w.writes.reads b j
        ];
      }

  -- one command more is passed
  pub passed_more : (c : EditCommand) (y : SiteState) (f : Answer (Option Made)) → Passes c x y e f
      → HasPassed s h (done ++ record { line = n; command = c } ∷ []) y f
  passed_more (Author c) y f w = made c y f w
  passed_more (KeepOf k) y f w = kept k y f w
  passed_more (Await i) y f w = record {
    new = has.new;
    makes = await n i has.makes (subst (λ l. AwaitAnswer s l [] i None) has.ops
        (subst (λ m. AwaitAnswer m x.ops [] i None) has.number w.0));
    ops = ap (λ (z : SiteState). z.ops) w.1 ∙ has.ops;
    number = ap (λ (z : SiteState). z.number) w.1 ∙ has.number;
    is = ap (λ (k : Answer (Option Made)). k.text.items) w.2 ∙ has.is;
    told = ap (λ (k : Answer (Option Made)). k.value) w.2 ∙ has.told;
    reads = has.reads;
  }

  there : (Refused : ℕ → List Op → EditCommand → Type 0) (c : EditCommand)
      (rest commands : List Numbered) → commands ≡ done ++ record { line = n; command = c } ∷ rest
      → (m : ℕ) → m ≡ n → Refused x.number x.ops c → HasRefused (Refused s) s h commands m
  there Refused c rest commands whole m same r = subst (λ k. HasRefused (Refused s) s h commands k)
      (sym same) (record {
        before = done;
        command = c;
        after = rest;
        whole = whole;
        new = has.new;
        makes = has.makes;
        refused = subst (λ l. Refused s l c) has.ops (subst (λ k. Refused k x.ops c) has.number r);
      })

  -- what a command is refused for, they all are
  pub refused_there : (c : EditCommand) (rest commands : List Numbered)
      → commands ≡ done ++ record { line = n; command = c } ∷ rest → (r : EditError)
      → RefusesCommand n c x r → RefusesMaking s h commands r
  refused_there c rest commands whole (edit.Refused m why) r = there (λ t. RefusesFor t why) c rest
      commands whole m r.0 r.1
  refused_there c rest commands whole (edit.NoVersion m) r = there (λ t. KeepsNone) c rest commands
      whole m r.0 r.1
  refused_there c rest commands whole (edit.Run studio.OutOfMemory) r = tt
  refused_there c rest commands whole (edit.Run (studio.Line m why)) r = absurd r
  refused_there c rest commands whole (edit.Run (studio.Dropped id fault)) r = absurd r
  refused_there c rest commands whole (edit.Run (studio.Fig f)) r = absurd r
  refused_there c rest commands whole (edit.Run (studio.Compile f)) r = absurd r
  refused_there c rest commands whole (edit.Run (studio.NoObject o)) r = absurd r
  refused_there c rest commands whole (edit.Run studio.ReadFailed) r = absurd r
  refused_there c rest commands whole (edit.Run studio.TooLong) r = absurd r
  refused_there c rest commands whole (edit.Run studio.WriteFailed) r = absurd r
  refused_there c rest commands whole (edit.Waits i j) r = absurd r
