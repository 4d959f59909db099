-- How what was made of changes grows by one, and what a refused change says of them all.
use Rattle.std.specs.Prelude.{Some, Ok, Option}
use Rattle.std.proofs.Common.{◌≡◌, List, [], ◌∷◌, ◌++◌, refl, sym, ap, subst, ◌∙◌, append_assoc}
use Rattle.std.proofs.Common.{inl, inr}
use Rattle.std.proofs.lemmas.List.{append-nil}
use Rattle.std.proofs.lemmas.List.Concat.{flat_map-append}
use Rattle.std.proofs.lemmas.List.Elements.{Contains-push_cases}
use Rattle.gf_base.proofs.ListLemmas.{not_Contains-nil}
use Rattle.gf_json.specs.OperationLines.{denoted}
use Rattle.gf_json.specs.WrittenLines.{op_text}
use Rattle.gf_site.specs.MadeEach.{none as each_none}
use Rattle.gf_ops.specs.declared.op.Op.{Op}
use Rattle.gf_ops.specs.declared.change.Change.{Change}
use Rattle.gf_ops.specs.Accepted.{IsAccepted}
use Rattle.gf_ops.specs.Limits.{IsInRange}
use Rattle.gf_site.specs.SiteState.{SiteState, authored}
use Rattle.gf_run.specs.declared.answering.Answer.{Answer}
use Rattle.gf_edit.specs.declared.made.Made.{Made}
use Rattle.gf_edit.specs.MadeOperations.{made_until}
use Rattle.gf_edit.specs.Making.{written_line, written_lines}
use Rattle.gf_edit.specs.MakingSteps.{WritesEach, WritesOp, told_after}
use Rattle.gf_site.proofs.EachLemmas.{each_push}

told_push : (m : Option Made) (ops : List Op) (a : Op)
    → told_after m (ops ++ a ∷ []) ≡ Some (made_until (told_after m ops) a.id)
told_push m [] a = refl
told_push m (x ∷ ops) a = told_push (Some (made_until m x.id)) ops a

pub wrote_none : (x : SiteState) (e : Answer (Option Made)) → WritesEach [] x x e e
wrote_none x e = record {
  ops = [];
  makes = each_none;
  had = sym (append-nil x.ops);
  number = refl;
  is = sym (append-nil e.text.items);
  told = refl;
  reads = λ a i. absurd (not_Contains-nil a i);
}

module _ (cs : List Change) (x y : SiteState) (d e : Answer (Option Made)) (w : WritesEach cs x y d e) where
  pub wrote_more : (c : Change) (z : SiteState) (f : Answer (Option Made)) → WritesOp c y z e f
      → WritesEach (cs ++ c ∷ []) x z d f
  wrote_more c z f t =
      let o = authored x.number (x.ops ++ w.ops) c in
      let a : t.op ≡ o = t.authors.is ∙ (λ i. authored (w.number i) (w.had i) c) in
      let accepted = subst (λ l. IsAccepted l t.op) w.had t.authors.accepted in
      record {
        ops = w.ops ++ o ∷ [];
        makes = each_push x.number x.ops cs w.ops w.makes c (subst IsInRange a t.authors.in_range)
            (subst (IsAccepted (x.ops ++ w.ops)) a accepted);
        had = ap (λ (s : SiteState). s.ops) t.authors.state
            ∙ (ap (λ l. l ++ t.op ∷ []) w.had ∙ (ap (λ (b : Op). (x.ops ++ w.ops) ++ b ∷ []) a
            ∙ append_assoc x.ops w.ops (o ∷ [])));
        number = ap (λ (s : SiteState). s.number) t.authors.state ∙ w.number;
        is = t.is ∙ (ap (λ l. l ++ written_line t.op) w.is
            ∙ (append_assoc d.text.items (written_lines w.ops) (written_line t.op)
            ∙ ap (λ l. d.text.items ++ l) (ap (λ (b : Op). written_lines w.ops ++ written_line b) a
            ∙ sym (flat_map-append written_line w.ops (o ∷ []) ∙ ap (λ l. written_lines w.ops ++ l)
            (append-nil (written_line o))))));
        told = t.told ∙ (ap (λ m. Some (made_until m t.op.id)) w.told
            ∙ (ap (λ (b : Op). Some (made_until (told_after d.value w.ops) b.id)) a
            ∙ sym (told_push d.value w.ops o)));
        reads = λ b i. elim (Contains-push_cases w.ops o b i) [
          | inl j ↦ w.reads b j
          | inr q ↦ subst (λ (k : Op). denoted (op_text k) ≡ Ok k) (a ∙ q) t.reads
        ];
      }
