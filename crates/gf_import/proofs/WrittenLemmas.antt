-- The history of changes that one site makes.
use Rattle.std.proofs.Common.{◌≡◌, ℕ, ◌+◌, ◌≤◌, ◌<◌, List, [], ◌∷◌, ◌++◌, fold, length, map, refl}
use Rattle.std.proofs.Common.{ap, subst, ◌∙◌, inl, inr, arith}
use Rattle.std.specs.Prelude.{All, Contains, IsTrue}
use Rattle.std.proofs.lemmas.List.Elements.{All-head, All-tail, Contains-push_cases}
use Rattle.gf_shape.specs.declared.outline.Outline.{Outline}
use Rattle.gf_ops.specs.declared.op.Op.{Op}
use Rattle.gf_ops.specs.declared.change.Change.{Change}
use Rattle.gf_ops.specs.declared.change.Change.TheVariants.{Create}
use Rattle.gf_ops.specs.declared.change.Start.{Start}
use Rattle.gf_ops.specs.Accepted.{AreAccepted, IsAccepted, none as accepted_none}
use Rattle.gf_ops.specs.Accepted.{next as accepted_next}
use Rattle.gf_ops.specs.Limits.{IsInRange, is_change}
use Rattle.gf_ops.specs.OperationOrder.{IsSite, count_of}
use Rattle.gf_ops.specs.ValidHistory.{IsValid}
use Rattle.gf_base.proofs.ListLemmas.{not_Contains-nil}
use Rattle.gf_causal.proofs.CourseLemmas.{count_push_same}
use Rattle.gf_site.specs.SiteState.{SiteState, authored, new_site}
use Rattle.gf_site.proofs.AuthorLemmas.{authored_in_range, authored_next}
use Rattle.gf_site.proofs.ValidLemmas.{valid_nil, valid_push}
use Rattle.gf_figures.specs.declared.figure.Figure.{Figure}
use Rattle.gf_figures.specs.Colours.{Table}
use Rattle.gf_objects.specs.Objects.{start_of}
use Rattle.gf_import.specs.Importing.{creation_of}
use Rattle.gf_import.specs.Imported.{AuthorsAll, history_of, next, none, with_change}
use Rattle.gf_import.proofs.AloneLemmas.{Makes}

-- h is a valid history of accepted creations of site s
pub record IsWritten (s : ℕ) (h : List Op) : Type 0 where
  pub accepted : AreAccepted h
  pub valid : IsValid h
  pub made : (a : Op) → Contains h a → Makes a
  pub site : (a : Op) → Contains h a → a.id.site ≡ s

written_nil : (s : ℕ) → IsWritten s []
written_nil s = record {
  accepted = accepted_none;
  valid = valid_nil;
  made = λ a m. absurd (not_Contains-nil a m);
  site = λ a m. absurd (not_Contains-nil a m);
}

module _ (s : ℕ) (site : IsSite s) where
  -- a creation may be added behind such a history
  accepted_push : (h : List Op) (start : Start) → IsWritten s h
      → IsAccepted h (authored s h (Create start))
  accepted_push h start w = record {
    next = authored_next h w.accepted w.valid s (Create start) site;
    suited = tt;
    aimed = record {
      each = λ i m. absurd (not_Contains-nil i m);
      compatible = λ x y k l clash. absurd (not_Contains-nil x.id k.aimed);
    };
  }

  in_range_push : (h : List Op) (start : Start) → IsWritten s h → count_of h s < 10000
      → IsTrue (is_change (Create start)) → IsInRange (authored s h (Create start))
  in_range_push h start w room fits = authored_in_range h w.accepted w.valid s
      (Create start) site room fits

  -- with one creation more it is one
  written_push : (h : List Op) (start : Start) → IsWritten s h → count_of h s < 10000
      → IsTrue (is_change (Create start)) → IsWritten s (with_change s h (Create start))
  written_push h start w room fits =
      let a = authored s h (Create start) in
      let accepted = accepted_push h start w in
      record {
        accepted = accepted_next w.accepted accepted;
        valid = valid_push h w.accepted w.valid a (in_range_push h start w room fits) accepted;
        made = λ b m. elim (Contains-push_cases h a b m)
            [ inl k ↦ w.made b k | inr e ↦ subst Makes e (record { start = start; is = refl }) ];
        site = λ b m. elim (Contains-push_cases h a b m)
            [ inl k ↦ w.site b k | inr e ↦ subst (λ (o : Op). o.id.site ≡ s) e refl ];
      }

  count_one : (h : List Op) (c : Change) → count_of (with_change s h c) s ≡ count_of h s + 1
  count_one h c = count_push_same h (authored s h c) s refl

  module _ (table : Table) where
    written_from : (h : List Op) (fs : List (Figure Outline)) → IsWritten s h
        → count_of h s + length fs ≤ 10000 → All (λ c. IsTrue (is_change c))
        (map (creation_of table) fs) →
        IsWritten s (fold (with_change s) h (map (creation_of table) fs))
    written_from h [] w few fit = w
    written_from h (f ∷ fs) w few fit =
        let first = All-head (λ c. IsTrue (is_change c)) (creation_of table f)
        (map (creation_of table) fs) fit in
        let rest = All-tail (λ c. IsTrue (is_change c)) (creation_of table f)
        (map (creation_of table) fs) fit in
        let n = count_one h (creation_of table f) in
        written_from (with_change s h (creation_of table f)) fs
        (written_push h (start_of table f) w (omega arith) first) (omega arith) rest

    pub written : (fs : List (Figure Outline)) → length fs ≤ 10000
        → All (λ c. IsTrue (is_change c)) (map (creation_of table) fs)
        → IsWritten s (history_of s (map (creation_of table) fs))
    written fs few fit = written_from [] fs (written_nil s) (omega arith) fit

    -- a site that has h makes the creations of these figures behind it
    authors_from : (h : List Op) (fs : List (Figure Outline)) → IsWritten s h
        → count_of h s + length fs ≤ 10000 → All (λ c. IsTrue (is_change c))
        (map (creation_of table) fs) →
        AuthorsAll (record { number = s; ops = h; held = [] }) (map (creation_of table) fs)
        (record {
          number = s;
          ops = fold (with_change s) h (map (creation_of table) fs);
          held = [];
        })
    authors_from h [] w few fit = none _
    authors_from h (f ∷ fs) w few fit =
        let c = creation_of table f in
        let start = start_of table f in
        let first = All-head (λ c. IsTrue (is_change c)) c (map (creation_of table) fs) fit in
        let rest = All-tail (λ c. IsTrue (is_change c)) c (map (creation_of table) fs) fit in
        let n = count_one h c in
        let room : count_of h s < 10000 = omega arith in
        next c (authored s h c) (record {
          is = refl;
          in_range = in_range_push h start w room first;
          accepted = accepted_push h start w;
          state = refl;
        })
        (authors_from (with_change s h c) fs (written_push h start w room first) (omega arith) rest)

    pub authors : (fs : List (Figure Outline)) → length fs ≤ 10000
        → All (λ c. IsTrue (is_change c)) (map (creation_of table) fs) →
        AuthorsAll (new_site s) (map (creation_of table) fs)
        (record (new_site s) { ops = history_of s (map (creation_of table) fs) })
    authors fs few fit = authors_from [] fs (written_nil s) (omega arith) fit

-- what a site has that made these changes one after the other
made_behind : {x y : SiteState} {cs : List Change} → AuthorsAll x cs y → y.ops
    ≡ fold (with_change x.number) x.ops cs
made_behind (none x) = refl
made_behind (next {x} {y} {z} {cs} c a k rest) =
    let number : y.number ≡ x.number = ap (λ (v : SiteState). v.number) k.state in
    let ops : y.ops ≡ with_change x.number x.ops c = ap (λ (v : SiteState). v.ops) k.state
    ∙ ap (λ b. x.ops ++ b ∷ []) k.is in
    made_behind rest ∙ (λ i. fold (with_change (number i)) (ops i) cs)

pub only_history : (s : ℕ) (cs : List Change) (x : SiteState) → AuthorsAll (new_site s) cs x → x.ops
    ≡ history_of s cs
only_history s cs x k = made_behind k
