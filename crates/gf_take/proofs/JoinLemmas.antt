-- What a site makes behind its base of a history joins the operations that deliver the history, in
-- whatever order they come.
use Rattle.std.specs.Prelude.{Contains}
use Rattle.std.proofs.Common.{◌≡◌, ℕ, List, [], ◌∷◌, ◌++◌, refl, sym, ap}
use Rattle.std.proofs.Common.{append_assoc, subst}
use Rattle.std.proofs.Common.{◌∙◌, inl, inr}
use Rattle.std.proofs.lemmas.List.{append-nil}
use Rattle.std.proofs.lemmas.List.Elements.{Contains-append_cases, Contains-append_left}
use Rattle.std.proofs.lemmas.List.Elements.{Contains-append_right}
use Rattle.gf_ops.specs.declared.op.Op.{Op}
use Rattle.gf_ops.specs.declared.op.Clock.{Clock}
use Rattle.gf_ops.specs.OperationOrder.{clock_of}
use Rattle.gf_ops.specs.Accepted.{AreAccepted, IsAccepted, next as accepted_next}
use Rattle.gf_ops.specs.declared.change.Change.{Change}
use Rattle.gf_ops.specs.ValidHistory.{IsValid}
use Rattle.gf_site.specs.SiteState.{authored}
use Rattle.gf_site.specs.ReplicaState.{ReplicaState}
use Rattle.gf_replay.specs.Behind.{HasDelivered}
use Rattle.gf_replay.specs.Denoting.{Delivers}
use Rattle.gf_replay.proofs.AddedLemmas.{AreAdded, added_accepted, added_valid, next, none}
use Rattle.gf_replay.proofs.JoiningLemmas.{join_delivers, last, not_new, run_all}
use Rattle.gf_site.specs.MadeEach.{MakesEach, none as each_none, next as each_next}
use Rattle.gf_take.specs.Bases.{AreRead, IsBase, JoinsTake}
use Rattle.gf_take.proofs.PartLemmas.{accepted_beyond, base_own, base_within}

-- ---- what is made behind a base is added behind the whole history

module _ (s : ℕ) (h b : List Op) (valid : IsValid h) (run : AreAccepted h)
    (base_run : AreAccepted b) (within : (a : Op) → Contains b a → Contains h a)
    (own : (a : Op) → Contains h a → a.id.site ≡ s → Contains b a) where
  -- behind what was made so far
  more_beyond : (made : List Op) → AreAdded s h made → AreAccepted (b ++ made) → (l : List Op)
      → l ≡ b ++ made → (changes : List Change) (new : List Op) → MakesEach s l changes new
      → AreAdded s h (made ++ new)
  more_beyond made added base_made l e changes new each_none =
      subst (AreAdded s h) (sym (append-nil made)) added
  more_beyond made added base_made l e changes new
      (each_next {cs = rest} {new = more} c range ok m) =
      let a = authored s l c in
      let fits = subst (λ k. IsAccepted k a) e ok in
      let one = next a added refl range
      (accepted_beyond (h ++ made) (b ++ made) (added_valid s h run valid made added)
      (added_accepted s h run made added) base_made
      (λ x i. elim (Contains-append_cases b made x i) [
        | inl j ↦ Contains-append_left h made x (within x j)
        | inr j ↦ Contains-append_right h made x j
      ])
      s
      (λ x i q. elim (Contains-append_cases h made x i) [
        | inl j ↦ Contains-append_left b made x (own x j q)
        | inr j ↦ Contains-append_right b made x j
      ])
      a refl fits (ap clock_of e)) in
      let same = append_assoc b made (a ∷ []) in
      subst (AreAdded s h) (append_assoc made (a ∷ []) more)
      (more_beyond (made ++ a ∷ []) one (subst AreAccepted same (accepted_next base_made fits))
      (l ++ a ∷ []) (ap (λ k. k ++ a ∷ []) e ∙ same) rest more m)

  made_beyond : (changes : List Change) (new : List Op) → MakesEach s b changes new
      → AreAdded s h new
  made_beyond changes new m =
      let same = sym (append-nil b) in
      more_beyond [] none (subst AreAccepted same base_run) b same changes new m

-- all that was read and what is made behind the base deliver the history with what is new
pub takes_join : (s : ℕ) (c : Clock) (ops h b new all : List Op)
    → JoinsTake s c ops h b new all → Delivers all (h ++ new)
takes_join s c ops h b new all j =
    let valid = j.read.delivers.valid in
    join_delivers s ops h j.read.delivers j.read.accepted j.read.free new
    (made_beyond s h b valid j.read.accepted j.base.accepted (base_within s c h b valid j.base)
    (base_own s c h b valid j.base) j.changes new j.makes)
    all j.same

-- what a site makes behind its base is accepted behind the history, too
pub makes_accepted : (s : ℕ) (c : Clock) (h b : List Op) (changes : List Change) (new : List Op)
    → IsValid h → AreAccepted h → IsBase s c h b → MakesEach s b changes new
    → AreAccepted (h ++ new)
makes_accepted s c h b changes new valid run base m =
    added_accepted s h run new
    (made_beyond s h b valid run base.accepted (base_within s c h b valid base)
    (base_own s c h b valid base) changes new m)

-- what was given, with the new operations behind it, is taken, and nothing that is held is ready
pub takes_on : (s : ℕ) (c : Clock) (ops b new : List Op) (x : ReplicaState) → HasDelivered ops x
    → AreRead s ops x.ops → IsBase s c x.ops b → (changes : List Change)
    → MakesEach s b changes new
    → HasDelivered (ops ++ new) (record { ops = x.ops ++ new; held = x.held })
takes_on s c ops b new x d read base changes makes = record {
  taken = record {
    one = joined.one;
    all = λ a. (
      λ i. elim (Contains-append_cases ops new a i) [
        | inl j ↦ elim ((d.taken.all a).0 j) [
          | inl k ↦ inl k
          | inr k ↦ inr (Contains-append_left x.ops new a k)
        ]
        | inr j ↦ inr (Contains-append_right x.ops new a j)
      ],
      λ i. elim i [
        | inl k ↦ Contains-append_left ops new a ((d.taken.all a).1 (inl k))
        | inr k ↦ elim (Contains-append_cases x.ops new a k) [
          | inl j ↦ Contains-append_left ops new a ((d.taken.all a).1 (inr j))
          | inr j ↦ Contains-append_right ops new a j
        ]
      ],
    );
    others = λ a i k. elim (Contains-append_cases x.ops new a k) [
      | inl j ↦ d.taken.others a i j
      | inr j ↦ not_new s ops x.ops read.delivers read.accepted read.free new m a a ((d.taken.all a).1 (inl i)) j refl
    ];
    accepted = run_all s ops x.ops read.delivers read.accepted read.free new m;
    valid = joined.valid;
  };
  none = λ a i r. (last s ops x.ops read.delivers read.accepted read.free new m (ops ++ new) (λ b. (λ k. k, λ k. k))).last a
      (Contains-append_left ops new a ((d.taken.all a).1 (inl i))) r;
}
  where
    valid : IsValid x.ops
    valid = read.delivers.valid

    m : AreAdded s x.ops new
    m = made_beyond s x.ops b valid read.accepted base.accepted (base_within s c x.ops b valid base)
        (base_own s c x.ops b valid base) changes new makes

    joined : Delivers (ops ++ new) (x.ops ++ new)
    joined = join_delivers s ops x.ops read.delivers read.accepted read.free new m (ops ++ new) (λ b. (λ k. k, λ k. k))
