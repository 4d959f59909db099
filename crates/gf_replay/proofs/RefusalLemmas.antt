-- An input that denotes a history has no line at fault and drops nothing.
use Rattle.std.specs.Prelude.{Contains, Ok}
use Rattle.std.proofs.Common.{◌≡◌, ℕ, List, [], ◌∷◌, ◌++◌, map, refl, sym, ap, subst, ◌∙◌}
use Rattle.std.proofs.Common.{append_assoc}
use Rattle.std.proofs.lemmas.List.{map-append}
use Rattle.std.proofs.lemmas.List.Elements.{Contains-append_left, Contains-push}
use Rattle.gf_ops.specs.declared.op.Op.{Op}
use Rattle.gf_ops.specs.declared.op.OpId.{OpId}
use Rattle.gf_ops.specs.declared.faults.OpFault.{OpFault}
use Rattle.gf_causal.specs.DeliveredPart.{IsDelivery}
use Rattle.gf_causal.proofs.FinishLemmas.{delivery-push}
use Rattle.gf_causal.proofs.PartLemmas.{part_accepts}
use Rattle.gf_json.specs.LineValues.{Got}
use Rattle.gf_json.specs.OperationLines.{denoted}
use Rattle.gf_site.proofs.StepLemmas.{not_refused}
use Rattle.gf_replay.specs.declared.reading_error.LineCause.{LineCause}
use Rattle.gf_replay.specs.declared.reading_error.LineCause.TheVariants as cause
use Rattle.gf_replay.specs.Denoting.{Denotes}
use Rattle.gf_replay.specs.Refusing.{Drops, HasFault, IsAt, IsFault}

-- lines behind those of some operations denote the operations behind these
record Continues (ops all : List Op) (r : Got Op) : Type 0 where
  pub last : Op
  pub rest : List Op
  pub is : r ≡ Ok last
  pub whole : all ≡ ops ++ last ∷ rest

continued : (ops all : List Op) (r : Got Op) (behind : List (Got Op))
    → map Ok ops ++ r ∷ behind ≡ map Ok all → Continues ops all r
continued [] (a ∷ all) r behind e = let first : r ≡ Ok a = cc in record {
  last = a;
  rest = all;
  is = first;
  whole = refl;
}
continued [] [] r behind e = absurd cc
continued (o ∷ ops) (a ∷ all) r behind e =
    let same : o ≡ a = cc in
    let tail : map Ok ops ++ r ∷ behind ≡ map Ok all = cc in
    let k = continued ops all r behind tail in
    record {
      last = k.last;
      rest = k.rest;
      is = k.is;
      whole = ap (λ x. a ∷ x) k.whole ∙ ap (λ x. x ∷ (ops ++ k.last ∷ k.rest)) (sym same);
    }
continued (o ∷ ops) [] r behind e = absurd cc

module _ (bytes : List ℕ) (h : List Op) (d : Denotes bytes h) where
  at_line : (n : ℕ) (line : List ℕ) (at : IsAt [] bytes n line) → Continues at.ops d.ops (denoted line)
  at_line n line at =
      let read = λ (l : ℕ × List ℕ). denoted l.1 in
      let parts : map read (at.before ++ (n, line) ∷ at.behind) ≡ map Ok at.ops ++ denoted
      line ∷ map read at.behind =
      map-append read at.before ((n, line) ∷ at.behind)
      ∙ ap (λ x. x ++ denoted line ∷ map read at.behind) at.lines in
      continued at.ops d.ops (denoted line) (map read at.behind)
      (sym parts ∙ (ap (map read) (sym at.whole) ∙ d.lines))

  -- the operations of the first lines are among all
  among : (ops rest : List Op) (last : Op) → d.ops ≡ ops ++ last ∷ rest → (a : Op)
      → Contains (ops ++ last ∷ []) a → Contains d.ops a
  among ops rest last whole a i = subst (λ l. Contains l a) (append_assoc ops (last ∷ []) rest
      ∙ sym whole) (Contains-append_left (ops ++ last ∷ []) rest a i)

  no_fault : (n : ℕ) (line : List ℕ) (at : IsAt [] bytes n line) (why : LineCause)
      → ¬ (IsFault at.ops line why)
  no_fault n line at cause.Json f = let is = (at_line n line at).is in absurd cc
  no_fault n line at cause.Field f = let is = (at_line n line at).is in absurd cc
  no_fault n line at cause.Range f = let is = (at_line n line at).is in absurd cc
  no_fault n line at cause.Clash f =
      let k = at_line n line at in
      let is = k.is in
      let denotes = f.denotes in
      let same : k.last ≡ f.op = cc in
      let all = among at.ops k.rest k.last k.whole in
      let last = subst (Contains d.ops) same (all k.last (Contains-push at.ops k.last)) in
      let other = all f.other.other (Contains-append_left at.ops (k.last ∷ []) f.other.other
      f.other.contained) in
      f.other.differs (d.delivers.one f.other.other f.op other last f.other.id)

  pub denotes_no_fault : (n : ℕ) (why : LineCause) → ¬ (HasFault [] bytes n why)
  denotes_no_fault n why f = no_fault n f.line f.at why f.fault

  pub denotes_no_drop : (id : OpId) (fault : OpFault) → ¬ (Drops [] bytes id fault)
  denotes_no_drop id fault x =
      let k = at_line x.number x.line x.at in
      let is = k.is in
      let denotes = x.denotes in
      let same : k.last ≡ x.last = cc in
      let all = subst (λ last. (a : Op) → Contains (x.at.ops ++ last ∷ []) a → Contains d.ops a)
      same (among x.at.ops k.rest k.last k.whole) in
      let delivery : IsDelivery d.ops x.history = record {
        from_offered = λ a i. all a (x.delivery.from_offered a i);
        once = x.delivery.once;
        in_turn = x.delivery.in_turn;
      } in
      let longer = delivery-push d.ops x.history x.op delivery (all x.op x.there) x.ready in
      let within = λ (a : Op) (i : Contains x.history a). (d.delivers.delivered a).1
      (record { added = x.history; delivery = delivery; contained = i }) in
      let there = (d.delivers.delivered x.op).1
      (record {
        added = x.history ++ x.op ∷ [];
        delivery = longer;
        contained = Contains-push x.history x.op;
      }) in
      not_refused x.history x.op fault (part_accepts h x.history d.delivers.valid within
      x.delivery.in_turn x.op there x.ready) x.refused
