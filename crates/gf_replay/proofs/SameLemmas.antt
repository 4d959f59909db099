-- Inputs with the same operations denote the same histories, and one input denotes one.
use Rattle.std.proofs.Common.{◌≡◌, ℕ, List, [], ◌∷◌, map, refl, sym, subst, ◌∙◌, Ok}
use Rattle.gf_ops.specs.declared.op.Op.{Op}
use Rattle.gf_json.specs.LineValues.{Got}
use Rattle.gf_causal.specs.DeliveredPart.{HaveSame, IsDelivered, IsDeliveredPart}
use Rattle.gf_replay.specs.Denoting.{Denotes, HaveSameOperations}

-- lines denote one list of operations
one_denoted : (ops others : List Op) → ◌≡◌ {A = List (Got Op)} (map Ok ops) (map Ok others)
    → ops ≡ others
one_denoted [] [] e = refl
one_denoted (a ∷ ops) (b ∷ others) e =
    let rest : ◌≡◌ {A = List (Got Op)} (map Ok ops) (map Ok others) = cc in
    let same : a ≡ b = cc in
    let later = one_denoted ops others rest in
    λ i. same i ∷ later i
one_denoted [] (b ∷ others) e = absurd cc
one_denoted (a ∷ ops) [] e = absurd cc

-- what is delivered of some operations is delivered of the same ones in another order
delivered_of_same : (ops others : List Op) → HaveSame ops others → (a : Op) → IsDelivered ops a
    → IsDelivered others a
delivered_of_same ops others same a d = record {
  added = d.added;
  delivery = record {
    from_offered = λ b i. (same b).0 (d.delivery.from_offered b i);
    once = d.delivery.once;
    in_turn = d.delivery.in_turn;
  };
  contained = d.contained;
}

turned : (ops others : List Op) → HaveSame ops others → HaveSame others ops
turned ops others same a = ((same a).1, (same a).0)

same_part : (ops others h k : List Op) → HaveSame ops others → IsDeliveredPart ops h
    → IsDeliveredPart others k → HaveSame h k
same_part ops others h k same one other a = (
  λ i. (other a).1 (delivered_of_same ops others same a ((one a).0 i)),
  λ i. (one a).1 (delivered_of_same others ops (turned ops others same) a ((other a).0 i)),
)

-- one input denotes one history, in whatever order
pub one_history : (bytes : List ℕ) (h k : List Op) → Denotes bytes h → Denotes bytes k
    → HaveSame h k
one_history bytes h k d e =
    let same = one_denoted d.ops e.ops (sym d.lines ∙ e.lines) in
    same_part d.ops e.ops h k (subst (HaveSame d.ops) same (λ a. (λ i. i, λ i. i)))
    d.delivers.delivered e.delivers.delivered

-- where one of two inputs with the same operations denotes a history, the other does
pub denote_alike : (bytes others : List ℕ) → HaveSameOperations bytes others → (h : List Op)
    → Denotes bytes h → Denotes others h
denote_alike bytes others have h d =
    let ops = one_denoted d.ops have.ops (sym d.lines ∙ have.lines) in
    let same : HaveSame d.ops have.other_ops = subst (λ x. HaveSame x have.other_ops) (sym ops)
    have.same in
    record {
      ops = have.other_ops;
      lines = have.other_lines;
      delivers = record {
        one = λ a b i j. d.delivers.one a b ((same a).1 i) ((same b).1 j);
        delivered = λ a. (
          λ i. delivered_of_same d.ops have.other_ops same a ((d.delivers.delivered a).0 i),
          λ i. (d.delivers.delivered a).1
              (delivered_of_same have.other_ops d.ops (turned d.ops have.other_ops same) a i),
        );
        valid = d.delivers.valid;
      };
    }
