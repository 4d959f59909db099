-- Where the links of sites stand in their table.
use Rattle.std.proofs.Common.{◌≡◌, ℕ, ◌+◌, List, [], ◌∷◌, ◌++◌, length, length-append, sym, ap}
use Rattle.std.proofs.Common.{subst, ◌∙◌}
use Rattle.std.specs.Prelude.{Some, slice_get}
use Rattle.atomic_table.specs.Seated.{TableId}
use Rattle.gf_base.proofs.PositionLemmas.{got_more, got_last, position_of}
use Rattle.gf_worker.specs.declared.peer.Peer.{Peer}
use Rattle.gf_worker.specs.Peers.{Seat, StandsInTable}
use Rattle.gf_mesh.specs.Linked.{AreLinked, EachPeer, IsSeatAt}

pub stands_more : (links more : List TableId) (i k : ℕ) (s : Seat) → IsSeatAt links i k s
    → IsSeatAt (links ++ more) i k s
stands_more links more i k s t = record {
  earlier = t.earlier;
  later = t.later;
  to = got_more links more s.out s.to t.to;
  from = got_more links more s.into s.from t.from;
}

-- the two links behind others
pub got_pair : {X : Type 0} (xs : List X) (y z : X) (n : ℕ) → length xs ≡ n
    → (slice_get ((xs ++ y ∷ []) ++ z ∷ []) n ≡ Some y)
    × (slice_get ((xs ++ y ∷ []) ++ z ∷ []) (n + 1) ≡ Some z)
got_pair xs y z n e = (
  subst (λ k. slice_get ((xs ++ y ∷ []) ++ z ∷ []) k ≡ Some y) e
      (got_more (xs ++ y ∷ []) (z ∷ []) (length xs) y (got_last xs y)),
  subst (λ k. slice_get ((xs ++ y ∷ []) ++ z ∷ []) k ≡ Some z)
      (length-append xs (y ∷ []) ∙ ap (λ k. k + 1) e) (got_last (xs ++ y ∷ []) z),
)

-- the links of each peer stand at its indices
pub all_placed : (links : List TableId) (rows : List (List Peer)) → AreLinked links rows
    → EachPeer (StandsInTable links) rows
all_placed links rows s xs c p d =
    let i = position_of rows xs c in
    let k = position_of xs p d in
    let t = s.each i.0 k.0 xs p i.1 k.1 in record { out = t.to; into = t.from }

pub last_of : {X : Type 0} (all xs : List X) (y : X) (n : ℕ) → all ≡ xs ++ y ∷ [] → length xs ≡ n
    → slice_get all n ≡ Some y
last_of {X = X} all xs y n e l = subst (λ (w : List X × ℕ). slice_get w.0 w.1 ≡ Some y)
    (λ i. (sym e i, l i)) (got_last xs y)
