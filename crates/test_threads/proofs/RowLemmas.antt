-- The peers of a new mesh stand at their indices in the table, and nothing was sent to them.
use Rattle.std.proofs.Common.{◌≡◌, List, [], ◌∷◌, ◌++◌, sym, subst}
use Rattle.std.specs.Prelude.{All, Contains}
use Rattle.std.specs.Global.{Vec}
use Rattle.std.proofs.lemmas.List.Elements.{Contains-append_left, Contains-push}
use Rattle.gf_base.proofs.ListLemmas.{Contains-map}
use Rattle.gf_worker.specs.declared.peer.Peer.{Peer}
use Rattle.gf_worker.specs.Peers.{StandsInTable, IsFresh}
use Rattle.gf_worker.proofs.SendLemmas.{all_from}
use Rattle.gf_mesh.specs.declared.joining.Mesh.{Mesh}
use Rattle.gf_mesh.specs.Linked.{AreLinked, EachPeer, rows_of}
use Rattle.gf_mesh.proofs.PlaceLemmas.{all_placed}

module _ (links : Mesh) (rows before none : List (Vec Peer)) (first second : Vec Peer)
    (linked : AreLinked links (rows_of rows)) (fresh : EachPeer IsFresh (rows_of rows))
    (e : rows ≡ before ++ second ∷ []) (f : before ≡ none ++ first ∷ []) where
  row : (v : Vec Peer) → Contains rows v → Contains (rows_of rows) v.items
  row v c = Contains-map (λ (w : Vec Peer). w.items) rows v c

  last : Contains rows second
  last = subst (λ l. Contains l second) (sym e) (Contains-push before second)

  one : Contains rows first
  one = subst (λ l. Contains l first) (sym e) (Contains-append_left before (second ∷ []) first
      (subst (λ l. Contains l first) (sym f) (Contains-push none first)))

  pub first_placed : All (StandsInTable links) first.items
  first_placed = all_from (StandsInTable links) first.items
      (all_placed links (rows_of rows) linked first.items (row first one))

  pub first_fresh : All IsFresh first.items
  first_fresh = all_from IsFresh first.items (fresh first.items (row first one))

  pub peer_placed : (peers : List Peer) (p : Peer) → second.items ≡ peers ++ p ∷ []
      → StandsInTable links p
  peer_placed peers p g = all_placed links (rows_of rows) linked second.items (row second last) p
      (subst (λ l. Contains l p) (sym g) (Contains-push peers p))
