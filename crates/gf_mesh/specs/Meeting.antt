-- Two sites as they are joined, and as they are parted. No public clause cites this module.
use Rattle.std.specs.Prelude.{◌≡◌, ◌+◌, List, [], ◌∷◌, ◌++◌, length, IsTrue}
use Rattle.atomic_table.specs.Seated.{TableId}
use Rattle.gf_link.specs.Ends.{is_ended}
use Rattle.gf_worker.specs.declared.peer.Peer.{Peer}

-- two new links stand behind those of the table, one each way between two sites. x and y are what
-- the sites have each other as
pub record Connects (table more : List TableId) (x y : Peer) : Type 0 where
  pub there : TableId
  pub back : TableId
  pub table_is : more ≡ (table ++ there ∷ []) ++ back ∷ []
  pub theirs : x ≡ record {
    out = length table;
    send = record { link = there; sent = [] };
    into = length table + 1;
    take = record { link = back; taken = [] };
  }
  pub mine : y ≡ record {
    out = length table + 1;
    send = record { link = back; sent = [] };
    into = length table;
    take = record { link = there; taken = [] };
  }

-- x sends on the link one and y on the link two, each takes where the other sends, and an End or a
-- Stop was taken from both
pub record AreEnds (one two : TableId) (x y : Peer) : Type 0 where
  pub there : (x.send.link ≡ one) × (y.take.link ≡ one)
  pub back : (y.send.link ≡ two) × (x.take.link ≡ two)
  pub ended : IsTrue (is_ended x.take.taken) × IsTrue (is_ended y.take.taken)

-- each of the peers x and y took all that the other sent
pub record HaveExchanged (x y : Peer) : Type 0 where
  pub there : y.take.taken ≡ x.send.sent
  pub back : x.take.taken ≡ y.send.sent
