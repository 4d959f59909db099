-- What came to a site from its peers, beside what the site has (this project's choice).
use Rattle.std.specs.Prelude.{◌≢◌, ◌⊎◌, ℕ, List, Contains}
use Rattle.gf_ops.specs.declared.op.Op.{Op}
use Rattle.gf_ops.specs.ValidHistory.{IsValid}
use Rattle.gf_worker.specs.declared.peer.Peer.{Peer}
use Rattle.gf_worker.specs.Messages.{ops_of}

-- the operation a was taken from one of the peers
pub record HasCome (peers : List Peer) (a : Op) : Type 0 where
  pub peer : Peer
  pub contained : Contains peers peer
  pub among : Contains (ops_of peer.take.taken) a

-- no operation under the number s came
abbrev pub AreForeign : ℕ → List Peer → Type 0
AreForeign s peers = (a : Op) → HasCome peers a → a.id.site ≢ s

-- the valid history h has all these operations and all that came
pub record IsWhole (h : List Op) (ops : List Op) (peers : List Peer) : Type 0 where
  pub valid : IsValid h
  pub has : (a : Op) → Contains ops a → Contains h a
  pub come : (a : Op) → HasCome peers a → Contains h a

-- the valid history h has all these operations and all that came, and no more
pub record IsJust (h : List Op) (ops : List Op) (peers : List Peer) : Type 0 where
  pub whole : IsWhole h ops peers
  pub only : (a : Op) → Contains h a → Contains ops a ⊎ HasCome peers a
