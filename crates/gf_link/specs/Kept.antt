-- The rule of a link: what was sent is what was taken and then what the queue holds (this project's
-- choice: a queue that is first in, first out).
use Rattle.std.specs.Prelude.{◌≡◌, ℕ, ◌≤◌, Bool, true, List, [], ◌∷◌, ◌++◌}
use Rattle.std.specs.Prelude.{length, IsTrue}
use mathlib.Core.Option.{some}
use lib.ListN.{get_elem?}
use Rattle.gf_link.specs.Ends.{ends_last}
use Rattle.gf_link.specs.declared.message.Message.{Message}
use Rattle.gf_link.specs.declared.rule.Log.{Log}

-- what a pass may do, and what it has sent and taken
abbrev pub log : Bool → Bool → List Message → List Message → Log
log a b sent taken = record { sends = a; takes = b; sent = sent; taken = taken }

-- the pass that may send knows what was sent, and the pass that may take what was taken
pub record PassesFit (writer reader : ℕ) (sent taken : List Message) (port : ℕ)
    (v : Log) : Type 0 where
  pub sender : v.sends ≡ true → (port ≡ writer) × (v.sent ≡ sent)
  pub taker : v.takes ≡ true → (port ≡ reader) × (v.taken ≡ taken)

-- what was sent is what was taken and what the link holds
pub record IsLossless (items : List Message) (views : List Log) : Type 0 where
  pub writer : ℕ
  pub reader : ℕ
  pub sent : List Message
  pub taken : List Message
  pub whole : sent ≡ taken ++ items
  pub few : length sent ≤ 1024
  pub last : IsTrue (ends_last sent)
  pub fits : (port : ℕ) (v : Log) → get_elem? views port ≡ some v
      → PassesFit writer reader sent taken port v

-- the message joins what was taken, which had not ended and is not long
pub record TakesMessage (v : Log) (m : Message) (w : Log) : Type 0 where
  pub grown : w ≡ log v.sends v.takes v.sent (v.taken ++ m ∷ [])
  pub few : length w.taken ≤ 1024
  pub lasts : IsTrue (ends_last w.taken)
