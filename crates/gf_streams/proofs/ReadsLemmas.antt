-- What several reads took is what they took together.
use Rattle.std.proofs.Common.{ℕ, ◌+◌, ◌≤◌, List, ◌++◌, Option, None, Some, length, arith}
use Rattle.std.proofs.Common.{length-append}
use Rattle.std.specs.Io.KnownBytes.{Consumes}
use Rattle.std.proofs.KnownBytes.{Consumes-trans}
use Rattle.gf_streams.specs.Reads.{CamePast, ConsumesAtMost, ConsumesSome, ReadsOn}

pub consumes_at_most_more : (a b c : Option (List ℕ)) (held : List ℕ) (room most : ℕ)
    → Consumes a b held → length held + room ≤ most → ConsumesAtMost room b c
    → ConsumesAtMost most a c
consumes_at_most_more a b c held room most p fits (front, within, q) =
    (held ++ front, omega (arith, length-append held front), Consumes-trans a b c _ _ p q)

pub consumes_some_more : (a b c : Option (List ℕ)) (held : List ℕ) (room most : ℕ)
    → Consumes a b held → length held + room ≤ most → ConsumesSome room b c → ConsumesSome most a c
consumes_some_more a b c held room most p fits (front, some, within, q) = (
  held ++ front,
  omega (arith, length-append held front),
  omega (arith, length-append held front),
  Consumes-trans a b c _ _ p q,
)

pub consumes_continued : (a b c : Option (List ℕ)) (held grown : List ℕ) (n : ℕ)
    → Consumes a b held → ReadsOn b c held grown n → Consumes a c grown
consumes_continued a b c held grown n p q = rw q.grows (Consumes-trans a b c _ _ p q.takes)

pub not_past : (a b : Option (List ℕ)) (most : ℕ) → ConsumesAtMost most a b → CamePast most a b → ⊥
not_past None b most p q = q
not_past (Some xs) None most p q = q
not_past (Some xs) (Some ys) most (front, within, p) q = omega (arith, rw (p, length-append) at q)
