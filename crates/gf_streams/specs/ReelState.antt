-- A reel as its callers see it (this project's choice).
use Rattle.std.specs.Prelude.{ℕ, ◌-◌, List, Option, None, Some, drop, length, min, option_map}
use Rattle.gf_streams.specs.Counts.{raised}

-- the bytes left, how many it may give before its reads fail, and how often it was read and failed
pub record ReelState : Type 0 where
  pub left : List ℕ
  pub fail_after : Option ℕ
  pub reads : ℕ
  pub failures : ℕ

-- the reel of bytes that fails after fail_after bytes, if there is such a number, and was not read
-- yet
abbrev pub unread : List ℕ → Option ℕ → ReelState
unread bytes fail_after = record { left = bytes; fail_after = fail_after; reads = 0; failures = 0 }

-- how many of n bytes may be given before reads fail after fail_after bytes
abbrev pub allowed : Option ℕ → ℕ → ℕ
allowed None n = n
allowed (Some most) n = min n most

-- how many bytes a read with room for n gives, where it does not fail
abbrev pub read_length : ReelState → ℕ → ℕ
read_length reel n = min (length reel.left) (allowed reel.fail_after n)

-- the reel after a read that gave n bytes
abbrev pub after_giving : ReelState → ℕ → ReelState
after_giving reel n = record {
  left = drop n reel.left;
  fail_after = option_map (λ most. most - n) reel.fail_after;
  reads = raised reel.reads;
  failures = reel.failures;
}

-- the reel after a read that failed
abbrev pub after_failing : ReelState → ReelState
after_failing reel = record reel { reads = raised reel.reads; failures = raised reel.failures }
