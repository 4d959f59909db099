-- The first lines of a text, one after the other.
use Rattle.std.proofs.Common.{◌≡◌, ℕ, ◌+◌, ◌-◌, ◌<◌, ◌≤◌, List, [], ◌∷◌, ◌++◌, length, take, suc}
use Rattle.std.proofs.Common.{sym, ◌∙◌, append_assoc, arith}
use Rattle.std.proofs.Math.Seq.{take-nil}
use Rattle.std.proofs.lemmas.List.{append-nil}
use Rattle.gf_streams.specs.TextLines.{numbered_from}

-- a text that has a line has a byte
pub has_byte : (text : List ℕ) (n : ℕ) (line : ℕ × List ℕ) (others : List (ℕ × List ℕ))
    → numbered_from n text ≡ line ∷ others → 0 < length text
has_byte [] n line others e = absurd cc
has_byte (b ∷ text) n line others e = omega arith

-- one of the first lines more is told
pub first_more : (told all : List (ℕ × List ℕ)) (most count : ℕ) (lines others : List (ℕ × List ℕ))
    (line : ℕ × List ℕ)
    → count < most → lines ≡ line ∷ others → told ++ take (most - count) lines ≡ all
    → (told ++ line ∷ []) ++ take (most - (count + 1)) others ≡ all
first_more told all most count lines others line few is so_far =
    let k : most - count ≡ suc (most - (count + 1)) = omega arith in
    append_assoc told (line ∷ []) (take (most - (count + 1)) others) ∙ rw (is, k) at so_far

-- with no line left, all of the first lines are told
pub none_left : (told all : List (ℕ × List ℕ)) (k : ℕ) (lines : List (ℕ × List ℕ)) → lines ≡ []
    → told ++ take k lines ≡ all → told ≡ all
none_left told all k lines none so_far = sym (append-nil told) ∙ rw (none, take-nil) at so_far

-- with no room left, all of the first lines are told
pub no_room : (told all : List (ℕ × List ℕ)) (most count : ℕ) (lines : List (ℕ × List ℕ))
    → most ≤ count
    → told ++ take (most - count) lines ≡ all → told ≡ all
no_room told all most count lines full so_far =
    let k : most - count ≡ 0 = omega arith in
    sym (append-nil told) ∙ rw k at so_far
