-- What a sink took in several calls is one front of the bytes.
use Rattle.std.proofs.Common.{◌≡◌, ℕ, ◌+◌, ◌-◌, ◌≤◌, List, Option, Bool, length, take, drop, ap}
use Rattle.std.proofs.Common.{sym, ◌∙◌, arith, length-drop, take_all}
use Rattle.std.proofs.Math.Seq.{take-add, take-length}
use Rattle.std.specs.Prelude.{false, true}
use Rattle.std.proofs.lemmas.Bool.Decides.{nat_tests}
use Rattle.std.specs.Io.KnownBytes.{Appends, Keeps}
use Rattle.std.proofs.KnownBytes.{Appends-trans, Appends-kept}
use Rattle.gf_streams.specs.Taken.{AppendsPrefix, UnflushedBy}

-- the bytes from d on are a slice to the end
rest_whole : (bs : List ℕ) (d : ℕ) → take (length bs - d) (drop d bs) ≡ drop d bs
rest_whole bs d = ap (λ n. take n (drop d bs)) (sym (length-drop d bs)) ∙ take-length (drop d bs)

pub appends_more : (a b c : Option (List ℕ)) (bs : List ℕ) (d n : ℕ) → Appends a b (take d bs)
    → Appends b c (take n (take (length bs - d) (drop d bs))) → Appends a c (take (d + n) bs)
appends_more a b c bs d n p q = rw take-add (Appends-trans a b c _ _ p (rw rest_whole at q))

pub within_more : (bs : List ℕ) (d n : ℕ) → d ≤ length bs
    → n ≤ length (take (length bs - d) (drop d bs)) → d + n ≤ length bs
within_more bs d n below within = omega (arith, rw (rest_whole, length-drop) at within)

pub appends_whole : (a b : Option (List ℕ)) (bs : List ℕ) (d : ℕ) → length bs ≤ d
    → Appends a b (take d bs) → Appends a b bs
appends_whole a b bs d all p = rw take_all at p

pub unflushed_more : (a b c : Bool) (d n : ℕ) → UnflushedBy d a b → UnflushedBy n b c
    → UnflushedBy (d + n) a c
unflushed_more true b c d n p q = grind (arith, nat_tests)
unflushed_more false b c d n p q = rw p at q

-- all of the bytes are a front of them
pub appends_prefix : (a b c : Option (List ℕ)) (bs : List ℕ) → Appends a b bs → Keeps b c
    → AppendsPrefix a c bs
appends_prefix a b c bs p q = (length bs, omega arith, rw take-length (Appends-kept a b c bs p q))
