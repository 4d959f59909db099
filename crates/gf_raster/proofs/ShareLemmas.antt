-- The shares of workers, one behind the other.
use Rattle.std.specs.Prelude.{ℕ, ◌≡◌, ◌≤◌, ◌+◌, ◌-◌, ◌*◌, min}
use Rattle.std.proofs.Common.{arith}
use Rattle.std.proofs.lemmas.Grind.{div_ceil_times}
use Rattle.gf_scanline.specs.Windows.{View}
use Rattle.gf_raster.specs.Shares.{cut, parts, run, stride}

product_more : (k s : ℕ) → (k + 1) * s ≡ k * s + s
product_more k s = omega arith

-- one share more
pub cut_more : (count size k : ℕ) → cut count size (k + 1) ≡ cut count size k + run count size k
cut_more count size k = let e = product_more k size in rw e (sums (k * size) size count)
  where
    sums : (p s w : ℕ) → min (p + s) w ≡ min p w + min s (w - min p w)
    sums p s w = omega arith

-- this many parts hold all
pub parts_hold : (count size : ℕ) → 1 ≤ size → count ≤ parts count size * size
parts_hold count size l = (div_ceil_times count size (omega arith)).0

-- this many runs of this size are all
pub runs_are_all : (count size : ℕ) → 1 ≤ size → cut count size (parts count size) ≡ count
runs_are_all count size l = let h = parts_hold count size l in
    least (parts count size * size) count h
  where
    least : (p w : ℕ) → w ≤ p → min p w ≡ w
    least p w h = omega arith

-- the workers' shares are all
pub shared : (count workers : ℕ) → 1 ≤ workers → cut count (parts count workers) workers ≡ count
shared count workers l =
    let q = parts count workers in
    let h : count ≤ q * workers = parts_hold count workers l in
    least (workers * q) (q * workers) count (turned q workers) h
  where
    turned : (q n : ℕ) → n * q ≡ q * n
    turned q n = omega arith

    least : (p r w : ℕ) → p ≡ r → w ≤ r → min p w ≡ w
    least p r w e h = omega arith

-- the workers' columns are all
pub columns_shared : (w : View) (workers : ℕ) → 1 ≤ workers
    → cut w.width (stride w workers) workers ≡ w.width
columns_shared w workers l =
    let tiles = parts w.width 64 in
    let q = parts tiles workers in
    let h : w.width ≤ tiles * 64 = parts_hold w.width 64 (omega arith) in
    let m : tiles ≤ q * workers = parts_hold tiles workers l in
    least (workers * (64 * q)) (q * workers) tiles w.width (regrouped q workers) h m
  where
    regrouped : (q n : ℕ) → n * (64 * q) ≡ 64 * (q * n)
    regrouped q n = omega arith

    least : (p r t w : ℕ) → p ≡ 64 * r → w ≤ t * 64 → t ≤ r → min p w ≡ w
    least p r t w e h m = omega arith
