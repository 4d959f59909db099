-- The runs of workers, one below the other.
use Rattle.std.specs.Prelude.{ℕ, suc, ◌≡◌, ◌≤◌, ◌<◌, ◌+◌, ◌*◌, min, List, [], ◌∷◌, ◌++◌, Vec}
use Rattle.std.specs.Prelude.{length, slice_index_or, map, Result, Ok}
use Rattle.std.proofs.Common.{arith, ap, refl, sym, Global, append-nil, append_assoc, ◌∙◌}
use Rattle.std.proofs.lemmas.List.{get_or-map, length-map}
use Rattle.std.specs.Fork.{GivesEach}
use denote.Param.Members.{Shared}
use Rattle.gf_base.specs.declared.memory.OutOfMemory.{OutOfMemory}
use Rattle.gf_plane.specs.declared.colour.Rgb.{Rgb}
use Rattle.gf_plane.specs.declared.point.Point.{Point}
use Rattle.gf_scanline.specs.Bands.{BandView}
use Rattle.gf_scanline.specs.Picture.{rows}
use Rattle.gf_scanline.specs.Windows.{View}
use Rattle.gf_raster.specs.Rows.{AreRunsOf, bytes_in, bytes_of}
use Rattle.gf_raster.specs.Shares.{cut, parts, run}
use Rattle.gf_raster.specs.Workers.{GivesAll}
use Rattle.gf_raster.proofs.PictureLemmas.{rows_more}
use Rattle.gf_raster.proofs.ShareLemmas.{cut_more, runs_are_all}

-- values that are all there are what the calls gave
pub all_given : {F X : Type 0} (g : Shared F (ℕ × Unit {0}) (Result X OutOfMemory)) (f : F) (n : ℕ)
    (results : List (Result X OutOfMemory)) (xs : List X) → GivesEach g f n results
    → length results ≡ n → results ≡ map Ok xs → GivesAll g f n xs
all_given {F} {X} g f n results xs a many e = λ i d l.
    let same : length xs ≡ n = sym (length-map {A = X} {B = Result X OutOfMemory} xs Ok)
    ∙ (ap length (sym e) ∙ many) in
    let at : i < length xs = omega (arith, l, same) in (
      refl,
      rw (e, get_or-map {X = X} {Y = Result X OutOfMemory} Ok xs i d (Ok d) at) at (a i (Ok d) l).1,
    )

-- a run more
run_pushed : (colour : Point → Rgb) (w : View) (top count size k : ℕ) (piece : List ℕ)
    → piece ≡ rows colour w (top + cut count size k) (run count size k)
    → rows colour w top (cut count size k) ++ piece ≡ rows colour w top (cut count size (k + 1))
run_pushed colour w top count size k piece e =
    ap (λ xs. rows colour w top (cut count size k) ++ xs) e
    ∙ sym (ap (rows colour w top) (cut_more count size k)
    ∙ rows_more colour w top (cut count size k) (run count size k))

-- runs from number k on
runs_from : (colour : Point → Rgb) (w : View) (top count size k : ℕ) (ps : List (Vec ℕ Global))
    → ((i : ℕ) (d : Vec ℕ Global) → i < length ps → (slice_index_or ps i d).items ≡ rows colour w
    (top + cut count size (k + i)) (run count size (k + i)))
    → rows colour w top (cut count size k) ++ bytes_in ps ≡ rows colour w top
    (cut count size (k + length ps))
runs_from colour w top count size k [] h =
    let e : k + 0 ≡ k = omega arith in rw e (append-nil (rows colour w top (cut count size k)))
runs_from colour w top count size k (p ∷ ps) h =
    let here : k + 0 ≡ k = omega arith in
    let first = rw here at (h 0 p (omega arith)) in
    let end : k + suc (length ps) ≡ k + 1 + length ps = omega arith in
    let rest = runs_from colour w top count size (k + 1) ps
    (λ i d l. let e : k + suc i ≡ k + 1 + i = omega arith in
    rw e at (h (suc i) d (omega (arith, l)))) in
    rw end (sym (append_assoc (rows colour w top (cut count size k)) p.items (bytes_in ps))
    ∙ (ap (λ xs. xs ++ bytes_in ps) (run_pushed colour w top count size k p.items first) ∙ rest))

-- the runs are all rows
pub runs_of_band : (colour : Point → Rgb) (b : BandView) (size : ℕ) (ps : List (Vec ℕ Global))
    → 1 ≤ size → length ps ≡ parts b.count size → AreRunsOf colour b size ps
    → bytes_in ps ≡ bytes_of colour b
runs_of_band colour b size ps l many a =
    let all = runs_from colour b.window b.top b.count size 0 ps
    (λ i d m. let e : 0 + i ≡ i = omega arith in rw e (a i d m)) in
    let end : 0 + length ps ≡ parts b.count size = omega (arith, many) in
    let none : cut b.count size 0 ≡ 0 = nothing size b.count in
    (rw (none, end) at all) ∙ ap (rows colour b.window b.top) (runs_are_all b.count size l)
  where
    nothing : (s n : ℕ) → min (0 * s) n ≡ 0
    nothing s n = omega arith
