use Rattle.std.proofs.Common.{◌≡◌, ◌+◌, ◌-◌, ◌≤◌, arith, drop, length}
use Rattle.std.proofs.lemmas.List.{length-drop, take_all}
use Rattle.gf_scanline.proofs.StrokeLemmas.{strokes_later}
use Rattle.gf_scanline.proofs.stroke.fill.Goals as goal

pub returns : goal.returns
returns c = λ target n h l.
    let ss = c.args.strokes.now in
    let i = c.first_ending-first.result in
    let first = c.first_ending-first.ensures.first target n h in
    let later = strokes_later 0 c.args.from target n ss i (omega arith)
    c.first_ending-first.ensures.bound first.below first.above h in
    let short : length (drop i ss) ≤ length ss - i = let e = length-drop i ss in omega (arith, e) in
    let whole = take_all (length ss - i) (drop i ss) short in
    let len : (c.args.from + c.args.len) - c.args.from ≡ c.args.len = omega arith in
    rw len at (c.in_ok-fill_on.ensures target n (rw whole later) l)
