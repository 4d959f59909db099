use Rattle.std.proofs.Common.{◌≡◌, ◌<◌, ◌≤◌, ◌+◌, ◌-◌, ◌∷◌, ◌++◌, ap, arith, drop, length, max, min}
use Rattle.std.proofs.Common.{rules, subst, sym, ◌∙◌}
use Rattle.std.proofs.lemmas.List.{drop_more}
use Rattle.gf_scanline.specs.Pixels.{pixels}
use Rattle.gf_scanline.proofs.StrokeLemmas.{IsFilling, filling_ends, filling_more}
use Rattle.gf_scanline.proofs.stroke.fill_on.Goals as goal

pub loop-stroke-preserved : goal.loop-stroke-preserved
loop-stroke-preserved c =
    let ss = c.args.strokes.now in
    let i = c.loop-stroke.stroke-index in
    let s = c.stroke-item.result in
    let at = c.loop-stroke.at in
    let to = c.args.to in
    let high = c.loop-stroke.invariant.high in
    let least = c.min.ensures in
    let most = c.max-end.ensures in
    let end : c.max-end.result ≡ max (min s.to to) at = omega (arith, least, most) in
    let m : i < length ss = search rules in
    record {
      high = omega (arith, end, high);
      filling = λ target n h l.
          let next = drop_more ss i s m ∙ ap (λ x. x ∷ drop (i + 1) ss) (sym c.stroke-item.is) in
          let old = c.loop-stroke.bytes.items in
          let all = c.args.bytes.now.items ++ pixels target c.args.from (to - c.args.from) in
          filling_more target n to at c.max-end.result s (drop (i + 1) ss) old
          c.append.new.bytes.items all l c.if-to-at.false end c.in_ok-append.ensures
          (subst (λ z. IsFilling target n to at z old all) next
          (c.loop-stroke.invariant.filling target n h l));
    }

pub returns : goal.returns
returns c = λ target n h l.
    let ss = c.args.strokes.now in
    let i = c.loop-stroke.stroke-index in
    let past : length ss ≤ i = search (rules, arith) in
    filling_ends target n c.args.to c.loop-stroke.at ss i c.loop-stroke.bytes.items
    (c.args.bytes.now.items ++ pixels target c.args.from (c.args.to - c.args.from)) l past
    (c.loop-stroke.invariant.filling target n h l)
