use Rattle.std.specs.Prelude.{[], ◌∷◌}
use Rattle.std.proofs.lemmas.List.Elements.{All-append, All-cons, All-nil}
use Rattle.gf_scanline.specs.Pieces.{IsPiece}
use Rattle.gf_scanline.proofs.PieceLemmas.{no_some, seen_with, seen_without}
use Rattle.gf_scanline.proofs.part.add_piece.Goals as goal

pub returns-in_ok-push-clause-pieces : goal.returns-in_ok-push-clause-pieces
returns-in_ok-push-clause-pieces g c = λ j row all.
    let P = IsPiece g.S.Shape.holds c.args.band.window j in
    let one = (rw c.in-Some.is at c.in_ok-piece.ensures.some) j row in
    rw c.in_ok-push.ensures.items (All-append P c.args.pieces.now.items (c.in-Some.piece ∷ []) all
    (All-cons P c.in-Some.piece [] one (All-nil P)))

pub returns-in_ok-push-clause-seen : goal.returns-in_ok-push-clause-seen
returns-in_ok-push-clause-seen g c = λ rest.
    let one = rw c.in-Some.is at c.in_ok-piece.ensures.layer in
    rw c.in_ok-push.ensures.items (seen_with g.S.Shape.holds c.args.band c.args.pieces.now.items
    c.in-Some.piece rest c.args.layer.now one)

pub returns-in_default-clause-seen : goal.returns-in_default-clause-seen
returns-in_default-clause-seen g c = λ rest. seen_without g.S.Shape.holds c.args.band _ rest
    c.args.layer.now (c.in_ok-piece.ensures.none (no_some _ c.in_default.not-Some))
