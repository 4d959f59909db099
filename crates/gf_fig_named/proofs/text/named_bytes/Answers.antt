use Rattle.std.specs.List.{AllZip}
use Rattle.gf_fig_named.specs.NamedText.{IsNameOf}
use Rattle.gf_fig_named.proofs.NamedLemmas.{as_long, is_named}
use Rattle.gf_fig_named.proofs.text.named_bytes.Goals as goal

pub text_of-requires : goal.text_of-requires
text_of-requires c =
    let items = c.args.ranked.items.items in
    let h = c.args.history.now.ops in
    let all : AllZip (IsNameOf h items) items c.in_ok-names.names.items = rw c.deref.ensures.value
    at c.in_ok-names.ensures in
    rw c.deref-2.ensures.value (as_long h items c.in_ok-names.names.items all
    c.in_ok-drawing.drawing c.in_ok-drawing.ensures.drawing)

pub returns-clause-text : goal.returns-clause-text
returns-clause-text c =
    let items = c.args.ranked.items.items in
    let h = c.args.history.now.ops in
    let all : AllZip (IsNameOf h items) items c.in_ok-names.names.items = rw c.deref.ensures.value
    at c.in_ok-names.ensures in
    is_named h items c.requires c.in_ok-drawing.ensures.fits c.in_ok-names.names.items all
    c.in_ok-drawing.drawing c.in_ok-drawing.ensures.drawing c.in_ok-bytes.bytes.items
    (rw c.deref-2.ensures.value at c.in_ok-bytes.ensures)
