use Rattle.gf_scanline.proofs.WordLemmas.{first_clear_is}
use Rattle.gf_scanline.proofs.word.first_clear.Goals as goal

pub returns : goal.returns
returns c = first_clear_is c.args.word c.args.start c.first_set.result c.ranges.word.fits
    c.first_set.ensures
