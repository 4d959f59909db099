use Rattle.std.specs.Str.Parse.{ExplainsUnsignedError, HasUnsignedDigitsIfOk, ParsesUnsigned}
use Rattle.clap.specs.Words.{found_of}
use Rattle.gf_command.proofs.ReadingLemmas.{natural_given}
use Rattle.gf_command.proofs.asking.count.Goals as goal

pub returns : goal.returns
returns c = natural_given _ (λ bs r. ParsesUnsigned 32 10 bs r × ExplainsUnsignedError 10 bs r
    × HasUnsignedDigitsIfOk bs r) 32
    (found_of c.args.matches.now) c.args.name.now c.get_one.result (λ t x g. g.0)
    c.get_one.ensures.none c.get_one.ensures.value
