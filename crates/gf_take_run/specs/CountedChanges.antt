-- Which changes are counted. No public clause cites this module.
use Rattle.std.specs.Prelude.{Bool}
use Rattle.gf_ops.specs.declared.change.Change.{Change}
use Rattle.gf_take_run.specs.declared.counting.Counted.{Counted}
use Rattle.gf_take_run.specs.declared.counting.Counted.TheVariants.{Changed, Hidden, Drawn}
use Rattle.gf_take_run.specs.ToldNumbers.{alters, creates, hides}

-- the test of the changes that are counted
abbrev pub test_of : Counted → Change → Bool
test_of Changed = alters
test_of Hidden = hides
test_of Drawn = creates
