use Rattle.std.proofs.Common.{rules}
use Rattle.gf_ops.proofs.conflict.is_another.Goals as goal

pub returns-in-Colour-Colour : goal.returns-in-Colour-Colour
returns-in-Colour-Colour c = search rules

pub returns-in-Place-default : goal.returns-in-Place-default
returns-in-Place-default c = search rules

pub returns-in-Place-default-2 : goal.returns-in-Place-default-2
returns-in-Place-default-2 c = search rules

pub returns-in-Place-default-3 : goal.returns-in-Place-default-3
returns-in-Place-default-3 c = search rules
