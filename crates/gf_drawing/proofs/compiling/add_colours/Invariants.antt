use Rattle.std.proofs.Common.{◌≡◌, [], length, take}
use Rattle.std.specs.List.{enumerate_from}
use Rattle.gf_drawing.proofs.compiling.add_colours.Given as goal

abbrev pub invariant-loop-colour : goal.invariant-loop-colour
invariant-loop-colour g l = record {
  drawing : l.drawing ≡ record {
    table = enumerate_from 32 (take l.colour-index l.colours.keys);
    figures = [];
  };
  counted : length l.drawing.table ≡ l.colour-index;
}
