-- Drawings whose figures stand at other depths, in the same order (this project's choice).
use Rattle.std.specs.Prelude.{ℕ, ◌+◌, ◌*◌, nat_le, if◌then◌else◌, map}
use Rattle.gf_figures.specs.declared.figure.Figure.{Figure}
use Rattle.gf_figures.specs.DrawingState.{DrawingState}

-- the figure f at the depth that g gives for its own
abbrev pub figure_raised : {S : Type 0} → (ℕ → ℕ) → Figure S → Figure S
figure_raised g f = record { shape = f.shape; colour = f.colour; depth = g f.depth }

-- the drawing d, each figure at the depth that g gives for its own
abbrev pub drawing_raised : {S : Type 0} → (ℕ → ℕ) → DrawingState S → DrawingState S
drawing_raised g d = record { table = d.table; figures = map (figure_raised g) d.figures }

-- the depth of figure n of a named text, which has so many figures: room in front, and between
-- figures as far as there is
abbrev pub named_depth : ℕ → ℕ → ℕ
named_depth count n =
    if nat_le count 94 then 60 + 10 * n else (if nat_le count 940 then 60 + n else n)
