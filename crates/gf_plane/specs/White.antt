-- The colour of the plane where nothing is drawn (this project's choice).
use Rattle.gf_plane.specs.declared.colour.Rgb.{Rgb}

-- the colour of the ground
abbrev pub white : Rgb
white = record { r = 255; g = 255; b = 255 }
