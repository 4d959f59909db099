-- A relation of each element of a list to all behind it (this project's choice).
use Rattle.std.specs.Prelude.{List, [], ◌∷◌, Contains, ⊤}

-- R relates each element of the list to all behind it
abbrev pub Pairs : {X : Type 0} → (X → X → Type 0) → List X → Type 0
Pairs R [] = ⊤
Pairs R (x ∷ xs) = ((y : _) → Contains xs y → R x y) × Pairs R xs
