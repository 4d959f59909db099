-- The text of operation ids (this project's choice).
use Rattle.std.specs.Prelude.{ℕ, List, ◌++◌, codes, flat_map}
use Rattle.std.specs.Fmt.{decimal}
use Rattle.gf_ops.specs.declared.op.OpId.{OpId}

-- an id: its site, a point and its number there
abbrev pub id_text : OpId → List ℕ
id_text i = decimal i.site ++ codes "." ++ decimal i.seq

-- ids with a blank before each
abbrev pub spaced_ids_text : List OpId → List ℕ
spaced_ids_text ids = flat_map (λ i. codes " " ++ id_text i) ids
