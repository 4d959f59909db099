-- The comments by which a FIG text tells what it shows (Xfig, FIG Format 3.2: a comment begins with
-- '#', and stands before its object); their words are this project's choice.
use Rattle.std.specs.Prelude.{ℕ, ◌%◌, ◌==◌, List, [], ◌++◌, flat_map, codes}
use Rattle.std.specs.Prelude.{if◌then◌else◌}
use Rattle.std.specs.Fmt.{decimal}
use Rattle.std.specs.List.{enumerate_from, range_with_len}
use Rattle.gf_ops.specs.declared.op.OpId.{OpId}
use Rattle.gf_ops.specs.IdText.{id_text}
use Rattle.gf_fig_named.specs.declared.naming.Name.{Name}

-- a blank, and operation n of site s
abbrev pub spaced_id : ℕ → ℕ → List ℕ
spaced_id s n = codes " " ++ id_text (record { site = s; seq = n })

-- ---- what is known

-- site s with its n operations, if it has some
abbrev pub known_site : ℕ → ℕ → List ℕ
known_site s n = if n == 0 then [] else spaced_id s n

-- the text, or the word `nothing` where it is empty
abbrev pub or_nothing : List ℕ → List ℕ
or_nothing [] = codes " nothing"
or_nothing text = text

-- the comment that counts s operations of each site s are known
abbrev pub knows_comment : (ℕ → ℕ) → List ℕ
knows_comment counts = codes "# figgroup knows"
    ++ or_nothing (flat_map (λ s. known_site s (counts s)) (range_with_len 1 8))

-- ---- names

-- what stands before id n of a name, counted from 0. That is the word `with` before the first one,
-- and the beginning of a further line before each eighth one behind it
abbrev pub before_id : ℕ → List ℕ
before_id n =
    if n % 8 == 0 then (if n == 0 then codes " with" else codes "\n# figgroup with") else []

-- id n of a name
abbrev pub nth_id : ℕ × OpId → List ℕ
nth_id (n, i) = before_id n ++ spaced_id i.site i.seq

-- the lines that name a figure at depth d: its object, the depth, and what tells its version from
-- others. At most eight ids stand on a line, which so has fewer than 100 bytes
abbrev pub name_lines : Name → ℕ → List ℕ
name_lines name d = codes "# figgroup " ++ id_text name.object.0 ++ codes " at " ++ decimal d
    ++ flat_map nth_id (enumerate_from 0 name.telling) ++ codes "\n"
