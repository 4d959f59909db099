-- The lines of a status (this project's choice; numbers are decimal).
use Rattle.std.specs.Prelude.{ℕ, ◌+◌, Bool, true, false, ◌&&◌, cond, nat_le, List, [], ◌∷◌}
use Rattle.std.specs.Prelude.{◌++◌, flat_map, codes}
use Rattle.std.specs.Fmt.{decimal}
use Rattle.std.specs.List.{fold, list_all}
use Rattle.gf_ops.specs.declared.op.Op.{Op}
use Rattle.gf_ops.specs.declared.op.OpId.{OpId}
use Rattle.gf_ops.specs.declared.op.ObjectId.{ObjectId}
use Rattle.gf_ops.specs.declared.change.Attr.{Attr}
use Rattle.gf_ops.specs.declared.change.Attr.TheVariants.{Place, Points, Size, Colour, Layer, Shown}
use Rattle.gf_ops.specs.IdText.{id_text, spaced_ids_text}
use Rattle.gf_ops.specs.OperationOrder.{count_of}
use Rattle.gf_causal.specs.Waiting.{waits_for}
use Rattle.gf_listing.specs.Counting.{capped}
use Rattle.gf_versions.specs.declared.ranking.TheConstants.{MOST_VERSIONS}
use Rattle.gf_status.specs.declared.state.State.{State}
use Rattle.gf_status.specs.declared.state.State.TheVariants.{Clean, Open}
use Rattle.gf_status.specs.declared.differing.Difference.{Difference}
use Rattle.gf_status.specs.declared.objects.ObjectStatus.{ObjectStatus}

-- the line that the site s has n operations
unfoldable pub has_line : ℕ → ℕ → List ℕ
has_line s n = codes "site " ++ decimal s ++ codes " has " ++ decimal n ++ codes "\n"

-- the line of the site s, if it has operations of h
abbrev pub site_line : List Op → ℕ → List ℕ
site_line h s = cond (nat_le 1 (count_of h s)) (has_line s (count_of h s)) []

-- the lines of all sites
abbrev pub site_lines : List Op → List ℕ
site_lines h = flat_map (site_line h) (1 ∷ 2 ∷ 3 ∷ 4 ∷ 5 ∷ 6 ∷ 7 ∷ 8 ∷ [])

-- the line that the operation under i waits for the one under j
unfoldable pub waits_line : OpId → OpId → List ℕ
waits_line i j = codes "operation " ++ id_text i ++ codes " waits for " ++ id_text j ++ codes "\n"

-- the line of an operation that waits behind h
abbrev pub waiting_line : List Op → Op → List ℕ
waiting_line h a = waits_line a.id (waits_for h a)

-- n in digits, or `more than 1000`
abbrev pub number_text : ℕ → List ℕ
number_text n = cond (nat_le n MOST_VERSIONS) (decimal n) (codes "more than 1000")

-- the line that the object o has n versions, of which m are shown
unfoldable pub has_versions_line : ObjectId → ℕ → ℕ → List ℕ
has_versions_line o n m =
    codes "object " ++ id_text o.0 ++ codes " has " ++ number_text n ++ codes " versions, "
    ++ number_text m ++ codes " shown\n"

-- the line of an object with n versions, if it has more than one
abbrev pub versions_line : ObjectId → ℕ → ℕ → List ℕ
versions_line o n m = cond (nat_le 2 n) (has_versions_line o n m) []

-- the word for an attribute
abbrev pub attribute_word : Attr → List ℕ
attribute_word Place = codes "place"
attribute_word Points = codes "points"
attribute_word Size = codes "size"
attribute_word Colour = codes "colour"
attribute_word Layer = codes "layer"
attribute_word Shown = codes "shown"

-- the line of an attribute of the object o that differs
unfoldable pub difference_line : ObjectId → Difference → List ℕ
difference_line o d =
    codes "object " ++ id_text o.0 ++ codes " " ++ attribute_word d.attribute
    ++ spaced_ids_text d.givers ++ codes "\n"

-- ids with ` and ` before each
abbrev pub more_ids_text : List OpId → List ℕ
more_ids_text ids = flat_map (λ i. codes " and " ++ id_text i) ids

-- the line that the object o is hidden by the operation under i and by these others, none of which
-- knew another one
unfoldable pub crossed_line : ObjectId → OpId → List OpId → List ℕ
crossed_line o i ids =
    codes "object " ++ id_text o.0 ++ codes " hidden by " ++ id_text i ++ more_ids_text ids
    ++ codes "\n"

-- the line of a hidden object with these last hidings, if they are two or more
abbrev pub hidings_line : ObjectId → List OpId → List ℕ
hidings_line o [] = []
hidings_line o (i ∷ []) = []
hidings_line o (i ∷ j ∷ ids) = crossed_line o i (j ∷ ids)

-- the line that the operations under these ids changed of the object o what is hidden
unfoldable pub changed_line : ObjectId → List OpId → List ℕ
changed_line o ids =
    codes "object " ++ id_text o.0 ++ codes " hidden, changed by" ++ spaced_ids_text ids
    ++ codes "\n"

-- the line of an object of which something is hidden, if operations changed that
abbrev pub hidden_line : ObjectId → List OpId → List ℕ
hidden_line o [] = []
hidden_line o (i ∷ ids) = changed_line o (i ∷ ids)

-- all lines of an object
abbrev pub object_lines : ObjectStatus → List ℕ
object_lines s =
    versions_line s.object s.versions s.shown
    ++ flat_map (difference_line s.object) s.differences.items
    ++ hidings_line s.object s.hidings
    ++ hidden_line s.object s.changed

-- how many versions of the objects are shown in all, or 1,001 where these are more than 1,000
abbrev pub shown_in : List ObjectStatus → ℕ
shown_in ss = fold (λ n (s : ObjectStatus). capped (n + s.shown)) 0 ss

-- the line that more versions are shown than a drawing has
unfoldable pub many_line : List ℕ
many_line = codes "drawing has more than 1000 versions shown\n"

-- this line, if n versions are more than a drawing has
abbrev pub drawing_line : ℕ → List ℕ
drawing_line n = cond (nat_le n MOST_VERSIONS) [] many_line

-- the text of a status: of the history h, of what waits behind h, and of the objects
abbrev pub status_text : List Op → List Op → List ObjectStatus → List ℕ
status_text h waiting ss =
    site_lines h ++ flat_map (waiting_line h) waiting ++ flat_map object_lines ss
    ++ drawing_line (shown_in ss)

-- the list has no element
abbrev pub is_none : {X : Type 0} → List X → Bool
is_none [] = true
is_none (x ∷ xs) = false

-- the list has at most one element
abbrev pub is_at_most_one : {X : Type 0} → List X → Bool
is_at_most_one [] = true
is_at_most_one (x ∷ []) = true
is_at_most_one (x ∷ y ∷ xs) = false

-- the shown versions of the object agree, no two last hidings of a hidden object crossed, and no
-- operation changed what is hidden
abbrev pub is_clean : ObjectStatus → Bool
is_clean s = is_none s.differences.items && is_at_most_one s.hidings && is_none s.changed

-- nothing waits, each object is clean, and no more versions are shown than a drawing has
abbrev pub are_clean : List Op → List ObjectStatus → Bool
are_clean waiting ss = is_none waiting && list_all is_clean ss && nat_le (shown_in ss) MOST_VERSIONS

-- whether something waits or is open
abbrev pub state_of : List Op → List ObjectStatus → State
state_of waiting ss = cond (are_clean waiting ss) Clean Open
