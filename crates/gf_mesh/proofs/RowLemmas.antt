-- One step of joining sites and of settling their links, over vectors of rows.
use Rattle.std.proofs.Common.{◌≡◌, ℕ, ◌+◌, ◌<◌, ◌≤◌, List, [], ◌∷◌, ◌++◌, length, length-append, get_or}
use Rattle.std.proofs.Common.{set, take, drop, suc, vec_len, refl, sym, ap, subst, ◌∙◌, arith}
use Rattle.std.specs.Prelude.{Some, option_map, slice_get}
use Rattle.std.specs.Global.{Vec}
use Rattle.std.proofs.lemmas.List.{length-map, length-set, map-append, map-set}
use Rattle.std.proofs.lemmas.List.{nil_from_length, with_items_is}
use Rattle.std.proofs.lemmas.Option.{slice_get_read, slice_get-map}
use Rattle.atomic_table.specs.Seated.{TableId}
use Rattle.gf_worker.specs.declared.peer.Peer.{Peer}
use Rattle.gf_mesh.specs.Linked.{AreLinked, HaveEnded, rows_of}
use Rattle.gf_mesh.specs.Meeting.{AreEnds, Connects, HaveExchanged}
use Rattle.gf_mesh.specs.Settled.{AreAllTaken}
use Rattle.gf_mesh.proofs.MeetingLemmas.{AreMeeting, all_met, met_more}
use Rattle.gf_mesh.proofs.SettlingLemmas.{AreLeft, all_left, all_taken, are_ends, less_left}
use Rattle.gf_mesh.proofs.SettlingLemmas.{row_left}

pub row_at : (rows : List (Vec Peer)) (k : ℕ) (v : Vec Peer) → k < length rows → v ≡ get_or rows k v
    → slice_get (rows_of rows) k ≡ Some v.items
row_at rows k v l e = slice_get-map (λ (w : Vec Peer). w.items) rows k
    ∙ ap (λ o. option_map (λ (w : Vec Peer). w.items) o)
    (slice_get_read rows (length rows) k v refl l e)

pub joined_more : (n k : ℕ) (links more : List TableId) (rows : List (Vec Peer))
    (row new : List Peer) (v w : Vec Peer) (theirs mine : Peer)
    → AreMeeting n k links (rows_of rows) row
    → k < length rows → v ≡ get_or rows k v → w.items ≡ (get_or rows k v).items ++ theirs ∷ []
    → new ≡ row ++ mine ∷ [] → Connects links more theirs mine
    → AreMeeting n (k + 1) more (rows_of (set rows k w)) new
joined_more n k links more rows row new v w theirs mine s l e f g c =
    let h = met_more n k links more (rows_of rows) row v.items theirs mine s (row_at rows k v l e) c
    in
    let whole : set (rows_of rows) k (v.items ++ theirs ∷ []) ≡ rows_of
    (set rows k w) = ap (λ r. set (rows_of rows) k r)
    (sym (f ∙ ap (λ (u : Vec Peer). u.items ++ theirs ∷ []) (sym e)))
    ∙ sym (map-set (λ (u : Vec Peer). u.items) rows k w) in
    subst (λ (u : List (List Peer) × List Peer). AreMeeting n (k + 1) more u.0 u.1)
    (λ i. (whole i, sym g i)) h

pub one_joined : (n k : ℕ) (links : List TableId) (old new : Vec (Vec Peer))
    (rows : List (Vec Peer)) (row : Vec Peer) → AreMeeting n k links (rows_of rows) row.items
    → n ≤ k → length rows ≡ length old.items
    → new.items ≡ take old.len (rows ++ drop (length rows) old.items) ++ row ∷ []
    → AreMeeting (n + 1) 0 links (rows_of new.items) []
one_joined n k links old new rows row s l e g =
    let few = s.few in
    let q : k ≡ n = omega (arith, few, l) in
    let is : new.items ≡ rows ++ row ∷ [] = g
    ∙ ap (λ u. u ++ row ∷ []) (with_items_is old rows (e ∙ sym old.ok.0)) in
    let whole : rows_of rows ++ row.items ∷ [] ≡ rows_of new.items = sym (ap rows_of is
    ∙ map-append (λ (u : Vec Peer). u.items) rows (row ∷ [])) in
    let more : suc n ≡ n + 1 = omega arith in
    subst (λ (u : ℕ × List (List Peer)). AreMeeting u.0 0 links u.1 [])
    (λ i. (more i, whole i)) (all_met n links (rows_of rows) row.items
    (subst (λ m. AreMeeting n m links (rows_of rows) row.items) q s))

-- ---- settling

rows_long : (rows : List (Vec Peer)) → length (rows_of rows) ≡ length rows
rows_long rows = length-map rows (λ (w : Vec Peer). w.items)

pub settle_begun : (table links : List TableId) (rows : List (Vec Peer)) → links ≡ table
    → AreLinked table (rows_of rows)
    → AreLeft table (rows_of rows) (length rows) 0 links (rows_of rows) []
settle_begun table links rows e s =
    subst (λ (u : ℕ × List TableId). AreLeft table (rows_of rows) u.0 0 u.1 (rows_of rows) [])
    (λ i. (rows_long rows i, sym e i)) (all_left table (rows_of rows) s)

pub row_begun : (table : List TableId) (all : List (List Peer)) (n : ℕ) (links : List TableId)
    (rows new : List (Vec Peer)) (row : Vec Peer) → rows ≡ new ++ row ∷ []
    → AreLeft table all n 0 links (rows_of rows) []
    → AreLeft table all (length new) (length row.items) links (rows_of new) row.items
row_begun table all n links rows new row e s =
    subst (λ k. AreLeft table all k (length row.items) links (rows_of new) row.items)
    (rows_long new)
    (row_left table all n links (rows_of new) row.items
    (subst (λ u. AreLeft table all n 0 links u [])
    (ap rows_of e ∙ map-append (λ (u : Vec Peer). u.items) new (row ∷ [])) s))

pub row_done : (table : List TableId) (all : List (List Peer)) (n : ℕ) (links : List TableId)
    (rows : List (List Peer)) (row : Vec Peer) → vec_len row ≡ 0
    → AreLeft table all n (length row.items) links rows row.items
    → AreLeft table all n 0 links rows []
row_done table all n links rows row e s = subst (λ r. AreLeft table all n (length r) links rows r)
    (nil_from_length row.items (sym row.ok.0 ∙ e)) s

pub settle_done : (table : List TableId) (all : List (List Peer)) (links : List TableId)
    (rows : Vec (Vec Peer)) → AreLinked table all → vec_len rows ≡ 0
    → AreLeft table all (length rows.items) 0 links (rows_of rows.items) [] → AreAllTaken all
settle_done table all links rows t e s = all_taken table all t links
    (subst (λ r. AreLeft table all (length r) 0 links (rows_of r) [])
    (nil_from_length rows.items (sym rows.ok.0 ∙ e)) s)

-- the last peer of a row is taken out, and v is the row of the other site
module _ (table : List TableId) (all : List (List Peer)) (links : List TableId)
    (rows : List (Vec Peer)) (row before : List Peer) (mine : Peer) (k : ℕ) (v : Vec Peer)
    (s : AreLeft table all (length rows) (length row) links (rows_of rows) row)
    (is : row ≡ before ++ mine ∷ []) (e : k ≡ length before) (q : v ≡ get_or rows k v) where
  more : length row ≡ k + 1
  more = ap length is ∙ length-append before (mine ∷ []) ∙ ap (λ j. j + 1) (sym e)

  left : AreLeft table all (length rows) (k + 1) links (rows_of rows) row
  left = subst (λ m. AreLeft table all (length rows) m links (rows_of rows) row) more s

  at_v : slice_get (rows_of rows) k ≡ Some v.items
  at_v = row_at rows k v (let f = s.few in omega (arith, f, more)) q

  pub not_empty : vec_len v ≡ 0 → ⊥
  not_empty z =
      let l = v.ok.0 in
      let a = left.met k v.items at_v (omega arith) in
      let f = left.few in absurd (omega (arith, z, l, a, f))

  module _ (linked : AreLinked table all) (ended : HaveEnded all) (w : Vec Peer) (theirs : Peer)
      (front half : List TableId) (there back : TableId) (popped : v.items ≡ w.items ++ theirs ∷ [])
      (last : links ≡ half ++ back ∷ []) (first : half ≡ front ++ there ∷ []) where
    pub pair_ends : AreEnds there back theirs mine
    pair_ends = are_ends table all linked ended (length rows) k front half links there back
        (rows_of rows) before row w.items theirs mine left (at_v ∙ ap Some popped) is last first

    pub pair_settled : HaveExchanged theirs mine
        → AreLeft table all (length (set rows k w)) (length before) front (rows_of (set rows k w))
        before
    pair_settled h = subst (λ (u : ℕ × ℕ × List (List Peer)). AreLeft table all u.0 u.1 front u.2
        before)
        (λ i. (
          sym (length-set rows k w) i,
          e i,
          sym (map-set (λ (u : Vec Peer). u.items) rows k w) i,
        ))
        (less_left table all linked ended (length rows) k front half links there back (rows_of rows)
        before row w.items theirs mine left (at_v ∙ ap Some popped) is last first h)
