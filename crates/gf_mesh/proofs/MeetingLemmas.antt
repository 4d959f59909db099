-- Sites meet one after the other, and each gets all before it as peers.
use Rattle.std.proofs.Common.{◌≡◌, ℕ, suc, ◌+◌, ◌*◌, ◌<◌, ◌≤◌, List, [], ◌∷◌, ◌++◌, length}
use Rattle.std.proofs.Common.{length-append, set, inl, inr, refl, sym, ap, subst, ◌∙◌, arith}
use Rattle.std.specs.Prelude.{Some, slice_get}
use Rattle.std.proofs.lemmas.List.{length-set}
use Rattle.std.proofs.lemmas.Option.{slice_get_within}
use Rattle.atomic_table.specs.Seated.{TableId}
use Rattle.gf_base.proofs.PositionLemmas.{got_set, got_push, position_of}
use Rattle.gf_worker.specs.declared.peer.Peer.{Peer}
use Rattle.gf_worker.specs.Peers.{IsFresh, seat_of}
use Rattle.gf_mesh.specs.Linked.{links_of, AreLinked, EachPeer, IsSeatAt}
use Rattle.gf_mesh.specs.Meeting.{Connects}
use Rattle.gf_mesh.proofs.PlaceLemmas.{stands_more, got_pair}

-- n sites have met each other, and one behind them has met the first m of them
pub record AreMeeting (n m : ℕ) (links : List TableId) (rows : List (List Peer))
    (row : List Peer) : Type 0 where
  pub sites : length rows ≡ n
  pub some : length row ≡ m
  pub few : m ≤ n
  pub count : length links ≡ links_of n + 2 * m
  pub met : (i : ℕ) (xs : List Peer) → slice_get rows i ≡ Some xs → i < m → length xs ≡ n
  pub unmet : (i : ℕ) (xs : List Peer) → slice_get rows i ≡ Some xs → m ≤ i
      → length xs + 1 ≡ n
  pub each : (i k : ℕ) (xs : List Peer) (p : Peer) → slice_get rows i ≡ Some xs
      → slice_get xs k ≡ Some p → IsSeatAt links i k (seat_of p) × IsFresh p
  pub last : (k : ℕ) (p : Peer) → slice_get row k ≡ Some p
      → IsSeatAt links n k (seat_of p) × IsFresh p

-- the newest site has met all others
pub all_met : (n : ℕ) (links : List TableId) (rows : List (List Peer)) (row : List Peer)
    → AreMeeting n n links rows row → AreMeeting (suc n) 0 links (rows ++ row ∷ []) []
all_met n links rows row s =
    let sites = s.sites in
    let some = s.some in
    let count = s.count in
    let long = length-append rows (row ∷ []) in
    record {
      sites = omega (arith, long, sites);
      some = refl;
      few = omega arith;
      count = omega (arith, count);
      met = λ i xs a l. absurd (omega (arith, l));
      unmet = λ i xs a l. elim (got_push rows row i xs a) [
        | inl b ↦ let h = slice_get_within rows i xs b in
            let m = s.met i xs b (omega (arith, h, sites)) in omega (arith, m)
        | inr b ↦ let h = ap length b.1 in omega (arith, h, some)
      ];
      each = λ i k xs p a b. elim (got_push rows row i xs a) [
        | inl c ↦ s.each i k xs p c b
        | inr c ↦ subst (λ j. IsSeatAt links j k (seat_of p) × IsFresh p) (sym (c.0 ∙ s.sites))
            (s.last k p (subst (λ l. slice_get l k ≡ Some p) c.1 b))
      ];
      last = λ k p a. absurd cc;
    }

pub new_linked : (n : ℕ) (links : List TableId) (rows : List (List Peer))
    → AreMeeting n 0 links rows [] → AreLinked links rows × EachPeer IsFresh rows
new_linked n links rows s = (
  record {
    count = s.count ∙ omega arith ∙ ap links_of (sym s.sites);
    long = λ i xs a. s.unmet i xs a (omega arith) ∙ sym s.sites;
    each = λ i k xs p a b. (s.each i k xs p a b).0;
  },
  λ xs c p d.
      let i = position_of rows xs c in
      let k = position_of xs p d in (s.each i.0 k.0 xs p i.1 k.1).1,
)

-- ---- two sites meet

module _ (n m : ℕ) (links more : List TableId) (rows : List (List Peer)) (row xs : List Peer)
    (x y : Peer) (s : AreMeeting n m links rows row) (at : slice_get rows m ≡ Some xs)
    (c : Connects links more x y) where
  early : m < n
  early = let l = slice_get_within rows m xs at in let e = s.sites in omega (arith, l, e)

  still : (i k : ℕ) (p : Peer) → IsSeatAt links i k (seat_of p) → IsSeatAt more i k (seat_of p)
  still i k p t = subst (λ l. IsSeatAt l i k (seat_of p)) (sym c.table_is)
      (stands_more (links ++ c.there ∷ []) (c.back ∷ []) i k (seat_of p)
      (stands_more links (c.there ∷ []) i k (seat_of p) t))

  pair : (slice_get more (length links) ≡ Some c.there)
      × (slice_get more (length links + 1) ≡ Some c.back)
  pair = subst (λ l. (slice_get l (length links) ≡ Some c.there)
      × (slice_get l (length links + 1) ≡ Some c.back)) (sym c.table_is)
      (got_pair links c.there c.back (length links) refl)

  new_x : IsFresh x
  new_x = subst IsFresh (sym c.theirs) (record { sent = refl; taken = refl })

  new_y : IsFresh y
  new_y = subst IsFresh (sym c.mine) (record { sent = refl; taken = refl })

  theirs : (k : ℕ) → k + 1 ≡ n → IsSeatAt more m k (seat_of x)
  theirs k e =
      let q : suc k ≡ n = omega (arith, e) in
      let u : links_of (suc k) ≡ links_of n = ap links_of q in
      let count = s.count in
      subst (λ p. IsSeatAt more m k (seat_of p)) (sym c.theirs) (record {
        earlier = λ l. absurd (omega (arith, l, e, early));
        later = λ l. record {
          later = λ o. (omega (arith, count, u), refl);
          earlier = λ o. absurd (omega (arith, l, o));
        };
        to = pair.0;
        from = pair.1;
      })

  mine : IsSeatAt more n m (seat_of y)
  mine = subst (λ p. IsSeatAt more n m (seat_of p)) (sym c.mine) (record {
    earlier = λ l. record {
      later = λ o. absurd (omega (arith, l, o));
      earlier = λ o. (s.count, refl);
    };
    later = λ l. absurd (omega (arith, l, early));
    to = pair.1;
    from = pair.0;
  })

  pub met_more : AreMeeting n (m + 1) more (set rows m (xs ++ x ∷ [])) (row ++ y ∷ [])
  met_more = record {
    sites = length-set rows m (xs ++ x ∷ []) ∙ s.sites;
    some = length-append row (y ∷ []) ∙ ap (λ j. j + 1) s.some;
    few = omega (arith, early);
    count = let count = s.count in ap length c.table_is
        ∙ length-append (links ++ c.there ∷ []) (c.back ∷ [])
        ∙ ap (λ j. j + 1) (length-append links (c.there ∷ [])) ∙ omega (arith, count);
    met = λ i us e l. elim (got_set rows m i (xs ++ x ∷ []) us e) [
      | inl a ↦
          let u = s.unmet m xs at (omega arith) in
          let g : length us ≡ length xs + 1 = ap length a.1 ∙ length-append xs (x ∷ []) in
          omega (arith, u, g)
      | inr a ↦ s.met i us a.1 (let d = a.0 in omega (arith, l, d))
    ];
    unmet = λ i us e l. elim (got_set rows m i (xs ++ x ∷ []) us e) [
      | inl a ↦ let d = a.0 in absurd (omega (arith, l, d))
      | inr a ↦ s.unmet i us a.1 (omega (arith, l))
    ];
    each = λ i k us p e f. elim (got_set rows m i (xs ++ x ∷ []) us e) [
      | inl a ↦ elim (got_push xs x k p (subst (λ l. slice_get l k ≡ Some p) a.1 f)) [
        | inl b ↦ let t = s.each m k xs p at b in
            subst (λ j. IsSeatAt more j k (seat_of p) × IsFresh p) (sym a.0) (still m k p t.0, t.1)
        | inr b ↦
            let u = s.unmet m xs at (omega arith) in
            let w = b.0 in
            subst (λ (z : ℕ × Peer). IsSeatAt more z.0 k (seat_of z.1) × IsFresh z.1)
            (λ r. (sym a.0 r, sym b.1 r)) (theirs k (omega (arith, u, w)), new_x)
      ]
      | inr a ↦ let t = s.each i k us p a.1 f in (still i k p t.0, t.1)
    ];
    last = λ k p e. elim (got_push row y k p e) [
      | inl b ↦ let t = s.last k p b in (still n k p t.0, t.1)
      | inr b ↦ subst (λ (z : ℕ × Peer). IsSeatAt more n z.0 (seat_of z.1) × IsFresh z.1)
          (λ r. (sym (b.0 ∙ s.some) r, sym b.1 r)) (mine, new_y)
    ];
  }
