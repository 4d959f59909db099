-- The links between sites are settled, those of the last two sites first.
use Rattle.std.proofs.Common.{◌≡◌, ℕ, zero, suc, ◌+◌, ◌*◌, ◌<◌, ◌≤◌, List, [], ◌∷◌, ◌++◌, length}
use Rattle.std.proofs.Common.{length-append, set, inl, inr, refl, sym, ap, subst, ◌∙◌, arith}
use Rattle.std.specs.Prelude.{◌⊎◌, IsTrue, Some, slice_get}
use Rattle.std.proofs.lemmas.Bool.{cases_eq, cases_lt}
use Rattle.std.proofs.lemmas.List.{length-set}
use Rattle.std.proofs.lemmas.Option.{slice_get_within}
use Rattle.atomic_table.specs.Seated.{TableId}
use Rattle.gf_base.proofs.PositionLemmas.{got_set, got_more, got_last, one_value, position_in}
use Rattle.gf_base.proofs.PositionLemmas.{position_of, there_is}
use Rattle.gf_link.specs.Ends.{is_ended}
use Rattle.gf_worker.specs.declared.peer.Peer.{Peer}
use Rattle.gf_worker.specs.Peers.{seat_of}
use Rattle.gf_mesh.specs.Linked.{links_of, AreLinked, HaveEnded, IsSeat, IsSeatAt}
use Rattle.gf_mesh.specs.Meeting.{AreEnds, HaveExchanged}
use Rattle.gf_mesh.specs.Settled.{AreAllTaken, TookAll, TookOne}
use Rattle.gf_mesh.proofs.PlaceLemmas.{got_pair, last_of}

-- all is what there was before anything was settled
module _ (table : List TableId) (all : List (List Peer)) where
  -- p was peer k of the site i
  pub record Was (i k : ℕ) (p : Peer) : Type 0 where
    pub row : List Peer
    pub there : slice_get all i ≡ Some row
    pub at : slice_get row k ≡ Some p

  one_peer : (i k : ℕ) (p q : Peer) → Was i k p → Was i k q → p ≡ q
  one_peer i k p q a b = one_value b.row k p q
      (subst (λ r. slice_get r k ≡ Some p) (one_value all i a.row b.row a.there b.there) a.at) b.at

  -- the sites before n have not parted, and the site n has only the first m of them left. All other
  -- links are settled
  pub record AreLeft (n m : ℕ) (links : List TableId) (rows : List (List Peer))
      (row : List Peer) : Type 0 where
    pub sites : length rows ≡ n
    pub some : length row ≡ m
    pub few : m ≤ n
    pub count : length links ≡ links_of n + 2 * m
    pub within : (k : ℕ) (a : TableId) → slice_get links k ≡ Some a → slice_get table k ≡ Some a
    pub met : (i : ℕ) (xs : List Peer) → slice_get rows i ≡ Some xs → i < m → length xs ≡ n
    pub parted : (i : ℕ) (xs : List Peer) → slice_get rows i ≡ Some xs → m ≤ i
        → length xs + 1 ≡ n
    pub each : (i k : ℕ) (xs : List Peer) (p : Peer) → slice_get rows i ≡ Some xs
        → slice_get xs k ≡ Some p → Was i k p
    pub last : (k : ℕ) (p : Peer) → slice_get row k ≡ Some p → Was n k p
    pub done : (j k : ℕ) (x y : Peer) → j ≤ k → (n < suc k) ⊎ ((suc k ≡ n) × (m ≤ j))
        → Was j k x → Was (suc k) j y → HaveExchanged x y

  pub all_left : AreLinked table all → AreLeft (length all) 0 table all []
  all_left s = record {
    sites = refl;
    some = refl;
    few = omega arith;
    count = s.count ∙ omega arith;
    within = λ k a e. e;
    met = λ i xs a l. absurd (omega (arith, l));
    parted = λ i xs a l. s.long i xs a;
    each = λ i k xs p a b. record { row = xs; there = a; at = b };
    last = λ k p a. absurd cc;
    done = λ j k x y l o a b.
        let h = slice_get_within all (suc k) b.row b.there in
        elim o [ inl q ↦ absurd (omega (arith, h, q)) | inr q ↦ absurd (omega (arith, h, q.0)) ];
  }

  -- the next site is the last one of those that are left
  pub row_left : (n : ℕ) (links : List TableId) (rows : List (List Peer)) (row : List Peer)
      → AreLeft n 0 links (rows ++ row ∷ []) []
      → AreLeft (length rows) (length row) links rows row
  row_left n links rows row s =
      let e : n ≡ length rows + 1 = sym s.sites ∙ length-append rows (row ∷ []) in
      let q : n ≡ suc (length rows) = omega (arith, e) in
      let f : length row + 1 ≡ n = s.parted (length rows) row (got_last rows row) (omega arith) in
      let c : links_of n ≡ links_of (suc (length rows)) = ap links_of q in
      let h = s.count in
      record {
        sites = refl;
        some = refl;
        few = omega (arith, e, f);
        count = omega (arith, h, c, e, f);
        within = s.within;
        met = λ i xs a l. let g = s.parted i xs (got_more rows (row ∷ []) i xs a) (omega arith) in
            omega (arith, g, e);
        parted = λ i xs a l. let g = slice_get_within rows i xs a in
            absurd (omega (arith, g, l, e, f));
        each = λ i k xs p a b. s.each i k xs p (got_more rows (row ∷ []) i xs a) b;
        last = λ k p a. s.each (length rows) k row p (got_last rows row) a;
        done = λ j k x y l o a b. elim o [
          | inl d ↦ elim (cases_eq (suc k) n) [
            | inl g ↦ s.done j k x y l (inr (g, omega arith)) a b
            | inr g ↦ s.done j k x y l (inl (omega (arith, d, g, e))) a b
          ]
          | inr d ↦ absurd (omega (arith, d.0, d.1, l, e, f))
        ];
      }

  -- ---- two sites part

  module _ (linked : AreLinked table all) (ended : HaveEnded all) (n m : ℕ)
      (front half links : List TableId) (there back : TableId) (rows : List (List Peer))
      (row whole ws : List Peer) (x y : Peer) (s : AreLeft n (m + 1) links rows whole)
      (at : slice_get rows m ≡ Some (ws ++ x ∷ [])) (is : whole ≡ row ++ y ∷ [])
      (last : links ≡ half ++ back ∷ []) (first : half ≡ front ++ there ∷ []) where
    full : suc (length ws) ≡ n
    full = let l = s.met m (ws ++ x ∷ []) at (omega arith) in
        let a = length-append ws (x ∷ []) in omega (arith, l, a)

    left : length row ≡ m
    left = let a : length whole ≡ length row + 1 = ap length is ∙ length-append row (y ∷ []) in
        let b = s.some in omega (arith, a, b)

    was_x : Was m (length ws) x
    was_x = s.each m (length ws) (ws ++ x ∷ []) x at (got_last ws x)

    was_y : Was n m y
    was_y = s.last m y (last_of whole row y m is left)

    seat_x : IsSeatAt table m (length ws) (seat_of x)
    seat_x = linked.each m (length ws) was_x.row x was_x.there was_x.at

    seat_y : IsSeatAt table n m (seat_of y)
    seat_y = linked.each n m was_y.row y was_y.there was_y.at

    few_left : length front ≡ links_of n + 2 * m
    few_left =
        let a : length links ≡ length half + 1 = ap length last ∙ length-append half (back ∷ []) in
        let b : length half ≡ length front + 1 = ap length first
        ∙ length-append front (there ∷ []) in
        let c = s.count in omega (arith, a, b, c)

    ends : links ≡ (front ++ there ∷ []) ++ back ∷ []
    ends = last ∙ ap (λ l. l ++ back ∷ []) first

    pair : (slice_get table (links_of n + 2 * m) ≡ Some there)
        × (slice_get table (links_of n + 2 * m + 1) ≡ Some back)
    pair =
        let p = subst (λ l. (slice_get l (links_of n + 2 * m) ≡ Some there)
        × (slice_get l (links_of n + 2 * m + 1) ≡ Some back)) (sym ends)
        (got_pair front there back (links_of n + 2 * m) few_left) in (
          s.within (links_of n + 2 * m) there p.0,
          s.within (links_of n + 2 * m + 1) back p.1,
        )

    one_link : (i j : ℕ) (a b : TableId) → slice_get table i ≡ Some a → slice_get table j ≡ Some b
        → i ≡ j → a ≡ b
    one_link i j a b e f q = one_value table j a b (subst (λ k. slice_get table k ≡ Some a) q e) f

    x_at : (x.out ≡ links_of n + 2 * m) × (x.into ≡ links_of n + 2 * m + 1)
    x_at =
        let few = s.few in
        let p : IsSeat m n (seat_of x) = subst (λ j. IsSeat m j (seat_of x)) full
        (seat_x.later (omega (arith, full, few))) in
        let q = p.later (omega (arith, few)) in (q.0, q.1 ∙ ap (λ j. j + 1) q.0)

    y_at : (y.into ≡ links_of n + 2 * m) × (y.out ≡ links_of n + 2 * m + 1)
    y_at =
        let few = s.few in
        let q = (seat_y.earlier (omega (arith, few))).earlier (omega (arith, few)) in
        (q.0, q.1 ∙ ap (λ j. j + 1) q.0)

    has_ended : (i k : ℕ) (p : Peer) → Was i k p → IsTrue (is_ended p.take.taken)
    has_ended i k p w = ended w.row (position_in all i w.row w.there) p
        (position_in w.row k p w.at)

    pub are_ends : AreEnds there back x y
    are_ends = record {
      there = (
        one_link x.out (links_of n + 2 * m) x.send.link there seat_x.to pair.0 x_at.0,
        one_link y.into (links_of n + 2 * m) y.take.link there seat_y.from pair.0 y_at.0,
      );
      back = (
        one_link y.out (links_of n + 2 * m + 1) y.send.link back seat_y.to pair.1 y_at.1,
        one_link x.into (links_of n + 2 * m + 1) x.take.link back seat_x.from pair.1 x_at.1,
      );
      ended = (has_ended m (length ws) x was_x, has_ended n m y was_y);
    }

    pub less_left : HaveExchanged x y → AreLeft n m front (set rows m ws) row
    less_left h = record {
      sites = length-set rows m ws ∙ s.sites;
      some = left;
      few = let few = s.few in omega (arith, few);
      count = few_left;
      within = λ k a e. s.within k a (subst (λ l. slice_get l k ≡ Some a) (sym ends)
          (got_more (front ++ there ∷ []) (back ∷ []) k a (got_more front (there ∷ []) k a e)));
      met = λ i us e l. elim (got_set rows m i ws us e) [
        | inl a ↦ let d = a.0 in absurd (omega (arith, l, d))
        | inr a ↦ s.met i us a.1 (omega (arith, l))
      ];
      parted = λ i us e l. elim (got_set rows m i ws us e) [
        | inl a ↦ let c = ap length a.1 in omega (arith, c, full)
        | inr a ↦ let d = a.0 in s.parted i us a.1 (omega (arith, l, d))
      ];
      each = λ i k us p e f. elim (got_set rows m i ws us e) [
        | inl a ↦ subst (λ j. Was j k p) (sym a.0) (s.each m k (ws ++ x ∷ []) p at
            (got_more ws (x ∷ []) k p (subst (λ l. slice_get l k ≡ Some p) a.1 f)))
        | inr a ↦ s.each i k us p a.1 f
      ];
      last = λ k p e. s.last k p (subst (λ l. slice_get l k ≡ Some p) (sym is)
          (got_more row (y ∷ []) k p e));
      done = λ j k u v l o a b. elim o [
        | inl d ↦ s.done j k u v l (inl d) a b
        | inr d ↦ elim (cases_eq j m) [
          | inr e ↦ s.done j k u v l (inr (d.0, let f = d.1 in omega (arith, e, f))) a b
          | inl e ↦
              let q : k ≡ length ws = let f = d.0 in omega (arith, f, full) in
              let i = one_peer m (length ws) u x (subst (λ (w : ℕ × ℕ). Was w.0 w.1 u)
              (λ r. (e r, q r)) a) was_x in
              let g = one_peer n m v y (subst (λ (w : ℕ × ℕ). Was w.0 w.1 v)
              (λ r. (d.0 r, e r)) b) was_y in
              subst (λ (w : Peer × Peer). HaveExchanged w.0 w.1) (λ r. (sym i r, sym g r)) h
        ]
      ];
    }

  -- ---- nothing is left

  module _ (linked : AreLinked table all) (links : List TableId) (s : AreLeft 0 0 links [] []) where
    -- what the sites j and k + 1 have each other as
    record Pair (j k : ℕ) (xs ys : List Peer) : Type 0 where
      one : Peer
      two : Peer
      at_one : slice_get xs k ≡ Some one
      at_two : slice_get ys j ≡ Some two
      done : HaveExchanged one two

    pair_of : (j k : ℕ) (xs ys : List Peer) → j ≤ k → slice_get all j ≡ Some xs
        → slice_get all (suc k) ≡ Some ys → Pair j k xs ys
    pair_of j k xs ys l a b =
        let e = linked.long j xs a in
        let f = linked.long (suc k) ys b in
        let g = slice_get_within all (suc k) ys b in
        let x = there_is xs k (omega (arith, e, g)) in
        let y = there_is ys j (omega (arith, l, f, g)) in record {
          one = x.0;
          two = y.0;
          at_one = x.1;
          at_two = y.1;
          done = s.done j k x.0 y.0 l (inl (omega arith)) (record { row = xs; there = a; at = x.1 })
              (record { row = ys; there = b; at = y.1 });
        }

    took_all : (i j : ℕ) (xs ys : List Peer) → i < j → slice_get all i ≡ Some xs
        → slice_get all j ≡ Some ys → TookAll xs ys × TookAll ys xs
    took_all i zero xs ys l a b = absurd (omega (arith, l))
    took_all i (suc k) xs ys l a b =
        let p = pair_of i k xs ys (omega (arith, l)) a b in
        let c = position_in xs k p.one p.at_one in
        let d = position_in ys i p.two p.at_two in (
          record { taker = p.one; sender = p.two; took = c; sent = d; all = p.done.back },
          record { taker = p.two; sender = p.one; took = d; sent = c; all = p.done.there },
        )

    took_earlier : (i k : ℕ) (xs : List Peer) (x : Peer) → k < i → slice_get all i ≡ Some xs
        → slice_get xs k ≡ Some x → TookOne all i x
    took_earlier zero k xs x l a b = absurd (omega (arith, l))
    took_earlier (suc i) k xs x l a b =
        let h = slice_get_within all (suc i) xs a in
        let r = there_is all k (omega (arith, l, h)) in
        let p = pair_of k i r.0 xs (omega (arith, l)) r.1 a in record {
          index = k;
          row = r.0;
          sender = p.one;
          apart = omega (arith, l);
          at = r.1;
          sent = position_in r.0 i p.one p.at_one;
          all = ap (λ (q : Peer). q.take.taken) (one_value xs k x p.two b p.at_two) ∙ p.done.there;
        }

    took_later : (i k : ℕ) (xs : List Peer) (x : Peer) → i ≤ k → slice_get all i ≡ Some xs
        → slice_get xs k ≡ Some x → TookOne all i x
    took_later i k xs x l a b =
        let h = slice_get_within xs k x b in
        let e = linked.long i xs a in
        let r = there_is all (suc k) (omega (arith, h, e)) in
        let p = pair_of i k xs r.0 l a r.1 in record {
          index = suc k;
          row = r.0;
          sender = p.two;
          apart = omega (arith, l);
          at = r.1;
          sent = position_in r.0 i p.two p.at_two;
          all = ap (λ (q : Peer). q.take.taken) (one_value xs k x p.one b p.at_one) ∙ p.done.back;
        }

    pub all_taken : AreAllTaken all
    all_taken = record {
      each = λ i j xs ys d a b. elim (cases_lt i j) [
        | inl l ↦ (took_all i j xs ys l a b).0
        | inr l ↦ (took_all j i ys xs (omega (arith, l, d)) b a).1
      ];
      only = λ i xs x a c.
          let k = position_of xs x c in
          elim (cases_lt k.0 i) [
            | inl l ↦ took_earlier i k.0 xs x l a k.1
            | inr l ↦ took_later i k.0 xs x l a k.1
          ];
    }
