-- One peer of several takes a message.
use Rattle.std.proofs.Common.{◌≡◌, ℕ, zero, suc, ◌<◌, false, List, [], ◌∷◌, ◌++◌, map, length}
use Rattle.std.proofs.Common.{get_or, set, inl, inr, refl, sym, ap, subst, ◌∙◌, arith}
use Rattle.std.specs.Prelude.{◌⊎◌, Contains}
use Rattle.std.proofs.lemmas.List.Elements.{Contains-append_left, Contains-append_right}
use Rattle.std.proofs.lemmas.List.Elements.{Contains-append_cases}
use Rattle.std.proofs.lemmas.List.Folds.{list_all_at}
use Rattle.std.proofs.lemmas.List.Concat.{flat_map-append}
use Rattle.atomic_table.specs.Seated.{TableId}
use Rattle.gf_ops.specs.declared.op.Op.{Op}
use Rattle.gf_base.proofs.ListLemmas.{not_Contains-nil, Contains-cons_cases, Contains-cons_head}
use Rattle.gf_base.proofs.ListLemmas.{Contains-cons_tail}
use Rattle.gf_link.specs.declared.message.Message.{Message}
use Rattle.gf_link.specs.Ends.{is_ended}
use Rattle.gf_worker.specs.declared.peer.Peer.{Peer}
use Rattle.gf_worker.specs.Messages.{op_in, ops_of}
use Rattle.gf_worker.specs.Peers.{all_ended, StandsInTable, ArePlaced, seat_of}
use Rattle.gf_worker.specs.Coming.{HasCome}

-- an element of a list with one written over
pub set_cases : {X : Type 0} (xs : List X) (k : ℕ) (y x : X) → Contains (set xs k y) x
    → Contains xs x ⊎ (x ≡ y)
set_cases [] k y x c = absurd (not_Contains-nil x c)
set_cases (z ∷ xs) zero y x c = elim (Contains-cons_cases y xs x c) [
  | inl e ↦ inr e
  | inr m ↦ inl (Contains-cons_tail z xs x m)
]
set_cases (z ∷ xs) (suc k) y x c = elim (Contains-cons_cases z (set xs k y) x c) [
  | inl e ↦ inl (subst (Contains (z ∷ xs)) (sym e) (Contains-cons_head z xs))
  | inr m ↦ elim (set_cases xs k y x m) [
    | inl n ↦ inl (Contains-cons_tail z xs x n)
    | inr e ↦ inr e
  ]
]

-- each other element is still there, and so is what was written
pub set_stays : {X : Type 0} (xs : List X) (k : ℕ) (d y x : X) → k < length xs → get_or xs k d ≡ d
    → Contains xs x → (x ≡ d) ⊎ Contains (set xs k y) x
set_stays [] k d y x l e c = absurd (not_Contains-nil x c)
set_stays (z ∷ xs) zero d y x l e c = elim (Contains-cons_cases z xs x c) [
  | inl q ↦ inl (q ∙ e)
  | inr m ↦ inr (Contains-cons_tail y xs x m)
]
set_stays (z ∷ xs) (suc k) d y x l e c = elim (Contains-cons_cases z xs x c) [
  | inl q ↦ inr (subst (Contains (z ∷ set xs k y)) (sym q) (Contains-cons_head z (set xs k y)))
  | inr m ↦ elim (set_stays xs k d y x (omega arith) e m) [
    | inl q ↦ inl q
    | inr n ↦ inr (Contains-cons_tail z (set xs k y) x n)
  ]
]

pub set_there : {X : Type 0} (xs : List X) (k : ℕ) (y : X) → k < length xs → Contains (set xs k y) y
set_there [] k y l = absurd (omega arith)
set_there (z ∷ xs) zero y l = Contains-cons_head y xs
set_there (z ∷ xs) (suc k) y l = Contains-cons_tail z (set xs k y) y
    (set_there xs k y (omega arith))

pub map_set_same : {X Y : Type 0} (f : X → Y) (xs : List X) (k : ℕ) (d y : X) → get_or xs k d ≡ d
    → f y ≡ f d → map f (set xs k y) ≡ map f xs
map_set_same f [] k d y e q = refl
map_set_same f (z ∷ xs) zero d y e q = ap (λ w. w ∷ map f xs) (q ∙ ap f (sym e))
map_set_same f (z ∷ xs) (suc k) d y e q = ap (λ ws. f z ∷ ws) (map_set_same f xs k d y e q)

pub set_itself : {X : Type 0} (xs : List X) (k : ℕ) (d : X) → get_or xs k d ≡ d → set xs k d ≡ xs
set_itself [] k d e = refl
set_itself (z ∷ xs) zero d e = ap (λ w. w ∷ xs) (sym e)
set_itself (z ∷ xs) (suc k) d e = ap (λ ws. z ∷ ws) (set_itself xs k d e)

-- what some operations that came change
pub record ComesMore (old new : List Peer) (come : List Op) : Type 0 where
  pub placed : (links : List TableId) → ArePlaced links old → ArePlaced links new
  pub seats : map seat_of new ≡ map seat_of old
  pub sends : map (λ p. p.send) new ≡ map (λ p. p.send) old
  pub from : (a : Op) → HasCome new a → HasCome old a ⊎ Contains come a
  pub stays : (a : Op) → HasCome old a → HasCome new a
  pub new_one : (a : Op) → Contains come a → HasCome new a
  pub unended : all_ended old ≡ false

abbrev pub with_taken : Peer → Message → Peer
with_taken p m = record p { take = record p.take { taken = p.take.taken ++ m ∷ [] } }

ops_of_one : (ms : List Message) (m : Message)
    → ops_of (ms ++ m ∷ []) ≡ ops_of ms ++ (op_in m ++ [])
ops_of_one ms m = flat_map-append op_in ms (m ∷ [])

module _ (peers : List Peer) (k : ℕ) (p : Peer) (m : Message) (l : k < length peers)
    (at : get_or peers k p ≡ p) (going : is_ended p.take.taken ≡ false) where
  come_from : (a : Op) → HasCome (set peers k (with_taken p m)) a
      → HasCome peers a ⊎ Contains (op_in m ++ []) a
  come_from a h = elim (set_cases peers k (with_taken p m) h.peer h.contained) [
    | inl c ↦ inl (record { peer = h.peer; contained = c; among = h.among })
    | inr e ↦
        let w : Contains (ops_of (p.take.taken ++ m ∷ [])) a = subst
        (λ (q : Peer). Contains (ops_of q.take.taken) a) e h.among in
        elim (Contains-append_cases (ops_of p.take.taken) (op_in m ++ []) a
        (subst (λ l. Contains l a) (ops_of_one p.take.taken m) w)) [
          | inl c ↦ inl (record { peer = p; contained = (k, l, at); among = c })
          | inr c ↦ inr c
        ]
  ]

  come_new : (a : Op) → Contains (ops_of p.take.taken ++ (op_in m ++ [])) a
      → HasCome (set peers k (with_taken p m)) a
  come_new a c = record {
    peer = with_taken p m;
    contained = set_there peers k (with_taken p m) l;
    among = subst (λ l. Contains l a) (sym (ops_of_one p.take.taken m)) c;
  }

  come_stays : (a : Op) → HasCome peers a → HasCome (set peers k (with_taken p m)) a
  come_stays a h = elim (set_stays peers k p (with_taken p m) h.peer l at h.contained) [
    | inl e ↦ come_new a (Contains-append_left (ops_of p.take.taken) (op_in m ++ []) a
        (subst (λ (q : Peer). Contains (ops_of q.take.taken) a) e h.among))
    | inr c ↦ record { peer = h.peer; contained = c; among = h.among }
  ]

  still_placed : (links : List TableId) → ArePlaced links peers
      → ArePlaced links (set peers k (with_taken p m))
  still_placed links all q c = elim (set_cases peers k (with_taken p m) q c) [
    | inl n ↦ all q n
    | inr e ↦ let t = all p (k, l, at) in
        subst (StandsInTable links) (sym e) (record { out = t.out; into = t.into })
  ]

  pub comes_more : ComesMore peers (set peers k (with_taken p m)) (op_in m ++ [])
  comes_more = record {
    placed = still_placed;
    seats = map_set_same seat_of peers k p (with_taken p m) at refl;
    sends = map_set_same (λ p. p.send) peers k p (with_taken p m) at refl;
    from = come_from;
    stays = come_stays;
    new_one = λ a c. come_new a (Contains-append_right (ops_of p.take.taken) (op_in m ++ []) a c);
    unended = list_all_at (λ p. is_ended p.take.taken) peers k p l
        (ap (λ (q : Peer). is_ended q.take.taken) at ∙ going);
  }

-- the same over what a call says
pub takes_more : (peers : List Peer) (k : ℕ) (p q : Peer) (m : Message) (come : List Op)
    → k < length peers → p ≡ get_or peers k p → false ≡ is_ended p.take.taken → q ≡ with_taken p m
    → op_in m ++ [] ≡ come → ComesMore peers (set peers k q) come
takes_more peers k p q m come l at going e c = subst
    (λ (x : Peer × List Op). ComesMore peers (set peers k x.0) x.1) (λ i. (sym e i, c i))
    (comes_more peers k p m l (sym at) (sym going))

pub takes_none : (peers : List Peer) (k : ℕ) (p q : Peer) → k < length peers → p ≡ get_or peers k p
    → false ≡ is_ended p.take.taken → q ≡ p → ComesMore peers (set peers k q) []
takes_none peers k p q l at going e =
    let same : set peers k q ≡ peers = ap (set peers k) e ∙ set_itself peers k p (sym at) in
    subst (λ x. ComesMore peers x []) (sym same) (record {
      placed = λ links all. all;
      seats = refl;
      sends = refl;
      from = λ a h. inl h;
      stays = λ a h. h;
      new_one = λ a c. absurd (not_Contains-nil a c);
      unended = list_all_at (λ p. is_ended p.take.taken) peers k p l
          (ap (λ (q : Peer). is_ended q.take.taken) (sym at) ∙ sym going);
    })
