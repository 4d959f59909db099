-- New sites are ready, and the links between sites whose workers have returned may be settled.
use Rattle.std.proofs.Common.{◌≡◌, ◌+◌, ◌≤◌, ℕ, false, List, [], ◌∷◌, ◌++◌, map, length}
use Rattle.std.proofs.Common.{length-append, vec_len, inl, inr, refl, sym, ap, subst, ◌∙◌, arith}
use Rattle.std.specs.Prelude.{◌⊎◌, Contains, All, Some, option_map, slice_get}
use Rattle.std.specs.List.{list_any}
use Rattle.std.proofs.lemmas.List.{nil_from_length, append_assoc, append-nil, length-map}
use Rattle.std.proofs.lemmas.List.{map-append}
use Rattle.std.proofs.lemmas.List.Elements.{All-contains}
use Rattle.std.proofs.lemmas.Option.{slice_get-map}
use Rattle.atomic_table.specs.Seated.{TableId}
use Rattle.gf_base.proofs.ListLemmas.{Contains-map, Contains-map_from}
use Rattle.gf_base.proofs.PositionLemmas.{got_push, position_of}
use Rattle.gf_site.specs.SiteState.{SiteState, new_site}
use Rattle.gf_worker.specs.declared.script.Script.{Script}
use Rattle.gf_worker.specs.declared.peer.Peer.{Peer}
use Rattle.gf_worker.specs.declared.worker.WorkerEnd.{WorkerEnd}
use Rattle.gf_worker.specs.Peers.{StandsInTable, IsFresh, Seat, seat_of}
use Rattle.gf_worker.proofs.SendLemmas.{all_from}
use Rattle.gf_mesh.specs.Linked.{AreLinked, EachPeer, HaveEnded, IsSeatAt, links_of}
use Rattle.gf_mesh.proofs.PlaceLemmas.{all_placed}
use Rattle.gf_session.specs.declared.starting.SiteToRun.{SiteToRun}
use Rattle.gf_session.specs.Starting.{AreSitesToRun, IsReadyToStart, GaveAll}
use Rattle.gf_session.proofs.GaveLemmas.{gave_seats}
use Rattle.gf_session.proofs.SessionLemmas.{ended, got_map}

-- each site is new, and its links stand in the table
pub all_ready : (links : List TableId) (scripts : List Script) (rows : List (List Peer))
    (sites : List SiteToRun) → AreLinked links rows → EachPeer IsFresh rows
    → AreSitesToRun scripts rows sites → All (λ s. vec_len s.0 ≤ 1000) scripts → All (IsReadyToStart links) sites
all_ready links scripts rows sites m new a few =
    all_from (IsReadyToStart links) sites (λ s c.
    let k = position_of sites s c in
    let site = a.sites_are k.0 s k.1 in
    let row : Contains rows s.peers.items = subst (λ l. Contains l s.peers.items) a.rows_are
    (Contains-map (λ (x : SiteToRun). x.peers.items) sites s c) in
    record {
      ops = ap (λ (x : SiteState). x.ops) site;
      held = ap (λ (x : SiteState). x.held) site;
      few = All-contains (λ (x : Script). vec_len x.0 ≤ 1000) scripts s.script few
          (subst (λ l. Contains l s.script) a.scripts_are
          (Contains-map (λ (x : SiteToRun). x.script) sites s c));
      placed = all_from (StandsInTable links) s.peers.items (all_placed links rows m s.peers.items row);
      fresh = all_from IsFresh s.peers.items (new s.peers.items row);
    })

-- ---- the peers that the workers give back

abbrev seats_of : List (List Peer) → List (List Seat)
seats_of rows = map (map seat_of) rows

seats_given : (sites : List SiteToRun) (ends : List WorkerEnd) → GaveAll sites ends
    → seats_of (map (λ e. e.seats.items) ends) ≡ seats_of (map (λ s. s.peers.items) sites)
seats_given [] [] g = refl
seats_given [] (e ∷ ends) g = absurd g
seats_given (s ∷ sites) [] g = absurd g
seats_given (s ∷ sites) (e ∷ ends) g = λ i. gave_seats s e g.0 i ∷ seats_given sites ends g.1 i

-- what stands at a place of a list is told by the images of all
told : {X Y : Type 0} (f : X → Y) (us vs : List X) (k : ℕ) (u : X) → map f us ≡ map f vs
    → slice_get us k ≡ Some u → (v : X) × (slice_get vs k ≡ Some v) × (f v ≡ f u)
told f us vs k u e a = got_map f vs k (f u)
    (ap (λ l. slice_get l k) (sym e) ∙ slice_get-map f us k ∙ ap (option_map f) a)

image_long : {X Y : Type 0} (f : X → Y) (us vs : List X) → map f us ≡ map f vs
    → length us ≡ length vs
image_long f us vs e = sym (length-map us f) ∙ ap length e ∙ length-map vs f

linked_again : (links : List TableId) (rows us : List (List Peer)) → seats_of us ≡ seats_of rows
    → AreLinked links rows → AreLinked links us
linked_again links rows us e s =
    let n = image_long (map seat_of) us rows e in
    record {
      count = s.count ∙ ap links_of (sym n);
      long = λ i xs a. let t = told (map seat_of) us rows i xs e a in
          ap (λ k. k + 1) (image_long seat_of xs t.0 (sym t.2)) ∙ s.long i t.0 t.1 ∙ sym n;
      each = λ i k xs p a b.
          let t = told (map seat_of) us rows i xs e a in
          let q = told seat_of xs t.0 k p (sym t.2) b in
          subst (IsSeatAt links i k) q.2 (s.each i k t.0 q.0 t.1 q.1);
    }

-- the workers give back the peers of the mesh
pub still_linked : (links : List TableId) (scripts : List Script) (rows : List (List Peer))
    (sites : List SiteToRun) (ends : List WorkerEnd) → AreSitesToRun scripts rows sites
    → GaveAll sites ends → AreLinked links rows
    → AreLinked links (map (λ e. e.seats.items) ends)
still_linked links scripts rows sites ends a g = linked_again links rows
    (map (λ (e : WorkerEnd). e.seats.items) ends)
    (seats_given sites ends g ∙ ap seats_of a.rows_are)

-- each worker took to the end of each of its links
pub all_ended : (scripts : List Script) (rows : List (List Peer)) (sites : List SiteToRun)
    (ends : List WorkerEnd) → AreSitesToRun scripts rows sites → GaveAll sites ends
    → list_any (λ e. e.short) ends ≡ false
    → HaveEnded (map (λ e. e.seats.items) ends)
all_ended scripts rows sites ends a g long xs c p b =
    let t = Contains-map_from (λ (e : WorkerEnd). e.seats.items) ends xs c in
    let k = position_of ends t.0 t.1 in
    ended scripts rows sites ends a g long k.0 t.0 k.1 p (subst (λ l. Contains l p) t.2 b)

-- ---- one more site to run

pub push_map : {X : Type 0} (f : SiteToRun → X) (sites new : List SiteToRun) (s : SiteToRun) (x : X)
    (now next all : List X) → new ≡ sites ++ s ∷ [] → f s ≡ x → now ≡ x ∷ next
    → map f sites ++ now ≡ all → map f new ++ next ≡ all
push_map f sites new s x now next all e q n h =
    ap (λ l. map f l ++ next) e ∙ ap (λ l. l ++ next) (map-append f sites (s ∷ []))
    ∙ append_assoc (map f sites) (f s ∷ []) next ∙ ap (λ y. map f sites ++ y ∷ next) q
    ∙ ap (λ l. map f sites ++ l) (sym n) ∙ h

pub push_site : (sites new : List SiteToRun) (s : SiteToRun) → new ≡ sites ++ s ∷ []
    → s.site ≡ new_site (length sites + 1) → ((k : ℕ) (t : SiteToRun) → slice_get sites k ≡ Some t
    → t.site ≡ new_site (k + 1))
    → (k : ℕ) (t : SiteToRun) → slice_get new k ≡ Some t → t.site ≡ new_site (k + 1)
push_site sites new s e is h k t q =
    elim (got_push sites s k t (subst (λ l. slice_get l k ≡ Some t) e q)) [
      | inl a ↦ h k t a
      | inr a ↦ ap (λ (x : SiteToRun). x.site) a.1 ∙ is ∙ ap (λ n. new_site (n + 1)) (sym a.0)
    ]

pub one_less : {X : Type 0} (x : X) (now next : List X) (n m : ℕ) → now ≡ x ∷ next → m + 1 ≡ n
    → n ≡ length now → m ≡ length next
one_less x now next n m e k l = let a : length now ≡ length (x ∷ next) = ap length e in
    let b : length (x ∷ next) ≡ length next + 1 = omega arith in omega (arith, a, b, k, l)

pub all_started : (sites : List SiteToRun) (scripts : List Script) (rows : List (List Peer))
    (ss : List Script) (rs : List (List Peer)) → ((k : ℕ) (t : SiteToRun) → slice_get sites k ≡ Some t
    → t.site ≡ new_site (k + 1))
    → map (λ s. s.script) sites ++ ss ≡ scripts → map (λ s. s.peers.items) sites ++ rs ≡ rows
    → length rows ≡ length scripts → (length ss ≡ 0) ⊎ (length rs ≡ 0)
    → AreSitesToRun scripts rows sites
all_started sites scripts rows ss rs h e f l o =
    let a : length scripts ≡ length sites + length ss = ap length (sym e)
    ∙ length-append (map (λ (s : SiteToRun). s.script) sites) ss
    ∙ ap (λ n. n + length ss) (length-map sites (λ (s : SiteToRun). s.script)) in
    let b : length rows ≡ length sites + length rs = ap length (sym f)
    ∙ length-append (map (λ (s : SiteToRun). s.peers.items) sites) rs
    ∙ ap (λ n. n + length rs) (length-map sites (λ (s : SiteToRun). s.peers.items)) in
    let both : (length ss ≡ 0) × (length rs ≡ 0) = elim o [
      | inl p ↦ (p, omega (arith, a, b, l, p))
      | inr p ↦ (omega (arith, a, b, l, p), p)
    ] in record {
      sites_are = h;
      scripts_are = sym (append-nil (map (λ (s : SiteToRun). s.script) sites))
          ∙ ap (λ x. map (λ (s : SiteToRun). s.script) sites ++ x) (sym (nil_from_length ss both.0))
          ∙ e;
      rows_are = sym (append-nil (map (λ (s : SiteToRun). s.peers.items) sites))
          ∙ ap (λ x. map (λ (s : SiteToRun). s.peers.items) sites ++ x)
          (sym (nil_from_length rs both.1)) ∙ f;
    }
