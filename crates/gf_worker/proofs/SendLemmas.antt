-- What sending changes of the peers, and what was sent.
use Rattle.std.proofs.Common.{◌≡◌, ℕ, zero, suc, ◌<◌, ◌≤◌, Bool, false, List, [], ◌∷◌, ◌++◌, take}
use Rattle.std.proofs.Common.{drop, map, length, length-append, inl, inr, refl, sym, ap, subst, ◌∙◌}
use Rattle.std.proofs.Common.{arith}
use Rattle.std.specs.Prelude.{◌⊎◌, Contains, All, Option, Some, None, slice_get}
use Rattle.std.specs.List.{list_all, AllByRecursion as ByRecursion}
use Rattle.std.proofs.lemmas.List.Elements.{All-from_recursion}
use Rattle.std.proofs.lemmas.List.{length-map}
use Rattle.std.proofs.lemmas.List.Folds.{list_all-map}
use Rattle.atomic_table.specs.Seated.{TableId}
use Rattle.gf_ops.specs.declared.op.Op.{Op}
use Rattle.gf_base.proofs.ListLemmas.{not_Contains-nil, Contains-cons_cases, Contains-cons_head}
use Rattle.gf_base.proofs.ListLemmas.{Contains-cons_tail, Contains-map, Contains-map_from}
use Rattle.gf_link.specs.declared.message.Message.{Message}
use Rattle.gf_link.specs.declared.message.Message.TheVariants as message
use Rattle.gf_link.specs.Ends.{is_ended}
use Rattle.gf_link.specs.Seats.{TakeSide, SendSide}
use Rattle.gf_json.specs.declared.scripts.Command.{Command}
use Rattle.gf_json.specs.declared.scripts.Command.TheVariants.{Author, Await}
use Rattle.gf_site.specs.declared.cause.Cause.{Cause}
use Rattle.gf_worker.specs.declared.report.Report.{Report}
use Rattle.gf_worker.specs.declared.peer.Peer.{Peer}
use Rattle.gf_worker.specs.declared.work.Work.{Work}
use Rattle.gf_worker.specs.Messages.{own, messages_of, ops_of}
use Rattle.gf_worker.specs.Peers.{all_ended, ArePlaced, Seat, seat_of, with_message, with_last}
use Rattle.gf_worker.specs.Coming.{HasCome}
use Rattle.gf_worker.specs.Played.{IsPlayed}
use Rattle.gf_worker.specs.Sending.{IsOpen, AreOpen}
use Rattle.gf_worker.specs.Working.{Gathers, Continues, IsSent, AreSent, Plays}
use Rattle.gf_worker.specs.Turns.{Turn, accepted_change, accepted_changes}

-- ---- lists whose images are one

pub same_image : {X Y : Type 0} (f : X → Y) (xs ys : List X) → map f xs ≡ map f ys → (y : X)
    → Contains ys y → (x : X) × Contains xs x × (f y ≡ f x)
same_image f xs ys e y c = Contains-map_from f xs (f y)
    (subst (λ l. Contains l (f y)) (sym e) (Contains-map f ys y c))

all_rec : {X : Type 0} (P : X → Type 0) (xs : List X) → ((x : X) → Contains xs x → P x)
    → ByRecursion P xs
all_rec P [] f = tt
all_rec P (x ∷ xs) f = (
  f x (Contains-cons_head x xs),
  all_rec P xs (λ y c. f y (Contains-cons_tail x xs y c)),
)

pub all_from : {X : Type 0} (P : X → Type 0) (xs : List X) → ((x : X) → Contains xs x → P x)
    → All P xs
all_from P xs f = All-from_recursion P xs (all_rec P xs f)

pub placed_by_seats : (links : List TableId) (old new : List Peer)
    → map seat_of new ≡ map seat_of old → ArePlaced links old → ArePlaced links new
placed_by_seats links old new e all p c =
    let t = same_image seat_of old new (sym e) p c in
    let q = all t.0 t.1 in
    let is : seat_of t.0 ≡ seat_of p = sym t.2 in record {
      out = subst (λ (s : Seat). slice_get links s.out ≡ Some s.to) is q.out;
      into = subst (λ (s : Seat). slice_get links s.into ≡ Some s.from) is q.into;
    }

pub come_by_takes : (old new : List Peer) → map (λ p. p.take) new ≡ map (λ p. p.take) old → (a : Op)
    → HasCome old a → HasCome new a
come_by_takes old new e a h =
    let t = same_image (λ (p : Peer). p.take) new old e h.peer h.contained in
    record {
      peer = t.0;
      contained = t.1;
      among = subst (λ (s : TakeSide). Contains (ops_of s.taken) a) t.2 h.among;
    }

pub ended_by_takes : (old new : List Peer) → map (λ p. p.take) new ≡ map (λ p. p.take) old
    → all_ended new ≡ all_ended old
ended_by_takes old new e =
    sym (list_all-map (λ (s : TakeSide). is_ended s.taken) (λ (p : Peer). p.take) new)
    ∙ ap (list_all (λ (s : TakeSide). is_ended s.taken)) e
    ∙ list_all-map (λ (s : TakeSide). is_ended s.taken) (λ (p : Peer). p.take) old

-- ---- a message to the first peers

pub map_sent : {Y : Type 0} (f : Peer → Y) (m : Message) → ((p : Peer) → f (with_message m p) ≡ f p)
    → (n : ℕ) (peers : List Peer)
    → map f (map (with_message m) (take n peers) ++ drop n peers) ≡ map f peers
map_sent f m e zero peers = refl
map_sent f m e (suc n) [] = refl
map_sent f m e (suc n) (p ∷ peers) = ap
    (λ y. y ∷ map f (map (with_message m) (take n peers) ++ drop n peers)) (e p)
    ∙ ap (λ l. f p ∷ l) (map_sent f m e n peers)

pub sent_cases : (m : Message) (n : ℕ) (peers : List Peer) (p : Peer)
    → Contains (map (with_message m) (take n peers) ++ drop n peers) p
    → ((q : Peer) × Contains peers q × (p ≡ with_message m q))
    ⊎ (Contains peers p × (n < length peers))
sent_cases m zero [] p c = absurd (not_Contains-nil p c)
sent_cases m zero (x ∷ xs) p c = inr (c, omega arith)
sent_cases m (suc n) [] p c = absurd (not_Contains-nil p c)
sent_cases m (suc n) (x ∷ xs) p c =
    elim (Contains-cons_cases (with_message m x) (map (with_message m) (take n xs) ++ drop n xs) p
    c) [
      | inl e ↦ inl (x, Contains-cons_head x xs, e)
      | inr k ↦ elim (sent_cases m n xs p k) [
        | inl t ↦ inl (t.0, Contains-cons_tail x xs t.0 t.1, t.2)
        | inr t ↦ inr (Contains-cons_tail x xs p t.0, omega (arith, t.1))
      ]
    ]

-- ---- what each peer was sent stays what it was sent

pub sent_continues : (old new : Work) → Continues old new → Gathers old → AreSent old → AreSent new
sent_continues old new c g t p k =
    let q = same_image (λ (x : Peer). x.send) old.peers.items new.peers.items (sym c.sends) p k in
    let i = t q.0 q.1 in
    record {
      first = i.first;
      rest = i.rest;
      whole = c.made g ∙ i.whole;
      sent = ap (λ (s : SendSide). s.sent) q.2 ∙ i.sent;
      all = λ e. i.all (c.short e);
    }

-- ---- a link to which operations alone were sent is open

messages_unended : (ops : List Op) → is_ended (messages_of ops) ≡ false
messages_unended [] = refl
messages_unended (a ∷ ops) = messages_unended ops

one_few : (c : Command) (r : Option Cause) → length (accepted_change c r) ≤ 1
one_few (Author c) None = omega arith
one_few (Author c) (Some r) = omega arith
one_few (Await i) r = omega arith

changes_few : (ts : List Turn) → length (accepted_changes ts) ≤ length ts
changes_few [] = omega arith
changes_few (t ∷ ts) =
    let f = one_few t.command t.refusal in
    let g = changes_few ts in omega (
      arith,
      length-append (accepted_change t.command t.refusal) (accepted_changes ts),
    )

-- a site makes no more operations than it has commands
pub own_few : (s : ℕ) (commands : List Command) (ops : List Op) (report : Report)
    → IsPlayed s commands ops report → length (own s ops) ≤ length commands
own_few s commands ops report p =
    let made : length (own s ops) ≡ length (accepted_changes p.turns) = sym
    (length-map (own s ops) (λ (a : Op). a.change)) ∙ ap length p.made in
    let turns : length p.turns ≡ length commands = sym
    (length-map p.turns (λ (t : Turn). t.command)) ∙ ap length p.each in
    let f = changes_few p.turns in omega (arith, made, turns)

pub sent_open : (ops : List Op) (short : Bool) (p : Peer) → IsSent ops short p → length ops < 1024
    → IsOpen p
sent_open ops short p t l = record {
  still = ap is_ended t.sent ∙ messages_unended t.first;
  room =
      let e : length p.send.sent ≡ length t.first = ap length t.sent
      ∙ length-map t.first (λ a. message.Op a) in
      let f : length ops ≡ length (t.first ++ t.rest) = ap length t.whole in
      omega (arith, e, f, length-append t.first t.rest);
}

pub plays_open : (done : List Command) (w : Work) → Plays done w → AreSent w → length done < 1024
    → AreOpen w.peers.items
plays_open done w p t l q c =
    let few = own_few w.site.number p.done w.site.ops w.report p.underway.played in
    let part : length done ≡ length (p.done ++ p.rest) = ap length p.whole in
    sent_open (own w.site.number w.site.ops) w.short q (t q c)
    (omega (arith, few, part, length-append p.done p.rest))

-- a last message leaves the indices and the links
pub seats_sent : (short : Bool) (peers : List Peer)
    → map seat_of (map (with_last short) peers) ≡ map seat_of peers
seats_sent short [] = refl
seats_sent short (p ∷ peers) = ap (λ l. seat_of p ∷ l) (seats_sent short peers)
