-- What a site gave back, whether it ran or was stopped.
use Rattle.std.proofs.Common.{◌≡◌, true, false, List, [], ◌∷◌, ◌++◌, map, length, inl, inr, suc}
use Rattle.std.proofs.Common.{refl, sym, ap, subst, ◌∙◌, true≢false}
use Rattle.std.specs.Prelude.{All, Contains}
use Rattle.std.proofs.lemmas.List.Elements.{All-contains, Contains-append_left}
use Rattle.std.proofs.lemmas.List.Elements.{Contains-append_right}
use Rattle.gf_base.proofs.ListLemmas.{Contains-cons_head}
use Rattle.gf_site.specs.SiteState.{SiteState}
use Rattle.gf_worker.specs.declared.worker.WorkerEnd.{WorkerEnd}
use Rattle.gf_worker.specs.Peers.{seat_of}
use Rattle.gf_worker.specs.Ending.{HasWorked}
use Rattle.gf_worker.proofs.SendLemmas.{all_from, seats_sent}
use Rattle.gf_session.specs.declared.starting.SiteToRun.{SiteToRun}
use Rattle.gf_session.specs.Starting.{Gave, GaveAll}

pub gave_number : (s : SiteToRun) (e : WorkerEnd) → Gave s e → e.site.number ≡ s.site.number
gave_number s e g = elim g [ inl w ↦ w.number | inr t ↦ ap (λ (x : SiteState). x.number) t.site ]

pub gave_seats : (s : SiteToRun) (e : WorkerEnd) → Gave s e
    → map seat_of e.seats.items ≡ map seat_of s.peers.items
gave_seats s e g = elim g [
  | inl w ↦ w.seats
  | inr t ↦ ap (map seat_of) t.seats ∙ seats_sent true s.peers.items
]

-- a site that is not short ran its script
pub gave_worked : (s : SiteToRun) (e : WorkerEnd) → Gave s e → e.short ≡ false
    → HasWorked s.site.number s.script.0.items s.peers.items e
gave_worked s e g long = elim g [ inl w ↦ w | inr t ↦ absurd (true≢false (sym t.short ∙ long)) ]

-- one site more
pub gave_more : (sites : List SiteToRun) (s : SiteToRun) (ends : List WorkerEnd) (e : WorkerEnd)
    → GaveAll sites ends → Gave s e → GaveAll (sites ++ s ∷ []) (ends ++ e ∷ [])
gave_more [] s [] e g h = (h, tt)
gave_more [] s (x ∷ ends) e g h = absurd g
gave_more (t ∷ sites) s [] e g h = absurd g
gave_more (t ∷ sites) s (x ∷ ends) e g h = (g.0, gave_more sites s ends e g.1 h)

-- as many sites gave back as were to run
pub same_long : (sites : List SiteToRun) (ends : List WorkerEnd) → GaveAll sites ends
    → length ends ≡ length sites
same_long [] [] g = refl
same_long [] (x ∷ ends) g = absurd g
same_long (s ∷ sites) [] g = absurd g
same_long (s ∷ sites) (x ∷ ends) g = ap suc (same_long sites ends g.1)

-- what holds of all holds of the last, and of those before it
pub of_last : {X : Type 0} (P : X → Type 0) (xs before : List X) (x : X) → xs ≡ before ++ x ∷ []
    → All P xs → P x
of_last P xs before x e all = All-contains P xs x all
    (subst (λ l. Contains l x) (sym e)
    (Contains-append_right before (x ∷ []) x (Contains-cons_head x [])))

pub of_first : {X : Type 0} (P : X → Type 0) (xs before : List X) (x : X) → xs ≡ before ++ x ∷ []
    → All P xs → All P before
of_first P xs before x e all = all_from P before
    (λ y c. All-contains P xs y all
    (subst (λ l. Contains l y) (sym e) (Contains-append_left before (x ∷ []) y c)))
