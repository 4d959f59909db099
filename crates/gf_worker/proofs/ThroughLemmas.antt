-- A worker goes through its script.
use Rattle.std.proofs.Common.{◌≡◌, ◌+◌, ℕ, Bool, true, false, List, [], ◌∷◌, ◌++◌, append_assoc}
use Rattle.std.proofs.Common.{length, inl, inr, refl, sym, ap, subst, ◌∙◌, true≢false}
use Rattle.std.proofs.lemmas.List.{append-nil}
use Rattle.gf_json.specs.declared.scripts.Command.{Command}
use Rattle.gf_worker.specs.declared.work.Work.{Work}
use Rattle.gf_worker.specs.Working.{Gathers, IsUnderway, Plays}
use Rattle.gf_worker.specs.Playing.{PlaysOn, Through}

plays_more : (done : List Command) (c : Command) (n : ℕ) (mid new : Work) (b : Bool) → new.short ≡ b
    → n ≡ 1 + length done → Gathers mid → Plays done mid → PlaysOn n c mid new
    → Plays (done ++ c ∷ []) new
plays_more done c n mid new true e k g p on = elim (on.stays e p.done g p.underway) [
  | inl u ↦ record {
    done = p.done;
    rest = p.rest ++ c ∷ [];
    whole = ap (λ l. l ++ c ∷ []) p.whole ∙ append_assoc p.done p.rest (c ∷ []);
    full = λ q. absurd (true≢false (sym e ∙ q));
    underway = u;
  }
  | inr u ↦ record {
    done = p.done ++ c ∷ [];
    rest = [];
    whole = ap (λ l. l ++ c ∷ []) (p.whole ∙ ap (λ l. p.done ++ l) (p.full u.0) ∙ append-nil p.done)
        ∙ sym (append-nil (p.done ++ c ∷ []));
    full = λ q. refl;
    underway = u.1;
  }
]
plays_more done c n mid new false e k g p on =
    let all : done ≡ p.done = p.whole ∙ ap (λ l. p.done ++ l) (p.full (on.short e))
    ∙ append-nil p.done in record {
      done = done ++ c ∷ [];
      rest = [];
      whole = sym (append-nil (done ++ c ∷ []));
      full = λ q. refl;
      underway = on.played e done k g (subst (λ l. IsUnderway l mid) (sym all) p.underway);
    }

pub through_more : (done : List Command) (c : Command) (n : ℕ) (old mid new : Work)
    → n ≡ 1 + length done → Through done old mid → PlaysOn n c mid new
    → Through (done ++ c ∷ []) old new
through_more done c n old mid new k t on = record {
  placed = λ links p. on.placed links (t.placed links p);
  seats = on.seats ∙ t.seats;
  number = on.number ∙ t.number;
  gathers = λ g. on.gathers (t.gathers g);
  sent = λ g k. on.sent (t.gathers g) (t.sent g k);
  plays = λ g u. plays_more done c n mid new new.short refl k (t.gathers g) (t.plays g u) on;
}
