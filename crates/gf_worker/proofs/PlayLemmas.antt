-- What one more command makes of what was played.
use Rattle.std.proofs.Common.{◌≡◌, ℕ, ◌+◌, ◌≤◌, List, [], ◌∷◌, ◌++◌, append_assoc, length}
use Rattle.std.proofs.Common.{length-append, map, get_or, inl, inr, refl, sym, ap, subst, ◌∙◌}
use Rattle.std.proofs.Common.{arith}
use Rattle.std.specs.Prelude.{Option, None, ◌==◌}
use Rattle.std.proofs.lemmas.List.{append-nil, map-append, length-map}
use Rattle.std.proofs.lemmas.List.Sums.{length-filter}
use Rattle.std.proofs.lemmas.List.Concat.{flat_map-append}
use Rattle.std.proofs.lemmas.List.Elements.{Contains-get_or, Contains-push_cases}
use Rattle.std.proofs.lemmas.List.Quantifiers.{all_pairs_push}
use Rattle.gf_ops.specs.declared.op.Op.{Op}
use Rattle.gf_ops.specs.declared.change.Change.{Change}
use Rattle.gf_ops.specs.OperationOrder.{count_of}
use Rattle.gf_json.specs.declared.scripts.Command.{Command}
use Rattle.gf_json.specs.declared.scripts.Command.TheVariants.{Author}
use Rattle.gf_site.specs.SiteState.{authored}
use Rattle.gf_worker.proofs.TurnLemmas.{own_same, turn_more, nothing_push}
use Rattle.gf_site.specs.declared.cause.Cause.{Cause}
use Rattle.gf_worker.specs.declared.report.Report.{Report}
use Rattle.gf_worker.specs.Messages.{own}
use Rattle.gf_worker.specs.Played.{IsPlayed}
use Rattle.gf_worker.specs.Turns.{Turn, Answer, IsCommandTurn, AreCounted, accepted_change}
use Rattle.gf_worker.specs.Turns.{accepted_changes, refusal_of, refusals}

pub accepted_push : (ts : List Turn) (t : Turn) → accepted_changes (ts ++ t ∷ []) ≡ accepted_changes
    ts ++ accepted_change t.command t.refusal
accepted_push ts t = flat_map-append (λ t. accepted_change t.command t.refusal) ts (t ∷ [])
    ∙ ap (λ l. accepted_changes ts ++ l) (append-nil (accepted_change t.command t.refusal))

pub counted_push : (s n : ℕ) (ts : List Turn) (t : Turn) → AreCounted s n ts
    → count_of t.before s ≡ n + length (accepted_changes ts) → AreCounted s n (ts ++ t ∷ [])
counted_push s n [] t c e = (e ∙ omega arith, tt)
counted_push s n (u ∷ ts) t c e = (
  c.0,
  counted_push s (n + length (accepted_change u.command u.refusal)) ts t c.1
      (e ∙ omega (
        arith,
        length-append (accepted_change u.command u.refusal) (accepted_changes ts),
      )),
)

pub refusals_push : (n : ℕ) (ts : List Turn) (t : Turn)
    → refusals n (ts ++ t ∷ []) ≡ refusals n ts ++ refusal_of (n + length ts) t.refusal
refusals_push n [] t = append-nil (refusal_of n t.refusal) ∙ ap (λ k. refusal_of k t.refusal)
    (omega arith)
refusals_push n (u ∷ ts) t =
    ap (λ l. refusal_of n u.refusal ++ l) (refusals_push (n + 1) ts t)
    ∙ sym (append_assoc (refusal_of n u.refusal) (refusals (n + 1) ts)
    (refusal_of (n + 1 + length ts) t.refusal))
    ∙ ap (λ k. (refusal_of n u.refusal ++ refusals (n + 1) ts) ++ refusal_of k t.refusal)
    (omega arith)

-- how many operations of site s a list has
pub length-own : (s : ℕ) (ops : List Op) → length (own s ops) ≡ count_of ops s
length-own s ops = length-filter (λ (a : Op). a.id.site == s) ops

-- a turn that leaves the list as it is: a refused command, or a passed Await
module _ (s : ℕ) (commands : List Command) (ops : List Op) (report new : Report)
    (p : IsPlayed s commands ops report) (c : Command) (r : Option Cause) where
  abbrev turn : Turn
  turn = record { command = c; before = ops; refusal = r }

  unfoldable pub played_turn : Answer s ops [] c r → accepted_change c r ≡ []
      → new.accepted.items ≡ report.accepted.items
      → new.refused.items ≡ report.refused.items ++ refusal_of (1 + length commands) r →
      IsPlayed s (commands ++ c ∷ []) ops new
  played_turn answer none accepted refused = record {
    turns = p.turns ++ turn ∷ [];
    each = map-append (λ (t : Turn). t.command) p.turns (turn ∷ []) ∙ ap (λ l. l ++ c ∷ []) p.each;
    right = λ t k. elim (Contains-push_cases p.turns turn t k) [
      | inl m ↦ p.right t m
      | inr e ↦ subst (IsCommandTurn s ops) e
          (record { later = []; whole = sym (append-nil ops); answer = answer })
    ];
    rising = all_pairs_push (λ t u. length t.before ≤ length u.before) p.turns turn p.rising
        (λ k d l.
        let t = p.right (get_or p.turns k d) (Contains-get_or p.turns k d l) in
        omega (arith, ap length t.whole, length-append (get_or p.turns k d).before t.later));
    counted = counted_push s 0 p.turns turn p.counted
        (let e : count_of ops s ≡ length (accepted_changes p.turns) = sym (length-own s ops)
        ∙ sym (length-map (own s ops) (λ (a : Op). a.change)) ∙ ap length p.made in
        omega (arith, e));
    made = p.made ∙ sym (accepted_push p.turns turn ∙ ap (λ l. accepted_changes p.turns ++ l) none
        ∙ append-nil (accepted_changes p.turns));
    accepted = accepted ∙ p.accepted;
    refused = refused ∙ ap (λ l. l ++ refusal_of (1 + length commands) r) p.refused
        ∙ ap (λ n. refusals 1 p.turns ++ refusal_of (1 + n) r) (sym (ap length p.each)
        ∙ length-map p.turns (λ (t : Turn). t.command)) ∙ sym (refusals_push 1 p.turns turn);
  }

-- an accepted change: the operation stands behind what was there
module _ (s : ℕ) (commands : List Command) (ops : List Op) (report new : Report)
    (p : IsPlayed s commands ops report) (c : Change) where
  abbrev made_op : Op
  made_op = authored s ops c

  abbrev made_turn : Turn
  made_turn = record { command = Author c; before = ops; refusal = None }

  unfoldable pub played_author : new.accepted.items ≡ report.accepted.items ++ (authored s ops
      c).id ∷ [] → new.refused.items ≡ report.refused.items
      → IsPlayed s (commands ++ Author c ∷ []) (ops ++ authored s ops c ∷ []) new
  played_author accepted refused =
      let mine = own_same s ops made_op refl in record {
        turns = p.turns ++ made_turn ∷ [];
        each = map-append (λ (t : Turn). t.command) p.turns (made_turn ∷ [])
            ∙ ap (λ l. l ++ Author c ∷ []) p.each;
        right = λ t k. elim (Contains-push_cases p.turns made_turn t k) [
          | inl m ↦ turn_more s ops made_op t (p.right t m)
              (λ e n. nothing_push s (p.right t m).later made_op n (λ d. absurd (d refl)))
          | inr e ↦ subst (IsCommandTurn s (ops ++ made_op ∷ [])) e
              (record {
                later = made_op ∷ [];
                whole = refl;
                answer = record { rest = []; next = refl };
              })
        ];
        rising = all_pairs_push (λ t u. length t.before ≤ length u.before) p.turns made_turn
            p.rising (λ k d l.
            let t = p.right (get_or p.turns k d) (Contains-get_or p.turns k d l) in
            omega (arith, ap length t.whole, length-append (get_or p.turns k d).before t.later));
        counted = counted_push s 0 p.turns made_turn p.counted
            (let e : count_of ops s ≡ length (accepted_changes p.turns) = sym (length-own s ops)
            ∙ sym (length-map (own s ops) (λ (a : Op). a.change)) ∙ ap length p.made in
            omega (arith, e));
        made = ap (map (λ (a : Op). a.change)) mine ∙ map-append (λ (a : Op). a.change) (own s ops)
            (made_op ∷ []) ∙ ap (λ l. l ++ c ∷ []) p.made ∙ sym (accepted_push p.turns made_turn);
        accepted = accepted ∙ ap (λ l. l ++ made_op.id ∷ []) p.accepted
            ∙ sym (ap (map (λ (a : Op). a.id)) mine ∙ map-append (λ (a : Op). a.id) (own s ops)
            (made_op ∷ []));
        refused = refused ∙ p.refused
            ∙ sym (refusals_push 1 p.turns made_turn ∙ append-nil (refusals 1 p.turns));
      }
