-- How scripts grow by a command, and that a script with too many commands is refused.
use Rattle.std.specs.Prelude.{◌==◌, ◌&&◌, nat_le, Contains, IsTrue, Some, slice_get, ◌⊎◌, ◌↔◌}
use Rattle.std.specs.Prelude.{vec_len}
use Rattle.std.proofs.Common.{◌≡◌, ◌≢◌, ℕ, zero, suc, ◌+◌, ◌-◌, ◌<◌, ◌≤◌, Bool, List, [], ◌∷◌, ◌++◌}
use Rattle.std.proofs.Common.{length, map, take, refl, sym, ap, subst, ◌∙◌, inl, inr, arith}
use Rattle.std.specs.List.{filter}
use Rattle.std.proofs.Math.Seq.{take-append_seam}
use Rattle.std.proofs.lemmas.Bool.{cases_lt, le-leb, leb-true}
use Rattle.std.proofs.lemmas.Bool.Decides.{eqb_tells}
use Rattle.std.proofs.lemmas.List.{length-append, map-append, append-nil}
use Rattle.std.proofs.lemmas.List.Elements.{Contains-push_cases, filter-append}
use Rattle.std.proofs.lemmas.Option.{slice_get_cases, slice_get_within}
use Rattle.gf_base.proofs.ListLemmas.{not_Contains-nil}
use Rattle.gf_ops.specs.Limits.{is_site}
use Rattle.gf_base.proofs.PositionLemmas.{position_in}
use Rattle.gf_json.specs.declared.scripts.ScriptLine.{ScriptLine}
use Rattle.gf_worker.specs.declared.script.Script.{Script}
use Rattle.gf_session_run.specs.DenotedScripts.{AreScriptsOf, Fit, commands_of}
use Rattle.gf_session_run.specs.SessionSteps.{GainsCommand, HasNoRoomAt, past, long}

-- ---- places

same_some : {X : Type 0} (x y : X) → Some x ≡ Some y → x ≡ y
same_some x y e = cc

-- ---- scripts without commands

pub record AreEmpty (n : ℕ) (scripts : List Script) : Type 0 where
  pub long : length scripts ≡ n
  pub empty : (s : Script) → Contains scripts s → s.0.items ≡ []

pub empty_none : (scripts : List Script) → scripts ≡ [] → AreEmpty 0 scripts
empty_none scripts e = record {
  long = ap length e;
  empty = λ s i. absurd (not_Contains-nil s (subst (λ l. Contains l s) e i));
}

pub empty_more : (n : ℕ) (scripts more : List Script) (s : Script) → AreEmpty n scripts
    → s.0.items ≡ [] → more ≡ scripts ++ s ∷ [] → AreEmpty (n + 1) more
empty_more n scripts more s are e is = record {
  long = let l = are.long in rw is (rw length-append (omega arith));
  empty = λ t i. elim (Contains-push_cases scripts s t (subst (λ l. Contains l t) is i)) [
    | inl j ↦ are.empty t j
    | inr q ↦ subst (λ (u : Script). u.0.items ≡ []) q e
  ];
}

pub empty_scripts_of : (n m : ℕ) (scripts : List Script) → AreEmpty m scripts → n ≤ m → m ≤ n
    → AreScriptsOf n [] scripts
empty_scripts_of n m scripts are some few = record {
  long = let l = are.long in omega arith;
  each = λ k s e. are.empty s (position_in scripts k s e);
}

-- ---- one command more

-- the commands of site s, with one for site t more
pub commands_here : (s : ℕ) (ls : List ScriptLine) (l : ScriptLine) → l.site ≡ s
    → commands_of s (ls ++ l ∷ []) ≡ commands_of s ls ++ l.command ∷ []
commands_here s ls l e = elim (eqb_tells l.site s) [
  | inl y ↦ ap (map (λ (x : ScriptLine). x.command))
      (filter-append (λ (x : ScriptLine). x.site == s) ls (l ∷ []) ∙ rw y.0 refl)
      ∙ map-append (λ (x : ScriptLine). x.command) (filter (λ (x : ScriptLine). x.site == s) ls)
      (l ∷ [])
  | inr n ↦ absurd (n.1 e)
]

pub commands_elsewhere : (s : ℕ) (ls : List ScriptLine) (l : ScriptLine) → l.site ≢ s
    → commands_of s (ls ++ l ∷ []) ≡ commands_of s ls
commands_elsewhere s ls l d = elim (eqb_tells l.site s) [
  | inl y ↦ absurd (d y.1)
  | inr n ↦ ap (map (λ (x : ScriptLine). x.command))
      (filter-append (λ (x : ScriptLine). x.site == s) ls (l ∷ [])
      ∙ (rw n.0 refl ∙ append-nil (filter (λ (x : ScriptLine). x.site == s) ls)))
]

-- what is not full has a script at that place, with fewer than 1,000 commands
pub within_room : (scripts : List Script) (k : ℕ) → ¬ (HasNoRoomAt scripts k) → k < length scripts
within_room scripts k room = elim (cases_lt k (length scripts))
    [ inl l ↦ l | inr m ↦ absurd (room (past m)) ]

-- a command that fits is taken
module _ (n : ℕ) (ls : List ScriptLine) (scripts : List Script) (fit : Fit n ls)
    (are : AreScriptsOf n ls scripts) (l : ScriptLine) (k : ℕ) (place : l.site ≡ k + 1)
    (room : ¬ (HasNoRoomAt scripts k)) where
  few_here : length (commands_of l.site ls) < 1000
  few_here = elim (slice_get_cases scripts k).1 [
    | inl w ↦
        let s = w.0 in
        let items = are.each k s w.2 in
        elim (cases_lt (length s.0.items) 1000) [
          | inl f ↦ subst (λ c. length c < 1000) (items ∙ ap (λ m. commands_of m ls) (sym place)) f
          | inr m ↦ absurd (room (long s w.2 m))
        ]
    | inr w ↦ absurd (room (past w.0))
  ]

  pub fit_more : Fit n (ls ++ l ∷ [])
  fit_more = record {
    sites = λ a i. elim (Contains-push_cases ls l a i) [
      | inl j ↦ fit.sites a j
      | inr e ↦ let w = within_room scripts k room in let q = are.long in
          subst (λ (b : ScriptLine). b.site ≤ n) e (rw place (omega arith))
    ];
    few = λ s. elim (eqb_tells l.site s) [
      | inl y ↦ let f = few_here in
          rw (commands_here s ls l y.1)
          (rw length-append (let g = subst (λ t. length (commands_of t ls) < 1000) y.1 f in
          omega arith))
      | inr d ↦ rw (commands_elsewhere s ls l d.1) (fit.few s)
    ];
  }

  pub scripts_more : (new : List Script) → GainsCommand scripts k l.command new
      → AreScriptsOf n (ls ++ l ∷ []) new
  scripts_more new g = record { long = g.long ∙ are.long; each = each }
    where
      here : (s t : Script) → slice_get scripts k ≡ Some s → slice_get new k ≡ Some t
          → t.0.items ≡ commands_of (k + 1) (ls ++ l ∷ [])
      here s t e f = g.there s t e f ∙ (ap (λ c. c ++ l.command ∷ []) (are.each k s e)
          ∙ sym (commands_here (k + 1) ls l place))

      each : (j : ℕ) (t : Script) → slice_get new j ≡ Some t
          → t.0.items ≡ commands_of (j + 1) (ls ++ l ∷ [])
      each j t e = elim (eqb_tells j k) [
        | inl y ↦ elim (slice_get_cases scripts k).1 [
          | inl w ↦ subst (λ m. t.0.items ≡ commands_of (m + 1) (ls ++ l ∷ [])) (sym y.1)
              (here w.0 t w.2 (ap (slice_get new) (sym y.1) ∙ e))
          | inr w ↦ absurd (room (past w.0))
        ]
        | inr d ↦ are.each j t (sym (g.others j d.1) ∙ e)
            ∙ sym (commands_elsewhere (j + 1) ls l
            (λ q. d.1 (let r = sym q ∙ place in omega (r, arith))))
      ]

-- what is full has no room for a command
pub full_beyond : (n : ℕ) (ls : List ScriptLine) (scripts : List Script) → AreScriptsOf n ls scripts
    → (l : ScriptLine) (k : ℕ) → l.site ≡ k + 1 → HasNoRoomAt scripts k
    → (n < l.site) ⊎ (1000 ≤ length (commands_of l.site ls))
full_beyond n ls scripts are l k place (past m) = inl (let q = are.long in rw place (omega arith))
full_beyond n ls scripts are l k place (long s e m) = inr
    (subst (λ c. 1000 ≤ length c) (are.each k s e ∙ ap (λ j. commands_of j ls) (sym place)) m)

-- ---- what the code asks

-- a script is full where it is that long
pub full_told : (scripts : List Script) (k n : ℕ) (s : Script) → slice_get scripts k ≡ Some s
    → n ≡ vec_len s.0 → IsTrue (nat_le 1000 n) ↔ HasNoRoomAt scripts k
full_told scripts k n s at is = (
  λ t. long s at (let l = leb-true 1000 n t in let m = s.0.ok.0 in omega (is, arith)),
  λ f. le-leb 1000 n (full_long f),
)
  where
    full_long : HasNoRoomAt scripts k → 1000 ≤ n
    full_long (past m) = let w = slice_get_within scripts k s at in absurd (omega arith)
    full_long (long t e m) = let q = subst (λ (u : Script). 1000 ≤ length u.0.items)
        (same_some t s (sym e ∙ at)) m in let o = s.0.ok.0 in omega (is, arith)

-- a site stands at the place before its number
pub placed : (s t : ℕ) (b : Bool) → t ≡ s → IsTrue (is_site s && b) → s ≡ t - 1 + 1
placed zero t b e r = absurd cc
placed (suc k) t b e r = omega (e, arith)

-- a slice that was lent of a whole list is given back whole
pub given_back : {X : Type 0} (n : ℕ) (new rest : List X) → n ≡ length new
    → take n (new ++ rest) ≡ new
given_back n new rest e = rw e (take-append_seam new rest)
