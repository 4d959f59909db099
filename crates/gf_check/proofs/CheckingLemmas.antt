-- What is told of the lines so far, with one line more, and of all lines.
use Rattle.std.specs.Prelude.{ℕ, ◌⊎◌, AllPairs, Contains, Ok, Err, OnOk, Option, Result, ⊤}
use Rattle.std.proofs.Common.{◌≡◌, ◌≢◌, List, [], ◌∷◌, ◌++◌, refl, sym, ap, subst, ◌∙◌, inl, inr}
use Rattle.std.proofs.Common.{append_assoc, arith}
use Rattle.std.proofs.lemmas.List.{append-nil}
use Rattle.std.proofs.lemmas.List.Elements.{Contains-append_right}
use Rattle.std.proofs.lemmas.List.Elements.{Contains-push, Contains-push_cases}
use Rattle.std.proofs.lemmas.Result.{on_ok_weaker}
use Rattle.gf_base.proofs.ListLemmas.{Contains-cons_head, Contains-cons_tail, not_Contains-nil}
use Rattle.gf_streams.specs.TextLines.{numbered_lines}
use Rattle.gf_ops.specs.declared.op.Op.{Op}
use Rattle.gf_ops.specs.declared.op.OpId.{OpId}
use Rattle.gf_ops.specs.ValidHistory.{IsValid}
use Rattle.gf_causal.specs.HeldOperations.{IsClash, IsNew}
use Rattle.gf_site.specs.ReplicaState.{ReplicaState, new_replica}
use Rattle.gf_json.specs.LineValues.{Got}
use Rattle.gf_json.specs.declared.line_error.LineError.{LineError}
use Rattle.gf_json.specs.declared.line_error.LineError.TheVariants as line
use Rattle.gf_replay.specs.declared.reading_error.LineCause.{LineCause}
use Rattle.gf_replay.specs.declared.reading_error.LineCause.TheVariants as cause
use Rattle.gf_replay.specs.declared.reading_error.ReadingError.{ReadingError}
use Rattle.gf_replay.specs.declared.reading_error.ReadingError.TheVariants as reading
use Rattle.gf_replay.specs.Taking.{HasOrHolds, Offers, again, new, of_line}
use Rattle.gf_replay.proofs.GotLemmas.{fault_read}
use Rattle.gf_replay.proofs.TakingLemmas.{offer_from, offer_keeps, offered_there}
use Rattle.gf_edit.specs.declared.edit_command.EditCommand.{EditCommand}
use Rattle.gf_edit.specs.declared.entries.Entry.{Entry}
use Rattle.gf_edit.specs.declared.entries.Entry.TheVariants as entry
use Rattle.gf_edit.specs.Entries.{denoted_by}
use Rattle.gf_check.specs.declared.telling.Telling.{Telling}
use Rattle.gf_check.specs.FaultLines.{Told, errors, told_text}
use Rattle.gf_check.specs.CheckedText.{RefusesChecked}
use Rattle.gf_check.specs.TrueFaults.{Clashes, HasLineError, IsDenotedBy, IsTrueOf}
use Rattle.gf_check.specs.AllFaults.{AnswersText, KeepsUntold, HasOneById, IsFaultOf, KeepsOrTells}
use Rattle.gf_check.specs.AllFaults.{RisesTo, TellsEach, TellsOnLines, TellsOp}
use Rattle.gf_check.specs.AllFaults.{TellsTrue, faults, nothing}
use Rattle.gf_check.specs.Telling.{HasTold, TellsOne}
use Rattle.gf_check.specs.CheckedLines.{AreBefore, AreInOrder, BeginsWith, GoesOn, HasChecked}
use Rattle.gf_check.specs.CheckedLines.{HasOffered, HasRead, IsStepping, StepsOn, Tells}
use Rattle.gf_check.proofs.OrderLemmas.{numbers_rise, order_line}
use Rattle.gf_check.proofs.ReadLemmas.{DenotesSome-read, HasRead-command, HasRead-none}
use Rattle.gf_check.proofs.ReadLemmas.{Refuses-fault, Refuses-op}
use Rattle.gf_check.proofs.ToldLemmas.{error_cases, error_last, error_there}
use Rattle.gf_check.proofs.SteppingLemmas.{begins_as, begins_more, denoted_left, told_still}

-- ---- one line more

another : (x : ReplicaState) (a b : Op) → IsNew x.held x.ops a → HasOrHolds x b → b.id ≢ a.id
another x a b fresh (inl i) = fresh.not_held b i
another x a b fresh (inr i) = fresh.not_added b i

one_offer : (x y : ReplicaState) (a : Op) → Offers x a y → HasOneById x → HasOneById y
one_offer x y a (again known same) o = subst HasOneById (sym same) o
one_offer x y a (new fresh adds ops) o = λ b c i j e.
    elim (offer_from x y a (new fresh adds ops) b i) [
      | inl p ↦ elim (offer_from x y a (new fresh adds ops) c j) [
        | inl q ↦ p ∙ sym q
        | inr k ↦ absurd (another x a c fresh k (sym e ∙ ap (λ (z : Op). z.id) p))
      ]
      | inr k ↦ elim (offer_from x y a (new fresh adds ops) c j) [
        | inl q ↦ absurd (another x a b fresh k (e ∙ ap (λ (z : Op). z.id) q))
        | inr l ↦ o b c k l e
      ]
    ]

module _ (editor : Option ℕ) (bytes : List ℕ) (n : ℕ) (text : List ℕ) (left : List (ℕ × List ℕ))
    (x : ReplicaState) (t : Telling) (all : HasChecked editor bytes ((n, text) ∷ left) x t) where
  abbrev h : Tells (HasRead editor bytes ((n, text) ∷ left) x) editor bytes ((n, text) ∷ left) x t
  h = all.tells

  abbrev lines : List (ℕ × List ℕ)
  lines = h.before ++ (n, text) ∷ []

  whole_more : numbered_lines bytes ≡ lines ++ left
  whole_more = h.whole ∙ sym (append_assoc h.before ((n, text) ∷ []) left)

  own_denoted : (a : Op) → denoted_by editor text ≡ Ok (entry.Operation a)
      → IsDenotedBy editor lines a
  own_denoted a d = record {
    number = n;
    text = text;
    there = Contains-push h.before (n, text);
    denotes = d;
  }

  had_denoted : (a : Op) → HasOrHolds x a → IsDenotedBy editor lines a
  had_denoted a i = denoted_left editor h.before ((n, text) ∷ []) a (h.denoted a i)

  each_more : (told : List Told)
      → ((e : ReadingError) → Contains (errors h.told) e → Contains (errors told) e)
      → ((f : LineError) → denoted_by editor text ≡ Err f → Contains (errors told) (of_line n f))
      → TellsEach editor lines told
  each_more told keeps own m line f i d =
      elim (Contains-push_cases h.before (n, text) (m, line) i) [
        | inl j ↦ keeps (of_line m f) (h.each m line f j d)
        | inr e ↦ subst (λ (k : ℕ × List ℕ). denoted_by editor k.1 ≡ Err f
            → Contains (errors told) (of_line k.0 f)) e (own f) d
      ]

  all_more : (y : ReplicaState) (told : List Told)
      → ((a : Op) → HasOrHolds x a → HasOrHolds y a)
      → ((m : ℕ) (i : OpId) → TellsOp h.told m i → TellsOp told m i)
      → ((a : Op) → denoted_by editor text ≡ Ok (entry.Operation a)
      → HasOrHolds y a ⊎ TellsOp told n a.id)
      → KeepsOrTells editor lines told y
  all_more y told keeps still own m line a i d =
      elim (Contains-push_cases h.before (n, text) (m, line) i) [
        | inl j ↦ elim (h.all m line a j d)
            [ inl k ↦ inl (keeps a k) | inr o ↦ inr (still m a.id o) ]
        | inr e ↦ subst (λ (k : ℕ × List ℕ). denoted_by editor k.1 ≡ Ok (entry.Operation a)
            → HasOrHolds y a ⊎ TellsOp told k.0 a.id) e (own a) d
      ]

  behind : (k : ℕ × List ℕ) → Contains left k → AreBefore k.0 h.told
  behind k i = h.below k (Contains-cons_tail (n, text) left k i)

  -- the line's operation is offered, and the replica may step
  offer_begins : (a : Op) → denoted_by editor text ≡ Ok (entry.Operation a) → (y : ReplicaState)
      → Offers x a y → IsStepping editor bytes left y t
  offer_begins a d y offers = record {
    told = h.told;
    is = h.is;
    first = begins_as (HasRead editor bytes ((n, text) ∷ left) x) (HasOffered editor bytes left y)
        editor bytes (λ read. record {
          number = n;
          text = text;
          before = x;
          read = read;
          op = a;
          denotes = d;
          offered = y;
          offers = offers;
          keeps = record { same = λ b. (λ i. i, λ i. i); others = λ o. o };
        }) h.told h.first;
    before = lines;
    whole = whole_more;
    each = each_more h.told (λ e c. c) (λ f e. absurd cc);
    all = all_more y h.told (λ b i. offer_keeps x y a offers b i) (λ m i o. o)
        (λ b e. let same : a ≡ b = cc in inl (subst (HasOrHolds y) same
        (offered_there x y a offers)));
    denoted = λ b i. elim (offer_from x y a offers b i) [
      | inl e ↦ subst (IsDenotedBy editor lines) (sym e) (own_denoted a d)
      | inr j ↦ had_denoted b j
    ];
    only = h.only;
    order = h.order;
    below = behind;
    one = one_offer x y a offers h.one;
  }

  -- a command changes nothing
  command_passes : (c : EditCommand) → denoted_by editor text ≡ Ok (entry.Command c)
      → HasChecked editor bytes left x t
  command_passes c d = record {
    tells = record {
      told = h.told;
      is = h.is;
      first = begins_as (HasRead editor bytes ((n, text) ∷ left) x) (HasRead editor bytes left x)
          editor bytes (λ read. HasRead-command bytes n text left x editor read c d) h.told h.first;
      before = lines;
      whole = whole_more;
      each = each_more h.told (λ e i. i) (λ f e. absurd cc);
      all = all_more x h.told (λ b i. i) (λ m i o. o) (λ b e. absurd cc);
      denoted = had_denoted;
      only = h.only;
      order = h.order;
      below = behind;
      one = h.one;
    };
    none = all.none;
  }

  -- the line's fault is told
  fault_told : (why : LineCause) (u : Telling) → TellsOne (reading.Line n why) h.told u
      → (HasRead editor bytes ((n, text) ∷ left) x → IsFaultOf editor bytes (reading.Line n why))
      → IsTrueOf editor (numbered_lines bytes) (reading.Line n why)
      → ((f : LineError) → denoted_by editor text ≡ Err f → of_line n f ≡ reading.Line n why)
      → ((a : Op) → denoted_by editor text ≡ Ok (entry.Operation a) → cause.Clash ≡ why)
      → HasChecked editor bytes left x u
  fault_told why u one refuses is_true own clash = record {
    tells = record {
      told = h.told ++ last ∷ [];
      is = one.is;
      first = begins_more (HasRead editor bytes ((n, text) ∷ left) x) (HasRead editor bytes left x)
          editor bytes last refuses h.told h.first;
      before = lines;
      whole = whole_more;
      each = each_more (h.told ++ last ∷ []) (error_there h.told last)
          (λ f e. subst (Contains (errors (h.told ++ last ∷ []))) (sym (own f e))
          (error_last h.told last));
      all = all_more x (h.told ++ last ∷ []) (λ b i. i) (told_still h.told last)
          (λ a e. inr (inl (subst
          (λ w. Contains (errors (h.told ++ last ∷ [])) (reading.Line n w)) (sym (clash a e))
          (error_last h.told last))));
      denoted = had_denoted;
      only = λ e c. elim (error_cases h.told last e c) [
        | inl j ↦ h.only e j
        | inr same ↦ subst (IsTrueOf editor (numbered_lines bytes)) same is_true
      ];
      order = order_line h.told n why one.why
          (h.below (n, text) (Contains-cons_head (n, text) left)) h.order;
      below = λ k i m w c. elim (error_cases h.told last (reading.Line m w) c) [
        | inl j ↦ behind k i m w j
        | inr same ↦
            let e : n ≡ m = cc in
            let less = numbers_rise bytes h.before n text left h.whole k i in
            omega arith
      ];
      one = h.one;
    };
    none = all.none;
  }
    where
      last : Told
      last = record { error = reading.Line n why; why = one.why }

  clash_with : (a first : Op) → denoted_by editor text ≡ Ok (entry.Operation a)
      → HasOrHolds x first → first.id ≡ a.id → first ≢ a → Clashes editor (numbered_lines bytes) n
  clash_with a first d i id differs = record {
    before = h.before;
    text = text;
    after = left;
    whole = h.whole;
    op = a;
    denotes = d;
    first = first;
    earlier = h.denoted first i;
    id = id;
    differs = differs;
  }

  clashes : (a : Op) → denoted_by editor text ≡ Ok (entry.Operation a) → IsClash x.held x.ops a
      → Clashes editor (numbered_lines bytes) n
  clashes a d (inl o) = clash_with a o.other d (inl o.contained) o.id o.differs
  clashes a d (inr o) = clash_with a o.other d (inr o.contained) o.id o.differs

  -- the line's operation clashes
  op_clashes : (a : Op) → denoted_by editor text ≡ Ok (entry.Operation a) → IsClash x.held x.ops a
      → (u : Telling) → TellsOne (reading.Line n cause.Clash) h.told u
      → HasChecked editor bytes left x u
  op_clashes a d clash u one = fault_told cause.Clash u one
      (λ read. record {
        fault = tt;
        refuses = Refuses-op bytes n text left x editor read a d (reading.Line n cause.Clash)
            (refl, clash);
      }) (clashes a d clash) (λ f e. absurd cc) (λ b e. refl)

  fault_true : (f : LineError) (why : LineCause) → of_line n f ≡ reading.Line n why
      → HasLineError editor (numbered_lines bytes) n f
      → IsTrueOf editor (numbered_lines bytes) (reading.Line n why)
  fault_true line.Json why e r = subst (IsTrueOf editor (numbered_lines bytes)) e r
  fault_true line.Field why e r = subst (IsTrueOf editor (numbered_lines bytes)) e r
  fault_true line.Range why e r = subst (IsTrueOf editor (numbered_lines bytes)) e r
  fault_true line.OutOfMemory why e r = absurd cc

  -- the line denotes nothing
  line_faulted : (f : LineError) (why : LineCause) → denoted_by editor text ≡ Err f
      → of_line n f ≡ reading.Line n why → (u : Telling) → TellsOne (reading.Line n why) h.told u
      → HasChecked editor bytes left x u
  line_faulted f why d is u one = fault_told why u one
      (λ read. record {
        fault = tt;
        refuses = subst (RefusesChecked editor bytes) is
            (Refuses-fault bytes n text left x editor read f d);
      }) (fault_true f why is (record {
        text = text;
        there = subst (λ ls. Contains ls (n, text)) (sym h.whole)
            (Contains-append_right h.before ((n, text) ∷ left) (n, text)
            (Contains-cons_head (n, text) left));
        fault = d;
      })) (λ g e. let same : g ≡ f = cc in ap (of_line n) same ∙ is) (λ a e. absurd cc)

-- ---- what a function of a line answers

on_told : {E : Type 0} (r : Result ⊤ E) (P : Type 0) (e : ReadingError) (t u : Telling)
    → ((told : List Told) → HasTold told t → OnOk r (TellsOne e told u))
    → (((told : List Told) → HasTold told t → TellsOne e told u) → P) → OnOk r P
on_told (Ok v) P e t u tells f = f tells
on_told (Err w) P e t u tells f = tt

module _ (editor : Option ℕ) (n : ℕ) (text : List ℕ) (x y : ReplicaState) (t u : Telling)
    {E : Type 0} (r : Result ⊤ E) where
  pub goes_on_behind : (a : Op) → denoted_by editor text ≡ Ok (entry.Operation a)
      → (offered : ReplicaState) → Offers x a offered → OnOk r (StepsOn offered t y u)
      → OnOk r (GoesOn editor n text x t y u)
  goes_on_behind a d offered offers steps = on_ok_weaker r (λ s bytes left all. s editor bytes left
      (offer_begins editor bytes n text left x t all a d offered offers)) steps

  pub goes_on_clash : (a : Op) → denoted_by editor text ≡ Ok (entry.Operation a)
      → IsClash x.held x.ops a → y ≡ x
      → ((told : List Told) → HasTold told t
      → OnOk r (TellsOne (reading.Line n cause.Clash) told u))
      → OnOk r (GoesOn editor n text x t y u)
  goes_on_clash a d clash same tells = on_told r (GoesOn editor n text x t y u)
      (reading.Line n cause.Clash) t u tells
      (λ told bytes left all. subst (λ z. HasChecked editor bytes left z u) (sym same)
      (op_clashes editor bytes n text left x t all a d clash u
      (told all.tells.told all.tells.is)))

  pub goes_on_fault : (q : Got Entry) → (q ≡ Err line.OutOfMemory) ⊎ (q ≡ denoted_by editor text)
      → (f : LineError) (why : LineCause) → q ≡ Err f → of_line n f ≡ reading.Line n why → y ≡ x
      → ((told : List Told) → HasTold told t → OnOk r (TellsOne (reading.Line n why) told u))
      → OnOk r (GoesOn editor n text x t y u)
  goes_on_fault q known f why read is same tells = on_told r (GoesOn editor n text x t y u)
      (reading.Line n why) t u tells
      (λ told bytes left all. subst (λ z. HasChecked editor bytes left z u) (sym same)
      (line_faulted editor bytes n text left x t all f why denotes is u
      (told all.tells.told all.tells.is)))
    where
      denotes : denoted_by editor text ≡ Err f
      denotes = elim (fault_read q (denoted_by editor text) f known read) [
        | inl m ↦ (let g = subst (λ e. of_line n e ≡ reading.Line n why) m is in absurd cc)
        | inr d ↦ d
      ]

pub goes_on_command : (editor : Option ℕ) (n : ℕ) (text : List ℕ) (x : ReplicaState) (t : Telling)
    (c : EditCommand) → denoted_by editor text ≡ Ok (entry.Command c)
    → GoesOn editor n text x t x t
goes_on_command editor n text x t c d = λ bytes left all. command_passes editor bytes n text left x
    t all c d

-- ---- all lines

no_pairs : {X : Type 0} (R : X → X → Type 0) → AllPairs R []
no_pairs R i j d lt within = absurd (omega arith)

pub checked_none : (editor : Option ℕ) (bytes : List ℕ) (t : Telling) → HasTold [] t
    → HasChecked editor bytes (numbered_lines bytes) new_replica t
checked_none editor bytes t is = record {
  tells = record {
    told = [];
    is = is;
    first = HasRead-none editor bytes;
    before = [];
    whole = refl;
    each = λ n line e i d. absurd (not_Contains-nil (n, line) i);
    all = λ n line a i d. absurd (not_Contains-nil (n, line) i);
    denoted = λ a i. absurd (has_none a i);
    only = λ e c. absurd (not_Contains-nil e c);
    order = record { rises = no_pairs RisesTo; once = no_pairs (λ (e f : ReadingError). e ≢ f) };
    below = λ k i m why c. absurd (not_Contains-nil (reading.Line m why) c);
    one = λ a b i j e. absurd (has_none a i);
  };
  none = λ a i. absurd (not_Contains-nil a i);
}
  where
    has_none : (a : Op) → ¬ (HasOrHolds new_replica a)
    has_none a i = elim i [ inl k ↦ not_Contains-nil a k | inr k ↦ not_Contains-nil a k ]

told_all : (editor : Option ℕ) (bytes : List ℕ) (x : ReplicaState) (text : List ℕ)
    (told : List Told)
    → text ≡ told_text told → BeginsWith (HasRead editor bytes [] x) editor bytes told
    → TellsEach editor (numbered_lines bytes) told →
    KeepsUntold editor (numbered_lines bytes) told → TellsTrue editor (numbered_lines bytes) told
    → AreInOrder told → TellsOnLines told → AnswersText editor bytes text
told_all editor bytes x text [] is read each kept only order plain = nothing is
    (DenotesSome-read editor bytes x read)
told_all editor bytes x text (t ∷ ts) is fault each kept only order plain = faults (record {
  first = t;
  others = ts;
  is = is;
  refuses = fault;
  each = each;
  kept = kept;
  only = only;
  rises = order.rises;
  once = order.once;
  plain = plain;
})

pub checked_all : (editor : Option ℕ) (bytes : List ℕ) (x : ReplicaState) (t : Telling)
    → IsValid x.ops
    → HasChecked editor bytes [] x t → AnswersText editor bytes t.text.items
checked_all editor bytes x t valid all =
    let h = all.tells in
    let whole = sym (h.whole ∙ append-nil h.before) in
    told_all editor bytes x t.text.items h.told h.is.text h.first
    (subst (λ lines. TellsEach editor lines h.told) whole h.each)
    (subst (λ lines. KeepsUntold editor lines h.told) whole
    (record {
      replica = x;
      valid = valid;
      none = all.none;
      one = h.one;
      all = h.all;
      denoted = h.denoted;
    })) h.only h.order h.is.plain
