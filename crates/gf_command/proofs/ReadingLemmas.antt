-- What clap's clauses tell of the options and of the faults.
use Rattle.std.proofs.Common.{◌≡◌, ◌∙◌, ℕ, [], true, refl, sym, Option, Some, None, Result, Ok, Err}
use Rattle.std.proofs.Common.{IfErr, IfSome, OnOk}
use Rattle.std.specs.Str.Parse.{ParsesUnsigned}
use Rattle.clap.specs.Words.{FailsBy, HasKind, Kinds, ReadsOne, Text, is_simple, is_simple_and_free}
use Rattle.clap.specs.Words.{one_text, rows_of}
use Rattle.clap.specs.declared.error.Error.{Error}
use Rattle.clap.specs.declared.parser.matches.Found.{Found}
use Rattle.clap.proofs.OnLiterals.{clap_on_literals}
use Rattle.clap.proofs.WalkLemmas.{one_text-rows}
use Rattle.gf_command.specs.CommandLine.{program}
use Rattle.gf_command.specs.Asking.{HasNatural}

pub program_simple : is_simple program ≡ true
unfolding clap_on_literals
program_simple = refl

pub program_free : is_simple_and_free program ≡ true
unfolding clap_on_literals
program_free = refl

-- an error has one of the kinds
pub has_kind : {T : Type 0} (kinds : Kinds) (r : Result T Error) → FailsBy kinds r
    → IfErr r (HasKind kinds)
has_kind kinds (Ok x) h = tt
has_kind kinds (Err e) h = h

-- an answer comes only where there is no kind
pub no_kind : {T : Type 0} (kinds : Kinds) (r : Result T Error) → FailsBy kinds r
    → OnOk r (kinds ≡ [])
no_kind kinds (Ok x) h = h
no_kind kinds (Err e) h = tt

-- a number that was read is that of the option's text
pub natural_given : (E : Type 0) (G : Text → Result ℕ E → Type 0) (k : ℕ) (f : Found) (name : Text)
    (r : Option ℕ)
    → ((t : Text) (x : Result ℕ E) → G t x → ParsesUnsigned k 10 t x)
    → (one_text f name ≡ None → r ≡ None) → ((t : Text) → one_text f name ≡ Some t → ReadsOne G t r)
    → IfSome r (HasNatural (rows_of f) name)
natural_given E G k f name None reads none value = tt
natural_given E G k f name (Some n) reads none value = go (one_text f name) refl
  where
    go : (o : Option Text) → one_text f name ≡ o → HasNatural (rows_of f) name n
    go None e = let bad : Some n ≡ None = none e in cc
    go (Some t) e = record {
      text = t;
      given = sym (one_text-rows f name) ∙ e;
      value = (reads t (Ok n) (value t e)).1;
    }
