use Rattle.std.proofs.Common.{rules}
use Rattle.std.proofs.lemmas.Result.{err_from_is_err_and}
use Rattle.gf_json.proofs.ArrayLemmas.{clock_of_eight, entries_limited, first_fault, last_fault}
use Rattle.gf_json.proofs.reading.values.clock_of.Goals as goal

pub returns-in_err-first : goal.returns-in_err-first
returns-in_err-first c =
    let p = err_from_is_err_and c.from_residual.result c.from_residual.ensures.1 in
    rw (
      p.1,
      p.2,
      clock_of_eight c.args.values.now _ _ _ _ _ _ _ _ c.in-len8.len_at_least c.in-len8.len_below
          c.a-item.is c.b-item.is c.c-item.is c.d-item.is c.e-item.is c.f-item.is c.g-item.is
          c.h-item.is,
    ) (first_fault _ _ _ (search rules))

pub returns-in_err-last : goal.returns-in_err-last
returns-in_err-last c =
    let p = err_from_is_err_and c.from_residual-in_err-last.result
    c.from_residual-in_err-last.ensures.1 in
    rw (
      p.1,
      p.2,
      clock_of_eight c.args.values.now _ _ _ _ _ _ _ _ c.in-len8.len_at_least c.in-len8.len_below
          c.a-item.is c.b-item.is c.c-item.is c.d-item.is c.e-item.is c.f-item.is c.g-item.is
          c.h-item.is,
    ) (last_fault _ _ _ (search rules))

pub returns : goal.returns
returns c =
    rw (
      c.eight.ensures,
      clock_of_eight c.args.values.now _ _ _ _ _ _ _ _ c.in-len8.len_at_least c.in-len8.len_below
          c.a-item.is c.b-item.is c.c-item.is c.d-item.is c.e-item.is c.f-item.is c.g-item.is
          c.h-item.is,
    ) (entries_limited _ _ _ _ (search rules) (search rules))
