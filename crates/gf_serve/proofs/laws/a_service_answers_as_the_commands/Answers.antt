use Rattle.std.proofs.Common.{Ok}
use Rattle.gf_replay.specs.Denoting.{Denotes}
use Rattle.gf_take_run.proofs.TakeLemmas.{text_taken}
use Rattle.gf_serve.proofs.laws.a_service_answers_as_the_commands.Goals as goal

pub returns-clause-named : goal.returns-clause-named
returns-clause-named c = λ lines known answer are tells.
    let denoted : Denotes lines tells.history =
    record { ops = known; lines = are; delivers = tells.divided.delivers } in (
      record { history = tells.history; denoted = denoted; such = tells.text },
      record { history = tells.history; denoted = denoted; such = tells.thin },
      record {
        history = tells.history;
        waiting = tells.waiting;
        denoted = record {
          ops = known;
          lines = are;
          delivers = tells.divided.delivers;
          others = tells.divided.others;
        };
        count = tells.wait;
      },
    )

pub returns-clause-status : goal.returns-clause-status
returns-clause-status c = λ lines known notation answer are tells. record {
  history = tells.history;
  waiting = tells.waiting;
  denoted = record {
    ops = known;
    lines = are;
    delivers = tells.divided.delivers;
    others = tells.divided.others;
  };
  tells = tells.tells;
}

pub returns-clause-take : goal.returns-clause-take
returns-clause-take c = λ q text lines fig known h new answer parted are takes.
    text_taken q text lines fig parted (Ok answer)
    (record { ops = known; denoted = are; history = h; new = new; takes = takes })
