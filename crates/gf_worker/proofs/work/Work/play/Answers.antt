use Rattle.std.proofs.Common.{sym, subst}
use Rattle.gf_worker.specs.Playing.{PlaysOn}
use Rattle.gf_worker.proofs.work.Work.play.Goals as goal

pub returns-in-Author : goal.returns-in-Author
returns-in-Author g c = subst (λ m. PlaysOn c.args.number m c.args.self.now c.play_author.new.self)
    (sym c.in-Author.is) c.play_author.ensures

pub returns-in-Await : goal.returns-in-Await
returns-in-Await g c = subst (λ m. PlaysOn c.args.number m c.args.self.now c.play_await.new.self)
    (sym c.in-Await.is) c.play_await.ensures
