use Rattle.std.proofs.Common.{sym, ◌∙◌}
use Rattle.gf_ops.specs.declared.op.OpId.{OpId}
use Rattle.gf_versions.proofs.MakerLemmas.{maker_member, maker_gives}
use Rattle.gf_versions.proofs.SettlingLemmas.{last_first, next_absent, next_stays, next_taken}
use Rattle.gf_versions.proofs.settling.last_setter.Goals as goal
use Rattle.gf_versions.proofs.settling.last_setter.Goals.{in-Some+then-sets+then-before}
use Rattle.gf_versions.proofs.settling.last_setter.Goals.{in-Some+else-sets}
use Rattle.gf_versions.proofs.settling.last_setter.Goals.{else-sets-via-then-sets+else-before}
use Rattle.gf_versions.proofs.settling.last_setter.Goals.{else-sets-via-else-sets, in_default}

pub loop-id-init : goal.loop-id-init
loop-id-init c =
    let made = c.maker-last.ensures in
    let h = c.args.history.now.ops in
    let g = c.args.group.now in
    last_first h g.ops c.args.attribute c.maker-last.result.now
    (maker_member h made.valid g.object g.ops c.requires.version c.maker-last.result.now
    made.contained made.id)
    (maker_gives h made.valid g.object g.ops c.requires.version c.maker-last.result.now
    c.args.attribute made.contained made.id c.requires.has)

pub loop-id-preserved : goal.loop-id-preserved
loop-id-preserved c =
    let h = c.args.history.now.ops in
    let g = c.args.group.now.ops in
    let t = c.args.attribute in
    let n = c.loop-id.id-index in
    let a = c.loop-id.last.now in
    let valid = c.maker-last.ensures.valid in
    let same = c.as_slice-id-items.ensures in
    let within = rw same at c.loop-id-test.true in
    let last = rw same at c.loop-id.invariant in
    rw same (elim c.match-get.branch [
      | in-Some+then-sets+then-before w ↦
          let b = w.in-Some.op.now in
          let found = rw same at w.in-Some.ensures.found in
          rw w.last-is (next_taken h valid g t n none within a last b found.0 found.1
          (sym w.sets.ensures ∙ w.if-sets.true) (w.before-then-sets.ensures.0 w.if-before.true))
      | in-Some+else-sets w ↦
          let b = w.in-Some.op.now in
          let found = rw same at w.in-Some.ensures.found in
          rw w.last-is (next_stays h valid g t n none within a last b found.0 found.1
          (elim w.else-sets.branch [
            | else-sets-via-then-sets+else-before v ↦ λ s p. let yes = v.before-then-sets.ensures.1
                p in let no = v.if-before.false in absurd cc
            | else-sets-via-else-sets v ↦ λ s p. let no = v.if-sets.false in
                let told = w.sets.ensures in absurd cc
          ]))
      | in_default w ↦ let absent = rw same at w.in_default.ensures.none in
          rw w.last-is (next_absent h valid g t n none within a last absent)
    ])
  where
    none : OpId
    none = record { site = 0; seq = 0 }
