use Rattle.std.proofs.Common.{arith, rules, ◌<◌, length, ℕ}
use Rattle.std.proofs.lemmas.Grind.{common_steps}
use Rattle.gf_plane.specs.declared.colour.Rgb.{Rgb}
use Rattle.gf_plane.specs.ColourBytes.{HasBytes}
use Rattle.gf_fig_write.proofs.TableLemmas.{flat_map_next}
use Rattle.gf_fig_write.proofs.GatheringLemmas.{one_entry_more}
use Rattle.gf_fig_write.proofs.colours.push_table.Goals as goal

pub loop-i-preserved : goal.loop-i-preserved
loop-i-preserved c =
    let within : c.loop-i.i < length c.args.table.now = search rules in
    record {
      text = grind (arith, common_steps, flat_map_next);
      bytes = one_entry_more (λ (e : ℕ × Rgb). HasBytes e.1) c.args.table.now c.loop-i.i within
          c.loop-i.invariant.bytes c.in_ok-push_entry.ensures.bytes;
    }
