use Rattle.std.proofs.Common.{List, Some, subst}
use Rattle.roc_audit.specs.declared.entry.Entry.{Entry}
use Rattle.roc_audit.specs.Witness.{IsSerialWitness}
use Rattle.roc_whole.specs.Serial.{start_store}
use Rattle.roc_two_files.specs.Filed.{IsFiledWitness}
use Rattle.roc_growth.specs.World.{is_second}
use Rattle.roc_growth.specs.Witness.{witness_of}
use Rattle.roc_law_grown_nodes.proofs.laws.interleaved_grown_nodes_are_serial.Goals as goal

pub returns : goal.returns
returns c N moves all accepted next r =
    let found = c.interleaved_grown_nodes_are_a_world.ensures N moves all next.1 r in
    let steps = found.0 in
    let w = found.1 in
    let is = found.2 in
    let order = witness_of w in (
      steps,
      w,
      is,
      order,
      subst (λ (h : List Entry). IsFiledWitness N.plan.program N.next.plan.program (is_second w) (start_store N.plan.program) h order) is.history
          (c.witness_is_serial.ensures.filed N.plan (Some N.next) N.next.coords steps w accepted next is.run),
      subst (λ (h : List Entry). IsSerialWitness N.next.plan.program h order) is.history (c.witness_is_serial.ensures.plain N.plan (Some N.next) N.next.coords steps w accepted next is.run),
      c.files_stay_apart.ensures N.plan (Some N.next) N.next.coords steps w accepted next is.run,
    )
