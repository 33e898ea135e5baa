use Rattle.std.proofs.Common.{List, subst}
use Rattle.roc_audit.specs.declared.entry.Entry.{Entry}
use Rattle.roc_audit.specs.Witness.{IsSerialWitness}
use Rattle.roc_law_world.specs.Witness.{witness_of}
use Rattle.roc_law_world.specs.World.{first_beginning}
use Rattle.roc_law_nodes.proofs.laws.interleaved_nodes_are_serial.Goals as goal

pub returns : goal.returns
returns c N moves all accepted r =
    let found = c.interleaved_nodes_are_a_world.ensures N moves all r in
    let steps = found.0 in
    let w = found.1 in
    let is = found.2 in
    let order = witness_of w in (
      order,
      subst (λ (h : List Entry). IsSerialWitness N.plan.program h order) is.history
          (c.witness_is_serial.ensures N.plan (first_beginning N.plan) N.coords steps w accepted (c.first_worlds_begin.ensures N.plan) is.run),
    )
