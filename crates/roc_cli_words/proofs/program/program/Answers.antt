-- The commands are joined in their order.
use Rattle.roc_cli_words.specs.Program.{program_app}
use Rattle.roc_cli_words.proofs.program.program.Goals as goal

pub returns : goal.returns
unfolding program_app
returns c =
    let first = c.under-program.ensures _ _ c.bare_command.ensures (c.used_as-check.ensures _ c.workload_command.ensures) in
    let second = c.joined-program.ensures _ _ first (c.used_as-print.ensures _ c.workload_command-2.ensures) in
    let third = c.joined-program-2.ensures _ _ second (c.used_as-replay.ensures _ c.replay_command.ensures) in
    let fourth = c.joined-program-3.ensures _ _ third (c.used_as-serve.ensures _ c.serve_command.ensures) in
    let fifth = c.joined-program-4.ensures _ _ fourth (c.used_as-submit.ensures _ c.submit_command.ensures) in
    let sixth = c.joined-program-5.ensures _ _ fifth (c.used_as-stop.ensures _ c.cluster_command.ensures) in
    let seventh = c.joined-program-6.ensures _ _ sixth (c.used_as-local.ensures _ c.local_command.ensures) in
    let eighth = c.joined-program-7.ensures _ _ seventh (c.used_as-load.ensures _ c.gen_command.ensures) in
    c.joined.ensures _ _ eighth (c.used_as-audit.ensures _ c.audit_command.ensures)
