use Rattle.std.proofs.Common.{map, take}
use Rattle.roc_msg.specs.Outbox.{HasSent}
use Rattle.roc_server_reads.specs.Answering.{readok_over}
use Rattle.roc_step.specs.Reads.{with_accesses}
use Rattle.roc_server_reads.proofs.readoks.send_readoks.Given as goal

-- those so far were answered
abbrev pub invariant-loop-kept : goal.invariant-loop-kept
invariant-loop-kept l = HasSent l.initial.sends l.sends (map (readok_over l.plan l.shard l.rows.store (with_accesses l.versions.counts l.initial.sends.ran)) (take l.kept-index l.reads))
