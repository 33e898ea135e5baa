-- What comes of a step for reads follows from what it leaves
use Rattle.std.proofs.Common.{◌≡◌, not, List, [], Option, map, filter, if◌then◌else◌, sym, ap, subst, ◌∙◌}
use Rattle.roc_base.specs.declared.id.TxnId.{TxnId}
use Rattle.roc_base.specs.declared.node.Shard.{Shard}
use Rattle.roc_msg.specs.declared.msg.Msg.{Msg}
use Rattle.roc_msg.specs.declared.outbox.Ran.{Ran}
use Rattle.roc_msg.specs.Outbox.{Collected, HasSent}
use Rattle.roc_plan.specs.Groups.{Plan}
use Rattle.roc_group.specs.GroupRun.{group_uses}
use Rattle.roc_step.specs.declared.handled.Handled.{Handled}
use Rattle.roc_step.specs.declared.kept_read.KeptRead.{KeptRead}
use Rattle.roc_step.specs.New.{AreDecided}
use Rattle.roc_step.specs.Reads.{in_turn, is_free, is_taken, read_call, readok_of, reads_with, with_accesses, ReadStep}
use Rattle.roc_step.specs.State.{ServerState, Viewing}
use Rattle.roc_server.specs.declared.parts.ServerParts.{ServerParts}
use Rattle.roc_server_reads.specs.Answering.{read_step_behind, AreReadsFound}
use Rattle.roc_server_reads.specs.Behind.{is_free_behind, LeftBehind}
use Rattle.roc_server_reads.specs.declared.views.StayingReads.{StayingReads}
use Rattle.roc_server.specs.Inner.Answering.{left_behind, read_step, FindsReads}
use Rattle.roc_server.specs.Inner.Parts.{state_behind, IsSound}
use Rattle.roc_server.proofs.HeldUp.{held_behind}

module _ (plan : Plan) (shard : Shard) (k : ServerParts) (sound : IsSound k) where
  abbrev s : ServerState
  s = state_behind shard k

  abbrev b : LeftBehind
  b = left_behind k

  free_same : (decided : List TxnId) → AreDecided s.lists.links decided → (q : KeptRead) → is_free plan decided s q ≡ is_free_behind plan b q
  free_same decided are q = ap not (held_behind k sound decided are (group_uses plan (read_call q) s.store))

  step_same : (v : Viewing) (msg : Msg) (answer : Handled) (ran : List Ran) (decided : List TxnId) → AreDecided s.lists.links decided
      → read_step plan decided v msg answer s ran ≡ read_step_behind plan shard b v msg answer ran
  step_same v msg answer ran decided are = λ i.
      if is_taken answer
      then record {
        viewing = record { versions = with_accesses v.versions ran; reads = filter (λ q. not (free_same decided are q i)) (reads_with msg answer v.reads) };
        sends = map (λ q. readok_of plan s (with_accesses v.versions ran) q) (in_turn (filter (λ q. free_same decided are q i) (reads_with msg answer v.reads)));
      }
      else record { viewing = v; sends = [] }

  pub found_so : (v : Viewing) (msg : Msg) (answer : Handled) (old new : Collected) (stays : Option StayingReads) (left : LeftBehind) → left ≡ b
      → AreReadsFound plan shard left v msg answer old new stays → FindsReads plan s v msg answer old new stays
  found_so v msg answer old new stays left is found = record {
    step = λ decided are.
        let h : AreReadsFound plan shard b v msg answer old new stays = subst (λ l. AreReadsFound plan shard l v msg answer old new stays) is found in
        let same : read_step plan decided v msg answer s old.ran ≡ read_step_behind plan shard b v msg answer old.ran = step_same v msg answer old.ran decided are in
        (ap (λ (r : ReadStep). r.viewing) same ∙ h.viewing, subst (HasSent old new) (sym (ap (λ (r : ReadStep). r.sends) same)) h.sent);
  }
