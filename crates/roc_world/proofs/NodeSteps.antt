-- What comes of a message, a submission, a drain or a tick at one of many nodes, by that node's own step
use Rattle.std.proofs.Common.{◌≡◌, ℕ, ℤ, ◌<◌, Bool, List, Option, Some, Result, Ok, Err, IfOk, length, get_or, slice_set, refl, sym, ap, ◌∙◌}
use Rattle.std.proofs.lemmas.Option.{slice_get-get_or}
use Rattle.roc_base.specs.declared.id.TxnId.{TxnId}
use Rattle.roc_msg.specs.declared.msg.Msg.{Msg}
use Rattle.roc_msg.specs.Outbox.{Collected, HasSent}
use Rattle.roc_plan.specs.Groups.{Plan}
use Rattle.roc_epoch.specs.declared.file.File.{File}
use Rattle.roc_epoch.specs.declared.next.Next.{Next}
use Rattle.roc_grown.specs.declared.handled.GrownHandled.{GrownHandled}
use Rattle.roc_grown.specs.declared.handled.GrownAnswer.{GrownAnswer}
use Rattle.roc_grown.specs.declared.handled.GrownFault.{GrownFault}
use Rattle.roc_grown.specs.Server.{GrownServerState, GrownStep, GrownHandles, ShowsGrown, restarted, grown_server_tick}
use Rattle.roc_grown.specs.Coord.{GrownCoordState, after_drain, IsDrainStep, after_grown_submit, IsGrownSubmission, after_grown_message, IsGrownOutcome, grown_tick_sends}
use Rattle.roc_world.specs.Inner.Nodes.{answer_of, ServerTakes, CoordTakes, CoordSubmits, CoordDrains, ServerTicks, ServerRestarts, CoordTicks}

module _ (servers : List GrownServerState) (shard : ℕ) (s after : GrownServerState) (within : shard < length servers) (is : s ≡ get_or servers shard s) where
  pub server_takes :
      (plan : Plan) (next : Option Next) (file : File) (msg : Msg) (answer : GrownHandled) (switched : Bool) (before out : Collected) → switched ≡ after.switched
      → (g : GrownStep) × GrownHandles plan next s file msg g × ShowsGrown g answer after before out → ServerTakes plan next shard file msg answer switched servers (slice_set servers shard after) before out
  server_takes plan next file msg answer switched before out stands (g, handles, shows) =
      record {
        server = s;
        there = slice_get-get_or servers shard s within ∙ ap Some (sym is);
        step = g;
        handles = handles;
        shows = record { answers = shows.answers; keeps = refl; sends = shows.sends; decides = shows.decides; ran = shows.ran };
        stands = stands ∙ ap (λ (t : GrownServerState). t.switched) (sym shows.keeps);
        others = ap (slice_set servers shard) (sym shows.keeps);
      }

  pub server_ticks :
      (switched : Bool) (before out : Collected) → switched ≡ after.switched → HasSent before out (grown_server_tick s) → after ≡ s → ServerTicks shard switched servers (slice_set servers shard after) before out
  server_ticks switched before out stands sent same =
      record {
        server = s;
        there = slice_get-get_or servers shard s within ∙ ap Some (sym is);
        sent = sent;
        stands = stands ∙ ap (λ (t : GrownServerState). t.switched) same;
        others = ap (slice_set servers shard) same;
      }

  pub server_restarts : after ≡ restarted s → ServerRestarts shard servers (slice_set servers shard after)
  server_restarts same = record { server = s; there = slice_get-get_or servers shard s within ∙ ap Some (sym is); others = ap (slice_set servers shard) same }

module _ (coords : List GrownCoordState) (number : ℕ) (s after : GrownCoordState) (within : number < length coords) (is : s ≡ get_or coords number s) where
  pub coord_takes :
      (plan : Plan) (next : Option Next) (file : File) (msg : Msg) (answer : GrownAnswer) (switched : Bool) (before out : Collected) → switched ≡ after.switched
      → IsGrownOutcome (after_grown_message plan next s file msg) answer after before out → CoordTakes plan next number file msg answer switched coords (slice_set coords number after) before out
  coord_takes plan next file msg answer switched before out stands outcome =
      record {
        coord = s;
        there = slice_get-get_or coords number s within ∙ ap Some (sym is);
        outcome = record { answer = outcome.answer; state = refl; sent = outcome.sent };
        stands = stands ∙ ap (λ (c : GrownCoordState). c.switched) outcome.state;
        others = ap (slice_set coords number) outcome.state;
      }

  pub coord_submits :
      (plan : Plan) (next : Option Next) (proc : ℕ) (args : List ℤ) (taken : Result (TxnId × Bool) GrownFault) (before out : Collected) → IfOk taken (λ t. t.1 ≡ after.switched)
      → IsGrownSubmission (after_grown_submit plan next s proc args) (answer_of taken) after before out → CoordSubmits plan next number proc args taken coords (slice_set coords number after) before out
  coord_submits plan next proc args taken before out stands submitted =
      record {
        coord = s;
        there = slice_get-get_or coords number s within ∙ ap Some (sym is);
        submitted = record { answer = submitted.answer; state = refl; sent = submitted.sent };
        stands = stands_too taken stands;
        others = ap (slice_set coords number) submitted.state;
      }
    where
      stands_too : (t : Result (TxnId × Bool) GrownFault) → IfOk t (λ t. t.1 ≡ after.switched) → IfOk t (λ t. t.1 ≡ (after_grown_submit plan next s proc args).state.switched)
      stands_too (Ok t) h = h ∙ ap (λ (c : GrownCoordState). c.switched) submitted.state
      stands_too (Err fault) h = h

  pub coord_drains :
      (plan : Plan) (switched : Bool) (before out : Collected) → switched ≡ after.switched → IsDrainStep (after_drain plan s) after before out → CoordDrains plan number switched coords (slice_set coords number after) before out
  coord_drains plan switched before out stands drained =
      record {
        coord = s;
        there = slice_get-get_or coords number s within ∙ ap Some (sym is);
        drained = record { state = refl; sent = drained.sent };
        stands = stands ∙ ap (λ (c : GrownCoordState). c.switched) drained.state;
        others = ap (slice_set coords number) drained.state;
      }

  pub coord_ticks :
      (plan : Plan) (next : Option Next) (switched : Bool) (before out : Collected) → switched ≡ after.switched → HasSent before out (grown_tick_sends plan next s) → after ≡ s
      → CoordTicks plan next number switched coords (slice_set coords number after) before out
  coord_ticks plan next switched before out stands sent same =
      record {
        coord = s;
        there = slice_get-get_or coords number s within ∙ ap Some (sym is);
        sent = sent;
        stands = stands ∙ ap (λ (c : GrownCoordState). c.switched) same;
        others = ap (slice_set coords number) same;
      }
