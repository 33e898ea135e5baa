-- What is said of views holds where fewer messages were sent and no read is kept
use Rattle.std.proofs.Common.{ℕ, List, sym, subst}
use Rattle.roc_base.specs.declared.id.TxnId.{TxnId}
use Rattle.roc_msg.specs.declared.msg.Envelope.{Envelope}
use Rattle.roc_plan.specs.Groups.{Plan}
use Rattle.roc_rows.specs.Versions.{Counts}
use Rattle.roc_whole.specs.Serial as whole
use Rattle.roc_law_log.specs.Log.{Log}
use Rattle.roc_law_log.specs.Scheme.{Scheme}
use Rattle.roc_step.specs.State.{Viewing}
use Rattle.roc_readonly.specs.declared.view.View.{View}
use Rattle.roc_law_protocol.specs.Beginnings as protocol
use Rattle.roc_law_world.specs.World.{World}
use Rattle.roc_law_world.proofs.Readings.{AreVersions}
use Rattle.roc_law_world.proofs.ViewMeans.{IsOfRounds, IsViewKept, ViewsMean}
use Rattle.roc_law_world.proofs.Stops.{Loses, less}

module _ (plan : Plan) (calls : TxnId → whole.Call) (asked : TxnId → whole.Call) (S : Scheme) (start : protocol.Beginning) (before : ℕ → Counts) where
  module _ (w : World) (log : Log) (sent : List Envelope) (undelivered : List ℕ) (viewing : List Viewing) (l : Loses w sent viewing) where
    abbrev v : World
    v = less w sent undelivered viewing

    rounds_less : (since : Log) (id : TxnId) (round : ℕ) → IsOfRounds plan calls asked S start before w since log id round → IsOfRounds plan calls asked S start before (less w sent undelivered viewing) since log id round
    rounds_less since id round o =
        record {
          reads = λ m h. o.reads m (l.sent m h);
          kept = λ n z at q h. (let y = l.viewing n z at in o.kept n y.0 y.1 q (y.3 q h));
          oks = λ m h. o.oks m (l.sent m h);
        }

    view_less : (x : View) → IsViewKept plan calls asked S start before w log x → IsViewKept plan calls asked S start before (less w sent undelivered viewing) log x
    view_less x k =
        record {
          since = k.since;
          reached = k.reached;
          grows = k.grows;
          last_look = k.last_look;
          submitted = k.submitted;
          unanswered = k.unanswered;
          view = k.view;
          procedure = k.procedure;
          arguments = k.arguments;
          rounds = rounds_less k.since x.id x.round k.rounds;
          got = k.got;
          last = k.last;
        }

    pub loses_means : ViewsMean plan calls asked S start before w log → ViewsMean plan calls asked S start before (less w sent undelivered viewing) log
    loses_means o =
        record {
          versions = λ n z at. (let y = l.viewing n z at in subst (AreVersions plan asked S start before log n) (sym y.2) (o.versions n y.0 y.1));
          are_for = record {
            messages = λ m h. o.are_for.messages m (l.sent m h);
            kept = λ n z at q h. (let y = l.viewing n z at in o.are_for.kept n y.0 y.1 q (y.3 q h));
          };
          views = λ n c at x h. view_less x (o.views n c at x h);
          answered = λ id reply view h. (let a = o.answered id reply view h in record { behind = a.behind; last_look = a.last_look; few = a.few; is = a.is });
          given = o.given;
          numbers = o.numbers;
          told = o.told;
          own = o.own;
          one = o.one;
        }
