-- What is quiet in a world with views is quiet beside
use Rattle.std.proofs.Common.{◌≡◌, inl, inr, suc, Bool, List, Some, subst, map}
use Rattle.std.specs.Prelude.{slice_get}
use Rattle.roc_sequence.specs.Lists.{Has}
use Rattle.roc_sequence.proofs.Members.{from_has_filter}
use Rattle.roc_base.specs.declared.id.TxnId.{TxnId}
use Rattle.roc_depgraph.specs.Reach.{Reaches, direct, through, ReachesOrIs}
use Rattle.roc_plan.specs.Groups.{Plan}
use Rattle.roc_law_protocol.specs.World as transactions
use Rattle.roc_law_protocol.specs.Run as their_runs
use Rattle.roc_law_protocol.specs.Quiet as theirs
use Rattle.roc_law_world.specs.World.{World}
use Rattle.roc_law_world.specs.Run.{Stepped}
use Rattle.roc_law_world.specs.Beside.{is_of_transaction, IsBeside}
use Rattle.roc_law_world.specs.Quiet.{AreDelivered}
use Rattle.roc_law_world.proofs.Ranks.{from_rank}
use Rattle.roc_law_world.proofs.Runs.{AreCountsBeside}

module _ (is_view : TxnId → Bool) (w : World) (t : transactions.World) (o : IsBeside is_view w t) where
  -- a startok of the one network is in the other
  precedes : (u x : TxnId) → theirs.PrecedesIn t.sent u x → theirs.PrecedesIn w.sent u x
  precedes u x p =
      record {
        group = p.group;
        edges = p.edges;
        facts = p.facts;
        told = record {
          message = p.told.message;
          has = (from_has_filter is_of_transaction p.told.message w.sent (subst (Has p.told.message) o.sent p.told.has)).0;
          shard = p.told.shard;
          bound = p.told.bound;
          outs = p.told.outs;
          is = p.told.is;
        };
        entry = p.entry;
        listed = p.listed;
        from = p.from;
      }

  reaches : (u x : TxnId) → Reaches (theirs.PrecedesIn t.sent) u x → Reaches (theirs.PrecedesIn w.sent) u x
  reaches u x (direct e) = direct (precedes u x e)
  reaches u x (through {s = s} r e) = through (reaches u s r) (precedes s x e)

  reaches_or_is : (u x : TxnId) → ReachesOrIs (theirs.PrecedesIn t.sent) u x → ReachesOrIs (theirs.PrecedesIn w.sent) u x
  reaches_or_is u x (inl e) = inl e
  reaches_or_is u x (inr r) = inr (reaches u x r)

  pub quiet_beside : (plan : Plan) (steps : List Stepped) (others : List their_runs.Stepped) → AreCountsBeside (map (λ (s : Stepped). s.event) steps) (map (λ (s : their_runs.Stepped). s.event) others) w t
      → (x : TxnId) → AreDelivered (theirs.PrecedesIn w.sent) steps w x → theirs.IsQuiet plan others t x
  quiet_beside plan steps others c x q =
      record {
        each = λ k m u at of r.
            (let f = from_rank is_of_transaction w.sent k m (subst (λ l. slice_get l k ≡ Some m) o.sent at) in
            subst (λ n. theirs.Counts (map (λ (s : their_runs.Stepped). s.event) others) t.sent (suc n)) f.3 (c.counts f.0 m f.1 f.2 (q.each f.0 m u f.1 of (reaches_or_is u x r))));
      }
