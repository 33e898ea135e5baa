-- An open view is in its last round, unless of a message of it, or of what it waits for, no delivery counts
use Rattle.std.proofs.Common.{◌≡◌, ◌∙◌, inl, inr, ℕ, ℤ, ◌<◌, true, List, Some, is_some, length, sym, ap, subst, refl, suc, map}
use Rattle.std.specs.Prelude.{slice_get}
use Rattle.roc_sequence.specs.Lists.{Has}
use Rattle.roc_sequence.proofs.Holds.{has_all, all_pass}
use Rattle.roc_base.specs.declared.id.TxnId.{TxnId}
use Rattle.roc_base.specs.declared.node.Shard.{Shard}
use Rattle.roc_depgraph.specs.Deps.{IsDecided}
use Rattle.roc_depgraph.specs.Reach.{direct, through, ReachesOrIs}
use Rattle.roc_depgraph.proofs.Chains.{weaker_chain}
use Rattle.roc_msg.specs.declared.msg.Msg.{Msg}
use Rattle.roc_msg.specs.declared.msg.Envelope.{Envelope}
use Rattle.roc_msg.specs.Msg.{id_of}
use Rattle.roc_plan.specs.Groups.{Plan, groups_of, is_view_of}
use Rattle.roc_step.specs.declared.started.StartedGroup.{StartedGroup}
use Rattle.roc_step.specs.State.{ServerState}
use Rattle.roc_coord.specs.State.{CoordState}
use Rattle.roc_readonly.specs.declared.view.View.{View}
use Rattle.roc_readonly.specs.Round.{view_groups, find_read, read_shard, is_full}
use Rattle.roc_audit.specs.declared.entry.Entry.TheVariants.{Submitted, Answered}
use Rattle.roc_law_protocol.specs.Quiet as transactions
use Rattle.roc_law_protocol.proofs.Undelivered.{number_of}
use Rattle.roc_law_world.specs.Quiet.{WritesFor, PrecedesIn, is_told, writes_for, AreDelivered, IsQuiet, IsInLastRound}
use Rattle.roc_law_world.specs.Run.{Stepped}
use Rattle.roc_law_world.specs.World.{World}
use Rattle.roc_law_world.proofs.Comings.{Came}
use Rattle.roc_law_world.proofs.RoundReads.{group_there}
use Rattle.roc_law_world.proofs.Calm.{read_of, IsKept, Done, IsCalm, AreCalm}

module _ (plan : Plan) (w : World) (uncounted : List ℕ) (a : AreCalm plan (record w { undelivered = uncounted })) (steps : List Stepped)
    (counted : (k : ℕ) → transactions.Counts (map (λ (s : Stepped). s.event) steps) w.sent (suc k) → ¬ Has (suc k) uncounted)
    (decided : (t : TxnId) → AreDelivered (transactions.PrecedesIn w.sent) steps w t → (shard : Shard) (s : ServerState) → slice_get w.servers shard.0 ≡ Some s
    → (e : StartedGroup) → Has e s.started → e.id ≡ t → IsDecided s.lists.links t)
    (t : TxnId) (quiet : IsQuiet plan steps w t) where
  module _ (c : CoordState) (at : slice_get w.coords t.coord ≡ Some c) (v : View) (has : Has v c.views) (id : v.id ≡ t) where
    abbrev now : World
    now = record w { undelivered = uncounted }

    abbrev calm : IsCalm plan (record w { undelivered = uncounted }) v
    calm = a.views t.coord c at v has

    -- each message of it in the network was delivered
    its_came : (m : Envelope) → Has m w.sent → (msg : Msg) → m.msg ≡ msg → id_of msg ≡ Some v.id → Came (record w { undelivered = uncounted }) m
    its_came m h msg is of = let p = number_of w.sent m h in (p.0, p.1, counted p.0 (quiet.each p.0 m t p.1 (ap id_of is ∙ (of ∙ ap (λ t. Some t) id)) (inl refl)))

    -- no read of the round under way is kept: who holds it up precedes the view, and so is decided
    none_kept : (g : ℕ) → ¬ IsKept plan w.viewing v g
    none_kept g (z, there, h) =
        let k = a.kept (read_shard plan v g).0 z there (read_of v g) h in
        let by = k.held.by in
        let holds : WritesFor plan w by.id t =
        record {
          proc = v.proc;
          args = v.args;
          submitted = subst (λ t. Has (Submitted t v.proc v.args) w.history) id calm.submitted;
          view = calm.view;
          shard = (read_shard plan v g).0;
          server = k.server;
          there = k.there;
          started = by;
          has = k.held.has;
          of = refl;
          undecided = k.held.undecided;
          round = v.round;
          group = g;
          writes = k.held.writes;
        }
        in
        k.held.undecided
        (decided by.id (record { each = λ i m u stands of reach. quiet.each i m u stands of (onwards u by.id (writes_for holds) reach) }) (read_shard plan v g) k.server
        k.there by k.held.has refl)
      where
        onwards : (u b : TxnId) → PrecedesIn plan w b t → ReachesOrIs (transactions.PrecedesIn w.sent) u b → ReachesOrIs (PrecedesIn plan w) u t
        onwards u b p (inl e) = inr (direct (subst (λ b. PrecedesIn plan w b t) (sym e) p))
        onwards u b p (inr chain) = inr (through (weaker_chain (transactions.PrecedesIn w.sent) (PrecedesIn plan w) (λ a b e. is_told e) u b chain) p)

    group_taken : (g : ℕ) → g < length (groups_of plan v.proc) → is_some (find_read g v.got) ≡ true
    group_taken g l =
        let r = calm.sent g l in
        elim (subst (Done plan now v) r.2 (calm.came r.0 (its_came r.0 r.1 _ r.2 refl)) refl refl) [
          | inl kept ↦ absurd (none_kept g kept)
          | inr told ↦ subst (Done plan now v) told.5 (calm.came told.0 (its_came told.0 told.1 _ told.5 refl)) refl refl
        ]

    full : is_full plan v ≡ true
    full = all_pass (λ g. is_some (find_read g v.got)) (view_groups plan v) (has_all (λ g. is_some (find_read g v.got) ≡ true) (view_groups plan v) (λ g h. group_taken g (group_there plan v g h)))

    in_last : IsInLastRound w t
    in_last = record { number = t.coord; coord = c; there = at; view = v; has = has; of = id; last = calm.lacks full }

  -- a quiet view is answered, unless it is in its last round
  pub quiet_answered : (proc : ℕ) (args : List ℤ) → Has (Submitted t proc args) w.history → is_view_of plan proc ≡ true → ¬ IsInLastRound w t → (reply : List ℤ) × Has (Answered t reply) w.history
  quiet_answered proc args h view more = elim (a.asked t proc args h view) [
    | inl o ↦ absurd (more (in_last o.0 o.1 o.2 o.3 o.4))
    | inr r ↦ r
  ]
