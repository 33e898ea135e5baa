-- What a node skips
use Rattle.std.proofs.Common.{◌≡◌, ◌≢◌, ◌↔◌, ◌∙◌, ◌-◌, ℕ, Bool, true, false, cond, ◌||◌, [], ◌∷◌, ◌++◌, Option, Some, None, refl, sym, ap, subst}
use Rattle.std.proofs.lemmas.Bool.{false≢true}
use Rattle.std.specs.Prelude.{slice_get, nat_lt}
use Rattle.roc_sequence.proofs.Members.{same_there}
use Rattle.roc_base.specs.declared.id.TxnId.{TxnId}
use Rattle.roc_base.specs.declared.node.Node.{Node}
use Rattle.roc_base.specs.declared.node.Node.TheVariants.{Server, Coord}
use Rattle.roc_base.specs.declared.node.Shard.{Shard}
use Rattle.roc_msg.specs.declared.msg.Msg.{Msg}
use Rattle.roc_msg.specs.declared.msg.Msg.TheVariants.{Drained, Switched}
use Rattle.roc_msg.specs.declared.reason.Reason.{Reason}
use Rattle.roc_msg.specs.declared.reason.Reason.TheVariants.{Foreign}
use Rattle.roc_plan.specs.Groups.{Plan}
use Rattle.roc_coord.specs.declared.handled.Handled.{Handled}
use Rattle.roc_coord.specs.declared.handled.Handled.TheVariants as core_answer
use Rattle.roc_coord.specs.Step.{after_message}
use Rattle.roc_step.specs.declared.handled.Handled.{Handled as ServerHandled}
use Rattle.roc_step.specs.declared.handled.Handled.TheVariants as core_server_answer
use Rattle.roc_epoch.specs.declared.file.File.{File}
use Rattle.roc_epoch.specs.declared.next.Next.{Next}
use Rattle.roc_epoch.specs.Files.{is_between, is_file, is_for, own_file, own_plan}
use Rattle.roc_epoch.proofs.Files.{same_file, other_file}
use Rattle.roc_two_files.specs.Sealed.{Sealed}
use Rattle.roc_grown.specs.declared.handled.GrownAnswer.TheVariants as coord_answer
use Rattle.roc_grown.specs.Server as server
use Rattle.roc_grown.specs.Server.{GrownServerState, GrownStep, GrownHandles, of_drained, of_switched, of_other, of_own, after_drained}
use Rattle.roc_grown.specs.Coord as coord
use Rattle.roc_grown.specs.Coord.{GrownCoordState, after_grown_message, after_switched, after_filed, unchanged}
use Rattle.roc_growth.specs.declared.event.Event.TheVariants.{Deliver}
use Rattle.roc_growth.specs.declared.event.Seen.TheVariants as seen
use Rattle.roc_growth.specs.World.{GrownWorld, mark_delivered}
use Rattle.roc_growth.specs.Happens.{Outcome, server_seen, coord_seen, IsReceived, Happens}
use Rattle.roc_growth.specs.Receivers.{StandsAs}

-- ---- servers

-- what became of a message is none of these
ran : (answer : ServerHandled) → server_seen (server.handled_so answer) ≢ seen.Skipped
ran core_server_answer.Done e = cc
ran core_server_answer.Gone e = cc
ran (core_server_answer.Ignored why) e = cc

over : (next : Next) (s : GrownServerState) → server_seen (server.over_if_all next s).answer ≢ seen.Skipped
over next s = go (server.have_all_drained next.coords s.drained)
  where
    go : (b : Bool) → server_seen (cond b (server.taken_at (server.gone_over s) (server.switched_sends s.core.shard next.coords s.drained)) (server.taken_at s [])).answer ≢ seen.Skipped
    go true e = cc
    go false e = cc

told : (next : Next) (s : GrownServerState) (upto : TxnId) → server_seen (server.told_drained next s upto).answer ≢ seen.Skipped
told next s upto = go s.switched
  where
    go : (b : Bool)
        → server_seen
        (cond b (server.taken_at s (server.switched_to s.core.shard upto ∷ [])) (server.over_if_all next (record s { drained = server.with_drained upto s.drained }))).answer
        ≢ seen.Skipped
    go true e = cc
    go false e = over next (record s { drained = server.with_drained upto s.drained }) e

drained : (next : Option Next) (s : GrownServerState) (upto : TxnId) → server_seen (after_drained next s upto).answer ≢ seen.Skipped
drained None s upto e = cc
drained (Some next) s upto e = go (nat_lt upto.coord next.coords) e
  where
    go : (b : Bool) → server_seen (cond b (server.told_drained next s upto) (server.foreign_at s)).answer ≢ seen.Skipped
    go true e = told next s upto e
    go false e = cc

-- a test of a message that is of some file
own_or_other : (b c : Bool) → b ≡ false → (b || c) ≡ c
own_or_other true c e = absurd (false≢true (sym e))
own_or_other false c e = refl

pub server_skips : (plan : Plan) (next : Option Next) (s : GrownServerState) (file : File) (msg : Msg) (g : GrownStep) → GrownHandles plan next s file msg g
    → (server_seen g.answer ≡ seen.Skipped) ↔ (is_for s.switched file msg ≡ false)
server_skips plan next s file _ _ (of_drained upto g e) =
    (λ skipped. absurd (drained next s upto (ap (λ (g : GrownStep). server_seen g.answer) (sym e) ∙ skipped)), λ none. absurd (false≢true (sym none)))
server_skips plan next s file _ _ (of_switched upto shard g e) =
    (λ skipped. absurd (apart (ap (λ (g : GrownStep). server_seen g.answer) (sym e) ∙ skipped)), λ none. absurd (false≢true (sym none)))
  where
    apart : server_seen (server.foreign_at s).answer ≢ seen.Skipped
    apart e = cc
server_skips plan next s file _ _ (of_other msg g between other e) =
    (λ skipped. own_or_other (is_between msg) (is_file (own_file s.switched) file) between ∙ other_file (own_file s.switched) file (λ e. other (sym e)), λ none. ap (λ (g : GrownStep). server_seen g.answer) e)
server_skips plan next s file _ _ (of_own msg r q g between own handles answers e) = (
  λ skipped. absurd (ran r.answer (ap (λ (g : GrownStep). server_seen g.answer) (sym e) ∙ skipped)),
  λ none. absurd (false≢true (sym none ∙ (own_or_other (is_between msg) (is_file (own_file s.switched) file) between ∙ (ap (is_file (own_file s.switched)) own ∙ same_file (own_file s.switched))))),
)

-- ---- coordinators

answered : (answer : Handled) → coord_seen (coord.handled_so answer) ≢ seen.Skipped
answered core_answer.Done e = cc
answered (core_answer.Answered id reply) e = cc
answered (core_answer.Ignored why) e = cc

switched : (plan : Plan) (s : GrownCoordState) (upto : TxnId) (shard : Shard) → coord_seen (after_switched plan s upto shard).answer ≢ seen.Skipped
switched plan s upto shard = go (coord.switched_refusal plan s upto shard)
  where
    go : (o : Option Reason) → coord_seen (coord.unless_refused s o (coord.over_if_all plan (record s { at = s.at ++ shard ∷ [] }))).answer ≢ seen.Skipped
    go None e = cc
    go (Some why) e = cc

filed : (plan : Plan) (next : Option Next) (s : GrownCoordState) (file : File) (msg : Msg)
    → (coord_seen (after_filed plan next s file msg).answer ≡ seen.Skipped) ↔ (is_file (own_file s.switched) file ≡ false)
filed plan next s file msg = go (is_file (own_file s.switched) file)
  where
    go : (b : Bool) → (coord_seen (cond b (coord.of_core plan s (after_message (own_plan plan next s.switched) s.core msg)) (unchanged s coord_answer.Skipped)).answer ≡ seen.Skipped) ↔ (b ≡ false)
    go true = (λ skipped. absurd (answered (after_message (own_plan plan next s.switched) s.core msg).answer skipped), λ none. absurd (false≢true (sym none)))
    go false = (λ skipped. refl, λ none. refl)

pub coord_skips : (plan : Plan) (next : Option Next) (s : GrownCoordState) (file : File) (msg : Msg)
    → (coord_seen (after_grown_message plan next s file msg).answer ≡ seen.Skipped) ↔ (is_for s.switched file msg ≡ false)
coord_skips plan next s file (Drained upto) = (λ skipped. absurd (apart skipped), λ none. absurd (false≢true (sym none)))
  where
    apart : coord_seen (coord_answer.Ignored Foreign) ≢ seen.Skipped
    apart e = cc
coord_skips plan next s file (Switched upto shard) = (λ skipped. absurd (switched plan s upto shard skipped), λ none. absurd (false≢true (sym none)))
coord_skips plan next s file msg = filed plan next s file msg

-- ---- a delivery

module _ (plan : Plan) (next : Option Next) (w : GrownWorld) (k : ℕ) where
  -- where the receiver stands so, a message is skipped just where it is not for it
  skips_there : (m : Sealed) (switched : Bool) (o : Outcome) (to : Node) → StandsAs w to switched → IsReceived plan next (mark_delivered w k) m.file m.message.msg to o
      → (o.seen ≡ seen.Skipped) ↔ (is_for switched m.file m.message.msg ≡ false)
  skips_there m switched o (Server shard) (s, at, is) x =
      let same = same_there w.servers shard.0 x.state s x.there at in
      let r = server_skips plan next x.state m.file m.message.msg x.step x.handles in
      let here = ap (λ (s : GrownServerState). s.switched) same ∙ is in (
        λ skipped. subst (λ b. is_for b m.file m.message.msg ≡ false) here (r.0 (ap (λ (o : Outcome). o.seen) (sym x.is) ∙ skipped)),
        λ none. ap (λ (o : Outcome). o.seen) x.is ∙ r.1 (subst (λ b. is_for b m.file m.message.msg ≡ false) (sym here) none),
      )
  skips_there m switched o (Coord n) (c, at, is) (s, there, e) =
      let same = same_there w.coords n s c there at in
      let r = coord_skips plan next s m.file m.message.msg in
      let here = ap (λ (s : GrownCoordState). s.switched) same ∙ is in (
        λ skipped. subst (λ b. is_for b m.file m.message.msg ≡ false) here (r.0 (ap (λ (o : Outcome). o.seen) (sym e) ∙ skipped)),
        λ none. ap (λ (o : Outcome). o.seen) e ∙ r.1 (subst (λ b. is_for b m.file m.message.msg ≡ false) (sym here) none),
      )

  pub skips : (m : Sealed) (switched : Bool) (o : Outcome) → slice_get w.sent (k - 1) ≡ Some m → StandsAs w m.message.to switched → Happens plan next w (Deliver k) o
      → (o.seen ≡ seen.Skipped) ↔ (is_for switched m.file m.message.msg ≡ false)
  skips m switched o at stands (a, some, there, h) =
      let same = same_there w.sent (k - 1) a m there at in
      skips_there m switched o m.message.to stands (subst (λ (a : Sealed). IsReceived plan next (mark_delivered w k) a.file a.message.msg a.message.to o) same h)

  -- and who receives stands somehow
  pub receiver : (m : Sealed) (o : Outcome) (to : Node) → IsReceived plan next (mark_delivered w k) m.file m.message.msg to o → (switched : Bool) × StandsAs w to switched
  receiver m o (Server shard) x = (x.state.switched, (x.state, x.there, refl))
  receiver m o (Coord n) (s, there, e) = (s.switched, (s, there, refl))
