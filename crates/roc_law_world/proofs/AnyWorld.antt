-- What holds of a step in any world: the order grows at its end, and a submission is refused where there is no room
use Rattle.std.proofs.Common.{◌≡◌, ◌↔◌, ℕ, ℤ, ◌<◌, ◌≤◌, List, [], Option, Some, None, length, sym, subst, arith, append-nil}
use Rattle.std.specs.Prelude.{slice_get}
use Rattle.roc_sequence.proofs.Members.{same_there}
use Rattle.roc_base.specs.declared.node.Node.{Node}
use Rattle.roc_base.specs.declared.node.Node.TheVariants.{Server, Coord}
use Rattle.roc_plan.specs.Groups.{Plan}
use Rattle.roc_law_log.specs.Invariants.{Continues}
use Rattle.roc_coord.specs.State.{CoordState}
use Rattle.roc_coord.specs.Submit.{most_transactions, most_pending, next_id}
use Rattle.roc_law_protocol.specs.declared.event.Event.{Event}
use Rattle.roc_law_protocol.specs.declared.event.Event.TheVariants.{Submit, Deliver, Tick, Stop}
use Rattle.roc_law_protocol.specs.declared.event.Seen.TheVariants as seen
use Rattle.roc_law_world.specs.World.{World, mark_delivered}
use Rattle.roc_law_world.specs.Happens.{Outcome, IsReceived, Happens}
use Rattle.roc_law_world.specs.Run.{Transition}
use Rattle.roc_law_world.proofs.Stops.{by_losing}
use Rattle.roc_law_world.proofs.TimeSteps.{noted_grows}
use Rattle.roc_law_world.proofs.UsedSequences.{Comes, comes_spent, comes_busy, comes_taken, comes}

pub order_grows : (plan : Plan) (w : World) (e : Option Event) (o : Outcome) → Transition plan w e o → Continues w.order o.world.order
order_grows plan w None o h = subst (λ (o : Outcome). Continues w.order o.world.order) (sym h) ([], sym (append-nil w.order))
order_grows plan w (Some (Submit n proc args)) o (s, there, h) = go (comes plan w n proc args s o h)
  where
    go : Comes w n proc args s o → Continues w.order o.world.order
    go (comes_spent l e is) = subst (λ (v : World). Continues w.order v.order) (sym is) ([], sym (append-nil w.order))
    go (comes_busy l m e is) = subst (λ (v : World). Continues w.order v.order) (sym is) ([], sym (append-nil w.order))
    go (comes_taken l m e after outs next more is) = subst (λ (v : World). Continues w.order v.order) (sym is) ([], sym (append-nil w.order))
order_grows plan w (Some (Deliver k)) o (m, some, there, h) = go m.to h
  where
    go : (to : Node) → IsReceived plan (mark_delivered w k) m.msg to o → Continues w.order o.world.order
    go (Server shard) x = subst (λ (o : Outcome). Continues w.order o.world.order) (sym x.is) (noted_grows w.order x.step.decided)
    go (Coord n) (s, at, e) = subst (λ (o : Outcome). Continues w.order o.world.order) (sym e) ([], sym (append-nil w.order))
order_grows plan w (Some (Tick (Server shard))) o (s, z, there, keeps, e) = subst (λ (o : Outcome). Continues w.order o.world.order) (sym e) ([], sym (append-nil w.order))
order_grows plan w (Some (Tick (Coord n))) o (s, there, e) = subst (λ (o : Outcome). Continues w.order o.world.order) (sym e) ([], sym (append-nil w.order))
order_grows plan w (Some (Stop shard during)) o x =
    by_losing plan w shard.0 during o x (λ (v : World). Continues w.order v.order) ([], sym (append-nil w.order)) (λ k m sent. ([], sym (append-nil w.order)))
    (λ k m s v r q sent there keeps handles answers servers ran. noted_grows w.order r.decided) (λ u sent undelivered viewing l p. p) (λ v s z p there keeps. p)

not_both : (a b : ℕ) → a < b → b ≤ a → ⊥
not_both a b l m = omega (arith, l, m)

module _ (w : World) (n proc : ℕ) (args : List ℤ) (s : CoordState) (o : Outcome) where
  spent_where : Comes w n proc args s o → (o.seen ≡ seen.Spent) ↔ (most_transactions ≤ s.next)
  spent_where (comes_spent l e is) = (λ z. l, λ z. e)
  spent_where (comes_busy l m e is) = (λ z. absurd (cc), λ z. absurd (not_both s.next most_transactions l z))
  spent_where (comes_taken l m e after outs next more is) = (λ z. absurd (cc), λ z. absurd (not_both s.next most_transactions l z))

  busy_where : Comes w n proc args s o → (o.seen ≡ seen.Busy) ↔ ((s.next < most_transactions) × (most_pending ≤ length s.unanswered))
  busy_where (comes_spent l e is) = (λ z. absurd (cc), λ z. absurd (not_both s.next most_transactions z.0 l))
  busy_where (comes_busy l m e is) = (λ z. (l, m), λ z. e)
  busy_where (comes_taken l m e after outs next more is) = (λ z. absurd (cc), λ z. absurd (not_both (length s.unanswered) most_pending m z.1))

  taken_where : Comes w n proc args s o → s.next < most_transactions → length s.unanswered < most_pending → o.seen ≡ seen.Submitted (next_id s)
  taken_where (comes_spent l e is) a b = absurd (not_both s.next most_transactions a l)
  taken_where (comes_busy l m e is) a b = absurd (not_both (length s.unanswered) most_pending b m)
  taken_where (comes_taken l m e after outs next more is) a b = e

module _ (plan : Plan) (w : World) (n proc : ℕ) (args : List ℤ) (c : CoordState) (o : Outcome) (there : slice_get w.coords n ≡ Some c) where
  what_comes : Happens plan w (Submit n proc args) o → Comes w n proc args c o
  what_comes (s, at, h) = subst (λ s. Comes w n proc args s o) (same_there w.coords n s c at there) (comes plan w n proc args s o h)

  pub spent_exactly : Happens plan w (Submit n proc args) o → (o.seen ≡ seen.Spent) ↔ (most_transactions ≤ c.next)
  spent_exactly h = spent_where w n proc args c o (what_comes h)

  pub busy_exactly : Happens plan w (Submit n proc args) o → (o.seen ≡ seen.Busy) ↔ ((c.next < most_transactions) × (most_pending ≤ length c.unanswered))
  busy_exactly h = busy_where w n proc args c o (what_comes h)

  pub taken_exactly : Happens plan w (Submit n proc args) o → c.next < most_transactions → length c.unanswered < most_pending → o.seen ≡ seen.Submitted (record { coord = c.number; seq = c.next })
  taken_exactly h = taken_where w n proc args c o (what_comes h)
