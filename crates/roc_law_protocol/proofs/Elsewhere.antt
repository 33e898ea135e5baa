-- A server on which a step of the log does nothing
use Rattle.std.proofs.Common.{◌≡◌, ℕ, false, Some, sym, ap, subst, ◌∙◌, inl, inr}
use Rattle.roc_sequence.specs.Places.{IsListed, IsListedBefore}
use Rattle.roc_base.specs.declared.id.TxnId.{TxnId}
use Rattle.roc_base.specs.TxnId.{is_txn}
use Rattle.roc_rows.specs.declared.cell.Cell.{Cell}
use Rattle.roc_rows.specs.Store.{read}
use Rattle.roc_plan.specs.Groups.{Plan}
use Rattle.roc_whole.specs.Serial as whole
use Rattle.roc_law_orders.specs.Behaviour.{TxnGroup, Yield}
use Rattle.roc_law_log.specs.Scheme.{Scheme}
use Rattle.roc_law_log.specs.Log.{Log}
use Rattle.roc_law_log.specs.Invariants.{LogInvariants, LogGrows}
use Rattle.roc_step.specs.State.{ServerState}
use Rattle.roc_step.specs.State.{unrun}
use Rattle.roc_law_protocol.specs.Beginnings.{Beginning}
use Rattle.roc_law_protocol.specs.PlanAssumptions.{IsSchemeOf}
use Rattle.roc_law_protocol.proofs.Means.{run_of, entry_run, place, Ran, Began, stage, ServerMeans}
use Rattle.roc_law_protocol.proofs.Grows.{mates_grow, settled_grows, forgotten_grows, links_grow, taken_grows, place_grows, entry_grows, all_grow, begun_grows, past_grows}

-- between the two logs no group starts or runs on the shard, its cells stay, and it decides nothing
pub record IsQuietOn (plan : Plan) (asked : TxnId → whole.Call) (S : Scheme) (start : Beginning) (c d : Log) (shard : ℕ) : Type 0 where
  pub began : (r : TxnGroup) → Began plan asked S start d r → place plan asked S start d r ≡ shard → Began plan asked S start c r
  pub ran : (r : TxnGroup) → Ran plan asked S start d r → S.is_immediate r ≡ false → place plan asked S start d r ≡ shard → Ran plan asked S start c r
  pub cells : (x : Cell) → S.cell_shard x ≡ shard → read (stage plan asked S start d).store x ≡ read (stage plan asked S start c).store x
  pub decided : d.decided shard ≡ c.decided shard

module _ (plan : Plan) (asked : TxnId → whole.Call) (S : Scheme) (start : Beginning) (is : IsSchemeOf plan asked S) (c d : Log) (i : LogInvariants S start.store c) (j : LogInvariants S start.store d) (g : LogGrows S start.store c d) (shard : ℕ) where
  pub server_elsewhere : IsQuietOn plan asked S start c d shard → (s : ServerState) → ServerMeans plan asked S start c shard s → ServerMeans plan asked S start d shard s
  server_elsewhere q s o =
      record {
        number = o.number;
        groups = record {
          entries = λ e h. entry_grows plan asked S start is c d i j g shard (unrun e) (o.groups.entries e h);
          finds = λ r b p. (let k = q.began r b p in o.groups.finds r k (sym (place_grows plan asked S start is c d i j g r k) ∙ p));
        };
        part = record {
          cells = λ x e. o.part.cells x e ∙ sym (q.cells x e);
          elsewhere = o.part.elsewhere;
          later = λ e h ran imm.
              (let m = o.groups.entries e h in
              let k = q.ran (entry_run e) ran imm (place_grows plan asked S start is c d i j g (entry_run e) m.told.began ∙ m.on) in
              o.part.later e h k imm ∙ ap (λ (y : Yield). Some y.outs) (sym (g.yielded (entry_run e) k)));
          at_once = o.part.at_once;
        };
        known = all_grow plan asked S start is c d i j g s.lists.known o.known;
        fetched = λ a h. begun_grows plan asked S start is c d i j g a.id a.at.0 (o.fetched a h);
        ended = λ t h. past_grows plan asked S start is c d i j g t (o.ended t h);
        links = links_grow plan asked S start is c d i j g s.lists.known s.lists.links o.links;
        decided = λ t h. elim (o.decided t (subst (λ l. IsListed is_txn l t) q.decided h)) [ inl k ↦ inl k | inr f ↦ inr (forgotten_grows plan asked S start is c d i j g s t f) ];
        forgot = λ t h gone.
            (let began = q.began (run_of t h.group) h.began h.on in
            let on = sym (place_grows plan asked S start is c d i j g (run_of t h.group) began) ∙ h.on in
            let k = o.forgot t (record { group = h.group; began = began; on = on }) gone in
            (subst (λ l. IsListed is_txn l t) (sym q.decided) k.0, settled_grows plan asked S start is c d i j g t k.1));
        taken = taken_grows plan asked S start is c d i j g shard s o q.decided;
        back = λ t h. subst (λ l. IsListed is_txn l t) (sym q.decided) (o.back t h);
        follows = λ u t e k p m. subst (λ l. IsListedBefore is_txn l u t) (sym q.decided) (o.follows u t e k p (λ x. m (mates_grow plan asked S start is c d i j g t u x)));
      }
