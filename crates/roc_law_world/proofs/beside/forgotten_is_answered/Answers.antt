use Rattle.std.proofs.Common.{◌≡◌, ap, refl, Some, sym, subst, inl, inr}
use Rattle.std.proofs.lemmas.Option.{slice_get_cases}
use Rattle.std.specs.Prelude.{slice_get}
use Rattle.roc_base.specs.declared.id.TxnId.{TxnId}
use Rattle.roc_law_world.specs.Bare.{bare_steps}
use Rattle.roc_law_world.specs.Beside.{is_of_view}
use Rattle.roc_law_world.proofs.AnsweredBelow.{some_group, answered_late}
use Rattle.roc_law_world.proofs.AnsweringRuns.{told_in_runs}
use Rattle.roc_law_world.proofs.CalmRuns.{run_calm}
use Rattle.roc_law_world.proofs.Carried.{sent_there, settled_here}
use Rattle.roc_law_world.proofs.FetchedThere.{fetched_there}
use Rattle.roc_law_world.proofs.ServerMarks.{IsAbove}
use Rattle.roc_law_world.proofs.TakenAlike.{alike_back, first_alike, last_alike}
use Rattle.roc_law_world.proofs.Unheard.{run_unheard}
use Rattle.roc_law_world.proofs.UsedSequences.{run_used}
use Rattle.roc_law_world.proofs.WovenOrder.{is_view, tells_them, run_beside}
use Rattle.roc_law_world.proofs.beside.forgotten_is_answered.Goals as goal

pub returns-clause-kept : goal.returns-clause-kept
returns-clause-kept c plan b coords steps w accepted begins run shard s there t =
    let x = run_beside plan b coords steps w run in
    let k = c.forgotten_is_answered.ensures.kept plan b.of_transactions coords x.others x.world begins.of_transactions (c.accepted_plans_have_schemes_from_any_store.ensures plan b.of_transactions.store accepted) x.run shard s (subst (λ l. slice_get l shard.0 ≡ Some s) (sym x.holds.beside.servers) there) t in
    let back = alike_back (bare_steps steps) x.others x.taken in
    (λ d. let r = k.0 d in (r.0, last_alike x.others (bare_steps steps) back shard t r.0 r.1, r.2), λ r. k.1 (r.0, last_alike (bare_steps steps) x.others x.taken shard t r.0 r.1, r.2))

pub returns-clause-gone : goal.returns-clause-gone
returns-clause-gone c plan b coords steps w accepted begins run shard s there t d last over =
    let x = run_beside plan b coords steps w run in
    let k = c.forgotten_is_answered.ensures.gone plan b.of_transactions coords x.others x.world begins.of_transactions (c.accepted_plans_have_schemes_from_any_store.ensures plan b.of_transactions.store accepted) x.run shard s (subst (λ l. slice_get l shard.0 ≡ Some s) (sym x.holds.beside.servers) there) t d (last_alike (bare_steps steps) x.others x.taken shard t d last) over in
    (k.0, k.1, settled_here (is_view plan b coords steps w run) w x.world x.holds.beside t k.2)

pub returns-clause-settled : goal.returns-clause-settled
returns-clause-settled c plan b coords steps w accepted begins run shard s there k m t asker o more at to is h grown =
    let x = run_beside plan b coords steps w run in
    let v = is_view plan b coords steps w run in
    let f = fetched_there plan v w x.world x.holds k m t asker shard o more at to is h grown in
    let r = c.forgotten_is_answered.ensures.settled plan b.of_transactions coords x.others x.world begins.of_transactions (c.accepted_plans_have_schemes_from_any_store.ensures plan b.of_transactions.store accepted) x.run shard s (subst (λ l. slice_get l shard.0 ≡ Some s) (sym x.holds.beside.servers) there) f.number m t asker f.outcome f.more f.found to is f.happens f.grown in
    let back = alike_back (bare_steps steps) x.others x.taken in (
      λ q. (let z = r.0 (q.0, q.1, f.there q.1 t q.0 q.3 q.2, q.3) in (z.0, first_alike x.others (bare_steps steps) back shard t z.0 z.1, z.2)),
      λ q. (let z = r.1 (q.0, first_alike (bare_steps steps) x.others x.taken shard t q.0 q.1, q.2) in (z.0, z.1, f.back z.1 z.2, z.3)),
    )

pub returns-clause-done : goal.returns-clause-done
returns-clause-done c plan b coords steps w accepted begins run shard s there k d has listed none =
    let x = run_beside plan b coords steps w run in
    settled_here (is_view plan b coords steps w run) w x.world x.holds.beside d.from (c.forgotten_is_answered.ensures.done plan b.of_transactions coords x.others x.world begins.of_transactions (c.accepted_plans_have_schemes_from_any_store.ensures plan b.of_transactions.store accepted) x.run shard s (subst (λ l. slice_get l shard.0 ≡ Some s) (sym x.holds.beside.servers) there) k d has listed none)

pub returns-clause-sent : goal.returns-clause-sent
returns-clause-sent c plan b coords steps w accepted begins run m t mark has is =
    let x = run_beside plan b coords steps w run in
    let v = is_view plan b coords steps w run in
    let tells = tells_them plan b coords steps w run in
    let calm = run_calm plan accepted (some_group plan accepted (c.views_are_apart.ensures.count plan accepted)) b begins.of_transactions coords v steps w run tells in
    let k = c.forgotten_is_answered.ensures.sent plan b.of_transactions coords x.others x.world begins.of_transactions (c.accepted_plans_have_schemes_from_any_store.ensures plan b.of_transactions.store accepted) x.run m t mark (sent_there v w x.world x.holds.beside m (ap is_of_view is) has) is in (
      settled_here v w x.world x.holds.beside t k.0,
      λ seq late below.
          (let u : TxnId = record { coord = t.coord; seq = seq } in
          let above = subst (λ msg. IsAbove msg u) (sym is) (refl, below) in
          elim (slice_get_cases w.coords t.coord).1 [
            | inl at ↦ answered_late b.of_transactions.nexts w (told_in_runs plan b coords v steps w run tells) (run_used plan b begins coords v steps w run tells) u at.0 at.2 late (calm.calm.told m has u above)
            | inr away ↦ absurd ((run_unheard u plan b begins.of_transactions coords late steps w run away.0).told m has above)
          ]),
    )
