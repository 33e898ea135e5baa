use Rattle.std.proofs.Common.{◌≡◌, Bool, true, false, Some, refl, ap, sym, subst}
use Rattle.std.specs.Prelude.{slice_get}
use Rattle.roc_sequence.specs.Lists.{Has}
use Rattle.roc_law_protocol.specs.Final.{IsFinalIn}
use Rattle.roc_law_world.specs.Bare.{bare}
use Rattle.roc_law_world.specs.Beside.{is_of_view}
use Rattle.roc_law_world.proofs.Carried.{no_lists, sent_there, final_here}
use Rattle.roc_law_world.proofs.WovenOrder.{is_view, run_beside}
use Rattle.roc_law_world.proofs.beside.lists_are_final.Goals as goal

pub returns-clause-known : goal.returns-clause-known
returns-clause-known c plan b coords steps w accepted begins run shard s there k has =
    let x = run_beside plan b coords steps w run in
    final_here (is_view plan b coords steps w run) w x.world x.holds.beside plan k.of k.edges (c.lists_are_final.ensures.known plan b.of_transactions coords x.others x.world begins.of_transactions (c.accepted_plans_have_schemes_from_any_store.ensures plan b.of_transactions.store accepted) x.run shard s (subst (λ l. slice_get l shard.0 ≡ Some s) (sym x.holds.beside.servers) there) k has)

pub returns-clause-carried : goal.returns-clause-carried
returns-clause-carried c plan b coords steps w accepted begins run m has k carried = go (is_of_view m.msg) refl
  where
    go : (v : Bool) → is_of_view m.msg ≡ v → IsFinalIn plan (bare w) k.of k.edges
    go true e = absurd (subst (Has k) (no_lists m.msg e) carried)
    go false e =
        let x = run_beside plan b coords steps w run in
        final_here (is_view plan b coords steps w run) w x.world x.holds.beside plan k.of k.edges
        (c.lists_are_final.ensures.carried plan b.of_transactions coords x.others x.world begins.of_transactions (c.accepted_plans_have_schemes_from_any_store.ensures plan b.of_transactions.store accepted) x.run m
        (sent_there (is_view plan b coords steps w run) w x.world x.holds.beside m e has) k carried)

pub returns-clause-one : goal.returns-clause-one
returns-clause-one c plan b coords steps w accepted begins run m other has also t g shard at bound outs values gave edges entries facts lists is too =
    let x = run_beside plan b coords steps w run in
    let v = is_view plan b coords steps w run in
    c.lists_are_final.ensures.one plan b.of_transactions coords x.others x.world begins.of_transactions (c.accepted_plans_have_schemes_from_any_store.ensures plan b.of_transactions.store accepted) x.run m other
    (sent_there v w x.world x.holds.beside m (ap is_of_view is) has) (sent_there v w x.world x.holds.beside other (ap is_of_view too) also)
    t g shard at bound outs values gave edges entries facts lists is too
