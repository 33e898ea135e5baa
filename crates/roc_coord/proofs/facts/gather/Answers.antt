use Rattle.std.proofs.Common.{◌≡◌, ℕ, ◌+◌, ◌-◌, ◌<◌, ◌++◌, List, length, drop, ap, subst, sym, ◌∙◌, arith}
use Rattle.roc_depgraph.specs.declared.known.KnownList.{KnownList}
use Rattle.roc_msg.specs.Facts.{is_fact_before, AreFacts}
use Rattle.roc_msg.specs.InPlace.{in_place}
use Rattle.roc_coord.specs.Starts.{gathered}
use Rattle.roc_coord.proofs.Gathering.{AreFacts-in_place, gathered_more}
use Rattle.roc_coord.proofs.facts.gather.Goals as goal

pub loop-at-preserved : goal.loop-at-preserved
loop-at-preserved c =
    let told = c.args.told.now in
    let at : ℕ = c.loop-at.at in
    let some = c.loop-at-test.true in
    let most = c.loop-at.auto.at in
    let x = c.index-told-at.result in
    let put_in : KnownList → List KnownList = λ v. in_place is_fact_before v c.loop-at.facts.items in
    let is_put = c.in_ok-put.ensures ∙ ap put_in c.in_ok-clone.ensures.cases in
    let within : at - 1 < length told = omega arith in
    let next : at ≡ (at - 1) + 1 = omega arith in
    record {
      rising = subst AreFacts (sym is_put) (AreFacts-in_place x c.loop-at.facts.items c.loop-at.invariant.rising);
      items = λ rest same.
          let from : ℕ → List KnownList = λ n. gathered (drop n told ++ rest) in
          is_put ∙ ap (in_place is_fact_before x) (c.loop-at.invariant.items rest same ∙ ap from next) ∙ sym (gathered_more told (at - 1) x rest within c.index-told-at.is);
    }
