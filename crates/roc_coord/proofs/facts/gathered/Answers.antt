-- The facts of one more startok come before those of the startoks behind it
use Rattle.std.proofs.Common.{ℕ, ◌-◌, List, ◌++◌, length, drop, ap, subst, sym, ◌∙◌, arith, ◌≡◌, ◌≤◌}
use Rattle.std.proofs.lemmas.List.{drop_all}
use Rattle.std.specs.List.{flat_map}
use Rattle.roc_depgraph.specs.declared.known.KnownList.{KnownList}
use Rattle.roc_msg.specs.Facts.{AreFacts}
use Rattle.roc_coord.specs.declared.transaction.TakenStart.{TakenStart}
use Rattle.roc_coord.specs.Starts.{gathered}
use Rattle.roc_coord.proofs.Gathering.{flat_drop}
use Rattle.roc_coord.proofs.facts.gathered.Goals as goal

pub loop-at-init : goal.loop-at-init
loop-at-init c =
    let told : TakenStart → List KnownList = λ ok. ok.facts in
    let all = c.args.startoks.now in
    let of_rest : List TakenStart → List KnownList = λ oks. gathered (flat_map told oks) in
    let least : length all ≤ length all = omega arith in
    record {
      rising = subst AreFacts (sym c.new-facts.ensures.items) tt;
      items = c.new-facts.ensures.items ∙ sym (ap of_rest (drop_all (length all) all least));
    }

pub loop-at-preserved : goal.loop-at-preserved
loop-at-preserved c =
    let told : TakenStart → List KnownList = λ ok. ok.facts in
    let all = c.args.startoks.now in
    let x = c.index-startoks-at.result in
    let rest : List KnownList = flat_map told (drop c.loop-at.at all) in
    let before_rest : List KnownList → List KnownList = λ facts. gathered (facts ++ rest) in
    let before : flat_map told (drop (c.loop-at.at - 1) all) ≡ x.facts ++ rest = flat_drop told all c.loop-at.at x c.loop-at-test.true c.loop-at.auto.at c.index-startoks-at.is in
    record {
      rising = c.in_ok-gather.ensures.rising;
      items = c.in_ok-gather.ensures.items rest c.loop-at.invariant.items ∙ ap before_rest (c.as_slice.ensures.lists ∙ ap told (sym c.index-startoks-at.is)) ∙ ap gathered (sym before);
    }

pub returns : goal.returns
returns c =
    let told : TakenStart → List KnownList = λ ok. ok.facts in
    let from : ℕ → List KnownList = λ n. gathered (flat_map told (drop n c.args.startoks.now)) in
    let first = c.loop-at-test.false in
    let none : c.loop-at.at ≡ 0 = omega arith in
    record { items = c.loop-at.invariant.items ∙ ap from none; rising = c.loop-at.invariant.rising }
