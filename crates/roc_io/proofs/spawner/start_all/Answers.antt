-- The children before this one run, and this one runs too or ends the starts.
use Rattle.std.proofs.Common.{◌<◌, refl, sym, ◌∙◌, subst}
use Rattle.std.proofs.lemmas.List.{length-map}
use Rattle.roc_io.specs.Spawner.{command_words}
use Rattle.roc_io.proofs.Spawners.{StartsAll-next, StartsAll-stop}
use Rattle.roc_io.proofs.spawner.start_all.Goals as goal

pub returns-then-is_err-clause-started : goal.returns-then-is_err-clause-started
returns-then-is_err-clause-started g c =
    let inside = subst (λ n. c.loop-words.words-index < n) (sym (length-map c.args.commands.now command_words)) c.loop-words-test.true in
    StartsAll-stop command_words c.args.commands.now _ _ _ _ _ _ _ _ c.loop-words-test.true inside c.loop-words.invariant.0 refl c.reserve.ensures.items

pub returns-in-NoMemory-clause-started : goal.returns-in-NoMemory-clause-started
returns-in-NoMemory-clause-started g c =
    let inside = subst (λ n. c.loop-words.words-index < n) (sym (length-map c.args.commands.now command_words)) c.loop-words-test.true in
    StartsAll-stop command_words c.args.commands.now _ _ _ _ _ _ _ _ c.loop-words-test.true inside c.loop-words.invariant.0 c.in-NoMemory.ensures.started c.reserve.ensures.items

pub returns-in-Failed-clause-started : goal.returns-in-Failed-clause-started
returns-in-Failed-clause-started g c =
    let inside = subst (λ n. c.loop-words.words-index < n) (sym (length-map c.args.commands.now command_words)) c.loop-words-test.true in
    StartsAll-stop command_words c.args.commands.now _ _ _ _ _ _ _ _ c.loop-words-test.true inside c.loop-words.invariant.0 c.in-Failed.ensures.started c.reserve.ensures.items

pub loop-words-preserved : goal.loop-words-preserved
loop-words-preserved g c = (
  StartsAll-next command_words c.args.commands.now c.loop-words.words-index c.words-item.result _ _ _ _ _ _ c.in-Running.child
      c.loop-words-test.true c.words-item.is c.loop-words.invariant.0
      (rw c.deref.ensures.value at c.in-Running.ensures.started)
      (rw (c.unwrap.ensures, c.reserve.ensures.items) at c.push.ensures.items),
  c.in-Running.ensures.cause ∙ c.loop-words.invariant.1,
  c.in-Running.ensures.awaited ∙ c.loop-words.invariant.2,
  c.in-Running.ensures.sent_at_waits ∙ c.loop-words.invariant.3,
)
