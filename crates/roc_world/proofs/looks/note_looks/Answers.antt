use Rattle.std.proofs.Common.{◌∙◌, ◌++◌, [], ◌∷◌, map, sym, ap}
use Rattle.std.proofs.lemmas.List.{map-append}
use Rattle.roc_world.specs.declared.looks.Look.{Look}
use Rattle.roc_world.specs.Inner.Looks.{looked}
use Rattle.roc_world.proofs.FirstReads.{no_read_more, first_read}
use Rattle.roc_world.proofs.looks.note_looks.Goals as goal

pub returns-in-Some : goal.returns-in-Some
returns-in-Some c =
    let look : Look = record { id = c.in-Some.id; behind = c.args.behind } in
    ap (map looked) (c.in_ok-push.ensures.items ∙ ap (λ l. l ++ look ∷ []) c.loop-message.invariant.same)
    ∙ (map-append looked c.args.looks.now.items (look ∷ [])
    ∙ ap (λ l. map looked c.args.looks.now.items ++ l)
    (first_read c.args.messages.now c.loop-message.message-index c.message-item.result c.loop-message-test.true c.message-item.is c.loop-message.invariant.none c.args.behind c.in-Some.id (sym c.in-Some.ensures)))

pub loop-message-preserved : goal.loop-message-preserved
loop-message-preserved c = record {
  same = c.loop-message.invariant.same;
  none = no_read_more c.args.messages.now c.loop-message.message-index c.message-item.result c.loop-message-test.true c.message-item.is c.loop-message.invariant.none (sym c.in_default.ensures);
}
