use Rattle.std.proofs.Common.{refl, sym, subst, ◌∙◌}
use Rattle.roc_base.specs.declared.node.Node.TheVariants.{Server}
use Rattle.roc_fold.specs.Fold.{Core, serving}
use Rattle.roc_fold.specs.Folded.{IsFoldOfLines}
use Rattle.roc_fold.specs.Inner.Steps.{EndsBy, folding_of}
use Rattle.roc_fold.proofs.Ending.{refused_line, all_fold, lacks_line}
use Rattle.roc_fold.proofs.fold.serve_all.Goals as goal

pub all-requires-clause-begins : goal.all-requires-clause-begins
all-requires-clause-begins c = c.requires.begins (serving c.args.server.now.state c.args.server.now.viewing)

pub returns-in-Some : goal.returns-in-Some
returns-in-Some c =
    let f = folding_of (serving c.all.new.server.state c.all.new.server.viewing) c.all.new.gathered in
    refused_line c.args.plan.now c.args.header.now (Server c.args.shard) c.args.lines.now f c.in_ok-number.field-0 c.in-Some.number c.in-Some.is
    (subst (λ (first : Core). EndsBy c.args.plan.now c.args.header.now first c.args.lines.now f c.in_ok-number.field-0) c.requires.first c.in_ok-number.ensures.ends)

pub returns-then-is_due : goal.returns-then-is_due
returns-then-is_due c =
    let f = folding_of (serving c.all.new.server.state c.all.new.server.viewing) c.all.new.gathered in
    lacks_line c.args.plan.now c.args.header.now (Server c.args.shard) c.args.lines.now f _
    (all_fold c.args.plan.now c.args.header.now (Server c.args.shard) c.args.lines.now f c.in_ok-number.field-0 c.in_default.is
    (subst (λ (first : Core). EndsBy c.args.plan.now c.args.header.now first c.args.lines.now f c.in_ok-number.field-0) c.requires.first c.in_ok-number.ensures.ends))
    (c.is_due.ensures.due c.if-is_due.true) c.past.ensures

pub returns : goal.returns
returns c =
    let f = folding_of (serving c.all.new.server.state c.all.new.server.viewing) c.all.new.gathered in
    let folds = all_fold c.args.plan.now c.args.header.now (Server c.args.shard) c.args.lines.now f c.in_ok-number.field-0 c.in_default.is
    (subst (λ (first : Core). EndsBy c.args.plan.now c.args.header.now first c.args.lines.now f c.in_ok-number.field-0) c.requires.first c.in_ok-number.ensures.ends) in
    subst (IsFoldOfLines c.args.plan.now c.args.header.now (Server c.args.shard) c.args.lines.now) (sym c.with_gathered.ensures)
    (record {
      fold = f;
      folds = folds;
      ended = c.is_due.ensures.none c.if-is_due.false;
      told = c.new.ensures;
      decided = refl;
      ran = refl;
      waits = λ decided h. c.from_vec-waits.ensures ∙ c.in_ok-waiting.ensures decided h;
    })
