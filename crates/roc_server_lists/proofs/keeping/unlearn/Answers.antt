use Rattle.roc_server_lists.proofs.Undone.{back_kept, back_sound, to_unlearn}
use Rattle.roc_server_lists.proofs.keeping.unlearn.Goals as goal

pub unlearn-requires : goal.unlearn-requires
unlearn-requires c = to_unlearn c.args.parts.now c.args.lesson c.requires c.deref.result.now c.deref.ensures.value

pub returns-clause-kept : goal.returns-clause-kept
returns-clause-kept c =
    back_kept c.args.parts.now c.args.lesson c.requires c.deref.result.now c.deref.ensures.value c.unlearn.new.self
    c.unlearn.ensures.known c.unlearn.ensures.links c.unlearn.ensures.decided

pub returns-clause-sound : goal.returns-clause-sound
returns-clause-sound c =
    back_sound c.args.parts.now c.args.lesson c.requires c.deref.result.now c.deref.ensures.value c.unlearn.new.self
    c.unlearn.ensures.known c.unlearn.ensures.links c.unlearn.ensures.decided
