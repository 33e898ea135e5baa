use Rattle.roc_server_groups.proofs.IndexSteps.{indexed_group_refs}
use Rattle.roc_server.proofs.PartsFit.{released_sound}
use Rattle.roc_server.proofs.parts.release.Goals as goal

pub release-requires-clause-refs : goal.release-requires-clause-refs
release-requires-clause-refs c = indexed_group_refs c.args.parts.now.groups.index c.args.parts.now.lists.decided c.args.parts.now.groups.kept c.requires.sound.index

pub returns-clause-sound : goal.returns-clause-sound
returns-clause-sound c =
    released_sound c.args.parts.now _ c.requires.sound c.requires.can c.newly.result.now c.over.result.now c.newly.ensures c.over.ensures c.release-2.ensures.kept c.release-2.ensures.sound
    c.release.ensures.kept c.release.ensures.once c.release.ensures.index
