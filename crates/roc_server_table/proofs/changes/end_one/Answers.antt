use Rattle.roc_server_table.proofs.EndedIds.{ends_decided, ends_kept, may_end}
use Rattle.roc_server_table.proofs.changes.end_one.Goals as goal

pub end_marked-requires-clause-may : goal.end_marked-requires-clause-may
end_marked-requires-clause-may c = may_end c.args.parts.now c.args.marks.now c.requires.kept c.args.id c.requires.may

pub returns-clause-kept : goal.returns-clause-kept
returns-clause-kept c =
    let e = c.end_marked.ensures in
    ends_kept c.args.parts.now c.end_marked.new.parts c.args.marks.now c.end_marked.new.marks c.requires.kept c.args.id e.whole e.marked e.ends e.undecided

pub returns-clause-decided : goal.returns-clause-decided
returns-clause-decided c =
    let e = c.end_marked.ensures in
    ends_decided c.args.parts.now c.end_marked.new.parts c.args.marks.now c.end_marked.new.marks c.requires.kept c.args.id e.whole e.marked e.ends
