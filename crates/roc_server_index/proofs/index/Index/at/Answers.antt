use Rattle.std.proofs.Common.{◌∙◌, sym, ap}
use Rattle.roc_server_index.specs.GroupRefs.{group_refs_at}
use Rattle.roc_server_index.proofs.Changed.{found, refs_in, cell_refs_found}
use Rattle.roc_server_index.proofs.index.Index.at.Goals as goal

pub returns-in-Some : goal.returns-in-Some
returns-in-Some c =
    c.as_slice.ensures.value ∙ ap refs_in (ap found c.in-Some.ensures.value ∙ sym (cell_refs_found c.args.cell c.self.inside.cells.entries))
    ∙ ap (group_refs_at c.args.cell) c.self.view_is

pub returns-in-None : goal.returns-in-None
returns-in-None c = ap refs_in (ap found c.in-None.ensures.value ∙ sym (cell_refs_found c.args.cell c.self.inside.cells.entries)) ∙ ap (group_refs_at c.args.cell) c.self.view_is
