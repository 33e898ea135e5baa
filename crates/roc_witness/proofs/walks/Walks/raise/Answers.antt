use Rattle.std.proofs.Common.{◌≡◌, ◌-◌, Bool, List, length, rules, arith}
use Rattle.roc_scgraph.specs.declared.vertex.Vertex.{Vertex}
use Rattle.roc_witness.specs.Inner.Walks.{may_step}
use Rattle.roc_witness.proofs.Raised.{levels_more}
use Rattle.roc_witness.proofs.Walked.{read_level}
use Rattle.roc_witness.proofs.walks.Walks.raise.Goals as goal

pub returns-clause-levels : goal.returns-clause-levels
returns-clause-levels c =
    let L : Vertex → Vertex → Bool = may_step c.args.table.now c.args.self.now.start in
    let V : List Vertex = c.args.self.now.vertices in
    let goal : Vertex = c.args.self.now.goal in
    let levels : List (List Vertex) = c.args.levels.now.items in
    let many : c.len-highest.result ≡ length levels = search rules in
    levels_more L V goal levels c.push.new.self.items (c.len-highest.result - 1) c.as_slice.result.now c.in_ok-next.next c.requires.levels (omega (arith, many, c.requires.some))
    (read_level L V goal levels (c.len-highest.result - 1) c.index.result.now c.as_slice.result.now c.requires.levels (omega (arith, many, c.requires.some)) c.index.ensures c.as_slice.ensures)
    c.in_ok-next.ensures c.in_ok-push.ensures.items
