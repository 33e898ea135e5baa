use Rattle.std.proofs.Common.{◌≡◌, true, IsTrue, ◌<◌, set, sym, subst, ◌∙◌, ◌↔◌, arith, ℕ}
use Rattle.roc_merge_groups.specs.Flow.{feeds, Leads}
use Rattle.roc_merge.specs.Inner.Tables.{holds}
use Rattle.roc_merge.proofs.Flows.{AreSources, sources_self, sources_alone}
use Rattle.roc_merge.proofs.tables.sources.Goals as goal

pub returns-then-feeds-2 : goal.returns-then-feeds-2
returns-then-feeds-2 c =
    let done : c.loop-source.source ≡ c.args.user = omega arith in
    let are : AreSources c.args.workload.now c.args.proc c.args.user c.loop-source.row c.args.user =
    subst (AreSources c.args.workload.now c.args.proc c.args.user c.loop-source.row) done c.loop-source.invariant in
    let below : c.args.user < 16 = omega arith in
    let P : ℕ → Type 0 = λ n. (p : ℕ) → IsTrue (holds (set c.loop-source.row n true) p) ↔ Leads (feeds c.args.workload.now c.args.proc) p c.args.user in
    subst P (sym c.from-then-feeds-2.ensures)
    (sources_self c.args.workload.now c.args.proc c.procedures.ensures.well_formed c.args.user c.loop-source.row are (sym c.feeds-2.ensures ∙ c.if-feeds-2.true) below)

pub returns-else-feeds-2 : goal.returns-else-feeds-2
returns-else-feeds-2 c =
    let done : c.loop-source.source ≡ c.args.user = omega arith in
    sources_alone c.args.workload.now c.args.proc c.procedures.ensures.well_formed c.args.user c.loop-source.row
    (subst (AreSources c.args.workload.now c.args.proc c.args.user c.loop-source.row) done c.loop-source.invariant) (sym c.feeds-2.ensures ∙ c.if-feeds-2.false)
