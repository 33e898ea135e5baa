use Rattle.std.proofs.Common.{◌≡◌, ℕ, List, map, ◌∙◌, sym, ap, subst}
use Rattle.std.specs.List.{AllByRecursion}
use Rattle.roc_lang.specs.Syntax as syntax
use Rattle.roc_program.specs.Keys.{IsKey}
use Rattle.roc_program.specs.Program.{Workload, Table, Init, Procedure}
use Rattle.roc_program.specs.WellFormed.{IsProgram}
use Rattle.roc_lang_resolve.specs.Resolve as resolve
use Rattle.roc_lang_resolve.proofs.Formed.{program_formed}
use Rattle.roc_lang_resolve.proofs.InitKeys.{inits_keyed}
use Rattle.roc_lang_resolve.proofs.tree.resolved.Goals as goal

pub inits-requires-2-clause-keys : goal.inits-requires-2-clause-keys
inits-requires-2-clause-keys c =
    let t = c.args.source.now in
    let formed = program_formed t c.inits.ensures.limits c.requires in
    let P : List syntax.Init → Type 0 = λ is. AllByRecursion (λ i. IsKey i.id) is in
    subst P (sym c.inits.ensures.value) (inits_keyed t.tables (resolve.resolved t).tables t.inits formed.tables formed.inits)

of_parts : (w : Workload) (shards : ℕ) (tables : List Table) (inits : List Init) (procedures : List Procedure) → IsProgram w → shards ≡ w.shards → tables ≡ w.tables → inits ≡ w.inits → procedures ≡ w.procedures
    → IsProgram (record { shards = shards; tables = tables; inits = inits; procedures = procedures })
of_parts w shards tables inits procedures formed e f g h =
    let P : ℕ → Type 0 = λ n. IsProgram (record w { shards = n }) in
    let Q : List Table → Type 0 = λ ts. IsProgram (record w { shards = shards; tables = ts }) in
    let R : List Init → Type 0 = λ is. IsProgram (record w { shards = shards; tables = tables; inits = is }) in
    let S : List Procedure → Type 0 = λ ps. IsProgram (record { shards = shards; tables = tables; inits = inits; procedures = ps }) in
    subst S (sym h) (subst R (sym g) (subst Q (sym f) (subst P (sym e) formed)))

both : {A B C : Type 0} (f : A → B → C) {a a' : A} {b b' : B} → a ≡ a' → b ≡ b' → f a b ≡ f a' b'
both f e g = cc

pub new-requires : goal.new-requires
new-requires c =
    let t = c.args.source.now in
    of_parts (resolve.resolved t) c.shards.result _ _ _ (program_formed t c.inits.ensures.limits c.requires) c.shards.ensures.value
    (c.in_ok-tables.ensures ∙ ap (map resolve.table) c.tables-all.ensures.value)
    (c.in_ok-inits.ensures ∙ both (λ ts. map (resolve.init ts)) c.tables-all.ensures.value c.inits.ensures.value)
    (c.in_ok-procedures.ensures ∙ both (λ ts. map (resolve.procedure ts)) c.tables-all.ensures.value c.procedures.ensures.value)
