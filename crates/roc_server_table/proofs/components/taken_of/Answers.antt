use Rattle.std.proofs.Common.{◌≡◌, ◌<◌, ◌∙◌, ℕ, List, [], Option, length, ap, subst, arith}
use Rattle.std.proofs.lemmas.Result.{IfOk-weaker}
use Rattle.roc_sequence.specs.Places.{IsListed}
use Rattle.roc_base.specs.declared.id.TxnId.{TxnId}
use Rattle.roc_base.specs.TxnId.{is_txn}
use Rattle.roc_component.specs.Components.{AreTaken}
use Rattle.roc_depgraph.specs.Closure.{IsRisingListOf}
use Rattle.roc_depgraph.specs.declared.known.KnownList.{KnownList}
use Rattle.roc_server_rows.specs.declared.rows.Row.{Row}
use Rattle.roc_server_table.specs.Inner.Among.{links_past, links_within, skipped_at}
use Rattle.roc_server_rows.specs.LinksBut.{links_but}
use Rattle.roc_server_rows.specs.Rows.{row_links}
use Rattle.roc_server_table.proofs.EntriesAmong.{links_but_is}
use Rattle.roc_server_table.proofs.SameEdges.{few_alike, taken_within}
use Rattle.roc_server_table.proofs.components.taken_of.Goals as goal

pub returns-then-len-lt2 : goal.returns-then-len-lt2
returns-then-len-lt2 c =
    let few : length c.in_ok-members.members.items < 2 = omega arith in
    IfOk-weaker c.taken_few.result _ _ (λ cs taken.
    few_alike (links_but c.args.except c.args.rows.now) c.args.ids.now c.in_ok-members.members.items cs.items c.in_ok-members.ensures [] few taken) c.taken_few.ensures

taken_by : (except : Option ℕ) (rows : List Row) (M S members : List TxnId) (skipped : Option TxnId) (links : List KnownList) (cs : List (List TxnId))
    → IsRisingListOf (IsListed is_txn M) S → members ≡ S → skipped ≡ skipped_at except rows → links ≡ links_within (links_past skipped (row_links rows)) members members
    → AreTaken links M cs → AreTaken (links_but except rows) M cs
taken_by except rows M S members skipped links cs all same at is taken =
    let known : List KnownList = links_past skipped (row_links rows) in
    let links_are : links ≡ links_within known S S = is ∙ ap (λ xs. links_within known xs xs) same in
    let known_is : known ≡ links_but except rows = ap (λ o. links_past o (row_links rows)) at ∙ links_but_is except rows in
    subst (λ ks. AreTaken ks M cs) known_is (taken_within known M S cs all (subst (λ ks. AreTaken ks M cs) links_are taken))

pub returns : goal.returns
returns c =
    IfOk-weaker c.taken_components.result _ _ (λ cs taken.
    taken_by c.args.except c.args.rows.now c.args.ids.now c.in_ok-members.members.items c.deref.result.now c.skipped_at-skipped.result c.in_ok-links.links cs.items
    c.in_ok-members.ensures c.deref.ensures.value c.skipped_at-skipped.ensures c.in_ok-links.ensures taken) c.taken_components.ensures
