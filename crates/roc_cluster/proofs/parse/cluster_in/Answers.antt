use Rattle.std.proofs.Common.{◌≡◌, true, Some}
use Rattle.std.proofs.lemmas.Result.{err_from_is_err_and}
use Rattle.toml.specs.View.{table_view}
use Rattle.roc_cluster.specs.Entries.{top_keys, has_only, listed_tables}
use Rattle.roc_cluster.specs.Inner.Judged.{table_views, AreRead}
use Rattle.roc_cluster.proofs.Whole.{named_entries, whole_ok, whole_err}
use Rattle.roc_cluster.proofs.parse.cluster_in.Goals as goal

pub returns-in_err-entries-clause-err : goal.returns-in_err-entries-clause-err
returns-in_err-entries-clause-err c =
    let document = table_view c.args.document.now in
    let only : has_only top_keys document ≡ true = cc c.if-not-has_only_top_keys.ensures in
    let found : listed_tables document ≡ Some (table_views c.deref.result.now) = rw c.deref.ensures.value c.in_ok-tables.ensures.ok in
    let p = err_from_is_err_and c.from_residual-in_err-entries.result c.from_residual-in_err-entries.ensures.1 in
    rw (p.1, p.2) (named_entries c.args.shards document (table_views c.deref.result.now) c.in_err-entries.field-0.0 only found c.in_err-entries.ensures.err)

pub returns-clause-ok : goal.returns-clause-ok
returns-clause-ok c =
    let document = table_view c.args.document.now in
    let only : has_only top_keys document ≡ true = cc c.if-not-has_only_top_keys.ensures in
    let found : listed_tables document ≡ Some (table_views c.deref.result.now) = rw c.deref.ensures.value c.in_ok-tables.ensures.ok in
    let read : AreRead c.args.shards (table_views c.deref.result.now) c.as_slice.result.now = rw c.as_slice.ensures c.in_ok-entries.ensures.ok in
    whole_ok c.args.shards document (table_views c.deref.result.now) c.as_slice.result.now c.cluster_of.result only found read c.cluster_of.ensures.ok

pub returns-clause-err : goal.returns-clause-err
returns-clause-err c =
    let document = table_view c.args.document.now in
    let only : has_only top_keys document ≡ true = cc c.if-not-has_only_top_keys.ensures in
    let found : listed_tables document ≡ Some (table_views c.deref.result.now) = rw c.deref.ensures.value c.in_ok-tables.ensures.ok in
    let read : AreRead c.args.shards (table_views c.deref.result.now) c.as_slice.result.now = rw c.as_slice.ensures c.in_ok-entries.ensures.ok in
    whole_err c.args.shards document (table_views c.deref.result.now) c.as_slice.result.now c.cluster_of.result only found read c.cluster_of.ensures.err
