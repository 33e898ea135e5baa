use Rattle.std.proofs.Common.{◌≡◌, ◌∙◌, List, ap, filter, refl, subst, sym}
use Rattle.std.specs.Map.{lookup}
use Rattle.roc_base.specs.TxnId.{is_txn}
use Rattle.roc_base.specs.Edge.{Dependency}
use Rattle.roc_server_rows.specs.Rows.{followed, AreNamed}
use Rattle.roc_server_rows.proofs.Alive.{grows_on}
use Rattle.roc_server_rows.proofs.Learnt.{learnt_told, row_stays, birth_stays, learnt_table, learnt_lists}
use Rattle.roc_server_rows.proofs.Named.{stays}
use Rattle.roc_server_rows.proofs.rows.learn.Goals as goal

pub returns-clause-whole : goal.returns-clause-whole
returns-clause-whole c =
    let a = c.link_to.new.parts in
    let b = c.names_of.new.parts in
    let l = c.in_ok-link.ensures in
    let n = c.in_ok-names.ensures in
    learnt_table c.args.parts.now b c.args.id c.in_ok-link.link _ c.args.done.now n.whole (n.grows.lists ∙ l.grows.lists)
    (row_stays a b n.grows c.args.id c.in_ok-link.link l.row l.birth) (birth_stays a b n.grows c.args.id c.in_ok-link.link l.row l.birth) refl refl refl
    (subst (λ (es : List Dependency). AreNamed b.rows.items b.stamp es c.in_ok-names.names) c.as_slice.ensures.entries n.names)

pub returns-clause-ok : goal.returns-clause-ok
returns-clause-ok c =
    let a = c.link_to.new.parts in
    let b = c.names_of.new.parts in
    let l = c.in_ok-link.ensures in
    let n = c.in_ok-names.ensures in
    learnt_lists c.args.parts.now b c.args.id c.in_ok-link.link _ c.args.done.now n.whole (n.grows.lists ∙ l.grows.lists)
    (row_stays a b n.grows c.args.id c.in_ok-link.link l.row l.birth) (birth_stays a b n.grows c.args.id c.in_ok-link.link l.row l.birth) refl refl refl
    (subst (λ (es : List Dependency). AreNamed b.rows.items b.stamp es c.in_ok-names.names) c.as_slice.ensures.entries n.names)
    c.requires.unknown
    (subst (λ (es : List Dependency). followed b.rows.items es c.in_ok-names.names ≡ filter (stays c.args.done.now) es) c.as_slice.ensures.entries n.followed)

pub returns-clause-learnt : goal.returns-clause-learnt
returns-clause-learnt c =
    let p = c.args.parts.now in
    let a = c.link_to.new.parts in
    let b = c.names_of.new.parts in
    let l = c.in_ok-link.ensures in
    let n = c.in_ok-names.ensures in
    record {
      mid = b.rows.items;
      stamp = b.stamp;
      grows = grows_on p.rows.items a.rows.items b.rows.items p.stamp a.stamp b.stamp l.grows.rows n.grows.rows;
      told = learnt_told p b c.args.id c.in_ok-link.link _ n.whole (n.grows.lists ∙ l.grows.lists)
          (row_stays a b n.grows c.args.id c.in_ok-link.link l.row l.birth) (birth_stays a b n.grows c.args.id c.in_ok-link.link l.row l.birth) refl refl c.requires.unknown;
    }

pub returns-clause-row : goal.returns-clause-row
returns-clause-row c =
    let a = c.link_to.new.parts in
    let b = c.names_of.new.parts in
    let l = c.in_ok-link.ensures in
    let n = c.in_ok-names.ensures in
    let row = row_stays a b n.grows c.args.id c.in_ok-link.link l.row l.birth in
    ap (λ q. lookup (is_txn q) b.numbers.entries) (sym row.is) ∙ n.whole.each c.in_ok-link.link.at row.live
