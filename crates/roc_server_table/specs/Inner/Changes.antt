-- How the lists of rows change by several
use Rattle.std.specs.Prelude.{not, List, map, filter}
use Rattle.roc_sequence.specs.Places.{is_listed}
use Rattle.roc_base.specs.declared.id.TxnId.{TxnId}
use Rattle.roc_base.specs.TxnId.{is_txn}
use Rattle.roc_depgraph.specs.declared.known.KnownList.{KnownList}
use Rattle.roc_depgraph.specs.Deps.{is_known}
use Rattle.roc_step.specs.Links.{without_links}
use Rattle.roc_server_rows.specs.Changes.{RowLists}

-- without the lists of these transactions, and with each entry done that names one of them
abbrev pub all_ended : (ids : List TxnId) → RowLists → RowLists
all_ended ids k =
    record {
      known = filter (λ l. not (is_listed is_txn ids l.of)) k.known;
      links = map (without_links (is_listed is_txn ids)) (filter (λ l. not (is_listed is_txn ids l.of)) k.links);
    }

-- the lists of the transactions of these are taken back: entries that name them stay
abbrev pub all_untold : (news : List KnownList) → RowLists → RowLists
all_untold news k = record { known = filter (λ l. not (is_known news l.of)) k.known; links = filter (λ l. not (is_known news l.of)) k.links }
