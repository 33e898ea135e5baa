use Rattle.std.proofs.Common.{List, ℕ, [], ◌≡◌, ◌++◌, ◌∙◌, ◌&&◌, not, map, filter, ap, subst, sym}
use Rattle.std.proofs.lemmas.List.Concat.{flat_map-append}
use Rattle.std.proofs.lemmas.List.Elements.{filter-append}
use Rattle.std.specs.List.{flat_map}
use Rattle.roc_sequence.specs.Places.{is_listed, IsListed}
use Rattle.roc_base.specs.declared.id.TxnId.{TxnId}
use Rattle.roc_base.specs.TxnId.{is_txn}
use Rattle.roc_depgraph.specs.Closure.{IsRisingListOf}
use Rattle.roc_step.specs.Forgets.{is_over, over}
use Rattle.roc_server_lists.specs.ListsNow.{is_missing_at}
use Rattle.roc_server_taken.specs.Components.{AreOver}
use Rattle.roc_server_lists.specs.Inner.Finding.{asked_by}
use Rattle.roc_server_lists.proofs.finding.find_all.Goals as goal

-- where none that was taken is over, what is over is so of those that come
over_more : (marks : List ℕ) (taken lent components : List (List TxnId)) (ids : List TxnId) → over marks taken ≡ [] → lent ≡ components → AreOver marks lent ids
    → AreOver marks (taken ++ components) ids
over_more marks taken lent components ids none_over is are =
    let apart : over marks (taken ++ components) ≡ over marks taken ++ over marks components =
    ap (flat_map (λ c. c)) (filter-append (is_over marks) taken components) ∙ flat_map-append (λ c. c) (filter (is_over marks) taken) (filter (is_over marks) components) in
    let same : over marks lent ≡ over marks (taken ++ components) = ap (over marks) is ∙ sym (apart ∙ ap (λ ts. ts ++ over marks components) none_over) in
    subst (λ ts. IsRisingListOf (IsListed is_txn ts) ids) same are

pub returns-clause-over : goal.returns-clause-over
returns-clause-over c =
    over_more c.args.parts.now.marks c.args.parts.now.taken.components _ c.in_ok-components.components.items c.in_ok-over.over.items c.requires.none_over c.deref-3.ensures.value c.in_ok-over.ensures

pub returns-clause-finds : goal.returns-clause-finds
returns-clause-finds c =
    let k = c.args.parts.now in
    record {
      missing = c.in_ok-asks.ensures
          ∙ (λ i. map (asked_by k.marks k.table.known)
          (filter (λ d. not (is_listed is_txn (c.deref.ensures.value i) d.from) && is_missing_at c.args.started.now.groups k.table.links k.waits.waiting.asked d) (c.as_slice.ensures.entries i)));
      chosen = c.in_ok-components.ensures.taken;
      ids = c.in_ok-ids.ensures ∙ (λ i. flat_map (λ m. m) (c.deref-2.ensures.value i));
    }
