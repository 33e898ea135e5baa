-- Parts without a list
use Rattle.std.proofs.Common.{◌≡◌, List, [], not, filter, sym, ap, ◌∙◌, subst}
use Rattle.std.proofs.lemmas.Bool.{false≢true}
use Rattle.std.specs.List.{flat_map}
use Rattle.std.specs.List.Sorted.{IsStrictlySortedBy}
use Rattle.roc_sequence.specs.Lists.{Has}
use Rattle.roc_sequence.specs.Places.{IsListed, NoneTwice}
use Rattle.roc_base.specs.declared.id.TxnId.{TxnId}
use Rattle.roc_base.specs.TxnId.{is_txn, txn_cmp}
use Rattle.roc_base.proofs.Ids.{none_rise, unlisted_none}
use Rattle.roc_depgraph.specs.declared.known.KnownList.{KnownList}
use Rattle.roc_depgraph.specs.Deps.{is_known, IsDecided}
use Rattle.roc_step.specs.Below.{is_ended}
use Rattle.roc_step.specs.Forgets.{over}
use Rattle.roc_step.specs.Links.{AreLinksOf}
use Rattle.roc_step.specs.Waits.{Waiting, none_waiting}
use Rattle.roc_server_lists.specs.declared.parts.ListParts.{ListParts}
use Rattle.roc_server_lists.specs.Inner.Parts.{AreConsistent}

none_decided : (t : TxnId) → ¬ IsDecided [] t
none_decided t d = false≢true d.own

pub nothing_sound : (k : ListParts) → k.table.known ≡ [] → k.table.links ≡ [] → k.table.decided ≡ [] → k.waits.waiting ≡ none_waiting → k.waits.fetches ≡ [] → k.taken.components ≡ [] → AreConsistent k
nothing_sound k known links decided waiting open_none taken =
    let Members : List (List TxnId) → TxnId → Type 0 = λ cs t. IsListed is_txn (flat_map (λ c. c) cs) t in
    let none_twice : NoneTwice is_txn [] = tt in
    record {
      right = record {
        decided = record {
          rising = subst (IsStrictlySortedBy txn_cmp) (sym decided) none_rise;
          sound = λ t l. absurd (unlisted_none t (subst (λ (ids : List TxnId). IsListed is_txn ids t) decided l));
          complete = λ t d. absurd (none_decided t (subst (λ (ks : List KnownList). IsDecided ks t) links d));
        };
        open_unknown = open_none ∙ sym (ap (λ (w : Waiting). filter (λ a. not (is_known k.table.links a.id)) w.asked) waiting);
        linked = subst (λ ks. AreLinksOf (is_ended k.marks) ks k.table.links) (sym known) (subst (AreLinksOf (is_ended k.marks) []) (sym links) tt);
        taken_decided = λ t l. absurd (unlisted_none t (subst (λ cs. Members cs t) taken l));
        decided_taken = λ t l. absurd (unlisted_none t (subst (λ (ids : List TxnId). IsListed is_txn ids t) decided l));
        taken_once = subst (λ cs. NoneTwice is_txn (flat_map (λ c. c) cs)) (sym taken) none_twice;
        taken_some = λ c has. absurd (subst (Has c) taken has);
      };
      none_over = ap (over k.marks) taken;
    }
