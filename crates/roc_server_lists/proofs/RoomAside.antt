-- Lists that are kept the same, room aside
use Rattle.std.proofs.Common.{◌≡◌, ◌++◌, ◌∙◌, ℕ, List, not, filter, sym, ap, subst}
use Rattle.std.specs.List.{flat_map}
use Rattle.roc_sequence.specs.Lists.{Has}
use Rattle.roc_sequence.specs.Places.{IsListed, NoneTwice}
use Rattle.roc_base.specs.declared.id.TxnId.{TxnId}
use Rattle.roc_base.specs.TxnId.{is_txn}
use Rattle.roc_depgraph.specs.Deps.{is_known}
use Rattle.roc_step.specs.declared.waits.OpenFetch.{OpenFetch}
use Rattle.roc_step.specs.Below.{is_ended, raised}
use Rattle.roc_step.specs.Forgets.{over}
use Rattle.roc_step.specs.Links.{AreLinksOf}
use Rattle.roc_step.specs.New.{AreDecided, AreNewTaken}
use Rattle.roc_server_table.specs.Kept.{TableLists}
use Rattle.roc_server_lists.specs.declared.parts.ListParts.{ListParts}
use Rattle.roc_server_lists.specs.declared.trial.Settling.{Settling}
use Rattle.roc_server_taken.specs.Components.{AreOver, TakenComponents}
use Rattle.roc_server_lists.specs.Inner.Finding.{AreAlike}
use Rattle.roc_server_lists.specs.Inner.Parts.{kept_in, AreConsistent, AreRightParts}
use Rattle.roc_server_lists.specs.Inner.Trials.{links_settled, IsSettling}

module _ (old new : ListParts) (p : AreAlike old new) where
  -- the definitions see the same
  pub alike_kept : kept_in new ≡ kept_in old
  alike_kept i = record {
    lists = record { known = (p.table i).known; links = (p.table i).links; waiting = p.waiting i; taken = p.taken i };
    below = p.marks i;
  }

  alike_right : AreRightParts old → AreRightParts new
  alike_right h =
      let Members : List (List TxnId) → TxnId → Type 0 = λ cs t. IsListed is_txn (flat_map (λ c. c) cs) t in
      record {
        decided = subst (λ (t : TableLists). AreDecided t.links t.decided) (sym p.table) h.decided;
        open_unknown = p.fetches ∙ h.open_unknown ∙ (λ i. filter (λ (a : OpenFetch). not (is_known (sym p.table i).links a.id)) (sym p.waiting i).asked);
        linked =
            subst (λ marks. AreLinksOf (is_ended marks) new.table.known new.table.links) (sym p.marks)
            (subst (λ (t : TableLists). AreLinksOf (is_ended old.marks) t.known t.links) (sym p.table) h.linked);
        taken_decided = λ u l. subst (λ (t : TableLists). IsListed is_txn t.decided u) (sym p.table) (h.taken_decided u (subst (λ cs. Members cs u) p.taken l));
        decided_taken = λ u l. subst (λ cs. Members cs u) (sym p.taken) (h.decided_taken u (subst (λ (t : TableLists). IsListed is_txn t.decided u) p.table l));
        taken_once = subst (λ cs. NoneTwice is_txn (flat_map (λ c. c) cs)) (sym p.taken) h.taken_once;
        taken_some = λ c has. h.taken_some c (subst (Has c) p.taken has);
      }

  -- and what is kept is as right
  pub alike_sound : AreConsistent old → AreConsistent new
  alike_sound h = record { right = alike_right h.right; none_over = (λ i. over (p.marks i) (p.taken i)) ∙ h.none_over }

  -- and what comes of a settled transaction is the same
  pub alike_settling : (id : TxnId) (mark : ℕ) (x : Settling) → IsSettling old id mark x → IsSettling new id mark x
  alike_settling id mark x f = record {
    marks = f.marks ∙ ap (λ below. raised below id.coord mark) (sym p.marks);
    settled = f.settled;
    is_known = f.is_known ∙ ap (λ (t : TableLists). is_known t.known id) (sym p.table);
    chosen = subst (λ (t : TableLists). AreNewTaken (IsListed is_txn t.decided) (links_settled t.links x.settled.items) x.components.items) (sym p.table) f.chosen;
    ids = f.ids;
    over = subst (λ (taken : List (List TxnId)). AreOver x.marks (taken ++ x.components.items) x.over.items) (sym p.taken) f.over;
  }

-- more room for components changes nothing else
pub room_alike : (old mid : ListParts) (taken : TakenComponents) → mid ≡ old → taken.components ≡ mid.taken.components → AreAlike old (record mid { taken = taken })
room_alike old mid taken same is = record {
  table = ap (λ (k : ListParts). k.table) same;
  waiting = ap (λ (k : ListParts). k.waits.waiting) same;
  fetches = ap (λ (k : ListParts). k.waits.fetches) same;
  marks = ap (λ (k : ListParts). k.marks) same;
  taken = is ∙ ap (λ (k : ListParts). k.taken.components) same;
}
