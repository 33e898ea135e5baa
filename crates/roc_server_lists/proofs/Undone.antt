-- Lists that were learnt are taken back
use Rattle.std.proofs.Common.{◌≡◌, Bool, true, false, not, List, map, filter, refl, sym, ap, subst, ◌∙◌}
use Rattle.std.proofs.lemmas.Bool.{false≢true}
use Rattle.roc_sequence.specs.Lists.{Has}
use Rattle.roc_sequence.specs.Places.{IsListed, is_listed}
use Rattle.roc_sequence.proofs.Places.{listed_true}
use Rattle.roc_base.specs.declared.id.TxnId.{TxnId}
use Rattle.roc_base.specs.TxnId.{is_txn}
use Rattle.roc_step.specs.Learning.{AreLearnable}
use Rattle.roc_step.proofs.SameIds.{known_alike}
use Rattle.roc_depgraph.specs.declared.known.KnownList.{KnownList}
use Rattle.roc_depgraph.specs.Deps.{is_known, IsDecided}
use Rattle.roc_server_table.specs.Kept.{TableLists}
use Rattle.roc_server_table.proofs.Unlearnt.{known_has, known_itself, unknown_before, unlearnt_known, unlearnt_links}
use Rattle.roc_server_lists.specs.declared.parts.ListParts.{ListParts}
use Rattle.roc_server_lists.specs.declared.trial.Lesson.{Lesson}
use Rattle.roc_server_lists.specs.Inner.Finding.{AreAlike}
use Rattle.roc_server_lists.specs.Inner.Parts.{kept_in, AreConsistent}
use Rattle.roc_server_lists.specs.Inner.Trials.{unlearnt, AreListsTried}
use Rattle.roc_server_lists.proofs.RoomAside.{alike_kept, alike_sound}

-- of no list that was learnt last the transaction is decided
pub none_decided : (decided : List TxnId) (before linked news : List KnownList) → ((t : TxnId) → IsListed is_txn decided t → IsDecided before t) → map (λ (k : KnownList). k.of) linked ≡ map (λ (k : KnownList). k.of) news
    → AreLearnable before linked → (n : KnownList) → Has n news → is_listed is_txn decided n.of ≡ false
none_decided decided before linked news only same learnable n has = go (is_listed is_txn decided n.of) refl
  where
    go : (b : Bool) → is_listed is_txn decided n.of ≡ b → b ≡ false
    go true e =
        let w = known_has linked n.of (known_alike news linked same n.of ∙ known_itself news n has) in
        absurd (false≢true (sym (unknown_before before linked learnable w.0 w.1) ∙ ap (is_known before) w.2 ∙ (only n.of (listed_true is_txn decided n.of e)).own))
    go false e = refl

module _ (k : ListParts) (l : Lesson) (p : AreListsTried k l) (news : List KnownList) (same : news ≡ l.news.items) where
  pub to_unlearn : (n : KnownList) → Has n news → is_listed is_txn k.table.decided n.of ≡ false
  to_unlearn n has =
      none_decided k.table.decided p.learnt.links.before p.learnt.links.linked l.news.items
      (λ t d. subst (λ ks. IsDecided ks t) (sym p.links_before) (p.sound.right.decided.sound t d)) p.learnt.links.of p.learnt.links.learnable n (subst (Has n) same has)

  -- those of other transactions than these
  abbrev others : List KnownList → List KnownList
  others ks = filter (λ (x : KnownList). not (is_known news x.of)) ks

  module _ (table : TableLists) (known : table.known ≡ others k.table.known) (links : table.links ≡ others k.table.links) (decided : table.decided ≡ k.table.decided) where
    known_is : table.known ≡ (unlearnt k l).table.known
    known_is = known ∙ ap (λ ns. filter (λ (x : KnownList). not (is_known ns x.of)) k.table.known) same ∙ unlearnt_known k.table.known l.news.items p.learnt.known ∙ p.known_before

    links_is : table.links ≡ (unlearnt k l).table.links
    links_is = links ∙ ap (λ ns. filter (λ (x : KnownList). not (is_known ns x.of)) k.table.links) same ∙ unlearnt_links k.table.links l.news.items p.learnt.links ∙ p.links_before

    alike : AreAlike (unlearnt k l) (record k { table = table })
    alike = record { table = λ i. record { known = known_is i; links = links_is i; decided = decided i }; waiting = refl; fetches = refl; marks = refl; taken = refl }

    pub back_kept : kept_in (record k { table = table }) ≡ kept_in (unlearnt k l)
    back_kept = alike_kept (unlearnt k l) (record k { table = table }) alike

    pub back_sound : AreConsistent (record k { table = table })
    back_sound = alike_sound (unlearnt k l) (record k { table = table }) alike p.sound
