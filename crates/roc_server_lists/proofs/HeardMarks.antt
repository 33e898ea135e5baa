-- What comes of a watermark
use Rattle.std.proofs.Common.{◌≡◌, ◌∙◌, ℕ, List, refl, sym, ap, subst}
use Rattle.roc_step.specs.declared.started.StartedGroup.{StartedGroup}
use Rattle.roc_step.specs.Below.{is_ended, raised}
use Rattle.roc_step.specs.State.{ServerState}
use Rattle.roc_step.proofs.Raised.{ended_still}
use Rattle.roc_server_groups.specs.GroupsNow.{groups_without}
use Rattle.roc_server_lists.specs.declared.parts.ListParts.{ListParts}
use Rattle.roc_server_lists.specs.declared.trial.Heard.{Heard}
use Rattle.roc_server_lists.specs.declared.trial.Trial.TheVariants.{Marks}
use Rattle.roc_server_lists.specs.ListsNow.{lists_of, IsHeard, IsNoneLeft, KeptLists}
use Rattle.roc_server_taken.specs.Components.{AreOver}
use Rattle.roc_server_lists.specs.Inner.Parts.{kept_in, AreConsistent}
use Rattle.roc_server_lists.specs.Inner.Trials.{after, lists_forgetting, tried_of, AreMarksTried}
use Rattle.roc_server_lists.proofs.NoneLeft.{left_forgetting}

module _ (k : ListParts) (coord mark : ℕ) (h : Heard) (marks : h.marks ≡ raised k.marks coord mark) (over : AreOver h.marks k.taken.components h.over.items) where
  pub hears : (s : ServerState) → lists_of s ≡ kept_in k → IsHeard s coord mark (tried_of k (Marks h))
  hears s is =
      let below : h.marks ≡ raised s.below coord mark = marks ∙ ap (λ (q : KeptLists). raised q.below coord mark) (sym is) in
      record {
        kept = λ i. lists_forgetting (record { lists = (sym is i).lists; below = below i });
        newly = refl;
        asks = refl;
        over =
            subst (λ marks. AreOver marks s.lists.taken h.over.items) below
            (subst (λ (q : KeptLists). AreOver h.marks q.lists.taken h.over.items) (sym is) over);
      }

  pub marks_tried : AreConsistent k → AreMarksTried k h
  marks_tried sound = record { sound = sound; risen = λ t e. ap (λ below. is_ended below t) marks ∙ ended_still k.marks coord mark t e; over = over }

  pub heard_left : (started : List StartedGroup) → IsNoneLeft started (kept_in k).lists → IsNoneLeft (groups_without h.over.items started) (after k (Marks h)).lists
  heard_left started none = left_forgetting started (record (kept_in k) { below = h.marks }) h.over.items over none
