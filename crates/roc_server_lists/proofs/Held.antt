-- What is kept while one step is tried
use Rattle.std.proofs.Common.{◌≡◌, List, [], Option, Some, None, Result, Ok, Err, OnErr, not, filter, refl, sym, ap, subst, ◌∙◌}
use Rattle.std.proofs.lemmas.Option.{none-some}
use Rattle.roc_sequence.specs.Places.{is_listed}
use Rattle.roc_base.specs.TxnId.{is_txn}
use Rattle.roc_depgraph.specs.Deps.{is_known}
use Rattle.roc_step.specs.Below.{is_ended}
use Rattle.roc_step.specs.Waits.{Awaited}
use Rattle.roc_step.specs.declared.started.StartedGroup.{StartedGroup}
use Rattle.roc_step.specs.declared.waits.Asker.{Asker}
use Rattle.roc_step.specs.declared.waits.OpenFetch.{OpenFetch}
use Rattle.roc_server_groups.specs.GroupsNow.{groups_without}
use Rattle.roc_server_groups.proofs.IndexSteps.{filter_all}
use Rattle.roc_server_lists.specs.declared.parts.ListParts.{ListParts}
use Rattle.roc_server_lists.specs.declared.trial.Trial.{Trial}
use Rattle.roc_server_lists.specs.declared.trial.Trial.TheVariants.{Asker as AskerComes, Lists as ListsCome, Marks as MarksRise, Settled as SettledComes}
use Rattle.roc_server_lists.specs.ListsNow.{with_one_asking, IsNoneLeft, KeptLists}
use Rattle.roc_server_lists.specs.Inner.Finding.{AreAlike}
use Rattle.roc_server_lists.specs.Inner.Parts.{kept_in, AreConsistent}
use Rattle.roc_server_lists.specs.Inner.Trials.{before, before_trial, lists_now, tried_of, AreHeld, IsTrial}
use Rattle.roc_server_lists.proofs.RoomAside.{alike_kept, alike_sound}
use Rattle.roc_server_news.proofs.FollowedLinks.{links_known}

-- ---- nothing is tried

untried : (k : ListParts) (trial : Option Trial) → (lists_now k trial).tried ≡ None → trial ≡ None
untried k None e = refl
untried k (Some t) e = absurd (none-some (tried_of k t) (sym e))

module _ (k : ListParts) (trial : Option Trial) (none : (lists_now k trial).tried ≡ None) where
  pub untried_kept : kept_in k ≡ (lists_now k trial).kept
  untried_kept = ap (λ t. kept_in (before k t)) (sym (untried k trial none))

  pub untried_sound : AreHeld k trial → AreConsistent k
  untried_sound held = subst (AreHeld k) (untried k trial none) held

-- and still nothing is
pub still_held : (k new : ListParts) (trial : Option Trial) → (lists_now k trial).tried ≡ None → AreConsistent new → AreHeld new trial
still_held k new trial none sound = subst (AreHeld new) (sym (untried k trial none)) sound

pub still_none : {T E : Type 0} (r : Result T E) (k new : ListParts) (trial : Option Trial) → (lists_now k trial).tried ≡ None → OnErr r ((lists_now new trial).tried ≡ None)
still_none (Ok a) k new trial none = tt
still_none (Err e) k new trial none = ap (λ t. (lists_now new t).tried) (untried k trial none)

-- ---- what a step leaves as it was until it is kept

trial_sound : (k : ListParts) (trial : Trial) → IsTrial k trial → AreConsistent (before_trial k trial)
trial_sound k (AskerComes asker) h = h.0
trial_sound k (ListsCome l) h = h.sound
trial_sound k (MarksRise m) h = h.sound
trial_sound k (SettledComes s) h = h.sound

held_sound : (k : ListParts) (trial : Option Trial) → AreHeld k trial → AreConsistent (before k trial)
held_sound k None h = h
held_sound k (Some t) h = trial_sound k t h

open_before : (k : ListParts) (trial : Option Trial) → k.waits.fetches ≡ (before k trial).waits.fetches
open_before k None = refl
open_before k (Some (AskerComes asker)) = refl
open_before k (Some (ListsCome l)) = refl
open_before k (Some (MarksRise m)) = refl
open_before k (Some (SettledComes s)) = refl

-- what is open is what was asked for and is not known
pub open_unknown : (k : ListParts) (trial : Option Trial) → AreHeld k trial
    → k.waits.fetches ≡ filter (λ a. not (is_known (lists_now k trial).kept.lists.known a.id)) (lists_now k trial).kept.lists.waiting.asked
open_unknown k trial held =
    let was : ListParts = before k trial in
    let right = (held_sound k trial held).right in
    open_before k trial ∙ right.open_unknown
    ∙ (λ i. filter (λ (a : OpenFetch). not (links_known (is_ended was.marks) was.table.known was.table.links right.linked a.id i)) was.waits.waiting.asked)

-- ---- there is room for one more who waits

module _ (k : ListParts) (waits : Awaited) (waiting : waits.waiting ≡ k.waits.waiting) (fetches : waits.fetches ≡ k.waits.fetches) where
  abbrev reserved : ListParts
  reserved = record k { waits = waits }

  alike : AreAlike k reserved
  alike = record { table = refl; waiting = waiting; fetches = fetches; marks = refl; taken = refl }

  pub reserved_kept : kept_in reserved ≡ kept_in k
  reserved_kept = alike_kept k reserved alike

  pub reserved_sound : AreConsistent k → AreConsistent reserved
  reserved_sound sound = alike_sound k reserved alike sound

-- where nothing is forgotten, nothing more is missing
pub asking_left : (started : List StartedGroup) (asker : Asker) (k : KeptLists) → IsNoneLeft started k.lists → IsNoneLeft (groups_without [] started) (with_one_asking asker k).lists
asking_left started asker k none =
    subst (λ es. IsNoneLeft es (with_one_asking asker k).lists) (sym (filter_all (λ (e : StartedGroup). not (is_listed is_txn [] e.id)) started (λ e h. refl))) none
