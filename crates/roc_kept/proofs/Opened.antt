-- Opening: records that are taken one by one
use Rattle.std.proofs.Common.{IfSome, ◌≡◌, ◌⊎◌, inl, inr, ℕ, ◌+◌, Bool, true, false, List, [], ◌∷◌, ◌++◌, length, map, Some, None, Result, Ok, Err, refl, sym, ap, subst, ◌∙◌}
use Rattle.std.proofs.lemmas.List.{map-append}
use Rattle.roc_base.specs.declared.node.Shard.{Shard}
use Rattle.roc_disk.specs.declared.disk.Disk.{Ghosts as DiskOf}
use Rattle.roc_disk.specs.Over.{LeavesOnly, Stays}
use Rattle.roc_disk.specs.Stops.{Elapses, NoMore}
use Rattle.roc_disk.proofs.Moments.{started, one_more, joined, weaker}
use Rattle.roc_io.specs.Cause.{HasCause, Counted}
use Rattle.roc_msg.specs.declared.msg.Msg.{Msg}
use Rattle.roc_msg.specs.Outbox.{Collected}
use Rattle.roc_plan.specs.Groups.{Plan}
use Rattle.roc_journal.specs.declared.journal.Journal.{Journal}
use Rattle.roc_journal.specs.Settled.{IsDurable, IsSynced, IsUnmade}
use Rattle.roc_journal.specs.declared.reader.Reader.{Reader}
use Rattle.roc_journal.specs.declared.record.Record.{Record}
use Rattle.roc_journal.specs.Faults.{IsBadRecord}
use Rattle.roc_journal.specs.Format.{head, opened, IsJournal}
use Rattle.roc_journal.specs.Reading.{IsReadTo}
use Rattle.roc_step.specs.declared.handled.Handled.{Handled}
use Rattle.roc_step.specs.Reads.{first_viewing, is_taken}
use Rattle.roc_server.specs.Ahead.{ServingFits, IsMadeFor}
use Rattle.roc_step.specs.Fits.{AreReadsOf, ServerFits}
use Rattle.roc_step.specs.First.{first_server}
use Rattle.roc_step.specs.Restarts.{without_reads, IsKeptFold, nothing_kept, one_more_kept, StandsFor}
use Rattle.roc_kept.specs.declared.keeper.Keeper.{Keeper}
use Rattle.roc_kept.specs.Kept.{messages_in, IsFrom, IsKeptOn, StandsForSome}
use Rattle.roc_server.specs.State.{Serving}
use Rattle.roc_step.specs.State.{ServerState, Viewing}
use Rattle.roc_kept.specs.declared.fault.OpenFault.{OpenFault}
use Rattle.roc_kept.specs.declared.fault.OpenFault.TheVariants.{Journal as NoJournal, Disk, NoMemory}
use Rattle.roc_kept.specs.Opening.{opening_failed, GivesSome, IsIgnoredRecord, IsRefusedAt, record_is_none, IsTakenTo, IsFurther, TakesAgain, TakesNext, TakesAll, AreAllTaken, IsSettledFor, HoldsTheSame, LeftByOpening, OpensAs, RefusesRightly}
use Rattle.roc_kept.proofs.Keeping.{Comes}

pub takes_again : (plan : Plan) (msg : Msg) (s : ServerState) (v : Viewing) (answer : Handled) (z : ServerState) (y : Viewing) (old new : Collected) (taken : Bool) → taken ≡ is_taken answer → Comes plan msg s v answer z y old new
    → TakesAgain plan msg s v z y taken
takes_again plan msg s v answer z y old new taken is (r, q, handles, answers, shows) =
    record { step = r; reads = q; handles = handles; answers = answers; is = is ∙ ap is_taken (sym shows.answers); state = shows.keeps; viewing = shows.views }

module _ (plan : Plan) (shard : Shard) (bytes : List ℕ) (records : List Record) (found : Record) (old new : Reader) (s z : ServerState) (v y : Viewing) (at : ℕ) where
  abbrev Msgs : List Record → List Msg
  Msgs = map (λ r. r.msg)

  -- it was taken
  pub one_taken : IsTakenTo plan shard bytes records old s v → (at ≡ length (head old.tag ++ opened records) + 1) × IsReadTo bytes (records ++ found ∷ []) new → TakesAgain plan found.msg s v z y true
      → IsTakenTo plan shard bytes (records ++ found ∷ []) new z y
  one_taken so_far read t = record {
    read = read.1;
    fold = subst (λ msgs. IsKeptFold plan shard msgs z y) (sym (map-append (λ (r : Record). r.msg) records (found ∷ [])))
        (subst (λ z. IsKeptFold plan shard (Msgs records ++ found.msg ∷ []) z y) t.state
        (subst (λ y. IsKeptFold plan shard (Msgs records ++ found.msg ∷ []) t.step.state y) t.viewing
        (one_more_kept found.msg t.step t.reads so_far.fold t.handles t.answers (sym t.is))));
  }

  -- it was ignored
  pub one_ignored : IsTakenTo plan shard bytes records old s v → new.tag ≡ old.tag → (at ≡ length (head old.tag ++ opened records) + 1) × IsReadTo bytes (records ++ found ∷ []) new → TakesAgain plan found.msg s v z y false
      → IsIgnoredRecord plan old.tag shard bytes at
  one_ignored so_far tag read t = subst (λ tag. IsIgnoredRecord plan tag shard bytes at) tag (record {
    records = records;
    ignored = found;
    each = read.1.each;
    gate_byte = read.1.gate_byte;
    behind = read.1.behind;
    is = read.1.is;
    place = subst (λ (tag : List ℕ). at ≡ length (head tag ++ opened records) + 1) (sym tag) read.0;
    state = s;
    viewing = v;
    fold = so_far.fold;
    step = t.step;
    handles = t.handles;
    not_taken = sym t.is;
  })

-- what stands behind the records is none
pub no_record : (plan : Plan) (shard : Shard) (bytes : List ℕ) (records : List Record) (reader : Reader) (s : ServerState) (v : Viewing) → IsTakenTo plan shard bytes records reader s v → (at : ℕ) → (bad : IsBadRecord reader.tag bytes at) × (bad.records ≡ records)
    → IsRefusedAt plan reader.tag shard bytes at
no_record plan shard bytes records reader s v taken at (bad, same) = record_is_none bad s v (subst (λ rs. IsKeptFold plan shard (messages_in rs) s v) (sym same) taken.fold)

-- what is given behind one message more
pub gives_more : (plan : Plan) (shard : Shard) (msg : Msg) (s z : ServerState) (v y : Viewing) → TakesAgain plan msg s v z y true → GivesSome plan shard s v → GivesSome plan shard z y
gives_more plan shard msg s z v y t (msgs, fold) = (
  msgs ++ msg ∷ [],
  subst (λ z. IsKeptFold plan shard (msgs ++ msg ∷ []) z y) t.state (subst (λ y. IsKeptFold plan shard (msgs ++ msg ∷ []) t.step.state y) t.viewing (one_more_kept msg t.step t.reads fold t.handles t.answers (sym t.is))),
)

-- nothing was written, and nothing was written
pub stays_on : {D : Type 0} (disk : DiskOf D) (old mid new : D) → Stays disk old mid → Stays disk mid new → Stays disk old new
stays_on disk old mid new a b = record {
  told = a.told;
  file = b.file ∙ a.file;
  content = λ name. b.content name ∙ a.content name;
  no_more = λ name image may. a.no_more name image (b.no_more name image may);
  leaves = λ name. joined disk name old mid new _ (a.leaves name) (weaker disk name mid new _ _ (a.no_more name) (b.leaves name));
}

pub further_on : (old mid new : Reader) → IsFurther old mid → IsFurther mid new → IsFurther old new
further_on old mid new a b = (b.0 ∙ a.0, b.1 ∙ a.1, b.2)

pub stays_here : {D : Type 0} (disk : DiskOf D) (now : D) → disk.tells now ≡ true → ((name image : List ℕ) → disk.left_since now name (disk.moment now) image → disk.may_leave now name image) → Stays disk now now
stays_here disk now tells only = record {
  told = tells;
  file = refl;
  content = λ name. refl;
  no_more = λ name image may. may;
  leaves = λ name. started disk name now _ (only name);
}

pub len_on : {D : Type 0} (disk : DiskOf D) (old mid : D) (reader last : Reader) → Stays disk old mid → IsFurther reader last → ((name : List ℕ) → disk.file old ≡ Some name → reader.len ≡ length (disk.content old name)) → (name : List ℕ) → disk.file mid ≡ Some name
    → last.len ≡ length (disk.content mid name)
len_on disk old mid reader last stays further len name file = further.1 ∙ (len name (sym stays.file ∙ file) ∙ ap length (sym (stays.content name)))

-- a fault of one record is that of all
pub err_cause : (A B : Type 0) (e : OpenFault) (old mid new : ℕ) → mid ≡ old → HasCause (opening_failed {T = A} (Err e)) mid new → HasCause (opening_failed {T = B} (Err e)) old new
err_cause A B (NoJournal at) old mid new same h = h ∙ same
err_cause A B Disk old mid new same h = subst (λ n. Counted n new) same h
err_cause A B NoMemory old mid new same h = h ∙ same

module _ (plan : Plan) (shard : Shard) (bytes held : List ℕ) (same : held ≡ bytes) (tag : List ℕ) (records : List Record) (last : Reader) (tags : last.tag ≡ tag) (s z : ServerState) (v y : Viewing) where
  pub taken_there : IsTakenTo plan shard bytes records last s v → IsTakenTo plan shard held records last s v
  taken_there t = subst (λ bytes. IsTakenTo plan shard bytes records last s v) (sym same) t

  pub err_taken : (e : OpenFault) → TakesNext plan shard held records last s v z y (Err e) → TakesAll plan shard tag bytes z y (Err e)
  err_taken (NoJournal at) h = subst (λ tag. IsRefusedAt plan tag shard bytes at) tags (subst (λ bytes. IsRefusedAt plan last.tag shard bytes at) same h)
  err_taken Disk h = tt
  err_taken NoMemory h = tt

  pub all_taken : IsTakenTo plan shard bytes records last s v → TakesNext plan shard held records last s v z y (Ok None) → TakesAll plan shard tag bytes z y (Ok last)
  all_taken t (journal, state, viewing) = record {
    records = records;
    taken = subst (λ y. IsTakenTo plan shard bytes records last z y) (sym viewing) (subst (λ z. IsTakenTo plan shard bytes records last z v) (sym state) t);
    journal = subst (λ tag. IsJournal tag bytes records) tags (subst (λ bytes. IsJournal last.tag bytes records) same journal);
  }

  pub more_taken : (next : Reader) → TakesNext plan shard held records last s v z y (Ok (Some next)) → (records : List Record) × IsTakenTo plan shard bytes records next z y
  more_taken next (r, t) = (records ++ r ∷ [], subst (λ bytes. IsTakenTo plan shard bytes (records ++ r ∷ []) next z y) same t)

-- ---- what a stop leaves while a journal is opened

module _ {D : Type 0} (disk : DiskOf D) (old mid new : D) (name : List ℕ) (plan : Plan) (shard : Shard) (tag : List ℕ) (reader : Reader) (s : ServerState) (v : Viewing) where
  -- what was read is on the disk still
  pub still_durable : Stays disk old mid → IsDurable disk old name (disk.content old name) → IsDurable disk mid name (disk.content old name)
  still_durable stays d = record {
    file = stays.file ∙ d.file;
    content = stays.content name;
    only = λ image may. d.only image (stays.no_more name image may);
  }

  -- nothing was written yet
  pub only_read : Stays disk old mid → LeavesOnly disk old mid name (LeftByOpening tag (disk.content old name) (disk.may_leave old name))
  only_read stays = weaker disk name old mid _ _ (λ image may. inl may) (stays.leaves name)

  -- and then the end was cut
  pub then_cut : Stays disk old mid → reader.tag ≡ tag → (a : AreAllTaken plan shard tag (disk.content old name) reader s v) → LeavesOnly disk mid new name (λ image. IsJournal reader.tag image a.records)
      → LeavesOnly disk old new name (LeftByOpening tag (disk.content old name) (disk.may_leave old name))
  then_cut stays tags a cut =
      joined disk name old mid new _ (only_read stays)
      (weaker disk name mid new _ _ (λ image is. inr (inl (record { records = a.records; was = a.journal; is = subst (λ tag. IsJournal tag image a.records) tags is }))) cut)

  pub settled : (journal : Journal) → reader.tag ≡ tag → (a : AreAllTaken plan shard tag (disk.content old name) reader s v) → IsSynced disk new name reader.tag a.records journal
      → IsSettledFor disk new plan name tag shard (disk.content old name) s v journal
  settled journal tags a synced = record {
    records = a.records;
    opened = record { was = inl a.journal; fold = a.taken.fold };
    synced = subst (λ tag. IsSynced disk new name tag a.records journal) tags synced;
  }

pub err_opens : {D : Type 0} (disk : DiskOf D) (now : D) (plan : Plan) (name tag : List ℕ) (shard : Shard) (bytes : List ℕ) (s : ServerState) (v : Viewing) (e : OpenFault) → TakesAll plan shard tag bytes s v (Err e)
    → OpensAs disk now plan name tag shard bytes s v (Err e)
err_opens disk now plan name tag shard bytes s v (NoJournal at) h = h
err_opens disk now plan name tag shard bytes s v Disk h = tt
err_opens disk now plan name tag shard bytes s v NoMemory h = tt

-- ---- the file of a name

module _ {D : Type 0} (disk : DiskOf D) (old mid new : D) (name : List ℕ) (tag : List ℕ) where
  -- another file was opened, and nothing written
  pub opened_leaves : ((image : List ℕ) → disk.left_since old name (disk.moment old) image → disk.may_leave old name image) → Elapses (disk.moment old) (disk.moment mid) (disk.left_since old name) (disk.left_since mid name) (disk.may_leave mid name)
      → NoMore (disk.may_leave old name) (disk.may_leave mid name) → LeavesOnly disk old mid name (LeftByOpening tag (disk.content old name) (disk.may_leave old name))
  opened_leaves only time no_more = weaker disk name old mid _ _ (λ image may. inl may) (one_more disk name old old mid (disk.may_leave old name) (started disk name old (disk.may_leave old name) only) time no_more)

  left_before : disk.content mid name ≡ disk.content old name → NoMore (disk.may_leave old name) (disk.may_leave mid name) → (image : List ℕ) → LeftByOpening tag (disk.content mid name) (disk.may_leave mid name) image
      → LeftByOpening tag (disk.content old name) (disk.may_leave old name) image
  left_before same no_more image (inl may) = inl (no_more image may)
  left_before same no_more image (inr (inl h)) = inr (inl (subst (λ bytes. HoldsTheSame tag bytes image) same h))
  left_before same no_more image (inr (inr (none, unmade))) = inr (inr (sym same ∙ none, unmade))

  pub then_left : disk.content mid name ≡ disk.content old name → NoMore (disk.may_leave old name) (disk.may_leave mid name) → LeavesOnly disk old mid name (LeftByOpening tag (disk.content old name) (disk.may_leave old name))
      → LeavesOnly disk mid new name (LeftByOpening tag (disk.content mid name) (disk.may_leave mid name)) → LeavesOnly disk old new name (LeftByOpening tag (disk.content old name) (disk.may_leave old name))
  then_left same no_more so_far next = joined disk name old mid new _ so_far (weaker disk name mid new _ _ (left_before same no_more) next)

  pub only_stayed : Stays disk old mid → LeavesOnly disk old mid name (LeftByOpening tag (disk.content old name) (disk.may_leave old name))
  only_stayed stays = weaker disk name old mid _ _ (λ image may. inl may) (stays.leaves name)

  -- an empty file that is made a journal
  pub then_made : Stays disk old mid → disk.content old name ≡ [] → LeavesOnly disk mid new name (IsUnmade tag) → LeavesOnly disk old new name (LeftByOpening tag (disk.content old name) (disk.may_leave old name))
  then_made stays none made = joined disk name old mid new _ (only_stayed stays) (weaker disk name mid new _ _ (λ image unmade. inr (inr (none, unmade))) made)

  pub durable_here : Stays disk old mid → IsDurable disk mid name (disk.content old name) → IsDurable disk mid name (disk.content mid name)
  durable_here stays d = subst (IsDurable disk mid name) (sym (stays.content name)) d

pub made_settled : {D : Type 0} (disk : DiskOf D) (now : D) (plan : Plan) (name tag : List ℕ) (shard : Shard) (bytes : List ℕ) (s : ServerState) (v : Viewing) (journal : Journal) → bytes ≡ [] → IsKeptFold plan shard [] s v → IsSynced disk now name tag [] journal
    → IsSettledFor disk now plan name tag shard bytes s v journal
made_settled disk now plan name tag shard bytes s v journal none fold synced = record { records = []; opened = record { was = inr (none, refl); fold = fold }; synced = synced }

pub opens_there : {D : Type 0} (disk : DiskOf D) (now : D) (plan : Plan) (name tag other : List ℕ) (shard : Shard) (bytes held : List ℕ) (s : ServerState) (v : Viewing) (x : Result Journal OpenFault) → other ≡ tag → held ≡ bytes
    → OpensAs disk now plan name other shard held s v x → OpensAs disk now plan name tag shard bytes s v x
opens_there disk now plan name tag other shard bytes held s v x tags same h =
    subst (λ tag. OpensAs disk now plan name tag shard bytes s v x) tags (subst (λ bytes. OpensAs disk now plan name other shard bytes s v x) same h)

-- ---- and the server starts again

pub fits_again : (plan : Plan) (old new : Serving) → new.state ≡ old.state → new.viewing ≡ without_reads old.viewing → new.ahead ≡ None → ServingFits plan old → ServingFits plan new
fits_again plan old new state viewing none fits = (subst (λ s. ServerFits plan s) (sym state) fits.0, subst (λ (v : Viewing). AreReadsOf plan v.reads) (sym viewing) tt, subst (λ a. IfSome a (IsMadeFor plan new.state new.viewing)) (sym none) tt)

pub first_here : (plan : Plan) (shard : Shard) (s : ServerState) → s ≡ first_server plan shard → s ≡ first_server plan s.shard
first_here plan shard s e = e ∙ ap (first_server plan) (sym (ap (λ (s : ServerState). s.shard) e))

pub first_fold : (plan : Plan) (shard : Shard) (s : ServerState) (v : Viewing) → s ≡ first_server plan shard → v ≡ first_viewing → IsKeptFold plan shard [] s v
first_fold plan shard s v state viewing = subst (λ v. IsKeptFold plan shard [] s v) (sym viewing) (subst (λ s. IsKeptFold plan shard [] s first_viewing) (sym state) nothing_kept)

module _ (plan : Plan) (shard : Shard) (s z : ServerState) (v y : Viewing) (state : z ≡ s) (viewing : y ≡ without_reads v) where
  stands_again : (msgs : List Msg) → IsKeptFold plan shard msgs s v → StandsFor plan shard msgs z y
  stands_again msgs fold = record {
    viewing = v;
    fold = subst (λ s. IsKeptFold plan shard msgs s v) (sym state) fold;
    versions = ap (λ (v : Viewing). v.versions) viewing;
  }

  pub stands_for_some : GivesSome plan shard s v → StandsForSome plan shard z y
  stands_for_some (msgs, fold) = (msgs, stands_again msgs fold)

  pub opened_kept : {D : Type 0} (disk : DiskOf D) (now : D) (name tag bytes : List ℕ) (keeper : Keeper) → keeper.tag ≡ tag → s.shard ≡ shard → IsSettledFor disk now plan name tag shard bytes s v keeper.journal
      → IsKeptOn disk now plan name tag z y (Some keeper) × IsFrom plan tag shard bytes z y
  opened_kept disk now name tag bytes keeper of same h = (
    record {
      records = h.records;
      synced = (of, h.synced);
      stands = subst (λ shard. StandsFor plan shard (messages_in h.records) z y) (sym (ap (λ (s : ServerState). s.shard) state ∙ same)) (stands_again (messages_in h.records) h.opened.fold);
    },
    from h.records h.opened.was (stands_again (messages_in h.records) h.opened.fold),
  ) where
    from : (records : List Record) → IsJournal tag bytes records ⊎ ((bytes ≡ []) × (records ≡ [])) → StandsFor plan shard (messages_in records) z y → IsFrom plan tag shard bytes z y
    from records (inl journal) stands = inl (record { records = records; journal = journal; stands = stands })
    from records (inr (none, empty)) stands = inr (none, subst (λ records. StandsFor plan shard (messages_in records) z y) empty stands)

pub err_refuses : (T : Type 0) {D : Type 0} (disk : DiskOf D) (now : D) (plan : Plan) (name tag : List ℕ) (shard : Shard) (bytes : List ℕ) (s : ServerState) (v : Viewing) (e : OpenFault) → OpensAs disk now plan name tag shard bytes s v (Err e)
    → RefusesRightly {T = T} plan tag shard bytes (Err e)
err_refuses T disk now plan name tag shard bytes s v (NoJournal at) h = h
err_refuses T disk now plan name tag shard bytes s v Disk h = tt
err_refuses T disk now plan name tag shard bytes s v NoMemory h = tt
