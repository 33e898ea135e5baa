-- What a record leaves on a disk, of a server that stands for its journal
use Rattle.std.proofs.Common.{◌≡◌, inl, inr, ℕ, Bool, true, false, cond, Option, None, List, [], ◌∷◌, ◌++◌, map, refl, sym, ap, subst, ◌∙◌, Some, IfSome}
use Rattle.std.proofs.lemmas.List.{map-append}
use Rattle.roc_base.specs.declared.node.Shard.{Shard}
use Rattle.roc_disk.specs.declared.disk.Disk.{Ghosts as DiskOf}
use Rattle.roc_disk.specs.Over.{LeavesOnly}
use Rattle.roc_disk.proofs.Moments.{started, weaker}
use Rattle.roc_msg.specs.declared.msg.Msg.{Msg}
use Rattle.roc_msg.specs.Outbox.{Collected, HoldsSame}
use Rattle.roc_plan.specs.Groups.{Plan}
use Rattle.roc_journal.specs.declared.record.Record.{Record}
use Rattle.roc_journal.specs.Format.{IsAtRest, IsJournal}
use Rattle.roc_journal.specs.Settled.{IsBeforeOrAfter}
use Rattle.roc_step.specs.declared.handled.Handled.{Handled}
use Rattle.roc_step.specs.Reads.{AnswersReads, ReadStep}
use Rattle.roc_step.specs.Restarts.{is_recorded, recorded, StandsFor}
use Rattle.roc_step.specs.State.{ServerState, ServerStep, Viewing}
use Rattle.roc_server.specs.State.{MadeAhead, Serving}
use Rattle.roc_step.specs.Step.{Handles, Shows, Findings, after_message}
use Rattle.roc_kept.specs.declared.keeper.Keeper.{Keeper}
use Rattle.roc_kept.specs.Kept.{messages_in, ComesOf, KeepsTag, IsKeptOn, IsSyncedBy, RecoversEither, StopsRecover, WillBeRecorded}
use Rattle.std.proofs.lemmas.Bool.{false≢true}
use Rattle.roc_msg.specs.declared.msg.Msg.TheVariants.{Start, Commit, Fetch, Known, Ended, Settled, Read}
use Rattle.roc_server.specs.Ahead.{needs_room, IsMadeFor, IsReady, ServingFits}
use Rattle.roc_step.specs.Runs.{accesses_of}

-- the law of a server that takes a message, or ignores it
abbrev pub Stand : Type 0
Stand =
    (plan : Plan) (shard : Shard) (msgs : List Msg) (s : ServerState) (v : Viewing) (msg : Msg) (r : ServerStep) (q : ReadStep) → StandsFor plan shard msgs s v → Handles plan s msg r → AnswersReads plan v msg r q
    → StandsFor plan shard (recorded msgs msg r.answer) r.state q.viewing

module _ (stand : Stand) (plan : Plan) (s : ServerState) (v : Viewing) (records : List Record) (stands : StandsFor plan s.shard (messages_in records) s v) (added : Record) where
  -- where it leaves a record, the server stands for one more
  pub stands_more : (r : ServerStep) (q : ReadStep) → Handles plan s added.msg r → AnswersReads plan v added.msg r q → is_recorded added.msg r.answer ≡ true
      → StandsFor plan s.shard (messages_in (records ++ added ∷ [])) r.state q.viewing
  stands_more r q handles answers is =
      subst (λ msgs. StandsFor plan s.shard msgs r.state q.viewing)
      (ap (λ b. cond b (map (λ (r : Record). r.msg) records ++ added.msg ∷ []) (messages_in records)) is ∙ sym (map-append (λ (r : Record). r.msg) records (added ∷ [])))
      (stand plan s.shard (messages_in records) s v added.msg r q stands handles answers)

  -- and where it leaves none, for the same
  pub stands_still : (r : ServerStep) (q : ReadStep) → Handles plan s added.msg r → AnswersReads plan v added.msg r q → is_recorded added.msg r.answer ≡ false → StandsFor plan s.shard (messages_in records) r.state q.viewing
  stands_still r q handles answers is =
      subst (λ msgs. StandsFor plan s.shard msgs r.state q.viewing) (ap (λ b. cond b (map (λ (r : Record). r.msg) records ++ added.msg ∷ []) (messages_in records)) is)
      (stand plan s.shard (messages_in records) s v added.msg r q stands handles answers)

-- what a stop leaves of an append
pub either_recovers : (stand : Stand) {D : Type 0} (disk : DiskOf D) (old new : D) (plan : Plan) (name tag : List ℕ) (s : ServerState) (v : Viewing) (added : Record) → WillBeRecorded plan added.msg s v → (records : List Record)
    → StandsFor plan s.shard (messages_in records) s v → LeavesOnly disk old new name (IsBeforeOrAfter tag records added) → LeavesOnly disk old new name (RecoversEither plan tag added.msg s v)
either_recovers stand disk old new plan name tag s v added will records stands =
    weaker disk name old new (IsBeforeOrAfter tag records added) (RecoversEither plan tag added.msg s v)
    (λ image is. elim is [
      | inl before ↦ inl (record { records = records; journal = before; stands = stands })
      | inr behind ↦ inr (
        will.comes,
        record {
          records = records ++ added ∷ [];
          journal = behind;
          stands = stands_more stand plan s v records stands added will.comes.step will.comes.reads will.comes.handles will.comes.answers (will.each will.comes.step will.comes.handles);
        },
      )
    ])

-- ---- a server that is kept, while nothing is written

rests_as : (tag bytes : List ℕ) (records : List Record) → IsAtRest tag bytes records → IsJournal tag bytes records
rests_as tag bytes records r = record { each = r.each; gate = r.gate; closed = r.closed; behind = []; is = r.is }

synced_file : {D : Type 0} (disk : DiskOf D) (now : D) (name tag : List ℕ) (records : List Record) (keeper : Option Keeper) → IsSyncedBy disk now name tag records keeper → (image : List ℕ) → disk.may_leave now name image → IsJournal tag image records
synced_file disk now name tag records None k image may = absurd k
synced_file disk now name tag records (Some keeper) k image may = subst (λ bytes. IsJournal tag bytes records) (sym (k.1.durable image may)) (rests_as tag (disk.content now name) records k.1.rests)

pub stops_here : {D : Type 0} (disk : DiskOf D) (now : D) (plan : Plan) (name tag : List ℕ) (s : ServerState) (v : Viewing) (keeper : Option Keeper) → IsKeptOn disk now plan name tag s v keeper → StopsRecover disk now plan name tag s v
stops_here disk now plan name tag s v keeper k image may =
    record { records = k.records; journal = synced_file disk now name tag k.records keeper k.synced image may; stands = k.stands }

-- a call that writes nothing
pub left_alone : {D : Type 0} (disk : DiskOf D) (now : D) (plan : Plan) (name tag : List ℕ) (msg : Msg) (s : ServerState) (v : Viewing) (keeper : Option Keeper)
    → ((image : List ℕ) → disk.left_since now name (disk.moment now) image → disk.may_leave now name image) → IsKeptOn disk now plan name tag s v keeper → LeavesOnly disk now now name (RecoversEither plan tag msg s v)
left_alone disk now plan name tag msg s v keeper only k = started disk name now (RecoversEither plan tag msg s v) (λ image left. inl (stops_here disk now plan name tag s v keeper k image (only image left)))

-- the tag of a header is that of the journal
pub one_tag : {D : Type 0} (disk : DiskOf D) (now : D) (name tag other : List ℕ) (records : List Record) (keeper : Option Keeper) → KeepsTag other keeper → IsSyncedBy disk now name tag records keeper → other ≡ tag
one_tag disk now name tag other records None has k = absurd k
one_tag disk now name tag other records (Some keeper) has k = sym has ∙ k.0

-- ---- what was made ahead of the message

abbrev pub OneStep : Type 0
OneStep = (plan : Plan) (s : ServerState) (msg : Msg) (r other : ServerStep) → Handles plan s msg r → Handles plan s msg other → r ≡ other

abbrev pub Comes : Plan → Msg → ServerState → Viewing → Handled → ServerState → Viewing → Collected → Collected → Type 0
Comes plan msg s v answer z y old new = (r : ServerStep) × (q : ReadStep) × Handles plan s msg r × AnswersReads plan v msg r q × Shows r q answer z y old new

-- what comes of it then came of it before
pub comes_before : (plan : Plan) (msg : Msg) (s t : ServerState) (v u : Viewing) (answer : Handled) (z : ServerState) (y : Viewing) (old mid new : Collected) → t ≡ s → u ≡ v → HoldsSame old mid → Comes plan msg t u answer z y mid new → Comes plan msg s v answer z y old new
comes_before plan msg s t v u answer z y old mid new state viewing same (r, q, handles, answers, shows) = (
  r,
  q,
  subst (λ s. Handles plan s msg r) state handles,
  subst (λ v. AnswersReads plan v msg r q) viewing answers,
  record {
    answers = shows.answers;
    keeps = shows.keeps;
    views = shows.views;
    sends = shows.sends ∙ ap (λ l. l ++ (r.sends ++ q.sends)) same.0;
    decides = shows.decides ∙ ap (λ l. l ++ r.decided) same.1;
    ran = shows.ran ∙ ap (λ l. l ++ accesses_of r.ran) same.2;
  },
)

-- a kind that takes no memory leaves no record
foreign_unrecorded : (plan : Plan) (s : ServerState) (f : Findings) (msg : Msg) → needs_room msg ≡ false → is_recorded msg (after_message plan s f msg).answer ≡ false
foreign_unrecorded plan s f (Start id proc group args inputs) e = absurd (false≢true (sym e))
foreign_unrecorded plan s f (Commit id edges facts) e = absurd (false≢true (sym e))
foreign_unrecorded plan s f (Fetch id asker) e = absurd (false≢true (sym e))
foreign_unrecorded plan s f (Known id edges) e = absurd (false≢true (sym e))
foreign_unrecorded plan s f (Ended coord mark) e = absurd (false≢true (sym e))
foreign_unrecorded plan s f (Settled id mark) e = absurd (false≢true (sym e))
foreign_unrecorded plan s f (Read id round proc group args) e = absurd (false≢true (sym e))
foreign_unrecorded plan s f msg e = refl

-- what a step of the message answers, for a plan and a state
abbrev pub WillAnswer : Plan → ServerState → Msg → Handled → Type 0
WillAnswer plan s msg answer = (r : ServerStep) × Handles plan s msg r × (r.answer ≡ answer)

module _ (one : OneStep) (plan : Plan) (msg : Msg) (s : ServerState) (answer : Handled) (ready : WillAnswer plan s msg answer) where
  -- each answer is the one that was made ahead
  pub answers_as : (r : ServerStep) → Handles plan s msg r → is_recorded msg r.answer ≡ is_recorded msg answer
  answers_as r h = ap (is_recorded msg) (ap (λ (r : ServerStep). r.answer) (one plan s msg r ready.0 h ready.1) ∙ ready.2)

  -- something comes of what was made ahead
  made_comes : (v : Serving) (made : MadeAhead) → v.ahead ≡ Some made → made.msg ≡ msg → IfSome v.ahead (IsMadeFor plan v.state v.viewing) → ComesOf plan msg v.state v.viewing
  made_comes v made is of fits =
      let m : IsMadeFor plan v.state v.viewing made = subst (λ a. IfSome a (IsMadeFor plan v.state v.viewing)) is fits in
      record { step = m.step; reads = m.reads; handles = subst (λ msg. Handles plan v.state msg m.step) of m.handles; answers = subst (λ msg. AnswersReads plan v.viewing msg m.step m.reads) of m.answers_reads }

  will_be_recorded : is_recorded msg answer ≡ true → (v : Serving) (outbox : Collected) → v.state ≡ s → IsReady v outbox msg → ServingFits plan v → WillBeRecorded plan msg v.state v.viewing
  will_be_recorded is v outbox same room fits =
      record {
        comes = elim room [
          | inl foreign ↦ absurd (false≢true (sym (subst (λ (r : ServerStep). is_recorded msg r.answer ≡ false) (sym ready.1.is) (foreign_unrecorded plan s ready.1.findings msg foreign.0)) ∙ (ap (is_recorded msg) ready.2 ∙ is)))
          | inr m ↦ made_comes v m.made m.is m.of fits.2
        ];
        each = λ r h. answers_as r (subst (λ s. Handles plan s msg r) same h) ∙ is;
      }

  -- the same of what was kept for views before
  pub will_be_before : is_recorded msg answer ≡ true → (v : Serving) (outbox : Collected) (u : Viewing) → v.state ≡ s → v.viewing ≡ u → IsReady v outbox msg → ServingFits plan v → WillBeRecorded plan msg s u
  will_be_before is v outbox u same views room fits =
      subst (λ u. WillBeRecorded plan msg s u) views (subst (λ s. WillBeRecorded plan msg s v.viewing) same (will_be_recorded is v outbox same room fits))

  -- where something else is refused, the message would leave a record
  pub must_be_recorded : (is_recorded msg answer ≡ false → ⊥) → (r : ServerStep) → Handles plan s msg r → is_recorded msg r.answer ≡ true
  must_be_recorded none r h = answers_as r h ∙ go (is_recorded msg answer) refl
    where
      go : (b : Bool) → is_recorded msg answer ≡ b → is_recorded msg answer ≡ true
      go true e = e
      go false e = absurd (none e)

  -- ---- the journal behind the call, and at any moment of it

  module _ (stand : Stand) {D : Type 0} (disk : DiskOf D) (old new : D) (name tag : List ℕ) (v : Viewing) (keeper keeps : Option Keeper) (added : Record) (of : added.msg ≡ msg) (k : IsKeptOn disk old plan name tag s v keeper) where
    -- where the message leaves a record, the journal has it, and else the file is as it was
    abbrev pub Synced : Type 0
    Synced = is_recorded msg answer ≡ true → IsSyncedBy disk new name tag (k.records ++ added ∷ []) keeps

    abbrev pub Same : Type 0
    Same = is_recorded msg answer ≡ false → (keeps ≡ keeper) × (new ≡ old)

    pub kept_behind : Synced → Same → (z : ServerState) (y : Viewing) (answered : Handled) (from to : Collected) → Comes plan msg s v answered z y from to → z.shard ≡ s.shard → IsKeptOn disk new plan name tag z y keeps
    kept_behind synced same z y answered from to (r, q, handles, reads, shows) shard = go (is_recorded msg answer) refl
      where
        stood : (records : List Record) → StandsFor plan s.shard (messages_in records) r.state q.viewing → StandsFor plan z.shard (messages_in records) z y
        stood records stands =
            subst (λ shard. StandsFor plan shard (messages_in records) z y) (sym shard)
            (subst (λ z. StandsFor plan s.shard (messages_in records) z y) shows.keeps (subst (λ y. StandsFor plan s.shard (messages_in records) r.state y) shows.views stands))

        go : (b : Bool) → is_recorded msg answer ≡ b → IsKeptOn disk new plan name tag z y keeps
        go true is = record {
          records = k.records ++ added ∷ [];
          synced = synced is;
          stands = stood (k.records ++ added ∷ []) (stands_more stand plan s v k.records k.stands added r q (subst (λ m. Handles plan s m r) (sym of) handles) (subst (λ m. AnswersReads plan v m r q) (sym of) reads)
              (subst (λ m. is_recorded m r.answer ≡ true) (sym of) (answers_as r handles ∙ is)));
        }
        go false is =
            let e = same is in
            record {
              records = k.records;
              synced = subst (λ now. IsSyncedBy disk now name tag k.records keeps) (sym e.1) (subst (λ keeper. IsSyncedBy disk old name tag k.records keeper) (sym e.0) k.synced);
              stands = stood k.records (stands_still stand plan s v k.records k.stands added r q (subst (λ m. Handles plan s m r) (sym of) handles) (subst (λ m. AnswersReads plan v m r q) (sym of) reads)
                  (subst (λ m. is_recorded m r.answer ≡ false) (sym of) (answers_as r handles ∙ is)));
            }

    pub any_moment : (is_recorded msg answer ≡ true → LeavesOnly disk old new name (IsBeforeOrAfter tag k.records added)) → Same → (is_recorded msg answer ≡ true → WillBeRecorded plan msg s v)
        → ((image : List ℕ) → disk.left_since old name (disk.moment old) image → disk.may_leave old name image) → LeavesOnly disk old new name (RecoversEither plan tag msg s v)
    any_moment leaves same will only = go (is_recorded msg answer) refl
      where
        go : (b : Bool) → is_recorded msg answer ≡ b → LeavesOnly disk old new name (RecoversEither plan tag msg s v)
        go true is =
            subst (λ m. LeavesOnly disk old new name (RecoversEither plan tag m s v)) of
            (either_recovers stand disk old new plan name tag s v added (subst (λ m. WillBeRecorded plan m s v) (sym of) (will is)) k.records k.stands (leaves is))
        go false is = subst (λ now. LeavesOnly disk old now name (RecoversEither plan tag msg s v)) (sym (same is).1) (left_alone disk old plan name tag msg s v keeper only k)
