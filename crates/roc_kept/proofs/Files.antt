-- Each file is empty, recovers a server, or is refused at one place
use Rattle.std.proofs.Common.{◌≡◌, ◌⊎◌, inl, inr, ℕ, ◌+◌, ◌≤◌, List, [], ◌∷◌, ◌++◌, length, refl, sym, ap, subst, ◌∙◌, arith, append_assoc, length-append}
use Rattle.std.proofs.lemmas.List.{append-nil}
use Rattle.std.specs.List.{AllByRecursion}
use Rattle.roc_sequence.proofs.Appended.{same_more}
use Rattle.roc_base.specs.declared.node.Shard.{Shard}
use Rattle.roc_plan.specs.Groups.{Plan}
use Rattle.roc_journal.specs.declared.record.Record.{Record}
use Rattle.roc_journal.specs.Faults.{IsBadRecord, IsFault, magic_is_wrong, tag_is_wrong, gate_is_missing, record_is_bad}
use Rattle.roc_journal.specs.Format.{magic, head, record_bytes, opened, IsRecordOf, IsJournal}
use Rattle.roc_journal.specs.Laws.{HasRecords, HasFault}
use Rattle.roc_journal.proofs.Beginnings.{SpelledApart}
use Rattle.roc_journal.proofs.Ends.{first_of}
use Rattle.roc_journal.proofs.Fronts.{one_goes_on, ended_here, all_front}
use Rattle.roc_journal.proofs.Walks.{Ends, only_end, no_fault, one_fault}
use Rattle.roc_step.specs.Restarts.{IsKeptFold}
use Rattle.roc_step.specs.State.{ServerState, Viewing}
use Rattle.roc_kept.specs.Kept.{messages_in, Recovers}
use Rattle.roc_kept.specs.Laws.{HaveOutcomes, IsRecovered, HasRefusal}
use Rattle.roc_kept.specs.Opening.{IsIgnoredRecord, IsRefusedAt, head_is_bad, record_is_none, record_is_ignored}
use Rattle.roc_kept.proofs.Folds.{OneFold, FirstIgnored, ends_with, not_taken_here, taken_or_ignored}
use Rattle.roc_kept.proofs.Keeping.{OneStep}

-- ---- an empty file

no_head : (tag rest : List ℕ) → [] ≡ head tag ++ rest → ⊥
no_head tag rest e = absurd cc

pub empty_recovers_none : (plan : Plan) (tag : List ℕ) (shard : Shard) (s : ServerState) (v : Viewing) → Recovers plan tag shard [] s v → ⊥
empty_recovers_none plan tag shard s v r = no_head tag (opened r.records ++ r.journal.gate ∷ r.journal.behind) (r.journal.is ∙ append_assoc (head tag) (opened r.records) (r.journal.gate ∷ r.journal.behind))

pub empty_is_taken : (plan : Plan) (tag : List ℕ) (shard : Shard) (at : ℕ) → IsRefusedAt plan tag shard [] at → ⊥
empty_is_taken plan tag shard at (head_is_bad some fault within) = some refl
empty_is_taken plan tag shard at (record_is_none bad s v fold) = no_head tag (opened bad.records ++ 1 ∷ bad.rest) (bad.is ∙ append_assoc (head tag) (opened bad.records) (1 ∷ bad.rest))
empty_is_taken plan tag shard at (record_is_ignored i) =
    no_head tag (opened (i.records ++ i.ignored ∷ []) ++ i.gate_byte ∷ i.behind) (i.is ∙ append_assoc (head tag) (opened (i.records ++ i.ignored ∷ [])) (i.gate_byte ∷ i.behind))

-- ---- one of two, and one place

module _ (apart : SpelledApart) (one : OneStep) (one_fold : OneFold) (plan : Plan) (tag : List ℕ) (shard : Shard) (bytes : List ℕ) (eight : length tag ≡ 8) where
  -- an ignored record is one of those that end here
  ignored_among : (records : List Record) (gate : ℕ) (behind : List ℕ) → AllByRecursion (IsRecordOf tag) records → bytes ≡ head tag ++ opened records ++ gate ∷ behind → Ends tag gate behind → (at : ℕ) (i : IsIgnoredRecord plan tag shard bytes at)
      → (more : List Record) × (records ≡ i.records ++ i.ignored ∷ more)
  ignored_among records gate behind each is ends at i =
      elim (one_goes_on apart tag bytes (i.records ++ i.ignored ∷ []) records (i.gate_byte ∷ i.behind) (gate ∷ behind) i.each each i.is is) [
        | inl g ↦ (g.more, g.is ∙ append_assoc i.records (i.ignored ∷ []) g.more)
        | inr g ↦ ([], sym (ended_here tag records (i.records ++ i.ignored ∷ []) gate i.gate_byte behind i.behind ends i.each g))
      ]

  -- so no server took them
  ignored_there : (records : List Record) (gate : ℕ) (behind : List ℕ) → AllByRecursion (IsRecordOf tag) records → bytes ≡ head tag ++ opened records ++ gate ∷ behind → Ends tag gate behind → (s : ServerState) (v : Viewing)
      → IsKeptFold plan shard (messages_in records) s v → (at : ℕ) → IsIgnoredRecord plan tag shard bytes at → ⊥
  ignored_there records gate behind each is ends s v fold at i =
      let among = ignored_among records gate behind each is ends at i in
      not_taken_here one one_fold plan shard i.records among.0 records i.ignored s i.state v i.viewing i.step fold among.1 i.fold i.handles i.not_taken

  -- behind an ignored record the head is right
  not_in_head : (at other : ℕ) → IsFault tag bytes at → at ≤ 12 → IsIgnoredRecord plan tag shard bytes other → ⊥
  not_in_head at other fault within i =
      let bad = only_end tag bytes at eight (record { records = i.records ++ i.ignored ∷ []; gate = i.gate_byte; behind = i.behind; is = i.is }) fault in
      omega (arith, bad.place, within, eight, length-append (head tag) (opened bad.records), length-append magic tag)

  pub not_both : (s : ServerState) (v : Viewing) (at : ℕ) → Recovers plan tag shard bytes s v → IsRefusedAt plan tag shard bytes at → ⊥
  not_both s v at r (head_is_bad some fault within) = no_fault apart tag bytes r.records at eight r.journal fault
  not_both s v at r (record_is_none bad t u fold) = no_fault apart tag bytes r.records at eight r.journal (record_is_bad bad)
  not_both s v at r (record_is_ignored i) =
      ignored_there r.records r.journal.gate r.journal.behind r.journal.each r.journal.is (λ both. r.journal.closed both.0) s r.stands.viewing r.stands.fold at i

  bad_or_ignored : (at other : ℕ) (bad : IsBadRecord tag bytes at) (s : ServerState) (v : Viewing) → IsKeptFold plan shard (messages_in bad.records) s v → IsIgnoredRecord plan tag shard bytes other → ⊥
  bad_or_ignored at other bad s v fold i = ignored_there bad.records 1 bad.rest bad.each bad.is (λ both. bad.none both.1) s v fold other i

  -- of two ignored records none stands behind the other
  ignored_alike : (at other : ℕ) (i : IsIgnoredRecord plan tag shard bytes at) (k : IsIgnoredRecord plan tag shard bytes other) → (more : List Record) → k.records ++ k.ignored ∷ [] ≡ (i.records ++ i.ignored ∷ []) ++ more → at ≡ other
  ignored_alike at other i k more e = go (ends_with more)
    where
      go : (more ≡ []) ⊎ ((front : List Record) × (last : Record) × (more ≡ front ++ last ∷ [])) → at ≡ other
      go (inl none) =
          let same = same_more k.records i.records k.ignored i.ignored (e ∙ ap (λ l. (i.records ++ i.ignored ∷ []) ++ l) none ∙ append-nil (i.records ++ i.ignored ∷ [])) in
          i.place ∙ ap (λ rs. length (head tag ++ opened rs) + 1) (sym same.0) ∙ sym k.place
      go (inr (front, last, is)) =
          let one_list = i.records ++ i.ignored ∷ [] in
          let same = same_more k.records (one_list ++ front) k.ignored last (e ∙ ap (λ l. one_list ++ l) is ∙ sym (append_assoc one_list front (last ∷ []))) in
          absurd (not_taken_here one one_fold plan shard i.records front k.records i.ignored k.state i.state k.viewing i.viewing i.step k.fold (same.0 ∙ append_assoc i.records (i.ignored ∷ []) front) i.fold i.handles i.not_taken)

  two_ignored : (at other : ℕ) → IsIgnoredRecord plan tag shard bytes at → IsIgnoredRecord plan tag shard bytes other → at ≡ other
  two_ignored at other i k =
      elim (one_goes_on apart tag bytes (i.records ++ i.ignored ∷ []) (k.records ++ k.ignored ∷ []) (i.gate_byte ∷ i.behind) (k.gate_byte ∷ k.behind) i.each k.each i.is k.is) [
        | inl g ↦ ignored_alike at other i k g.more g.is
        | inr g ↦ sym (ignored_alike other at k i g.more g.is)
      ]

  pub one_place : (at other : ℕ) → IsRefusedAt plan tag shard bytes at → IsRefusedAt plan tag shard bytes other → at ≡ other
  one_place at other (head_is_bad some fault within) (head_is_bad also second near) = one_fault apart tag bytes at other eight fault second
  one_place at other (head_is_bad some fault within) (record_is_none bad s v fold) = one_fault apart tag bytes at other eight fault (record_is_bad bad)
  one_place at other (head_is_bad some fault within) (record_is_ignored i) = absurd (not_in_head at other fault within i)
  one_place at other (record_is_none bad s v fold) (head_is_bad some fault within) = one_fault apart tag bytes at other eight (record_is_bad bad) fault
  one_place at other (record_is_none bad s v fold) (record_is_none worse t u more) = one_fault apart tag bytes at other eight (record_is_bad bad) (record_is_bad worse)
  one_place at other (record_is_none bad s v fold) (record_is_ignored i) = absurd (bad_or_ignored at other bad s v fold i)
  one_place at other (record_is_ignored i) (head_is_bad some fault within) = absurd (not_in_head other at fault within i)
  one_place at other (record_is_ignored i) (record_is_none bad s v fold) = absurd (bad_or_ignored other at bad s v fold i)
  one_place at other (record_is_ignored i) (record_is_ignored k) = two_ignored at other i k

-- ---- each file

opened_append : (xs ys : List Record) → opened (xs ++ ys) ≡ opened xs ++ opened ys
opened_append [] ys = refl
opened_append (x ∷ xs) ys =
    ap (λ (l : List ℕ). 1 ∷ record_bytes x ++ l) (opened_append xs ys) ∙ ap (λ (l : List ℕ). 1 ∷ l) (sym (append_assoc (record_bytes x) (opened xs) (opened ys)))

none_or_some : (bytes : List ℕ) → (bytes ≡ []) ⊎ ¬ (bytes ≡ [])
none_or_some [] = inl refl
none_or_some (b ∷ bytes) = inr (λ e. absurd cc)

module _ (plan : Plan) (tag : List ℕ) (shard : Shard) (bytes : List ℕ) (out : HaveOutcomes plan) where
  refused_here : (all : List Record) (gate : ℕ) (behind : List ℕ) → AllByRecursion (IsRecordOf tag) all → bytes ≡ head tag ++ opened all ++ gate ∷ behind → FirstIgnored plan shard all → HasRefusal plan tag shard bytes
  refused_here all gate behind each is i =
      let first = i.before ++ i.ignored ∷ [] in
      let split : all ≡ first ++ i.more = i.is ∙ sym (append_assoc i.before (i.ignored ∷ []) i.more) in
      let rest = opened i.more ++ gate ∷ behind in
      let next = first_of rest (omega (arith, length-append (opened i.more) (gate ∷ behind))) in
      let whole : bytes ≡ head tag ++ opened first ++ next.0 ∷ next.1 =
      is ∙ ap (λ (rs : List Record). head tag ++ opened rs ++ gate ∷ behind) split ∙ ap (λ (l : List ℕ). head tag ++ l ++ gate ∷ behind) (opened_append first i.more)
      ∙ append_assoc (head tag) (opened first ++ opened i.more) (gate ∷ behind) ∙ ap (λ (l : List ℕ). head tag ++ l) (append_assoc (opened first) (opened i.more) (gate ∷ behind))
      ∙ sym (append_assoc (head tag) (opened first) rest) ∙ ap (λ (l : List ℕ). head tag ++ opened first ++ l) next.2 in
      record {
        at = length (head tag ++ opened i.before) + 1;
        is = record_is_ignored (record {
          records = i.before;
          ignored = i.ignored;
          each = all_front (IsRecordOf tag) first i.more (subst (λ rs. AllByRecursion (IsRecordOf tag) rs) split each);
          gate_byte = next.0;
          behind = next.1;
          is = whole;
          place = refl;
          state = i.state;
          viewing = i.viewing;
          fold = i.fold;
          step = i.step;
          handles = i.handles;
          not_taken = i.not_taken;
        });
      }

  of_fault : (at : ℕ) → ¬ (bytes ≡ []) → IsFault tag bytes at → HasRefusal plan tag shard bytes
  of_fault at some (magic_is_wrong wrong) = record { at = 0; is = head_is_bad some (magic_is_wrong wrong) (omega arith) }
  of_fault at some (tag_is_wrong right wrong) = record { at = 4; is = head_is_bad some (tag_is_wrong right wrong) (omega arith) }
  of_fault at some (gate_is_missing e) = record { at = 12; is = head_is_bad some (gate_is_missing e) (omega arith) }
  of_fault at some (record_is_bad bad) =
      elim (taken_or_ignored plan shard out bad.records) [
        | inl (s, v, fold) ↦ record { at = at; is = record_is_none bad s v fold }
        | inr i ↦ refused_here bad.records 1 bad.rest bad.each bad.is i
      ]

  of_journal : (records : List Record) → IsJournal tag bytes records → IsRecovered plan tag shard bytes ⊎ HasRefusal plan tag shard bytes
  of_journal records j =
      elim (taken_or_ignored plan shard out records) [
        | inl (s, v, fold) ↦ inl (record { state = s; viewing = v; is = record { records = records; journal = j; stands = record { viewing = v; fold = fold; versions = refl } } })
        | inr i ↦ inr (refused_here records j.gate j.behind j.each j.is i)
      ]

  pub each_file : HasRecords tag bytes ⊎ HasFault tag bytes → (bytes ≡ []) ⊎ (IsRecovered plan tag shard bytes ⊎ HasRefusal plan tag shard bytes)
  each_file found = go (none_or_some bytes) found
    where
      go : (bytes ≡ []) ⊎ ¬ (bytes ≡ []) → HasRecords tag bytes ⊎ HasFault tag bytes → (bytes ≡ []) ⊎ (IsRecovered plan tag shard bytes ⊎ HasRefusal plan tag shard bytes)
      go (inl none) found = inl none
      go (inr some) (inl has) = inr (of_journal has.records has.is)
      go (inr some) (inr has) = inr (inr (of_fault has.at some has.is))

-- ---- a file recovers one server

abbrev pub OneJournal : Type 0
OneJournal = (tag bytes : List ℕ) (records others : List Record) → IsJournal tag bytes records → IsJournal tag bytes others → records ≡ others

pub recovered_alike : OneJournal → OneFold → (plan : Plan) (tag : List ℕ) (shard : Shard) (bytes : List ℕ) (s t : ServerState) (v u : Viewing) → Recovers plan tag shard bytes s v → Recovers plan tag shard bytes t u → (s ≡ t) × (v.versions ≡ u.versions)
recovered_alike journals one_fold plan tag shard bytes s t v u a b =
    let same : a.records ≡ b.records = journals tag bytes a.records b.records a.journal b.journal in
    let e = one_fold plan shard (messages_in b.records) s t a.stands.viewing b.stands.viewing (subst (λ rs. IsKeptFold plan shard (messages_in rs) s a.stands.viewing) same a.stands.fold) b.stands.fold in
    (e.0, a.stands.versions ∙ (ap (λ (v : Viewing). v.versions) e.1 ∙ sym b.stands.versions))
