-- What a coordinator's node keeps over a drain, a submission, an event and the moment when it goes over
use Rattle.std.proofs.Common.{◌≡◌, ℕ, ◌+◌, ◌<◌, Bool, true, false, not, ◌&&◌, ◌||◌, ◌==◌, nat_lt, List, [], ◌∷◌, ◌++◌, length, get_or, Option, Some, None, refl, sym, ◌∙◌, ap, subst}
use Rattle.std.proofs.Common.{append-nil, arith, cond}
use Rattle.std.proofs.lemmas.Bool.{false≢true, ltb-true, and_parts}
use Rattle.std.proofs.lemmas.List.Elements.{filter-append}
use Rattle.std.proofs.lemmas.List.Folds.{list_all_at}
use Rattle.std.proofs.lemmas.List.FromFn.{length-range_with_len, get_or-range_with_len}
use Rattle.std.proofs.lemmas.List.{length-append}
use Rattle.std.specs.List.{list_any, range_with_len}
use Rattle.std.specs.Prelude.{filter}
use Rattle.roc_sequence.proofs.Fronts.{no_elements}
use Rattle.roc_base.specs.declared.id.TxnId.{TxnId}
use Rattle.roc_base.specs.declared.node.Shard.{Shard}
use Rattle.roc_plan.specs.Groups.{Plan}
use Rattle.roc_program.specs.Program.{Workload}
use Rattle.roc_report.specs.Line.{Line}
use Rattle.roc_sched.specs.declared.line.Request.{Request}
use Rattle.roc_msg.specs.declared.msg.Msg.{Msg}
use Rattle.roc_msg.specs.declared.msg.Msg.TheVariants.{Drained, Switched}
use Rattle.roc_msg.specs.declared.reason.Reason.{Reason}
use Rattle.roc_msg.specs.declared.reason.Reason.TheVariants.{Foreign, Stale}
use Rattle.roc_coord.specs.declared.handled.Handled.{Handled}
use Rattle.roc_coord.specs.declared.handled.Handled.TheVariants as core
use Rattle.roc_coord.specs.Renewed.{renewed_coord}
use Rattle.roc_coord.specs.State.{CoordState, CoordStep}
use Rattle.roc_coord.specs.Submit.{next_id}
use Rattle.roc_coord.specs.Step.{after_message, unless_refused}
use Rattle.roc_epoch.specs.Files.{is_file, own_file}
use Rattle.roc_epoch.specs.declared.file.File.{File}
use Rattle.roc_grown.specs.Coord as grown
use Rattle.roc_grown.specs.Coord.{GrownCoordState, GrownCoordStep, DrainStep, handled_so, have_all_switched, was_told}
use Rattle.roc_grown.specs.declared.handled.GrownAnswer.TheVariants as seen
use Rattle.roc_grown_node.specs.Setting.{GrownNodeSetting}
use Rattle.roc_grown_node.specs.declared.judging.GrownJudged.{GrownJudged}
use Rattle.roc_grown_node.specs.declared.judging.GrownJudged.TheVariants.{Delivery, Skipped}
use Rattle.roc_grown_node.specs.Judgement.{grown_judged}
use Rattle.roc_node.specs.NodeEvent.{NodeEvent, took, silent}
use Rattle.roc_node_submit.specs.EachAnswered.{is_answer, is_answer_to}
use Rattle.roc_node_submit.specs.CoordRun.{reply_lines, answered_then}
use Rattle.roc_grown_submit.specs.GrownCoordRun.{plan_of_file, grown_step_of_judged, grown_step_of_event, grown_reply_lines, grown_answered_then}
use Rattle.roc_node_submit.proofs.Counts.{waiting}
use Rattle.roc_node_submit.proofs.Keeping.{Kept}
use Rattle.roc_node_submit.proofs.KeptSteps.{kept_message as core_kept_message}

-- ---- a step of the core, of any plan, where any program names procedures

-- what a core's answer tells, a grown one's tells too
kept_message : (plan : Plan) (program : Workload) (number : ℕ) (taken : List Request) (state : CoordState) (lines : List Line) (answered : ℕ) → Kept program number taken state lines answered → (msg : Msg)
    → Kept program number taken (after_message plan state msg).state (lines ++ grown_reply_lines (handled_so (after_message plan state msg).answer)) (grown_answered_then answered (handled_so (after_message plan state msg).answer))
kept_message plan program number taken state lines answered k msg = go r.answer (core_kept_message plan program number taken state lines answered k msg)
  where
    r : CoordStep
    r = after_message plan state msg

    go : (a : Handled) → Kept program number taken r.state (lines ++ reply_lines a) (answered_then answered a) → Kept program number taken r.state (lines ++ grown_reply_lines (handled_so a)) (grown_answered_then answered (handled_so a))
    go core.Done k = k
    go (core.Answered id reply) k = k
    go (core.Ignored reason) k = k

-- where no more is given, one with nothing unanswered stays so
stays_none : (program : Workload) (number : ℕ) (taken : List Request) (old new : CoordState) (lines more : List Line) (a b : ℕ) → Kept program number taken old lines a → Kept program number taken new (lines ++ more) b
    → old.unanswered ≡ [] → new.unanswered ≡ []
stays_none program number taken old new lines more a b p q none =
    let before = p.all in let first = p.next in let after = q.all in let second = q.next in
    let grows : length (filter is_answer (lines ++ more)) ≡ length (filter is_answer lines) + length (filter is_answer more) =
    ap (λ (l : List Line). length l) (filter-append is_answer lines more) ∙ length-append (filter is_answer lines) (filter is_answer more) in
    let zero : length old.unanswered ≡ 0 = ap (λ (l : List TxnId). length l) none in
    no_elements new.unanswered (omega arith)

-- it goes over with nothing unanswered
kept_renewed : (program : Workload) (number : ℕ) (taken : List Request) (s : CoordState) (lines : List Line) (a : ℕ) → Kept program number taken s lines a → s.unanswered ≡ [] → Kept program number taken (renewed_coord s) lines a
kept_renewed program number taken s lines a k none = record {
  numbered = k.numbered;
  next = k.next;
  bounded = k.bounded;
  given = k.given;
  each = λ id. ap (λ n. length (filter (is_answer_to id) lines) + n) (sym (ap (waiting id) none)) ∙ k.each id;
  all = ap (λ (ids : List TxnId). length (filter is_answer lines) + length ids) (sym none) ∙ k.all;
  shared = λ id. refl;
  counted = k.counted;
}

-- ---- the whole state

-- Of what is kept, this holds over all that comes: what its core keeps; one that has told that it is drained drains with nothing unanswered, until it
-- switches; and one that has switched was told so by each shard
pub record Lasts (plan : Plan) (program : Workload) (number : ℕ) (taken : List Request) (s : GrownCoordState) (lines : List Line) (answered : ℕ) : Type 0 where
  pub kept : Kept program number taken s.core lines answered
  pub rests : (t : TxnId) → s.upto ≡ Some t → s.switched ≡ false → (s.draining ≡ true) × (s.core.unanswered ≡ [])
  pub over : s.switched ≡ true → have_all_switched plan.program.shards s.at ≡ true

-- ---- a drain, and what is told behind an answer

module _ (plan : Plan) (program : Workload) (number : ℕ) (taken : List Request) (lines : List Line) (answered : ℕ) where
  lasts_told : (s : GrownCoordState) → Lasts plan program number taken s lines answered → Lasts plan program number taken (grown.tell_if_drained plan s).state lines answered
  lasts_told s k = go (grown.is_drained s) refl
    where
      empty : (ids : List TxnId) → grown.is_empty ids ≡ true → ids ≡ []
      empty [] e = refl
      empty (id ∷ ids) e = absurd (false≢true e)

      go : (b : Bool) → grown.is_drained s ≡ b
          → Lasts plan program number taken (cond {A = DrainStep} b (record { state = grown.telling s; sends = grown.drained_sends plan (next_id s.core) }) (record { state = s; sends = [] })).state lines answered
      go true e = let both = and_parts s.draining (grown.is_empty s.core.unanswered) e in record { kept = k.kept; rests = λ t told early. (both.0, empty s.core.unanswered both.1); over = k.over }
      go false e = k

  pub lasts_drain : (s : GrownCoordState) → Lasts plan program number taken s lines answered → Lasts plan program number taken (grown.after_drain plan s).state lines answered
  lasts_drain s k = go (s.draining || s.switched)
    where
      drains : Lasts plan program number taken (record s { draining = true }) lines answered
      drains = record { kept = k.kept; rests = λ t told early. (refl, (k.rests t told early).1); over = k.over }

      go : (b : Bool) → Lasts plan program number taken (cond {A = DrainStep} b (record { state = s; sends = [] }) (grown.tell_if_drained plan (record s { draining = true }))).state lines answered
      go true = k
      go false = lasts_told (record s { draining = true }) drains

  lasts_behind : (s : GrownCoordState) (answer : Handled) → Lasts plan program number taken s lines answered → Lasts plan program number taken (grown.told_behind plan s answer).state lines answered
  lasts_behind s answer k = go (grown.is_answer answer)
    where
      go : (b : Bool) → Lasts plan program number taken (cond {A = DrainStep} b (grown.tell_if_drained plan s) (record { state = s; sends = [] })).state lines answered
      go true = lasts_told s k
      go false = k

-- ---- an event

module _ (plan : Plan) (program : Workload) (number : ℕ) (taken : List Request) (s : GrownCoordState) (lines : List Line) (answered : ℕ) (k : Lasts plan program number taken s lines answered) where
  abbrev LastsStep : GrownCoordStep → Type 0
  LastsStep r = Lasts plan program number taken r.state (lines ++ grown_reply_lines r.answer) (grown_answered_then answered r.answer)

  lasts_still : Lasts plan program number taken s (lines ++ []) answered
  lasts_still = subst (λ l. Lasts plan program number taken s l answered) (sym (append-nil lines)) k

  -- a step of its core, of the file that it runs
  lasts_core : (own : Plan) (msg : Msg) → LastsStep (grown.of_core plan s (after_message own s.core msg))
  lasts_core own msg =
      let r = after_message own s.core msg in
      let new = kept_message own program number taken s.core lines answered k.kept msg in
      lasts_behind plan program number taken (lines ++ grown_reply_lines (handled_so r.answer)) (grown_answered_then answered (handled_so r.answer)) (record s { core = r.state }) r.answer
      (record {
        kept = new;
        rests = λ t told early.
            let before = k.rests t told early in
            (before.0, stays_none program number taken s.core r.state lines (grown_reply_lines (handled_so r.answer)) answered (grown_answered_then answered (handled_so r.answer)) k.kept new before.1);
        over = k.over;
      })

  -- ---- a switched

  judged_new : (there told again : Bool) → cond (not (there && told)) (Some Foreign) (cond again (Some Stale) None) ≡ None → (there ≡ true) × (told ≡ true) × (again ≡ false)
  judged_new true true false e = (refl, refl, refl)
  judged_new true true true e = absurd (cc)
  judged_new true false again e = absurd (cc)
  judged_new false told again e = absurd (cc)

  told_once : (upto : TxnId) (o : Option TxnId) → was_told upto o ≡ true → (told : TxnId) × (o ≡ Some told)
  told_once upto None e = absurd (false≢true e)
  told_once upto (Some told) e = (told, refl)

  -- all have told, so this one has
  has_told : (shards : ℕ) (at : List Shard) (shard : ℕ) → have_all_switched shards at ≡ true → shard < shards → list_any (λ (told : Shard). told.0 == shard) at ≡ false → ⊥
  has_told shards at shard all below none =
      let test = λ (n : ℕ). list_any (λ (told : Shard). told.0 == n) at in
      let within : shard < length (range_with_len 0 shards) = let n = length-range_with_len 0 shards in omega arith in
      let at_place = get_or-range_with_len 0 shards shard 0 below in
      let there : get_or (range_with_len 0 shards) shard 0 ≡ shard = omega arith in
      false≢true (sym (list_all_at test (range_with_len 0 shards) shard 0 within (ap test there ∙ none)) ∙ all)

  lasts_over : (upto : TxnId) (shard : Shard) → grown.switched_refusal plan s upto shard ≡ None
      → Lasts plan program number taken (grown.over_if_all plan (record s { at = s.at ++ shard ∷ [] })) lines answered
  lasts_over upto shard free = go (have_all_switched plan.program.shards (s.at ++ shard ∷ [])) refl
    where
      new : (nat_lt shard.0 plan.program.shards ≡ true) × (was_told upto s.upto ≡ true) × (list_any (λ (told : Shard). told.0 == shard.0) s.at ≡ false)
      new = judged_new (nat_lt shard.0 plan.program.shards) (was_told upto s.upto) (list_any (λ (told : Shard). told.0 == shard.0) s.at) free

      early : (b : Bool) → s.switched ≡ b → s.switched ≡ false
      early false e = e
      early true e = absurd (has_told plan.program.shards s.at shard.0 (k.over e) (ltb-true shard.0 plan.program.shards new.0) new.2)

      unswitched : s.switched ≡ false
      unswitched = early s.switched refl

      none : s.core.unanswered ≡ []
      none = let told = told_once upto s.upto new.1 in (k.rests told.0 told.1 unswitched).1

      go : (b : Bool) → have_all_switched plan.program.shards (s.at ++ shard ∷ []) ≡ b
          → Lasts plan program number taken (cond b (grown.gone_over (record s { at = s.at ++ shard ∷ [] })) (record s { at = s.at ++ shard ∷ [] })) lines answered
      go true e = record { kept = kept_renewed program number taken s.core lines answered k.kept none; rests = λ t told early. absurd (false≢true (sym early)); over = λ now. e }
      go false e = record { kept = k.kept; rests = k.rests; over = λ now. absurd (false≢true (sym unswitched ∙ now)) }

  lasts_switched : (upto : TxnId) (shard : Shard) → LastsStep (grown.after_switched plan s upto shard)
  lasts_switched upto shard = go (grown.switched_refusal plan s upto shard) refl
    where
      go : (why : Option Reason) → grown.switched_refusal plan s upto shard ≡ why → LastsStep (grown.unless_refused s why (grown.over_if_all plan (record s { at = s.at ++ shard ∷ [] })))
      go (Some reason) e = lasts_still
      go None e = subst (λ l. Lasts plan program number taken (grown.over_if_all plan (record s { at = s.at ++ shard ∷ [] })) l answered) (sym (append-nil lines)) (lasts_over upto shard e)

module _ (S : GrownNodeSetting) (program : Workload) (number : ℕ) (taken : List Request) (s : GrownCoordState) (lines : List Line) (answered : ℕ) (k : Lasts S.plan program number taken s lines answered) where
  abbrev LastsGrown : GrownCoordStep → Type 0
  LastsGrown r = Lasts S.plan program number taken r.state (lines ++ grown_reply_lines r.answer) (grown_answered_then answered r.answer)

  still_so : Lasts S.plan program number taken s (lines ++ []) answered
  still_so = lasts_still S.plan program number taken s lines answered k

  lasts_filed : (file : File) (msg : Msg) → LastsGrown (grown.after_filed S.plan (Some S.next) s file msg)
  lasts_filed file msg = go (is_file (own_file s.switched) file)
    where
      go : (b : Bool) → LastsGrown (cond b (grown.of_core S.plan s (after_message (plan_of_file S s) s.core msg)) (grown.unchanged s seen.Skipped))
      go true = lasts_core S.plan program number taken s lines answered k (plan_of_file S s) msg
      go false = still_so

  lasts_message : (file : File) (msg : Msg) → LastsGrown (grown.after_grown_message S.plan (Some S.next) s file msg)
  lasts_message file (Drained upto) = still_so
  lasts_message file (Switched upto shard) = lasts_switched S.plan program number taken s lines answered k upto shard
  lasts_message file msg = lasts_filed file msg

  lasts_judged : (j : GrownJudged) → LastsGrown (grown_step_of_judged S s j)
  lasts_judged (Delivery header file msg) = lasts_message file msg
  lasts_judged (Skipped skip) = still_so

  pub lasts_event : (event : NodeEvent) → LastsGrown (grown_step_of_event S s event)
  lasts_event (took packet) = lasts_judged (grown_judged S s.switched packet.bytes)
  lasts_event silent = still_so
