-- The lines of a run show which ids are of the second file, and that these stand behind those of the first
use Rattle.std.proofs.Common.{◌≡◌, inl, inr, ℕ, ◌-◌, ◌<◌, ◌≤◌, Bool, true, false, ◌&&◌, List, [], ◌∷◌, Option, Some, None, refl, sym, ap, subst, ◌∙◌, arith}
use Rattle.std.proofs.lemmas.Bool.{false≢true, leb-true, le-leb}
use Rattle.std.specs.Prelude.{slice_get}
use Rattle.roc_sequence.specs.Lists.{Has}
use Rattle.roc_sequence.specs.Places.{IsListed, IsListedBefore}
use Rattle.roc_sequence.proofs.Members.{has_append, has_at, has_map, same_there}
use Rattle.roc_base.specs.declared.id.TxnId.{TxnId}
use Rattle.roc_base.specs.declared.node.Node.{Node}
use Rattle.roc_base.specs.TxnId.{is_txn}
use Rattle.roc_msg.specs.declared.msg.Msg.{Msg}
use Rattle.roc_msg.specs.declared.msg.Msg.TheVariants as msg
use Rattle.roc_msg.specs.declared.msg.Envelope.{Envelope}
use Rattle.roc_plan.specs.Groups.{Plan}
use Rattle.roc_coord.specs.State.{CoordState}
use Rattle.roc_coord.specs.Renewed.{renewed_coord}
use Rattle.roc_whole.specs.Serial.{start_store}
use Rattle.roc_audit.specs.declared.entry.Entry.{Entry}
use Rattle.roc_audit.specs.declared.entry.Entry.TheVariants as entry
use Rattle.roc_audit.specs.History.{WasSubmitted}
use Rattle.roc_audit.specs.Witness.{IsSerialWitness}
use Rattle.roc_law_world.specs.World.{first_beginning}
use Rattle.roc_law_world.proofs.Numbered.{numbered}
use Rattle.roc_epoch.specs.declared.next.Next.{Next}
use Rattle.roc_epoch.specs.Files.{last_plan}
use Rattle.roc_two_files.specs.Filed.{IsFiledWitness}
use Rattle.roc_two_files.specs.Left.{left_behind}
use Rattle.roc_two_files.specs.Sealed.{Sealed}
use Rattle.roc_grown.specs.Server.{GrownServerState}
use Rattle.roc_grown.specs.Coord.{GrownCoordState}
use Rattle.roc_growth.specs.World.{GrownWorld, is_from, is_from_switched, is_second}
use Rattle.roc_growth.specs.Run.{Stepped, IsGrownRun}
use Rattle.roc_growth.specs.Told.{HasTold, IsToldRight}
use Rattle.roc_growth.specs.Epochs.{AreEpochs}
use Rattle.roc_growth.specs.Witness.{witness_of}
use Rattle.roc_report.specs.Line.{Drained}
use Rattle.roc_report.specs.Shown.{message_kind, named_by, shown_message}
use Rattle.roc_replay.specs.BoundLine.{last_program}
use Rattle.roc_replay.specs.Ended.{AreFiled}
use Rattle.roc_replay.specs.Report.{report}
use Rattle.roc_replay.specs.Readback.{history_in, orders_in, IsShownSecond, FilesStandApart}
use Rattle.roc_replay.proofs.Messages.{from_messages}
use Rattle.roc_replay.proofs.QuietLines.{shown_is_sent, message_is_shown}
use Rattle.roc_replay.proofs.ShownHistory.{submission_shown}
use Rattle.roc_replay.proofs.Shows.{report_history, report_orders}
use Rattle.roc_replay.proofs.ToldDrained.{run_said}

-- ---- one message

-- what shows as a drained is one
kind_drained : (m : Msg) → message_kind m ≡ Drained → (upto : TxnId) × (m ≡ msg.Drained upto)
kind_drained (msg.Drained upto) e = (upto, refl)
kind_drained (msg.Start id proc group args inputs) e = absurd (cc)
kind_drained (msg.StartOk id group shard bound outs edges facts) e = absurd (cc)
kind_drained (msg.Commit id edges facts) e = absurd (cc)
kind_drained (msg.CommitOk id shard outs) e = absurd (cc)
kind_drained (msg.Fetch id asker) e = absurd (cc)
kind_drained (msg.Known id edges) e = absurd (cc)
kind_drained msg.Stop e = absurd (cc)
kind_drained (msg.Ended coord below) e = absurd (cc)
kind_drained (msg.Settled id below) e = absurd (cc)
kind_drained (msg.Read id round proc group args) e = absurd (cc)
kind_drained (msg.ReadOk id round group shard versions outs) e = absurd (cc)
kind_drained (msg.Switched upto shard) e = absurd (cc)

the_told : (servers : List GrownServerState) (coords : List GrownCoordState) (upto : TxnId) (to : Node) → IsToldRight servers coords (msg.Drained upto) to → HasTold coords upto
the_told servers coords upto to (shard, is, l, h) = h

-- ---- one id

-- an id is of the second file where its coordinator has switched, and it is none of those behind what this one told
second_if : (w : GrownWorld) (t upto : TxnId) (c : GrownCoordState) → slice_get w.coords t.coord ≡ Some c → c.switched ≡ true → c.upto ≡ Some upto → upto.seq ≤ t.seq → is_second w t ≡ true
second_if w t upto c there switched told l =
    ap (λ (o : Option GrownCoordState). is_from_switched o t) there
    ∙ ap (λ (b : Bool). b && is_from c.upto t.seq) switched
    ∙ ap (λ (o : Option TxnId). is_from o t.seq) told
    ∙ le-leb upto.seq t.seq l

-- and no other is
record IsFrom (w : GrownWorld) (t : TxnId) : Type 0 where
  pub coord : GrownCoordState
  pub there : slice_get w.coords t.coord ≡ Some coord
  pub upto : TxnId
  pub told : coord.upto ≡ Some upto
  pub from : upto.seq ≤ t.seq

second_is : (w : GrownWorld) (t : TxnId) → is_second w t ≡ true → IsFrom w t
second_is w t e = go (slice_get w.coords t.coord) refl e
  where
    told : (c : GrownCoordState) → slice_get w.coords t.coord ≡ Some c → (o : Option TxnId) → c.upto ≡ o → is_from o t.seq ≡ true → IsFrom w t
    told c there None is e = absurd (false≢true e)
    told c there (Some upto) is e = record { coord = c; there = there; upto = upto; told = is; from = leb-true upto.seq t.seq e }

    both : (c : GrownCoordState) → slice_get w.coords t.coord ≡ Some c → (b : Bool) → (b && is_from c.upto t.seq) ≡ true → IsFrom w t
    both c there true e = told c there c.upto refl e
    both c there false e = absurd (false≢true e)

    go : (o : Option GrownCoordState) → slice_get w.coords t.coord ≡ o → is_from_switched o t ≡ true → IsFrom w t
    go None is e = absurd (false≢true e)
    go (Some c) is e = both c is c.switched e

module _ (plan : Plan) (next : Option Next) (coords : ℕ) (steps : List Stepped) (w : GrownWorld) (r : IsGrownRun plan next coords steps w) (some : 0 < plan.program.shards)
    (e : AreEpochs plan next coords steps w) where
  -- the sequence of each submitted id is below its coordinator's next one, where this one has not switched
  below_next : (t : TxnId) → WasSubmitted w.history t → (c : GrownCoordState) → slice_get w.coords t.coord ≡ Some c → c.switched ≡ false → t.seq < c.core.next
  below_next t (proc, args, has) c there plain =
      elim (has_append (entry.Submitted t proc args) e.w.history e.v.history (subst (Has (entry.Submitted t proc args)) e.two.history has)) [
        | inl first ↦
            (let g = (numbered plan (first_beginning plan) coords e.first_steps e.w e.first).given t proc args first in
            let same : g.0 ≡ c.core = same_there e.w.coords t.coord g.0 c.core g.1 (e.two.first_coords t.coord c there plain) in
            subst (λ (d : CoordState). t.seq < d.next) same g.2)
        | inr second ↦
            (let g = (numbered (last_plan plan next) (left_behind plan (first_beginning plan) e.w) coords e.second_steps e.v e.second).given t proc args second in
            let same : g.0 ≡ renewed_coord c.core = same_there e.v.coords t.coord g.0 (renewed_coord c.core) g.1 (e.two.awaited_coords t.coord c there plain) in
            subst (λ (d : CoordState). t.seq < d.next) same g.2)
      ]

  -- what the lines show as second is
  shown_is_second : (t : TxnId) → WasSubmitted w.history t → IsShownSecond (report steps w) t → is_second w t ≡ true
  shown_is_second t submitted s =
      let sent = shown_is_sent plan next coords steps w r s.number s.message s.shown in
      let own = from_messages w.sent (s.number - 1) sent.0 sent.2 in
      let is = kind_drained sent.0.msg (ap (λ m. m.kind) (sym sent.3) ∙ s.drained) in
      let named : Some is.0 ≡ Some s.upto = sym (ap named_by is.1) ∙ (ap (λ m. m.named) (sym sent.3) ∙ s.named) in
      let same : is.0 ≡ s.upto = cc in
      let right : IsToldRight w.servers w.coords (msg.Drained s.upto) own.0.message.to =
      subst (λ (m : Msg). IsToldRight w.servers w.coords m own.0.message.to) (ap (λ (m : Envelope). m.msg) own.2 ∙ (is.1 ∙ ap (λ u. msg.Drained u) same))
      (e.told.messages own.0 (has_at w.sent (s.number - 1) own.0 own.1)) in
      let told = the_told w.servers w.coords s.upto own.0.message.to right in
      go told.0 (subst (λ n. slice_get w.coords n ≡ Some told.0) s.coord told.1) told.2 told.0.switched refl
    where
      go : (c : GrownCoordState) → slice_get w.coords t.coord ≡ Some c → c.upto ≡ Some s.upto → (b : Bool) → c.switched ≡ b → is_second w t ≡ true
      go c there upto true switched = second_if w t s.upto c there switched upto s.from
      go c there upto false plain =
          let l = below_next t submitted c there plain in
          let rests = (e.told.telling t.coord c there).rests s.upto upto plain in
          let next_is : c.core.next ≡ s.upto.seq = ap (λ (u : TxnId). u.seq) rests.2 in
          let from = s.from in
          absurd (omega arith)

  -- and they show each that is
  second_is_shown : (t : TxnId) → is_second w t ≡ true → IsShownSecond (report steps w) t
  second_is_shown t second =
      let is = second_is w t second in
      let said = run_said plan some next coords steps w r t.coord is.coord is.upto is.there is.told in
      let line = message_is_shown plan next coords steps w r said.0.message (has_map (λ (m : Sealed). m.message) said.0 w.sent said.1) in
      record {
        number = line.0;
        message = shown_message said.0.message;
        shown = line.1;
        drained = ap message_kind said.2;
        upto = is.upto;
        named = ap named_by said.2;
        coord = (e.told.telling t.coord is.coord is.there).own is.upto is.told;
        from = is.from;
      }

  -- ---- all of them

  the_history : history_in (report steps w) ≡ w.history
  the_history = report_history plan next coords steps w r

  the_order : (order : List TxnId) → orders_in (report steps w) ≡ order ∷ [] → witness_of w ≡ order
  the_order order shown = let both : witness_of w ∷ [] ≡ order ∷ [] = sym (report_orders steps w) ∙ shown in cc

  pub are_filed : IsFiledWitness plan.program (last_program plan next) (is_second w) (start_store plan.program) w.history (witness_of w)
      → (order : List TxnId) → orders_in (report steps w) ≡ order ∷ [] → AreFiled plan next w (report steps w) order
  are_filed filed order shown =
      record {
        witness = subst (λ (h : List Entry). IsFiledWitness plan.program (last_program plan next) (is_second w) (start_store plan.program) h order) (sym the_history)
            (subst (IsFiledWitness plan.program (last_program plan next) (is_second w) (start_store plan.program) w.history) (the_order order shown) filed);
        second = λ t proc args h. (shown_is_second t (proc, args, submission_shown steps w the_history t proc args h), second_is_shown t);
      }

  pub stand_apart : IsSerialWitness (last_program plan next) w.history (witness_of w)
      → ((u t : TxnId) → IsListed is_txn (witness_of w) t → IsListedBefore is_txn (witness_of w) u t → is_second w u ≡ true → is_second w t ≡ true)
      → (order : List TxnId) → orders_in (report steps w) ≡ order ∷ [] → FilesStandApart (report steps w) order
  stand_apart serial apart order shown = subst (FilesStandApart (report steps w)) (the_order order shown) (record { each = each })
    where
      each : (u t : TxnId) → IsListed is_txn (witness_of w) t → IsListedBefore is_txn (witness_of w) u t → IsShownSecond (report steps w) u → IsShownSecond (report steps w) t
      each u t listed before second =
          let first : IsListed is_txn (witness_of w) u = omega (arith, listed, before) in
          second_is_shown t (apart u t listed before (shown_is_second u (serial.submitted u first) second))
