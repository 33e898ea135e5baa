-- Where all are answered, no event changes the order or a cell
use Rattle.std.proofs.Common.{◌≡◌, ◌≢◌, ℕ, ℤ, pos, List, [], ◌∷◌, ◌++◌, Option, Some, None, refl, sym, ap, subst, ◌∙◌, inl, inr, append-nil}
use Rattle.std.proofs.lemmas.Bool.{cases_eq}
use Rattle.std.specs.Prelude.{slice_get}
use Rattle.std.specs.List.{cons_option}
use Rattle.roc_sequence.specs.Lists.{Has}
use Rattle.roc_sequence.specs.Places.{IsListed, NoneTwice}
use Rattle.roc_sequence.proofs.Members.{has_append, has_left}
use Rattle.roc_sequence.proofs.Places.{listed_head}
use Rattle.roc_sequence.proofs.Appended.{listed_behind}
use Rattle.roc_base.specs.declared.id.TxnId.{TxnId}
use Rattle.roc_base.specs.declared.node.Node.{Node}
use Rattle.roc_base.specs.declared.node.Node.TheVariants.{Server, Coord}
use Rattle.roc_base.specs.TxnId.{is_txn}
use Rattle.roc_base.specs.Equalities.{is_txn-same}
use Rattle.roc_depgraph.proofs.Listed.{has_listed}
use Rattle.roc_rows.specs.declared.cell.Cell.{Cell}
use Rattle.roc_rows.specs.Store.{Store, read}
use Rattle.roc_plan.specs.Groups.{Plan, shard_of}
use Rattle.roc_whole.specs.Serial.{serial_store}
use Rattle.roc_step.specs.State.{ServerState}
use Rattle.roc_coord.specs.Step.{after_message}
use Rattle.roc_audit.specs.declared.entry.Entry.{Entry}
use Rattle.roc_audit.specs.declared.entry.Entry.TheVariants.{Submitted}
use Rattle.roc_audit.specs.Witness.{submitted_call, submitted_calls, IsSerialWitnessFrom}
use Rattle.roc_audit.proofs.Histories.{call_of-append, call_of-submitted}
use Rattle.roc_law_protocol.specs.declared.event.Event.{Event}
use Rattle.roc_law_protocol.specs.declared.event.Event.TheVariants.{Submit, Deliver, Tick, Stop}
use Rattle.roc_law_protocol.specs.Beginnings.{Beginning}
use Rattle.roc_law_protocol.specs.World.{World, mark_delivered}
use Rattle.roc_law_protocol.specs.Happens.{Outcome, IsReceived, answer_entries}
use Rattle.roc_law_protocol.specs.Run.{Stepped}
use Rattle.roc_law_protocol.specs.Beside.{Moves, IsRunBeside, beside_goes_on}
use Rattle.roc_law_protocol.proofs.Submissions.{no_submission}
use Rattle.roc_law_protocol.proofs.AcceptedSubmissions.{Submitting, is_refused, is_accepted, submitting}
use Rattle.roc_law_protocol.proofs.Earlier.{order_goes_on}
use Rattle.roc_law_protocol.proofs.Ordered.{apart}
use Rattle.roc_law_protocol.proofs.Cells.{AreAllAnswered, IsCellSerial}
use Rattle.roc_law_protocol.proofs.Stops.{stop_keeps}

-- an event leaves the servers and the order, or it submits nothing
data Leaves (w : World) (o : World) : Type 0 where
  leaves_all : o.servers ≡ w.servers → o.order ≡ w.order → Leaves w o
  submits_none : (more : List Entry) → o.history ≡ w.history ++ more → ((t : TxnId) (p : ℕ) (a : List ℤ) → ¬ Has (Submitted t p a) more) → Leaves w o

leaves : (plan : Plan) (w : World) (e : Option Event) (o : Outcome) → Moves plan w e o → Leaves w o.world
leaves plan w None o (inl h) = subst (λ (o : Outcome). Leaves w o.world) (sym h) (leaves_all refl refl)
leaves plan w None o (inr x) = subst (λ (o : Outcome). Leaves w o.world) (sym x.is) (leaves_all refl refl)
leaves plan w (Some (Submit n proc args)) o (s, there, h) = go (submitting plan w n proc args s o h)
  where
    go : Submitting plan w n proc args s o → Leaves w o.world
    go (is_refused e) = subst (Leaves w) (sym e) (leaves_all refl refl)
    go (is_accepted known counted e) = subst (Leaves w) (sym e) (leaves_all refl refl)
leaves plan w (Some (Deliver k)) o (m, some, there, h) = go m.to h
  where
    go : (to : Node) → IsReceived plan (mark_delivered w k) m.msg to o → Leaves w o.world
    go (Server shard) (s, r, at, step, e) = subst (λ (o : Outcome). Leaves w o.world) (sym e) (submits_none [] (sym (append-nil w.history)) (λ t p a h. h))
    go (Coord n) (s, at, e) = subst (λ (o : Outcome). Leaves w o.world) (sym e) (submits_none (answer_entries (after_message plan s m.msg).answer) refl (no_submission (after_message plan s m.msg).answer))
leaves plan w (Some (Tick (Server shard))) o (s, there, e) = subst (λ (o : Outcome). Leaves w o.world) (sym e) (submits_none [] (sym (append-nil w.history)) (λ t p a h. h))
leaves plan w (Some (Tick (Coord n))) o (s, there, e) = subst (λ (o : Outcome). Leaves w o.world) (sym e) (submits_none [] refl (λ t p a h. h))
leaves plan w (Some (Stop shard during)) o x = submits_none [] ((stop_keeps plan w shard.0 during o x).0 ∙ sym (append-nil w.history)) (λ t p a h. h)

same_calls : (h g : List Entry) (order : List TxnId) → ((t : TxnId) → Has t order → submitted_call t h ≡ submitted_call t g) → submitted_calls h order ≡ submitted_calls g order
same_calls h g [] e = refl
same_calls h g (t ∷ order) e = let a = e t (inl refl) in let b = same_calls h g order (λ u k. e u (inr k)) in λ i. cons_option (a i) (b i)

-- nothing comes behind an order that has all that may
none_behind : (order rest : List TxnId) → NoneTwice is_txn (order ++ rest) → ((t : TxnId) → IsListed is_txn (order ++ rest) t → IsListed is_txn order t) → order ++ rest ≡ order
none_behind order [] once all = append-nil order
none_behind order (t ∷ rest) once all =
    let here : IsListed is_txn (t ∷ rest) t = listed_head is_txn t rest (is_txn-same t) in
    absurd (twice order once (all t (listed_behind is_txn order (t ∷ rest) t here)))
  where
    twice : (xs : List TxnId) → NoneTwice is_txn (xs ++ t ∷ rest) → ¬ IsListed is_txn xs t
    twice xs o l = apart xs (t ∷ rest) t o (listed_head is_txn t rest (is_txn-same t)) l

module _ (plan : Plan) (start : Beginning) (coords : ℕ) (steps : List Stepped) (w : World) (run : IsRunBeside plan start coords steps w) (serials : (steps : List Stepped) (v : World) → IsRunBeside plan start coords steps v → IsSerialWitnessFrom plan.program start.store v.history v.order) where
  order_by : AreAllAnswered w → (o : World) (steps : List Stepped) → IsRunBeside plan start coords steps o → (rest : List TxnId) → o.order ≡ w.order ++ rest → Leaves w o → o.order ≡ w.order
  order_by all o after there rest grown (leaves_all servers same) = same
  order_by all o after there rest grown (submits_none more is none) =
      let later = serials after o there in
      grown
      ∙ none_behind w.order rest (subst (NoneTwice is_txn) grown later.once)
      (λ t l.
      (let s = later.submitted t (subst (λ l. IsListed is_txn l t) (sym grown) l) in
      let old : Has (Submitted t s.0 s.1) w.history =
      elim (has_append (Submitted t s.0 s.1) w.history more (subst (Has (Submitted t s.0 s.1)) is s.2)) [ inl k ↦ k | inr k ↦ absurd (none t s.0 s.1 k) ] in
      let a = all t (s.0, s.1, old) in
      (serials steps w run).answered t a.0 a.1))

  pub order_rests : AreAllAnswered w → (e : Option Event) (o : Outcome) → Moves plan w e o → o.world.order ≡ w.order
  order_rests all e o h = let g = order_goes_on plan w e o h in order_by all o.world (steps ++ (record { event = e; outcome = o }) ∷ []) (beside_goes_on e o run h) g.0 g.1 (leaves plan w e o h)

  module _ (cells : (steps : List Stepped) (v : World) → IsRunBeside plan start coords steps v → AreAllAnswered v → (x : Cell) → IsCellSerial plan start v x)
      (apart_cells : (steps : List Stepped) (v : World) → IsRunBeside plan start coords steps v → (n : ℕ) (s : ServerState) → slice_get v.servers n ≡ Some s → (x : Cell) → shard_of plan x.place ≢ n → read s.store x ≡ pos 0)
      (alike : (s t : Store) → ((x : Cell) → read s x ≡ read t x) → s ≡ t) where
    stores_by : AreAllAnswered w → (o : World) (after : List Stepped) → IsRunBeside plan start coords after o → o.order ≡ w.order → Leaves w o → (n : ℕ) (s v : ServerState) → slice_get w.servers n ≡ Some s → slice_get o.servers n ≡ Some v → v.store ≡ s.store
    stores_by all o after there order (leaves_all servers same) n s v at now =
        let both : Some v ≡ Some s = sym now ∙ (ap (λ l. slice_get l n) servers ∙ at) in
        let one : v ≡ s = cc in
        ap (λ (s : ServerState). s.store) one
    stores_by all o after there order (submits_none more is none) n s v at now =
        alike v.store s.store (λ x. elim (cases_eq (shard_of plan x.place) n) [
          | inl same ↦
              cells after o there still x v (subst (λ n. slice_get o.servers n ≡ Some v) (sym same) now)
              ∙ ap (λ cs. read (serial_store plan.program start.store cs) x) calls
              ∙ sym (cells steps w run all x s (subst (λ n. slice_get w.servers n ≡ Some s) (sym same) at))
          | inr other ↦ apart_cells after o there n v now x other ∙ sym (apart_cells steps w run n s at x other)
        ])
      where
        still : AreAllAnswered o
        still t (p, a, h) =
            let old : Has (Submitted t p a) w.history = elim (has_append (Submitted t p a) w.history more (subst (Has (Submitted t p a)) is h)) [ inl k ↦ k | inr k ↦ absurd (none t p a k) ] in
            let r = all t (p, a, old) in
            (r.0, subst (Has _) (sym is) (has_left _ w.history more r.1))

        calls : submitted_calls o.history o.order ≡ submitted_calls w.history w.order
        calls =
            ap (submitted_calls o.history) order
            ∙ same_calls o.history w.history w.order
            (λ t h.
            (let c = call_of-submitted is_txn-same w.history t ((serials steps w run).submitted t (has_listed w.order t h)) in
            ap (submitted_call t) is ∙ call_of-append w.history more t c.0 c.1 ∙ sym c.1))

    pub stores_rest : AreAllAnswered w → (e : Option Event) (o : Outcome) → Moves plan w e o → (n : ℕ) (s v : ServerState) → slice_get w.servers n ≡ Some s → slice_get o.world.servers n ≡ Some v → v.store ≡ s.store
    stores_rest all e o h = stores_by all o.world (steps ++ (record { event = e; outcome = o }) ∷ []) (beside_goes_on e o run h) (order_rests all e o h) (leaves plan w e o h)
