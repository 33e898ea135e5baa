-- A server's step keeps what is named there, and that its groups and reads are the plan's
use Rattle.std.proofs.Common.{◌≡◌, ◌⊎◌, ℕ, ◌<◌, ◌==◌, Bool, true, false, not, List, [], ◌∷◌, length, map, refl, sym, ap, subst, ◌∙◌, inl, inr, arith, nat_lt}
use Rattle.std.proofs.lemmas.Bool.{eqb-true}
use Rattle.std.proofs.lemmas.Bool.Decides.{nat_tests}
use Rattle.std.specs.Prelude.{filter, if◌then◌else◌}
use Rattle.roc_sequence.specs.Lists.{Has}
use Rattle.roc_sequence.proofs.Holds.{all_has, has_all}
use Rattle.roc_sequence.proofs.Members.{from_has_map, from_has_filter}
use Rattle.roc_msg.specs.declared.msg.Msg.{Msg}
use Rattle.roc_msg.specs.declared.msg.Msg.TheVariants.{Read, ReadOk}
use Rattle.roc_msg.specs.declared.outbox.Outgoing.{Outgoing}
use Rattle.roc_msg.specs.declared.reason.Reason.TheVariants.{BadProc, BadGroup, BadInputs, NotHere}
use Rattle.roc_plan.specs.Groups.{Plan, procedure_of, groups_of, shard_of, group_place, is_view_of}
use Rattle.roc_step.specs.declared.handled.Handled.{Handled}
use Rattle.roc_step.specs.declared.handled.Handled.TheVariants.{Done, Gone, Ignored}
use Rattle.roc_step.specs.declared.kept_read.KeptRead.{KeptRead}
use Rattle.roc_step.specs.Below.{is_ended}
use Rattle.roc_step.specs.Fits.{IsReadOf, AreReadsOf, ServerFits}
use Rattle.roc_step.specs.Reads.{read_judged, after_read, with_accesses, reads_with, is_free, in_turn, readok_of, is_taken, answering, AnswersReads, ReadStep}
use Rattle.roc_step.specs.Runs.{accesses_of}
use Rattle.roc_step.specs.State.{first_answer, ServerState, ServerStep, Viewing}
use Rattle.roc_step.specs.Step.{Handles}
use Rattle.roc_law_protocol.specs.Fits.{IsServerHere}
use Rattle.roc_law_protocol.proofs.ReadsHere.{for_read}
use Rattle.roc_law_protocol.proofs.ServersHere.{KeepsServer, message_keeps}
use Rattle.roc_law_world.specs.Fits.{NamesNodes, IsViewingHere}
use Rattle.roc_law_world.proofs.OutsHere.{IsOutHere, AreOutsHere}
use Rattle.roc_law_world.proofs.ViewServed.{with_cases, turn_has}

-- a read is taken only of a view's group of the plan
taken_read : (plan : Plan) (s : ServerState) (q : KeptRead) → (after_read plan s q).answer ≡ Done → IsReadOf plan q
taken_read plan s q taken =
    go (is_ended s.below q.id) (is_view_of plan q.proc) (nat_lt q.group (length (groups_of plan q.proc))) (length q.args == (procedure_of plan q.proc).arguments)
    (shard_of plan (group_place plan q.proc q.group q.args []) == s.shard.0) taken refl refl refl
  where
    go : (e v g a h : Bool)
        → (read_judged s (first_answer ((e, Gone) ∷ (not v, Ignored BadProc) ∷ (not g, Ignored BadGroup) ∷ (not a, Ignored BadInputs) ∷ (not h, Ignored NotHere) ∷ []))).answer ≡ Done
        → is_view_of plan q.proc ≡ v → nat_lt q.group (length (groups_of plan q.proc)) ≡ g → (length q.args == (procedure_of plan q.proc).arguments) ≡ a → IsReadOf plan q
    go false true true true true d f k l = record { view = f; group = grind (arith, nat_tests); args = eqb-true (length q.args) (procedure_of plan q.proc).arguments l }
    go true v g a h d f k l = absurd (cc)
    go false false g a h d f k l = absurd (cc)
    go false true false a h d f k l = absurd (cc)
    go false true true false h d f k l = absurd (cc)
    go false true true true false d f k l = absurd (cc)

-- what is kept with a message was kept, or the message was taken
with_done : (x : KeptRead) (msg : Msg) (answer : Handled) (reads : List KeptRead) → Has x (reads_with msg answer reads) → Has x reads ⊎ (answer ≡ Done)
with_done x (Read id round proc group args) Done reads h = inr refl
with_done x (Read id round proc group args) Gone reads h = inl h
with_done x (Read id round proc group args) (Ignored reason) reads h = inl h
with_done x msg answer reads h = inl h

module _ (plan : Plan) (servers coords : ℕ) where
  -- what is kept for views is of the plan, and it and what is told name only nodes that are there
  pub record KeepsViews (q : ReadStep) : Type 0 where
    pub fits : AreReadsOf plan q.viewing.reads
    pub here : IsViewingHere servers coords q.viewing
    pub sends : AreOutsHere servers coords q.sends

  module _ (s : ServerState) where
    -- ---- of transactions

    pub server_keeps :
        s.shard.0 < servers → IsServerHere servers coords s → ServerFits plan s → (msg : Msg) (r : ServerStep) → Handles plan s msg r → NamesNodes servers coords msg
        → KeepsServer plan servers coords s.shard r
    server_keeps own here of_plan (Read id round proc group args) r h names =
        subst (KeepsServer plan servers coords s.shard) (sym h.is)
        (for_read plan s (record { id = id; round = round; proc = proc; group = group; args = args }) (KeepsServer plan servers coords s.shard)
        (λ answer. record { state = here; fits = of_plan; own = refl; sends = tt }))
    server_keeps own here of_plan (ReadOk id round group shard versions outs) r h names =
        subst (KeepsServer plan servers coords s.shard) (sym h.is) (record { state = here; fits = of_plan; own = refl; sends = tt })
    server_keeps own here of_plan msg r h names = message_keeps plan servers coords s own here of_plan msg r h names

    -- ---- for views

    -- a read that comes is of the plan where it is taken
    read_comes : (x : KeptRead) (msg : Msg) (r : ServerStep) → Handles plan s msg r → NamesNodes servers coords msg → msg ≡ Read x.id x.round x.proc x.group x.args → r.answer ≡ Done
        → IsReadOf plan x × (x.id.coord < coords)
    read_comes x msg r h names is done =
        let now : Handles plan s (Read x.id x.round x.proc x.group x.args) r = subst (λ (msg : Msg). Handles plan s msg r) is h in
        let f = taken_read plan s (record { id = x.id; round = x.round; proc = x.proc; group = x.group; args = x.args }) (ap (λ (r : ServerStep). r.answer) (sym now.is) ∙ done) in
        (record { view = f.view; group = f.group; args = f.args }, subst (NamesNodes servers coords) is names)

    pub reads_keep :
        (v : Viewing) (msg : Msg) (r : ServerStep) (q : ReadStep) → Handles plan s msg r → AnswersReads plan v msg r q → NamesNodes servers coords msg
        → AreReadsOf plan v.reads → IsViewingHere servers coords v → KeepsViews q
    reads_keep v msg r q h a names fits here = subst KeepsViews (sym a.is) (go (is_taken r.answer))
      where
        was : (x : KeptRead) → Has x v.reads → IsReadOf plan x × (x.id.coord < coords)
        was x k = (all_has (IsReadOf plan) x v.reads fits k, all_has (λ (x : KeptRead). x.id.coord < coords) x v.reads here.reads k)

        held : (x : KeptRead) → Has x (reads_with msg r.answer v.reads) → IsReadOf plan x × (x.id.coord < coords)
        held x k = elim (with_cases x msg r.answer v.reads k) [
          | inl old ↦ was x old
          | inr is ↦ elim (with_done x msg r.answer v.reads k) [ inl old ↦ was x old | inr done ↦ read_comes x msg r h names is done ]
        ]

        go : (b : Bool)
            → KeepsViews (if b then answering plan a.decided r.state (with_accesses v.versions (accesses_of r.ran)) (reads_with msg r.answer v.reads) else record { viewing = v; sends = [] })
        go false = record { fits = fits; here = here; sends = tt }
        go true =
            let reads : List KeptRead = reads_with msg r.answer v.reads in
            let free : KeptRead → Bool = is_free plan a.decided r.state in
            let left : List KeptRead = filter (λ (x : KeptRead). not (free x)) reads in
            let told : List KeptRead = in_turn (filter free reads) in
            let readok : KeptRead → Outgoing = readok_of plan r.state (with_accesses v.versions (accesses_of r.ran)) in
            record {
              fits = has_all (IsReadOf plan) left (λ x k. (held x (from_has_filter (λ (x : KeptRead). not (free x)) x reads k).0).0);
              here = record { reads = has_all (λ (x : KeptRead). x.id.coord < coords) left (λ x k. (held x (from_has_filter (λ (x : KeptRead). not (free x)) x reads k).0).1) };
              sends = has_all (IsOutHere servers coords) (map readok told) (λ out k.
                  (let p = from_has_map readok out told k in
                  subst (IsOutHere servers coords) (sym p.2) ((held p.0 (from_has_filter free p.0 reads (turn_has p.0 (filter free reads) p.1)).0).1, tt)));
            }
