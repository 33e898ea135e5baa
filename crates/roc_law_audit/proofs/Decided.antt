-- What servers decided at their own events is the serial order, and what coordinators told is the history
use Rattle.std.proofs.Common.{◌≡◌, ℕ, ◌+◌, ◌<◌, Bool, true, false, List, [], ◌∷◌, ◌++◌, Ok, length, refl, sym, ap, subst, ◌∙◌, ◌⊎◌, inl, inr}
use Rattle.std.proofs.lemmas.Bool.{eq-eqb}
use Rattle.std.proofs.lemmas.List.{length-set}
use Rattle.std.proofs.lemmas.List.FromFn.{length-map-range_with_len}
use Rattle.std.proofs.lemmas.Option.{slice_get_within}
use Rattle.std.specs.Prelude.{if◌then◌else◌}
use Rattle.roc_sequence.specs.Lists.{Has}
use Rattle.roc_sequence.specs.Places.{is_listed}
use Rattle.roc_sequence.proofs.Members.{has_left, has_right, has_append, has_more, from_has_map}
use Rattle.roc_sequence.proofs.Places.{listed_true}
use Rattle.roc_base.specs.declared.id.TxnId.{TxnId}
use Rattle.roc_base.specs.declared.node.Shard.{Shard}
use Rattle.roc_base.specs.declared.node.Node.TheVariants.{Server, Coord}
use Rattle.roc_base.specs.Node.{is_node}
use Rattle.roc_base.specs.TxnId.{is_txn}
use Rattle.roc_depgraph.proofs.Listed.{listed_has}
use Rattle.roc_msg.specs.declared.msg.Msg.{Msg}
use Rattle.roc_plan.specs.Groups.{Plan}
use Rattle.roc_wire.specs.declared.header.Header.{Header}
use Rattle.roc_wire.specs.Laws.{Spells}
use Rattle.roc_wire.specs.Reading.{datagram, pair}
use Rattle.roc_audit.specs.declared.entry.Entry.{Entry}
use Rattle.roc_audit.specs.Order.{noted, noted_one}
use Rattle.roc_law_protocol.specs.Happens.{RanAt, ran_at}
use Rattle.roc_law_world.specs.World.{World, first_world}
use Rattle.roc_law_world.specs.Run.{Stepped, IsRun, at_beginning, steps_on}
use Rattle.roc_log.specs.declared.line.LogLine.{LogLine}
use Rattle.roc_fold.specs.Told.{told_from, submissions}
use Rattle.roc_law_audit.specs.InTheWorld.{all_ran}
use Rattle.roc_law_audit.specs.LogsOfRuns.{LogsWhere, LogsStep, AreAllLogged}
use Rattle.roc_law_audit.proofs.Effects.{Effect, nobody, a_server, a_coord, effect}
use Rattle.roc_law_audit.proofs.Fronts.{run_behind, logged_parts, parts_tell, own_lines, taken_where, taken_in, taken_from, taken_more, own_taken, none_taken, ran_more}
use Rattle.roc_law_audit.proofs.CoordLogs.{same_count, coord_stands}

-- ---- an order that grows

noted_one_cases : (order : List TxnId) (t u : TxnId) → Has u (noted_one order t) → Has u order ⊎ (u ≡ t)
noted_one_cases order t u = go (is_listed is_txn order t)
  where
    go : (b : Bool) → Has u (order ++ (if b then [] else t ∷ [])) → Has u order ⊎ (u ≡ t)
    go true h = elim (has_append u order [] h) [ inl k ↦ inl k | inr k ↦ elim k [ ] ]
    go false h = has_more u t order h

noted_one_takes : (order : List TxnId) (t : TxnId) → Has t (noted_one order t)
noted_one_takes order t = go (is_listed is_txn order t) refl
  where
    go : (b : Bool) → is_listed is_txn order t ≡ b → Has t (order ++ (if b then [] else t ∷ []))
    go true e = has_left t order [] (listed_has order t (listed_true is_txn order t e))
    go false e = has_right t order (t ∷ []) (inl refl)

noted_keeps : (ts order : List TxnId) (u : TxnId) → Has u order → Has u (noted order ts)
noted_keeps [] order u h = h
noted_keeps (t ∷ ts) order u h = noted_keeps ts (noted_one order t) u (has_left u order (if is_listed is_txn order t then [] else t ∷ []) h)

noted_takes : (ts order : List TxnId) (u : TxnId) → Has u ts → Has u (noted order ts)
noted_takes [] order u h = elim h [ ]
noted_takes (t ∷ ts) order u (inl e) = noted_keeps ts (noted_one order t) u (subst (λ (x : TxnId). Has x (noted_one order t)) (sym e) (noted_one_takes order t))
noted_takes (t ∷ ts) order u (inr h) = noted_takes ts (noted_one order t) u h

noted_cases : (ts order : List TxnId) (u : TxnId) → Has u (noted order ts) → Has u order ⊎ Has u ts
noted_cases [] order u h = inl h
noted_cases (t ∷ ts) order u h = elim (noted_cases ts (noted_one order t) u h) [
  | inl k ↦ elim (noted_one_cases order t u k) [ inl j ↦ inl j | inr e ↦ inr (inl e) ]
  | inr k ↦ inr (inr k)
]

-- ---- as many nodes as there were

module _ (reads : (bytes : List ℕ) (header : Header) (msg : Msg) → Spells bytes header msg → datagram bytes ≡ Ok (pair header msg)) (plan : Plan) (coords : ℕ) where
  abbrev begun : World
  begun = first_world plan coords

  pub servers_stay : {steps : List Stepped} {w : World} → IsRun plan coords steps w → length w.servers ≡ plan.program.shards
  servers_stay at_beginning = length-map-range_with_len _ 0 plan.program.shards
  servers_stay (steps_on {w = w} e o r h) = go (effect reads plan w e o h) ∙ servers_stay r
    where
      go : Effect plan w e o → length o.world.servers ≡ length w.servers
      go (nobody same decided ran none) = ap (λ (u : World). length u.servers) same
      go (a_server shard s v step q is there keeps turn whole) = ap length turn.servers ∙ length-set w.servers shard.0 step.state
      go (a_coord number c after told is there turn logs) = ap length turn.servers

  pub coords_stay : {steps : List Stepped} {w : World} → IsRun plan coords steps w → length w.coords ≡ coords
  coords_stay at_beginning = length-map-range_with_len _ 0 coords
  coords_stay (steps_on {w = w} e o r h) = go (effect reads plan w e o h) ∙ coords_stay r
    where
      go : Effect plan w e o → length o.world.coords ≡ length w.coords
      go (nobody same decided ran none) = ap (λ (u : World). length u.coords) same
      go (a_server shard s v step q is there keeps turn whole) = ap length turn.coords
      go (a_coord number c after told is there turn logs) = ap length turn.coords ∙ length-set w.coords number after

  -- ---- the order

  same_node : (shard : Shard) → is_node (Server shard) (Server shard) ≡ true
  same_node shard = eq-eqb shard.0 shard.0 refl

  -- who is in the order was decided at a server's own event
  abbrev pub IsDecidedAt : List Stepped → TxnId → Type 0
  IsDecidedAt steps t = (shard : Shard) × (shard.0 < plan.program.shards) × Has t (taken_from (Server shard) begun steps)

  module _ {steps : List Stepped} {w : World} (r : IsRun plan coords steps w) (x : Stepped) where
    taken_later : (shard : Shard) → taken_from (Server shard) begun (steps ++ x ∷ []) ≡ taken_from (Server shard) begun steps ++ taken_in (Server shard) w x
    taken_later shard = taken_more (Server shard) begun steps x ∙ ap (λ (u : World). taken_from (Server shard) begun steps ++ taken_in (Server shard) u x) (run_behind r)

    decided_then : (shard : Shard) (t : TxnId) → Has t (taken_from (Server shard) begun steps) → Has t (taken_from (Server shard) begun (steps ++ x ∷ []))
    decided_then shard t h = subst (Has t) (sym (taken_later shard)) (has_left t (taken_from (Server shard) begun steps) (taken_in (Server shard) w x) h)

    decided_now : (shard : Shard) (t : TxnId) → Has t (taken_in (Server shard) w x) → Has t (taken_from (Server shard) begun (steps ++ x ∷ []))
    decided_now shard t h = subst (Has t) (sym (taken_later shard)) (has_right t (taken_from (Server shard) begun steps) (taken_in (Server shard) w x) h)

    then_or_now : (shard : Shard) (t : TxnId) → Has t (taken_from (Server shard) begun (steps ++ x ∷ [])) → Has t (taken_from (Server shard) begun steps) ⊎ Has t (taken_in (Server shard) w x)
    then_or_now shard t h = has_append t (taken_from (Server shard) begun steps) (taken_in (Server shard) w x) (subst (Has t) (taken_later shard) h)

    order_by : (t : TxnId) → (Has t w.order → IsDecidedAt steps t) → Has t x.outcome.world.order → Effect plan w x.event x.outcome → IsDecidedAt (steps ++ x ∷ []) t
    order_by t was has (nobody same decided ran none) = let k = was (subst (λ (u : World). Has t u.order) same has) in (k.0, k.1, decided_then k.0 t k.2)
    order_by t was has (a_coord number c after told is there turn logs) = let k = was (subst (Has t) turn.order has) in (k.0, k.1, decided_then k.0 t k.2)
    order_by t was has (a_server shard s v step q is there keeps turn whole) =
        elim (noted_cases step.decided w.order t (subst (Has t) turn.order has)) [
          | inl h ↦ (let k = was h in (k.0, k.1, decided_then k.0 t k.2))
          | inr h ↦ (
            shard,
            subst (λ n. shard.0 < n) (servers_stay r) (slice_get_within w.servers shard.0 s there),
            decided_now shard t (subst (Has t) (sym (own_taken (Server shard) (Server shard) w x is ∙ ap (λ (b : Bool). taken_where b x.outcome.decided) (same_node shard) ∙ turn.decided)) h),
          )
        ]

    by_order : (shard : Shard) (t : TxnId) → (Has t (taken_from (Server shard) begun steps) → Has t w.order) → Has t (taken_from (Server shard) begun (steps ++ x ∷ []))
        → Effect plan w x.event x.outcome → Has t x.outcome.world.order
    by_order shard t was has (nobody same decided ran none) =
        elim (then_or_now shard t has) [
          | inl h ↦ subst (λ (u : World). Has t u.order) (sym same) (was h)
          | inr h ↦ elim (subst (Has t) (none_taken (Server shard) w x decided) h) [ ]
        ]
    by_order shard t was has (a_coord number c after told is there turn logs) =
        elim (then_or_now shard t has) [
          | inl h ↦ subst (Has t) (sym turn.order) (was h)
          | inr h ↦ elim (subst (Has t) (none_taken (Server shard) w x turn.decided) h) [ ]
        ]
    by_order shard t was has (a_server other s v step q is there keeps turn whole) =
        elim (then_or_now shard t has) [
          | inl h ↦ subst (Has t) (sym turn.order) (noted_keeps step.decided w.order t (was h))
          | inr h ↦ subst (Has t) (sym turn.order)
              (noted_takes step.decided w.order t (subst (Has t) turn.decided (of_own (is_node (Server other) (Server shard)) (subst (Has t) (own_taken (Server shard) (Server other) w x is) h))))
        ]
      where
        of_own : (b : Bool) → Has t (taken_where b x.outcome.decided) → Has t x.outcome.decided
        of_own true h = h
        of_own false h = elim h [ ]

  pub order_decided : {steps : List Stepped} {w : World} → IsRun plan coords steps w → (t : TxnId) → Has t w.order → IsDecidedAt steps t
  order_decided at_beginning t h = elim h [ ]
  order_decided (steps_on {w = w} e o r h) t has = order_by r (record { event = e; outcome = o }) t (order_decided r t) has (effect reads plan w e o h)

  pub decided_order : {steps : List Stepped} {w : World} → IsRun plan coords steps w → (shard : Shard) (t : TxnId) → Has t (taken_from (Server shard) begun steps) → Has t w.order
  decided_order at_beginning shard t h = elim h [ ]
  decided_order (steps_on {w = w} e o r h) shard t has = by_order r (record { event = e; outcome = o }) shard t (decided_order r shard t) has (effect reads plan w e o h)

  -- ---- what ran

  -- it ran on a server that is there
  pub ran_there : {steps : List Stepped} {w : World} → IsRun plan coords steps w → (q : RanAt) → Has q (all_ran steps) → q.shard < plan.program.shards
  ran_there at_beginning q h = elim h [ ]
  ran_there (steps_on {steps = steps} {w = w} e o r h) q has =
      elim (has_append q (all_ran steps) o.ran (subst (Has q) (ran_more steps (record { event = e; outcome = o })) has)) [
        | inl k ↦ ran_there r q k
        | inr k ↦ now k (effect reads plan w e o h)
      ]
    where
      now : Has q o.ran → Effect plan w e o → q.shard < plan.program.shards
      now k (nobody same decided ran none) = elim (subst (Has q) ran k) [ ]
      now k (a_coord number c after told is there turn logs) = elim (subst (Has q) turn.ran k) [ ]
      now k (a_server shard s v step z is there keeps turn whole) =
          let g = from_has_map (ran_at shard.0) q step.ran (subst (Has q) turn.ran k) in
          subst (λ (x : RanAt). x.shard < plan.program.shards) (sym g.2) (subst (λ n. shard.0 < n) (servers_stay r) (slice_get_within w.servers shard.0 s there))

  -- ---- the history

  -- each entry is told by its coordinator's log, whatever that has of bytes
  abbrev pub IsToldAt : List Stepped → Entry → Type 0
  IsToldAt steps e =
      (number : ℕ) × (number < coords)
      × ((tag : List ℕ) (lines : List LogLine) → AreAllLogged (record { tag = tag; from = Coord number }) begun steps lines → Has e (told_from number 0 lines))

  module _ {steps : List Stepped} {w : World} (r : IsRun plan coords steps w) (x : Stepped) where
    told_then : (y : Entry) → IsToldAt steps y → IsToldAt (steps ++ x ∷ []) y
    told_then y (number, within, told) = (
      number,
      within,
      λ tag lines logged. (let p = logged_parts (record { tag = tag; from = Coord number }) begun steps x lines logged in
          subst (Has y) (sym (parts_tell number p))
          (has_left y (told_from number 0 p.front) (told_from number (0 + submissions p.front) p.more) (told tag p.front p.logged))),
    )

    told_by_effect : (y : Entry) → (Has y w.history → IsToldAt steps y) → Has y x.outcome.world.history → Effect plan w x.event x.outcome → IsToldAt (steps ++ x ∷ []) y
    told_by_effect y was has (nobody same decided ran none) = told_then y (was (subst (λ (u : World). Has y u.history) same has))
    told_by_effect y was has (a_server shard s v step q is there keeps turn whole) = told_then y (was (subst (Has y) turn.history has))
    told_by_effect y was has (a_coord number c after told is there turn logs) =
        elim (has_append y w.history told (subst (Has y) turn.history has)) [
          | inl h ↦ told_then y (was h)
          | inr h ↦ (
            number,
            subst (λ n. number < n) (coords_stay r) (slice_get_within w.coords number c there),
            λ tag lines logged. (let header : Header = record { tag = tag; from = Coord number } in
                let p = logged_parts header begun steps x lines logged in
                let last : LogsStep header w x p.more = subst (λ (u : World). LogsStep header u x p.more) (run_behind r) p.last in
                let own : LogsWhere true header w x.event x.outcome p.more =
                subst (λ (b : Bool). LogsWhere b header w x.event x.outcome p.more) (eq-eqb number number refl) (own_lines header w x p.more (Coord number) is last) in
                let g = logs header p.more own in
                let f = coord_stands reads plan coords tag number r p.front p.logged c there in
                let count = same_count reads plan coords tag number w p.front c f in
                let tells : told_from number (0 + submissions p.front) p.more ≡ told = (λ i. told_from (sym count.0 i) (sym count.1 i) p.more) ∙ g.tells in
                subst (Has y) (sym (parts_tell number p))
                (has_right y (told_from number 0 p.front) (told_from number (0 + submissions p.front) p.more) (subst (Has y) (sym tells) h))),
          )
        ]

  pub history_told : {steps : List Stepped} {w : World} → IsRun plan coords steps w → (y : Entry) → Has y w.history → IsToldAt steps y
  history_told at_beginning y h = elim h [ ]
  history_told (steps_on {w = w} e o r h) y has = told_by_effect r (record { event = e; outcome = o }) y (history_told r y) has (effect reads plan w e o h)
