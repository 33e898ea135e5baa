-- Folds of the world are judged yes
use Rattle.std.proofs.Common.{◌≡◌, ◌≢◌, ℕ, ℤ, true, ◌&&◌, ◌||◌, List, [], ◌∷◌, ◌++◌, Option, Some, None, refl, sym, ap, subst, ◌∙◌, inl, inr, append_assoc, arith}
use Rattle.std.specs.List.{filter_map}
use Rattle.roc_sequence.specs.Lists.{Has}
use Rattle.roc_sequence.specs.Places.{IsListed, IsListedBefore}
use Rattle.roc_sequence.proofs.Holds.{any_has, has_any}
use Rattle.roc_sequence.proofs.Members.{has_at, has_append, has_right}
use Rattle.roc_base.specs.declared.id.TxnId.{TxnId}
use Rattle.roc_base.specs.TxnId.{is_txn}
use Rattle.roc_base.specs.Equalities.{is_txn-true, is_txn-same}
use Rattle.roc_rows.specs.Cells.{is_cell}
use Rattle.roc_group.specs.declared.access.Access.{Access}
use Rattle.roc_group.specs.Accesses.{do_conflict, meets}
use Rattle.roc_depgraph.specs.Reach.{Reaches, direct, through}
use Rattle.roc_component.specs.Components.{among}
use Rattle.roc_msg.specs.declared.outbox.Ran.{Ran}
use Rattle.roc_plan.specs.Groups.{Plan}
use Rattle.roc_step.specs.declared.started.StartedGroup.{StartedGroup}
use Rattle.roc_whole.specs.Serial.{Call, serial_answers, start_store}
use Rattle.roc_audit.specs.declared.entry.Entry.{Entry}
use Rattle.roc_audit.specs.declared.entry.Entry.TheVariants.{Submitted, Answered}
use Rattle.roc_audit.specs.History.{WasSubmitted, WasAnswered, IsAnsweredBefore, IsToldOnce}
use Rattle.roc_audit.specs.Witness.{submitted_call, serial_reply_from, reply_in}
use Rattle.roc_audit.proofs.Histories.{call_of-is, call_of-submitted, call_of-from, call_of-id}
use Rattle.roc_precedence.specs.Orders.{IsLeastOrder}
use Rattle.roc_precedence.specs.Cycles.{HasCycle}
use Rattle.roc_precedence.proofs.Walks.{cycle_chain}
use Rattle.roc_law_protocol.specs.World.{World}
use Rattle.roc_law_protocol.specs.Happens.{RanAt}
use Rattle.roc_law_protocol.specs.Run.{Stepped}
use Rattle.roc_law_protocol.specs.Kept.{KeepsWhatRan, ConflictIn, IsYetToRun, RanBefore, ran_in}
use Rattle.roc_judge.specs.declared.folded.Folded.{Folded}
use Rattle.roc_judge.specs.declared.judgement.Judgement.{Judgement}
use Rattle.roc_judge.specs.declared.judgement.Judgement.TheVariants.{Yes}
use Rattle.roc_judge.specs.Before as before
use Rattle.roc_judge.specs.Before.{do_meet, GoesBefore}
use Rattle.roc_judge.specs.Judged.{IsJudged, answers_told, one_missing, one_unsubmitted, a_circle, a_wrong_reply, explained}
use Rattle.roc_law_audit.specs.InTheWorld.{ran_on, StillWaits, AreOfRun}
use Rattle.roc_law_audit.proofs.Standing.{access_of, accesses_has, from_accesses_has, accesses_stand, from_accesses_stand, on_stands}
use Rattle.roc_law_audit.proofs.Standing.{from_on_stands, from_on_has, on_has, stands_from_places, places_from_stands}
use Rattle.roc_auditor.proofs.OneVerdict.{parts_of_has}

-- what meets conflicts, and the other way round
to_conflict : (a b : Access) (xs ys : List Access) → Has a xs → Has b ys → (is_cell a.cell b.cell && (a.writes || b.writes)) ≡ true → do_conflict xs ys ≡ true
to_conflict a b xs ys h k e = has_any (meets ys) xs a h (has_any (λ c. is_cell a.cell c.cell && (a.writes || c.writes)) ys b k e)

from_conflict : (xs ys : List Access) → do_conflict xs ys ≡ true → (a : Access) × Has a xs × (b : Access) × Has b ys × ((is_cell a.cell b.cell && (a.writes || b.writes)) ≡ true)
from_conflict xs ys e =
    let p = any_has (meets ys) xs e in
    let q = any_has (λ c. is_cell p.0.cell c.cell && (p.0.writes || c.writes)) ys p.2 in
    (p.0, p.1, q.0, q.1, q.2)

-- one id, one call

told_once : (h : List Entry) → IsToldOnce h → (t : TxnId) (proc other : ℕ) (args others : List ℤ) → Has (Submitted t proc args) h → Has (Submitted t other others) h → (other ≡ proc) × (others ≡ args)
told_once h once t proc other args others a b =
    let r = parts_of_has (Submitted t proc args) h a in
    let k = subst (λ (es : List Entry). Has (Submitted t other others) es) r.2 b in
    elim (has_append (Submitted t other others) r.0 (Submitted t proc args ∷ r.1) k) [
      | inl i ↦ absurd (once.each r.0 r.1 (Submitted t proc args) r.2 (other, others, i))
      | inr i ↦ later h once r.0 r.1 r.2 i
    ]
  where
    later : (h : List Entry) → IsToldOnce h → (front behind : List Entry) → h ≡ front ++ Submitted t proc args ∷ behind → Has (Submitted t other others) (Submitted t proc args ∷ behind)
        → (other ≡ proc) × (others ≡ args)
    later h once front behind e (inl i) = (let p : other ≡ proc = cc in p, let q : others ≡ args = cc in q)
    later h once front behind e (inr k) =
        let r = parts_of_has (Submitted t other others) behind k in
        let whole : h ≡ (front ++ Submitted t proc args ∷ r.0) ++ Submitted t other others ∷ r.1 =
        e ∙ (ap (λ (es : List Entry). front ++ Submitted t proc args ∷ es) r.2 ∙ sym (append_assoc front (Submitted t proc args ∷ r.0) (Submitted t other others ∷ r.1))) in
        absurd (once.each (front ++ Submitted t proc args ∷ r.0) r.1 (Submitted t other others) whole
        (proc, args, has_right (Submitted t proc args) front (Submitted t proc args ∷ r.0) (inl refl)))

-- what still waits is yet to run
to_yet : (plan : Plan) (w : World) (shard : ℕ) (e : StartedGroup) → StillWaits plan w.servers shard e → IsYetToRun plan w shard e
to_yet plan w shard e x = record { server = x.server; there = x.there; here = x.here; deferrable = x.deferrable; undecided = x.undecided }

from_yet : (plan : Plan) (w : World) (shard : ℕ) (e : StartedGroup) → IsYetToRun plan w shard e → StillWaits plan w.servers shard e
from_yet plan w shard e x = record { server = x.server; there = x.there; here = x.here; deferrable = x.deferrable; undecided = x.undecided }

module _ (plan : Plan) (steps : List Stepped) (w : World) (folds : List Folded) (are : AreOfRun plan (ran_in steps) w.servers w.history w.order folds) where
  abbrev M : List TxnId
  M = before.candidates folds

  -- ---- an order that keeps goes-before keeps what ran

  module _ (order : List TxnId) (least : IsLeastOrder (GoesBefore folds) M order) where
    in_candidates : (t : TxnId) → IsListed is_txn order t → IsListed is_txn M t
    in_candidates t l = least.from t l

    keeps_first : (q r : RanAt) → RanBefore steps q r → ConflictIn order q.group r.group → IsListedBefore is_txn order q.group.id r.group.id
    keeps_first q r b c =
        let stands = stands_from_places (ran_in steps) b.first b.second q r b.in_order b.is_first b.is_second in
        let f = are.logged q (has_at (ran_in steps) b.first q b.is_first) in
        let k = from_conflict q.group.cells r.group.cells c.conflict in
        least.keeps q.group.id r.group.id (in_candidates q.group.id c.first) (in_candidates r.group.id c.second) (
          f.0,
          f.1,
          inl (record {
            first = access_of q.group k.0;
            second = access_of r.group k.2;
            stands = subst (λ (rs : List Ran). before.StandsBefore (access_of q.group k.0) (access_of r.group k.2) rs) (sym f.2.ran_there)
                (accesses_stand q.group r.group k.0 k.2 (ran_on q.shard (ran_in steps)) (on_stands q.shard q r (ran_in steps) stands refl (sym b.same_shard)) k.1 k.3);
            meets = k.4;
            first_is = refl;
            second_is = refl;
            others = c.other;
          }),
        )

    keeps_alone : (q : RanAt) (e : StartedGroup) → Has q (ran_in steps) → IsYetToRun plan w q.shard e → ConflictIn order q.group e → IsListedBefore is_txn order q.group.id e.id
    keeps_alone q e h y c =
        let f = are.logged q h in
        let k = from_conflict q.group.cells e.cells c.conflict in
        least.keeps q.group.id e.id (in_candidates q.group.id c.first) (in_candidates e.id c.second) (
          f.0,
          f.1,
          inr (inl (record {
            first = access_of q.group k.0;
            second = access_of e k.2;
            ran = subst (λ (rs : List Ran). Has (access_of q.group k.0) rs) (sym f.2.ran_there) (accesses_has q.group k.0 (ran_on q.shard (ran_in steps)) (on_has q.shard q (ran_in steps) h refl) k.1);
            waits = f.2.waits e (from_yet plan w q.shard e y) (access_of e k.2) (accesses_has e k.2 (e ∷ []) (inl refl) k.3);
            meets = k.4;
            first_is = refl;
            second_is = refl;
            others = c.other;
          })),
        )

    pub least_keeps_what_ran : KeepsWhatRan plan steps w order
    least_keeps_what_ran = record {
      once = least.once;
      from = λ t l. (are.decided t).0 (least.from t l);
      all = λ t l. least.all t ((are.decided t).1 l);
      ran_first = keeps_first;
      ran_alone = keeps_alone;
    }

  module _ (program_order : KeepsWhatRan plan steps w w.order) (in_time : (t u : TxnId) → IsAnsweredBefore w.history t u → IsListed is_txn w.order u → IsListedBefore is_txn w.order t u) where
    -- ---- the serial order has each edge forwards

    conflict_at : (u t : TxnId) → IsListed is_txn M u → IsListed is_txn M t → u ≢ t → (g h : StartedGroup) (a b : Access) → Has a g.cells → Has b h.cells → g.id ≡ u → h.id ≡ t
        → (is_cell a.cell b.cell && (a.writes || b.writes)) ≡ true → ConflictIn w.order g h
    conflict_at u t lu lt n g h a b p q i j e = record {
      first = subst (IsListed is_txn w.order) (sym i) ((are.decided u).0 lu);
      second = subst (IsListed is_txn w.order) (sym j) ((are.decided t).0 lt);
      other = λ s. n (sym i ∙ (s ∙ j));
      conflict = to_conflict a b g.cells h.cells p q e;
    }

    forwards_by : (u t : TxnId) (g h : StartedGroup) → g.id ≡ u → h.id ≡ t → IsListedBefore is_txn w.order g.id h.id → IsListedBefore is_txn w.order u t
    forwards_by u t g h i j l = subst (λ x. IsListedBefore is_txn w.order x t) i (subst (λ x. IsListedBefore is_txn w.order g.id x) j l)

    -- what an access tells of its group
    meets_of : (x y : Ran) (g h : StartedGroup) (a b : Access) → x ≡ access_of g a → y ≡ access_of h b → do_meet x y ≡ true → (is_cell a.cell b.cell && (a.writes || b.writes)) ≡ true
    meets_of x y g h a b e f m = subst (λ (z : Ran). do_meet (access_of g a) z ≡ true) f (subst (λ (z : Ran). do_meet z y ≡ true) e m)

    pub edge_forwards : (u t : TxnId) → IsListed is_txn M u → IsListed is_txn M t → GoesBefore folds u t → IsListedBefore is_txn w.order u t
    edge_forwards u t lu lt (f, has, inl r) =
        let of = are.each f has in
        let s = of.0 in
        let n : r.first.id ≢ r.second.id = λ e. r.others (sym r.first_is ∙ (e ∙ r.second_is)) in
        let p = from_accesses_stand r.first r.second (ran_on s (ran_in steps)) (subst (λ (rs : List Ran). before.StandsBefore r.first r.second rs) of.1.ran_there r.stands) n in
        let i : p.first.id ≡ u = sym (ap (λ (x : Ran). x.id) p.first_is) ∙ r.first_is in
        let j : p.second.id ≡ t = sym (ap (λ (x : Ran). x.id) p.second_is) ∙ r.second_is in
        let q = from_on_stands s p.first p.second (ran_in steps) p.stands in
        let places = places_from_stands q.first q.second (ran_in steps) q.stands in
        let qi : q.first.group.id ≡ u = ap (λ (g : StartedGroup). g.id) q.first_is ∙ i in
        let qj : q.second.group.id ≡ t = ap (λ (g : StartedGroup). g.id) q.second_is ∙ j in
        let c = conflict_at u t lu lt r.others q.first.group q.second.group p.by_first p.by_second (subst (λ (g : StartedGroup). Has p.by_first g.cells) (sym q.first_is) p.has_first)
        (subst (λ (g : StartedGroup). Has p.by_second g.cells) (sym q.second_is) p.has_second) qi qj
        (meets_of r.first r.second p.first p.second p.by_first p.by_second p.first_is p.second_is r.meets) in
        forwards_by u t q.first.group q.second.group qi qj
        (program_order.ran_first q.first q.second (record {
          first = places.0;
          second = places.1;
          in_order = places.2;
          is_first = places.3;
          is_second = places.4;
          same_shard = q.first_at
              ∙ sym q.second_at;
        }) c)
    edge_forwards u t lu lt (f, has, inr (inl r)) =
        let of = are.each f has in
        let s = of.0 in
        let p = from_accesses_has r.first (ran_on s (ran_in steps)) (subst (λ (rs : List Ran). Has r.first rs) of.1.ran_there r.ran) in
        let q = from_on_has s p.0 (ran_in steps) p.1 in
        let y = of.1.waits_only r.second r.waits in
        let z = from_accesses_has r.second (y.0 ∷ []) y.2 in
        let only : z.0 ≡ y.0 = one z.0 y.0 z.1 in
        let qi : q.0.group.id ≡ u = ap (λ (g : StartedGroup). g.id) q.3 ∙ (sym (ap (λ (x : Ran). x.id) p.4) ∙ r.first_is) in
        let yj : y.0.id ≡ t = sym (ap (λ (g : StartedGroup). g.id) only) ∙ (sym (ap (λ (x : Ran). x.id) z.4) ∙ r.second_is) in
        let c = conflict_at u t lu lt r.others q.0.group y.0 p.2 z.2 (subst (λ (g : StartedGroup). Has p.2 g.cells) (sym q.3) p.3) (subst (λ (g : StartedGroup). Has z.2 g.cells) only z.3) qi yj
        (meets_of r.first r.second p.0 z.0 p.2 z.2 p.4 z.4 r.meets) in
        forwards_by u t q.0.group y.0 qi yj
        (program_order.ran_alone q.0 y.0 q.1 (subst (λ n. IsYetToRun plan w n y.0) (sym q.2) (to_yet plan w s y.0 y.1)) c)
      where
        one : (a b : StartedGroup) → Has a (b ∷ []) → a ≡ b
        one a b (inl e) = e
        one a b (inr h) = elim h [ ]
    edge_forwards u t lu lt (f, has, inr (inr b)) = in_time u t ((are.each f has).1.in_time u t b) ((are.decided t).0 lt)

    before_trans : (xs : List TxnId) (a b c : TxnId) → IsListedBefore is_txn xs a b → IsListedBefore is_txn xs b c → IsListedBefore is_txn xs a c
    before_trans xs a b c h k = omega arith

    chain_forwards : (u t : TxnId) → Reaches (among M (GoesBefore folds)) u t → IsListedBefore is_txn w.order u t
    chain_forwards u t (direct e) = edge_forwards u t e.0 e.1 e.2
    chain_forwards u t (through {s} p e) = before_trans w.order u s t (chain_forwards u s p) (edge_forwards s t e.0 e.1 e.2)

    pub no_circle : ¬ HasCycle (GoesBefore folds) M
    no_circle c = let r = cycle_chain (GoesBefore folds) M c in let l = chain_forwards r.0 r.0 r.1 in omega arith

    -- ---- the logs' calls are the history's

    module _ (once : IsToldOnce w.history) where
      same_call : (t : TxnId) → submitted_call t (before.told folds) ≡ submitted_call t w.history
      same_call t = go (submitted_call t w.history) refl
        where
          none : (o : Option Call) → submitted_call t (before.told folds) ≡ o → submitted_call t w.history ≡ None → o ≡ None
          none None e k = refl
          none (Some c) e k =
              let there = (are.told (Submitted t c.procedure c.arguments)).1 (call_of-from is_txn-true (before.told folds) t c e) in
              let d = call_of-submitted is_txn-same w.history t (c.procedure, c.arguments, there) in
              absurd (let f : None ≡ Some d.0 = sym k ∙ d.1 in cc)

          go : (o : Option Call) → submitted_call t w.history ≡ o → submitted_call t (before.told folds) ≡ submitted_call t w.history
          go None e = none (submitted_call t (before.told folds)) refl e ∙ sym e
          go (Some c) e =
              let own = call_of-from is_txn-true w.history t c e in
              call_of-is (before.told folds) t c.procedure c.arguments
              (λ q b h. told_once w.history once t c.procedure q c.arguments b own ((are.told (Submitted t q b)).1 h)) ((are.told (Submitted t c.procedure c.arguments)).0 own)
              ∙ sym (e ∙ ap (λ (i : TxnId). Some (record { id = i; procedure = c.procedure; arguments = c.arguments })) (call_of-id w.history t c e))

      same_reply : (order : List TxnId) (t : TxnId)
          → serial_reply_from plan.program (start_store plan.program) (before.told folds) order t ≡ serial_reply_from plan.program (start_store plan.program) w.history order t
      same_reply order t = ap (λ (f : TxnId → Option Call). reply_in t (serial_answers plan.program (start_store plan.program) (filter_map f order))) (λ i u. same_call u i)

      -- ---- so the judgement is yes

      module _ (submitted : (t : TxnId) → IsListed is_txn w.order t → WasSubmitted w.history t) (answered : (t : TxnId) (reply : List ℤ) → WasAnswered w.history t reply → IsListed is_txn w.order t)
          (replies : (order : List TxnId) → KeepsWhatRan plan steps w order → (t : TxnId) (reply : List ℤ) → WasAnswered w.history t reply
          → serial_reply_from plan.program (start_store plan.program) w.history order t ≡ Some reply) where
        pub judged_yes : (j : Judgement) → IsJudged plan.program folds j → (order : List TxnId) × (j ≡ Yes order (answers_told folds))
        judged_yes _ (one_missing t least) =
            let m = least.holds in
            absurd (m.1 ((are.decided t).1 (answered t m.0.0 ((are.told (Answered t m.0.0)).1 m.0.1))))
        judged_yes _ (one_unsubmitted t d least) =
            let u = least.holds in
            let s = submitted t ((are.decided t).0 u.0) in
            absurd (u.1 (s.0, s.1, (are.told (Submitted t s.0 s.1)).0 s.2))
        judged_yes _ (a_circle c d s least) = absurd (no_circle (c, least.is))
        judged_yes _ (a_wrong_reply order front behind t logged run d s least o r a e n) =
            let right = replies order (least_keeps_what_ran order least) t logged ((are.told (Answered t logged)).1 a) in
            let same : Some run ≡ Some logged = sym e ∙ (same_reply order t ∙ right) in
            absurd (n (let f : run ≡ logged = cc in sym f))
        judged_yes _ (explained order d s least r) = (order, refl)
