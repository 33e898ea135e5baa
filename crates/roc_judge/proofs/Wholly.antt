-- All pairs of goes-before among ids on cycles, and the least cycle
use Rattle.std.proofs.Common.{◌≡◌, ◌≢◌, Bool, true, false, if◌then◌else◌, List, [], ◌∷◌, ◌++◌, map, refl, sym, ap, subst, ◌∙◌, ◌⊎◌, inl, inr}
use Rattle.std.specs.List.{flat_map}
use Rattle.roc_sequence.specs.Lists.{Has}
use Rattle.roc_sequence.specs.Places.{IsListed, is_listed}
use Rattle.roc_sequence.proofs.Members.{has_left, has_right, has_append, has_more, has_map, from_has_map, has_flat_map, from_has_flat_map, has_filter, from_has_filter}
use Rattle.roc_base.specs.declared.id.TxnId.{TxnId}
use Rattle.roc_base.specs.TxnId.{is_txn}
use Rattle.roc_base.proofs.Ids.{is_txn-ne}
use Rattle.roc_depgraph.specs.Reach.{Reaches, ReachesOrIs, direct, through}
use Rattle.roc_depgraph.proofs.Chains.{joined_chain}
use Rattle.roc_component.specs.Components.{among}
use Rattle.roc_msg.specs.declared.outbox.Ran.{Ran}
use Rattle.roc_audit.specs.declared.entry.Entry.{Entry}
use Rattle.roc_audit.specs.declared.entry.Entry.TheVariants.{Submitted, Answered}
use Rattle.roc_audit.specs.History.{WasSubmitted, IsAnsweredBefore}
use Rattle.roc_precedence.specs.declared.pair.Pair.{Pair}
use Rattle.roc_precedence.specs.Pairs.{IsPaired}
use Rattle.roc_precedence.specs.Cycles.{LeadsAlong, IsCycle, HasCycle, IsLeastCycle}
use Rattle.roc_precedence.proofs.Walks.{leads_chain}
use Rattle.roc_judge.specs.declared.folded.Folded.{Folded}
use Rattle.roc_judge.specs.Before.{StandsBefore, do_meet, IsBeforeIn, GoesBefore, told}
use Rattle.roc_judge.specs.Inner.Uses.{pair_with}
use Rattle.roc_judge.specs.Inner.Times.{pair_of}
use Rattle.roc_judge.specs.Inner.Pairs.{of_ids}
use Rattle.roc_judge.specs.Inner.Whole.{meeting_pair, pairs_behind, all_uses, with_one, pairs_here, all_times, whole_pairs}
use Rattle.roc_judge.proofs.Meeting.{from_with}
use Rattle.roc_judge.proofs.Chained.{stands_filter, from_stands_filter}
use Rattle.roc_judge.proofs.Timed.{submitted_behind}
use Rattle.roc_precedence.proofs.Around.{leads_other}

-- ---- accesses

to_meeting : (a b : Ran) → do_meet a b ≡ true → a.id ≢ b.id → Has (pair_of b.id a.id) (meeting_pair a b)
to_meeting a b e n =
    subst (λ (t : Bool). Has (pair_of b.id a.id) (if t then pair_with b.id a.id else [])) (sym e)
    (subst (λ (t : Bool). Has (pair_of b.id a.id) (if t then [] else record { later = b.id; earlier = a.id } ∷ [])) (sym (is_txn-ne a.id b.id n)) (inl refl))

from_meeting : (a b : Ran) (p : Pair) → Has p (meeting_pair a b) → (do_meet a b ≡ true) × (p.later ≡ b.id) × (p.earlier ≡ a.id) × (a.id ≢ b.id)
from_meeting a b p h = go (do_meet a b) refl h
  where
    go : (t : Bool) → do_meet a b ≡ t → Has p (if t then pair_with b.id a.id else []) → (do_meet a b ≡ true) × (p.later ≡ b.id) × (p.earlier ≡ a.id) × (a.id ≢ b.id)
    go true e h = let k = from_with b.id a.id p h in (e, k.0, k.1, k.2)
    go false e h = elim h [ ]

to_uses : (ran waits : List Ran) (a b : Ran) → StandsBefore a b ran ⊎ (Has a ran × Has b waits) → do_meet a b ≡ true → a.id ≢ b.id → Has (pair_of b.id a.id) (all_uses ran waits)
to_uses [] waits a b (inl h) e n = elim h [ ]
to_uses [] waits a b (inr h) e n = elim h.0 [ ]
to_uses (x ∷ xs) waits a b (inl (inl (i, h))) e n =
    has_left (pair_of b.id a.id) (pairs_behind x xs ++ pairs_behind x waits) (all_uses xs waits)
    (has_left (pair_of b.id a.id) (pairs_behind x xs) (pairs_behind x waits)
    (subst (λ y. Has (pair_of b.id a.id) (pairs_behind y xs)) i (has_flat_map (meeting_pair a) (pair_of b.id a.id) b xs h (to_meeting a b e n))))
to_uses (x ∷ xs) waits a b (inl (inr s)) e n = has_right (pair_of b.id a.id) (pairs_behind x xs ++ pairs_behind x waits) (all_uses xs waits) (to_uses xs waits a b (inl s) e n)
to_uses (x ∷ xs) waits a b (inr (inl i, h)) e n =
    has_left (pair_of b.id a.id) (pairs_behind x xs ++ pairs_behind x waits) (all_uses xs waits)
    (has_right (pair_of b.id a.id) (pairs_behind x xs) (pairs_behind x waits)
    (subst (λ y. Has (pair_of b.id a.id) (pairs_behind y waits)) i (has_flat_map (meeting_pair a) (pair_of b.id a.id) b waits h (to_meeting a b e n))))
to_uses (x ∷ xs) waits a b (inr (inr k, h)) e n = has_right (pair_of b.id a.id) (pairs_behind x xs ++ pairs_behind x waits) (all_uses xs waits) (to_uses xs waits a b (inr (k, h)) e n)

-- two accesses that meet, of which the first ran and the second stands behind it or waits
record IsOfUses (ran waits : List Ran) (p : Pair) : Type 0 where
  first : Ran
  second : Ran
  stands : StandsBefore first second ran ⊎ (Has first ran × Has second waits)
  meets : do_meet first second ≡ true
  later : p.later ≡ second.id
  earlier : p.earlier ≡ first.id
  others : first.id ≢ second.id

from_uses : (ran waits : List Ran) (p : Pair) → Has p (all_uses ran waits) → IsOfUses ran waits p
from_uses [] waits p h = elim h [ ]
from_uses (x ∷ xs) waits p h =
    elim (has_append p (pairs_behind x xs ++ pairs_behind x waits) (all_uses xs waits) h) [
      | inl i ↦ elim (has_append p (pairs_behind x xs) (pairs_behind x waits) i) [
        | inl j ↦ (let r = from_has_flat_map (meeting_pair x) p xs j in let m = from_meeting x r.0 p r.2 in
            record { first = x; second = r.0; stands = inl (inl (refl, r.1)); meets = m.0; later = m.1; earlier = m.2; others = m.3 })
        | inr j ↦ (let r = from_has_flat_map (meeting_pair x) p waits j in let m = from_meeting x r.0 p r.2 in
            record { first = x; second = r.0; stands = inr (inl refl, r.1); meets = m.0; later = m.1; earlier = m.2; others = m.3 })
      ]
      | inr i ↦ (let u = from_uses xs waits p i in
          record { first = u.first; second = u.second; stands = deeper u.first u.second u.stands; meets = u.meets; later = u.later; earlier = u.earlier; others = u.others })
    ]
  where
    deeper : (a b : Ran) → StandsBefore a b xs ⊎ (Has a xs × Has b waits) → StandsBefore a b (x ∷ xs) ⊎ (Has a (x ∷ xs) × Has b waits)
    deeper a b (inl s) = inl (inr s)
    deeper a b (inr k) = inr (inr k.0, k.1)

-- ---- times

to_times : (ids answers : List TxnId) (es : List Entry) (u t : TxnId) → is_listed is_txn ids u ≡ true → is_listed is_txn ids t ≡ true
    → (Has u answers × WasSubmitted es t) ⊎ IsAnsweredBefore es u t → Has (pair_of t u) (all_times ids answers es)
to_times ids answers [] u t lu lt (inl h) = elim h.1.2 [ ]
to_times ids answers [] u t lu lt (inr h) = elim h [ ]
to_times ids answers (Submitted x proc args ∷ es) u t lu lt h = go (to_times ids answers es u t lu lt) h
  where
    later : Has (pair_of t u) (all_times ids answers es) → Has (pair_of t u) (pairs_here (is_listed is_txn ids x) x answers ++ all_times ids answers es)
    later k = has_right (pair_of t u) (pairs_here (is_listed is_txn ids x) x answers) (all_times ids answers es) k

    go : ((Has u answers × WasSubmitted es t) ⊎ IsAnsweredBefore es u t → Has (pair_of t u) (all_times ids answers es))
        → (Has u answers × WasSubmitted (Submitted x proc args ∷ es) t) ⊎ IsAnsweredBefore (Submitted x proc args ∷ es) u t
        → Has (pair_of t u) (pairs_here (is_listed is_txn ids x) x answers ++ all_times ids answers es)
    go rest (inl (k, (q, b, inl e))) =
        let same : t ≡ x = cc in
        has_left (pair_of t u) (pairs_here (is_listed is_txn ids x) x answers) (all_times ids answers es)
        (subst (λ y. Has (pair_of t u) (pairs_here (is_listed is_txn ids y) y answers)) same
        (subst (λ (b2 : Bool). Has (pair_of t u) (if b2 then map (pair_of t) answers else [])) (sym lt) (has_map (pair_of t) u answers k)))
    go rest (inl (k, (q, b, inr i))) = later (rest (inl (k, (q, b, i))))
    go rest (inr (inl (r, e, s))) = absurd (cc)
    go rest (inr (inr i)) = later (rest (inr i))
to_times ids answers (Answered x reply ∷ es) u t lu lt h = go (to_times ids (with_one (is_listed is_txn ids x) answers x) es u t lu lt) h
  where
    kept : (b : Bool) → Has u answers → Has u (with_one b answers x)
    kept true k = has_left u answers (x ∷ []) k
    kept false k = k

    go : ((Has u (with_one (is_listed is_txn ids x) answers x) × WasSubmitted es t) ⊎ IsAnsweredBefore es u t → Has (pair_of t u) (all_times ids (with_one (is_listed is_txn ids x) answers x) es))
        → (Has u answers × WasSubmitted (Answered x reply ∷ es) t) ⊎ IsAnsweredBefore (Answered x reply ∷ es) u t → Has (pair_of t u) (all_times ids (with_one (is_listed is_txn ids x) answers x) es)
    go rest (inl (k, (q, b, inl e))) = absurd (cc)
    go rest (inl (k, (q, b, inr i))) = rest (inl (kept (is_listed is_txn ids x) k, (q, b, i)))
    go rest (inr (inl (r, e, s))) =
        let same : u ≡ x = (let back : x ≡ u = cc in sym back) in
        rest (inl (
          subst (λ y. Has u (with_one (is_listed is_txn ids y) answers y)) same
              (subst (λ (b2 : Bool). Has u (if b2 then answers ++ u ∷ [] else answers)) (sym lu) (has_right u answers (u ∷ []) (inl refl))),
          s,
        ))
    go rest (inr (inr i)) = rest (inr i)

from_all_times : (ids answers : List TxnId) (es : List Entry) (p : Pair) → Has p (all_times ids answers es) → (Has p.earlier answers × WasSubmitted es p.later)
    ⊎ IsAnsweredBefore es p.earlier p.later
from_all_times ids answers [] p h = elim h [ ]
from_all_times ids answers (Submitted x proc args ∷ es) p h =
    elim (has_append p (pairs_here (is_listed is_txn ids x) x answers) (all_times ids answers es) h) [
      | inl i ↦ here (is_listed is_txn ids x) i
      | inr i ↦ elim (from_all_times ids answers es p i) [
        | inl k ↦ inl (k.0, submitted_behind (Submitted x proc args) es p.later k.1)
        | inr k ↦ inr (inr k)
      ]
    ]
  where
    here : (b : Bool) → Has p (pairs_here b x answers) → (Has p.earlier answers × WasSubmitted (Submitted x proc args ∷ es) p.later)
        ⊎ IsAnsweredBefore (Submitted x proc args ∷ es) p.earlier p.later
    here false h = elim h [ ]
    here true h =
        let r = from_has_map (pair_of x) p answers h in
        let e : p.earlier ≡ r.0 = ap (λ (q : Pair). q.earlier) r.2 in
        let l : p.later ≡ x = ap (λ (q : Pair). q.later) r.2 in
        inl (subst (λ y. Has y answers) (sym e) r.1, (proc, args, inl (λ j. Submitted (l j) proc args)))
from_all_times ids answers (Answered x reply ∷ es) p h =
    elim (from_all_times ids (with_one (is_listed is_txn ids x) answers x) es p h) [
      | inl k ↦ here (is_listed is_txn ids x) k.0 k.1
      | inr k ↦ inr (inr k)
    ]
  where
    here : (b : Bool) → Has p.earlier (with_one b answers x) → WasSubmitted es p.later → (Has p.earlier answers × WasSubmitted (Answered x reply ∷ es) p.later)
        ⊎ IsAnsweredBefore (Answered x reply ∷ es) p.earlier p.later
    here false h s = inl (h, submitted_behind (Answered x reply) es p.later s)
    here true h s =
        elim (has_more p.earlier x answers h) [
          | inl i ↦ inl (i, submitted_behind (Answered x reply) es p.later s)
          | inr i ↦ inr (inl (reply, (λ j. Answered (sym i j) reply), s))
        ]

-- ---- all logs

module _ (folds : List Folded) (ids : List TxnId) where
  abbrev passes : Ran → Bool
  passes b = is_listed is_txn ids b.id

  abbrev whole : List Pair
  whole = flat_map (whole_pairs ids) folds

  pub whole_is_before : (u t : TxnId) → IsPaired whole u t → GoesBefore folds u t
  whole_is_before u t h =
      let p = pair_of t u in
      let r = from_has_flat_map (whole_pairs ids) p folds h in
      let f = r.0 in
      elim (has_append p (all_uses (of_ids ids f.ran) (of_ids ids f.waits)) (all_times ids [] f.told) r.2) [
        | inl i ↦ (f, r.1, used f u t (from_uses (of_ids ids f.ran) (of_ids ids f.waits) p i))
        | inr i ↦ elim (from_all_times ids [] f.told p i) [
          | inl k ↦ (let nothing : Has u [] = k.0 in elim nothing [ ])
          | inr k ↦ (f, r.1, inr (inr k))
        ]
      ]
    where
      used : (f : Folded) (u t : TxnId) → IsOfUses (of_ids ids f.ran) (of_ids ids f.waits) (pair_of t u) → IsBeforeIn f u t
      used f u t x = go x.stands
        where
          go : StandsBefore x.first x.second (of_ids ids f.ran) ⊎ (Has x.first (of_ids ids f.ran) × Has x.second (of_ids ids f.waits)) → IsBeforeIn f u t
          go (inl s) = inl (record {
            first = x.first;
            second = x.second;
            stands = from_stands_filter passes x.first x.second f.ran s;
            meets = x.meets;
            first_is = sym x.earlier;
            second_is = sym x.later;
            others = λ e. x.others (sym x.earlier ∙ (e ∙ x.later));
          })
          go (inr k) = inr (inl (record {
            first = x.first;
            second = x.second;
            ran = (from_has_filter passes x.first f.ran k.0).0;
            waits = (from_has_filter passes x.second f.waits k.1).0;
            meets = x.meets;
            first_is = sym x.earlier;
            second_is = sym x.later;
            others = λ e. x.others (sym x.earlier ∙ (e ∙ x.later));
          }))

  pub before_is_whole : (u t : TxnId) → is_listed is_txn ids u ≡ true → is_listed is_txn ids t ≡ true → GoesBefore folds u t → IsPaired whole u t
  before_is_whole u t lu lt (f, h, b) = has_flat_map (whole_pairs ids) (pair_of t u) f folds h (one f b)
    where
      one : (f : Folded) → IsBeforeIn f u t → Has (pair_of t u) (whole_pairs ids f)
      one f (inl r) =
          has_left (pair_of t u) (all_uses (of_ids ids f.ran) (of_ids ids f.waits)) (all_times ids [] f.told)
          (subst (λ x. Has (pair_of t x) (all_uses (of_ids ids f.ran) (of_ids ids f.waits))) r.first_is
          (subst (λ x. Has (pair_of x r.first.id) (all_uses (of_ids ids f.ran) (of_ids ids f.waits))) r.second_is
          (to_uses (of_ids ids f.ran) (of_ids ids f.waits) r.first r.second
          (inl (stands_filter passes r.first r.second f.ran r.stands (subst (λ x. is_listed is_txn ids x ≡ true) (sym r.first_is) lu)
          (subst (λ x. is_listed is_txn ids x ≡ true) (sym r.second_is) lt)))
          r.meets (λ e. r.others (sym r.first_is ∙ (e ∙ r.second_is))))))
      one f (inr (inl r)) =
          has_left (pair_of t u) (all_uses (of_ids ids f.ran) (of_ids ids f.waits)) (all_times ids [] f.told)
          (subst (λ x. Has (pair_of t x) (all_uses (of_ids ids f.ran) (of_ids ids f.waits))) r.first_is
          (subst (λ x. Has (pair_of x r.first.id) (all_uses (of_ids ids f.ran) (of_ids ids f.waits))) r.second_is
          (to_uses (of_ids ids f.ran) (of_ids ids f.waits) r.first r.second
          (inr (
            has_filter passes r.first f.ran r.ran (subst (λ x. is_listed is_txn ids x ≡ true) (sym r.first_is) lu),
            has_filter passes r.second f.waits r.waits (subst (λ x. is_listed is_txn ids x ≡ true) (sym r.second_is) lt),
          ))
          r.meets (λ e. r.others (sym r.first_is ∙ (e ∙ r.second_is))))))
      one f (inr (inr k)) =
          has_right (pair_of t u) (all_uses (of_ids ids f.ran) (of_ids ids f.waits)) (all_times ids [] f.told) (to_times ids [] f.told u t lu lt (inr k))

-- ---- the least cycle

cycle_weaker : (E F : TxnId → TxnId → Type 0) → ((u t : TxnId) → E u t → F u t) → (c : List TxnId) → IsCycle E c → IsCycle F c
cycle_weaker E F f [] h = elim h [ ]
cycle_weaker E F f (x ∷ xs) h = leads_other E F f xs x x h

-- what lies on a way around is on a circle
module _ (E F : TxnId → TxnId → Type 0) (to : (u t : TxnId) → Reaches E u u → Reaches E t t → E u t → F u t) where
  along : (x : TxnId) (xs : List TxnId) (u : TxnId) → ReachesOrIs E x u → Reaches E u u → LeadsAlong E u xs x → Reaches E x x → LeadsAlong F u xs x
  along x [] u before own l around = to u x own around l
  along x (y ∷ ys) u before own l around =
      let rest = leads_chain E ys y x l.1 in
      let here = next x u y before l.0 in
      let back = joined_chain E y x y rest here in
      (to u y own back l.0, along x ys y (inr here) back l.1 around)
    where
      next : (x u y : TxnId) → ReachesOrIs E x u → E u y → Reaches E x y
      next x u y (inl e) s = subst (λ v. Reaches E v y) (sym e) (direct s)
      next x u y (inr p) s = through p s

  cycle_around : (c : List TxnId) → IsCycle E c → IsCycle F c
  cycle_around [] h = elim h [ ]
  cycle_around (x ∷ xs) h = let r = leads_chain E xs x x h in along x xs x (inl refl) r h r

module _ (G H : TxnId → TxnId → Type 0) (M on : List TxnId) (members : (x : TxnId) → Reaches (among M G) x x → IsListed is_txn on x)
    (inside : (x : TxnId) → IsListed is_txn on x → IsListed is_txn M x)
    (forth : (u t : TxnId) → IsListed is_txn on u → IsListed is_txn on t → G u t → H u t) (back : (u t : TxnId) → H u t → G u t) where
  to_part : (c : List TxnId) → IsCycle (among M G) c → IsCycle (among on H) c
  to_part c h = cycle_around (among M G) (among on H) (λ u t a b e. (members u a, members t b, forth u t (members u a) (members t b) e.2)) c h

  from_part : (c : List TxnId) → IsCycle (among on H) c → IsCycle (among M G) c
  from_part c h = cycle_weaker (among on H) (among M G) (λ u t e. (inside u e.0, inside t e.1, back u t e.2)) c h

  pub least_in_part : (c : List TxnId) → IsLeastCycle H on c → IsLeastCycle G M c
  least_in_part c h = record {
    is = from_part c h.is;
    begins = h.begins;
    shortest = λ d k. h.shortest d (to_part d k);
    least = λ d k b e. h.least d (to_part d k) b e;
  }

  pub has_in_part : HasCycle G M → HasCycle H on
  has_in_part (c, h) = (c, to_part c h)
