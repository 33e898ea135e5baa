-- Open views behind a stop of a server: what is said of messages that came is said of those of which a delivery counts
use Rattle.std.proofs.Common.{◌≡◌, ◌≢◌, ◌∙◌, ◌⊎◌, inl, inr, ℕ, zero, suc, ◌+◌, ◌-◌, ◌<◌, ◌==◌, Bool, true, false, not, cond, List, [], ◌∷◌, ◌++◌, Option, Some, map, length, refl, sym, ap, subst, arith, append-nil, append_assoc}
use Rattle.std.proofs.lemmas.Bool.{false≢true, eqb-true, eq-eqb}
use Rattle.std.proofs.lemmas.List.{length-append}
use Rattle.std.specs.Prelude.{slice_get, slice_set}
use Rattle.std.specs.List.{filter, range_with_len}
use Rattle.roc_sequence.specs.Lists.{Has}
use Rattle.roc_sequence.proofs.Members.{has_append, has_left, has_right, has_at, has_map, from_has_map, from_has_filter}
use Rattle.roc_base.specs.declared.node.Node.{Node}
use Rattle.roc_base.specs.declared.node.Node.TheVariants.{Server, Coord}
use Rattle.roc_base.specs.declared.node.Shard.{Shard}
use Rattle.roc_msg.specs.declared.msg.Msg.{Msg}
use Rattle.roc_msg.specs.declared.msg.Msg.TheVariants.{Read, ReadOk}
use Rattle.roc_msg.specs.declared.msg.Envelope.{Envelope}
use Rattle.roc_msg.specs.declared.outbox.Outgoing.{Outgoing}
use Rattle.roc_plan.specs.Groups.{Plan}
use Rattle.roc_step.specs.declared.kept_read.KeptRead.{KeptRead}
use Rattle.roc_step.specs.Reads.{ReadStep}
use Rattle.roc_step.specs.State.{ServerStep, Viewing}
use Rattle.roc_coord.specs.State.{CoordState}
use Rattle.roc_readonly.specs.declared.view.View.{View}
use Rattle.roc_readonly.specs.Round.{read_shard}
use Rattle.roc_law_protocol.specs.declared.event.Event.{Event}
use Rattle.roc_law_protocol.specs.declared.event.Event.TheVariants.{Deliver, Stop}
use Rattle.roc_law_protocol.specs.declared.event.Kept.{Kept}
use Rattle.roc_law_protocol.specs.World.{sent_by}
use Rattle.roc_law_protocol.specs.Quiet.{Counts}
use Rattle.roc_law_protocol.proofs.Changed.{get-set_other, get-set_cases}
use Rattle.roc_law_protocol.proofs.Counting.{counts_step, none_counts}
use Rattle.roc_law_protocol.proofs.Deliveries.{range_from}
use Rattle.roc_law_world.specs.World.{World, at_server}
use Rattle.roc_law_world.proofs.Comings.{Came}
use Rattle.roc_law_world.proofs.Calm.{Fits, Done, IsCalm, AreCalm}

-- ---- messages of which no delivery counts

-- of these numbers are none of which a delivery counts, and what counts was sent
pub record AreCounted (events : List (Option Event)) (sent : List Envelope) (uncounted : List ℕ) : Type 0 where
  pub counted : (k : ℕ) → Counts events sent (suc k) → ¬ Has (suc k) uncounted
  pub placed : (k : ℕ) → Counts events sent (suc k) → k < length sent

pub begun_counted : AreCounted [] [] []
begun_counted = record { counted = λ k c. absurd (none_counts [] (suc k) c); placed = λ k c. absurd (none_counts [] (suc k) c) }

not_same : (k : ℕ) → not (k == k) ≡ true → ⊥
not_same k e = false≢true (sym (ap not (eq-eqb k k refl)) ∙ e)

module _ (events : List (Option Event)) (sent : List Envelope) (uncounted : List ℕ) (a : AreCounted events sent uncounted) where
  -- what is new was not sent before
  not_new : (k n : ℕ) → Counts events sent (suc k) → ¬ Has (suc k) (range_with_len (length sent + 1) n)
  not_new k n c h = let l = a.placed k c in let m = range_from (length sent + 1) n (suc k) h in absurd (omega arith)

  longer : (k : ℕ) (more : List Envelope) → k < length sent → k < length (sent ++ more)
  longer k more l = let e = length-append sent more in omega arith

  -- an event that brings no message, and more is sent
  pub more_counted : (e : Option Event) → ((k : ℕ) → e ≢ Some (Deliver k)) → (from : Node) (outs : List Outgoing) → AreCounted (events ++ e ∷ []) (sent ++ map (sent_by from) outs) (uncounted ++ range_with_len (length sent + 1) (length outs))
  more_counted e never from outs =
      record {
        counted = λ k c h. (let was = before k c in elim (has_append (suc k) uncounted (range_with_len (length sent + 1) (length outs)) h) [ inl j ↦ a.counted k was j | inr j ↦ not_new k (length outs) was j ]);
        placed = λ k c. longer k (map (sent_by from) outs) (a.placed k (before k c));
      }
    where
      before : (k : ℕ) → Counts (events ++ e ∷ []) (sent ++ map (sent_by from) outs) (suc k) → Counts events sent (suc k)
      before k c = elim (counts_step events e sent (map (sent_by from) outs) (suc k) c) [ inl now ↦ absurd (never (suc k) now) | inr was ↦ was.0 ]

  -- and nothing is
  pub same_counted : (e : Option Event) → ((k : ℕ) → e ≢ Some (Deliver k)) → AreCounted (events ++ e ∷ []) sent uncounted
  same_counted e never = record { counted = λ k c. a.counted k (before k c); placed = λ k c. a.placed k (before k c) }
    where
      before : (k : ℕ) → Counts (events ++ e ∷ []) sent (suc k) → Counts events sent (suc k)
      before k c = elim (counts_step events e sent [] (suc k) (subst (λ sent. Counts (events ++ e ∷ []) sent (suc k)) (sym (append-nil sent)) c)) [ inl now ↦ absurd (never (suc k) now) | inr was ↦ was.0 ]

  -- a message comes
  pub comes_counted : (k : ℕ) → 0 < k → k - 1 < length sent → (from : Node) (outs : List Outgoing)
      → AreCounted (events ++ Some (Deliver k) ∷ []) (sent ++ map (sent_by from) outs) (filter (λ n. not (n == k)) uncounted ++ range_with_len (length sent + 1) (length outs))
  comes_counted k some within from outs =
      record {
        counted = λ j c h. elim (has_append (suc j) (filter (λ n. not (n == k)) uncounted) (range_with_len (length sent + 1) (length outs)) h) [
          | inl i ↦ (let f = from_has_filter (λ n. not (n == k)) (suc j) uncounted i in elim (either j c) [ inl now ↦ not_same k (subst (λ n. not (n == k) ≡ true) (sym now) f.1) | inr was ↦ a.counted j was f.0 ])
          | inr i ↦ (let m = range_from (length sent + 1) (length outs) (suc j) i in let l = at_once j c in absurd (omega arith))
        ];
        placed = λ j c. longer j (map (sent_by from) outs) (at_once j c);
      }
    where
      either : (j : ℕ) → Counts (events ++ Some (Deliver k) ∷ []) (sent ++ map (sent_by from) outs) (suc j) → (k ≡ suc j) ⊎ Counts events sent (suc j)
      either j c = elim (counts_step events (Some (Deliver k)) sent (map (sent_by from) outs) (suc j) c) [ inl now ↦ inl (number now) | inr was ↦ inr was.0 ]
        where
          number : Some (Deliver k) ≡ Some (Deliver (suc j)) → k ≡ suc j
          number e = cc

      at_once : (j : ℕ) → Counts (events ++ Some (Deliver k) ∷ []) (sent ++ map (sent_by from) outs) (suc j) → j < length sent
      at_once j c = elim (either j c) [ inl now ↦ omega (arith, now, within) | inr was ↦ a.placed j was ]

-- ---- messages to a server

abbrev is_to : ℕ → Node → Bool
is_to n (Server shard) = shard.0 == n
is_to n (Coord c) = false

is_to-true : (n : ℕ) (to : Node) → is_to n to ≡ true → to ≡ Server (record { 0 = n })
is_to-true n (Server shard) e = let same = eqb-true shard.0 n e in λ i. Server (record { 0 = same i })
is_to-true n (Coord c) e = absurd (false≢true e)

is_to-same : (n : ℕ) (to : Node) → to ≡ Server (record { 0 = n }) → is_to n to ≡ true
is_to-same n to e = subst (λ to. is_to n to ≡ true) (sym e) (eq-eqb n n refl)

-- the numbers of those to the server, from a number on
abbrev pub numbers_to : ℕ → List Envelope → ℕ → List ℕ
numbers_to n [] at = []
numbers_to n (m ∷ ms) at = cond (is_to n m.to) (suc at ∷ numbers_to n ms (suc at)) (numbers_to n ms (suc at))

pub has_number : (n : ℕ) (ms : List Envelope) (at k : ℕ) (m : Envelope) → slice_get ms k ≡ Some m → m.to ≡ Server (record { 0 = n }) → Has (suc (at + k)) (numbers_to n ms at)
has_number n [] at k m e to = absurd (cc)
has_number n (x ∷ ms) at zero m e to = go (is_to n x.to) (is_to-same n x.to (ap (λ (m : Envelope). m.to) same ∙ to))
  where
    same : x ≡ m
    same = cc

    go : (b : Bool) → b ≡ true → Has (suc (at + 0)) (cond b (suc at ∷ numbers_to n ms (suc at)) (numbers_to n ms (suc at)))
    go true e = inl (let z : at + 0 ≡ at = omega arith in ap suc z)
    go false e = absurd (false≢true e)
has_number n (x ∷ ms) at (suc k) m e to = go (is_to n x.to) (subst (λ i. Has i (numbers_to n ms (suc at))) shifts (has_number n ms (suc at) k m e to))
  where
    shifts : suc (suc at + k) ≡ suc (at + suc k)
    shifts = omega arith

    go : (b : Bool) → Has (suc (at + suc k)) (numbers_to n ms (suc at)) → Has (suc (at + suc k)) (cond b (suc at ∷ numbers_to n ms (suc at)) (numbers_to n ms (suc at)))
    go true h = inr h
    go false h = h

-- one of these numbers is of a message to the server
pub record IsNumberTo (n : ℕ) (ms : List Envelope) (at i : ℕ) : Type 0 where
  pub place : ℕ
  pub message : Envelope
  pub is : i ≡ suc (at + place)
  pub there : slice_get ms place ≡ Some message
  pub to : message.to ≡ Server (record { 0 = n })

from_number : (n : ℕ) (ms : List Envelope) (at i : ℕ) → Has i (numbers_to n ms at) → IsNumberTo n ms at i
from_number n [] at i h = elim h [ ]
from_number n (x ∷ ms) at i h = go (is_to n x.to) refl h (from_number n ms (suc at) i)
  where
    later : IsNumberTo n ms (suc at) i → IsNumberTo n (x ∷ ms) at i
    later p = record { place = suc p.place; message = p.message; is = (let e = p.is in omega (arith, e)); there = p.there; to = p.to }

    go : (b : Bool) → is_to n x.to ≡ b → Has i (cond b (suc at ∷ numbers_to n ms (suc at)) (numbers_to n ms (suc at))) → (Has i (numbers_to n ms (suc at)) → IsNumberTo n ms (suc at) i) → IsNumberTo n (x ∷ ms) at i
    go true e (inl same) more = record { place = 0; message = x; is = same ∙ (let z : suc at ≡ suc (at + 0) = omega arith in z); there = refl; to = is_to-true n x.to e }
    go true e (inr h) more = later (more h)
    go false e h more = later (more h)

-- a stop: what came to the server counts no more, and more is sent, twice
pub stop_counted : (events : List (Option Event)) (sent : List Envelope) (uncounted : List ℕ) → AreCounted events sent uncounted → (shard : Shard) (during : Option (ℕ × Kept)) (from : Node) (outs again : List Outgoing)
    → AreCounted (events ++ Some (Stop shard during) ∷ []) ((sent ++ map (sent_by from) outs) ++ map (sent_by from) again)
    (((uncounted ++ numbers_to shard.0 sent 0) ++ range_with_len (length sent + 1) (length outs)) ++ range_with_len (length (sent ++ map (sent_by from) outs) + 1) (length again))
stop_counted events sent uncounted a shard during from outs again =
    record {
      counted = λ k c h. (let was = before k c in elim (has_append (suc k) ((uncounted ++ numbers_to shard.0 sent 0) ++ range_with_len (length sent + 1) (length outs)) (range_with_len (length (sent ++ more) + 1) (length again)) h) [
        | inl j ↦ elim (has_append (suc k) (uncounted ++ numbers_to shard.0 sent 0) (range_with_len (length sent + 1) (length outs)) j) [
          | inl i ↦ elim (has_append (suc k) uncounted (numbers_to shard.0 sent 0) i) [
            | inl l ↦ a.counted k was.0 l
            | inr l ↦ (let p = from_number shard.0 sent 0 (suc k) l in let at : k ≡ p.place = place k p.place p.is in was.1 p.message (subst (λ k. slice_get sent k ≡ Some p.message) (sym at) p.there) p.to)
          ]
          | inr i ↦ not_new events sent uncounted a k (length outs) was.0 i
        ]
        | inr j ↦ (let l = a.placed k was.0 in let m = range_from (length (sent ++ more) + 1) (length again) (suc k) j in let e = length-append sent more in absurd (omega arith))
      ]);
      placed = λ k c. (let l = a.placed k (before k c).0 in let e = length-append sent more in let d = length-append (sent ++ more) (map (sent_by from) again) in omega arith);
    }
  where
    more : List Envelope
    more = map (sent_by from) outs

    never : (k : ℕ) → Some (Stop shard during) ≢ Some (Deliver k)
    never k e = cc

    place : (k p : ℕ) → suc k ≡ suc (0 + p) → k ≡ p
    place k p e = omega (arith, e)

    same_place : (k : ℕ) → k ≡ suc k - 1
    same_place k = omega arith

    before : (k : ℕ) → Counts (events ++ Some (Stop shard during) ∷ []) ((sent ++ map (sent_by from) outs) ++ map (sent_by from) again) (suc k)
        → Counts events sent (suc k) × ((m : Envelope) → slice_get sent k ≡ Some m → m.to ≢ Server (record { 0 = shard.0 }))
    before k c = elim (counts_step events (Some (Stop shard during)) sent (map (sent_by from) outs ++ map (sent_by from) again) (suc k)
        (subst (λ sent. Counts (events ++ Some (Stop shard during) ∷ []) sent (suc k)) (append_assoc sent (map (sent_by from) outs) (map (sent_by from) again)) c)) [
          | inl now ↦ absurd (never (suc k) now)
          | inr was ↦ (was.0, λ m at to. was.1 m (subst (λ k. slice_get sent k ≡ Some m) (same_place k) at) to)
        ]

-- ---- a world with these uncounted

module _ (plan : Plan) where
  -- in this world, where these numbers are for those of the messages that were never delivered, open views are as they have to be
  pub record IsCalmOf (events : List (Option Event)) (w : World) : Type 0 where
    pub uncounted : List ℕ
    pub calm : AreCalm plan (record w { undelivered = uncounted })
    pub counts : AreCounted events w.sent uncounted

  -- ---- less is sent of a step, and no read is kept

  module _ (b : World) (ab : AreCalm plan b) (n : ℕ) (z : Viewing) (keeps : slice_get b.viewing n ≡ Some z) (r : ServerStep) (q : ReadStep) (any : List ℕ) (aw : AreCalm plan (record (at_server b n r q) { undelivered = any }))
      (outs : List Outgoing) (sub : (out : Outgoing) → Has out outs → Has out (r.sends ++ q.sends)) (y : Viewing) (none : (x : KeptRead) → ¬ Has x y.reads) (uncounted : List ℕ) where
    abbrev me : Node
    me = Server (record { 0 = n })

    abbrev left : World
    left = record (at_server b n r q) { sent = b.sent ++ map (sent_by (Server (record { 0 = n }))) outs; undelivered = uncounted; viewing = slice_set b.viewing n y }

    module _ (fewer : (m : Envelope) → Came (record (at_server b n r q) { sent = b.sent ++ map (sent_by (Server (record { 0 = n }))) outs; undelivered = uncounted; viewing = slice_set b.viewing n y }) m → Came b m × (m.to ≢ Server (record { 0 = n }))) where
      was_sent : (m : Envelope) → Has m (b.sent ++ map (sent_by (Server (record { 0 = n }))) outs) → Has m (b.sent ++ map (sent_by (Server (record { 0 = n }))) (r.sends ++ q.sends))
      was_sent m h = elim (has_append m b.sent (map (sent_by me) outs) h) [
        | inl k ↦ has_left m b.sent (map (sent_by me) (r.sends ++ q.sends)) k
        | inr k ↦
            (let p = from_has_map (sent_by me) m outs k in
            has_right m b.sent (map (sent_by me) (r.sends ++ q.sends)) (subst (λ m. Has m (map (sent_by me) (r.sends ++ q.sends))) (sym p.2) (has_map (sent_by me) p.0 (r.sends ++ q.sends) (sub p.0 p.1))))
      ]

      -- what another server keeps it keeps still
      kept_before : (i : ℕ) (x : Viewing) → slice_get (slice_set b.viewing n y) i ≡ Some x → (d : KeptRead) → Has d x.reads → (n ≢ i) × (slice_get b.viewing i ≡ Some x)
      kept_before i x at d h = elim (get-set_cases b.viewing n i z y x keeps at) [ inl e ↦ absurd (none d (subst (λ (x : Viewing). Has d x.reads) e.1 h)) | inr e ↦ e ]

      done_still : (v : View) (d : Envelope) → d.to ≢ Server (record { 0 = n }) → Fits plan v d.msg d.to → Done plan b v d.msg
          → Done plan (record (at_server b n r q) { sent = b.sent ++ map (sent_by (Server (record { 0 = n }))) outs; undelivered = uncounted; viewing = slice_set b.viewing n y }) v d.msg
      done_still v d apart = go d.msg
        where
          go : (msg : Msg) → Fits plan v msg d.to → Done plan b v msg → Done plan left v msg
          go (Read id round proc group args) fits done = λ same now.
              let f = fits same in
              elim (done same now) [
                | inl k ↦ inl (k.0, get-set_other b.viewing n (read_shard plan v group).0 y (λ e. apart (f.1 ∙ (let at = sym f.2.here ∙ sym e in λ i. Server (record { 0 = at i })))) ∙ k.1, k.2)
                | inr k ↦ inr (k.0, has_left k.0 b.sent (map (sent_by me) outs) k.1, k.2, k.3, k.4, k.5)
              ]
          go (ReadOk id round group shard vs outs) fits done = done
          go msg fits done = tt

      view_still : (m : ℕ) (c : CoordState) → slice_get b.coords m ≡ Some c → (v : View) → Has v c.views
          → IsCalm plan (record (at_server b n r q) { sent = b.sent ++ map (sent_by (Server (record { 0 = n }))) outs; undelivered = uncounted; viewing = slice_set b.viewing n y }) v
      view_still m c at v h =
          let before = ab.views m c at v h in
          let behind = aw.views m c at v h in
          record {
            view = before.view;
            counted = before.counted;
            submitted = before.submitted;
            sent = λ g l. (let k = before.sent g l in (k.0, has_left k.0 b.sent (map (sent_by me) outs) k.1, k.2));
            messages = λ d j. behind.messages d (was_sent d j);
            kept = λ i x there d j. before.kept i x (kept_before i x there d j).1 d j;
            came = λ d j. (let f = fewer d j in done_still v d f.1 (before.messages d (has_at b.sent f.0.0 d f.0.1)) (before.came d f.0));
            lacks = before.lacks;
          }

      pub lost_calm : AreCalm plan (record (at_server b n r q) { sent = b.sent ++ map (sent_by (Server (record { 0 = n }))) outs; undelivered = uncounted; viewing = slice_set b.viewing n y })
      lost_calm =
          record {
            shards = aw.shards;
            coords = aw.coords;
            views = view_still;
            messages = λ d j. aw.messages d (was_sent d j);
            kept = λ i x there d j.
                (let e = kept_before i x there d j in
                let k = aw.kept i x (get-set_other b.viewing n i q.viewing e.0 ∙ e.1) d j in
                record { submitted = k.submitted; server = k.server; there = k.there; held = k.held });
            told = λ d j. aw.told d (was_sent d j);
            heard = aw.heard;
            asked = aw.asked;
          }
