-- One component more or less in queues: where it comes from there is one less, and where it goes there is room
use Rattle.std.proofs.Common.{◌≡◌, ◌<◌, ◌≤◌, ◌+◌, ◌-◌, ◌==◌, ℕ, Bool, true, false, cond, List, ◌∷◌, length, map, get_or, sym, ap, subst, ◌∙◌, arith}
use Rattle.std.proofs.lemmas.Bool.Decides.{nat_tests}
use Rattle.std.proofs.lemmas.List.{length-map, length-set, map-set}
use Rattle.std.proofs.Math.ListN.{set}
use Rattle.std.proofs.Math.Seq.{map-set_same}
use Rattle.std.specs.VecDeque.{deque_capacity, deque_items, deque_len}
use Rattle.roc_sequence.specs.Lists.{Has}
use Rattle.roc_sequence.specs.Rising.{IsRising}
use Rattle.roc_sequence.proofs.Holds.{has_any}
use Rattle.roc_base.specs.declared.id.TxnId.{TxnId}
use Rattle.roc_server_taken.specs.declared.components.Component.{Component}
use Rattle.roc_server_taken.specs.Inner.Over.{is_not_ahead, AreStanding, IsPutBetween}
use Rattle.roc_server_taken.specs.Inner.Standing.{is_among, part_at, part_of, wanted_at, AreInParts, HaveRoom, StandAt}
use Rattle.roc_server_taken.proofs.Parts.{each_set, first_out, flat, in_parts, length_part, put_in, stand_more, wanted_put}
use Rattle.roc_server_taken.proofs.Queues.{capacity_is, part_is, seen, within_more, Queue}

one_at_most : (b : Bool) → cond b 1 0 ≤ 1
one_at_most true = omega arith
one_at_most false = omega arith

-- what stands in a part, in its queue
module _ (ds : List Queue) {wanted capacities : List ℕ} {room : ℕ} (h : AreInParts (seen ds) wanted capacities room) {at k : ℕ} (same : at ≡ k) (small : k < 16) (d : Queue) where
  pub queue_is : part_at (seen ds) k ≡ deque_items (get_or ds at d)
  queue_is = ap (part_at (seen ds)) (sym same) ∙ part_is ds at d (omega (arith, same, small, h.count, length-map ds deque_items))

  pub queue_stands : StandAt k (deque_items (get_or ds at d))
  queue_stands = subst (StandAt k) queue_is (h.each k small)

-- where fewer may come to stand than there is room for, there is a place
place : (ds : List Queue) (at : ℕ) (d : Queue) → at < length ds → StandAt at (part_at (seen ds) at) → AreStanding (flat (seen ds)) → wanted_at at (flat (seen ds)) < get_or (map deque_capacity ds) at 0
    → deque_len (get_or ds at d) < deque_capacity (get_or ds at d)
place ds at d lt s standing less =
    omega (arith, (get_or ds at d).ok.0, ap length (part_is ds at d lt), capacity_is ds at d lt, length_part (seen ds) at s standing.among, less)

-- ---- none more and none less

module _ (ds : List Queue) (at : ℕ) (d new : Queue) (items : deque_items new ≡ deque_items (get_or ds at d)) where
  pub same_seen : seen (set ds at new) ≡ seen ds
  same_seen = map-set_same deque_items ds at new d items

  pub kept : deque_capacity new ≡ deque_capacity (get_or ds at d) → (wanted : List ℕ) (room : ℕ) → AreInParts (seen ds) wanted (map deque_capacity ds) room
      → AreInParts (seen (set ds at new)) wanted (map deque_capacity (set ds at new)) room
  kept same wanted room h =
      subst (λ ps. AreInParts ps wanted (map deque_capacity (set ds at new)) room) (sym same_seen)
      (subst (λ ns. AreInParts (seen ds) wanted ns room) (sym (map-set_same deque_capacity ds at new d same)) h)

-- ---- one more

module _ (ds : List Queue) (count : length (seen ds) ≡ 16) (each : (k : ℕ) → k < 16 → StandAt k (part_at (seen ds) k)) (at : ℕ) (small : at < 16) (d new : Queue) (c : Component)
    (put : IsPutBetween c (deque_items (get_or ds at d)) (deque_items new)) where
  lt : at < length ds
  lt = omega (arith, small, count, length-map ds deque_items)

  here : IsPutBetween c (part_at (seen ds) at) (deque_items new)
  here = subst (λ p. IsPutBetween c p (deque_items new)) (sym (part_is ds at d lt)) put

  pub put_flat : IsPutBetween c (flat (seen ds)) (flat (seen (set ds at new)))
  put_flat =
      subst (λ ps. IsPutBetween c (flat (seen ds)) (flat ps)) (sym (map-set deque_items ds at new)) (put_in c (seen ds) at (deque_items new) (omega (arith, small, count)) here)

  pub put_parts : IsRising is_not_ahead (deque_items new) → part_of c.under ≡ at → AreStanding (flat (seen (set ds at new))) → (wanted capacities : List ℕ) (room : ℕ)
      → HaveRoom (flat (seen (set ds at new))) wanted capacities room → length wanted ≡ 16 → AreInParts (seen (set ds at new)) wanted capacities room
  put_parts r e standing wanted capacities room has counts =
      let is = map-set deque_items ds at new in
      subst (λ ps. AreInParts ps wanted capacities room) (sym is)
      (in_parts (seen ds) count each at small (deque_items new) (stand_more c at (part_at (seen ds) at) (deque_items new) (each at small) here r e) (subst (λ ps. AreStanding (flat ps)) is standing)
      wanted capacities room (subst (λ ps. HaveRoom (flat ps) wanted capacities room) is has) counts)

-- ---- one that was not there

module _ (ds : List Queue) (wanted : List ℕ) (room : ℕ) (h : AreInParts (seen ds) wanted (map deque_capacity ds) room) (some : 0 < room) where
  pub place_ahead : (at : ℕ) → at < 16 → (d : Queue) → deque_len (get_or ds at d) < deque_capacity (get_or ds at d)
  place_ahead at small d =
      place ds at d (omega (arith, small, h.count, length-map ds deque_items)) (h.each at small) h.standing (omega (arith, h.room.counted at small, h.room.within at small, some))

  pub room_less : (at : ℕ) → at < 16 → (d new : Queue) (c : Component) → IsPutBetween c (deque_items (get_or ds at d)) (deque_items new) → deque_capacity (get_or ds at d) ≤ deque_capacity new
      → (now : List ℕ) → ((k : ℕ) → k < 16 → get_or now k 0 ≡ get_or wanted k 0 + cond (is_among k c.members) 1 0)
      → HaveRoom (flat (seen (set ds at new))) now (map deque_capacity (set ds at new)) (room - 1)
  room_less at small d new c put more now is = record {
    counted = λ k low. omega (arith, wanted_put c k (flat (seen ds)) (flat (seen (set ds at new))) (put_flat ds h.count h.each at small d new c put), h.room.counted k low, is k low);
    within = λ k low. within_more deque_capacity ds at new d more k (get_or now k 0 + (room - 1)) (omega (arith, is k low, one_at_most (is_among k c.members), h.room.within k low, some));
  }

-- ---- one that goes, or moves

module _ (ds : List Queue) (d rest : Queue) {wanted : List ℕ} {room : ℕ} (h : AreInParts (seen ds) wanted (map deque_capacity ds) room) {from : ℕ} (small : from < 16) {c : Component}
    (out : deque_items (get_or ds from d) ≡ c ∷ deque_items rest) (same : deque_capacity rest ≡ deque_capacity (get_or ds from d)) where
  abbrev pub left : List Queue
  left = set ds from rest

  from_lt : from < length ds
  from_lt = omega (arith, small, h.count, length-map ds deque_items)

  from_is : part_at (seen ds) from ≡ c ∷ deque_items rest
  from_is = part_is ds from d from_lt ∙ out

  pub out_flat : IsPutBetween c (flat (seen left)) (flat (seen ds))
  out_flat =
      subst (λ ps. IsPutBetween c (flat ps) (flat (seen ds))) (sym (map-set deque_items ds from rest)) (first_out c (seen ds) from (deque_items rest) (omega (arith, small, h.count)) from_is)

  out_count : length (seen left) ≡ 16
  out_count = length-map left deque_items ∙ length-set ds from rest ∙ sym (length-map ds deque_items) ∙ h.count

  out_each : (k : ℕ) → k < 16 → StandAt k (part_at (seen left) k)
  out_each k low =
      subst (λ ps. StandAt k (part_at ps k)) (sym (map-set deque_items ds from rest)) (each_set (seen ds) from (deque_items rest) (omega (arith, small, h.count)) h.each behind k low)
    where
      whole : StandAt from (c ∷ deque_items rest)
      whole = subst (StandAt from) from_is (h.each from small)

      behind : StandAt from (deque_items rest)
      behind = record { rising = whole.rising.1; own = whole.own.1 }

  pub out_wanted : (k : ℕ) → wanted_at k (flat (seen ds)) ≡ wanted_at k (flat (seen left)) + cond (is_among k c.members) 1 0
  out_wanted k = wanted_put c k (flat (seen left)) (flat (seen ds)) out_flat

  out_capacity : (k n : ℕ) → n ≤ get_or (map deque_capacity ds) k 0 → n ≤ get_or (map deque_capacity left) k 0
  out_capacity k n le = within_more deque_capacity ds from rest d (omega (arith, same)) k n le

  pub wanted_some : (k : ℕ) → k < 16 → is_among k c.members ≡ true → 0 < get_or wanted k 0
  wanted_some k low e = omega (arith, out_wanted k, ap {B = ℕ} (λ b. cond b 1 0) e, h.room.counted k low)

  pub rising_there : (to : ℕ) → to < 16 → (e : Queue) → IsRising is_not_ahead (deque_items (get_or left to e))
  rising_there to low e = subst (IsRising is_not_ahead) (part_is left to e (omega (arith, low, out_count, length-map left deque_items))) ((out_each to low).rising)

  -- it goes
  pub dropped : AreStanding (flat (seen left)) → (now : List ℕ) → ((k : ℕ) → k < 16 → get_or wanted k 0 ≡ get_or now k 0 + cond (is_among k c.members) 1 0) → length now ≡ length wanted
      → AreInParts (seen left) now (map deque_capacity left) room
  dropped standing now is len = record {
    each = out_each;
    standing = standing;
    room = record {
      counted = λ k low. omega (arith, out_wanted k, h.room.counted k low, is k low);
      within = λ k low. out_capacity k (get_or now k 0 + room) (omega (arith, is k low, h.room.within k low));
    };
    count = out_count;
    counts = len ∙ h.counts;
  }

  -- it stands under another member
  module _ (to : ℕ) (low : to < 16) (y : Component) (members : y.members ≡ c.members) (home : part_of y.under ≡ to) (has : Has y.under y.members) where
    is_of : is_among to c.members ≡ true
    is_of = ap (is_among to) (sym members) ∙ has_any (λ t. part_of t == to) y.members y.under has (grind (arith, nat_tests))

    pub place_there : AreStanding (flat (seen left)) → (e : Queue) → deque_len (get_or left to e) < deque_capacity (get_or left to e)
    place_there standing e =
        place left to e (omega (arith, low, out_count, length-map left deque_items)) (out_each to low) standing
        (omega (arith, out_capacity to (wanted_at to (flat (seen left)) + 1) (omega (arith, out_wanted to, ap {B = ℕ} (λ b. cond b 1 0) is_of, h.room.counted to low, h.room.within to low))))

    module _ (e new : Queue) (put : IsPutBetween y (deque_items (get_or left to e)) (deque_items new)) (more : deque_capacity (get_or left to e) ≤ deque_capacity new) where
      pub moved_flat : IsPutBetween y (flat (seen left)) (flat (seen (set left to new)))
      moved_flat = put_flat left out_count out_each to low e new y put

      pub moved : IsRising is_not_ahead (deque_items new) → AreStanding (flat (seen (set left to new))) → AreInParts (seen (set left to new)) wanted (map deque_capacity (set left to new)) room
      moved r standing =
          put_parts left out_count out_each to low e new y put r home standing wanted (map deque_capacity (set left to new)) room
          (record {
            counted = λ k lt.
                omega (
                  arith,
                  out_wanted k,
                  wanted_put y k (flat (seen left)) (flat (seen (set left to new))) moved_flat,
                  ap {B = ℕ} (λ (ms : List TxnId). cond (is_among k ms) 1 0) members,
                  h.room.counted k lt,
                );
            within = λ k lt. within_more deque_capacity left to new e more k (get_or wanted k 0 + room) (out_capacity k (get_or wanted k 0 + room) (h.room.within k lt));
          })
          h.counts
