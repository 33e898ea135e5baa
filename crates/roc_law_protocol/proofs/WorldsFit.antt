-- The world of a beginning fits; and numbers of messages are of more messages too
use Rattle.std.proofs.Common.{◌≡◌, ℕ, zero, suc, ◌+◌, ◌<◌, ◌≤◌, List, ◌++◌, length, map, sym, ap, subst, ◌∙◌, arith}
use Rattle.std.proofs.lemmas.List.{length-map, length-append}
use Rattle.std.proofs.lemmas.List.FromFn.{length-range_with_len}
use Rattle.std.specs.List.{AllByRecursion, range_with_len}
use Rattle.roc_sequence.proofs.Holds.{all_append, all_weaker}
use Rattle.roc_base.specs.declared.node.Node.{Node}
use Rattle.roc_msg.specs.declared.msg.Envelope.{Envelope}
use Rattle.roc_msg.specs.declared.outbox.Outgoing.{Outgoing}
use Rattle.roc_plan.specs.Groups.{Plan}
use Rattle.roc_step.specs.Fits.{ServerFits}
use Rattle.roc_step.specs.State.{ServerState}
use Rattle.roc_coord.specs.Fits.{CoordFits}
use Rattle.roc_law_protocol.specs.Beginnings.{Beginning, begun_server, begun_coord, begun_world}
use Rattle.roc_law_protocol.specs.World.{sent_by}
use Rattle.roc_law_protocol.specs.Fits.{IsServerHere, IsCoordHere, FitsWorld}
use Rattle.roc_law_protocol.proofs.Firsts.{found_at}
use Rattle.roc_law_protocol.proofs.PlainSteps.{begun_plain}

-- ---- the network

-- numbers of messages are of more messages too
numbers_below : (old new : ℕ) (numbers : List ℕ) → old ≤ new → AllByRecursion (λ k. (0 < k) × (k ≤ old)) numbers → AllByRecursion (λ k. (0 < k) × (k ≤ new)) numbers
numbers_below old new numbers l h = all_weaker (λ k. (0 < k) × (k ≤ old)) (λ k. (0 < k) × (k ≤ new)) (λ k p. (p.0, (let q = p.1 in omega arith))) numbers h

new_numbers : (a n end : ℕ) → 0 < a → a + n ≡ end + 1 → AllByRecursion (λ k. (0 < k) × (k ≤ end)) (range_with_len a n)
new_numbers a zero end l e = tt
new_numbers a (suc n) end l e = ((l, omega arith), new_numbers (a + 1) n end (omega arith) (omega arith))

pub numbers_sent : (sent : List Envelope) (numbers : List ℕ) (from : Node) (outs : List Outgoing) → AllByRecursion (λ k. (0 < k) × (k ≤ length sent)) numbers
    → AllByRecursion (λ k. (0 < k) × (k ≤ length (sent ++ map (sent_by from) outs))) (numbers ++ range_with_len (length sent + 1) (length outs))
numbers_sent sent numbers from outs h =
    let more : List Envelope = map (sent_by from) outs in
    let long : length (sent ++ more) ≡ length sent + length outs = length-append sent more ∙ ap (λ n. length sent + n) (length-map outs (sent_by from)) in
    all_append (λ k. (0 < k) × (k ≤ length (sent ++ more))) numbers (range_with_len (length sent + 1) (length outs)) (numbers_below (length sent) (length (sent ++ more)) numbers (omega arith) h) (new_numbers (length sent + 1) (length outs) (length (sent ++ more)) (omega arith) (omega arith))

-- ---- where a run begins

pub begun_fits : (plan : Plan) (start : Beginning) (count : ℕ) → 0 < plan.program.shards → FitsWorld plan (begun_world plan start count)
begun_fits plan start count some =
    let long : length (begun_world plan start count).servers ≡ plan.program.shards = length-map (range_with_len 0 plan.program.shards) (begun_server start) ∙ length-range_with_len 0 plan.program.shards in
    let many : length (begun_world plan start count).coords ≡ count = length-map (range_with_len 0 count) (begun_coord start) ∙ length-range_with_len 0 count in
    record {
      some_server = subst (λ n. 0 < n) (sym long) some;
      shards = long;
      numbers = λ n s h. (let e = found_at (begun_server start) 0 plan.program.shards n s h in ap (λ (s : ServerState). s.shard.0) e ∙ (omega arith));
      servers = servers_of 0 plan.program.shards;
      coords = coords_of 0 count;
      undelivered = tt;
      sent_here = tt;
      servers_here = none_named (length (begun_world plan start count).servers) (length (begun_world plan start count).coords) 0 plan.program.shards;
      coords_here = numbered (length (begun_world plan start count).servers) (length (begun_world plan start count).coords) 0 count (omega arith);
    }
  where
    servers_of : (a n : ℕ) → AllByRecursion (ServerFits plan) (map (begun_server start) (range_with_len a n))
    servers_of a zero = tt
    servers_of a (suc n) = (tt, servers_of (a + 1) n)

    coords_of : (a n : ℕ) → AllByRecursion (CoordFits plan) (map (begun_coord start) (range_with_len a n))
    coords_of a zero = tt
    coords_of a (suc n) = ((tt, tt), coords_of (a + 1) n)

    none_named : (servers coords a n : ℕ) → AllByRecursion (IsServerHere servers coords) (map (begun_server start) (range_with_len a n))
    none_named servers coords a zero = tt
    none_named servers coords a (suc n) = (record { started = tt; known = tt; links = tt; asked = tt; askers = tt }, none_named servers coords (a + 1) n)

    numbered : (servers coords a n : ℕ) → a + n ≡ coords → AllByRecursion (IsCoordHere servers coords) (map (begun_coord start) (range_with_len a n))
    numbered servers coords a zero e = tt
    numbered servers coords a (suc n) e = (record { number = omega arith; pending = tt; plain = begun_plain start a }, numbered servers coords (a + 1) n (omega arith))
