-- What is quiet in a world of two files is quiet in the world of its file
use Rattle.std.proofs.Common.{◌≡◌, ◌∙◌, ◌⊎◌, inl, inr, ℕ, zero, suc, ◌<◌, Bool, true, false, List, [], ◌∷◌, Option, Some, None, length, map, refl, sym, ap, subst, arith}
use Rattle.std.proofs.lemmas.Bool.{false≢true}
use Rattle.std.proofs.lemmas.Option.{slice_get-map, slice_get_within}
use Rattle.std.specs.Prelude.{slice_get, option_map}
use Rattle.std.specs.List.{filter}
use Rattle.roc_sequence.specs.Lists.{Has}
use Rattle.roc_sequence.proofs.Members.{has_left, has_map, has_right, from_has_filter, from_has_map, same_there}
use Rattle.roc_base.specs.declared.id.TxnId.{TxnId}
use Rattle.roc_depgraph.specs.Deps.{IsDecided}
use Rattle.roc_depgraph.specs.Reach.{ReachesOrIs}
use Rattle.roc_depgraph.proofs.Chains.{weaker_chain}
use Rattle.roc_msg.specs.declared.msg.Envelope.{Envelope}
use Rattle.roc_msg.specs.Msg.{id_of}
use Rattle.roc_plan.specs.Groups.{Plan, is_view_of}
use Rattle.roc_coord.specs.Renewed.{renewed_coord}
use Rattle.roc_coord.specs.State.{CoordState}
use Rattle.roc_step.specs.Reads.{holds_up}
use Rattle.roc_step.specs.State.{ServerState}
use Rattle.roc_audit.specs.declared.entry.Entry.TheVariants.{Submitted}
use Rattle.roc_audit.specs.History.{WasSubmitted}
use Rattle.roc_law_protocol.specs.Quiet as transactions
use Rattle.roc_law_world.specs.World.{World}
use Rattle.roc_law_world.specs.Run as views
use Rattle.roc_law_world.specs.Quiet as theirs
use Rattle.roc_law_world.proofs.Ranks.{from_rank}
use Rattle.roc_law_world.proofs.Outcomes.{there as stands_within}
use Rattle.roc_epoch.specs.declared.file.File.{File}
use Rattle.roc_epoch.specs.declared.file.File.TheVariants.{First, Second}
use Rattle.roc_epoch.specs.declared.next.Next.{Next}
use Rattle.roc_epoch.specs.Files.{last_plan, own_plan}
use Rattle.roc_two_files.specs.Sealed.{Sealed, is_of, of_file, place_in_file}
use Rattle.roc_grown.specs.Server.{GrownServerState}
use Rattle.roc_grown.specs.Coord.{GrownCoordState}
use Rattle.roc_growth.specs.World.{GrownWorld}
use Rattle.roc_growth.specs.Run.{Stepped}
use Rattle.roc_growth.specs.Epochs.{AreAlong, AreEpochs}
use Rattle.roc_growth.specs.Told.{HasSwitched}
use Rattle.roc_growth.specs.Quiet.{Counts, IsPassed, was_taken, was_passed, messages_of, plan_of, WritesFor, PrecedesIn, is_told, writes_for, AreDelivered, IsQuiet, IsInLastRound}
use Rattle.roc_growth.proofs.Counted.{counted}
use Rattle.roc_growth.proofs.Halves.{first_false, own_first, own_second, second_true}

-- ---- the messages of a file

-- each of them is one of the network, at its place
pub from_file : (f : File) (sent : List Sealed) (i : ℕ) (m : Envelope) → slice_get (of_file f sent) i ≡ Some m
    → (k : ℕ) × (x : Sealed) × (slice_get sent k ≡ Some x) × (is_of f x ≡ true) × (x.message ≡ m) × (place_in_file f sent k ≡ i)
from_file f sent i m at = go (slice_get (filter (is_of f) sent) i) refl (sym (slice_get-map (λ (m : Sealed). m.message) (filter (is_of f) sent) i) ∙ at)
  where
    go : (o : Option Sealed) → slice_get (filter (is_of f) sent) i ≡ o → option_map (λ (m : Sealed). m.message) o ≡ Some m
        → (k : ℕ) × (x : Sealed) × (slice_get sent k ≡ Some x) × (is_of f x ≡ true) × (x.message ≡ m) × (place_in_file f sent k ≡ i)
    go None there is = absurd (cc)
    go (Some x) there is = let r = from_rank (is_of f) sent i x there in (r.0, x, r.1, r.2, cc, r.3)

has_message : (f : File) (sent : List Sealed) (m : Envelope) → Has m (of_file f sent) → Has m (messages_of sent)
has_message f sent m h =
    let x = from_has_map (λ (m : Sealed). m.message) m (filter (is_of f) sent) h in
    subst (λ m. Has m (messages_of sent)) (sym x.2) (has_map (λ (m : Sealed). m.message) x.0 sent (from_has_filter (is_of f) x.0 sent x.1).0)

-- a startok of the one is one of the other
pub precedes_too : (f : File) (sent : List Sealed) (u t : TxnId) → transactions.PrecedesIn (of_file f sent) u t → transactions.PrecedesIn (messages_of sent) u t
precedes_too f sent u t p =
    record {
      group = p.group;
      edges = p.edges;
      facts = p.facts;
      told = record { message = p.told.message; has = has_message f sent p.told.message p.told.has; shard = p.told.shard; bound = p.told.bound; outs = p.told.outs; is = p.told.is };
      entry = p.entry;
      listed = p.listed;
      from = p.from;
    }

weaker : (there here : TxnId → TxnId → Type 0) → ((a b : TxnId) → there a b → here a b) → (u t : TxnId) → ReachesOrIs there u t → ReachesOrIs here u t
weaker there here into u t (inl e) = inl e
weaker there here into u t (inr r) = inr (weaker_chain there here into u t r)

-- what is delivered of an id is delivered in the world of a file of which no message was skipped
pub delivered_there : (f : File) (steps : List Stepped) (g : GrownWorld) (others : List views.Stepped) (w : World) → w.sent ≡ of_file f g.sent → AreAlong f g.sent steps others
    → ((k : ℕ) (m : Sealed) → slice_get g.sent k ≡ Some m → is_of f m ≡ true → ¬ IsPassed steps g (suc k))
    → (there here : TxnId → TxnId → Type 0) → ((a b : TxnId) → there a b → here a b) → (t : TxnId) → AreDelivered here steps g t → theirs.AreDelivered there others w t
delivered_there f steps g others w sent along unpassed there here into t quiet =
    record {
      each = λ k m u at of reach.
          (let x = from_file f g.sent k m (subst (λ l. slice_get l k ≡ Some m) sent at) in
          let own = quiet.each x.0 x.1 u x.2 (ap id_of (ap (λ (m : Envelope). m.msg) x.4) ∙ of) (weaker there here into u t reach) in
          subst (λ l. transactions.Counts (map (λ (s : views.Stepped). s.event) others) l (suc k)) (sym sent)
          (subst (λ i. transactions.Counts (map (λ (s : views.Stepped). s.event) others) (of_file f g.sent) (suc i)) x.5 (go x.0 x.1 x.2 x.3 own)));
    }
  where
    go : (k : ℕ) (m : Sealed) → slice_get g.sent k ≡ Some m → is_of f m ≡ true → Counts steps g (suc k)
        → transactions.Counts (map (λ (s : views.Stepped). s.event) others) (of_file f g.sent) (suc (place_in_file f g.sent k))
    go k m at of (was_taken q) = counted f g.sent k m at of steps others along q
    go k m at of (was_passed q) = absurd (unpassed k m at of q)

-- ---- who has switched

-- some server has, or none
pub some_or_none : (servers : List GrownServerState) → ((n : ℕ) × HasSwitched servers n) ⊎ ((n : ℕ) (s : GrownServerState) → slice_get servers n ≡ Some s → s.switched ≡ false)
some_or_none [] = inr (λ n s at. absurd (cc))
some_or_none (x ∷ xs) = go x.switched refl (some_or_none xs)
  where
    go : (b : Bool) → x.switched ≡ b → ((n : ℕ) × HasSwitched xs n) ⊎ ((n : ℕ) (s : GrownServerState) → slice_get xs n ≡ Some s → s.switched ≡ false)
        → ((n : ℕ) × HasSwitched (x ∷ xs) n) ⊎ ((n : ℕ) (s : GrownServerState) → slice_get (x ∷ xs) n ≡ Some s → s.switched ≡ false)
    go true is rest = inl (0, (x, refl, is))
    go false is (inl there) = inl (suc there.0, there.1)
    go false is (inr none) = inr each
      where
        the : (s : GrownServerState) → Some x ≡ Some s → x ≡ s
        the s e = cc

        each : (n : ℕ) (s : GrownServerState) → slice_get (x ∷ xs) n ≡ Some s → s.switched ≡ false
        each zero s at = ap (λ (s : GrownServerState). s.switched) (sym (the s at)) ∙ is
        each (suc n) s at = none n s at

module _ (plan : Plan) (next : Option Next) (coords : ℕ) (steps : List Stepped) (g : GrownWorld) (e : AreEpochs plan next coords steps g) where
  pub first_plan : (t : TxnId) → WasSubmitted e.w.history t → plan_of plan next g t ≡ plan
  first_plan t s = ap (own_plan plan next) (first_false plan next coords steps g e t s) ∙ own_first plan next

  pub second_plan : (t : TxnId) → WasSubmitted e.v.history t → plan_of plan next g t ≡ last_plan plan next
  second_plan t s = ap (own_plan plan next) (second_true plan next coords steps g e t s) ∙ own_second plan next

  -- who writes for a view in the world of its file does so here
  writes_too : (P : Plan) (u t : TxnId) → plan_of plan next g t ≡ P → (w : World) → (x : theirs.WritesFor P w u t) → Has (Submitted t x.proc x.args) g.history
      → (server : GrownServerState) → slice_get g.servers x.shard ≡ Some server → server.core ≡ x.server → WritesFor plan next g u t
  writes_too P u t is w x submitted server there core =
      record {
        proc = x.proc;
        args = x.args;
        submitted = submitted;
        view = ap (λ P. is_view_of P x.proc) is ∙ x.view;
        shard = x.shard;
        server = server;
        there = there;
        started = x.started;
        has = subst (λ (s : ServerState). Has x.started s.started) (sym core) x.has;
        of = x.of;
        undecided = subst (λ (s : ServerState). ¬ IsDecided s.lists.links u) (sym core) x.undecided;
        round = x.round;
        group = x.group;
        writes = (λ i. holds_up (is i) (core i) (record { id = t; round = x.round; proc = x.proc; group = x.group; args = x.args }) x.started) ∙ x.writes;
      }

  -- ---- where no server has switched

  module _ (unswitched : (n : ℕ) (s : GrownServerState) → slice_get g.servers n ≡ Some s → s.switched ≡ false) (some : 0 < length e.w.servers) where
    first_precedes : (u t : TxnId) → theirs.PrecedesIn plan e.w u t → PrecedesIn plan next g u t
    first_precedes u t (theirs.is_told p) = is_told (precedes_too First g.sent u t (subst (λ l. transactions.PrecedesIn l u t) e.two.first_sent p))
    first_precedes u t (theirs.writes_for x) =
        let l = slice_get_within e.w.servers x.shard x.server x.there in
        let long = e.two.servers in
        let within : x.shard < length g.servers = omega arith in
        let s = stands_within g.servers x.shard within in
        let core = same_there e.w.servers x.shard s.0.core x.server (e.two.first_servers x.shard s.0 s.1 (unswitched x.shard s.0 s.1)).0 x.there in
        writes_for
        (writes_too plan u t (first_plan t (x.proc, x.args, x.submitted)) e.w x
        (subst (Has (Submitted t x.proc x.args)) (sym e.two.history) (has_left (Submitted t x.proc x.args) e.w.history e.v.history x.submitted)) s.0 s.1 core)

    coord_unswitched : (n : ℕ) (c : GrownCoordState) → slice_get g.coords n ≡ Some c → c.switched ≡ false
    coord_unswitched n c at = go c.switched refl
      where
        go : (b : Bool) → c.switched ≡ b → c.switched ≡ false
        go false is = is
        go true is =
            let long = e.two.servers in
            let within : 0 < length g.servers = omega arith in
            let s = stands_within g.servers 0 within in
            absurd (false≢true (sym (unswitched 0 s.0 s.1) ∙ e.told.by_coord n c at is 0 s.0 s.1))

    first_last_round : (t : TxnId) → theirs.IsInLastRound e.w t → IsInLastRound g t
    first_last_round t x =
        let l = slice_get_within e.w.coords x.number x.coord x.there in
        let long = e.two.coords in
        let within : x.number < length g.coords = omega arith in
        let c = stands_within g.coords x.number within in
        let core = same_there e.w.coords x.number c.0.core x.coord (e.two.first_coords x.number c.0 c.1 (coord_unswitched x.number c.0 c.1)) x.there in
        record { number = x.number; coord = c.0; there = c.1; view = x.view; has = subst (λ (c : CoordState). Has x.view c.views) (sym core) x.has; of = x.of; last = x.last }

    module _ (unpassed : (k : ℕ) (m : Sealed) → slice_get g.sent k ≡ Some m → is_of First m ≡ true → ¬ IsPassed steps g (suc k)) where
      pub first_delivered : (t : TxnId) → AreDelivered (transactions.PrecedesIn (messages_of g.sent)) steps g t → theirs.AreDelivered (transactions.PrecedesIn e.w.sent) e.first_steps e.w t
      first_delivered =
          delivered_there First steps g e.first_steps e.w e.two.first_sent e.along_first unpassed (transactions.PrecedesIn e.w.sent) (transactions.PrecedesIn (messages_of g.sent))
          (λ u t p. precedes_too First g.sent u t (subst (λ l. transactions.PrecedesIn l u t) e.two.first_sent p))

      pub first_quiet : (t : TxnId) → IsQuiet plan next steps g t → theirs.IsQuiet plan e.first_steps e.w t
      first_quiet = delivered_there First steps g e.first_steps e.w e.two.first_sent e.along_first unpassed (theirs.PrecedesIn plan e.w) (PrecedesIn plan next g) first_precedes

    pub not_first_last : (t : TxnId) → ¬ IsInLastRound g t → ¬ theirs.IsInLastRound e.w t
    not_first_last t not x = not (first_last_round t x)

  -- ---- where all have

  module _ (switched : (n : ℕ) (s : GrownServerState) → slice_get g.servers n ≡ Some s → s.switched ≡ true) where
    -- the second world has the nodes of the grown one
    server_there : (n : ℕ) (x : ServerState) → slice_get e.v.servers n ≡ Some x → length e.v.servers ≡ length g.servers → (s : GrownServerState) × (slice_get g.servers n ≡ Some s) × (s.core ≡ x)
    server_there n x at long =
        let l = slice_get_within e.v.servers n x at in
        let within : n < length g.servers = omega arith in
        let s = stands_within g.servers n within in
        (s.0, s.1, same_there e.v.servers n s.0.core x (e.two.second_servers n s.0 s.1 (switched n s.0 s.1)).0 at)

    second_precedes : length e.v.servers ≡ length g.servers → (u t : TxnId) → theirs.PrecedesIn (last_plan plan next) e.v u t → PrecedesIn plan next g u t
    second_precedes long u t (theirs.is_told p) = is_told (precedes_too Second g.sent u t (subst (λ l. transactions.PrecedesIn l u t) e.two.second_sent p))
    second_precedes long u t (theirs.writes_for x) =
        let s = server_there x.shard x.server x.there long in
        writes_for
        (writes_too (last_plan plan next) u t (second_plan t (x.proc, x.args, x.submitted)) e.v x
        (subst (Has (Submitted t x.proc x.args)) (sym e.two.history) (has_right (Submitted t x.proc x.args) e.w.history e.v.history x.submitted)) s.0 s.1 s.2)

    module _ (long : length e.v.servers ≡ length g.servers) (unpassed : (k : ℕ) (m : Sealed) → slice_get g.sent k ≡ Some m → is_of Second m ≡ true → ¬ IsPassed steps g (suc k)) where
      pub second_quiet : (t : TxnId) → IsQuiet plan next steps g t → theirs.IsQuiet (last_plan plan next) e.second_steps e.v t
      second_quiet =
          delivered_there Second steps g e.second_steps e.v e.two.second_sent e.along_second unpassed (theirs.PrecedesIn (last_plan plan next) e.v) (PrecedesIn plan next g) (second_precedes long)

  pub second_delivered : ((k : ℕ) (m : Sealed) → slice_get g.sent k ≡ Some m → is_of Second m ≡ true → ¬ IsPassed steps g (suc k))
      → (t : TxnId) → AreDelivered (transactions.PrecedesIn (messages_of g.sent)) steps g t → theirs.AreDelivered (transactions.PrecedesIn e.v.sent) e.second_steps e.v t
  second_delivered unpassed =
      delivered_there Second steps g e.second_steps e.v e.two.second_sent e.along_second unpassed (transactions.PrecedesIn e.v.sent) (transactions.PrecedesIn (messages_of g.sent))
      (λ u t p. precedes_too Second g.sent u t (subst (λ l. transactions.PrecedesIn l u t) e.two.second_sent p))

  -- a view of the second world that is in its last round there is so here
  pub second_last_round : (t : TxnId) → length e.v.coords ≡ length g.coords → theirs.IsInLastRound e.v t → IsInLastRound g t
  second_last_round t long x =
      let l = slice_get_within e.v.coords x.number x.coord x.there in
      let within : x.number < length g.coords = omega arith in
      let c = stands_within g.coords x.number within in
      go c.0 c.1 c.0.switched refl
    where
      go : (c : GrownCoordState) → slice_get g.coords x.number ≡ Some c → (b : Bool) → c.switched ≡ b → IsInLastRound g t
      go c at true is =
          let core = same_there e.v.coords x.number c.core x.coord (e.two.second_coords x.number c at is) x.there in
          record { number = x.number; coord = c; there = at; view = x.view; has = subst (λ (c : CoordState). Has x.view c.views) (sym core) x.has; of = x.of; last = x.last }
      go c at false is =
          let core = same_there e.v.coords x.number (renewed_coord c.core) x.coord (e.two.awaited_coords x.number c at is) x.there in
          absurd (subst (λ (c : CoordState). Has x.view c.views) (sym core) x.has)
