-- A run of two files of which the second never comes is a run of one, step by step
use Rattle.std.proofs.Common.{◌≡◌, ◌∙◌, ◌+◌, ℕ, zero, suc, ◌-◌, Bool, true, false, ◌&&◌, nat_lt, not, List, [], ◌∷◌, ◌++◌, map, take, length, Some, None, refl, sym, ap, subst, append-nil, arith}
use Rattle.std.proofs.lemmas.List.{map-append, length-map}
use Rattle.std.specs.Prelude.{slice_get, slice_set, if◌then◌else◌}
use Rattle.std.specs.List.{range_with_len}
use Rattle.roc_base.specs.declared.id.TxnId.{TxnId}
use Rattle.roc_base.specs.declared.node.Node.{Node}
use Rattle.roc_base.specs.declared.node.Node.TheVariants.{Server, Coord}
use Rattle.roc_base.specs.declared.node.Shard.{Shard}
use Rattle.roc_depgraph.specs.declared.known.KnownList.{KnownList}
use Rattle.roc_component.specs.Components.{HaveSameMembers, IsComponentOrderOf}
use Rattle.roc_msg.specs.declared.msg.Msg.{Msg}
use Rattle.roc_msg.specs.declared.msg.Msg.TheVariants.{Drained, Switched}
use Rattle.roc_msg.specs.declared.outbox.Outgoing.{Outgoing}
use Rattle.roc_msg.specs.declared.reason.Reason.TheVariants.{Foreign, Stale}
use Rattle.roc_plan.specs.Groups.{Plan}
use Rattle.roc_step.specs.Reads.{reads_behind, AnswersReads, ReadStep}
use Rattle.roc_step.specs.State.{ignored, ServerState, ServerStep, Viewing}
use Rattle.roc_step.specs.Step as step
use Rattle.roc_step.specs.Step.{Handles}
use Rattle.roc_coord.specs.State.{CoordState, CoordStep}
use Rattle.roc_coord.specs.Step.{after_message}
use Rattle.roc_coord.specs.Tick.{tick_sends}
use Rattle.roc_audit.specs.declared.entry.Entry.{Entry}
use Rattle.roc_law_protocol.specs.Beginnings.{begun_server, begun_coord, first_beginning as their_beginning}
use Rattle.roc_law_protocol.specs.World.{sent_by}
use Rattle.roc_law_protocol.proofs.Findings.{decided_there, handled}
use Rattle.roc_law_world.specs.World as views
use Rattle.roc_law_world.specs.World.{World, first_world, first_beginning, begun_viewing}
use Rattle.roc_epoch.specs.declared.file.File.TheVariants.{Neither}
use Rattle.roc_epoch.specs.Files.{is_between, file_of, own_file}
use Rattle.roc_two_files.specs.Sealed.{sealed_by}
use Rattle.roc_grown.specs.Server.{GrownServerState, GrownStep, GrownHandles, of_drained, of_switched, of_other, of_own, of_core, foreign_at, first_grown_server}
use Rattle.roc_grown.specs.Coord as coord
use Rattle.roc_grown.specs.Coord.{GrownCoordState, GrownCoordStep, after_grown_message, grown_tick_sends, first_grown_coord}
use Rattle.roc_growth.specs.World.{first_grown_world, sends, at_server, at_coord}
use Rattle.roc_growth.specs.Without.{plain_server, plain_servers, plain_coord, sealed_plain, plain_world}

-- ---- lists

-- the first ones of two lists, one behind the other
pub take_both : {A : Type 0} (n : ℕ) (xs ys : List A) → take n (xs ++ ys) ≡ take n xs ++ take (n - length xs) ys
take_both zero [] ys = ap (λ k. take k ys) (sym less)
  where
    less : 0 - 0 ≡ 0
    less = omega arith
take_both (suc n) [] ys = ap (λ k. take k ys) (sym (less n))
  where
    less : (n : ℕ) → suc n - 0 ≡ suc n
    less n = omega arith
take_both zero (x ∷ xs) ys = ap (λ k. take k ys) (sym (less (length xs)))
  where
    less : (n : ℕ) → 0 - suc n ≡ 0
    less n = omega arith
take_both (suc n) (x ∷ xs) ys = ap (λ l. x ∷ l) (take_both n xs ys ∙ ap (λ k. take n xs ++ take k ys) (sym (less n (length xs))))
  where
    less : (a b : ℕ) → suc a - suc b ≡ a - b
    less a b = omega arith

-- what stands in a list that is made of another
pub from_map : {A B : Type 0} (f : A → B) (xs : List A) (n : ℕ) (b : B) → slice_get (map f xs) n ≡ Some b → (a : A) × (slice_get xs n ≡ Some a) × (b ≡ f a)
from_map f [] n b e = absurd (cc)
from_map f (x ∷ xs) zero b e = (x, refl, cc)
from_map f (x ∷ xs) (suc n) b e = from_map f xs n b e

pub map_set : {A B : Type 0} (f : A → B) (xs : List A) (n : ℕ) (a : A) → map f (slice_set xs n a) ≡ slice_set (map f xs) n (f a)
map_set f [] n a = refl
map_set f (x ∷ xs) zero a = refl
map_set f (x ∷ xs) (suc n) a = ap (λ l. f x ∷ l) (map_set f xs n a)

-- ---- servers

pub servers_from : (ss : List ServerState) (vs : List Viewing) (n : ℕ) (g : GrownServerState) → slice_get (plain_servers ss vs) n ≡ Some g
    → (s : ServerState) × (v : Viewing) × (slice_get ss n ≡ Some s) × (slice_get vs n ≡ Some v) × (g ≡ plain_server s v)
servers_from [] vs n g e = absurd (cc)
servers_from (s ∷ ss) [] n g e = absurd (cc)
servers_from (s ∷ ss) (v ∷ vs) zero g e = (s, v, refl, refl, cc)
servers_from (s ∷ ss) (v ∷ vs) (suc n) g e = servers_from ss vs n g e

servers_set : (ss : List ServerState) (vs : List Viewing) (n : ℕ) (s : ServerState) (v : Viewing)
    → slice_set (plain_servers ss vs) n (plain_server s v) ≡ plain_servers (slice_set ss n s) (slice_set vs n v)
servers_set [] vs n s v = refl
servers_set (x ∷ ss) [] zero s v = refl
servers_set (x ∷ ss) [] (suc n) s v = refl
servers_set (x ∷ ss) (y ∷ vs) zero s v = refl
servers_set (x ∷ ss) (y ∷ vs) (suc n) s v = ap (λ l. plain_server x y ∷ l) (servers_set ss vs n s v)

servers_made : (f : ℕ → ServerState) (g : ℕ → Viewing) (h : ℕ → GrownServerState) → ((n : ℕ) → h n ≡ plain_server (f n) (g n)) → (ns : List ℕ) → map h ns ≡ plain_servers (map f ns) (map g ns)
servers_made f g h e [] = refl
servers_made f g h e (n ∷ ns) = λ i. e n i ∷ servers_made f g h e ns i

coords_made : (f : ℕ → CoordState) (h : ℕ → GrownCoordState) → ((n : ℕ) → h n ≡ plain_coord (f n)) → (ns : List ℕ) → map h ns ≡ map plain_coord (map f ns)
coords_made f h e [] = refl
coords_made f h e (n ∷ ns) = λ i. e n i ∷ coords_made f h e ns i

pub plain_first : (plan : Plan) (coords : ℕ) → first_grown_world plan coords ≡ plain_world (first_world plan coords)
plain_first plan coords =
    let servers = servers_made (begun_server (their_beginning plan)) (begun_viewing (first_beginning plan)) (λ n. first_grown_server plan (record { 0 = n })) (λ n. refl) (range_with_len 0 plan.program.shards) in
    let numbers = coords_made (begun_coord (their_beginning plan)) first_grown_coord (λ n. refl) (range_with_len 0 coords) in
    λ i. record { servers = servers i; coords = numbers i; sent = []; undelivered = []; history = []; order = []; looks = [] }

-- ---- what is sent

sealed_sent : (from : Node) (outs : List Outgoing) → map (sealed_by false from) outs ≡ map sealed_plain (map (sent_by from) outs)
sealed_sent from [] = refl
sealed_sent from (out ∷ outs) = ap (λ l. sealed_by false from out ∷ l) (sealed_sent from outs)

module _ (w : World) where
  pub plain_sends : (from : Node) (outs : List Outgoing) → sends (plain_world w) false from outs ≡ plain_world (views.sends w from outs)
  plain_sends from outs =
      let sent : map sealed_plain w.sent ++ map (sealed_by false from) outs ≡ map sealed_plain (w.sent ++ map (sent_by from) outs) =
      ap (λ l. map sealed_plain w.sent ++ l) (sealed_sent from outs) ∙ sym (map-append sealed_plain w.sent (map (sent_by from) outs)) in
      let numbers : w.undelivered ++ range_with_len (length (map sealed_plain w.sent) + 1) (length outs) ≡ w.undelivered ++ range_with_len (length w.sent + 1) (length outs) =
      ap (λ n. w.undelivered ++ range_with_len (n + 1) (length outs)) (length-map w.sent sealed_plain) in
      λ i. record (plain_world w) { sent = sent i; undelivered = numbers i }

  pub plain_served : (n : ℕ) (s : ServerState) (v : Viewing) (r : ServerStep) (q : ReadStep) → at_server (plain_world w) n (of_core (plain_server s v) r q) ≡ plain_world (views.at_server w n r q)
  plain_served n s v r q =
      let before = plain_sends (Server (record { 0 = n })) (r.sends ++ q.sends) in
      let servers = servers_set w.servers w.viewing n r.state q.viewing in
      λ i. record (before i) { servers = servers i; order = (views.at_server w n r q).order }

  pub plain_coordinated : (n : ℕ) (c : CoordState) (outs : List Outgoing) (told : List Entry) → at_coord (plain_world w) n (plain_coord c) outs told ≡ plain_world (views.at_coord w n c outs told)
  plain_coordinated n c outs told =
      let before = plain_sends (Coord n) outs in
      let coords = sym (map_set plain_coord w.coords n c) in
      λ i. record (before i) { coords = coords i; history = w.history ++ told; looks = (views.at_coord w n c outs told).looks }

-- ---- a node's step

module _ (exists : (known : List KnownList) (M : List TxnId) → (xs : List TxnId) × IsComponentOrderOf known M xs)
    (one_order : (known : List KnownList) (M N xs ys : List TxnId) → HaveSameMembers M N → IsComponentOrderOf known M xs → IsComponentOrderOf known N ys → xs ≡ ys) (plan : Plan) where
  -- what a server makes of a message, where it makes this of it beside another file
  pub record IsPlainly (s : ServerState) (v : Viewing) (msg : Msg) (g : GrownStep) : Type 0 where
    pub step : ServerStep
    pub handles : Handles plan s msg step
    pub reads : ReadStep
    pub answers : AnswersReads plan v msg step reads
    pub is : g ≡ of_core (plain_server s v) step reads

  module _ (s : ServerState) (v : Viewing) where
    -- a kind that no server takes
    plainly_foreign : (msg : Msg) → ((f : step.Findings) → step.after_message plan s f msg ≡ ignored s Foreign) → IsPlainly s v msg (foreign_at (plain_server s v))
    plainly_foreign msg is =
        let h = handled exists one_order plan s msg in
        let foreign : h.0 ≡ ignored s Foreign = h.1.is ∙ is h.1.findings in
        let d = decided_there h.0.state.lists.links in
        let q : ReadStep = record { viewing = v; sends = [] } in
        record {
          step = h.0;
          handles = h.1;
          reads = q;
          answers = record { decided = d.0; found = d.1; is = ap (reads_behind plan d.0 v msg) (sym foreign) };
          is = ap (λ (r : ServerStep). of_core (plain_server s v) r q) (sym foreign);
        }

    own : (msg : Msg) → is_between msg ≡ false → file_of false msg ≡ own_file false
    own msg e = ap (λ b. if b then Neither else own_file false) e

    pub plainly : (msg : Msg) (g : GrownStep) → GrownHandles plan None (plain_server s v) (file_of false msg) msg g → IsPlainly s v msg g
    plainly _ _ (of_drained upto g is) = subst (IsPlainly s v (Drained upto)) (sym is) (plainly_foreign (Drained upto) (λ f. refl))
    plainly _ _ (of_switched upto shard g is) = subst (IsPlainly s v (Switched upto shard)) (sym is) (plainly_foreign (Switched upto shard) (λ f. refl))
    plainly _ _ (of_other msg g between other is) = absurd (other (own msg between))
    plainly _ _ (of_own msg r q g between same handles answers is) = record { step = r; handles = handles; reads = q; answers = answers; is = is }

-- what a coordinator makes of a message
module _ (plan : Plan) (c : CoordState) where
  abbrev pub of_plain : CoordStep → GrownCoordStep
  of_plain r = record { answer = coord.handled_so r.answer; state = plain_coord r.state; sends = r.sends }

  core_plainly : (r : CoordStep) → coord.of_core plan (plain_coord c) r ≡ of_plain r
  core_plainly r = go (coord.is_answer r.answer) ∙ ap (λ outs. record { answer = coord.handled_so r.answer; state = plain_coord r.state; sends = outs }) (append-nil r.sends)
    where
      told : Bool → coord.DrainStep
      told b = if b then coord.tell_if_drained plan (plain_coord r.state) else record { state = plain_coord r.state; sends = [] }

      go : (b : Bool) → ◌≡◌ {A = GrownCoordStep} (record { answer = coord.handled_so r.answer; state = (told b).state; sends = r.sends ++ (told b).sends })
          (record { answer = coord.handled_so r.answer; state = plain_coord r.state; sends = r.sends ++ [] })
      go true = refl
      go false = refl

  switched_plainly : (upto : TxnId) (shard : Shard) → coord.after_switched plan (plain_coord c) upto shard ≡ of_plain (after_message plan c (Switched upto shard))
  switched_plainly upto shard = go (nat_lt shard.0 plan.program.shards)
    where
      taken : GrownCoordState
      taken = coord.over_if_all plan (record (plain_coord c) { at = [] ++ shard ∷ [] })

      go : (b : Bool) → coord.unless_refused (plain_coord c) (if not (b && false) then Some Foreign else if false then Some Stale else None) taken ≡ of_plain (after_message plan c (Switched upto shard))
      go true = refl
      go false = refl

  pub coord_plainly : (msg : Msg) → after_grown_message plan None (plain_coord c) (file_of false msg) msg ≡ of_plain (after_message plan c msg)
  coord_plainly (Drained upto) = refl
  coord_plainly (Switched upto shard) = switched_plainly upto shard
  coord_plainly msg = core_plainly (after_message plan c msg)

  pub tick_plainly : grown_tick_sends plan None (plain_coord c) ≡ tick_sends plan c
  tick_plainly = append-nil (tick_sends plan c)
