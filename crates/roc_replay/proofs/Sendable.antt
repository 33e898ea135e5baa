-- A schedule that asks only for what was sent is played, and no other is
use Rattle.std.proofs.Common.{◌≡◌, ℕ, ◌<◌, ◌≤◌, ◌%◌, List, [], ◌∷◌, ◌++◌, length, Option, Some, None, refl, sym, subst, ◌∙◌, append_assoc, append-nil, arith}
use Rattle.std.proofs.lemmas.List.FromFn.{length-map-range_with_len}
use Rattle.std.proofs.Math.Nat.{mod-lt}
use Rattle.std.specs.Prelude.{slice_index_or}
use Rattle.std.specs.List.{AllByRecursion}
use Rattle.roc_sequence.proofs.Holds.{all_at}
use Rattle.roc_base.specs.declared.node.Node.TheVariants.{Server, Coord}
use Rattle.roc_plan.specs.Groups.{Plan}
use Rattle.roc_epoch.specs.declared.next.Next.{Next}
use Rattle.roc_epoch.specs.Files.{IsNextOf}
use Rattle.roc_grown.specs.Coord.{first_grown_coord}
use Rattle.roc_growth.specs.declared.event.Event.{Event}
use Rattle.roc_growth.specs.declared.event.Event.TheVariants.{Submit, Deliver, Tick, Stop, Drain}
use Rattle.roc_growth.specs.declared.event.Seen.TheVariants as seen
use Rattle.roc_growth.specs.World.{GrownWorld, first_grown_world}
use Rattle.roc_growth.specs.Fits.{FitsGrown}
use Rattle.roc_growth.specs.Happens.{Outcome, undecided, Happens}
use Rattle.roc_growth.specs.Run.{Stepped, Transition, IsEventOf}
use Rattle.roc_replay.specs.declared.asked.BoundLine.{BoundLine}
use Rattle.roc_replay.specs.declared.asked.Wanted.{Wanted}
use Rattle.roc_replay.specs.declared.asked.Wanted.TheVariants as wanted
use Rattle.roc_replay.specs.BoundLine.{coordinators, last_program, FitsPlans, WantedFits, chosen, event_in, HasItsMessage, AsksForSent}
use Rattle.roc_replay.specs.Played.{IsPlayed, begun, goes_on, AsksOnlySent}
use Rattle.roc_replay.proofs.CoordsKept.{same_count}
use Rattle.roc_replay.proofs.Playing.{wanteds, front_played}

-- ---- what is played asks only for what was sent

module _ (plan : Plan) (next : Option Next) (only : (w : GrownWorld) (e : Event) (o : Outcome) → Happens plan next w e o → IsEventOf plan next w e) where
  -- what happened had its message
  had_message : (w : GrownWorld) (a : Wanted) (o : Outcome) → Transition plan next w (event_in w a) o → AsksForSent w a
  had_message w (wanted.Any place) o h = tt
  had_message w (wanted.Event (Submit coord proc args)) o h = tt
  had_message w (wanted.Event (Deliver message)) o h = (only w (Deliver message) o h).1
  had_message w (wanted.Event (Tick node)) o h = tt
  had_message w (wanted.Event (Drain coord)) o h = tt
  had_message w (wanted.Event (Stop shard during)) o h = (only w (Stop shard during) o h).1

  pub played_sends :
      ((lines others : List BoundLine) (steps same : List Stepped) (w v : GrownWorld) → wanteds lines ≡ wanteds others → IsPlayed plan next lines steps w → IsPlayed plan next others same v → (steps ≡ same) × (w ≡ v))
      → (lines : List BoundLine) (steps : List Stepped) (w : GrownWorld) → IsPlayed plan next lines steps w → AsksOnlySent plan next lines
  played_sends one_run lines steps w played = record { each = sent }
    where
      sent : (before : List BoundLine) (line : BoundLine) (behind : List BoundLine) (some : List Stepped) (v : GrownWorld) → lines ≡ before ++ line ∷ behind → IsPlayed plan next before some v → AsksForSent v line.wanted
      sent before line behind some v is front_is =
          let front = front_played plan next lines steps w played before line behind is in
          let same : front.world ≡ v = (one_run before before front.steps some front.world v refl front.played front_is).1 in
          subst (λ (x : GrownWorld). AsksForSent x line.wanted) same (had_message front.world line.wanted front.outcome front.transition)

-- ---- and is played

-- there are as many shards in both files
last_shards : (plan : Plan) (next : Option Next) → IsNextOf plan next → (last_program plan next).shards ≡ plan.program.shards
last_shards plan None of = refl
last_shards plan (Some next) of = of.1.shards

-- what a line asks for may happen
pub may_happen : (plan : Plan) (next : Option Next) → IsNextOf plan next → (w : GrownWorld) → FitsGrown plan next w → length w.coords ≡ coordinators next → (e : Event) → FitsPlans plan next e
    → HasItsMessage w e → IsEventOf plan next w e
may_happen plan next of w fits many (Submit number proc args) fit sent = (let l = fit.0 in omega arith, (fit.1, fit.2))
may_happen plan next of w fits many (Deliver k) fit sent = (fit.0, sent)
may_happen plan next of w fits many (Tick (Server shard)) fit sent = let e = fits.shards in let same = last_shards plan next of in omega arith
may_happen plan next of w fits many (Tick (Coord number)) fit sent = omega arith
may_happen plan next of w fits many (Stop shard during) fit sent = (let e = fits.shards in let same = last_shards plan next of in let l = fit.0 in omega arith, sent)
may_happen plan next of w fits many (Drain number) fit sent = (fit.0, let l = fit.1 in omega arith)

chosen_sent : (plan : Plan) (next : Option Next) (w : GrownWorld) → FitsGrown plan next w → (place k : ℕ) (ks : List ℕ) → w.undelivered ≡ k ∷ ks
    → IsEventOf plan next w (Deliver (slice_index_or (k ∷ ks) (place % length (k ∷ ks)) 0))
chosen_sent plan next w fits place k ks is =
    all_at (λ n. (0 < n) × (n ≤ length w.sent)) (k ∷ ks) (place % length (k ∷ ks)) 0 (subst (AllByRecursion (λ n. (0 < n) × (n ≤ length w.sent))) is fits.undelivered) (mod-lt place (omega arith))

module _ (outcome : (plan : Plan) (next : Option Next) (w : GrownWorld) (e : Event) → IsNextOf plan next → FitsGrown plan next w → IsEventOf plan next w e → (o : Outcome) × Happens plan next w e o × FitsGrown plan next o.world)
    (kept : (plan : Plan) (next : Option Next) (w : GrownWorld) (e : Option Event) (o : Outcome) → IsNextOf plan next → FitsGrown plan next w → Transition plan next w e o → FitsGrown plan next o.world)
    (plan : Plan) (next : Option Next) (of : IsNextOf plan next) where
  comes_there : (w : GrownWorld) → FitsGrown plan next w → length w.coords ≡ coordinators next → (a : Wanted) → WantedFits plan next a → AsksForSent w a → (o : Outcome) × Transition plan next w (event_in w a) o
  comes_there w fits many (wanted.Event e) fit sent = let o = outcome plan next w e of fits (may_happen plan next of w fits many e fit sent) in (o.0, o.1)
  comes_there w fits many (wanted.Any place) fit sent = go w.undelivered refl
    where
      go : (ks : List ℕ) → w.undelivered ≡ ks → (o : Outcome) × Transition plan next w (chosen place ks) o
      go [] is = (undecided seen.Done w, refl)
      go (k ∷ ks) is =
          let o = outcome plan next w (Deliver (slice_index_or (k ∷ ks) (place % length (k ∷ ks)) 0)) of fits (chosen_sent plan next w fits place k ks is) in (o.0, o.1)

  module _ (lines : List BoundLine) (fit : AllByRecursion (λ (line : BoundLine). WantedFits plan next line.wanted) lines) (sends : AsksOnlySent plan next lines) where
    abbrev ArePlayed : Type 0
    ArePlayed = (steps : List Stepped) × (w : GrownWorld) × IsPlayed plan next lines steps w

    grown : (rest before : List BoundLine) → lines ≡ before ++ rest → AllByRecursion (λ (line : BoundLine). WantedFits plan next line.wanted) rest
        → (steps : List Stepped) (w : GrownWorld) → IsPlayed plan next before steps w → FitsGrown plan next w → length w.coords ≡ coordinators next → ArePlayed
    grown [] before is fit steps w played fits many = (steps, w, subst (λ (ls : List BoundLine). IsPlayed plan next ls steps w) (sym (append-nil before) ∙ sym is) played)
    grown (line ∷ rest) before is fit steps w played fits many =
        let o = comes_there w fits many line.wanted fit.0 (sends.each before line rest steps w is played) in
        grown rest (before ++ line ∷ []) (is ∙ sym (append_assoc before (line ∷ []) rest)) fit.1 (steps ++ (record { event = event_in w line.wanted; outcome = o.0 }) ∷ []) o.0.world
        (goes_on line o.0 played o.1) (kept plan next w (event_in w line.wanted) o.0 of fits o.1) (same_count plan next w (event_in w line.wanted) o.0 o.1 ∙ many)

    pub played_there : FitsGrown plan next (first_grown_world plan (coordinators next)) → ArePlayed
    played_there fits = grown lines [] refl fit [] (first_grown_world plan (coordinators next)) begun fits (length-map-range_with_len first_grown_coord 0 (coordinators next))
