-- What was taken of the messages of a file counts in the world of that file
use Rattle.std.proofs.Common.{◌≡◌, ◌≢◌, ◌∙◌, ◌⊎◌, inl, inr, ℕ, suc, ◌-◌, true, List, [], ◌∷◌, ◌++◌, Option, Some, map, refl, sym, ap, subst, append_assoc}
use Rattle.std.proofs.lemmas.List.{map-append}
use Rattle.std.proofs.lemmas.Option.{slice_get-map}
use Rattle.std.specs.Prelude.{slice_get, option_map}
use Rattle.std.specs.List.{filter}
use Rattle.roc_sequence.specs.Lists.{Has}
use Rattle.roc_sequence.proofs.Members.{has_left, has_right, has_more, same_there}
use Rattle.roc_epoch.specs.declared.file.File.{File}
use Rattle.roc_msg.specs.declared.msg.Envelope.{Envelope}
use Rattle.roc_law_protocol.specs.Quiet as theirs
use Rattle.roc_law_protocol.specs.declared.event.Event.{Event}
use Rattle.roc_law_protocol.specs.declared.event.Event.TheVariants.{Deliver}
use Rattle.roc_law_protocol.proofs.FirstTaken.{at_end}
use Rattle.roc_law_world.specs.Run as views
use Rattle.roc_law_world.proofs.Ranks.{rank_there}
use Rattle.roc_law_world.proofs.Runs.{less_of, stop_of}
use Rattle.roc_two_files.specs.Sealed.{Sealed, is_of, of_file, place_in_file}
use Rattle.roc_growth.specs.declared.event.Event.TheVariants as own
use Rattle.roc_growth.specs.declared.event.Seen.TheVariants as seen
use Rattle.roc_growth.specs.Run.{Stepped}
use Rattle.roc_growth.specs.Epochs.{IsAlong, AreAlong, none_along, one_more_along}
use Rattle.roc_growth.specs.Quiet.{StopsReceiver, IsTaken}

-- a message of a file stands at its place among them
pub file_there : (f : File) (sent : List Sealed) (k : ℕ) (m : Sealed) → slice_get sent k ≡ Some m → is_of f m ≡ true → slice_get (of_file f sent) (place_in_file f sent k) ≡ Some m.message
file_there f sent k m at is =
    slice_get-map (λ (m : Sealed). m.message) (filter (is_of f) sent) (place_in_file f sent k) ∙ ap (option_map (λ (m : Sealed). m.message)) (rank_there (is_of f) sent k m at is)

-- before any step none was taken
none_taken : (sent : List Sealed) (k : ℕ) → ¬ IsTaken [] sent k
none_taken sent k q = nothing q.front q.at
  where
    nothing : (front : List Stepped) → [] ≢ front ++ q.step ∷ q.behind
    nothing [] e = cc
    nothing (z ∷ front) e = cc

-- what is taken behind one more step is taken by it, or it was taken and its receiver did not stop
taken_step : (steps : List Stepped) (x : Stepped) (sent : List Sealed) (k : ℕ) → IsTaken (steps ++ x ∷ []) sent k
    → ((x.event ≡ Some (own.Deliver k)) × (x.outcome.seen ≢ seen.Skipped))
    ⊎ (IsTaken steps sent k × ((m : Sealed) → slice_get sent (k - 1) ≡ Some m → ¬ StopsReceiver x.event m.message.to))
taken_step steps x sent k q = elim (at_end steps q.front q.behind x q.step q.at) [
  | inl now ↦ inl (ap (λ (s : Stepped). s.event) now.1 ∙ q.delivers, λ e. q.taken (ap (λ (s : Stepped). s.outcome.seen) (sym now.1) ∙ e))
  | inr was ↦ inr (
    record {
      front = q.front;
      step = q.step;
      behind = was.0;
      at = was.1;
      delivers = q.delivers;
      taken = q.taken;
      since = λ y m h at. q.since y m (subst (Has y) (sym was.2) (has_left y was.0 (x ∷ []) h)) at;
    },
    λ m at. q.since x m (subst (Has x) (sym was.2) (has_right x was.0 (x ∷ []) (inl refl))) at,
  )
]

abbrev events_of : List views.Stepped → List (Option Event)
events_of steps = map (λ (s : views.Stepped). s.event) steps

module _ (f : File) (sent : List Sealed) (k : ℕ) (m : Sealed) (at : slice_get sent k ≡ Some m) (is : is_of f m ≡ true) where
  abbrev place : ℕ
  place = place_in_file f sent k

  the_message : (b : Envelope) → slice_get (of_file f sent) (suc place - 1) ≡ Some b → b ≡ m.message
  the_message b there = same_there (of_file f sent) place b m.message (subst (λ i. slice_get (of_file f sent) i ≡ Some b) (less_of place) there) (file_there f sent k m at is)

  counts_more : (others : List views.Stepped) (x : Stepped) (y : views.Stepped) → IsAlong f sent x y → theirs.Counts (events_of others) (of_file f sent) (suc place)
      → ((m : Sealed) → slice_get sent (suc k - 1) ≡ Some m → ¬ StopsReceiver x.event m.message.to) → theirs.Counts (events_of others ++ y.event ∷ []) (of_file f sent) (suc place)
  counts_more others x y along q unstopped =
      record {
        front = q.front;
        behind = q.behind ++ y.event ∷ [];
        at = ap (λ l. l ++ y.event ∷ []) q.at ∙ append_assoc q.front (Some (Deliver (suc place)) ∷ q.behind) (y.event ∷ []);
        since = λ g b has there stop.
            (let same = the_message b there in
            elim (has_more g y.event q.behind has) [
              | inl old ↦ q.since g b old there stop
              | inr last ↦
                  (let s = stop_of y.event b.to (subst (λ g. theirs.StopsReceiver g b.to) last stop) in
                  let here = along.stops s.0 s.1 s.2 in
                  unstopped m (subst (λ k. slice_get sent k ≡ Some m) (sym (less_of k)) at)
                  (subst (λ e. StopsReceiver e m.message.to) (sym here.1) (ap (λ (b : Envelope). b.to) (sym same) ∙ s.3)))
            ]);
      }

  pub counted : (steps : List Stepped) (others : List views.Stepped) → AreAlong f sent steps others → IsTaken steps sent (suc k) → theirs.Counts (events_of others) (of_file f sent) (suc place)
  counted steps others none_along q = absurd (none_taken sent (suc k) q)
  counted steps others (one_more_along {steps = front} {others = before} x y along one) q =
      subst (λ events. theirs.Counts events (of_file f sent) (suc place)) (sym (map-append (λ (s : views.Stepped). s.event) before (y ∷ [])))
      (elim (taken_step front x sent (suc k) q) [
        | inl now ↦ record { front = events_of before; behind = []; at = ap (λ e. events_of before ++ e ∷ []) (one.comes k m now.0 at is now.1).0; since = λ g b has. absurd has }
        | inr was ↦ counts_more before x y one (counted front before along was.0) was.1
      ])
