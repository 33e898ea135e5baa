-- Where the messages of a file stand, as nodes send, and steps that go along with those of a world of one file
use Rattle.std.proofs.Common.{◌≡◌, ◌≢◌, ◌∙◌, ◌<◌, ℕ, zero, suc, true, List, [], ◌∷◌, ◌++◌, Option, Some, None, length, map, refl, sym, ap, subst, arith}
use Rattle.std.proofs.lemmas.List.{length-append, map-append}
use Rattle.std.proofs.lemmas.Option.{slice_get-map}
use Rattle.std.specs.Prelude.{slice_get, option_map}
use Rattle.std.specs.List.{filter}
use Rattle.roc_base.specs.declared.node.Shard.{Shard}
use Rattle.roc_msg.specs.declared.msg.Envelope.{Envelope}
use Rattle.roc_plan.specs.Groups.{Plan}
use Rattle.roc_law_protocol.specs.declared.event.Event.TheVariants as one
use Rattle.roc_law_protocol.specs.declared.event.Seen.TheVariants as seen_there
use Rattle.roc_law_protocol.specs.declared.event.Kept.{Kept}
use Rattle.roc_law_world.specs.Happens as views_happen
use Rattle.roc_law_world.specs.Run as views
use Rattle.roc_law_world.specs.World.{World, Beginning}
use Rattle.roc_law_world.proofs.Ranks.{rank_there, rank_append}
use Rattle.roc_epoch.specs.declared.file.File.{File}
use Rattle.roc_two_files.specs.Sealed.{Sealed, is_of, of_file, place_in_file}
use Rattle.roc_growth.specs.declared.event.Event.TheVariants.{Deliver}
use Rattle.roc_growth.specs.declared.event.Seen.TheVariants as seen
use Rattle.roc_growth.specs.Run.{Stepped}
use Rattle.roc_growth.specs.Epochs.{IsAlong, AreAlong, none_along, one_more_along}

-- ---- the messages of a file

-- a message of a file stands in its world
pub placed : (f : File) (sent : List Sealed) (u : World) → u.sent ≡ of_file f sent → (k : ℕ) (m : Sealed) → slice_get sent k ≡ Some m → is_of f m ≡ true
    → slice_get u.sent (place_in_file f sent k) ≡ Some m.message
placed f sent u same k m at is =
    ap (λ l. slice_get l (place_in_file f sent k)) same
    ∙ (slice_get-map (λ (m : Sealed). m.message) (filter (is_of f) sent) (place_in_file f sent k) ∙ ap (option_map (λ (m : Sealed). m.message)) (rank_there (is_of f) sent k m at is))

-- ---- steps that go along

-- nothing happens there
abbrev pub aside_step : World → views.Stepped
aside_step u = record { event = None; outcome = views_happen.undecided seen_there.Done u }

get_within : {A : Type 0} (xs ys : List A) (k : ℕ) → k < length xs → slice_get (xs ++ ys) k ≡ slice_get xs k
get_within [] ys k l = absurd (omega arith)
get_within (x ∷ xs) ys zero l = refl
get_within (x ∷ xs) ys (suc k) l = get_within xs ys k (omega arith)

module _ (f : File) (sent more : List Sealed) where
  pub one_along_more : (x : Stepped) (y : views.Stepped) → IsAlong f sent x y → IsAlong f (sent ++ more) x y
  one_along_more x y o =
      record {
        sent_before = λ k e. (let l = o.sent_before k e in let s = length-append sent more in omega (arith, l, s));
        comes = λ k m e at is taken.
            (let l = o.sent_before k e in
            let q = o.comes k m e (sym (get_within sent more k l) ∙ at) is taken in
            let same : place_in_file f (sent ++ more) k ≡ place_in_file f sent k = rank_append (is_of f) sent more k (omega (arith, l)) in
            (q.0 ∙ ap (λ n. Some (one.Deliver (suc n))) (sym same), q.1));
        stops = o.stops;
      }

  pub along_more : (steps : List Stepped) (others : List views.Stepped) → AreAlong f sent steps others → AreAlong f (sent ++ more) steps others
  along_more _ _ none_along = none_along
  along_more _ _ (one_more_along {steps = steps} {others = others} x y o one) = one_more_along x y (along_more steps others o) (one_along_more x y one)

-- a step that is none there, of no message of the file but a skipped one
pub aside_along : (f : File) (sent : List Sealed) (x : Stepped) (u : World) → ((k : ℕ) → x.event ≡ Some (Deliver (suc k)) → k < length sent)
    → ((k : ℕ) (m : Sealed) → x.event ≡ Some (Deliver (suc k)) → slice_get sent k ≡ Some m → is_of f m ≡ true → x.outcome.seen ≡ seen.Skipped) → IsAlong f sent x (aside_step u)
aside_along f sent x u before skipped =
    record { sent_before = before; comes = λ k m e at is taken. absurd (taken (skipped k m e at is)); stops = λ shard during e. absurd (nothing shard during e) }
  where
    nothing : (shard : Shard) (during : Option (ℕ × Kept)) → None ≢ Some (one.Stop shard during)
    nothing shard during e = cc

-- steps that are none there
abbrev pub none_of : World → List Stepped → List views.Stepped
none_of u steps = map (λ x. aside_step u) steps

-- where nothing was sent of a file, there is no message of it
pub nowhere : (f : File) (sent : List Sealed) → of_file f sent ≡ [] → (k : ℕ) (m : Sealed) → slice_get sent k ≡ Some m → is_of f m ≡ true → ⊥
nowhere f sent none k m at is =
    go (of_file f sent) none
    (slice_get-map (λ (m : Sealed). m.message) (filter (is_of f) sent) (place_in_file f sent k) ∙ ap (option_map (λ (m : Sealed). m.message)) (rank_there (is_of f) sent k m at is))
  where
    go : (l : List Envelope) → l ≡ [] → slice_get l (place_in_file f sent k) ≡ Some m.message → ⊥
    go [] e h = absurd (cc)
    go (y ∷ l) e h = absurd (cc)

-- and no step comes there
pub none_are_along : (f g : File) (sent : List Sealed) (u : World) → of_file f sent ≡ [] → (steps : List Stepped) (others : List views.Stepped) → AreAlong g sent steps others
    → AreAlong f sent steps (none_of u steps)
none_are_along f g sent u none _ _ none_along = none_along
none_are_along f g sent u none _ _ (one_more_along {steps = steps} {others = others} x y o one) =
    subst (AreAlong f sent (steps ++ x ∷ [])) (sym (map-append (λ (x : Stepped). aside_step u) steps (x ∷ [])))
    (one_more_along x (aside_step u) (none_are_along f g sent u none steps others o) (aside_along f sent x u one.sent_before (λ k m e at is. absurd (nowhere f sent none k m at is))))

-- nothing happens, as often as in these steps
pub none_run : (p : Plan) (b : Beginning) (coords : ℕ) (others : List views.Stepped) (u : World) → views.IsRunFrom p b coords others u → (f : File) (sent : List Sealed) (steps : List Stepped) (along : List views.Stepped)
    → AreAlong f sent steps along → others ≡ [] → views.IsRunFrom p b coords (none_of u steps) u
none_run p b coords others u r f sent _ _ none_along e = subst (λ l. views.IsRunFrom p b coords l u) e r
none_run p b coords others u r f sent _ _ (one_more_along {steps = steps} {others = along} x y o one) e =
    subst (λ l. views.IsRunFrom p b coords l u) (sym (map-append (λ (x : Stepped). aside_step u) steps (x ∷ [])))
    (views.steps_on None (views_happen.undecided seen_there.Done u) (none_run p b coords others u r f sent steps along o e) refl)
