-- Lines that are played are a run, one run, and so are their fronts
use Rattle.std.proofs.Common.{◌≡◌, List, [], ◌∷◌, ◌++◌, map, Option, Some, None, refl, sym, ap, subst, ◌∙◌, append_assoc}
use Rattle.std.proofs.lemmas.List.{map-append}
use Rattle.roc_sequence.proofs.Appended.{empty_more, same_more}
use Rattle.roc_plan.specs.Groups.{Plan}
use Rattle.roc_epoch.specs.declared.next.Next.{Next}
use Rattle.roc_growth.specs.World.{GrownWorld}
use Rattle.roc_growth.specs.Happens.{Outcome}
use Rattle.roc_growth.specs.Run as run
use Rattle.roc_growth.specs.Run.{Stepped, Transition, AreCoordsOf, IsGrownRun}
use Rattle.roc_growth.specs.declared.event.Event.{Event}
use Rattle.roc_replay.specs.declared.asked.BoundLine.{BoundLine}
use Rattle.roc_replay.specs.declared.asked.Wanted.{Wanted}
use Rattle.roc_replay.specs.BoundLine.{coordinators, event_in}
use Rattle.roc_replay.specs.Played.{IsPlayed, begun, goes_on}

-- ---- a run

-- there are as many coordinators as the next file is for
pub are_coords : (next : Option Next) → AreCoordsOf next (coordinators next)
are_coords None = tt
are_coords (Some next) = refl

pub played_run : (plan : Plan) (next : Option Next) (lines : List BoundLine) (steps : List Stepped) (w : GrownWorld) → IsPlayed plan next lines steps w → IsGrownRun plan next (coordinators next) steps w
played_run plan next lines steps w begun = run.at_first (are_coords next)
played_run plan next lines steps w (goes_on {lines = before} {steps = some} {w = old} line o p h) = run.steps_on (event_in old line.wanted) o (played_run plan next before some old p) h

-- ---- one run

abbrev pub wanteds : List BoundLine → List Wanted
wanteds lines = map (λ l. l.wanted) lines

wanteds-more : (lines : List BoundLine) (line : BoundLine) → wanteds (lines ++ line ∷ []) ≡ wanteds lines ++ line.wanted ∷ []
wanteds-more lines line = map-append (λ (l : BoundLine). l.wanted) lines (line ∷ [])

module _ (plan : Plan) (next : Option Next) (one : (w : GrownWorld) (e : Option Event) (o other : Outcome) → Transition plan next w e o → Transition plan next w e other → o ≡ other) where
  pub one_played : {lines others : List BoundLine} {steps same : List Stepped} {w v : GrownWorld} → IsPlayed plan next lines steps w → IsPlayed plan next others same v → wanteds lines ≡ wanteds others → (steps ≡ same) × (w ≡ v)
  one_played begun begun e = (refl, refl)
  one_played begun (goes_on {lines = ls} l o p h) e = absurd (empty_more (wanteds ls) l.wanted (e ∙ wanteds-more ls l))
  one_played (goes_on {lines = ls} l o p h) begun e = absurd (empty_more (wanteds ls) l.wanted (sym e ∙ wanteds-more ls l))
  one_played (goes_on {lines = ls} {steps = xs} {w = w} l o p h) (goes_on {lines = ms} {steps = ys} {w = v} m q r k) e =
      let ends = same_more (wanteds ls) (wanteds ms) l.wanted m.wanted (sym (wanteds-more ls l) ∙ e ∙ wanteds-more ms m) in
      go (one_played p r ends.0) ends.1
    where
      go : (xs ≡ ys) × (w ≡ v) → l.wanted ≡ m.wanted
          → (xs ++ (record { event = event_in w l.wanted; outcome = o }) ∷ [] ≡ ys ++ (record { event = event_in v m.wanted; outcome = q }) ∷ []) × (o.world ≡ q.world)
      go front same =
          let asked : event_in w l.wanted ≡ event_in v m.wanted = λ i. event_in (front.1 i) (same i) in
          let P : GrownWorld → Option Event → Type 0 = λ u x. Transition plan next u x o in
          let moved : Transition plan next v (event_in v m.wanted) o = subst (P v) asked (subst (λ (u : GrownWorld). P u (event_in w l.wanted)) front.1 h) in
          let out : o ≡ q = one v (event_in v m.wanted) o q moved k in
          let more : List Stepped → Option Event → Outcome → List Stepped = λ zs x y. zs ++ (record { event = x; outcome = y }) ∷ [] in
          ((λ i. more (front.0 i) (asked i) (out i)), ap (λ (y : Outcome). y.world) out)

-- ---- a front

-- some first lines were played, and the event that the next one asks for happened
pub record IsFrontPlayed (plan : Plan) (next : Option Next) (before : List BoundLine) (line : BoundLine) : Type 0 where
  pub steps : List Stepped
  pub world : GrownWorld
  pub outcome : Outcome
  pub played : IsPlayed plan next before steps world
  pub transition : Transition plan next world (event_in world line.wanted) outcome

-- the last of some, and what is before it
pub record Split {A : Type 0} (x : A) (xs : List A) : Type 0 where
  pub front : List A
  pub last : A
  pub is : x ∷ xs ≡ front ++ last ∷ []

split : {A : Type 0} (x : A) (xs : List A) → Split x xs
split x [] = record { front = []; last = x; is = refl }
split {A} x (y ∷ ys) = let r = split y ys in record { front = x ∷ r.front; last = r.last; is = ap (λ (zs : List A). x ∷ zs) r.is }

pub front_played : (plan : Plan) (next : Option Next) (lines : List BoundLine) (steps : List Stepped) (w : GrownWorld) → IsPlayed plan next lines steps w
    → (before : List BoundLine) (line : BoundLine) (behind : List BoundLine) → lines ≡ before ++ line ∷ behind → IsFrontPlayed plan next before line
front_played plan next lines steps w begun before line behind e = let r = split line behind in absurd (empty_more (before ++ r.front) r.last (e ∙ ap (λ (ls : List BoundLine). before ++ ls) r.is ∙ sym (append_assoc before r.front (r.last ∷ []))))
front_played plan next lines steps w (goes_on {lines = ls} {steps = some} {w = old} l o p h) before line [] e =
    let ends : (ls ≡ before) × (l ≡ line) = same_more ls before l line e in
    record {
      steps = some;
      world = old;
      outcome = o;
      played = subst (λ (x : List BoundLine). IsPlayed plan next x some old) ends.0 p;
      transition = subst (λ (x : BoundLine). Transition plan next old (event_in old x.wanted) o) ends.1 h;
    }
front_played plan next lines steps w (goes_on {lines = ls} {steps = some} {w = old} l o p h) before line (x ∷ xs) e =
    let r = split x xs in
    let ends : (ls ≡ before ++ line ∷ r.front) × (l ≡ r.last) = same_more ls (before ++ line ∷ r.front) l r.last (e ∙ ap (λ (zs : List BoundLine). before ++ line ∷ zs) r.is ∙ sym (append_assoc before (line ∷ r.front) (r.last ∷ []))) in
    front_played plan next ls some old p before line r.front ends.0
