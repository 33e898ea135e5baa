-- What the lines of a schedule of a program keep to, and that a text has one and is not to blame then
use Rattle.std.proofs.Common.{◌≡◌, ◌⊎◌, inl, inr, ℕ, ◌<◌, ℤ, Bool, true, false, ◌==◌, if◌then◌else◌, List, [], ◌∷◌, ◌++◌, length, take, drop, get_or, suc, Option, Some, None, Result, Ok, Err}
use Rattle.std.proofs.Common.{refl, sym, ap, subst, ◌∙◌}
use Rattle.std.specs.List.{AllByRecursion}
use Rattle.std.specs.Prelude.{IfSome}
use Rattle.std.specs.Option.{option_and_then}
use Rattle.std.proofs.lemmas.Bool.{eqb-true}
use Rattle.std.specs.Str.{bytes_eq}
use Rattle.std.proofs.lemmas.List.Quantifiers.{position-Some}
use Rattle.std.proofs.lemmas.Option.{same_Some, none-some, option_and_then_some}
use Rattle.roc_sequence.proofs.Fronts.{parts_at}
use Rattle.roc_base.specs.declared.node.Node.TheVariants.{Server, Coord}
use Rattle.roc_program.specs.Program.{Workload}
use Rattle.roc_plan.specs.Groups.{Plan}
use Rattle.roc_epoch.specs.declared.next.Next.{Next}
use Rattle.roc_program.specs.LookUps.{no_procedure, procedure_named}
use Rattle.roc_growth.specs.declared.event.Event.TheVariants as event
use Rattle.roc_growth.specs.Happens.{IsNext}
use Rattle.roc_sched.specs.declared.fault.TextFault.{TextFault}
use Rattle.roc_sched.specs.declared.fault.TextFault.TheVariants.{At, NoMemory}
use Rattle.roc_sched.specs.declared.fault.What.{What}
use Rattle.roc_sched.specs.declared.fault.What.TheVariants as what
use Rattle.roc_sched.specs.declared.line.Act.{Act}
use Rattle.roc_sched.specs.declared.line.Act.TheVariants as act
use Rattle.roc_sched.specs.declared.line.Line.{Line}
use Rattle.roc_sched.specs.Each.{◌>>=◌, each}
use Rattle.roc_sched.specs.declared.forms.Forms.{Forms}
use Rattle.roc_sched.specs.Schedule.{IsSchedule, IsScheduleFault, item_of}
use Rattle.roc_sched.specs.Fits.{IsActFor, IsDuring, IsDrained}
use Rattle.roc_replay.specs.declared.asked.BoundLine.{BoundLine}
use Rattle.roc_replay.specs.declared.asked.Wanted.{Wanted}
use Rattle.roc_replay.specs.declared.asked.Wanted.TheVariants as wanted
use Rattle.roc_replay.specs.BoundLine.{coords_of, played_forms, coordinators, last_program, arguments_of, stop_during, IsStopOf, submission_of, wanted_by, numbered, asked_by, IsScheduleOf}
use Rattle.roc_replay.specs.BoundLine.{IsUnfit, WantedFits}
use Rattle.roc_replay.specs.Inner.Reading.{GivesAtLine, DoFit, IsUnfitBy}

-- ---- what each line asks for

-- what follows for each member from what it was made of
pub each_made : {A B : Type 0} (f : A → Option B) (P : A → Type 0) (Q : B → Type 0) → ((x : A) (y : B) → P x → f x ≡ Some y → Q y)
    → (xs : List A) (ys : List B) → AllByRecursion P xs → each f xs ≡ Some ys → AllByRecursion Q ys
each_made f P Q keeps [] ys all e = subst (AllByRecursion Q) (same_Some [] ys e) tt
each_made f P Q keeps (x ∷ xs) ys all e =
    option_and_then_some (λ y. each f xs >>= λ zs. Some (y ∷ zs)) (f x) ys e
    (λ y given others.
    option_and_then_some (λ zs. Some (y ∷ zs)) (each f xs) ys others
    (λ zs rest is. subst (AllByRecursion Q) (same_Some (y ∷ zs) ys is) (keeps x y all.0 given, each_made f P Q keeps xs zs all.1 rest)))

-- one that gives nothing leaves none
none_behind : {A B : Type 0} (o : Option A) (f : A → Option B) → ((a : A) → f a ≡ None) → option_and_then f o ≡ None
none_behind (Some a) f h = h a
none_behind None f h = refl

each_none : {A B : Type 0} (f : A → Option B) (before : List A) (x : A) (behind : List A) → f x ≡ None → each f (before ++ x ∷ behind) ≡ None
each_none {A} {B} f [] x behind h = ap (λ (o : Option B). o >>= λ y. each f behind >>= λ ys. Some (y ∷ ys)) h
each_none {A} {B} f (y ∷ ys) x behind h =
    none_behind (f y) (λ z. each f (ys ++ x ∷ behind) >>= λ zs. Some (z ∷ zs))
    (λ z. ap (λ (o : Option (List B)). o >>= λ zs. Some (z ∷ zs)) (each_none f ys x behind h))

-- the line that does not fit, behind those that do
pub first_unfit : (program : Workload) (lines : List Line) (i : ℕ) (line : Line) (fault : TextFault) → i < length lines → line ≡ get_or lines i line → DoFit program (take i lines)
    → GivesAtLine {X = BoundLine} line.number (Err fault) (asked_by program line) → IsUnfitBy program lines fault
first_unfit program lines i line NoMemory within is fit h = tt
first_unfit program lines i line (At number what) within is fit h = record {
  before = take i lines;
  line = line;
  behind = drop (suc i) lines;
  parts = sym (parts_at lines i line within is);
  fit = fit;
  number_is = sym h.0;
  is = h.1;
}

-- where a coordinator may be drained there is a next file
drain_fits : (next : Option Next) (coord : ℕ) → IsDrained (coords_of next) coord → IsNext next × (coord < coordinators next)
drain_fits None coord h = absurd h
drain_fits (Some next) coord h = (tt, h)

module _ (plan : Plan) (next : Option Next) where
  abbrev program : Workload
  program = last_program plan next

  submission_fits : (coord : ℕ) (args : List ℤ) (name : List ℕ) (o : Option ℕ) (r : Result Wanted What) → coord < coordinators next → procedure_named program name ≡ o
      → submission_of program coord args o ≡ r → (w : Wanted) → r ≡ Ok w → WantedFits plan next w
  submission_fits coord args name None r there found e w is = absurd (let both : Err what.Procedure ≡ Ok w = e ∙ is in cc)
  submission_fits coord args name (Some proc) r there found e w is = go (length args == arguments_of program proc) refl (e ∙ is)
    where
      go : (b : Bool) → length args == arguments_of program proc ≡ b → (if b then Ok (wanted.Event (event.Submit coord proc args)) else Err what.Arguments) ≡ Ok w → WantedFits plan next w
      go true count same =
          let one : wanted.Event (event.Submit coord proc args) ≡ w = cc in
          subst (WantedFits plan next) one (there, (position-Some (λ procedure. bytes_eq procedure.name name) program.procedures proc no_procedure found).0, eqb-true (length args) (arguments_of program proc) count)
      go false count same = absurd (cc)

  stop_fits : (during : Option (ℕ × Option ℕ)) → IfSome during IsDuring → IsStopOf (stop_during during)
  stop_fits None fits = tt
  stop_fits (Some (message, many)) fits = fits.0

  act_fits : (a : Act) (w : Wanted) → IsActFor (played_forms next) program.shards a → wanted_by program a ≡ Ok w → WantedFits plan next w
  act_fits (act.Submit coord name args) w fits h = submission_fits coord args name (procedure_named program name) _ fits.0 refl h w refl
  act_fits (act.Deliver message) w fits h = let one : wanted.Event (event.Deliver message) ≡ w = cc in subst (WantedFits plan next) one fits
  act_fits (act.Any place) w fits h = let one : wanted.Any place ≡ w = cc in subst (WantedFits plan next) one fits
  act_fits (act.Stop shard during) w fits h =
      let one : wanted.Event (event.Stop shard (stop_during during)) ≡ w = cc in subst (WantedFits plan next) one (fits.1, stop_fits during fits.2)
  act_fits (act.Drain coord) w fits h = let one : wanted.Event (event.Drain coord) ≡ w = cc in subst (WantedFits plan next) one (drain_fits next coord fits)
  act_fits (act.Tick (Server shard)) w fits h = let one : wanted.Event (event.Tick (Server shard)) ≡ w = cc in subst (WantedFits plan next) one fits
  act_fits (act.Tick (Coord number)) w fits h = let one : wanted.Event (event.Tick (Coord number)) ≡ w = cc in subst (WantedFits plan next) one fits

  line_fits : (line : Line) (one : BoundLine) → IsActFor (played_forms next) program.shards line.act → item_of (asked_by program line) ≡ Some one → WantedFits plan next one.wanted
  line_fits line one fits h = go (wanted_by program line.act) refl h
    where
      go : (r : Result Wanted What) → wanted_by program line.act ≡ r → item_of (numbered line.number r) ≡ Some one → WantedFits plan next one.wanted
      go (Err fault) k h = absurd (none-some one h)
      go (Ok w) k h = let same : record { number = line.number; wanted = w } ≡ one = same_Some _ one h in subst (λ (x : BoundLine). WantedFits plan next x.wanted) same (act_fits line.act w fits k)

  pub asked_fit : (lines : List Line) (asked : List BoundLine) → AllByRecursion (λ line. IsActFor (played_forms next) program.shards line.act) lines → each (λ line. item_of (asked_by program line)) lines ≡ Some asked
      → AllByRecursion (λ one. WantedFits plan next one.wanted) asked
  asked_fit lines asked fits e = each_made (λ line. item_of (asked_by program line)) (λ line. IsActFor (played_forms next) program.shards line.act) (λ one. WantedFits plan next one.wanted) line_fits lines asked fits e

  -- ---- a text

  module _ (unique : (forms : Forms) (shards : ℕ) (text : List ℕ) (some others : List Line) → IsSchedule forms shards text some → IsSchedule forms shards text others → some ≡ others) where
    -- a text is a schedule of one list of what is asked
    pub one_schedule : (text : List ℕ) (some others : List BoundLine) → IsScheduleOf plan next text some → IsScheduleOf plan next text others → some ≡ others
    one_schedule text some others p q =
        same_Some some others (sym p.asks ∙ ap (λ (ls : List Line). each (λ line. item_of (asked_by program line)) ls) (unique (played_forms next) program.shards text p.lines q.lines p.schedule q.schedule) ∙ q.asks)

    -- and is not to blame then
    pub not_blamed : ((forms : Forms) (shards : ℕ) (text : List ℕ) (lines : List Line) (line : ℕ) (fault : What) → IsSchedule forms shards text lines → IsScheduleFault forms shards text line fault → ⊥)
        → (text : List ℕ) (asked : List BoundLine) (line : ℕ) (fault : What) → IsScheduleOf plan next text asked → IsScheduleFault (played_forms next) program.shards text line fault ⊎ IsUnfit plan next text line fault → ⊥
    not_blamed apart text asked line fault of (inl wrong) = apart (played_forms next) program.shards text of.lines line fault of.schedule wrong
    not_blamed apart text asked line fault of (inr u) =
        none-some asked
        (sym (each_none (λ line. item_of (asked_by program line)) u.before u.line u.behind (ap item_of u.is))
        ∙ ap (λ (ls : List Line). each (λ line. item_of (asked_by program line)) ls) (unique (played_forms next) program.shards text (u.before ++ u.line ∷ u.behind) of.lines u.schedule of.schedule)
        ∙ of.asks)
