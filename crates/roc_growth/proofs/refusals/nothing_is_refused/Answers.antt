use Rattle.std.proofs.Common.{◌≡◌, ◌∙◌, ℕ, false, List, None, Option, length, sym, subst}
use Rattle.roc_sequence.specs.Lists.{Has}
use Rattle.roc_msg.specs.declared.msg.Envelope.{Envelope}
use Rattle.roc_plan.specs.Groups.{Plan}
use Rattle.roc_law_world.specs.World.{World, first_beginning}
use Rattle.roc_law_world.specs.Run as views
use Rattle.roc_law_world.proofs.SameNodes.{run_count}
use Rattle.roc_epoch.specs.declared.next.Next.{Next}
use Rattle.roc_epoch.specs.Files.{is_between, last_plan}
use Rattle.roc_two_files.specs.Left.{left_behind}
use Rattle.roc_two_files.specs.Sealed.{Sealed}
use Rattle.roc_growth.specs.World.{GrownWorld}
use Rattle.roc_growth.specs.Run.{Stepped, AreCoordsOf, IsGrownRun}
use Rattle.roc_growth.specs.Without.{plain_world}
use Rattle.roc_growth.specs.Inner.Both.{AreBoth}
use Rattle.roc_growth.proofs.Skips.{skips}
use Rattle.roc_growth.proofs.Taken.{counted_run, none_between, servers_take, coordinators_ignore}
use Rattle.roc_growth.proofs.refusals.nothing_is_refused.Goals as goal

-- there are as many coordinators as the next file is for
counted : (plan : Plan) (next : Option Next) (coords : ℕ) (steps : List Stepped) (w : GrownWorld) → IsGrownRun plan next coords steps w → AreBoth plan next coords steps w
    → AreCoordsOf next (length w.coords)
counted plan next coords steps w run x =
    let e = x.epochs in
    subst (AreCoordsOf next) (sym (run_count plan (first_beginning plan) coords e.first_steps e.w e.first) ∙ e.two.coords) (counted_run plan next coords steps w run)

-- where nothing comes next nothing is between the files
nothing_between : (plan : Plan) (next : Option Next) (coords : ℕ) (steps : List Stepped) (w : GrownWorld) → IsGrownRun plan next coords steps w
    → ((steps : List Stepped) (w : GrownWorld) → IsGrownRun plan None coords steps w → (others : List views.Stepped) × (v : World) × views.IsRun plan coords others v × (w ≡ plain_world v))
    → ((others : List views.Stepped) (v : World) → views.IsRun plan coords others v → (m : Envelope) → Has m v.sent → is_between m.msg ≡ false)
    → next ≡ None → (m : Sealed) → Has m w.sent → is_between m.message.msg ≡ false
nothing_between plan next coords steps w run plain none e =
    let r = plain steps w (subst (λ n. IsGrownRun plan n coords steps w) e run) in
    none_between w r.1 r.3 (none r.0 r.1 r.2)

pub returns-clause-servers : goal.returns-clause-servers
returns-clause-servers c plan next coords steps w accepted of run =
    let x = c.both_runs.ensures plan next coords steps w accepted of run in
    let e = x.epochs in
    servers_take plan next coords steps w e (counted plan next coords steps w run x)
    (nothing_between plan next coords steps w run (λ steps w run. let r = c.runs_without_growth.ensures plan coords steps w run in (r.0, r.1, r.2, r.4))
    (λ others v run. c.nothing_between_is_sent.ensures.messages plan (first_beginning plan) coords others v accepted x.begins run))
    (sym e.two.servers ∙ x.fits.shards) x.fits.some_server
    (c.nothing_is_refused.ensures.servers plan (first_beginning plan) coords e.first_steps e.w accepted x.begins e.first)
    (λ drained. c.nothing_is_refused.ensures.servers (last_plan plan next) (left_behind plan (first_beginning plan) e.w) coords e.second_steps e.v x.accepted (x.begins_again drained) e.second)

pub returns-clause-coordinators : goal.returns-clause-coordinators
returns-clause-coordinators c plan next coords steps w accepted of run =
    let x = c.both_runs.ensures plan next coords steps w accepted of run in
    let e = x.epochs in
    coordinators_ignore plan next coords steps w e (counted plan next coords steps w run x)
    (nothing_between plan next coords steps w run (λ steps w run. let r = c.runs_without_growth.ensures plan coords steps w run in (r.0, r.1, r.2, r.4))
    (λ others v run. c.nothing_between_is_sent.ensures.messages plan (first_beginning plan) coords others v accepted x.begins run))
    (sym e.two.servers ∙ x.fits.shards) x.fits.some_server
    (c.nothing_is_refused.ensures.servers plan (first_beginning plan) coords e.first_steps e.w accepted x.begins e.first)
    (λ drained. c.nothing_is_refused.ensures.servers (last_plan plan next) (left_behind plan (first_beginning plan) e.w) coords e.second_steps e.v x.accepted (x.begins_again drained) e.second)
    (c.nothing_is_refused.ensures.coordinators plan (first_beginning plan) coords e.first_steps e.w accepted x.begins e.first)
    (λ drained. c.nothing_is_refused.ensures.coordinators (last_plan plan next) (left_behind plan (first_beginning plan) e.w) coords e.second_steps e.v x.accepted (x.begins_again drained) e.second)

pub returns-clause-skipped : goal.returns-clause-skipped
returns-clause-skipped c plan next w k m switched o at stands h = skips plan next w k m switched o at stands h
