use Rattle.roc_law_world.specs.World.{first_beginning}
use Rattle.roc_epoch.specs.Files.{last_plan}
use Rattle.roc_two_files.specs.Left.{left_behind}
use Rattle.roc_growth.proofs.Halves.{last_grows}
use Rattle.roc_growth.proofs.both.both_runs.Goals as goal
use Rattle.roc_growth.proofs.Phases.{last_accepted}

pub returns : goal.returns
returns c plan next coords steps w accepted of run =
    let e = c.grown_runs_are_two.ensures plan next coords steps w accepted of run in
    let last = last_accepted plan next accepted of in
    let grows = last_grows plan next of in
    record {
      epochs = e;
      fits = c.worlds_fit.ensures.runs plan (first_beginning plan) coords e.first_steps e.w accepted.well_formed.some_shard e.first;
      fits_again = c.worlds_fit.ensures.runs (last_plan plan next) (left_behind plan (first_beginning plan) e.w) coords e.second_steps e.v last.well_formed.some_shard e.second;
      begins = c.first_worlds_begin.ensures plan;
      accepted = last;
      grows = grows;
      begins_again = λ drained. c.drained_worlds_begin.ensures plan (last_plan plan next) (first_beginning plan) coords e.first_steps e.w accepted (c.first_worlds_begin.ensures plan) e.first drained grows.shards;
    }
