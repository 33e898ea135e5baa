use Rattle.std.proofs.Common.{◌≡◌, ◌++◌, ◌-◌}
use Rattle.std.specs.List.{flat_map}
use Rattle.std.specs.String.{string_bytes}
use Rattle.roc_generate.specs.Draws.{state_after}
use Rattle.roc_generate.specs.Drawn.{drawn_choices}
use Rattle.roc_generate.specs.ScheduleText.{act_line}
use Rattle.roc_generate.proofs.schedule.push_choices.Given as goal

-- what is left, from here, is everything from the start
abbrev pub invariant-loop : goal.invariant-loop
invariant-loop l =
    record {
      text : string_bytes l.text ++ flat_map act_line (drawn_choices (l.count - l.counter) l.draws.state) ≡ string_bytes l.fn.text ++ flat_map act_line (drawn_choices l.count l.fn.draws.state);
      state : state_after (l.count - l.counter) l.draws.state ≡ state_after l.count l.fn.draws.state;
    }
