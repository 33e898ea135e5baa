use Rattle.std.proofs.Common.{◌≡◌, ◌++◌, ◌-◌, ◌*◌}
use Rattle.std.specs.List.{flat_map}
use Rattle.std.specs.String.{string_bytes}
use Rattle.roc_generate.specs.Draws.{state_after}
use Rattle.roc_generate.specs.Drawn.{drawn_calls}
use Rattle.roc_generate.specs.ScheduleText.{act_line}
use Rattle.roc_generate.proofs.schedule.push_calls.Given as goal

-- what is left, from here, is everything from the start
abbrev pub invariant-loop-number : goal.invariant-loop-number
invariant-loop-number l =
    record {
      text : string_bytes l.text ++ flat_map act_line (drawn_calls l.shards l.number (l.txns - l.number) l.draws.state) ≡ string_bytes l.fn.text ++ flat_map act_line (drawn_calls l.shards 0 l.txns l.fn.draws.state);
      state : state_after (8 * (l.txns - l.number)) l.draws.state ≡ state_after (8 * l.txns) l.fn.draws.state;
    }
