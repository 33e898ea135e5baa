use Rattle.roc_law_plans.proofs.Sound.{sound}
use Rattle.roc_law_plans.proofs.laws.schemes_are_sound.Goals as goal

pub returns : goal.returns
returns c = λ plan orders asked.
    sound
    (record {
      same = c.runs_follow_from_cells.ensures.same;
      others = c.runs_follow_from_cells.ensures.others;
      static = c.conflicts_are_static.ensures;
      at_place = c.cells_are_at_the_place.ensures;
      follow = c.cells_follow_from_what_is_given.ensures;
      one_class = c.groups_meet_their_own_class.ensures.one_class;
      one_contended = c.groups_meet_their_own_class.ensures.one_contended;
    })
    plan orders asked
