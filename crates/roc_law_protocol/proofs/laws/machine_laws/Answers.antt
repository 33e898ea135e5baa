use Rattle.roc_law_protocol.proofs.laws.machine_laws.Goals as goal

pub returns-clause-log : goal.returns-clause-log
returns-clause-log c S start sound =
    record {
      holds = λ log r. c.logs_keep_invariants.ensures.reached S start log sound r;
      grows = λ log later i s. c.logs_grow.ensures S start log later sound i s;
      one_class = λ log i q r k. c.conflicts_are_on_one_shard.ensures.class S start log sound i q r k;
      one_shard = λ log i q r k. c.conflicts_are_on_one_shard.ensures.shard S start log sound i q r k;
      elsewhere = c.stores_are_shared_out.ensures.elsewhere S sound;
      same = c.stores_are_shared_out.ensures.same S sound;
      cells = c.stores_are_shared_out.ensures.cells S sound;
      taken = λ log i s edge now members all. c.component_order_is_taken.ensures S start log i s edge now members all;
    }

pub returns-clause-serial : goal.returns-clause-serial
returns-clause-serial c S start sound =
    record {
      ancestors = λ log i. c.ancestors_come_first.ensures.order S start log i;
      mates = λ log i. c.shards_keep_order.ensures.mates S start log i;
      order = λ log r. c.lists_that_keep_follow.ensures.order S start log sound (c.logs_keep_invariants.ensures.reached S start log sound r);
      same = λ log r O keeps. c.lists_that_keep_follow.ensures.same S start log sound (c.logs_keep_invariants.ensures.reached S start log sound r) O keeps;
      stand = λ order. c.groups_stand_one_by_one.ensures S.behaviour order sound.lawful;
      last = λ log r x of_order ran.
          (let i = c.logs_keep_invariants.ensures.reached S start log sound r in
          c.last_values_are_serial.ensures S.behaviour start log.past.ran log.order sound.lawful (c.logs_follow.ensures.real S start log sound i) (c.logs_follow.ensures.follows S start log sound i) x
          (λ q h w. of_order q h)
          (λ q h l w. ran q h l));
    }

pub returns-clause-stores : goal.returns-clause-stores
returns-clause-stores c = record { zero = c.reads_after_writes.ensures.empty; same = c.reads_after_writes.ensures.same; other = c.reads_after_writes.ensures.other }
