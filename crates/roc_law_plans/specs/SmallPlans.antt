-- Small plans that are accepted
use Rattle.std.specs.Prelude.{pos, true, false, [], ◌∷◌}
use Rattle.roc_program.specs.Program.{Access, Number, Value, Get, Set, Out}
use Rattle.roc_plan.specs.Groups.{Plan}

-- one procedure, which takes no arguments, and whose reply is 1: one shard, and one group of one piece, which waits until its transaction is decided
abbrev pub smallest : Plan
smallest =
    record {
      program =
          record {
            shards = 1;
            tables = [];
            inits = [];
            procedures =
                record {
                  name = [];
                  is_view = false;
                  arguments = 0;
                  names = 0;
                  labels = [];
                  pieces = record { name = []; is_now = false; place = Number (pos 0); body = Out (Number (pos 1)) ∷ [] } ∷ [];
                } ∷ [];
          };
      groups = (record { pieces = 0 ∷ []; is_immediate = false } ∷ []) ∷ [];
    }

-- one column of one row
abbrev pub the_access : Access
the_access = record { table = 0; id = Number (pos 0) ∷ []; column = 0 }

-- one procedure that sets it to 1, and a view whose reply is what it holds
abbrev pub observed : Plan
observed =
    record {
      program =
          record {
            shards = 1;
            tables = record { name = []; arity = 1; columns = [] ∷ [] } ∷ [];
            inits = [];
            procedures =
                record {
                  name = [];
                  is_view = false;
                  arguments = 0;
                  names = 0;
                  labels = [];
                  pieces = record { name = []; is_now = false; place = Number (pos 0); body = Set the_access (Number (pos 1)) ∷ [] } ∷ [];
                }
                ∷ record {
                  name = [];
                  is_view = true;
                  arguments = 0;
                  names = 1;
                  labels = [] ∷ [];
                  pieces = record { name = []; is_now = false; place = Number (pos 0); body = Get 0 the_access ∷ Out (Value 0) ∷ [] } ∷ [];
                } ∷ [];
          };
      groups = (record { pieces = 0 ∷ []; is_immediate = false } ∷ []) ∷ (record { pieces = 0 ∷ []; is_immediate = false } ∷ []) ∷ [];
    }
