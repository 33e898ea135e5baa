-- The small plans are accepted
use Rattle.std.proofs.Common.{◌≡◌, ℕ, zero, suc, ◌<◌, true, false, refl, sym, ◌∙◌, arith, rules}
use Rattle.std.proofs.lemmas.Bool.{false≢true}
use Rattle.roc_program.specs.WellFormed.{IsColumn, IsProgram}
use Rattle.roc_program.specs.Pieces.{piece_of}
use Rattle.roc_program.specs.declared.piece_id.PieceId.{PieceId}
use Rattle.roc_merge_groups.specs.Groups.{piece_numbered, groups_in}
use Rattle.roc_merge_groups.specs.Accepted.{over_groups, is_immediate_group, IsAcceptedIn, group_feeds}
use Rattle.roc_plan.specs.Accepted.{is_piece_immediate, grouping_of, IsAccepted}
use Rattle.roc_law_plans.specs.SmallPlans.{smallest, observed}
use Rattle.roc_law_plans.proofs.Deferred.{none_immediate, no_group, no_cycle, one_group, accepted_alone}

-- ---- one procedure

smallest_formed : IsProgram smallest.program
smallest_formed =
    record {
      some_shard = omega arith;
      few_shards = omega arith;
      few_tables = omega arith;
      tables = tt;
      few_inits = omega arith;
      inits = tt;
      few_procedures = omega arith;
      procedures = (
        record {
          arguments = omega arith;
          names = refl;
          numbers = refl;
          labels = refl;
          some_piece = omega arith;
          few_pieces = omega arith;
          pieces = (record { statements = omega arith; place = (search rules); body = ((search rules), tt) }, tt);
          viewed = λ e. absurd (false≢true e);
        },
        tt,
      );
    }

smallest_waits : (id : PieceId) → (piece_of smallest.program id).is_now ≡ false
smallest_waits id = go id.proc id.piece
  where
    go : (proc piece : ℕ) → (piece_of smallest.program (piece_numbered proc piece)).is_now ≡ false
    go zero zero = refl
    go zero (suc piece) = refl
    go (suc proc) piece = refl

smallest_later : (id : PieceId) → is_piece_immediate smallest id ≡ false
smallest_later id = go id.proc
  where
    go : (proc : ℕ) → is_piece_immediate smallest (piece_numbered proc id.piece) ≡ false
    go zero = refl
    go (suc proc) = refl

smallest_alone : (g h : ℕ) → group_feeds smallest.program 0 one_group g h ≡ true → g ≡ h
smallest_alone zero zero e = refl
smallest_alone zero (suc h) e = absurd (false≢true e)
smallest_alone (suc g) h e = absurd (false≢true e)

pub smallest_accepted : IsAccepted smallest
smallest_accepted =
    record {
      well_formed = smallest_formed;
      grouping = record {
        procedures = refl;
        each = each;
        least = λ id. (λ h. absurd (false≢true (sym (smallest_later id) ∙ h)), λ i. absurd (none_immediate smallest.program smallest_waits id i));
        no_cycle = no_cycle (is_immediate_group (is_piece_immediate smallest) (grouping_of smallest)) (no_group (is_piece_immediate smallest) smallest_later (grouping_of smallest)) (over_groups smallest.program (grouping_of smallest));
      };
    }
  where
    each : (proc : ℕ) → proc < 1 → IsAcceptedIn smallest.program (is_piece_immediate smallest) proc (groups_in (grouping_of smallest) proc)
    each zero l = accepted_alone smallest.program (is_piece_immediate smallest) 0 refl smallest_alone
    each (suc proc) l = absurd (omega arith)

-- ---- one that sets a cell, and a view

observed_formed : IsProgram observed.program
observed_formed =
    record {
      some_shard = omega arith;
      few_shards = omega arith;
      few_tables = omega arith;
      tables = (record { some_integer = omega arith; arity = omega arith; columns = omega arith }, tt);
      few_inits = omega arith;
      inits = tt;
      few_procedures = omega arith;
      procedures = (
        record {
          arguments = omega arith;
          names = refl;
          numbers = refl;
          labels = refl;
          some_piece = omega arith;
          few_pieces = omega arith;
          pieces = (record { statements = omega arith; place = (search rules); body = (record { column = column; id = ((search rules), tt) }, (search rules), tt) }, tt);
          viewed = λ e. absurd (false≢true e);
        },
        (
          record {
            arguments = omega arith;
            names = refl;
            numbers = refl;
            labels = refl;
            some_piece = omega arith;
            few_pieces = omega arith;
            pieces = (record { statements = omega arith; place = (search rules); body = (record { column = column; id = ((search rules), tt) }, (refl, tt)) }, tt);
            viewed = λ e. (record { later = refl; body = (tt, (tt, tt)) }, tt);
          },
          tt,
        ),
      );
    }
  where
    column : IsColumn observed.program.tables 0 1 0
    column = record { has_table = omega arith; arity = refl; has_column = omega arith }

observed_waits : (id : PieceId) → (piece_of observed.program id).is_now ≡ false
observed_waits id = go id.proc id.piece
  where
    go : (proc piece : ℕ) → (piece_of observed.program (piece_numbered proc piece)).is_now ≡ false
    go zero zero = refl
    go zero (suc piece) = refl
    go (suc zero) zero = refl
    go (suc zero) (suc piece) = refl
    go (suc (suc proc)) piece = refl

observed_later : (id : PieceId) → is_piece_immediate observed id ≡ false
observed_later id = go id.proc
  where
    go : (proc : ℕ) → is_piece_immediate observed (piece_numbered proc id.piece) ≡ false
    go zero = refl
    go (suc zero) = refl
    go (suc (suc proc)) = refl

observed_alone : (g h : ℕ) → group_feeds observed.program 0 one_group g h ≡ true → g ≡ h
observed_alone zero zero e = refl
observed_alone zero (suc h) e = absurd (false≢true e)
observed_alone (suc g) h e = absurd (false≢true e)

view_alone : (g h : ℕ) → group_feeds observed.program 1 one_group g h ≡ true → g ≡ h
view_alone zero zero e = refl
view_alone zero (suc h) e = absurd (false≢true e)
view_alone (suc g) h e = absurd (false≢true e)

pub observed_accepted : IsAccepted observed
observed_accepted =
    record {
      well_formed = observed_formed;
      grouping = record {
        procedures = refl;
        each = each;
        least = λ id. (λ h. absurd (false≢true (sym (observed_later id) ∙ h)), λ i. absurd (none_immediate observed.program observed_waits id i));
        no_cycle = no_cycle (is_immediate_group (is_piece_immediate observed) (grouping_of observed)) (no_group (is_piece_immediate observed) observed_later (grouping_of observed)) (over_groups observed.program (grouping_of observed));
      };
    }
  where
    each : (proc : ℕ) → proc < 2 → IsAcceptedIn observed.program (is_piece_immediate observed) proc (groups_in (grouping_of observed) proc)
    each zero l = accepted_alone observed.program (is_piece_immediate observed) 0 refl observed_alone
    each (suc zero) l = accepted_alone observed.program (is_piece_immediate observed) 1 refl view_alone
    each (suc (suc proc)) l = absurd (omega arith)
