use Rattle.std.proofs.Common.{◌≡◌, ◌||◌, ◌*◌, ◌^◌, ◌%◌, ℕ, set, get_or, sym, subst, arith}
use Rattle.std.specs.Int.RustNames.{bit_or}
use Rattle.roc_check.specs.Inner.PieceSets.{holds, is_piece}
use Rattle.roc_check.proofs.PieceSets.{with_bit}
use Rattle.roc_check.proofs.piece_sets.with_piece.Goals as goal

pub returns : goal.returns
returns c = λ other.
    subst (λ (n : ℕ). holds (set c.args.set.now n (bit_or (get_or c.args.set.now n 0) (1 * 2 ^ c.args.id.piece % 65536))) other ≡ (holds c.args.set.now other || is_piece other c.args.id)) (sym c.from-place.ensures)
    (with_bit c.args.set.now c.args.id.proc c.args.id.piece (omega arith) c.requires.piece other)
