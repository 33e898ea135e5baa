-- What it takes for a procedure to be a transaction: it is there, and no view
use Rattle.std.proofs.Common.{◌≡◌, ℕ, ◌<◌, Bool, List, Some, true, false, not, ◌&&◌, nat_lt, length, refl, sym, arith}
use Rattle.std.proofs.lemmas.Bool.{and_parts, and_from, false≢true}
use Rattle.std.specs.Str.{bytes_eq}
use Rattle.std.proofs.lemmas.Bool.Decides.{nat_tests}
use Rattle.std.proofs.lemmas.List.Quantifiers.{position-Some}
use Rattle.roc_program.specs.Program.{Workload}
use Rattle.roc_program.specs.LookUps.{no_procedure, procedure_name, is_view_in, is_transaction_in, transaction_named}

not_so : (b : Bool) → not b ≡ true → b ≡ false
not_so false e = refl
not_so true e = absurd (false≢true e)

so : (b : Bool) → b ≡ false → not b ≡ true
so false e = refl
so true e = absurd (false≢true (sym e))

pub record IsTransaction (program : Workload) (proc : ℕ) : Type 0 where
  pub there : proc < length program.procedures
  pub writes : is_view_in program proc ≡ false

pub transaction_parts : (program : Workload) (proc : ℕ) → is_transaction_in program proc ≡ true → IsTransaction program proc
transaction_parts program proc h =
    let parts = and_parts (nat_lt proc (length program.procedures)) (not (is_view_in program proc)) h in
    let below = parts.0 in
    record { there = grind (arith, nat_tests); writes = not_so (is_view_in program proc) parts.1 }

pub transaction_from : (program : Workload) (proc : ℕ) → IsTransaction program proc → is_transaction_in program proc ≡ true
transaction_from program proc is =
    let there = is.there in
    and_from (nat_lt proc (length program.procedures)) (not (is_view_in program proc)) (grind (arith, nat_tests)) (so (is_view_in program proc) is.writes)

pub named_transaction : (program : Workload) (name : List ℕ) (proc : ℕ) → transaction_named program name ≡ Some proc → is_transaction_in program proc ≡ true
named_transaction program name proc found =
    let place = position-Some (λ procedure. bytes_eq procedure.name name && not procedure.is_view) program.procedures proc no_procedure found in
    let parts = and_parts (bytes_eq (procedure_name program proc) name) (not (is_view_in program proc)) place.1 in
    transaction_from program proc (record { there = place.0; writes = not_so (is_view_in program proc) parts.1 })
