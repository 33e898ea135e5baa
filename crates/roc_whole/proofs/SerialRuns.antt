-- Serial runs of two lists
use Rattle.std.proofs.Common.{◌≡◌, List, [], ◌∷◌, ◌++◌, refl, ap}
use Rattle.roc_rows.specs.Store.{Store}
use Rattle.roc_program.specs.Program.{Workload}
use Rattle.roc_whole.specs.Serial.{Call, Answer, run_of, serial_store, serial_answers}

pub serial_store-append : (w : Workload) (store : Store) (xs ys : List Call) → serial_store w store (xs ++ ys) ≡ serial_store w (serial_store w store xs) ys
serial_store-append w store [] ys = refl
serial_store-append w store (x ∷ xs) ys = serial_store-append w (run_of w store x).store xs ys

pub serial_answers-append : (w : Workload) (store : Store) (xs ys : List Call) → serial_answers w store (xs ++ ys) ≡ serial_answers w store xs ++ serial_answers w (serial_store w store xs) ys
serial_answers-append w store [] ys = refl
serial_answers-append w store (x ∷ xs) ys =
    let first : Answer = record { id = x.id; reply = (run_of w store x).reply } in
    ap (λ rest. first ∷ rest) (serial_answers-append w (run_of w store x).store xs ys)
