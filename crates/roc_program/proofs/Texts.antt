-- Parts of programs with the same fields are one
use Rattle.std.proofs.Common.{◌≡◌, ◌∙◌, ℕ, ℤ, List, ap}
use Rattle.roc_program.specs.Program.{Init}

pub same_init : (a b : Init) → a.table ≡ b.table → a.place ≡ b.place → a.id ≡ b.id → a.column ≡ b.column → a.value ≡ b.value → a ≡ b
same_init a b e f g h i =
    let with_table : ℕ → Init = λ v. record { table = v; place = a.place; id = a.id; column = a.column; value = a.value } in
    let with_place : ℤ → Init = λ v. record { table = b.table; place = v; id = a.id; column = a.column; value = a.value } in
    let with_id : List ℤ → Init = λ v. record { table = b.table; place = b.place; id = v; column = a.column; value = a.value } in
    let with_column : ℕ → Init = λ v. record { table = b.table; place = b.place; id = b.id; column = v; value = a.value } in
    let with_value : ℤ → Init = λ v. record { table = b.table; place = b.place; id = b.id; column = b.column; value = v } in
    ap with_table e ∙ (ap with_place f ∙ (ap with_id g ∙ (ap with_column h ∙ ap with_value i)))
