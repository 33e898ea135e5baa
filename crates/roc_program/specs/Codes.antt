-- How a program is stored as a value that contracts compare: an expression as the steps that a stack machine builds it by, and each record as the tuple of its fields
use Rattle.std.specs.Prelude.{◌≡◌, ℕ, zero, suc, ℤ, pos, Bool, List, [], ◌∷◌, ◌⊎◌, refl}
use Rattle.std.proofs.Common.{◌∙◌, ap, inl, inr}
use Rattle.std.specs.Coded.{Coded, code_by, coded×, coded⊎, coded_ℕ, coded_ℤ, coded_bool, coded_list}
use Rattle.roc_program.specs.Program.{Expression, Number, Value, Sum, Difference, Product, Minimum, Maximum, Less, Pick, Access, Statement, Get, Set, Out, Piece, Procedure, Table, Init, Workload}

-- a step: which one, and its number or name
abbrev Step : Type 0
Step = ℕ × (ℕ × ℤ)

abbrev operator : ℕ → Step
operator tag = (tag, (0, pos 0))

-- the steps that push an expression, before further steps
abbrev steps : Expression → List Step → List Step
steps (Number n) rest = (0, (0, n)) ∷ rest
steps (Value number) rest = (1, (number, pos 0)) ∷ rest
steps (Sum a b) rest = steps a (steps b (operator 2 ∷ rest))
steps (Difference a b) rest = steps a (steps b (operator 3 ∷ rest))
steps (Product a b) rest = steps a (steps b (operator 4 ∷ rest))
steps (Minimum a b) rest = steps a (steps b (operator 5 ∷ rest))
steps (Maximum a b) rest = steps a (steps b (operator 6 ∷ rest))
steps (Less a b) rest = steps a (steps b (operator 7 ∷ rest))
steps (Pick c a b) rest = steps c (steps a (steps b (operator 8 ∷ rest)))

abbrev with_two : (Expression → Expression → Expression) → List Expression → List Expression
with_two f [] = []
with_two f (b ∷ []) = []
with_two f (b ∷ a ∷ stack) = f a b ∷ stack

abbrev with_three : List Expression → List Expression
with_three [] = []
with_three (b ∷ []) = []
with_three (b ∷ a ∷ []) = []
with_three (b ∷ a ∷ c ∷ stack) = Pick c a b ∷ stack

abbrev act : ℕ → ℕ → ℤ → List Expression → List Expression
act zero name n stack = Number n ∷ stack
act (suc zero) name n stack = Value name ∷ stack
act (suc (suc zero)) name n stack = with_two Sum stack
act (suc (suc (suc zero))) name n stack = with_two Difference stack
act (suc (suc (suc (suc zero)))) name n stack = with_two Product stack
act (suc (suc (suc (suc (suc zero))))) name n stack = with_two Minimum stack
act (suc (suc (suc (suc (suc (suc zero)))))) name n stack = with_two Maximum stack
act (suc (suc (suc (suc (suc (suc (suc zero))))))) name n stack = with_two Less stack
act (suc (suc (suc (suc (suc (suc (suc (suc more)))))))) name n stack = with_three stack

abbrev built : List Step → List Expression → List Expression
built [] stack = stack
built (step ∷ rest) stack = built rest (act step.0 step.1.0 step.1.1 stack)

built-steps : (e : Expression) (rest : List Step) (stack : List Expression) → built (steps e rest) stack ≡ built rest (e ∷ stack)
built-steps (Number n) rest stack = refl
built-steps (Value number) rest stack = refl
built-steps (Sum a b) rest stack = built-steps a (steps b (operator 2 ∷ rest)) stack ∙ built-steps b (operator 2 ∷ rest) (a ∷ stack)
built-steps (Difference a b) rest stack = built-steps a (steps b (operator 3 ∷ rest)) stack ∙ built-steps b (operator 3 ∷ rest) (a ∷ stack)
built-steps (Product a b) rest stack = built-steps a (steps b (operator 4 ∷ rest)) stack ∙ built-steps b (operator 4 ∷ rest) (a ∷ stack)
built-steps (Minimum a b) rest stack = built-steps a (steps b (operator 5 ∷ rest)) stack ∙ built-steps b (operator 5 ∷ rest) (a ∷ stack)
built-steps (Maximum a b) rest stack = built-steps a (steps b (operator 6 ∷ rest)) stack ∙ built-steps b (operator 6 ∷ rest) (a ∷ stack)
built-steps (Less a b) rest stack = built-steps a (steps b (operator 7 ∷ rest)) stack ∙ built-steps b (operator 7 ∷ rest) (a ∷ stack)
built-steps (Pick c a b) rest stack =
    built-steps c (steps a (steps b (operator 8 ∷ rest))) stack
    ∙ built-steps a (steps b (operator 8 ∷ rest)) (c ∷ stack)
    ∙ built-steps b (operator 8 ∷ rest) (a ∷ c ∷ stack)

abbrev top : List Expression → Expression
top [] = Number (pos 0)
top (e ∷ stack) = e

abbrev expression_of : List Step → Expression
expression_of all = top (built all [])

pub expression_of-steps : (e : Expression) → expression_of (steps e []) ≡ e
expression_of-steps e = ap top (built-steps e [] [])

abbrev expression_code : Coded Expression
expression_code =
    code_by (List Step) (coded_list (coded× coded_ℕ (coded× coded_ℕ coded_ℤ))) (λ e. steps e []) expression_of expression_of-steps

abbrev access_code : Coded Access
access_code =
    code_by (ℕ × (List Expression × ℕ)) (coded× coded_ℕ (coded× (coded_list expression_code) coded_ℕ)) (λ a. (a.table, (a.id, a.column)))
    (λ p. record { table = p.0; id = p.1.0; column = p.1.1 })
    (λ _. refl)

abbrev Cases : Type 0
Cases = (ℕ × Access) ⊎ ((Access × Expression) ⊎ Expression)

abbrev cases : Statement → Cases
cases (Get number from) = inl (number, from)
cases (Set to value) = inr (inl (to, value))
cases (Out value) = inr (inr value)

abbrev statement_of : Cases → Statement
statement_of (inl p) = Get p.0 p.1
statement_of (inr (inl p)) = Set p.0 p.1
statement_of (inr (inr e)) = Out e

pub statement_of-cases : (s : Statement) → statement_of (cases s) ≡ s
statement_of-cases (Get number from) = refl
statement_of-cases (Set to value) = refl
statement_of-cases (Out value) = refl

abbrev statement_code : Coded Statement
statement_code =
    code_by Cases (coded⊎ (coded× coded_ℕ access_code) (coded⊎ (coded× access_code expression_code) expression_code)) cases
    statement_of
    statement_of-cases

abbrev Letters : Type 0
Letters = List ℕ

abbrev letters_code : Coded Letters
letters_code = coded_list coded_ℕ

abbrev piece_code : Coded Piece
piece_code =
    code_by ((Letters × Bool) × (Expression × List Statement))
    (coded× (coded× letters_code coded_bool) (coded× expression_code (coded_list statement_code)))
    (λ p. ((p.name, p.is_now), (p.place, p.body)))
    (λ p. record { name = p.0.0; is_now = p.0.1; place = p.1.0; body = p.1.1 })
    (λ _. refl)

abbrev procedure_code : Coded Procedure
procedure_code =
    code_by ((Letters × (Bool × ℕ)) × (ℕ × (List Letters × List Piece)))
    (coded× (coded× letters_code (coded× coded_bool coded_ℕ)) (coded× coded_ℕ (coded× (coded_list letters_code) (coded_list piece_code))))
    (λ p. ((p.name, (p.is_view, p.arguments)), (p.names, (p.labels, p.pieces))))
    (λ p. record { name = p.0.0; is_view = p.0.1.0; arguments = p.0.1.1; names = p.1.0; labels = p.1.1.0; pieces = p.1.1.1 })
    (λ _. refl)

abbrev table_code : Coded Table
table_code =
    code_by (Letters × (ℕ × List Letters)) (coded× letters_code (coded× coded_ℕ (coded_list letters_code))) (λ t. (t.name, (t.arity, t.columns)))
    (λ p. record { name = p.0; arity = p.1.0; columns = p.1.1 })
    (λ _. refl)

abbrev init_code : Coded Init
init_code =
    code_by ((ℕ × ℤ) × (List ℤ × (ℕ × ℤ))) (coded× (coded× coded_ℕ coded_ℤ) (coded× (coded_list coded_ℤ) (coded× coded_ℕ coded_ℤ)))
    (λ i. ((i.table, i.place), (i.id, (i.column, i.value))))
    (λ p. record { table = p.0.0; place = p.0.1; id = p.1.0; column = p.1.1.0; value = p.1.1.1 })
    (λ _. refl)

abbrev pub workload_code : Coded Workload
workload_code =
    code_by ((ℕ × List Table) × (List Init × List Procedure))
    (coded× (coded× coded_ℕ (coded_list table_code)) (coded× (coded_list init_code) (coded_list procedure_code)))
    (λ w. ((w.shards, w.tables), (w.inits, w.procedures)))
    (λ p. record { shards = p.0.0; tables = p.0.1; inits = p.1.0; procedures = p.1.1 })
    (λ _. refl)
