-- The value of an expression, as docs/LANGUAGE.md says under "Values"
use Rattle.std.specs.Prelude.{ℕ, ◌-◌, ℤ, pos, ◌+ℤ◌, ◌-ℤ◌, ◌*ℤ◌, List, ◌++◌, length, map, replicate, if◌then◌else◌, slice_index_or, int_lt}
use Rattle.std.specs.Int.{w64, int_wrap, int_min, int_max}
use Rattle.std.specs.Ordering.{int_eq}
use Rattle.roc_program.specs.Program.{Expression, Number, Value, Sum, Difference, Product, Minimum, Maximum, Less, Pick, Access, Procedure}

-- the values of a procedure's names, by number
abbrev pub Environment : Type 0
Environment = List ℤ

-- before anything is read: the arguments, and 0 for each other name of the procedure
abbrev pub with_arguments : Procedure → List ℤ → Environment
with_arguments procedure arguments = arguments ++ replicate (procedure.names - length arguments) (pos 0)

-- the value of a name; a number past the end has 0
abbrev pub value_of_name : Environment → ℕ → ℤ
value_of_name env number = slice_index_or env number (pos 0)

-- 1 where the first is below the second, and else 0
abbrev pub less : ℤ → ℤ → ℤ
less a b = if int_lt a b then pos 1 else pos 0

-- the first where the chooser is not 0, and else the second
abbrev pub pick : ℤ → ℤ → ℤ → ℤ
pick chooser first second = if int_eq chooser (pos 0) then second else first

-- the value of an expression where the names have these values; sums, differences and products wrap modulo 2^64 in two's complement
abbrev pub value : Expression → Environment → ℤ
value (Number n) env = n
value (Value number) env = value_of_name env number
value (Sum a b) env = int_wrap w64 (value a env +ℤ value b env)
value (Difference a b) env = int_wrap w64 (value a env -ℤ value b env)
value (Product a b) env = int_wrap w64 (value a env *ℤ value b env)
value (Minimum a b) env = int_min (value a env) (value b env)
value (Maximum a b) env = int_max (value a env) (value b env)
value (Less a b) env = less (value a env) (value b env)
value (Pick c a b) env = pick (value c env) (value a env) (value b env)

-- the integers of an access's id
abbrev pub key_of : Access → Environment → List ℤ
key_of access env = map (λ e. value e env) access.id
