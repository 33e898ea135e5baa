-- Of two programs it is decided where their parts are one, by their codes
use Rattle.std.proofs.Common.{◌≡◌, ℕ, List, [], Result, Ok, Err, length, take, refl, ap, arith}
use Rattle.std.proofs.Math.Decide.{map_dec, ℕ_discrete}
use base.Stored.{Gv, gnil, gnum, gcons}
use Rattle.roc_program.specs.Program.{Workload, Table, Init, Procedure}
use Rattle.roc_program.specs.Codes.{workload_code}
use Rattle.roc_epoch.specs.Growth.{StandsInFront, IsGrowth}
use Rattle.roc_epoch.specs.declared.fault.GrowthFault.{GrowthFault}
use Rattle.roc_epoch.specs.declared.fault.GrowthFault.TheVariants as fault
use Rattle.roc_epoch.proofs.Fronts.{front_taken, taken_front}

abbrev number : Gv → ℕ
number gnil = 0
number (gnum n) = n
number (gcons a b) = 0

abbrev first : Gv → Gv
first gnil = gnil
first (gnum n) = gnil
first (gcons a b) = a

abbrev second : Gv → Gv
second gnil = gnil
second (gnum n) = gnil
second (gcons a b) = b

abbrev kind : Gv → ℕ
kind gnil = 0
kind (gnum n) = 1
kind (gcons a b) = 2

same_codes : (a b : Gv) → Dec (a ≡ b)
same_codes gnil gnil = yes refl
same_codes (gnum m) (gnum n) = map_dec (ap gnum) (ap number) (ℕ_discrete m n)
same_codes (gcons a b) (gcons c d) = go (same_codes a c) (same_codes b d)
  where
    go : Dec (a ≡ c) → Dec (b ≡ d) → Dec (gcons a b ≡ gcons c d)
    go (yes e) (yes f) = yes (λ i. gcons (e i) (f i))
    go (no f) g = no (λ same. f (ap first same))
    go (yes e) (no f) = no (λ same. f (ap second same))
same_codes gnil (gnum n) = no (λ same. let other : 0 ≡ 1 = ap kind same in omega (arith, other))
same_codes gnil (gcons c d) = no (λ same. let other : 0 ≡ 2 = ap kind same in omega (arith, other))
same_codes (gnum m) gnil = no (λ same. let other : 1 ≡ 0 = ap kind same in omega (arith, other))
same_codes (gnum m) (gcons c d) = no (λ same. let other : 1 ≡ 2 = ap kind same in omega (arith, other))
same_codes (gcons a b) gnil = no (λ same. let other : 2 ≡ 0 = ap kind same in omega (arith, other))
same_codes (gcons a b) (gnum n) = no (λ same. let other : 2 ≡ 1 = ap kind same in omega (arith, other))

same_programs : (a b : Workload) → Dec (a ≡ b)
same_programs a b = map_dec (workload_code.inj a b) (ap workload_code.code) (same_codes (workload_code.code a) (workload_code.code b))

of_tables : List Table → Workload
of_tables ts = record { shards = 0; tables = ts; inits = []; procedures = [] }

of_inits : List Init → Workload
of_inits is = record { shards = 0; tables = []; inits = is; procedures = [] }

of_procedures : List Procedure → Workload
of_procedures ps = record { shards = 0; tables = []; inits = []; procedures = ps }

same_tables : (a b : List Table) → Dec (a ≡ b)
unfolding of_tables
same_tables a b = map_dec (ap (λ (w : Workload). w.tables)) (ap of_tables) (same_programs (of_tables a) (of_tables b))

same_inits : (a b : List Init) → Dec (a ≡ b)
unfolding of_inits
same_inits a b = map_dec (ap (λ (w : Workload). w.inits)) (ap of_inits) (same_programs (of_inits a) (of_inits b))

same_procedures : (a b : List Procedure) → Dec (a ≡ b)
unfolding of_procedures
same_procedures a b = map_dec (ap (λ (w : Workload). w.procedures)) (ap of_procedures) (same_programs (of_procedures a) (of_procedures b))

front_decided : {A : Type 0} → ((xs ys : List A) → Dec (xs ≡ ys)) → (front whole : List A) → Dec (StandsInFront front whole)
front_decided same front whole = map_dec (taken_front front whole) (front_taken front whole) (same (take (length front) whole) front)

-- each part in turn
pub grown_or_not : (old new : Workload) → (answer : Result (Unit {0}) GrowthFault) × IsGrowth old new answer
grown_or_not old new =
    go (ℕ_discrete new.shards old.shards) (front_decided same_tables old.tables new.tables) (same_inits new.inits old.inits)
    (front_decided same_procedures old.procedures new.procedures)
  where
    go : Dec (new.shards ≡ old.shards) → Dec (StandsInFront old.tables new.tables) → Dec (new.inits ≡ old.inits) → Dec (StandsInFront old.procedures new.procedures)
        → (answer : Result (Unit {0}) GrowthFault) × IsGrowth old new answer
    go (no f) ts is ps = (Err fault.Shards, f)
    go (yes s) (no f) is ps = (Err fault.Table, (s, f))
    go (yes s) (yes t) (no f) ps = (Err fault.Init, (s, t, f))
    go (yes s) (yes t) (yes i) (no f) = (Err fault.Proc, (s, t, i, f))
    go (yes s) (yes t) (yes i) (yes p) = (Ok tt, record { shards = s; tables = t; inits = i; procedures = p })
