use Rattle.std.proofs.Common.{◌≡◌, ℕ, Ok, Result}
use Rattle.roc_judge.specs.declared.folded.Folded.{Folded}
use Rattle.roc_law_audit.proofs.Together.{log_folds, server_has_log, folds_of_run}
use Rattle.roc_law_audit.proofs.laws.logs_tell_their_run.Goals as goal

pub returns-clause-folded : goal.returns-clause-folded
returns-clause-folded c plan coords steps w run logs are log h = let f = log_folds c.spelled_is_read.ensures plan coords run logs are log h in (f.0, f.1)

pub returns-clause-whole : goal.returns-clause-whole
returns-clause-whole c plan coords steps w run logs are shard within = server_has_log c.spelled_is_read.ensures plan coords run logs are shard within

pub returns-clause-told : goal.returns-clause-told
returns-clause-told c plan coords steps w run logs are folds of =
    folds_of_run c.spelled_is_read.ensures plan coords run logs are (λ log a b x y. ok (c.folds_are_one.ensures plan log (Ok a) (Ok b) x y)) folds of
  where
    ok : {a b : Folded} → (let r : Result Folded ℕ = Ok a in let q : Result Folded ℕ = Ok b in r ≡ q) → a ≡ b
    ok e = cc
