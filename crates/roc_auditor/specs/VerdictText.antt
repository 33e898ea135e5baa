-- The text of a verdict: docs/FORMATS.md, "The program"
use Rattle.std.specs.Prelude.{ℕ, ℤ, List, [], ◌∷◌, ◌++◌, slice_index_or, codes}
use Rattle.std.specs.List.{flat_map}
use Rattle.std.specs.Fmt.{decimal, signed_decimal}
use Rattle.roc_base.specs.declared.id.TxnId.{TxnId}
use Rattle.roc_base.specs.TxnId.{txn_text}
use Rattle.roc_judge.specs.declared.judgement.Judgement.{Judgement}
use Rattle.roc_judge.specs.declared.judgement.Judgement.TheVariants.{Missing, Unsubmitted, Cycle, Reply, Yes}
use Rattle.roc_auditor.specs.declared.verdict.Verdict.{Verdict}
use Rattle.roc_auditor.specs.declared.verdict.Verdict.TheVariants.{Mismatch, Judged}

-- ids, a space before each
abbrev pub spaced_ids : List TxnId → List ℕ
spaced_ids ids = flat_map (λ id. 32 ∷ txn_text id) ids

-- values, a space before each
abbrev pub spaced_values : List ℤ → List ℕ
spaced_values values = flat_map (λ value. 32 ∷ signed_decimal value) values

-- `no missing C.S`, `no submitted C.S`, `no cycle C.S ..`, `no reply C.S LOGGED.. / RUN..`; or two lines, `order C.S ..` and `yes A answered`
abbrev pub judgement_text : Judgement → List ℕ
judgement_text (Missing id) = codes "no missing " ++ txn_text id ++ 10 ∷ []
judgement_text (Unsubmitted id) = codes "no submitted " ++ txn_text id ++ 10 ∷ []
judgement_text (Cycle ids) = codes "no cycle" ++ spaced_ids ids ++ 10 ∷ []
judgement_text (Reply id logged run) = codes "no reply " ++ txn_text id ++ spaced_values logged ++ codes " /" ++ spaced_values run ++ 10 ∷ []
judgement_text (Yes order answered) = codes "order" ++ spaced_ids order ++ 10 ∷ codes "yes " ++ decimal answered ++ codes " answered" ++ 10 ∷ []

-- `no mismatch FILE:LINE`
abbrev pub mismatch_text : (name : List ℕ) → (line : ℕ) → List ℕ
mismatch_text name line = codes "no mismatch " ++ name ++ codes ":" ++ decimal line ++ 10 ∷ []

-- the name of the log at this place
abbrev pub log_named : (names : List (List ℕ)) → (place : ℕ) → List ℕ
log_named names place = slice_index_or names place []

-- what is written of the first mismatch or of what was judged, where the logs have these names
abbrev pub verdict_text : (names : List (List ℕ)) → Verdict → List ℕ
verdict_text names (Mismatch place line) = mismatch_text (log_named names place) line
verdict_text names (Judged judgement) = judgement_text judgement
