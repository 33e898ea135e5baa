-- The host of an entry
use Rattle.std.proofs.Common.{◌≡◌, ℕ, List, Option, Some, None, IfSome, codes, Bor, option_copied, option_and_then, sym, ◌∙◌, ap, subst}
use Rattle.std.proofs.lemmas.Option.{same_Some}
use Rattle.std.specs.Net.Grammar.{IsDotted}
use Rattle.toml.specs.Data.{Members, get_member, as_str}
use Rattle.roc_cluster.specs.Entries.{HasHost}

-- the text of the host is this one
text_is : (table : Members) (read : Option (Bor (List ℕ))) (text : Bor (List ℕ)) → option_copied read ≡ option_and_then as_str (get_member (codes "host") table) → read ≡ Some text → option_and_then as_str (get_member (codes "host") table) ≡ Some text.now
text_is table read text at is = sym at ∙ ap option_copied is

pub host_some : (table : Members) (read : Option (Bor (List ℕ))) (text : Bor (List ℕ)) (result : Option (List ℕ)) → option_copied read ≡ option_and_then as_str (get_member (codes "host") table) → read ≡ Some text → IfSome result (IsDotted text.now) → IfSome result (HasHost table)
host_some table read text None at is h = tt
host_some table read text (Some bytes) at is h = (text.now, text_is table read text at is, h)

pub host_none : (table : Members) (read : Option (Bor (List ℕ))) (text : Bor (List ℕ)) → option_copied read ≡ option_and_then as_str (get_member (codes "host") table) → read ≡ Some text → ((bytes : List ℕ) → ¬ IsDotted text.now bytes) → (bytes : List ℕ) → ¬ HasHost table bytes
host_none table read text at is none bytes has =
    let same : has.0 ≡ text.now = same_Some _ _ (sym has.1 ∙ text_is table read text at is) in
    none bytes (subst (λ (t : List ℕ). IsDotted t bytes) same has.2)
