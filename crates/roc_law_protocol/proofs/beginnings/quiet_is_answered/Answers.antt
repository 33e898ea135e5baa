use Rattle.std.proofs.Common.{inl, refl, map}
use Rattle.roc_base.specs.declared.id.TxnId.{TxnId}
use Rattle.roc_law_log.specs.Scheme.{Scheme, IsSoundScheme}
use Rattle.roc_law_protocol.specs.Inner.Given.{LogLaws}
use Rattle.roc_law_protocol.proofs.Heard.{AreDelivered, CommitsAreOut}
use Rattle.roc_law_protocol.proofs.Liveness.{commits_are_out, heard_is_answered}
use Rattle.roc_law_protocol.proofs.Quieted.{starts_heard, quiet_is_decided, commits_heard}
use Rattle.roc_law_protocol.proofs.beginnings.quiet_is_answered.Goals as goal

pub returns-clause-answered : goal.returns-clause-answered
returns-clause-answered c plan b coords steps w begins schemes run t proc args submitted quiet =
    let laws : (S : Scheme) → IsSoundScheme S → LogLaws S b.store = λ S sound. c.machine_laws.ensures.log S b.store sound in
    let stores = c.machine_laws.ensures.stores in
    let heard = starts_heard plan b begins schemes laws stores 16 begins.marks coords steps w run in
    let out : (u : TxnId) → AreDelivered (map (λ s. s.event) steps) w u → CommitsAreOut w u = λ u delivered. commits_are_out plan b begins schemes laws stores coords steps w run u (heard u) delivered in
    heard_is_answered plan b begins schemes laws stores coords steps w run t proc args submitted (heard t)
    (commits_heard plan b begins schemes laws stores 16 begins.marks coords steps w run out t quiet (proc, args, submitted))
    (record { each = λ k m at is. quiet.each k m t at is (inl refl) })

pub returns-clause-decided : goal.returns-clause-decided
returns-clause-decided c plan b coords steps w begins schemes run t quiet =
    let laws : (S : Scheme) → IsSoundScheme S → LogLaws S b.store = λ S sound. c.machine_laws.ensures.log S b.store sound in
    let stores = c.machine_laws.ensures.stores in
    let heard = starts_heard plan b begins schemes laws stores 16 begins.marks coords steps w run in
    quiet_is_decided plan b begins schemes laws stores 16 begins.marks coords steps w run (λ u delivered. commits_are_out plan b begins schemes laws stores coords steps w run u (heard u) delivered) t quiet
