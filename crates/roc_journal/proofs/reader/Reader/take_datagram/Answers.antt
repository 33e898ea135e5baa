use Rattle.std.proofs.Common.{◌≡◌, List, ℕ, ◌+◌, ◌≤◌, length, take, drop, ap, ◌∙◌, arith}
use Rattle.std.specs.Int.{w32, to_be_bytes}
use Rattle.std.proofs.lemmas.List.{take_at}
use Rattle.roc_journal.proofs.Nexts.{may_want, open_size, open_further}
use Rattle.roc_journal.proofs.reader.Reader.take_datagram.Goals as goal

pub returns-in_default-clause-read : goal.returns-in_default-clause-read
returns-in_default-clause-read g c = λ tells name file records behind open_at told spelled.
    may_want _ records c.args.self.now behind open_at _ told c.requires.few (omega (arith, c.requires.within, c.requires.len tells name file))

pub returns-clause-read : goal.returns-clause-read
returns-clause-read g c = λ tells name file records behind open_at told spelled.
    let read = c.in-Ok-read_at.ensures.read tells name file in
    let size : length c.read_at.new.into ≡ c.in-Ok.datagram.len = omega (arith, c.read_at.ensures.same_length, c.deref_mut.ensures.len) in
    let whole : c.deref.result.now ≡ c.read_at.new.into = c.deref.ensures.value ∙ take_at c.read_at.new.into _ c.in-Ok.datagram.len size in
    let n_is : length c.deref.result.now ≡ c.args.n = omega (arith, ap length whole, c.read_at.ensures.same_length, ap length c.deref_mut.ensures.value, c.in-Ok.ensures) in
    let sizes : length c.deref_mut.result.now ≡ length c.deref.result.now = omega (arith, ap length whole, c.read_at.ensures.same_length) in
    let long : 4 ≤ length behind = omega (arith, c.requires.within, c.requires.len (c.read_at.ensures.told tells) name file, open_size _ records c.args.self.now behind open_at) in
    c.judge.ensures.read _ records behind open_at (c.requires.len (c.read_at.ensures.told tells) name file) (n_is ∙ told) (ap (to_be_bytes w32) n_is ∙ spelled)
    (whole ∙ read ∙ ap (λ k. take k (drop (c.args.self.now.gate + 5) (g.D.Disk.content c.args.disk.now name))) sizes
    ∙ ap (λ (l : List ℕ). take (length c.deref.result.now) l) (open_further _ records c.args.self.now behind open_at long))
