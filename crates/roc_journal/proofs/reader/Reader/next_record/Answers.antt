use Rattle.std.proofs.Common.{List, ℕ, sym, ap, subst, take, ◌∙◌, arith}
use Rattle.std.specs.Int.{w32, from_be_bytes}
use Rattle.roc_journal.specs.Inner.Pieces.{HasOpenGate}
use Rattle.roc_journal.specs.Reading.{ReadsNext}
use Rattle.roc_journal.proofs.Nexts.{open_behind, ends_early, too_long, too_short}
use Rattle.roc_journal.proofs.Unwritten.{reads_on}
use Rattle.roc_journal.proofs.reader.Reader.next_record.Goals as goal

pub returns-then-self-lt5-clause-read : goal.returns-then-self-lt5-clause-read
returns-then-self-lt5-clause-read g c = λ tells name file records behind open_at.
    ends_early _ records c.args.self.now behind open_at (omega (arith, c.if-self-lt5.true, c.requires.within, c.requires.len tells name file))

pub returns-then-n-gt-MOST_DATAGRAM-clause-read : goal.returns-then-n-gt-MOST_DATAGRAM-clause-read
returns-then-n-gt-MOST_DATAGRAM-clause-read g c = λ tells name file records behind open_at.
    let number = c.in-Some.ensures.number tells name file in
    let told = number.0 ∙ ap (λ (l : List ℕ). from_be_bytes w32 (take 4 l)) (open_behind _ records c.args.self.now behind open_at) in
    too_long _ records c.args.self.now behind open_at c.in-Some.n told (omega (arith, c.if-n-gt-MOST_DATAGRAM.true))

pub returns-then-self-n-clause-read : goal.returns-then-self-n-clause-read
returns-then-self-n-clause-read g c = λ tells name file records behind open_at.
    let number = c.in-Some.ensures.number tells name file in
    let told = number.0 ∙ ap (λ (l : List ℕ). from_be_bytes w32 (take 4 l)) (open_behind _ records c.args.self.now behind open_at) in
    too_short _ records c.args.self.now behind open_at c.in-Some.n told
    (omega (arith, c.if-self-n.true, c.if-self-lt5.false, c.requires.within, c.requires.len (c.number_at.ensures.told tells) name file))

pub returns-else-self-n-clause-stays : goal.returns-else-self-n-clause-stays
returns-else-self-n-clause-stays g c = λ tells.
    reads_on g.D.Disk c.args.disk.now c.number_at.new.disk c.take_datagram.new.disk (c.number_at.ensures.stays (c.take_datagram.ensures.told tells)) (c.take_datagram.ensures.stays tells)

pub returns-else-self-n-clause-read : goal.returns-else-self-n-clause-read
returns-else-self-n-clause-read g c = λ tells name file records behind open_at.
    let mid = c.take_datagram.ensures.told tells in
    let number = c.in-Some.ensures.number mid name file in
    let there = open_behind _ records c.args.self.now behind open_at in
    let told = number.0 ∙ ap (λ (l : List ℕ). from_be_bytes w32 (take 4 l)) there in
    let spelled = number.1 ∙ ap (λ (l : List ℕ). take 4 l) there in
    let same = (c.number_at.ensures.stays mid).content name in
    let found = c.take_datagram.ensures.read tells name ((c.number_at.ensures.stays mid).file ∙ file) records behind
    (subst (λ b. HasOpenGate b records c.args.self.now behind) (sym same) open_at) told spelled in
    subst (λ b. ReadsNext b records c.args.self.now c.take_datagram.new.self c.take_datagram.result) same found
