-- What a stream that gathers took, and what it wrote of that
use Rattle.std.specs.Prelude.{ℕ, List, Option}
use Rattle.std.specs.Io.KnownBytes.{append_known}
use Rattle.roc_io_real.specs.declared.gathered.Gathered.{Gathered}

-- the bytes that its writer has, where that tells them
abbrev pub written_by : {W : Type 0} → (W → Option (List ℕ)) → Gathered W → Option (List ℕ)
written_by contents stream = contents stream.writer

-- these, and behind them what was taken and is to be written
abbrev pub taken_by : {W : Type 0} → (W → Option (List ℕ)) → Gathered W → Option (List ℕ)
taken_by contents stream = append_known (contents stream.writer) stream.pending.items

-- how many calls have failed
abbrev pub failures_of : {W : Type 0} → Gathered W → ℕ
failures_of stream = stream.faults

-- how many bytes have room
abbrev pub room_of : {W : Type 0} → Gathered W → ℕ
room_of stream = stream.room
