use Rattle.std.proofs.Common.{rules}
use Rattle.roc_server_reach.proofs.WordBits.{bit_put, room_put}
use Rattle.roc_server_reach.proofs.words.put_bit.Goals as goal

pub returns-clause-put : goal.returns-clause-put
returns-clause-put c = bit_put c.args.set.now c.args.at c.requires

pub returns-clause-room : goal.returns-clause-room
returns-clause-room c = λ lacks. room_put c.args.set.now c.args.at c.requires (search rules) lacks
