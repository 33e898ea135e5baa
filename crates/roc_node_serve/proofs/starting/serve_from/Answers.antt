use Rattle.std.proofs.Common.{◌∙◌, false, Bor, List, map, ℕ, refl}
use Rattle.std.specs.Prelude.{option_map}
use Rattle.roc_book.specs.Call.{book_call, book_view}
use Rattle.roc_io.specs.Link.{sending}
use Rattle.roc_node.proofs.Moving.{Moves-none}
use Rattle.roc_node.specs.Setting.{setting_of}
use Rattle.roc_node_serve.specs.Inner.ServerTurn.{node_of}
use Rattle.roc_node_serve.specs.declared.ends.ServeEnd.TheVariants as end
use Rattle.roc_node_serve.specs.Pieces.{silent}
use Rattle.roc_node_serve.proofs.Logs.{begun_ill, begun_with, kept_so, named_as, not_begun}
use Rattle.roc_node_serve.proofs.Served.{served_logged, serves_unlogged, serves_wanting}
use Rattle.roc_node_serve.proofs.starting.serve_from.Goals as goal

pub returns-in-Err-clause-serves : goal.returns-in-Err-clause-serves
returns-in-Err-clause-serves g c = λ own at messages logged is.
    serves_wanting _ (λ now name image tells left. g.met.D.Disk.only_now now name image tells left) _ _ _ _ _ _ _ _ _ _ (λ image left. left)
    (record { bound = refl; moves = Moves-none _ _ refl refl refl refl; silent = refl }) (not_begun (option_map (λ (n : Bor (List ℕ)). n.now) c.args.log) _ _ _ _ refl)

pub returns-in-NoMemory-clause-serves : goal.returns-in-NoMemory-clause-serves
returns-in-NoMemory-clause-serves g c = λ own at messages logged is.
    serves_wanting _ (λ now name image tells left. g.met.D.Disk.only_now now name image tells left) _ _ _ _ _ _ _ _ _ _ (λ image left. left)
    (record { bound = refl; moves = Moves-none _ _ refl refl refl refl; silent = refl })
    (not_begun (option_map (λ (n : Bor (List ℕ)). n.now) c.args.log) _ _ _ _ c.in-NoMemory.ensures.begins)

pub returns-in-Failed-clause-serves : goal.returns-in-Failed-clause-serves
returns-in-Failed-clause-serves g c = λ own at messages logged is.
    serves_unlogged _ (λ now name image tells left. g.met.D.Disk.only_now now name image tells left) _ _ _ _ _ _ _ _ _ _ (λ image left. left)
    (record { bound = refl; moves = Moves-none _ _ refl refl refl refl; silent = refl })
    (begun_ill (option_map (λ (n : Bor (List ℕ)). n.now) c.args.log) c.args.setting.logs _ (setting_of c.args.setting) c.args.shard _ _ (c.requires.named ∙ named_as c.args.log) is
    c.in-Failed.ensures.begins)

pub returns-clause-serves : goal.returns-clause-serves
returns-clause-serves g c = λ own at messages logged is.
    let log = option_map (λ (n : Bor (List ℕ)). n.now) c.args.log in
    let named = c.requires.named ∙ named_as c.args.log in
    let S = setting_of c.args.setting in
    let first = node_of c.args.server_node.now messages (map sending c.args.sends.now) logged false in
    served_logged _ _ _ _ _ _ _ _ _ _ _ _ _ _
    (kept_so c.args.setting.logs S c.args.shard first (book_view g.B.Book c.args.book.now) (book_view g.B.Book c.begin_log.new.book) (book_view g.B.Book c.serve_begun.new.book) log named
    (begun_with log c.args.setting.logs (book_call g.B.Book c.args.book.now c.begin_log.new.book) S c.args.shard first c.args.lines.now named is c.in-Ready.ensures.begins))
    (c.serve_begun.ensures.serves own at messages logged)

pub returns-in-Err-clause-pieces : goal.returns-in-Err-clause-pieces
returns-in-Err-clause-pieces g c = silent end.NoMemory refl refl

pub returns-in-NoMemory-clause-pieces : goal.returns-in-NoMemory-clause-pieces
returns-in-NoMemory-clause-pieces g c = silent end.NoMemory refl refl

pub returns-in-Failed-clause-pieces : goal.returns-in-Failed-clause-pieces
returns-in-Failed-clause-pieces g c = silent end.BookFault refl refl
