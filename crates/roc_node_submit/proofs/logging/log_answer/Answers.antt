use Rattle.roc_node_submit.proofs.Logged.{answer_told}
use Rattle.roc_node_submit.proofs.logging.log_answer.Goals as goal

pub returns-in-Answered : goal.returns-in-Answered
returns-in-Answered c program = answer_told c.append_answer.result program _ _ _ _ _ c.in-Answered.is (c.append_answer.ensures.ok program)
