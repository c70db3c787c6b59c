-- `call_write::asked_pair` meets its contract: the code's row of the table, and none for a number past a byte.
-- Assumes nothing.
use mathlib.Core.Path.{◌∙◌}
use Rattle.call_write.proofs.AskedLaws.{code_past}
use Rattle.call_write.proofs.asked_pair.Goals as goal

pub returns-in_err-code : goal.returns-in_err-code
returns-in_err-code c = c.from_residual.ensures ∙ code_past c.args.code c.try_from.result c.try_from.ensures c.in_err-code.ensures.value
