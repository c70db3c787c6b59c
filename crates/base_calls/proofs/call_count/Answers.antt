-- `base_calls::call_count` meets its contract.
-- Assumes nothing.
use borrow.Author.Rules.{rules}
use Rattle.base_calls.proofs.CallCountLaws.{call_adds}
use Rattle.base_calls.proofs.call_count.Goals as goal

pub returns : goal.returns
returns c = search (call_adds, rules)
