-- `call_write::check_categories` meets its contract: the first category above 3 in either row, or none.
-- Assumes nothing.
use borrow.Author.Rules.{rules}
use Rattle.call_write.proofs.CheckLaws.{category_laws}
use Rattle.call_write.proofs.check_categories.Goals as goal

pub returns-then-i-categories : goal.returns-then-i-categories
returns-then-i-categories c = search (category_laws, rules)

pub returns-then-j-anchor : goal.returns-then-j-anchor
returns-then-j-anchor c = search (category_laws, rules)

pub returns : goal.returns
returns c = search (category_laws, rules)
