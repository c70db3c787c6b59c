-- `write_parts::sample_at` meets its contract: by the base: the value is the row's, the base is the base row's.
-- Assumes nothing.
use borrow.Author.Rules.{rules}
use Rattle.write_parts.proofs.RowLaws.{sample_laws}
use Rattle.write_parts.proofs.sample_at.Goals as goal

pub returns-then-category-higher : goal.returns-then-category-higher
returns-then-category-higher c = search (sample_laws, rules)

pub returns-else-category-higher : goal.returns-else-category-higher
returns-else-category-higher c = search (sample_laws, rules)
