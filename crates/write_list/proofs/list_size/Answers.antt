-- `write_list::list_size` meets its contract: the size is the sum of the parts' sizes.
-- Assumes nothing.
use borrow.Author.Rules.{rules}
use Rattle.write_list.proofs.ListLaws.{list_size_laws}
use Rattle.write_list.proofs.list_size.Goals as goal

pub returns-then-count-eq0 : goal.returns-then-count-eq0
returns-then-count-eq0 c = search (list_size_laws, rules)

pub groups-heads-requires : goal.groups-heads-requires
groups-heads-requires c = search (list_size_laws, rules)

pub varint_size-requires : goal.varint_size-requires
varint_size-requires c = search (list_size_laws, rules)

pub overflow_add-bytes : goal.overflow_add-bytes
overflow_add-bytes c = search (list_size_laws, rules)

pub overflow_add-bytes-2 : goal.overflow_add-bytes-2
overflow_add-bytes-2 c = search (list_size_laws, rules)

pub overflow_add-bytes-3 : goal.overflow_add-bytes-3
overflow_add-bytes-3 c = search (list_size_laws, rules)

pub overflow_add-bytes-4 : goal.overflow_add-bytes-4
overflow_add-bytes-4 c = search (list_size_laws, rules)

pub returns : goal.returns
returns c = search (list_size_laws, rules)
