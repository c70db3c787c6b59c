-- `write_phase::track_size` meets its contract: the sum of the parts' sizes, by whether all calls are phased.
-- Assumes nothing.
use borrow.Author.Rules.{rules}
use Rattle.write_phase.proofs.TrackLaws.{size_laws}
use Rattle.write_phase.proofs.track_size.Goals as goal

pub returns-then-phased-heterozygous : goal.returns-then-phased-heterozygous
returns-then-phased-heterozygous c = search (size_laws, rules)

pub returns : goal.returns
returns c = search (size_laws, rules)
