-- The table is the list, which passes the test.
use Rattle.classes.specs.XidStart.{xid_starts}
use Rattle.classes.specs.Classes.{xid_start}
use Rattle.classes.proofs.RangeLaws.{starts_ordered}
use Rattle.classes.proofs.characters.xid_start.Goals as goal

pub in_ranges-requires : goal.in_ranges-requires
unfolding xid_starts
in_ranges-requires c = starts_ordered

pub returns-else-c-le705 : goal.returns-else-c-le705
unfolding xid_start xid_starts
returns-else-c-le705 c = c.in_ranges.ensures
