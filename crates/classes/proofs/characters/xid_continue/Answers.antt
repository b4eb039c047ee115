-- The table is the list, which passes the test.
use Rattle.classes.specs.XidContinue.{xid_continues}
use Rattle.classes.specs.Classes.{xid_continue}
use Rattle.classes.proofs.RangeLaws.{continues_ordered}
use Rattle.classes.proofs.characters.xid_continue.Goals as goal

pub in_ranges-requires : goal.in_ranges-requires
unfolding xid_continues
in_ranges-requires c = continues_ordered

pub returns-else-c-le705 : goal.returns-else-c-le705
unfolding xid_continue xid_continues
returns-else-c-le705 c = c.in_ranges.ensures
