-- `followed` meets its contract.
use Rattle.retouch.proofs.Follow.{followed_other}
use Rattle.retouch.proofs.records.Records.followed.Goals as goal

pub returns-in-Color : goal.returns-in-Color
returns-in-Color c = followed_other _ _ _ c.in-Color.is c.transform_type.ensures
