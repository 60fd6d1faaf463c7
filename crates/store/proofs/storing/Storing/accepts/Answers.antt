-- `accepts` meets its contract: the table alone decides.
use Rattle.store.proofs.Accepting.{accepts_all}
use Rattle.store.proofs.storing.Storing.accepts.Goals as goal

pub accept_rows-requires : goal.accept_rows-requires
accept_rows-requires c = c.args.self.now.found.at _ c.in-Some-2.is

pub returns-in-None : goal.returns-in-None
returns-in-None c = let s = c.args.self.now in accepts_all s.opened _ (s.found.none c.in-None.is)
