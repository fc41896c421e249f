use Rattle.std.proofs.Common.{rules}
use Rattle.flow_base.proofs.Pieces.{takes_more}
use Rattle.flow_base.proofs.slow_streams.SlowSourceSource.read.Goals as goal

pub returns-clause-bytes : goal.returns-clause-bytes
returns-clause-bytes c = takes_more c.args.self.now.inner c.read.new.self _ c.read.new.into c.args.into.now c.min-most.result c.read.result (search rules) (search rules) c.read.ensures.bytes
