-- What is told of the ends that a case runs over.
use Rattle.std.specs.Prelude.{Some, ◌<◌, ◌^◌}
use Rattle.std.proofs.Common.{lit<}
use Rattle.flow_base.specs.Seen.{SourceSeen, SinkSeen}
use Rattle.run_cases.specs.declared.outside.TestSource.{TestSource}
use Rattle.run_cases.specs.declared.outside.TestSource.TheVariants as source
use Rattle.run_cases.specs.declared.outside.SinkEnd.{SinkEnd}
use Rattle.run_cases.specs.declared.outside.SinkEnd.TheVariants as sink

abbrev pub source_seen : TestSource → SourceSeen
source_seen (source.Failing s) = record { left = Some s.inner; faults = s.faults }
source_seen (source.Slow s) = record { left = Some s.inner; faults = 0 }

abbrev pub sink_seen : SinkEnd → SinkSeen
sink_seen (sink.Failing s) = record { written = Some s.inner.bytes; faults = s.faults }
sink_seen (sink.Slow s) = record { written = Some s.inner.bytes; faults = 0 }

-- their counts stay within their type
pub source_bounded : (s : TestSource) → (source_seen s).faults < 2 ^ 64
source_bounded (source.Failing s) = s.bounded
source_bounded (source.Slow s) = lit< tt

pub sink_bounded : (s : SinkEnd) → (sink_seen s).faults < 2 ^ 64
sink_bounded (sink.Failing s) = s.bounded
sink_bounded (sink.Slow s) = lit< tt
