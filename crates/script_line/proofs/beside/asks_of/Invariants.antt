use Rattle.std.proofs.Common.{map, take}
use Rattle.std.specs.List.{AllZip}
use Rattle.serde_json.specs.View.{view}
use Rattle.ask_line.specs.Asking.{Asks}
use Rattle.script_line.proofs.beside.asks_of.Given as goal

-- what the values so far ask
abbrev pub invariant-loop-value : goal.invariant-loop-value
invariant-loop-value l = AllZip Asks (map view (take l.value-index l.values)) l.asks
