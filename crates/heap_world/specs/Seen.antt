-- The pure world and the pure event that the program's own ones are, each payload seen by its value.
use Rattle.std.specs.Prelude.{map}
use Rattle.std.specs.Option.{option_map}
use Rattle.std.specs.Arc.{arc_value}
use Rattle.heap_world.specs.declared.world.World.{World}
use Rattle.heap_world.specs.declared.world.Event.{Event}
use Rattle.heap_world.specs.declared.world.Event.TheVariants.{Begin, Stage, Fill, Publish, Commit, RollBack, End, Pin, Read, Unpin, Drained}
use Rattle.heap_world.specs.World.{PureWorld, PureEvent, begin, stage, fill, publish, commit, roll_back, end, pin, read, unpin, drain}

module _ {P : Type 0} where
  -- the world that the program's is a form of
  abbrev pub world_of : World P → PureWorld P
  world_of w = record {
    entities = w.entities;
    lanes = w.lanes;
    history = map (map arc_value) w.history;
    versions = w.versions;
    is_open = w.is_open;
    drained = w.drained;
    pending = map (option_map arc_value) w.pending;
    filled = w.filled;
    published = w.published;
    pins = w.pins;
  }

  -- the event that the program's is a form of
  abbrev pub event_of : Event P → PureEvent P
  event_of Begin = begin
  event_of (Stage e x) = stage e (arc_value x)
  event_of (Fill n e) = fill n e
  event_of (Publish e) = publish e
  event_of Commit = commit
  event_of (RollBack e) = roll_back e
  event_of End = end
  event_of (Pin n) = pin n
  event_of (Read n e) = read n e
  event_of (Unpin n) = unpin n
  event_of Drained = drain
