-- A heap for three modules that has none.
use Rattle.std.specs.Prelude.{◌≡◌, false, []}
use Rattle.heap_core.specs.Meaning.{Meaning}
use Rattle.payloads.specs.declared.payload.Payload.{Payload}
use Rattle.recheck_run.specs.Recheck.{HasRoom, Commits}

-- it has no module, and is at version 0
pub record IsEmpty (m : Meaning Payload) : Type 0 where
  pub commits : Commits m (record { modules = [] })
  pub version : m.version ≡ 0
  pub closed : m.is_open ≡ false
  pub room : HasRoom m 3
