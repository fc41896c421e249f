-- What is said of a run with a script, and of the server on which it was made, for whoever has runs of both kinds.
pub use Rattle.script_run.specs.beside.specs.Server.{IsRunning, uses_of}
pub use Rattle.script_run.specs.beside.specs.Uses.{LaneUse}
pub use Rattle.script_run.specs.beside.specs.Writers.{meaning_in}
pub use Rattle.script_run.specs.beside.specs.declared.serving.Server.{Server}
pub use Rattle.script_run.specs.Checked.{HasErrorCount}
pub use Rattle.script_run.specs.Session.{IsIdle, program_in}
pub use Rattle.script_run.specs.Steps.{RoseByAtLeast, HasRun, HasStopped, HasFront, walk_state, unsaid_load}
pub use Rattle.script_run.specs.Transcript.{MayList, start, IsRun, IsRunSoFar, GoesOn, IsQuietRun, AsksNothingBeside}
