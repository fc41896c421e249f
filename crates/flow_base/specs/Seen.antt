-- What contracts see of the outside.
use Rattle.std.specs.Prelude.{ℕ, Option}
use Rattle.flow_base.specs.Program.{Bytes, Program}
use Rattle.flow_base.specs.declared.outside.LastFault.{LastFault}

-- of a folder: the program that it holds, where it tells it, how often it has failed, up to 2^64 - 1, and the call that failed last
pub record FolderSeen : Type 0 where
  pub told : Option Program
  pub faults : ℕ
  pub last_fault : LastFault

-- of a source: the bytes that are left, where it tells them, and how often it has failed, up to 2^64 - 1
pub record SourceSeen : Type 0 where
  pub left : Option Bytes
  pub faults : ℕ

-- of a sink: the bytes that were written, where it tells them, and how often it has failed, up to 2^64 - 1
pub record SinkSeen : Type 0 where
  pub written : Option Bytes
  pub faults : ℕ

-- of all three at one moment of a run
pub record Outside : Type 0 where
  pub folder : FolderSeen
  pub script : SourceSeen
  pub out : SinkSeen

abbrev pub folder_seen : Option Program → ℕ → LastFault → FolderSeen
folder_seen told faults last_fault = record { told = told; faults = faults; last_fault = last_fault }

abbrev pub outside : FolderSeen → SourceSeen → SinkSeen → Outside
outside folder script out = record { folder = folder; script = script; out = out }
