-- The folder is read for the touched paths.
use Rattle.std.specs.Prelude.{◌≡◌, Option, Some, None}
use Rattle.flow_base.specs.Program.{Bytes, Program, text_at}
use Rattle.flow_base.specs.Outside.{WhereTold}
use Rattle.flow_base.specs.Causes.{raised}
use Rattle.flow_base.specs.Seen.{FolderSeen}
use Rattle.flow_base.specs.declared.outside.LastFault.TheVariants.{Reading}
use Rattle.check_values.specs.Rows.{Rows}
use Rattle.pending_edits.specs.declared.edit.Edit.{Edit}
use Rattle.pending_edits.specs.declared.edit.Edit.TheVariants.{Put, Touch, Delete}
use Rattle.pending_edits.specs.Pending.{IsTouched}
use Rattle.edited_root.specs.declared.halt.Halt.{Halt}
use Rattle.edited_root.specs.declared.halt.Halt.TheVariants.{Unread, NoMemory}

-- an edit gives a path this text, where the folder holds what it tells
abbrev pub Gives : Option Program → Bytes → Edit → Option Bytes → Type 0
Gives told path (Put text) found = found ≡ Some text
Gives told path Delete found = found ≡ None
Gives told path Touch found = WhereTold told (λ folder. found ≡ text_at folder path)

-- the folder failed at a touched path, and counted one fault, or memory was refused
abbrev pub IsUnread : Rows Edit → FolderSeen → FolderSeen → Halt → Type 0
IsUnread edits before now (Unread path) = IsTouched edits path × (now.faults ≡ raised before.faults) × (now.last_fault ≡ Reading path)
IsUnread edits before now NoMemory = Unit {0}
