-- What a job checks.
use Rattle.std.specs.Prelude.{ℕ, ◌≡◌, List}
use Rattle.flow_values.specs.declared.span.Span.{Span}
use Rattle.js_grammar.specs.Items.{Module}
use Rattle.check_values.specs.Rows.{Bytes, row_at}
use Rattle.check_values.specs.declared.faults.Fault.{Fault}
use Rattle.check_values.specs.declared.signatures.Deps.{Deps}
use Rattle.check_values.specs.declared.codes.Code.{Code}
use Rattle.check_values.specs.declared.codes.Code.TheVariants.{NotUtf8, BadToken, SourceTooLong, Parse}
use Rattle.source_front.specs.js_tree.specs.View.{module_view}
use Rattle.errors_by_reach.specs.local_signatures.specs.Faults.{signature_faults}
use Rattle.source_front.specs.declared.parse.ParseTree.{ParseTree}
use Rattle.source_front.specs.declared.parse.ParseTree.TheVariants as tree
use Rattle.source_front.specs.declared.parse.SourceFault.{SourceFault}
use Rattle.source_front.specs.declared.parse.SourceFault.TheVariants as fault
use Rattle.errors_by_reach.specs.module_errors.specs.Program.{Program}
use Rattle.errors_by_reach.specs.module_errors.specs.Errors.{errors_beside, broken_errors}
use Rattle.errors_by_reach.specs.Law.{Source, whole, broken}
use Rattle.errors_by_reach.specs.Seen.{Sigs, IsSeen}
use Rattle.check_job.specs.declared.job.CheckJob.{CheckJob}

-- the code of a source's fault, and its byte place
abbrev pub fault_code : SourceFault → Code
fault_code fault.NotUtf8 = NotUtf8
fault_code (fault.BadToken at) = BadToken
fault_code (fault.SourceTooLong len) = SourceTooLong
fault_code (fault.Parse at) = Parse

abbrev pub fault_place : SourceFault → ℕ
fault_place (fault.BadToken at) = at
fault_place (fault.Parse at) = at
fault_place other = 0

-- a source, by what was parsed
abbrev pub source_in : ParseTree → Source
source_in (tree.Tree m spans) = whole (module_view m) spans
source_in (tree.Broken f) = broken (fault_code f) (fault_place f)

abbrev pub source_of : CheckJob → Source
source_of job = source_in job.parse.tree

-- the source has a tree
abbrev pub IsWhole : Source → Type 0
IsWhole (whole m spans) = Unit {0}
IsWhole (broken code place) = ⊥

-- ---- the errors of a job

-- these are the errors of a module that sees these merged signatures, where its own has the first faults
abbrev pub HasErrorsBeside : List Fault → Bytes → Deps → Source → Sigs → List Fault → Type 0
HasErrorsBeside first path deps (whole m spans) sigs errors = (p : Program) × IsSeen path deps m sigs p × (errors ≡ errors_beside first p m spans)
HasErrorsBeside first path deps (broken code place) sigs errors = errors ≡ broken_errors code place

-- These are the errors of a job's module, by the parse and the signatures that the job has: the faults of its own signature are those
-- that came with its tree.
abbrev pub AreErrorsOf : CheckJob → List Fault → Type 0
AreErrorsOf job errors = HasErrorsBeside job.parse.faults job.path job.deps (source_of job) (row_at job.sigs.rows) errors

-- the faults that were told with the tree are those of its signature
abbrev pub HasFaults : CheckJob → Source → Type 0
HasFaults job (whole m spans) = job.parse.faults ≡ signature_faults m spans
HasFaults job (broken code place) = Unit {0}

abbrev pub IsFronted : CheckJob → Type 0
IsFronted job = HasFaults job (source_of job)
