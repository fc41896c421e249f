-- What each phase knows.
use Rattle.std.specs.Prelude.{◌≡◌, ℕ, List, [], ◌∷◌, slice_get, Some}
use Rattle.std.specs.List.{AllZip}
use Rattle.flow_base.specs.Program.{Bytes, Program}
use Rattle.check_values.specs.Rows.{row_at}
use Rattle.check_values.specs.declared.faults.Errs.{Errs}
use Rattle.check_values.specs.declared.signatures.Deps.{Deps}
use Rattle.check_values.specs.declared.signatures.Sig.{Sig}
use Rattle.analyst.specs.source_front.specs.declared.parse.Parse.{Parse}
use Rattle.analyst.specs.source_front.specs.Front.{IsParse}
use Rattle.merged_signatures.specs.Chains.{Known, View}
use Rattle.merged_signatures.specs.Merged.{merged}
use Rattle.errors_by_reach.specs.Seen.{Sigs}
use Rattle.errors_by_reach.specs.Law.{HasErrors}
use Rattle.analyst.specs.check_job.specs.Jobs.{source_in}
use Rattle.payloads.specs.program_check.specs.Full.{Results, beside, deps_in}

-- what the source of each module says by itself, in order
abbrev pub AreParsed : Program → List Parse → Type 0
AreParsed program parses = AllZip (λ m parse. IsParse m.1 parse) program parses

-- the dependency list of each module, in order, among these paths
abbrev pub lists_in : List Bytes → Program → List Parse → List Deps
lists_in paths (m ∷ program) (parse ∷ parses) = deps_in paths m.0 parse ∷ lists_in paths program parses
lists_in paths program parses = []

-- what is known of each module by itself, in order
abbrev pub knowns : List Parse → List Deps → List Known
knowns (parse ∷ parses) (deps ∷ lists) = record { sig = parse.sig; deps = deps } ∷ knowns parses lists
knowns parses lists = []

-- a program as merging sees it
abbrev pub view_by : Program → List Parse → List Deps → View
view_by program parses lists = row_at (beside program (knowns parses lists))

-- these are the merged signatures of the modules, in order
abbrev pub AreMerged : View → Program → List Sig → Type 0
AreMerged view program sigs = AllZip (λ m sig. merged view m.0 ≡ Some sig) program sigs

-- these are the errors of the first modules, in order
abbrev pub AreChecked : Sigs → Program → List Parse → List Deps → List Errs → Type 0
AreChecked sigs program parses lists [] = Unit {0}
AreChecked sigs (m ∷ program) (parse ∷ parses) (deps ∷ lists) (errs ∷ errors) =
    HasErrors m.0 deps (source_in parse.tree) sigs errs.faults × AreChecked sigs program parses lists errors
AreChecked sigs program parses lists errors = ⊥

-- all results of the modules, in order
abbrev pub results_by : List Parse → List Deps → List Sig → List Errs → List Results
results_by (parse ∷ parses) (deps ∷ lists) (sig ∷ sigs) (errs ∷ errors) =
    record { parse = parse; deps = deps; sig = sig; errors = errs.faults } ∷ results_by parses lists sigs errors
results_by parses lists sigs errors = []

-- the errors of one more module, where they are those of the ones before it
pub record IsCheckedAt (sigs : Sigs) (program : Program) (parses : List Parse) (lists : List Deps) (x : ℕ) (errs : Errs) : Type 0 where
  pub path : Bytes × Bytes
  pub parse : Parse
  pub deps : Deps
  pub at_path : slice_get program x ≡ Some path
  pub at_parse : slice_get parses x ≡ Some parse
  pub at_deps : slice_get lists x ≡ Some deps
  pub errors : HasErrors path.0 deps (source_in parse.tree) sigs errs.faults
