-- The full check of a program: four results for each module.
use Rattle.std.specs.Prelude.{◌≡◌, List, [], ◌∷◌, map, Option, Some, None}
use Rattle.flow_base.specs.Program.{Bytes, Program, paths_of}
use Rattle.check_values.specs.Rows.{Rows, row_at}
use Rattle.check_values.specs.declared.faults.Fault.{Fault}
use Rattle.check_values.specs.declared.signatures.Deps.{Deps}
use Rattle.check_values.specs.declared.signatures.Sig.{Sig}
use Rattle.js_grammar.specs.Items.{Module}
use Rattle.check_job.specs.js_tree.specs.View.{module_view}
use Rattle.check_job.specs.source_front.specs.declared.parse.ParseTree.{ParseTree}
use Rattle.check_job.specs.source_front.specs.declared.parse.ParseTree.TheVariants.{Tree, Broken}
use Rattle.check_job.specs.source_front.specs.declared.parse.Parse.{Parse}
use Rattle.check_job.specs.source_front.specs.Front.{IsParse}
use Rattle.module_resolution.specs.Dependencies.{dependencies_of}
use Rattle.merged_signatures.specs.Chains.{Known, View}
use Rattle.merged_signatures.specs.Merged.{merged}
use Rattle.check_job.specs.errors_by_reach.specs.Seen.{Sigs}
use Rattle.check_job.specs.errors_by_reach.specs.Law.{HasErrors}
use Rattle.check_job.specs.Jobs.{source_in}

-- what the check gives a module: what its source says by itself, which modules its specifiers find, its merged signature, its errors
pub record Results : Type 0 where
  pub parse : Parse
  pub deps : Deps
  pub sig : Sig
  pub errors : List Fault

-- the modules of a program, each with what stands at its place in a list
abbrev pub beside : {X : Type 0} → Program → List X → Rows X
beside (m ∷ program) (x ∷ xs) = (m.0, x) ∷ beside program xs
beside program xs = []

-- what is known of a module by itself
abbrev pub known_of : Results → Known
known_of r = record { sig = r.parse.sig; deps = r.deps }

-- a program as merging sees it, and the merged signatures of its modules
abbrev pub view_in : Program → List Results → View
view_in program results = row_at (beside program (map known_of results))

abbrev pub sigs_in : Program → List Results → Sigs
sigs_in program results = row_at (beside program (map (λ r. r.sig) results))

-- the tree of a source, if it has one
abbrev pub module_in : ParseTree → Option Module
module_in (Tree m spans) = Some (module_view m)
module_in (Broken fault) = None

-- the dependency list of the module at a path, among the paths of its program
abbrev pub deps_in : List Bytes → Bytes → Parse → Deps
deps_in paths path parse = dependencies_of paths path (module_in parse.tree)

-- These are the results of the module at a path with this text, in a program that has these paths, is seen so, and has these signatures.
pub record AreResultsOf (paths : List Bytes) (view : View) (sigs : Sigs) (path text : Bytes) (r : Results) : Type 0 where
  pub parse : IsParse text r.parse
  pub deps : r.deps ≡ deps_in paths path r.parse
  pub sig : merged view path ≡ Some r.sig
  pub errors : HasErrors path r.deps (source_in r.parse.tree) sigs r.errors

-- and so for each module, in order
abbrev pub AreResults : List Bytes → View → Sigs → Program → List Results → Type 0
AreResults paths view sigs [] [] = Unit {0}
AreResults paths view sigs (m ∷ program) (r ∷ results) = AreResultsOf paths view sigs m.0 m.1 r × AreResults paths view sigs program results
AreResults paths view sigs program results = ⊥

-- This is the full check of a program: the results of each of its modules, in order.
abbrev pub IsFull : Program → List Results → Type 0
IsFull program results = AreResults (paths_of program) (view_in program results) (sigs_in program results) program results
