-- What is told of a job's module, by the tree of its parse.
use Rattle.std.proofs.Common.{◌≡◌, ℕ, List, [], ◌∷◌, ◌++◌, Option, None, sym, ap, ◌∙◌, subst, subst₂}
use Rattle.flow_values.specs.declared.span.Span.{Span}
use Rattle.type_values.specs.declared.types.FlowType.{FlowType}
use Rattle.check_values.specs.Rows.{row_at}
use Rattle.check_values.specs.declared.codes.Code.{Code}
use Rattle.check_values.specs.declared.faults.Fault.{Fault}
use Rattle.js_grammar.specs.Items.{Module}
use Rattle.js_tree.specs.View.{module_view}
use Rattle.js_tree.specs.declared.items.Module as js
use Rattle.module_errors.specs.Errors.{no_notes, broken_errors}
use Rattle.errors_by_reach.specs.Law.{Source, whole, broken, IsTypeAt}
use Rattle.source_front.specs.declared.parse.Parse.{Parse}
use Rattle.source_front.specs.declared.parse.ParseTree.TheVariants as tree
use Rattle.source_front.specs.declared.parse.SourceFault.{SourceFault}
use Rattle.check_job.specs.declared.job.CheckJob.{CheckJob}
use Rattle.check_job.specs.Jobs.{fault_code, fault_place, source_in, source_of, IsWhole, HasErrorsBeside, AreErrorsOf}
use Rattle.check_module.specs.View.{checker_env, Opens, Names}
use Rattle.check_module.specs.declared.checker.Checker.{Checker}
use Rattle.check_module.proofs.Reading.{opens}

one_whole : (m n : Module) (xs ys : List Span) → whole m xs ≡ whole n ys → (m ≡ n) × (xs ≡ ys)
one_whole m n xs ys e = (cc, cc)

module _ (job : CheckJob) where
  tree_told : (p : Parse) (made : js.Module) (spans : List Span) → p ≡ job.parse → p.tree ≡ tree.Tree made spans → source_of job ≡ whole (module_view made) spans
  tree_told p made spans same is = ap source_in (ap (λ (x : Parse). x.tree) (sym same) ∙ is)

  fault_told : (p : Parse) (f : SourceFault) → p ≡ job.parse → p.tree ≡ tree.Broken f → source_of job ≡ broken (fault_code f) (fault_place f)
  fault_told p f same is = ap source_in (ap (λ (x : Parse). x.tree) (sym same) ∙ is)

  pub opens_whole : (p : Parse) (made : js.Module) (spans given : List Span) (c d : Checker) → p ≡ job.parse → p.tree ≡ tree.Tree made spans → given ≡ spans → Names job (module_view made) given None c → d.around ≡ c.around → checker_env d ≡ record (checker_env c) { notes = no_notes } →
      (m : Module) (all : List Span) → source_of job ≡ whole m all → Opens job m all None d
  opens_whole p made spans given c d same is listed named kept emptied m all told =
      let one = one_whole (module_view made) m spans all (sym (tree_told p made spans same is) ∙ told) in
      subst₂ (λ (m : Module) (l : List Span). Opens job m l None d) one.0 (listed ∙ one.1) (opens job (module_view made) given None c d kept emptied named)

  pub never_broken : (p : Parse) (f : SourceFault) → p ≡ job.parse → p.tree ≡ tree.Broken f → IsWhole (source_of job) → ⊥
  never_broken p f same is has = subst IsWhole (fault_told p f same is) has

  pub whole_errors : (p : Parse) (made : js.Module) (spans given : List Span) (first faults : List Fault) → p ≡ job.parse → p.tree ≡ tree.Tree made spans → given ≡ spans → first ≡ p.faults →
      HasErrorsBeside first job.path job.deps (whole (module_view made) given) (row_at job.sigs.rows) faults → AreErrorsOf job faults
  whole_errors p made spans given first faults same is listed told errors =
      subst₂ (λ (l : List Fault) (s : Source). HasErrorsBeside l job.path job.deps s (row_at job.sigs.rows) faults) (told ∙ ap (λ (x : Parse). x.faults) same) (ap (whole (module_view made)) listed ∙ sym (tree_told p made spans same is)) errors

  pub broken_told : (p : Parse) (f : SourceFault) (fault : Fault) (before faults : List Fault) → p ≡ job.parse → p.tree ≡ tree.Broken f → fault ∷ [] ≡ broken_errors (fault_code f) (fault_place f) → before ≡ [] → faults ≡ before ++ fault ∷ [] → AreErrorsOf job faults
  broken_told p f fault before faults same is told none added =
      subst (λ (s : Source). HasErrorsBeside job.parse.faults job.path job.deps s (row_at job.sigs.rows) faults) (sym (fault_told p f same is)) (added ∙ ap (λ (l : List Fault). l ++ fault ∷ []) none ∙ told)

  pub whole_type : (p : Parse) (made : js.Module) (spans given : List Span) (at : ℕ) (answer : Option FlowType) → p ≡ job.parse → p.tree ≡ tree.Tree made spans → given ≡ spans →
      IsTypeAt job.path job.deps (module_view made) given (row_at job.sigs.rows) at answer → (m : Module) (all : List Span) → source_of job ≡ whole m all → IsTypeAt job.path job.deps m all (row_at job.sigs.rows) at answer
  whole_type p made spans given at answer same is listed has m all told =
      let one = one_whole (module_view made) m spans all (sym (tree_told p made spans same is) ∙ told) in
      subst₂ (λ (m : Module) (l : List Span). IsTypeAt job.path job.deps m l (row_at job.sigs.rows) at answer) one.0 (listed ∙ one.1) has

  pub not_broken : (p : Parse) (made : js.Module) (spans : List Span) (code : Code) (place : ℕ) → p ≡ job.parse → p.tree ≡ tree.Tree made spans → source_of job ≡ broken code place → ⊥
  not_broken p made spans code place same is told = let e : whole (module_view made) spans ≡ broken code place = sym (tree_told p made spans same is) ∙ told in cc

  pub not_whole : (p : Parse) (f : SourceFault) (m : Module) (all : List Span) → p ≡ job.parse → p.tree ≡ tree.Broken f → source_of job ≡ whole m all → ⊥
  not_whole p f m all same is told = let e : broken (fault_code f) (fault_place f) ≡ whole m all = sym (fault_told p f same is) ∙ told in cc
