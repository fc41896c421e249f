-- What is alike to a full check is one.
use Rattle.std.proofs.Common.{◌≡◌, List, [], ◌∷◌, map, Some, refl, sym, ap, ◌∙◌, subst}
use Rattle.std.specs.Coded.{coded_list}
use mathlib.Core.Logic.{∥∥₁_elim, ∥∥₁_map}
use denote.Struct.Props.{≡_prop}
use Rattle.flow_base.specs.Program.{Bytes, Program, paths_of}
use Rattle.check_values.specs.Rows.{row_at}
use Rattle.check_values.specs.contracts.faults.Fault as fault_type
use Rattle.check_values.specs.contracts.signatures.Deps as deps_type
use Rattle.check_values.specs.contracts.signatures.Sig as sig_type
use Rattle.check_values.specs.declared.faults.Fault.{Fault}
use Rattle.check_values.specs.declared.signatures.Deps.{Deps}
use Rattle.check_values.specs.declared.signatures.Sig.{Sig}
use Rattle.export_counts.specs.source_front.specs.Law.{seen, Same}
use Rattle.export_counts.specs.source_front.specs.declared.parse.ParseTree.{ParseTree}
use Rattle.export_counts.specs.source_front.specs.declared.parse.ParseTree.TheVariants.{Tree, Broken}
use Rattle.full_law.specs.Trees.{EachModuleHasATree}
use Rattle.module_resolution.specs.Dependencies.{dependencies_of}
use Rattle.merged_signatures.specs.Chains.{Known, View}
use Rattle.errors_by_reach.specs.Seen.{Sigs}
use Rattle.errors_by_reach.specs.Law.{Source, HasErrors}
use Rattle.full_law.specs.check_job.specs.Jobs.{source_in}
use Rattle.full_law.specs.program_check.specs.Full.{Results, beside, known_of, view_in, sigs_in, module_in, AreResultsOf, AreResults, IsFull}
use Rattle.full_law.specs.program_check.specs.Law.{Alike, AllAlike}
use Rattle.committed_results.proofs.SameParse.{says_same, same_once}

-- ---- whether results are alike is one thing

alike_once : EachModuleHasATree → (a b : Results) → ∥ Alike a b ∥₁ → Alike a b
alike_once trees a b alike = record {
  parse = same_once trees a.parse b.parse (∥∥₁_map alike (λ (k : Alike a b). k.parse));
  deps = ∥∥₁_elim alike (≡_prop deps_type.the_row.coded a.deps b.deps) (λ (k : Alike a b). k.deps);
  sig = ∥∥₁_elim alike (≡_prop sig_type.the_row.coded a.sig b.sig) (λ (k : Alike a b). k.sig);
  errors = ∥∥₁_elim alike (≡_prop (coded_list fault_type.the_row.coded) a.errors b.errors) (λ (k : Alike a b). k.errors);
}

pub all_alike_once : EachModuleHasATree → (a b : List Results) → ∥ AllAlike a b ∥₁ → AllAlike a b
all_alike_once trees [] [] alike = tt
all_alike_once trees [] (s ∷ b) alike = let once : IsProp ⊥ = hlevel in ∥∥₁_elim alike once (λ (k : ⊥). k)
all_alike_once trees (r ∷ a) [] alike = let once : IsProp ⊥ = hlevel in ∥∥₁_elim alike once (λ (k : ⊥). k)
all_alike_once trees (r ∷ a) (s ∷ b) alike =
    (alike_once trees r s (∥∥₁_map alike (λ (k : AllAlike (r ∷ a) (s ∷ b)). k.0)), all_alike_once trees a b (∥∥₁_map alike (λ (k : AllAlike (r ∷ a) (s ∷ b)). k.1)))

-- ---- trees that say the same

same_module : (a b : ParseTree) → seen a ≡ seen b → module_in a ≡ module_in b
same_module (Tree m spans) (Tree n others) e = cc
same_module (Tree m spans) (Broken f) e = absurd (let z : seen (Tree m spans) ≡ seen (Broken f) = e in cc)
same_module (Broken f) (Tree m spans) e = absurd (let z : seen (Broken f) ≡ seen (Tree m spans) = e in cc)
same_module (Broken f) (Broken k) e = refl

same_source : (a b : ParseTree) → seen a ≡ seen b → source_in a ≡ source_in b
same_source (Tree m spans) (Tree n others) e = cc
same_source (Tree m spans) (Broken f) e = absurd (let z : seen (Tree m spans) ≡ seen (Broken f) = e in cc)
same_source (Broken f) (Tree m spans) e = absurd (let z : seen (Broken f) ≡ seen (Tree m spans) = e in cc)
same_source (Broken f) (Broken k) e = cc

-- ---- what is alike to results is results

module _ (paths : List Bytes) (view : View) (sigs : Sigs) where
  one_alike : (path text : Bytes) (a b : Results) → Alike a b → AreResultsOf paths view sigs path text b → AreResultsOf paths view sigs path text a
  one_alike path text a b alike are = record {
    parse = says_same text a.parse b.parse alike.parse are.parse;
    deps = alike.deps ∙ (are.deps ∙ ap (dependencies_of paths path) (sym (same_module a.parse.tree b.parse.tree alike.parse.0)));
    sig = are.sig ∙ ap Some (sym alike.sig);
    errors =
        subst (λ (source : Source). HasErrors path a.deps source sigs a.errors) (sym (same_source a.parse.tree b.parse.tree alike.parse.0))
        (subst (λ (d : Deps). HasErrors path d (source_in b.parse.tree) sigs a.errors) (sym alike.deps)
        (subst (λ (faults : List Fault). HasErrors path b.deps (source_in b.parse.tree) sigs faults) (sym alike.errors) are.errors));
  }

  all_results : (program : Program) (a b : List Results) → AllAlike a b → AreResults paths view sigs program b → AreResults paths view sigs program a
  all_results [] [] [] alike are = tt
  all_results [] [] (s ∷ b) alike are = absurd alike
  all_results [] (r ∷ a) [] alike are = absurd alike
  all_results [] (r ∷ a) (s ∷ b) alike are = absurd are
  all_results (m ∷ program) [] [] alike are = absurd are
  all_results (m ∷ program) [] (s ∷ b) alike are = absurd alike
  all_results (m ∷ program) (r ∷ a) [] alike are = absurd alike
  all_results (m ∷ program) (r ∷ a) (s ∷ b) alike are = (one_alike m.0 m.1 r s alike.0 are.0, all_results program a b alike.1 are.1)

-- they are seen alike
same_known : (a b : List Results) → AllAlike a b → map known_of a ≡ map known_of b
same_known [] [] alike = refl
same_known [] (s ∷ b) alike = absurd alike
same_known (r ∷ a) [] alike = absurd alike
same_known (r ∷ a) (s ∷ b) alike =
    let sig = alike.0.parse.1 in
    let deps = alike.0.deps in
    let rest = same_known a b alike.1 in
    λ j. record { sig = sig j; deps = deps j } ∷ rest j

same_sigs : (a b : List Results) → AllAlike a b → map (λ (r : Results). r.sig) a ≡ map (λ (r : Results). r.sig) b
same_sigs [] [] alike = refl
same_sigs [] (s ∷ b) alike = absurd alike
same_sigs (r ∷ a) [] alike = absurd alike
same_sigs (r ∷ a) (s ∷ b) alike = let sig = alike.0.sig in let rest = same_sigs a b alike.1 in λ j. sig j ∷ rest j

pub full_alike : (program : Program) (a b : List Results) → AllAlike a b → IsFull program b → IsFull program a
full_alike program a b alike full =
    let view : view_in program b ≡ view_in program a = ap (λ (known : List Known). row_at (beside program known)) (sym (same_known a b alike)) in
    let sigs : sigs_in program b ≡ sigs_in program a = ap (λ (all : List Sig). row_at (beside program all)) (sym (same_sigs a b alike)) in
    subst (λ (v : View). AreResults (paths_of program) v (sigs_in program a) program a) view
    (subst (λ (s : Sigs). AreResults (paths_of program) (view_in program b) s program a) sigs (all_results (paths_of program) (view_in program b) (sigs_in program b) program a b alike full))
