-- A part of a full check is what any program asks in which it stays.
use Rattle.std.proofs.Common.{◌≡◌, map, refl, sym, ap, ◌∙◌, subst}
use Rattle.flow_base.specs.Program.{paths_of}
use Rattle.check_values.specs.Rows.{row_at}
use Rattle.program_check.specs.source_front.specs.declared.parse.ParseTree.{ParseTree}
use Rattle.program_check.specs.source_front.specs.declared.parse.ParseTree.TheVariants.{Tree, Broken}
use Rattle.program_check.specs.source_front.specs.Law.{seen, OneParse}
use Rattle.module_resolution.specs.Dependencies.{dependencies_of}
use Rattle.merged_signatures.specs.Imports.{IsLocal}
use Rattle.reach_law.specs.errors_by_reach.specs.Law.{Source, HasErrors, AreErrors, OneAnswer, CutAgrees}
use Rattle.reach_law.specs.Law.{KeyLaw, CutIsRight}
use Rattle.program_check.specs.check_job.specs.Jobs.{source_in}
use Rattle.program_check.specs.Full.{Results, beside, view_in, sigs_in, module_in}
use Rattle.affected_law.specs.Kept.{ParseServes, DepsServe, SigServes, ErrorsServe, JobsFindErrors}
use Rattle.affected_law.proofs.Places.{module_results}

-- trees that say the same
same_module : (a b : ParseTree) → seen a ≡ seen b → module_in a ≡ module_in b
same_module (Tree m spans) (Tree n others) e = cc
same_module (Tree m spans) (Broken f) e = absurd (let z : seen (Tree m spans) ≡ seen (Broken f) = e in cc)
same_module (Broken f) (Tree m spans) e = absurd (let z : seen (Broken f) ≡ seen (Tree m spans) = e in cc)
same_module (Broken f) (Broken g) e = refl

same_source : (a b : ParseTree) → seen a ≡ seen b → source_in a ≡ source_in b
same_source (Tree m spans) (Tree n others) e = cc
same_source (Tree m spans) (Broken f) e = absurd (let z : seen (Tree m spans) ≡ seen (Broken f) = e in cc)
same_source (Broken f) (Tree m spans) e = absurd (let z : seen (Broken f) ≡ seen (Tree m spans) = e in cc)
same_source (Broken f) (Broken g) e = cc

pub parse_serves : ParseServes
parse_serves program results path text r m = (module_results program results path text r m).parse

pub deps_serve : OneParse → DepsServe
deps_serve one_parse program results path text r m parse is =
    let are = module_results program results path text r m in
    are.deps ∙ ap (dependencies_of (paths_of program) path) (same_module r.parse.tree parse.tree (one_parse text r.parse parse are.parse is).0)

pub sig_serves : IsLocal → SigServes
sig_serves local program results path text r m view keeps = local (view_in program results) view path keeps ∙ (module_results program results path text r m).sig

pub errors_serve : OneParse → KeyLaw → ErrorsServe
errors_serve one_parse key program results path text r m parse sigs is agree =
    let are = module_results program results path text r m in
    (key path r.deps (source_in parse.tree) sigs (beside program (map (λ (x : Results). x.sig) results)) r.errors agree).1
    (subst (λ (x : Source). HasErrors path r.deps x (sigs_in program results) r.errors) (same_source r.parse.tree parse.tree (one_parse text r.parse parse are.parse is).0) are.errors)

pub jobs_find_errors : CutIsRight → CutAgrees → OneAnswer → KeyLaw → JobsFindErrors
jobs_find_errors cut agrees one_answer key program results path text r m told errors agree =
    let all = beside program (map (λ (x : Results). x.sig) results) in
    let source = source_in r.parse.tree in
    let own = (module_results program results path text r m).errors in (
      (λ are. one_answer path r.deps source (sigs_in program results) errors r.errors ((key path r.deps source all told errors agree).1 ((cut path r.deps source told errors).0 are)) own),
      (λ is. subst (AreErrors path r.deps source (row_at told)) (sym is) (agrees path r.deps source (row_at all) (row_at told) r.errors agree ((cut path r.deps source all r.errors).1 own))),
    )
