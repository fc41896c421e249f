-- A full check sees the modules of its program as their sources do.
use Rattle.std.proofs.Common.{◌≡◌, List, [], ◌∷◌, map, refl, sym, ap, ◌∙◌, subst}
use Rattle.std.proofs.lemmas.List.{length-map}
use Rattle.flow_base.specs.Program.{Bytes, Program, paths_of}
use Rattle.check_values.specs.Rows.{row_at}
use Rattle.check_values.specs.declared.signatures.Sig.{Sig}
use Rattle.recheck_merging.specs.source_front.specs.Law.{seen, OneParse}
use Rattle.recheck_merging.specs.source_front.specs.declared.parse.Parse.{Parse}
use Rattle.recheck_merging.specs.source_front.specs.declared.parse.ParseTree.{ParseTree}
use Rattle.recheck_merging.specs.source_front.specs.declared.parse.ParseTree.TheVariants.{Tree, Broken}
use Rattle.module_resolution.specs.Dependencies.{dependencies_of}
use Rattle.merged_signatures.specs.Chains.{Known, View}
use Rattle.errors_by_reach.specs.Seen.{Sigs}
use Rattle.recheck_merging.specs.check_job.specs.Jobs.{source_in}
use Rattle.edited_root.specs.program_check.specs.Full as full
use Rattle.edited_root.specs.program_check.specs.Full.{Results, beside, known_of, module_in, AreResults, IsFull}
use Rattle.recheck_merging.specs.check_phases.specs.Phases.{AreParsed, lists_in, knowns, AreMerged}
use Rattle.recheck_merging.specs.check_phases.specs.Sourced.{program_in, view_in, AreSources}
use Rattle.recheck_merging.specs.check_phases.specs.Whole.{sigs_by}
use Rattle.recheck_merging.specs.check_phases.specs.declared.merging.Sources.{Sources}
use Rattle.recheck_merging.specs.check_phases.proofs.Lists.{one_value, same_paths}
use Rattle.recheck_merging.specs.check_phases.proofs.Results.{full_by}
use Rattle.recheck_checking.specs.Full.{MadeIsFull, ChecksSeeSources}

-- trees that say the same
pub same_module : (a b : ParseTree) → seen a ≡ seen b → module_in a ≡ module_in b
same_module (Tree m spans) (Tree n others) e = cc
same_module (Tree m spans) (Broken f) e = absurd (let z : seen (Tree m spans) ≡ seen (Broken f) = e in cc)
same_module (Broken f) (Tree m spans) e = absurd (let z : seen (Broken f) ≡ seen (Tree m spans) = e in cc)
same_module (Broken f) (Broken g) e = refl

pub same_source : (a b : ParseTree) → seen a ≡ seen b → source_in a ≡ source_in b
same_source (Tree m spans) (Tree n others) e = cc
same_source (Tree m spans) (Broken f) e = absurd (let z : seen (Tree m spans) ≡ seen (Broken f) = e in cc)
same_source (Broken f) (Tree m spans) e = absurd (let z : seen (Broken f) ≡ seen (Tree m spans) = e in cc)
same_source (Broken f) (Broken g) e = cc

module _ (one_parse : OneParse) (paths : List Bytes) (view : View) (sigs : Sigs) where
  same_known : (program : Program) (parses : List Parse) (results : List Results) → AreParsed program parses → AreResults paths view sigs program results → map known_of results ≡ knowns parses (lists_in paths program parses)
  same_known [] [] [] parsed are = refl
  same_known [] (p ∷ parses) results parsed are = absurd parsed
  same_known [] [] (r ∷ results) parsed are = absurd are
  same_known (m ∷ program) [] results parsed are = absurd parsed
  same_known (m ∷ program) (p ∷ parses) [] parsed are = absurd are
  same_known (m ∷ program) (p ∷ parses) (r ∷ results) parsed are =
      let same = one_parse m.1 r.parse p are.0.parse parsed.0 in
      let sig = same.1 in
      let deps = are.0.deps ∙ ap (dependencies_of paths m.0) (same_module r.parse.tree p.tree same.0) in
      let rest = same_known program parses results parsed.1 are.1 in
      λ j. record { sig = sig j; deps = deps j } ∷ rest j

  same_sigs : (program : Program) (all : List Sig) (results : List Results) → AreMerged view program all → AreResults paths view sigs program results → map (λ (r : Results). r.sig) results ≡ all
  same_sigs [] [] [] merged are = refl
  same_sigs [] (s ∷ all) results merged are = absurd merged
  same_sigs [] [] (r ∷ results) merged are = absurd are
  same_sigs (m ∷ program) [] results merged are = absurd merged
  same_sigs (m ∷ program) (s ∷ all) [] merged are = absurd are
  same_sigs (m ∷ program) (s ∷ all) (r ∷ results) merged are =
      let first : r.sig ≡ s = one_value r.sig s (sym are.0.sig ∙ merged.0) in
      let rest = same_sigs program all results merged.1 are.1 in
      λ j. first j ∷ rest j

-- the lists of sources, by the paths of their program
pub lists_of : (s : Sources) → AreSources s → s.lists.items ≡ lists_in (paths_of (program_in s)) (program_in s) s.parses.items
lists_of s sources = sources.listed ∙ ap (λ (ps : List Bytes). lists_in ps (program_in s) s.parses.items) (sym (same_paths s.root))

module _ (one_parse : OneParse) (s : Sources) (results : List Results) (sources : AreSources s) (is_full : IsFull (program_in s) results) where
  pub views : full.view_in (program_in s) results ≡ view_in s
  views =
      ap (λ (ks : List Known). row_at (beside (program_in s) ks))
      (same_known one_parse (paths_of (program_in s)) (full.view_in (program_in s) results) (full.sigs_in (program_in s) results) (program_in s) s.parses.items results sources.parsed is_full
      ∙ ap (knowns s.parses.items) (sym (lists_of s sources)))

  pub signatures : (sigs : List Sig) → AreMerged (view_in s) (program_in s) sigs → full.sigs_in (program_in s) results ≡ sigs_by s sigs
  signatures sigs merged =
      ap (λ (all : List Sig). row_at (beside (program_in s) all))
      (same_sigs one_parse (paths_of (program_in s)) (full.view_in (program_in s) results) (full.sigs_in (program_in s) results) (program_in s) sigs results
      (subst (λ (v : View). AreMerged v (program_in s) sigs) (sym views) merged) is_full)

pub checks_see_sources : OneParse → ChecksSeeSources
checks_see_sources one_parse s sigs results sources merged is_full = record {
  seen = views one_parse s results sources is_full;
  signed = signatures one_parse s results sources is_full sigs merged;
}

pub made_is_full : MadeIsFull
made_is_full made are =
    full_by (program_in made.sources) made.sources.parses.items made.sources.lists.items made.signatures.items made.errors.items are.sources.parsed (lists_of made.sources are.sources) are.merged are.checked
    (are.many ∙ sym (length-map made.sources.root.modules _))
