-- Full checks of the modules.
use Rattle.std.proofs.Common.{◌≡◌, List, [], ◌∷◌, map, refl, sym, ap, ◌∙◌, subst}
use Rattle.flow_base.specs.Program.{Bytes, Program, paths_of}
use Rattle.check_values.specs.Rows.{row_at}
use Rattle.check_values.specs.declared.signatures.Sig.{Sig}
use Rattle.recheck_sources.specs.source_front.specs.declared.parse.Parse.{Parse}
use Rattle.recheck_sources.specs.source_front.specs.declared.parse.ParseTree.{ParseTree}
use Rattle.recheck_sources.specs.source_front.specs.declared.parse.ParseTree.TheVariants.{Tree, Broken}
use Rattle.recheck_sources.specs.source_front.specs.Law.{seen, OneParse}
use Rattle.module_resolution.specs.Dependencies.{dependencies_of}
use Rattle.merged_signatures.specs.Chains.{Known, View}
use Rattle.errors_by_reach.specs.Seen.{Sigs}
use Rattle.recheck_merging.specs.program_check.specs.Full as whole
use Rattle.recheck_merging.specs.program_check.specs.Full.{Results, beside, known_of, module_in, deps_in, AreResults, IsFull}
use Rattle.recheck_merging.specs.check_phases.specs.Phases.{AreParsed, lists_in, knowns, AreMerged}
use Rattle.recheck_merging.specs.check_phases.specs.Sourced.{program_in, view_in, AreSources}
use Rattle.recheck_merging.specs.check_phases.specs.Whole.{sigs_by}
use Rattle.recheck_merging.specs.check_phases.specs.declared.merging.Sources.{Sources}
use Rattle.recheck_merging.specs.check_phases.proofs.Lists.{one_value, same_paths}
use Rattle.recheck_reach.specs.Law.{SeenAsChecked, SignedAsChecked}

-- trees that say the same
same_module : (a b : ParseTree) → seen a ≡ seen b → module_in a ≡ module_in b
same_module (Tree m spans) (Tree n others) e = cc
same_module (Tree m spans) (Broken f) e = absurd (let z : seen (Tree m spans) ≡ seen (Broken f) = e in cc)
same_module (Broken f) (Tree m spans) e = absurd (let z : seen (Broken f) ≡ seen (Tree m spans) = e in cc)
same_module (Broken f) (Broken g) e = refl

module _ (one : OneParse) (paths : List Bytes) (view : View) (signed : Sigs) where
  same_knowns : (program : Program) (parses : List Parse) (results : List Results) → AreParsed program parses → AreResults paths view signed program results → map known_of results ≡ knowns parses (lists_in paths program parses)
  same_knowns [] [] [] p are = refl
  same_knowns [] [] (r ∷ results) p are = absurd are
  same_knowns [] (x ∷ parses) results p are = absurd p
  same_knowns (m ∷ program) [] results p are = absurd p
  same_knowns (m ∷ program) (x ∷ parses) [] p are = absurd are
  same_knowns (m ∷ program) (x ∷ parses) (r ∷ results) p are =
      let same = one m.1 r.parse x are.0.parse p.0 in
      let sig = same.1 in
      let deps : r.deps ≡ deps_in paths m.0 x = are.0.deps ∙ ap (dependencies_of paths m.0) (same_module r.parse.tree x.tree same.0) in
      let rest = same_knowns program parses results p.1 are.1 in
      λ i. record { sig = sig i; deps = deps i } ∷ rest i

module _ (paths : List Bytes) (view : View) (signed : Sigs) where
  same_sigs : (program : Program) (results : List Results) (sigs : List Sig) → AreResults paths view signed program results → AreMerged view program sigs → map (λ (r : Results). r.sig) results ≡ sigs
  same_sigs [] [] [] are m = refl
  same_sigs [] [] (g ∷ sigs) are m = absurd m
  same_sigs [] (r ∷ results) sigs are m = absurd are
  same_sigs (n ∷ program) [] sigs are m = absurd are
  same_sigs (n ∷ program) (r ∷ results) [] are m = absurd m
  same_sigs (n ∷ program) (r ∷ results) (g ∷ sigs) are m =
      let first : r.sig ≡ g = one_value r.sig g (sym are.0.sig ∙ m.0) in
      let rest = same_sigs program results sigs are.1 m.1 in
      λ i. first i ∷ rest i

pub seen_as_checked : OneParse → SeenAsChecked
seen_as_checked one s results sources full =
    let program = program_in s in
    let known = same_knowns one (paths_of program) (whole.view_in program results) (whole.sigs_in program results) program s.parses.items results sources.parsed full in
    let lists : lists_in (paths_of program) program s.parses.items ≡ s.lists.items = ap (λ (ps : List Bytes). lists_in ps program s.parses.items) (same_paths s.root) ∙ sym sources.listed in
    ap (λ (l : List Known). row_at (beside program l)) (known ∙ ap (knowns s.parses.items) lists)

pub signed_as_checked : OneParse → SignedAsChecked
signed_as_checked one s sigs results sources are full =
    let program = program_in s in
    let view = whole.view_in program results in
    let there : AreMerged view program sigs = subst (λ (v : View). AreMerged v program sigs) (sym (seen_as_checked one s results sources full)) are in
    ap (λ (l : List Sig). row_at (beside program l)) (same_sigs (paths_of program) view (whole.sigs_in program results) program results sigs full there)

-- ---- both

-- a full check of the modules, which merging sees so, with these signatures
pub record IsCheckOf (s : Sources) (sigs : List Sig) (results : List Results) : Type 0 where
  pub full : IsFull (program_in s) results
  pub seen : whole.view_in (program_in s) results ≡ view_in s
  pub signed : whole.sigs_in (program_in s) results ≡ sigs_by s sigs

pub check_of : OneParse → (s : Sources) (sigs : List Sig) (results : List Results) → AreSources s → AreMerged (view_in s) (program_in s) sigs → IsFull (program_in s) results → IsCheckOf s sigs results
check_of one s sigs results sources are full = record { full = full; seen = seen_as_checked one s results sources full; signed = signed_as_checked one s sigs results sources are full }
