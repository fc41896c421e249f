-- A program has one full check.
use Rattle.std.proofs.Common.{◌≡◌, List, [], ◌∷◌, map, Option, Some, None, refl, sym, ap, ◌∙◌, subst}
use Rattle.flow_base.specs.Program.{Bytes, Program, paths_of}
use Rattle.check_values.specs.Rows.{row_at}
use Rattle.check_values.specs.declared.faults.Fault.{Fault}
use Rattle.check_values.specs.declared.signatures.Deps.{Deps}
use Rattle.check_values.specs.declared.signatures.LocalSig.{LocalSig}
use Rattle.check_values.specs.declared.signatures.Sig.{Sig}
use Rattle.js_grammar.specs.Items.{Module}
use Rattle.check_job.specs.source_front.specs.declared.parse.ParseTree.{ParseTree}
use Rattle.check_job.specs.source_front.specs.declared.parse.ParseTree.TheVariants.{Tree, Broken}
use Rattle.check_job.specs.source_front.specs.declared.parse.Parse.{Parse}
use Rattle.check_job.specs.source_front.specs.Front.{IsParse}
use Rattle.check_job.specs.source_front.specs.Law as law
use Rattle.check_job.specs.source_front.specs.Law.{Seen, seen, Same, OneParse}
use Rattle.module_resolution.specs.Dependencies.{dependencies_of}
use Rattle.merged_signatures.specs.Chains.{View}
use Rattle.merged_signatures.specs.Merged.{merged}
use Rattle.check_job.specs.errors_by_reach.specs.Seen.{Sigs}
use Rattle.check_job.specs.errors_by_reach.specs.Law.{Source, whole, broken, HasErrors, OneAnswer}
use Rattle.check_job.specs.Jobs.{source_in, fault_code, fault_place}
use Rattle.program_check.specs.Full.{Results, beside, known_of, module_in, deps_in, AreResultsOf, AreResults, IsFull}
use Rattle.program_check.specs.Law.{Alike, AllAlike, OneFull}

abbrev module_of_seen : Seen → Option Module
module_of_seen (law.whole m spans) = Some m
module_of_seen (law.broken f) = None

module_seen : (t : ParseTree) → module_in t ≡ module_of_seen (seen t)
module_seen (Tree m spans) = refl
module_seen (Broken f) = refl

abbrev source_of_seen : Seen → Source
source_of_seen (law.whole m spans) = whole m spans
source_of_seen (law.broken f) = broken (fault_code f) (fault_place f)

source_seen : (t : ParseTree) → source_in t ≡ source_of_seen (seen t)
source_seen (Tree m spans) = refl
source_seen (Broken f) = refl

same_source : (a b : Parse) → Same a b → source_in a.tree ≡ source_in b.tree
same_source a b s = source_seen a.tree ∙ (ap source_of_seen s.0 ∙ sym (source_seen b.tree))

same_deps : (paths : List Bytes) (path : Bytes) (a b : Parse) → Same a b → deps_in paths path a ≡ deps_in paths path b
same_deps paths path a b s = ap (dependencies_of paths path) (module_seen a.tree ∙ (ap module_of_seen s.0 ∙ sym (module_seen b.tree)))

-- errors of one source, by one list of dependencies
same_errors : OneAnswer → (path : Bytes) (deps others : Deps) (source other : Source) (sigs : Sigs) (a b : List Fault) → deps ≡ others → source ≡ other
    → HasErrors path deps source sigs a → HasErrors path others other sigs b → a ≡ b
same_errors one_answer path deps others source other sigs a b same_list is h k =
    one_answer path others other sigs a b
    (subst (λ (d : Deps). HasErrors path d other sigs a) same_list (subst (λ (x : Source). HasErrors path deps x sigs a) is h)) k

some_same : {X : Type 0} (x y : X) → Some x ≡ Some y → x ≡ y
some_same x y e = cc

-- two results of one module in one program, seen in two ways
module _ (one_parse : OneParse) (paths : List Bytes) (v w : View) (s t : Sigs) where
  deps_alike : (path text : Bytes) (a b : Results) → AreResultsOf paths v s path text a → AreResultsOf paths w t path text b → a.deps ≡ b.deps
  deps_alike path text a b p q =
      p.deps ∙ (same_deps paths path a.parse b.parse (one_parse text a.parse b.parse p.parse q.parse) ∙ sym q.deps)

  known_alike : (path text : Bytes) (a b : Results) → AreResultsOf paths v s path text a → AreResultsOf paths w t path text b → known_of a ≡ known_of b
  known_alike path text a b p q =
      let sig : a.parse.sig ≡ b.parse.sig = (one_parse text a.parse b.parse p.parse q.parse).1 in
      let deps : a.deps ≡ b.deps = deps_alike path text a b p q in
      λ i. record { sig = sig i; deps = deps i }

  all_known : (program : Program) (a b : List Results) → AreResults paths v s program a → AreResults paths w t program b → map known_of a ≡ map known_of b
  all_known [] [] [] p q = refl
  all_known [] (x ∷ a) b p q = absurd p
  all_known [] [] (y ∷ b) p q = absurd q
  all_known (m ∷ program) [] b p q = absurd p
  all_known (m ∷ program) (x ∷ a) [] p q = absurd q
  all_known (m ∷ program) (x ∷ a) (y ∷ b) p q =
      let first : known_of x ≡ known_of y = known_alike m.0 m.1 x y p.0 q.0 in
      let rest : map known_of a ≡ map known_of b = all_known program a b p.1 q.1 in
      λ i. first i ∷ rest i

-- the same, seen in one way
module _ (paths : List Bytes) (v : View) (s t : Sigs) where
  sig_alike : (path text : Bytes) (a b : Results) → AreResultsOf paths v s path text a → AreResultsOf paths v t path text b → a.sig ≡ b.sig
  sig_alike path text a b p q = some_same a.sig b.sig (sym p.sig ∙ q.sig)

  all_sigs : (program : Program) (a b : List Results) → AreResults paths v s program a → AreResults paths v t program b → map (λ r. r.sig) a ≡ map (λ r. r.sig) b
  all_sigs [] [] [] p q = refl
  all_sigs [] (x ∷ a) b p q = absurd p
  all_sigs [] [] (y ∷ b) p q = absurd q
  all_sigs (m ∷ program) [] b p q = absurd p
  all_sigs (m ∷ program) (x ∷ a) [] p q = absurd q
  all_sigs (m ∷ program) (x ∷ a) (y ∷ b) p q =
      let first : x.sig ≡ y.sig = sig_alike m.0 m.1 x y p.0 q.0 in
      let rest : map (λ r. r.sig) a ≡ map (λ r. r.sig) b = all_sigs program a b p.1 q.1 in
      λ i. first i ∷ rest i

-- the same, with the same signatures
module _ (one_parse : OneParse) (one_answer : OneAnswer) (paths : List Bytes) (v : View) (s : Sigs) where
  alike : (path text : Bytes) (a b : Results) → AreResultsOf paths v s path text a → AreResultsOf paths v s path text b → Alike a b
  alike path text a b p q =
      let same : Same a.parse b.parse = one_parse text a.parse b.parse p.parse q.parse in
      let deps : a.deps ≡ b.deps = deps_alike one_parse paths v v s s path text a b p q in
      let source : source_in a.parse.tree ≡ source_in b.parse.tree = same_source a.parse b.parse same in
      record {
        parse = same;
        deps = deps;
        sig = sig_alike paths v s s path text a b p q;
        errors = same_errors one_answer path a.deps b.deps (source_in a.parse.tree) (source_in b.parse.tree) s a.errors b.errors deps source p.errors q.errors;
      }

  all_alike : (program : Program) (a b : List Results) → AreResults paths v s program a → AreResults paths v s program b → AllAlike a b
  all_alike [] [] [] p q = tt
  all_alike [] (x ∷ a) b p q = absurd p
  all_alike [] [] (y ∷ b) p q = absurd q
  all_alike (m ∷ program) [] b p q = absurd p
  all_alike (m ∷ program) (x ∷ a) [] p q = absurd q
  all_alike (m ∷ program) (x ∷ a) (y ∷ b) p q = (alike m.0 m.1 x y p.0 q.0, all_alike program a b p.1 q.1)

pub one_full : OneParse → OneAnswer → OneFull
one_full one_parse one_answer program a b p q =
    let paths = paths_of program in
    let view_a : View = row_at (beside program (map known_of a)) in
    let view_b : View = row_at (beside program (map known_of b)) in
    let sigs_a : Sigs = row_at (beside program (map (λ r. r.sig) a)) in
    let sigs_b : Sigs = row_at (beside program (map (λ r. r.sig) b)) in
    let views : view_b ≡ view_a = ap (λ xs. row_at (beside program xs)) (sym (all_known one_parse paths view_a view_b sigs_a sigs_b program a b p q)) in
    let q_seen : AreResults paths view_a sigs_b program b = subst (λ (v : View). AreResults paths v sigs_b program b) views q in
    let sigs : sigs_b ≡ sigs_a = ap (λ xs. row_at (beside program xs)) (sym (all_sigs paths view_a sigs_a sigs_b program a b p q_seen)) in
    all_alike one_parse one_answer paths view_a sigs_a program a b p (subst (λ (s : Sigs). AreResults paths view_a s program b) sigs q_seen)
