-- What is asked has one answer at most.
use Rattle.std.proofs.Common.{◌≡◌, ℕ, List, [], ◌∷◌, ◌++◌, map, Bool, true, false, Option, Some, None, refl, sym, ap, ◌∙◌, subst}
use Rattle.std.specs.Prelude.{Ok, if◌then◌else◌}
use Rattle.std.specs.List.{list_any}
use Rattle.std.specs.Str.{bytes_eq}
use Rattle.std.specs.Coded.{Coded, coded_result}
use denote.Struct.Props.{≡_prop}
use mathlib.Core.Logic.{∥∥₁_elim}
use Rattle.asks.specs.contracts.answer.Answer as answer_type
use Rattle.asks.specs.contracts.answer.AskFault as fault_type
use Rattle.flow_base.specs.Program.{Bytes, Program, paths_of}
use Rattle.check_values.specs.Rows.{row_at}
use Rattle.check_values.specs.declared.signatures.Deps.{Deps}
use Rattle.check_values.specs.declared.signatures.Sig.{Sig}
use Rattle.type_values.specs.declared.types.FlowType.{FlowType}
use Rattle.js_grammar.specs.Items.{Module}
use Rattle.full_law.specs.source_front.specs.declared.parse.ParseTree.{ParseTree}
use Rattle.full_law.specs.source_front.specs.declared.parse.ParseTree.TheVariants.{Tree, Broken}
use Rattle.full_law.specs.source_front.specs.declared.parse.Parse.{Parse}
use Rattle.full_law.specs.source_front.specs.Law as law
use Rattle.full_law.specs.source_front.specs.Law.{Seen, seen, Same, OneParse}
use Rattle.module_resolution.specs.Dependencies.{dependencies_of}
use Rattle.merged_signatures.specs.Chains.{Known, View}
use Rattle.errors_by_reach.specs.Seen.{Sigs}
use Rattle.errors_by_reach.specs.Law.{Source, whole, broken, HasErrors}
use Rattle.errors_by_reach.specs.Law as reached
use Rattle.full_law.specs.check_job.specs.Jobs.{source_in, fault_code, fault_place}
use Rattle.full_law.specs.program_check.specs.Full.{Results, beside, known_of, module_in, deps_in, view_in, sigs_in, AreResultsOf}
use Rattle.full_law.specs.program_check.specs.Law.{Alike, AllAlike, OneFull}
use Rattle.shown_types.specs.Shown.{IsShown}
use Rattle.shown_types.specs.Law.{OneType}
use Rattle.asks.specs.declared.answer.Answer.TheVariants.{Faults, Paths, Sig as TheSig}
use Rattle.asks.specs.Places.{errors_at}
use Rattle.asks.specs.declared.ask.Ask.{Ask}
use Rattle.asks.specs.declared.ask.Ask.TheVariants.{Status, Errors, CheckContents, TypeAtPos, FindModule, Ls, Importers, Signature}
use Rattle.answers_law.specs.Answers.{Answered, all_errors, standing, is_found, imports, importers, AreInstead, shown, OfModule, AnswersBy}
use Rattle.answers_law.specs.Law.{OneAnswer}

-- ---- what two full checks say alike

all_known : (a b : List Results) → AllAlike a b → map known_of a ≡ map known_of b
all_known [] [] alike = refl
all_known [] (y ∷ b) alike = absurd alike
all_known (x ∷ a) [] alike = absurd alike
all_known (x ∷ a) (y ∷ b) alike =
    let first : known_of x ≡ known_of y = λ i. record { sig = alike.0.parse.1 i; deps = alike.0.deps i } in
    let rest = all_known a b alike.1 in
    λ i. first i ∷ rest i

all_sigs : (a b : List Results) → AllAlike a b → map (λ r. r.sig) a ≡ map (λ r. r.sig) b
all_sigs [] [] alike = refl
all_sigs [] (y ∷ b) alike = absurd alike
all_sigs (x ∷ a) [] alike = absurd alike
all_sigs (x ∷ a) (y ∷ b) alike = let rest = all_sigs a b alike.1 in λ i. alike.0.sig i ∷ rest i

same_view : (program : Program) (a b : List Results) → AllAlike a b → view_in program a ≡ view_in program b
same_view program a b alike = ap (λ (ks : List Known). row_at (beside program ks)) (all_known a b alike)

same_sigs : (program : Program) (a b : List Results) → AllAlike a b → sigs_in program a ≡ sigs_in program b
same_sigs program a b alike = ap (λ (ss : List Sig). row_at (beside program ss)) (all_sigs a b alike)

same_errors : (program : Program) (a b : List Results) → AllAlike a b → all_errors program a ≡ all_errors program b
same_errors [] [] [] alike = refl
same_errors [] [] (y ∷ b) alike = refl
same_errors [] (x ∷ a) [] alike = refl
same_errors [] (x ∷ a) (y ∷ b) alike = refl
same_errors (m ∷ program) [] [] alike = refl
same_errors (m ∷ program) [] (y ∷ b) alike = absurd alike
same_errors (m ∷ program) (x ∷ a) [] alike = absurd alike
same_errors (m ∷ program) (x ∷ a) (y ∷ b) alike = let rest = same_errors program a b alike.1 in λ i. errors_at m.0 m.1 (alike.0.errors i) ++ rest i

same_imports : (path : Bytes) (x y : Results) → Alike x y → imports path x ≡ imports path y
same_imports path x y alike = ap (λ (d : Deps). list_any (λ row. is_found path row.found) d.rows) alike.deps

same_importers : (path : Bytes) (program : Program) (a b : List Results) → AllAlike a b → importers path program a ≡ importers path program b
same_importers path [] [] [] alike = refl
same_importers path [] [] (y ∷ b) alike = refl
same_importers path [] (x ∷ a) [] alike = refl
same_importers path [] (x ∷ a) (y ∷ b) alike = refl
same_importers path (m ∷ program) [] [] alike = refl
same_importers path (m ∷ program) [] (y ∷ b) alike = absurd alike
same_importers path (m ∷ program) (x ∷ a) [] alike = absurd alike
same_importers path (m ∷ program) (x ∷ a) (y ∷ b) alike =
    let here = same_imports path x y alike.0 in
    let rest = same_importers path program a b alike.1 in
    λ i. if here i then m.0 ∷ rest i else rest i

-- what stands at a path is alike
abbrev AlikeAt : Option (Bytes × Results) → Option (Bytes × Results) → Type 0
AlikeAt None None = Unit {0}
AlikeAt (Some m) (Some n) = (m.0 ≡ n.0) × Alike m.1 n.1
AlikeAt one other = ⊥

alike_at : (path : Bytes) (program : Program) (a b : List Results) → AllAlike a b → AlikeAt (row_at (standing program a) path) (row_at (standing program b) path)
alike_at path [] [] [] alike = tt
alike_at path [] [] (y ∷ b) alike = tt
alike_at path [] (x ∷ a) [] alike = tt
alike_at path [] (x ∷ a) (y ∷ b) alike = tt
alike_at path (m ∷ program) [] [] alike = tt
alike_at path (m ∷ program) [] (y ∷ b) alike = absurd alike
alike_at path (m ∷ program) (x ∷ a) [] alike = absurd alike
alike_at path (m ∷ program) (x ∷ a) (y ∷ b) alike = by (bytes_eq m.0 path) (alike_at path program a b alike.1) where
  by : (here : Bool) → AlikeAt (row_at (standing program a) path) (row_at (standing program b) path)
      → AlikeAt (if here then Some (m.1, x) else row_at (standing program a) path) (if here then Some (m.1, y) else row_at (standing program b) path)
  by true later = (refl, alike.0)
  by false later = later

-- two answers of a module
of_module : (m n : Option (Bytes × Results)) (is also : Bytes → Results → Type 0) (a b : Answered) → AlikeAt m n
    → ((text : Bytes) (x y : Results) → Alike x y → is text x → also text y → a ≡ b) → OfModule m is a → OfModule n also b → a ≡ b
of_module None None is also a b alike known has has_also = has ∙ sym has_also
of_module None (Some n) is also a b alike known has has_also = absurd alike
of_module (Some m) None is also a b alike known has has_also = absurd alike
of_module (Some m) (Some n) is also a b alike known has has_also = known m.0 m.1 n.1 alike.1 has (subst (λ (t : Bytes). also t n.1) (sym alike.0) has_also)

-- ---- sources that say the same

abbrev module_of_seen : Seen → Option Module
module_of_seen (law.whole m spans) = Some m
module_of_seen (law.broken f) = None

module_seen : (t : ParseTree) → module_in t ≡ module_of_seen (seen t)
module_seen (Tree m spans) = refl
module_seen (Broken f) = refl

abbrev source_of_seen : Seen → Source
source_of_seen (law.whole m spans) = whole m spans
source_of_seen (law.broken f) = broken (fault_code f) (fault_place f)

source_seen : (t : ParseTree) → source_in t ≡ source_of_seen (seen t)
source_seen (Tree m spans) = refl
source_seen (Broken f) = refl

same_source : (a b : Parse) → Same a b → source_in a.tree ≡ source_in b.tree
same_source a b s = source_seen a.tree ∙ (ap source_of_seen s.0 ∙ sym (source_seen b.tree))

same_deps : (paths : List Bytes) (path : Bytes) (a b : Parse) → Same a b → deps_in paths path a ≡ deps_in paths path b
same_deps paths path a b s = ap (dependencies_of paths path) (module_seen a.tree ∙ (ap module_of_seen s.0 ∙ sym (module_seen b.tree)))

module _ (one_parse : OneParse) (one_errors : reached.OneAnswer) where
  errors_instead : (paths : List Bytes) (v : View) (s : Sigs) (path text : Bytes) (a b : Results) → AreResultsOf paths v s path text a → AreResultsOf paths v s path text b → a.errors ≡ b.errors
  errors_instead paths v s path text a b p q =
      let same : Same a.parse b.parse = one_parse text a.parse b.parse p.parse q.parse in
      let deps : a.deps ≡ b.deps = p.deps ∙ same_deps paths path a.parse b.parse same ∙ sym q.deps in
      let source : source_in a.parse.tree ≡ source_in b.parse.tree = same_source a.parse b.parse same in
      one_errors path b.deps (source_in b.parse.tree) s a.errors b.errors
      (subst (λ (d : Deps). HasErrors path d (source_in b.parse.tree) s a.errors) deps (subst (λ (x : Source). HasErrors path a.deps x s a.errors) source p.errors)) q.errors

  same_instead : (program : Program) (a b : List Results) (path text : Bytes) (x y : Results) → AllAlike a b → AreInstead program a path text x → AreInstead program b path text y → x.errors ≡ y.errors
  same_instead program a b path text x y alike is also =
      errors_instead (paths_of program) (view_in program a) (sigs_in program a) path text x y is
      (subst (λ (s : Sigs). AreResultsOf (paths_of program) (view_in program a) s path text y) (sym (same_sigs program a b alike))
      (subst (λ (v : View). AreResultsOf (paths_of program) v (sigs_in program b) path text y) (sym (same_view program a b alike)) also))

same_shown : OneType → (program : Program) (a b : List Results) (path text : Bytes) (line column : ℕ) (x y : Results) (t u : Option FlowType) → AllAlike a b → Alike x y
    → IsShown path x.deps (source_in x.parse.tree) (sigs_in program a) text line column t → IsShown path y.deps (source_in y.parse.tree) (sigs_in program b) text line column u → t ≡ u
same_shown one_type program a b path text line column x y t u alike here is also =
    one_type path x.deps (source_in x.parse.tree) (sigs_in program a) text line column t u is
    (subst (λ (d : Deps). IsShown path d (source_in x.parse.tree) (sigs_in program a) text line column u) (sym here.deps)
    (subst (λ (s : Source). IsShown path y.deps s (sigs_in program a) text line column u) (sym (same_source x.parse y.parse here.parse))
    (subst (λ (s : Sigs). IsShown path y.deps (source_in y.parse.tree) s text line column u) (sym (same_sigs program a b alike)) also)))

-- ---- answers

module _ (one_parse : OneParse) (one_errors : reached.OneAnswer) (one_type : OneType) (program : Program) (x y : List Results) (alike : AllAlike x y) where
  answers : (ask : Ask) (a b : Answered) → AnswersBy program x ask a → AnswersBy program y ask b → a ≡ b
  answers Status a b is also = is ∙ ap (λ errors. Ok (Faults errors)) (same_errors program x y alike) ∙ sym also
  answers (Errors path) a b is also =
      of_module (row_at (standing program x) path) (row_at (standing program y) path) _ _ a b (alike_at path program x y alike)
      (λ text r s same has has_also. has ∙ ap (λ faults. Ok (Faults (errors_at path text faults))) same.errors ∙ sym has_also) is also
  answers (CheckContents path text) a b is also =
      of_module (row_at (standing program x) path) (row_at (standing program y) path) _ _ a b (alike_at path program x y alike)
      (λ old r s same has has_also. has.2 ∙ ap (λ faults. Ok (Faults (errors_at path text faults))) (same_instead one_parse one_errors program x y path text has.0 has_also.0 alike has.1 has_also.1) ∙ sym has_also.2) is also
  answers (TypeAtPos path line column) a b is also =
      of_module (row_at (standing program x) path) (row_at (standing program y) path) _ _ a b (alike_at path program x y alike)
      (λ text r s same has has_also. has.2 ∙ ap shown (same_shown one_type program x y path text line column r s has.0 has_also.0 alike same has.1 has_also.1) ∙ sym has_also.2) is also
  answers (FindModule path spec) a b is also =
      of_module (row_at (standing program x) path) (row_at (standing program y) path) _ _ a b (alike_at path program x y alike) (λ text r s same has has_also. has ∙ sym has_also) is also
  answers Ls a b is also = is ∙ sym also
  answers (Importers path) a b is also =
      of_module (row_at (standing program x) path) (row_at (standing program y) path) _ _ a b (alike_at path program x y alike)
      (λ text r s same has has_also. has ∙ ap (λ paths. Ok (Paths paths)) (same_importers path program x y alike) ∙ sym has_also) is also
  answers (Signature path) a b is also =
      of_module (row_at (standing program x) path) (row_at (standing program y) path) _ _ a b (alike_at path program x y alike)
      (λ text r s same has has_also. has ∙ ap (λ sig. Ok (TheSig sig)) same.sig ∙ sym has_also) is also

answered_code : Coded Answered
answered_code = coded_result answer_type.the_row.coded fault_type.the_row.coded

pub one_answer : OneFull → OneParse → reached.OneAnswer → OneType → OneAnswer
one_answer one_full one_parse one_errors one_type program ask a b first second =
    ∥∥₁_elim first (≡_prop answered_code a b) (λ x. ∥∥₁_elim second (≡_prop answered_code a b) (λ y.
    answers one_parse one_errors one_type program x.0 y.0 (one_full program x.0 y.0 x.1 y.1) ask a b x.2 y.2))
