-- What is asked has an answer.
use Rattle.std.proofs.Common.{◌≡◌, List, [], ◌∷◌, map, Bool, true, false, Option, Some, None, refl, sym, ap, ◌∙◌, subst}
use Rattle.std.specs.Prelude.{Ok, Err, if◌then◌else◌}
use Rattle.std.specs.Str.{bytes_eq}
use Rattle.std.specs.Cmp.Lexicographic.{bytes_decides}
use Rattle.flow_base.specs.Program.{Bytes, Program, paths_of}
use Rattle.check_values.specs.Rows.{row_at}
use Rattle.check_values.specs.declared.signatures.Sig.{Sig}
use Rattle.full_law.specs.source_front.specs.declared.parse.Parse.{Parse}
use Rattle.full_law.specs.source_front.specs.Front.{IsParse}
use Rattle.merged_signatures.specs.Chains.{View}
use Rattle.merged_signatures.specs.Merged.{merged}
use Rattle.errors_by_reach.specs.Seen.{Sigs}
use Rattle.errors_law.specs.Law.{EachHasErrors}
use Rattle.full_law.specs.check_job.specs.Jobs.{source_in}
use Rattle.full_law.specs.program_check.specs.Full.{Results, beside, deps_in, view_in, sigs_in, AreResults, IsFull}
use Rattle.full_law.specs.Law.{EachFull}
use Rattle.shown_types.specs.Law.{EachHasType}
use Rattle.asks.specs.declared.answer.Answer.TheVariants.{Faults, Found, Paths, Sig as TheSig}
use Rattle.asks.specs.declared.answer.AskFault.TheVariants.{UnknownPath}
use Rattle.asks.specs.Places.{errors_at}
use Rattle.asks.specs.declared.ask.Ask.{Ask}
use Rattle.asks.specs.declared.ask.Ask.TheVariants.{Status, Errors, CheckContents, TypeAtPos, FindModule, Ls, Importers, Signature}
use Rattle.module_resolution.specs.Resolution.{resolved}
use Rattle.type_values.specs.declared.types.FlowType.{FlowType}
use Rattle.shown_types.specs.Shown.{IsShown}
use Rattle.std.proofs.lemmas.Option.{none-some}
use Rattle.answers_law.specs.Answers.{Answered, all_errors, standing, importers, AreInstead, shown, OfModule, AnswersBy}
use Rattle.answers_law.specs.Law.{EachHasAnswer}

-- a source says something by itself: it is a program of one module
parse_of : EachFull → (text : Bytes) → (p : Parse) × IsParse text p
parse_of each text = by (each (([], text) ∷ [])) where
  by : (results : List Results) × IsFull (([], text) ∷ []) results → (p : Parse) × IsParse text p
  by ([], full) = absurd full
  by (r ∷ [], full) = (r.parse, full.0.parse)
  by (r ∷ s ∷ more, full) = absurd full.1

-- what stands at a path was merged, and has its results
abbrev HasMerged : View → Bytes → Type 0
HasMerged view path = (sig : Sig) × (merged view path ≡ Some sig)

merged_at : (paths : List Bytes) (view : View) (sigs : Sigs) (path : Bytes) (program : Program) (results : List Results) → AreResults paths view sigs program results
    → (m : Bytes × Results) → row_at (standing program results) path ≡ Some m → HasMerged view path
merged_at paths view sigs path [] [] are m is = absurd (none-some m is)
merged_at paths view sigs path [] (r ∷ results) are m is = absurd are
merged_at paths view sigs path (n ∷ program) [] are m is = absurd are
merged_at paths view sigs path (n ∷ program) (r ∷ results) are m is =
    by (bytes_eq n.0 path) refl (λ there. merged_at paths view sigs path program results are.1 m there) where
      by : (here : Bool) → bytes_eq n.0 path ≡ here → (row_at (standing program results) path ≡ Some m → HasMerged view path) → HasMerged view path
      by true here later = (r.sig, subst (λ p. merged view p ≡ Some r.sig) ((bytes_decides n.0 path).0 here) are.0.sig)
      by false here later = later (sym (ap (λ b. if b then Some (n.1, r) else row_at (standing program results) path) here) ∙ is)

-- what is asked of a module that stands there has an answer, and else its path is unknown
at_module : (there : Option (Bytes × Results)) (is : Bytes → Results → Answered → Type 0) → ((m : Bytes × Results) → there ≡ Some m → (answer : Answered) × is m.0 m.1 answer)
    → (answer : Answered) × OfModule there (λ text r. is text r answer) answer
at_module None is known = (Err UnknownPath, refl)
at_module (Some m) is known = known m refl

module _ (each : EachFull) (errors : EachHasErrors) (types : EachHasType) (program : Program) (results : List Results) (full : IsFull program results) where
  instead : (path text : Bytes) → (m : Bytes × Results) → row_at (standing program results) path ≡ Some m → (r : Results) × AreInstead program results path text r
  instead path text m is =
      let parse = parse_of each text in
      let deps = deps_in (paths_of program) path parse.0 in
      let sig = merged_at (paths_of program) (view_in program results) (sigs_in program results) path program results full m is in
      let found = errors path deps (source_in parse.0.tree) (beside program (map (λ r. r.sig) results)) in
      (record { parse = parse.0; deps = deps; sig = sig.0; errors = found.0 }, record { parse = parse.1; deps = refl; sig = sig.1; errors = found.1 })

  some_answer : (ask : Ask) → (answer : Answered) × AnswersBy program results ask answer
  some_answer Status = (Ok (Faults (all_errors program results)), refl)
  some_answer (Errors path) =
      at_module (row_at (standing program results) path) (λ text r answer. answer ≡ Ok (Faults (errors_at path text r.errors))) (λ m is. (Ok (Faults (errors_at path m.0 m.1.errors)), refl))
  some_answer (CheckContents path text) =
      at_module (row_at (standing program results) path) (λ old s answer. (r : Results) × AreInstead program results path text r × (answer ≡ Ok (Faults (errors_at path text r.errors))))
      (λ m is. let r = instead path text m is in (Ok (Faults (errors_at path text r.0.errors)), (r.0, r.1, refl)))
  some_answer (TypeAtPos path line column) =
      at_module (row_at (standing program results) path) (λ text r answer. (t : Option FlowType) × IsShown path r.deps (source_in r.parse.tree) (sigs_in program results) text line column t × (answer ≡ shown t))
      (λ m is. let t = types path m.1.deps (source_in m.1.parse.tree) (beside program (map (λ r. r.sig) results)) m.0 line column in (shown t.0, (t.0, t.1, refl)))
  some_answer (FindModule path spec) =
      at_module (row_at (standing program results) path) (λ text r answer. answer ≡ Ok (Found (resolved (paths_of program) path spec))) (λ m is. (Ok (Found (resolved (paths_of program) path spec)), refl))
  some_answer Ls = (Ok (Paths (paths_of program)), refl)
  some_answer (Importers path) =
      at_module (row_at (standing program results) path) (λ text r answer. answer ≡ Ok (Paths (importers path program results))) (λ m is. (Ok (Paths (importers path program results)), refl))
  some_answer (Signature path) = at_module (row_at (standing program results) path) (λ text r answer. answer ≡ Ok (TheSig r.sig)) (λ m is. (Ok (TheSig m.1.sig), refl))

pub each_answer : EachFull → EachHasErrors → EachHasType → EachHasAnswer
each_answer each errors types program ask =
    let full = each program in
    let answer = some_answer each errors types program full.0 full.1 ask in
    (answer.0, ∣ (full.0, full.1, answer.1) ∣₁)
