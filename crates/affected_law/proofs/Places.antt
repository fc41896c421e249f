-- What a full check says of a path.
use Rattle.std.proofs.Common.{◌≡◌, Bool, true, false, cond, List, [], ◌∷◌, map, Option, Some, None, is_some, option_map, bytes_eq, refl, sym, ap, ◌∙◌, subst}
use Rattle.std.specs.Cmp.Lexicographic.{bytes_decides}
use Rattle.flow_base.specs.Program.{Bytes, Program, paths_of, text_at}
use Rattle.check_values.specs.Rows.{row_at}
use Rattle.merged_signatures.specs.Chains.{View}
use Rattle.merged_signatures.specs.Merged.{merged_known, merged}
use Rattle.reach_law.specs.errors_by_reach.specs.Seen.{Sigs}
use Rattle.program_check.specs.Full.{Results, beside, known_of, view_in, sigs_in, AreResultsOf, AreResults, IsFull}
use Rattle.affected_law.specs.Affected.{IsPathOf, results_at}
use Rattle.affected_law.specs.Kept.{IsModuleOf}

pub some_same : {X : Type 0} (x y : X) → Some x ≡ Some y → x ≡ y
some_same x y e = cc

-- one value stands at a path
pub one_at : {X : Type 0} (o : Option X) (x y : X) → o ≡ Some x → o ≡ Some y → x ≡ y
one_at o x y e f = some_same x y (sym e ∙ f)

pub is_path : (program : Program) (path text : Bytes) → text_at program path ≡ Some text → IsPathOf program path
is_path program path text at = ap is_some at

module _ (paths : List Bytes) (view : View) (sigs : Sigs) where
  -- a module of this text stands at the path, and these are its results
  abbrev StandsAt : Program → Bytes → Results → Type 0
  StandsAt program path r = (text : Bytes) × (text_at program path ≡ Some text) × AreResultsOf paths view sigs path text r

  stands_at : (program : Program) (results : List Results) (path : Bytes) (r : Results) → AreResults paths view sigs program results → results_at program results path ≡ Some r → StandsAt program path r
  stands_at [] results path r are at = absurd (let z : None ≡ Some r = at in cc)
  stands_at (m ∷ program) [] path r are at = absurd are
  stands_at (m ∷ program) (x ∷ results) path r are at = go (bytes_eq m.0 path) refl (λ h. stands_at program results path r are.1 h) at
    where
      go : (b : Bool) → bytes_eq m.0 path ≡ b → (results_at program results path ≡ Some r → StandsAt program path r) → cond b (Some x) (results_at program results path) ≡ Some r →
          (text : Bytes) × (cond b (Some m.1) (text_at program path) ≡ Some text) × AreResultsOf paths view sigs path text r
      go true e rest h = (m.1, refl, subst (AreResultsOf paths view sigs path m.1) (some_same x r h) (subst (λ (p : Bytes). AreResultsOf paths view sigs p m.1 x) ((bytes_decides m.0 path).0 e) are.0))
      go false e rest h = rest h

-- the results at a path are those of a module
pub module_at : (program : Program) (results : List Results) (path : Bytes) (r : Results) → IsFull program results → results_at program results path ≡ Some r → (text : Bytes) × IsModuleOf program results path text r
module_at program results path r full at =
    let a = stands_at (paths_of program) (view_in program results) (sigs_in program results) program results path r full at in
    (a.0, record { full = full; has_text = a.1; has_results = at })

pub module_results : (program : Program) (results : List Results) (path text : Bytes) (r : Results) → IsModuleOf program results path text r → AreResultsOf (paths_of program) (view_in program results) (sigs_in program results) path text r
module_results program results path text r m =
    let a = stands_at (paths_of program) (view_in program results) (sigs_in program results) program results path r m.full m.has_results in
    subst (λ (t : Bytes). AreResultsOf (paths_of program) (view_in program results) (sigs_in program results) path t r) (one_at (text_at program path) a.0 text a.1 m.has_text) a.2

module _ {X Y : Type 0} (f : X → Y) where
  -- what stands at a path beside what was made of each value
  pub made_at : (program : Program) (xs : List X) (path : Bytes) → row_at (beside program (map f xs)) path ≡ option_map f (row_at (beside program xs) path)
  made_at [] xs path = refl
  made_at (m ∷ program) [] path = refl
  made_at (m ∷ program) (x ∷ xs) path = go (bytes_eq m.0 path) (made_at program xs path)
    where
      go : (b : Bool) → row_at (beside program (map f xs)) path ≡ option_map f (row_at (beside program xs) path) →
          cond b (Some (f x)) (row_at (beside program (map f xs)) path) ≡ option_map f (cond b (Some x) (row_at (beside program xs) path))
      go true rest = refl
      go false rest = rest

-- what merging knows of a path
pub known_at : (program : Program) (results : List Results) (path : Bytes) (o : Option Results) → results_at program results path ≡ o → view_in program results path ≡ option_map known_of o
known_at program results path o is = made_at known_of program results path ∙ ap (option_map known_of) is

-- the signatures of a full check are the merged ones
pub sigs_are_merged : (program : Program) (results : List Results) (path : Bytes) → IsFull program results → sigs_in program results path ≡ merged (view_in program results) path
sigs_are_merged program results path full = go (results_at program results path) refl
  where
    sig_at : (o : Option Results) → results_at program results path ≡ o → sigs_in program results path ≡ option_map (λ (r : Results). r.sig) o
    sig_at o is = made_at (λ (r : Results). r.sig) program results path ∙ ap (option_map (λ (r : Results). r.sig)) is

    go : (o : Option Results) → results_at program results path ≡ o → sigs_in program results path ≡ merged (view_in program results) path
    go None is = sig_at None is ∙ sym (ap (option_map (merged_known (view_in program results) path)) (known_at program results path None is))
    go (Some r) is =
        let m = module_at program results path r full is in
        sig_at (Some r) is ∙ sym (module_results program results path m.0 r m.1).sig
