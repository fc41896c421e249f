-- What a user of the root reads off it: what each module was in the old program.
use Rattle.std.proofs.Common.{◌≡◌, ◌≢◌, ℕ, zero, suc, Bool, true, false, not, cond, List, [], ◌∷◌, map, length, slice_get, Option, Some, None, refl, sym, ap, ◌∙◌, subst, arith, bytes_eq}
use Rattle.std.specs.Prelude.{◌↔◌, IsSome}
use Rattle.std.specs.Option.{option_map}
use Rattle.std.specs.Cmp.Lexicographic.{bytes_decides}
use Rattle.std.proofs.lemmas.List.{length-map}
use Rattle.flow_base.specs.Program.{Bytes, Program, text_at}
use Rattle.check_values.specs.declared.root.RootRow.{RootRow}
use Rattle.check_values.specs.declared.root.Root.{Root}
use Rattle.payloads.specs.State.{program_of, IsRoot}
use Rattle.pending_edits.specs.Rows.{row_of, kept_rows, next_from, IsRowOf, AreNumbered, Follows}
use Rattle.affected_law.specs.Affected.{IsPathOf, Parsed}
use Rattle.edited_root.specs.From.{texts_in, number_in, numbers_from, has_text, fresh_from}
use Rattle.edited_root.specs.Numbering.{row_by}
use Rattle.edited_root.proofs.Lists.{one_value, same_paths}
use Rattle.edited_root.proofs.Rooted.{row_by_number, root_rising}
use Rattle.edited_root.proofs.Walked.{number_here}

-- what stands beside a module in a list that was made of the modules
beside_module : {X : Type 0} (f : RootRow → X) (ms : List RootRow) (x : ℕ) (m : RootRow) → slice_get ms x ≡ Some m → slice_get (map f ms) x ≡ Some (f m)
beside_module f [] x m at = absurd (let z : None ≡ Some m = at in cc)
beside_module f (n ∷ ms) zero m at = ap (λ (r : RootRow). Some (f r)) (one_value n m at)
beside_module f (n ∷ ms) (suc x) m at = beside_module f ms x m at

-- the module of a number
module_of : (ms : List RootRow) (path : Bytes) (o : ℕ) → number_in ms path ≡ Some o → (n : RootRow) × (slice_get ms o ≡ Some n) × (n.path ≡ path) × (text_at (texts_in ms) path ≡ Some n.text)
module_of [] path o is = absurd (let z : None ≡ Some o = is in cc)
module_of (m ∷ ms) path o is = go (bytes_eq m.path path) refl (number_in ms path) refl is (λ k e. module_of ms path k e)
  where
    go : (b : Bool) → bytes_eq m.path path ≡ b → (q : Option ℕ) → number_in ms path ≡ q → cond b (Some 0) (option_map suc q) ≡ Some o
        → ((k : ℕ) → number_in ms path ≡ Some k → (n : RootRow) × (slice_get ms k ≡ Some n) × (n.path ≡ path) × (text_at (texts_in ms) path ≡ Some n.text))
        → (n : RootRow) × (slice_get (m ∷ ms) o ≡ Some n) × (n.path ≡ path) × (cond (bytes_eq m.path path) (Some m.text) (text_at (texts_in ms) path) ≡ Some n.text)
    go true e q f h later =
        let first : 0 ≡ o = one_value 0 o h in
        (m, ap (slice_get (m ∷ ms)) (sym first), (bytes_decides m.path path).0 e, ap (λ (b : Bool). cond b (Some m.text) (text_at (texts_in ms) path)) e)
    go false e None f h later = absurd (let z : None ≡ Some o = h in cc)
    go false e (Some k) f h later =
        let next : suc k ≡ o = one_value (suc k) o h in
        let r = later k f in
        (r.0, ap (slice_get (m ∷ ms)) (sym next) ∙ r.1, r.2, ap (λ (b : Bool). cond b (Some m.text) (text_at (texts_in ms) path)) e ∙ r.3)

-- a path without a number is none of the modules'
no_module : (ms : List RootRow) (path : Bytes) → number_in ms path ≡ None → text_at (texts_in ms) path ≡ None
no_module [] path is = refl
no_module (m ∷ ms) path is = go (bytes_eq m.path path) (number_in ms path) refl is (λ e. no_module ms path e)
  where
    go : (b : Bool) (q : Option ℕ) → number_in ms path ≡ q → cond b (Some 0) (option_map suc q) ≡ None → (number_in ms path ≡ None → text_at (texts_in ms) path ≡ None) → cond b (Some m.text) (text_at (texts_in ms) path) ≡ None
    go true q f h later = absurd (let z : Some 0 ≡ None = h in cc)
    go false None f h later = later f
    go false (Some k) f h later = absurd (let z : Some (suc k) ≡ None = h in cc)

module _ (old new : Root) (from : List (Option ℕ)) (is : from ≡ numbers_from old new) where
  pub many_from : length from ≡ length new.modules
  many_from = ap length is ∙ length-map new.modules (λ (m : RootRow). number_in old.modules m.path)

  number_at : (x : ℕ) (m : RootRow) (o : Option ℕ) → slice_get new.modules x ≡ Some m → slice_get from x ≡ Some o → number_in old.modules m.path ≡ o
  number_at x m o at has = one_value (number_in old.modules m.path) o (sym (beside_module (λ (m : RootRow). number_in old.modules m.path) new.modules x m at) ∙ (ap (λ (l : List (Option ℕ)). slice_get l x) (sym is) ∙ has))

  pub number_there : (x : ℕ) (m : RootRow) → slice_get new.modules x ≡ Some m → slice_get from x ≡ Some (number_in old.modules m.path)
  number_there x m at = ap (λ (l : List (Option ℕ)). slice_get l x) is ∙ beside_module (λ (m : RootRow). number_in old.modules m.path) new.modules x m at

  -- the module was this one
  pub was_module : (x o : ℕ) (m : RootRow) → slice_get new.modules x ≡ Some m → slice_get from x ≡ Some (Some o) → (n : RootRow) × (slice_get old.modules o ≡ Some n) × (n.path ≡ m.path)
  was_module x o m at has = (let r = module_of old.modules m.path o (number_at x m (Some o) at has) in (r.0, r.1, r.2))

  -- it was none
  pub was_none : (x : ℕ) (m : RootRow) → slice_get new.modules x ≡ Some m → slice_get from x ≡ Some None → text_at (program_of old) m.path ≡ None
  was_none x m at has = no_module old.modules m.path (number_at x m None at has)

  -- a module that was one keeps its row
  pub keeps_row : (x o : ℕ) (m n : RootRow) → Follows old (program_of new) new → slice_get new.modules x ≡ Some m → slice_get from x ≡ Some (Some o) → slice_get old.modules o ≡ Some n → m.row ≡ n.row
  keeps_row x o m n follows at has there =
      let number = number_at x m (Some o) at has in
      let row : row_of old.modules m.path ≡ Some n.row = sym (row_by_number old.modules m.path) ∙ (ap (row_by old.modules) number ∙ ap (option_map (λ (r : RootRow). r.row)) there) in
      row_kept (kept_rows old.modules (program_of new)) 0 new.modules x m n.row follows at row
    where
      row_kept : (taken : List ℕ) (first : ℕ) (ms : List RootRow) (x : ℕ) (m : RootRow) (k : ℕ) → AreNumbered old.modules taken first (texts_in ms) ms → slice_get ms x ≡ Some m → row_of old.modules m.path ≡ Some k → m.row ≡ k
      row_kept taken first [] x m k are at row = absurd (let z : None ≡ Some m = at in cc)
      row_kept taken first (r ∷ ms) zero m k are at row =
          let same : r ≡ m = one_value r m at in
          ap (λ (s : RootRow). s.row) (sym same) ∙ subst (λ (o : Option ℕ). IsRowOf taken first o r.row) (ap (λ (s : RootRow). row_of old.modules s.path) same ∙ row) are.2
      row_kept taken first (r ∷ ms) (suc x) m k are at row = row_kept taken (next_from first (row_of old.modules r.path) r.row) ms x m k are.3 at row

module _ (old new : Root) (fresh : List Bool) (is : fresh ≡ fresh_from old new) where
  pub many_fresh : length fresh ≡ length new.modules
  many_fresh = ap length is ∙ length-map new.modules (λ (m : RootRow). not (has_text (text_at (program_of old) m.path) m.text))

  flag_at : (x : ℕ) (m : RootRow) (b : Bool) → slice_get new.modules x ≡ Some m → slice_get fresh x ≡ Some b → not (has_text (text_at (program_of old) m.path) m.text) ≡ b
  flag_at x m b at has =
      one_value (not (has_text (text_at (program_of old) m.path) m.text)) b
      (sym (beside_module (λ (m : RootRow). not (has_text (text_at (program_of old) m.path) m.text)) new.modules x m at) ∙ (ap (λ (l : List Bool). slice_get l x) (sym is) ∙ has))

  -- a module that is not fresh has the text that it had
  pub same_text : (x : ℕ) (m : RootRow) → slice_get new.modules x ≡ Some m → slice_get fresh x ≡ Some false → text_at (program_of old) m.path ≡ Some m.text
  same_text x m at has = go (text_at (program_of old) m.path) (flag_at x m false at has)
    where
      go : (o : Option Bytes) → not (has_text o m.text) ≡ false → o ≡ Some m.text
      go None e = absurd (let z : true ≡ false = e in cc)
      go (Some t) e = ap Some ((bytes_decides t m.text).0 (yes (bytes_eq t m.text) e))
        where
          yes : (b : Bool) → not b ≡ false → b ≡ true
          yes true e = refl
          yes false e = absurd (let z : true ≡ false = e in cc)

  -- so it was one, with that text
  pub kept_text : (from : List (Option ℕ)) → from ≡ numbers_from old new → (x : ℕ) (m : RootRow) → slice_get new.modules x ≡ Some m → slice_get fresh x ≡ Some false
      → (o : ℕ) × (n : RootRow) × (slice_get from x ≡ Some (Some o)) × (slice_get old.modules o ≡ Some n) × (n.path ≡ m.path) × (n.text ≡ m.text)
  kept_text from are x m at has = go (number_in old.modules m.path) refl (same_text x m at has)
    where
      go : (q : Option ℕ) → number_in old.modules m.path ≡ q → text_at (program_of old) m.path ≡ Some m.text
          → (o : ℕ) × (n : RootRow) × (slice_get from x ≡ Some (Some o)) × (slice_get old.modules o ≡ Some n) × (n.path ≡ m.path) × (n.text ≡ m.text)
      go None e text = absurd (let z : None ≡ Some m.text = sym (no_module old.modules m.path e) ∙ text in cc)
      go (Some o) e text =
          let r = module_of old.modules m.path o e in
          (o, r.0, number_there old new from are x m at ∙ ap Some e, r.1, r.2, one_value r.0.text m.text (sym r.3 ∙ text))

  -- the fresh ones are those that are parsed
  pub fresh_parsed : (n x : ℕ) (m : RootRow) → IsRoot n new → slice_get new.modules x ≡ Some m → (slice_get fresh x ≡ Some true) ↔ Parsed (program_of old) (program_of new) m.path
  fresh_parsed n x m root at = (there, back)
    where
      mine : text_at (program_of new) m.path ≡ Some m.text
      mine = (number_here new.modules x m (root_rising n new root) at).1

      flag : slice_get fresh x ≡ Some (not (has_text (text_at (program_of old) m.path) m.text))
      flag = ap (λ (l : List Bool). slice_get l x) is ∙ beside_module (λ (m : RootRow). not (has_text (text_at (program_of old) m.path) m.text)) new.modules x m at

      has_same : has_text (Some m.text) m.text ≡ true
      has_same = (bytes_decides m.text m.text).1 refl

      there : slice_get fresh x ≡ Some true → Parsed (program_of old) (program_of new) m.path
      there on = (
        subst IsSome (sym mine) refl,
        λ same. (let z : false ≡ true = sym (ap (λ (o : Option Bytes). not (has_text o m.text)) (sym same ∙ mine) ∙ ap not has_same) ∙ flag_at x m true at on in cc),
      )

      back : Parsed (program_of old) (program_of new) m.path → slice_get fresh x ≡ Some true
      back parsed = flag ∙ ap Some (off (text_at (program_of old) m.path) (λ e. parsed.1 (mine ∙ sym e)))
        where
          off : (o : Option Bytes) → (o ≡ Some m.text → ⊥) → not (has_text o m.text) ≡ true
          off None never = refl
          off (Some t) never = no (bytes_eq t m.text) refl
            where
              no : (b : Bool) → bytes_eq t m.text ≡ b → not b ≡ true
              no true e = absurd (never (ap Some ((bytes_decides t m.text).0 e)))
              no false e = refl
