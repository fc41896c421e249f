-- What the modules of the edited program were.
use Rattle.std.proofs.Common.{◌≡◌, ℕ, zero, suc, Bool, true, false, cond, List, [], ◌∷◌, slice_get, Option, Some, None, option_map, bytes_eq, refl, ap, subst}
use Rattle.std.specs.Cmp.Lexicographic.{bytes_decides}
use Rattle.flow_base.specs.Program.{Bytes, text_at}
use Rattle.check_values.specs.Roots.{paths_of_rows}
use Rattle.check_values.specs.declared.root.RootRow.{RootRow}
use Rattle.check_values.specs.declared.faults.Errs.{Errs}
use Rattle.check_values.specs.declared.signatures.Deps.{Deps}
use Rattle.check_values.specs.declared.signatures.Sig.{Sig}
use Rattle.recheck_merging.specs.source_front.specs.declared.parse.Parse.{Parse}
use Rattle.recheck_merging.specs.check_phases.specs.Phases.{results_by}
use Rattle.recheck_merging.specs.check_phases.proofs.Lists.{one_value}
use Rattle.edited_root.specs.From.{texts_in, number_in}

-- a module that had a number stood there
pub number_stands : (ms : List RootRow) (path : Bytes) (o : ℕ) → number_in ms path ≡ Some o → slice_get (paths_of_rows ms) o ≡ Some path
number_stands [] path o is = absurd (let z : None ≡ Some o = is in cc)
number_stands (m ∷ ms) path o is = go (bytes_eq m.path path) refl (number_in ms path) refl (number_stands ms path) is
  where
    go : (b : Bool) → bytes_eq m.path path ≡ b → (n : Option ℕ) → number_in ms path ≡ n → ((p : ℕ) → number_in ms path ≡ Some p → slice_get (paths_of_rows ms) p ≡ Some path) → cond b (Some 0) (option_map suc n) ≡ Some o
        → slice_get (m.path ∷ paths_of_rows ms) o ≡ Some path
    go true e n at rest h = subst (λ (k : ℕ). slice_get (m.path ∷ paths_of_rows ms) k ≡ Some path) (one_value 0 o h) (ap Some ((bytes_decides m.path path).0 e))
    go false e None at rest h = absurd (let z : None ≡ Some o = h in cc)
    go false e (Some p) at rest h = subst (λ (k : ℕ). slice_get (m.path ∷ paths_of_rows ms) k ≡ Some path) (one_value (suc p) o h) (rest p at)

-- one that had none has no old text
pub no_number : (ms : List RootRow) (path : Bytes) → number_in ms path ≡ None → text_at (texts_in ms) path ≡ None
no_number [] path is = refl
no_number (m ∷ ms) path is = go (bytes_eq m.path path) (number_in ms path) refl (no_number ms path) is
  where
    go : (b : Bool) (n : Option ℕ) → number_in ms path ≡ n → (number_in ms path ≡ None → text_at (texts_in ms) path ≡ None) → cond b (Some 0) (option_map suc n) ≡ None → cond b (Some m.text) (text_at (texts_in ms) path) ≡ None
    go true n at rest h = absurd (let z : Some 0 ≡ None = h in cc)
    go false None at rest h = rest at
    go false (Some p) at rest h = absurd (let z : Some (suc p) ≡ None = h in cc)

-- the results of a number
pub results_get : (parses : List Parse) (lists : List Deps) (sigs : List Sig) (errors : List Errs) (x : ℕ) (p : Parse) (d : Deps) (s : Sig) (e : Errs) → slice_get parses x ≡ Some p → slice_get lists x ≡ Some d → slice_get sigs x ≡ Some s → slice_get errors x ≡ Some e
    → slice_get (results_by parses lists sigs errors) x ≡ Some (record { parse = p; deps = d; sig = s; errors = e.faults })
results_get [] lists sigs errors x p d s e a b c f = absurd (let z : None ≡ Some p = a in cc)
results_get (q ∷ parses) [] sigs errors x p d s e a b c f = absurd (let z : None ≡ Some d = b in cc)
results_get (q ∷ parses) (r ∷ lists) [] errors x p d s e a b c f = absurd (let z : None ≡ Some s = c in cc)
results_get (q ∷ parses) (r ∷ lists) (t ∷ sigs) [] x p d s e a b c f = absurd (let z : None ≡ Some e = f in cc)
results_get (q ∷ parses) (r ∷ lists) (t ∷ sigs) (u ∷ errors) zero p d s e a b c f =
    let qa = one_value q p a in let rb = one_value r d b in let tc = one_value t s c in let uf = one_value u e f in
    λ j. Some (record { parse = qa j; deps = rb j; sig = tc j; errors = (uf j).faults })
results_get (q ∷ parses) (r ∷ lists) (t ∷ sigs) (u ∷ errors) (suc x) p d s e a b c f = results_get parses lists sigs errors x p d s e a b c f
