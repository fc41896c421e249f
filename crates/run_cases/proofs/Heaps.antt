-- A heap for three modules that has none.
use Rattle.std.proofs.Common.{◌≡◌, ℕ, zero, suc, ◌+◌, ◌*◌, ◌-◌, ◌^◌, ◌<◌, ◌≤◌, List, [], ◌∷◌, replicate, length, slice_get, Some, None, sym, ap, ◌∙◌, subst, arith, lit<}
use Rattle.std.proofs.lemmas.List.{length-replicate}
use Rattle.std.proofs.lemmas.Option.{same_Some}
use Rattle.heap_core.specs.Meaning.{Meaning, AllFit, opening}
use Rattle.flow_values.specs.Path.{IsRising}
use Rattle.check_values.specs.Roots.{paths_of, paths_of_rows}
use Rattle.check_values.specs.declared.root.RootRow.{RootRow}
use Rattle.check_values.specs.declared.root.Root.{Root}
use Rattle.payloads.specs.State.{fits, payload_at}
use Rattle.payloads.specs.declared.payload.Payload.{Payload}
use Rattle.payloads.specs.declared.payload.Payload.TheVariants as payload
use Rattle.pending_edits.specs.Counting.{counted}
use Rattle.pending_edits.specs.Pending.{Pending}
use Rattle.recheck_run.specs.Recheck.{Commits}
use Rattle.run_cases.specs.Heaps.{IsEmpty}

abbrev no_modules : Root
no_modules = record { modules = [] }

abbrev nothing_in : ℕ → List Payload
nothing_in k = replicate k payload.Absent

absent_there : (k e : ℕ) (x : Payload) → slice_get (nothing_in k) e ≡ Some x → x ≡ payload.Absent
absent_there zero e x at = absurd (let z : None ≡ Some x = at in cc)
absent_there (suc k) zero x at = sym (same_Some payload.Absent x at)
absent_there (suc k) (suc e) x at = absent_there k e x at

stands_empty : (k e : ℕ) (x : Payload) → slice_get (payload.Root no_modules ∷ nothing_in k) e ≡ Some x → x ≡ payload_at no_modules [] e
stands_empty k zero x at = sym (same_Some (payload.Root no_modules) x at)
stands_empty k (suc e) x at = absent_there k e x at

-- a heap whose root names no module fits
pub empty_fits : (k : ℕ) (root absent : Payload) → root ≡ payload.Root no_modules → absent ≡ payload.Absent → AllFit fits (root ∷ replicate k absent)
empty_fits k root absent is none =
    subst (λ (r : Payload). AllFit fits (r ∷ replicate k absent)) (sym is) (subst (λ (a : Payload). AllFit fits (payload.Root no_modules ∷ replicate k a)) (sym none) fitting)
  where
    fitting : AllFit fits (payload.Root no_modules ∷ nothing_in k)
    fitting root first e x at =
        subst (λ (r : Payload). fits (length (payload.Root no_modules ∷ nothing_in k)) r e x) (same_Some (payload.Root no_modules) root first)
        (record { rising = tt; rows = tt; room = tt }, ∣ ([], tt, stands_empty k e x at) ∣₁)

-- a heap that was just opened
pub empty_is : (m : Meaning Payload) (root absent : Payload) → m ≡ opening (root ∷ replicate 12 absent) → root ≡ payload.Root no_modules → IsEmpty m
empty_is m root absent is is_root = record {
  commits = ap (λ (k : Meaning Payload). slice_get k.committed 0) is ∙ ap Some is_root;
  version = ap (λ (k : Meaning Payload). k.version) is;
  closed = ap (λ (k : Meaning Payload). k.is_open) is;
  room = record { entities = ap (λ (k : Meaning Payload). length k.committed) is; numbered = lit< tt };
}

same_root : (root old : Root) → payload.Root root ≡ payload.Root old → root ≡ old
same_root root old same = cc

-- on it no more modules are counted than on a program without any
pub few : (m : Meaning Payload) (e : Pending) → IsEmpty m → counted [] e.edits ≤ 3 → e.capacity ≡ 3 → (old : Root) → Commits m old → counted (paths_of old) e.edits ≤ e.capacity
few m e empty small is old at =
    let same = same_root no_modules old (same_Some _ _ (sym empty.commits ∙ at)) in
    subst (λ (r : Root). counted (paths_of r) e.edits ≤ e.capacity) same (subst (λ (k : ℕ). counted [] e.edits ≤ k) (sym is) small)

rising_rows : (rows : List RootRow) → length rows ≡ 1 → IsRising (paths_of_rows rows)
rising_rows [] one = absurd (omega (arith, one))
rising_rows (row ∷ []) one = tt
rising_rows (row ∷ next ∷ more) one = absurd (omega (arith, one))

-- the path of one module rises
pub rising_one : (root : Root) → length root.modules ≡ 1 → IsRising (paths_of root)
rising_one root one = rising_rows root.modules one
