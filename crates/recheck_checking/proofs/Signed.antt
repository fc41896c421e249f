-- The signatures of modules by their paths.
use Rattle.std.proofs.Common.{◌≡◌, ℕ, zero, suc, ◌+◌, ◌<◌, List, [], ◌∷◌, ◌++◌, map, length, take, get_or, slice_get, Some, None, refl, sym, ap, ◌∙◌, subst, arith}
use Rattle.check_values.specs.Rows.{Bytes, Rows, row_at}
use Rattle.check_values.specs.declared.root.RootRow.{RootRow}
use Rattle.check_values.specs.declared.signatures.Deps.{Deps}
use Rattle.check_values.specs.declared.signatures.Sig.{Sig}
use Rattle.errors_by_reach.specs.Law.{Agree}
use Rattle.heap_core.proofs.Lists.{get_index}
use Rattle.edited_root.specs.program_check.specs.Full.{beside}
use Rattle.recheck_merging.specs.check_phases.specs.Whole.{sigs_by}
use Rattle.recheck_merging.specs.check_phases.specs.declared.merging.Sources.{Sources}
use Rattle.recheck_merging.specs.check_phases.proofs.Lists.{one_value, place_at, take_whole}
use Rattle.recheck_merging.specs.check_job.specs.signature_table.specs.declared.table.SignatureTable.{SignatureTable}
use Rattle.signature_reach.specs.Along.{signed, AgreeForAll}
use Rattle.recheck_checking.specs.Checking.{TellsAll}

signed_beside : (ms : List RootRow) (sigs : List Sig) → signed ms sigs ≡ beside (map (λ (m : RootRow). (m.path, m.text)) ms) sigs
signed_beside [] sigs = refl
signed_beside (m ∷ ms) [] = refl
signed_beside (m ∷ ms) (s ∷ sigs) = ap (λ (rows : Rows Sig). (m.path, s) ∷ rows) (signed_beside ms sigs)

agree_there : (s : Sources) (sigs : List Sig) (ms : List RootRow) (deps : Deps) (some : Rows Sig) → ms ≡ s.root.modules → Agree (row_at (signed ms sigs)) deps (row_at some) → Agree (sigs_by s sigs) deps (row_at some)
agree_there s sigs ms deps some same agree =
    subst (λ (rows : Rows Sig). Agree (row_at rows) deps (row_at some)) (signed_beside s.root.modules sigs) (subst (λ (l : List RootRow). Agree (row_at (signed l sigs)) deps (row_at some)) same agree)

-- ---- all signatures

signed_last : (ms : List RootRow) (sigs : List Sig) (i : ℕ) (m : RootRow) (sig : Sig) → slice_get ms i ≡ Some m → slice_get sigs i ≡ Some sig → signed (take (i + 1) ms) (take (i + 1) sigs) ≡ signed (take i ms) (take i sigs) ++ (m.path, sig) ∷ []
signed_last [] sigs i m sig at_m at_sig = absurd (let z : None ≡ Some m = at_m in cc)
signed_last (n ∷ ms) [] i m sig at_m at_sig = absurd (let z : None ≡ Some sig = at_sig in cc)
signed_last (n ∷ ms) (s ∷ sigs) zero m sig at_m at_sig = (λ j. ((one_value n m at_m j).path, one_value s sig at_sig j) ∷ [])
signed_last (n ∷ ms) (s ∷ sigs) (suc i) m sig at_m at_sig = let e : suc i + 1 ≡ suc (i + 1) = omega arith in rw e (ap (λ (rows : Rows Sig). (n.path, s) ∷ rows) (signed_last ms sigs i m sig at_m at_sig))

-- one more, as the loop has it
pub signed_more : (ms : List RootRow) (sigs : List Sig) (i : ℕ) (m : RootRow) (sig mine : Sig) (path : Bytes) (old new : Rows Sig) → i < length ms → i < length sigs → m ≡ get_or ms i m → sig ≡ get_or sigs i sig → path ≡ m.path → mine ≡ sig
    → old ≡ signed (take i ms) (take i sigs) → new ≡ old ++ (path, mine) ∷ [] → new ≡ signed (take (i + 1) ms) (take (i + 1) sigs)
signed_more ms sigs i m sig mine path old new low_m low_s is_m is_sig is_path is_mine so_far pushed =
    pushed ∙ ((λ j. so_far j ++ (is_path j, is_mine j) ∷ []) ∙ sym (signed_last ms sigs i m sig (get_index ms i m low_m is_m) (get_index sigs i sig low_s is_sig)))

pub signed_whole : (ms : List RootRow) (sigs : List Sig) (i : ℕ) (rows : Rows Sig) → i ≡ length ms → length sigs ≡ length ms → rows ≡ signed (take i ms) (take i sigs) → rows ≡ signed ms sigs
signed_whole ms sigs i rows all many is =
    is ∙ (λ j. signed (whole_m j) (whole_s j))
  where
    whole_m : take i ms ≡ ms
    whole_m = ap (λ (n : ℕ). take n ms) all ∙ take_whole ms

    whole_s : take i sigs ≡ sigs
    whole_s = ap (λ (n : ℕ). take n sigs) (all ∙ sym many) ∙ take_whole sigs

-- they say what they say
pub all_tell : (all some : Rows Sig) (lists : List Deps) (numbers : List ℕ) → some ≡ all → AgreeForAll (row_at all) lists numbers (row_at some)
all_tell all some lists numbers same i x deps at there path reach = ap (λ (rows : Rows Sig). row_at rows path) same

-- ---- a table that checks share

pub table_tells : (s : Sources) (sigs : List Sig) (checked : List ℕ) (ms : List RootRow) (lists : List Deps) (some told : Rows Sig) → ms ≡ s.root.modules → lists ≡ s.lists.items → AgreeForAll (row_at (signed ms sigs)) lists checked (row_at some) → told ≡ some → TellsAll s sigs checked told
table_tells s sigs checked ms lists some told same listed agree is i x deps at there =
    subst (λ (rows : Rows Sig). Agree (sigs_by s sigs) deps (row_at rows)) (sym is) (agree_there s sigs ms deps some same (agree i x deps at (ap (λ (l : List Deps). slice_get l x) listed ∙ there)))

-- what it says where one of the modules reaches
pub tells_one : (s : Sources) (sigs : List Sig) (numbers : List ℕ) (rows : Rows Sig) (i : ℕ) → i < length numbers → TellsAll s sigs numbers rows → TellsAll s sigs (get_or numbers i 0 ∷ []) rows
tells_one s sigs numbers rows i low told zero x deps at there = told i x deps (place_at numbers i 0 low ∙ at) there
tells_one s sigs numbers rows i low told (suc j) x deps at there = absurd (let z : None ≡ Some x = at in cc)

pub tells_there : (s : Sources) (sigs : List Sig) (x : ℕ) (deps : Deps) (table mine : SignatureTable) → TellsAll s sigs (x ∷ []) table.rows → x < length s.lists.items → deps ≡ get_or s.lists.items x deps → mine ≡ table → Agree (sigs_by s sigs) deps (row_at mine.rows)
tells_there s sigs x deps table mine told low is same = subst (λ (t : SignatureTable). Agree (sigs_by s sigs) deps (row_at t.rows)) (sym same) (told 0 x deps refl (get_index s.lists.items x deps low is))
