-- The numbers of the modules that a dependency list finds.
use Rattle.std.proofs.Common.{◌≡◌, ℕ, zero, suc, ◌+◌, ◌<◌, Bool, true, false, List, [], ◌∷◌, ◌++◌, map, length, take, get_or, slice_get, Some, None, refl, sym, ap, ◌∙◌, subst, arith, bytes_eq}
use Rattle.std.specs.Prelude.{◌||◌}
use Rattle.std.specs.Ordering.{nat_cmp}
use Rattle.std.specs.Cmp.Lexicographic.{slice_cmp, bytes_decides}
use Rattle.std.specs.declared.cmp.Ordering.TheVariants.{Less}
use Rattle.flow_base.proofs.Rising.{IsBelowAll, below_all, not_below_itself, rising_rest}
use Rattle.flow_values.specs.Path.{Bytes, IsRising}
use Rattle.check_values.specs.Rows.{is_among}
use Rattle.check_values.specs.Roots.{paths_of_rows}
use Rattle.check_values.specs.declared.root.RootRow.{RootRow}
use Rattle.check_values.specs.declared.root.Root.{Root}
use Rattle.check_values.specs.declared.signatures.Deps.{Deps}
use Rattle.analyst.specs.source_front.specs.declared.parse.Parse.{Parse}
use Rattle.heap_core.proofs.Lists.{get_index}
use Rattle.payloads.specs.program_check.specs.Full.{deps_in}
use Rattle.payloads.specs.State.{program_of}
use Rattle.check_phases.specs.Phases.{lists_in}
use Rattle.check_phases.proofs.Lists.{one_value, take_whole, take_next}

-- ---- a path stands at one place

pub below_at : (low : Bytes) (paths : List Bytes) (y : ℕ) (path : Bytes) → IsBelowAll low paths → slice_get paths y ≡ Some path → slice_cmp nat_cmp low path ≡ Less
below_at low [] y path all at = absurd (let z : None ≡ Some path = at in cc)
below_at low (p ∷ paths) zero path all at = subst (λ (q : Bytes). slice_cmp nat_cmp low q ≡ Less) (one_value p path at) all.0
below_at low (p ∷ paths) (suc y) path all at = below_at low paths y path all.1 at

pub not_twice : (p : Bytes) (paths : List Bytes) (y : ℕ) → IsRising (p ∷ paths) → slice_get paths y ≡ Some p → ⊥
not_twice p paths y rising at = not_below_itself p (below_at p paths y p (below_all p paths rising) at)

pub one_place : (paths : List Bytes) (y z : ℕ) (path : Bytes) → IsRising paths → slice_get paths y ≡ Some path → slice_get paths z ≡ Some path → y ≡ z
one_place [] y z path rising a b = absurd (let e : None ≡ Some path = a in cc)
one_place (p ∷ paths) zero zero path rising a b = refl
one_place (p ∷ paths) zero (suc z) path rising a b = absurd (not_twice p paths z rising (let e : Some p ≡ Some path = a in b ∙ sym e))
one_place (p ∷ paths) (suc y) zero path rising a b = absurd (not_twice p paths y rising (let e : Some p ≡ Some path = b in a ∙ sym e))
one_place (p ∷ paths) (suc y) (suc z) path rising a b = ap suc (one_place paths y z path (rising_rest p paths rising) a b)

pub among : (paths : List Bytes) (y : ℕ) (path : Bytes) → slice_get paths y ≡ Some path → is_among paths path ≡ true
among [] y path at = absurd (let e : None ≡ Some path = at in cc)
among (p ∷ paths) zero path at = go (bytes_eq path p) ((bytes_decides path p).1 (sym (one_value p path at)))
  where
    go : (b : Bool) → b ≡ true → b || is_among paths path ≡ true
    go true e = refl
    go false e = absurd (let z : false ≡ true = e in cc)
among (p ∷ paths) (suc y) path at = go (bytes_eq path p) (among paths y path at)
  where
    go : (b : Bool) → is_among paths path ≡ true → b || is_among paths path ≡ true
    go true e = refl
    go false e = e

-- the path of a row
pub path_at : (rows : List RootRow) (at : ℕ) → at < length rows → (path : Bytes) → ((d : RootRow) → (get_or rows at d).path ≡ path) → slice_get (paths_of_rows rows) at ≡ Some path
path_at [] at within path is = absurd (omega arith)
path_at (row ∷ rows) zero within path is = ap Some (is row)
path_at (row ∷ rows) (suc at) within path is = path_at rows at (omega arith) path is

pub length_paths : (rows : List RootRow) → length (paths_of_rows rows) ≡ length rows
length_paths [] = refl
length_paths (row ∷ rows) = ap suc (length_paths rows)

-- ---- one edge

-- ---- all edges of a list

-- ---- all lists

-- the list of a module
list_at : (paths : List Bytes) (ms : List RootRow) (parses : List Parse) (i : ℕ) (m : RootRow) (p : Parse) → slice_get ms i ≡ Some m → slice_get parses i ≡ Some p
    → slice_get (lists_in paths (map (λ (r : RootRow). (r.path, r.text)) ms) parses) i ≡ Some (deps_in paths m.path p)
list_at paths [] parses i m p at_m at_p = absurd (let z : None ≡ Some m = at_m in cc)
list_at paths (n ∷ ms) [] i m p at_m at_p = absurd (let z : None ≡ Some p = at_p in cc)
list_at paths (n ∷ ms) (q ∷ parses) zero m p at_m at_p =
    let same : n ≡ m = one_value n m at_m in
    let alike : q ≡ p = one_value q p at_p in
    λ j. Some (deps_in paths (same j).path (alike j))
list_at paths (n ∷ ms) (q ∷ parses) (suc i) m p at_m at_p = list_at paths ms parses i m p at_m at_p

pub one_more_list : (paths : List Bytes) (ms : List RootRow) (parses : List Parse) (i : ℕ) (m : RootRow) (p : Parse) (deps : Deps) (old new : List Deps) → i < length ms → i < length parses → m ≡ get_or ms i m → p ≡ get_or parses i p
    → old ≡ take i (lists_in paths (map (λ (r : RootRow). (r.path, r.text)) ms) parses) → deps ≡ deps_in paths m.path p → new ≡ old ++ deps ∷ []
    → new ≡ take (i + 1) (lists_in paths (map (λ (r : RootRow). (r.path, r.text)) ms) parses)
one_more_list paths ms parses i m p deps old new low_m low_p is_m is_p so_far is pushed =
    let all = lists_in paths (map (λ (r : RootRow). (r.path, r.text)) ms) parses in
    let next = take_next all i (deps_in paths m.path p) (list_at paths ms parses i m p (get_index ms i m low_m is_m) (get_index parses i p low_p is_p)) in
    pushed ∙ ((λ j. so_far j ++ is j ∷ []) ∙ sym next)

pub length_lists : (paths : List Bytes) (ms : List RootRow) (parses : List Parse) → length parses ≡ length ms → length (lists_in paths (map (λ (r : RootRow). (r.path, r.text)) ms) parses) ≡ length ms
length_lists paths [] parses many = refl
length_lists paths (m ∷ ms) [] many = absurd (omega (arith, many))
length_lists paths (m ∷ ms) (p ∷ parses) many = ap suc (length_lists paths ms parses (omega (arith, many)))

pub every_list : (paths : List Bytes) (root : Root) (parses : List Parse) (all : List Deps) → length parses ≡ length root.modules
    → all ≡ take (length root.modules) (lists_in paths (program_of root) parses) → all ≡ lists_in paths (program_of root) parses
every_list paths root parses all many is =
    let made = lists_in paths (program_of root) parses in
    is ∙ (ap (λ (n : ℕ). take n made) (sym (length_lists paths root.modules parses many)) ∙ take_whole made)

-- ---- as the loops have them

pub lists_step : (paths : List Bytes) (root : Root) (rows : List RootRow) (parses : List Parse) (i : ℕ) (m : RootRow) (p q : Parse) (deps : Deps) (old new : List Deps) → rows ≡ root.modules → i < length rows → length parses ≡ length root.modules
    → m ≡ get_or rows i m → p ≡ get_or parses i p → q ≡ p → old ≡ take i (lists_in paths (program_of root) parses) → deps ≡ deps_in paths m.path q → new ≡ old ++ deps ∷ []
    → new ≡ take (i + 1) (lists_in paths (program_of root) parses)
lists_step paths root rows parses i m p q deps old new same low many is_m is_p seen so_far is pushed =
    let sizes : length rows ≡ length root.modules = ap length same in
    one_more_list paths root.modules parses i m p deps old new (omega arith) (omega arith) (subst (λ (rs : List RootRow). m ≡ get_or rs i m) same is_m) is_p so_far (is ∙ ap (deps_in paths m.path) seen) pushed
