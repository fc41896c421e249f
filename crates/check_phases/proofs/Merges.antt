-- Jobs, and the signatures that they give.
use Rattle.std.proofs.Common.{◌≡◌, ℕ, zero, suc, ◌+◌, ◌<◌, List, [], ◌∷◌, ◌++◌, map, length, take, get_or, slice_get, Option, Some, None, refl, sym, ap, ◌∙◌, append-nil, append_assoc}
use Rattle.std.specs.Prelude.{option_to_list}
use Rattle.std.specs.List.{flat_map}
use Rattle.std.proofs.lemmas.List.{length-map}
use Rattle.heap_core.proofs.Lists.{get_index}
use Rattle.flow_base.specs.Program.{Bytes}
use Rattle.check_values.specs.Rows.{Rows}
use Rattle.check_values.specs.Roots as roots
use Rattle.check_values.specs.declared.root.RootRow.{RootRow}
use Rattle.check_values.specs.declared.root.Root.{Root}
use Rattle.payloads.specs.State.{program_of}
use Rattle.check_values.specs.declared.signatures.Deps.{Deps}
use Rattle.check_values.specs.declared.signatures.LocalSig.{LocalSig}
use Rattle.check_values.specs.declared.signatures.Sig.{Sig}
use Rattle.analyst.specs.source_front.specs.declared.parse.Parse.{Parse}
use Rattle.named_rows.proofs.Lists.{flat_more}
use Rattle.merged_signatures.specs.Chains.{Known}
use Rattle.payloads.specs.program_check.specs.Full.{beside}
use Rattle.check_phases.specs.Phases.{AreParsed, knowns}
use Rattle.check_phases.specs.Sourced.{program_in, paths_in, AreSources}
use Rattle.check_phases.specs.Merging.{known_rows, member_at, made_row, made_at}
use Rattle.check_phases.specs.declared.merging.Sources.{Sources}
use Rattle.check_phases.proofs.Edges.{length_lists}
use Rattle.check_phases.proofs.Lists.{one_value, zip_length}

-- there are as many sources and lists as modules
pub as_many : (s : Sources) → AreSources s → (length s.parses.items ≡ length s.root.modules) × (length s.lists.items ≡ length s.root.modules)
as_many s are =
    let parses : length s.parses.items ≡ length s.root.modules = zip_length _ (program_in s) s.parses.items are.parsed ∙ length-map s.root.modules (λ (m : RootRow). (m.path, m.text)) in
    (parses, ap length are.listed ∙ length_lists (paths_in s) s.root.modules s.parses.items parses)

pub many_parses : (s : Sources) → AreSources s → length s.parses.items ≡ length s.root.modules
many_parses s are = (as_many s are).0

pub many_lists : (s : Sources) → AreSources s → length s.lists.items ≡ length s.root.modules
many_lists s are = (as_many s are).1

-- ---- what stands beside the module of a number

pub beside_get : {X : Type 0} (ms : List RootRow) (xs : List X) (i : ℕ) (m : RootRow) (x : X) → slice_get ms i ≡ Some m → slice_get xs i ≡ Some x
    → slice_get (beside (map (λ (r : RootRow). (r.path, r.text)) ms) xs) i ≡ Some (m.path, x)
beside_get [] xs i m x at_m at_x = absurd (let z : None ≡ Some m = at_m in cc)
beside_get (n ∷ ms) [] i m x at_m at_x = absurd (let z : None ≡ Some x = at_x in cc)
beside_get (n ∷ ms) (y ∷ xs) zero m x at_m at_x = let a = one_value n m at_m in let b = one_value y x at_x in λ j. Some ((a j).path, b j)
beside_get (n ∷ ms) (y ∷ xs) (suc i) m x at_m at_x = beside_get ms xs i m x at_m at_x

pub program_get : (ms : List RootRow) (i : ℕ) (m : RootRow) → slice_get ms i ≡ Some m → slice_get {X = Bytes × Bytes} (map (λ (r : RootRow). (r.path, r.text)) ms) i ≡ Some (m.path, m.text)
program_get [] i m at = absurd (let z : None ≡ Some m = at in cc)
program_get (n ∷ ms) zero m at = let is = one_value n m at in λ j. Some ((is j).path, (is j).text)
program_get (n ∷ ms) (suc i) m at = program_get ms i m at

pub path_get : (ms : List RootRow) (i : ℕ) (m : RootRow) → slice_get ms i ≡ Some m → slice_get (roots.paths_of_rows ms) i ≡ Some m.path
path_get [] i m at = absurd (let z : None ≡ Some m = at in cc)
path_get (n ∷ ms) zero m at = ap (λ (r : RootRow). Some r.path) (one_value n m at)
path_get (n ∷ ms) (suc i) m at = path_get ms i m at

knowns_get : (parses : List Parse) (lists : List Deps) (i : ℕ) (p : Parse) (d : Deps) → slice_get parses i ≡ Some p → slice_get lists i ≡ Some d → slice_get (knowns parses lists) i ≡ Some (record { sig = p.sig; deps = d })
knowns_get [] lists i p d at_p at_d = absurd (let z : None ≡ Some p = at_p in cc)
knowns_get (q ∷ parses) [] i p d at_p at_d = absurd (let z : None ≡ Some d = at_d in cc)
knowns_get (q ∷ parses) (e ∷ lists) zero p d at_p at_d = let a = one_value q p at_p in let b = one_value e d at_d in λ j. Some (record { sig = (a j).sig; deps = b j })
knowns_get (q ∷ parses) (e ∷ lists) (suc i) p d at_p at_d = knowns_get parses lists i p d at_p at_d

-- the member of a number
pub known_member : (s : Sources) (rows : List RootRow) (x : ℕ) (m : RootRow) (p : Parse) (d : Deps) (path : Bytes) (sig : LocalSig) (deps : Deps) → rows ≡ s.root.modules → x < length rows → m ≡ get_or rows x m
    → x < length s.parses.items → p ≡ get_or s.parses.items x p → x < length s.lists.items → d ≡ get_or s.lists.items x d → path ≡ m.path → sig ≡ p.sig → deps ≡ d
    → slice_get (known_rows s) x ≡ Some (path, record { sig = sig; deps = deps })
known_member s rows x m p d path sig deps same low_m is_m low_p is_p low_d is_d is_path is_sig is_deps =
    let at_m : slice_get s.root.modules x ≡ Some m = ap (λ (l : List RootRow). slice_get l x) (sym same) ∙ get_index rows x m low_m is_m in
    beside_get s.root.modules (knowns s.parses.items s.lists.items) x m (record { sig = p.sig; deps = d }) at_m (knowns_get s.parses.items s.lists.items x p d (get_index s.parses.items x p low_p is_p) (get_index s.lists.items x d low_d is_d))
    ∙ (λ j. Some (sym is_path j, record { sig = sym is_sig j; deps = sym is_deps j }))

-- ---- what stands outside

pub adds_made : (s : Sources) (made : List (Option Sig)) (y : ℕ) (rows : List RootRow) (m : RootRow) (o : Option Sig) (sig mine : Sig) (path : Bytes) (old new : Rows Sig) → rows ≡ s.root.modules → y < length rows → m ≡ get_or rows y m
    → y < length made → o ≡ get_or made y o → o ≡ Some sig → path ≡ m.path → mine ≡ sig → new ≡ old ++ (path, mine) ∷ [] → new ≡ old ++ made_at s made y
adds_made s made y rows m o sig mine path old new same low_m is_m low is_o is is_path is_sig pushed =
    let here : slice_get (paths_in s) y ≡ Some path = path_get s.root.modules y m (ap (λ (l : List RootRow). slice_get l y) (sym same) ∙ get_index rows y m low_m is_m) ∙ ap Some (sym is_path) in
    let there : slice_get made y ≡ Some (Some mine) = get_index made y o low is_o ∙ ap Some (is ∙ ap Some (sym is_sig)) in
    pushed ∙ ap (λ (l : Rows Sig). old ++ l) (λ j. made_row (sym here j) (sym there j))

pub adds_unmade : (s : Sources) (made : List (Option Sig)) (y : ℕ) (rows : List RootRow) (m : RootRow) (o : Option Sig) (old new : Rows Sig) → rows ≡ s.root.modules → y < length rows → m ≡ get_or rows y m
    → y < length made → o ≡ get_or made y o → o ≡ None → new ≡ old → new ≡ old ++ made_at s made y
adds_unmade s made y rows m o old new same low_m is_m low is_o is kept =
    let here : slice_get (paths_in s) y ≡ Some m.path = path_get s.root.modules y m (ap (λ (l : List RootRow). slice_get l y) (sym same) ∙ get_index rows y m low_m is_m) in
    let there : slice_get made y ≡ Some None = get_index made y o low is_o ∙ ap Some is in
    kept ∙ (sym (append-nil old) ∙ ap (λ (l : Rows Sig). old ++ l) (λ j. made_row (sym here j) (sym there j)))

-- one more module that one leads to
pub outside_more : (s : Sources) (made : List (Option Sig)) (ys : List ℕ) (i y : ℕ) (first old new : Rows Sig) → i < length ys → y ≡ get_or ys i 0 → old ≡ first ++ flat_map (made_at s made) (take i ys) → new ≡ old ++ made_at s made y
    → new ≡ first ++ flat_map (made_at s made) (take (i + 1) ys)
outside_more s made ys i y first old new within is so_far adds =
    let f : ℕ → Rows Sig = made_at s made in
    adds ∙ ((λ j. so_far j ++ f (is j)) ∙ (append_assoc first (flat_map f (take i ys)) (f (get_or ys i 0)) ∙ ap (λ (l : Rows Sig). first ++ l) (sym (flat_more f ys i 0 within))))

-- one more module of the group
pub members_more : (s : Sources) (group : List ℕ) (i x : ℕ) (old new : Rows Known) (row : Bytes × Known) → i < length group → x ≡ get_or group i 0 → old ≡ flat_map (member_at s) (take i group)
    → slice_get (known_rows s) x ≡ Some row → new ≡ old ++ row ∷ [] → new ≡ flat_map (member_at s) (take (i + 1) group)
members_more s group i x old new row within is so_far at adds =
    let f : ℕ → Rows Known = member_at s in
    let here : row ∷ [] ≡ f (get_or group i 0) = sym (ap (λ (o : Option (Bytes × Known)). option_to_list o) at) ∙ ap f is in
    adds ∙ ((λ j. so_far j ++ here j) ∙ sym (flat_more f group i 0 within))

-- ---- the edges

pub map_more : {A B : Type 0} (f : A → B) (xs : List A) (x : A) → map f (xs ++ x ∷ []) ≡ map f xs ++ f x ∷ []
map_more f [] x = refl
map_more {A} {B} f (y ∷ xs) x = ap (λ (l : List B). f y ∷ l) (map_more f xs x)

-- ---- as the phases have it

-- what each source says, of as many modules
pub parses_many : (root : Root) (parses : List Parse) → AreParsed (program_of root) parses → length parses ≡ length root.modules
parses_many root parses are = zip_length _ (program_of root) parses are ∙ length-map root.modules (λ (m : RootRow). (m.path, m.text))
