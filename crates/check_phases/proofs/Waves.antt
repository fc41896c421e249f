-- Components are merged one after the other, and waves.
use Rattle.std.proofs.Common.{◌≡◌, ℕ, zero, suc, ◌+◌, ◌<◌, Bool, true, false, List, [], ◌∷◌, map, length, take, set, get_or, slice_get, Option, Some, None, refl, sym, ap, ◌∙◌, subst, arith, length-set}
use Rattle.std.specs.Prelude.{eqb, ◌||◌}
use Rattle.std.specs.List.{AllZip}
use Rattle.std.proofs.lemmas.Bool.{eqb-true}
use Rattle.std.proofs.lemmas.List.{length-map}
use Rattle.heap_core.specs.Meaning.{names}
use Rattle.heap_core.proofs.Names.{names-first, names-later}
use Rattle.heap_core.proofs.Lists.{get_index}
use Rattle.flow_base.specs.Program.{Bytes}
use Rattle.check_values.specs.Roots as roots
use Rattle.check_values.specs.declared.root.RootRow.{RootRow}
use Rattle.check_values.specs.declared.signatures.Sig.{Sig}
use Rattle.graph_search.specs.Cycles.{Has}
use Rattle.merged_signatures.specs.Merged.{merged}
use Rattle.check_phases.specs.Phases.{AreMerged}
use Rattle.check_phases.specs.Sourced.{program_in, view_in}
use Rattle.check_phases.specs.Merging.{AreRight, put_all}
use Rattle.check_phases.specs.declared.merging.Sources.{Sources}
use Rattle.check_phases.proofs.Lists.{one_value, place_at, take_whole, zip_length}

-- a number that is named stands there, and the other way round
pub named_has : (ks : List ℕ) (k : ℕ) → names ks k ≡ true → Has ks k
named_has [] k is = absurd (let z : false ≡ true = is in cc)
named_has (j ∷ ks) k is = go (λ h. named_has ks k h) (eqb j k) refl is
  where
    go : (names ks k ≡ true → Has ks k) → (b : Bool) → eqb j k ≡ b → (b || names ks k) ≡ true → Has (j ∷ ks) k
    go later true e h = (0, ap Some (eqb-true j k e))
    go later false e h = let r = later h in (suc r.0, r.1)

pub has_named : (ks : List ℕ) (k : ℕ) → Has ks k → names ks k ≡ true
has_named [] k h = absurd (let z : None ≡ Some k = h.1 in cc)
has_named (j ∷ ks) k (zero, at) = subst (λ (i : ℕ). names (j ∷ ks) i ≡ true) (one_value j k at) (names-first j ks)
has_named (j ∷ ks) k (suc i, at) = names-later j ks k (has_named ks k (i, at))

-- ---- signatures are put at their places

pub length_put : (group : List ℕ) (sigs : List Sig) (made : List (Option Sig)) → length (put_all group sigs made) ≡ length made
length_put [] sigs made = refl
length_put (x ∷ group) [] made = refl
length_put (x ∷ group) (sig ∷ sigs) made = length_put group sigs (set made x (Some sig)) ∙ length-set made x (Some sig)

-- as the loop puts them
puts_next : (xs : List ℕ) (sigs : List Sig) (i x : ℕ) (sig : Sig) (made : List (Option Sig)) → slice_get xs i ≡ Some x → slice_get sigs i ≡ Some sig → put_all (take (i + 1) xs) (take (i + 1) sigs) made ≡ set (put_all (take i xs) (take i sigs) made) x (Some sig)
puts_next [] sigs i x sig made at_x at_sig = absurd (let z : None ≡ Some x = at_x in cc)
puts_next (y ∷ xs) [] i x sig made at_x at_sig = absurd (let z : None ≡ Some sig = at_sig in cc)
puts_next (y ∷ xs) (t ∷ sigs) zero x sig made at_x at_sig = let a = one_value y x at_x in let b = one_value t sig at_sig in λ j. set made (a j) (Some (b j))
puts_next (y ∷ xs) (t ∷ sigs) (suc i) x sig made at_x at_sig = let n : suc i + 1 ≡ suc (i + 1) = omega arith in rw n (puts_next xs sigs i x sig (set made y (Some t)) at_x at_sig)

pub puts_more : (group : List ℕ) (sigs : List Sig) (i x : ℕ) (sig mine : Sig) (made old new : List (Option Sig)) → i < length group → x ≡ get_or group i 0 → i < length sigs → sig ≡ get_or sigs i sig → mine ≡ sig → new ≡ set old x (Some mine)
    → old ≡ put_all (take i group) (take i sigs) made → new ≡ put_all (take (i + 1) group) (take (i + 1) sigs) made
puts_more group sigs i x sig mine made old new low is low_sig is_sig same put so_far =
    put ∙ ((λ j. set (so_far j) x (Some (same j))) ∙ sym (puts_next group sigs i x sig made (place_at group i 0 low ∙ ap Some (sym is)) (get_index sigs i sig low_sig is_sig)))

pub puts_all : (group : List ℕ) (sigs : List Sig) (i : ℕ) (made now : List (Option Sig)) → i ≡ length group → length sigs ≡ length group → now ≡ put_all (take i group) (take i sigs) made → now ≡ put_all group sigs made
puts_all group sigs i made now all many so_far =
    let sizes : i ≡ length sigs = omega arith in
    so_far ∙ ((λ j. put_all (take (all j) group) (take (sizes j) sigs) made) ∙ (λ j. put_all (take_whole group j) (take_whole sigs j) made))

-- ---- a component

-- ---- all waves

zip_by : {A B : Type 0} (R : A → B → Type 0) (xs : List A) (ys : List B) → length ys ≡ length xs → ((i : ℕ) (x : A) (y : B) → slice_get xs i ≡ Some x → slice_get ys i ≡ Some y → R x y) → AllZip R xs ys
zip_by {A} {B} R [] [] many each = tt
zip_by {A} {B} R [] (y ∷ ys) many each = absurd (omega (arith, many))
zip_by {A} {B} R (x ∷ xs) [] many each = absurd (omega (arith, many))
zip_by {A} {B} R (x ∷ xs) (y ∷ ys) many each = (each 0 x y refl refl, zip_by R xs ys (omega (arith, many)) (λ i a b p q. each (suc i) a b p q))

some_get : (sigs : List Sig) (x : ℕ) (sig : Sig) → slice_get sigs x ≡ Some sig → slice_get (map Some sigs) x ≡ Some (Some sig)
some_get [] x sig at = absurd (let z : None ≡ Some sig = at in cc)
some_get (t ∷ sigs) zero sig at = ap (λ (u : Sig). Some (Some u)) (one_value t sig at)
some_get (t ∷ sigs) (suc x) sig at = some_get sigs x sig at

path_of_row : (ms : List RootRow) (x : ℕ) (m : Bytes × Bytes) → slice_get (map (λ (r : RootRow). (r.path, r.text)) ms) x ≡ Some m → slice_get (roots.paths_of_rows ms) x ≡ Some m.0
path_of_row [] x m at = absurd (let z : None ≡ Some m = at in cc)
path_of_row (r ∷ ms) zero m at = ap (λ (p : Bytes × Bytes). Some p.0) (one_value (r.path, r.text) m at)
path_of_row (r ∷ ms) (suc x) m at = path_of_row ms x m at

-- the signatures of all modules
pub all_merged : (s : Sources) (made : List (Option Sig)) (sigs : List Sig) → AreRight s made → made ≡ map Some sigs → AreMerged (view_in s) (program_in s) sigs
all_merged s made sigs right is =
    zip_by (λ (m : Bytes × Bytes) (sig : Sig). merged (view_in s) m.0 ≡ Some sig) (program_in s) sigs
    (sym (length-map sigs Some) ∙ (ap length (sym is) ∙ (right.many ∙ sym (length-map s.root.modules (λ (r : RootRow). (r.path, r.text))))))
    (λ x m sig at_m at_sig. right.each x m.0 sig (path_of_row s.root.modules x m at_m) (ap (λ (l : List (Option Sig)). slice_get l x) is ∙ some_get sigs x sig at_sig))

-- how many there are
pub many_merged : (s : Sources) (sigs : List Sig) → AreMerged (view_in s) (program_in s) sigs → length sigs ≡ length s.root.modules
many_merged s sigs all = zip_length _ (program_in s) sigs all ∙ length-map s.root.modules (λ (r : RootRow). (r.path, r.text))

-- ---- how many are left
