-- The module of a path among modules whose paths rise.
use Rattle.std.proofs.Common.{◌≡◌, ℕ, zero, suc, Bool, true, false, ◌||◌, List, [], ◌∷◌, get_or, slice_get, Option, Some, None, refl, sym, ap, ◌∙◌, subst, inl, inr, bytes_eq}
use Rattle.std.specs.Prelude.{if◌then◌else◌}
use Rattle.std.specs.Ordering.{nat_cmp}
use Rattle.std.specs.Cmp.Lexicographic.{slice_cmp, nat_list_cmp_total, bytes_decides}
use Rattle.std.specs.declared.cmp.Ordering.TheVariants.{Less}
use Rattle.std.proofs.lemmas.Bool.{cases_Bool, false≢true}
use Rattle.std.proofs.lemmas.Option.{none-some, same_Some}
use Rattle.flow_base.specs.Program.{Bytes, IsRising}
use Rattle.check_values.specs.Rows.{is_among}
use Rattle.check_values.specs.Roots.{paths_of_rows}
use Rattle.check_values.specs.declared.root.RootRow.{RootRow}
use Rattle.check_values.specs.declared.signatures.Sig.{Sig}
use Rattle.heap_answers.specs.payloads.specs.declared.payload.Payload.{Payload}
use Rattle.dep_lists.specs.Looking.{IsPlaceOf}
use Rattle.heap_answers.specs.payloads.specs.Entities.{signature_entity}
use Rattle.heap_answers.specs.States.{signature_of, signature_at, module_at, sigs_by}
use Rattle.heap_answers.proofs.Found.{IsFound, found}

-- ---- a path that is none's

apart : (b c : Bool) → b || c ≡ false → (b ≡ false) × (c ≡ false)
apart true c is = absurd (false≢true (sym is))
apart false c is = (refl, is)

pub turned : (a b : Bytes) → bytes_eq a b ≡ false → bytes_eq b a ≡ false
turned a b differ = elim (cases_Bool (bytes_eq b a)) [
  | inr fails ↦ fails
  | inl same ↦ absurd (false≢true (sym differ ∙ (bytes_decides a b).1 (sym ((bytes_decides b a).0 same))))
]

pub module_nowhere : (ms : List RootRow) (path : Bytes) → is_among (paths_of_rows ms) path ≡ false → module_at ms path ≡ None
module_nowhere [] path none = refl
module_nowhere (m ∷ ms) path none =
    let parts = apart (bytes_eq path m.path) (is_among (paths_of_rows ms) path) none in
    ap (λ b. if b then Some m else module_at ms path) (turned path m.path parts.0) ∙ module_nowhere ms path parts.1

-- ---- paths that rise differ

abbrev Below : Bytes → Bytes → Type 0
Below a b = slice_cmp nat_cmp a b ≡ Less

later_below : (m : RootRow) (ms : List RootRow) (i : ℕ) (n : RootRow) → IsRising (paths_of_rows (m ∷ ms)) → slice_get ms i ≡ Some n → Below m.path n.path
later_below m [] i n rising at = absurd (none-some n at)
later_below m (k ∷ ms) zero n rising at = subst (λ (j : RootRow). Below m.path j.path) (same_Some k n at) rising.0
later_below m (k ∷ ms) (suc i) n rising at = nat_list_cmp_total.trans m.path k.path n.path rising.0 (later_below k ms i n rising.1 at)

below_differs : (a b : Bytes) → Below a b → a ≡ b → ⊥
below_differs a b below same = let itself : Below a a = subst (λ c. Below a c) (sym same) below in cc (itself, nat_list_cmp_total.antisymm a a)

rest_rises : (m : RootRow) (ms : List RootRow) → IsRising (paths_of_rows (m ∷ ms)) → IsRising (paths_of_rows ms)
rest_rises m [] rising = tt
rest_rises m (n ∷ ms) rising = rising.1

module_stands : (ms : List RootRow) (i : ℕ) (m : RootRow) → IsRising (paths_of_rows ms) → slice_get ms i ≡ Some m → module_at ms m.path ≡ Some m
module_stands [] i m rising at = absurd (none-some m at)
module_stands (n ∷ ms) zero m rising at =
    let is = same_Some n m at in
    ap (λ b. if b then Some n else module_at ms m.path) ((bytes_decides n.path m.path).1 (ap (λ (k : RootRow). k.path) is)) ∙ ap Some is
module_stands (n ∷ ms) (suc i) m rising at = elim (cases_Bool (bytes_eq n.path m.path)) [
  | inl same ↦ absurd (below_differs n.path m.path (later_below n ms i m rising at) ((bytes_decides n.path m.path).0 same))
  | inr differ ↦ ap (λ b. if b then Some n else module_at ms m.path) differ ∙ module_stands ms i m (rest_rises n ms rising) at
]

pub module_found : (ms : List RootRow) (path : Bytes) (at : ℕ) (m : RootRow) → IsRising (paths_of_rows ms) → IsPlaceOf ms path (Some at) → m ≡ get_or ms at m → module_at ms path ≡ Some m
module_found ms path at m rising place here =
    let is : IsFound ms path at m = subst (IsFound ms path at) (sym here) (found ms path at place m) in
    subst (λ (p : Bytes). module_at ms p ≡ Some m) is.has_path (module_stands ms at m rising is.stands)

-- ---- the signature of a path

module _ (state : List Payload) (ms : List RootRow) (path : Bytes) where
  abbrev signed : Option RootRow → Option Sig
  signed None = None
  signed (Some m) = signature_at state m.row

  by_module : (o : Option RootRow) → module_at ms path ≡ o → sigs_by state ms path ≡ signed o
  by_module None is = ap signed is
  by_module (Some m) is = ap signed is

  pub signed_nowhere : IsPlaceOf ms path None → None ≡ sigs_by state ms path
  signed_nowhere none = sym (by_module None (module_nowhere ms path none))

  pub signed_there : (at : ℕ) (m : RootRow) → IsRising (paths_of_rows ms) → IsPlaceOf ms path (Some at) → m ≡ get_or ms at m → sigs_by state ms path ≡ signature_at state m.row
  signed_there at m rising place here = by_module (Some m) (module_found ms path at m rising place here)

  -- what has a signature is a module
  pub signed_among : (s : Sig) → sigs_by state ms path ≡ Some s → is_among (paths_of_rows ms) path ≡ true
  signed_among s is = elim (cases_Bool (is_among (paths_of_rows ms) path)) [
    | inl among ↦ among
    | inr none ↦ absurd (none-some s (signed_nowhere none ∙ is))
  ]

-- what stands at the entity of a signature
pub signed_read : (state : List Payload) (row e : ℕ) (x y : Payload) (sig : Option Sig) → e ≡ signature_entity row → slice_get state e ≡ Some x → y ≡ x → sig ≡ signature_of y → sig ≡ signature_at state row
signed_read state row e x y sig is at same told =
    told ∙ (ap signature_of same ∙ sym (ap (λ o. elim o [ Some z ↦ signature_of z | None ↦ None ]) (ap (slice_get state) (sym is) ∙ at)))
