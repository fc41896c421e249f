-- What follows from rising paths: each path of a program is found with its own bytes.
use Rattle.std.proofs.Common.{◌≡◌, List, [], ◌∷◌, Some, inl, inr, refl, sym, ap, ◌∙◌, if◌then◌else◌}
use Rattle.std.specs.Prelude.{nat_eq}
use Rattle.std.specs.List.{AllByRecursion}
use Rattle.std.specs.Ordering.{nat_cmp, ordering_reverse}
use Rattle.std.specs.Cmp.Lexicographic.{slice_cmp, pointwise, nat_list_cmp_total, bytes_decides}
use Rattle.std.specs.declared.cmp.Ordering.TheVariants.{Less}
use Rattle.std.proofs.lemmas.Bool.{cases_Bool}
use Rattle.flow_base.specs.Program.{Bytes, Program, IsRising, text_at}

abbrev pub IsBelowAll : Bytes → List Bytes → Type 0
IsBelowAll path paths = AllByRecursion (λ other. slice_cmp nat_cmp path other ≡ Less) paths

pub carry : (path next : Bytes) → slice_cmp nat_cmp path next ≡ Less → (paths : List Bytes) → IsBelowAll next paths → IsBelowAll path paths
carry path next below [] h = tt
carry path next below (other ∷ paths) h = (nat_list_cmp_total.trans path next other below h.0, carry path next below paths h.1)

pub below_all : (path : Bytes) (paths : List Bytes) → IsRising (path ∷ paths) → IsBelowAll path paths
below_all path [] rising = tt
below_all path (next ∷ paths) rising = (rising.0, carry path next rising.0 paths (below_all next paths rising.1))

pub found_itself : (row : Bytes × Bytes) (program : Program) → text_at (row ∷ program) row.0 ≡ Some row.1
found_itself row program = ap (λ same. if same then Some row.1 else text_at program row.0) ((bytes_decides row.0 row.0).1 refl)

pub not_below_itself : (path : Bytes) → slice_cmp nat_cmp path path ≡ Less → ⊥
not_below_itself path below = cc (below, nat_list_cmp_total.antisymm path path, ap ordering_reverse below)

pub found_behind : (row : Bytes × Bytes) (program : Program) (path : Bytes) → slice_cmp nat_cmp row.0 path ≡ Less → text_at (row ∷ program) path ≡ text_at program path
found_behind row program path below = elim (cases_Bool (pointwise nat_eq row.0 path)) [
  | inl same ↦
      let equal : row.0 ≡ path = (bytes_decides row.0 path).0 same in
      absurd (not_below_itself path (ap (λ p. slice_cmp nat_cmp p path) (sym equal) ∙ below))
  | inr other ↦ ap (λ same. if same then Some row.1 else text_at program path) other
]

pub rising_rest : (path : Bytes) (paths : List Bytes) → IsRising (path ∷ paths) → IsRising paths
rising_rest path [] rising = tt
rising_rest path (next ∷ paths) rising = rising.1
