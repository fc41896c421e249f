-- The exports of local signatures, and so of merged ones, rise by their names.
use Rattle.std.proofs.Common.{◌≡◌, ℕ, zero, suc, List, [], ◌∷◌, All, map, slice_get, Option, Some, None, option_map, refl, sym, ap, ◌∙◌, subst}
use Rattle.std.specs.List.{AllByRecursion, AllZip, flat_map}
use Rattle.std.specs.Ordering.{nat_cmp, ordering_reverse}
use Rattle.std.specs.Cmp.Lexicographic.{slice_cmp, nat_list_cmp_total}
use Rattle.std.specs.declared.cmp.Ordering.{Ordering}
use Rattle.std.specs.declared.cmp.Ordering.TheVariants.{Less, Equal, Greater}
use Rattle.std.proofs.lemmas.List.Elements.{All-from_recursion}
use Rattle.std.proofs.lemmas.Map.Lookups.{exact_bytes}
use Rattle.flow_base.specs.Program.{IsRising}
use Rattle.flow_base.proofs.Rising.{IsBelowAll, below_all, rising_rest}
use Rattle.check_values.specs.Rows.{Bytes, Rows, put, by_name}
use Rattle.check_values.specs.declared.signatures.LocalSig.{LocalSig}
use Rattle.check_values.specs.declared.signatures.Sig.{Sig}
use Rattle.js_grammar.specs.Items.{Module}
use Rattle.local_signatures.specs.Exports.{told_in, told_by, origin_of}
use Rattle.local_signatures.specs.Scope.{scope_of, items_in}
use Rattle.local_signatures.specs.LocalSignature.{local_signature}
use Rattle.js_tree.specs.View.{module_view}
use Rattle.merged_signatures.specs.Chains.{denotes}
use Rattle.merged_signatures.specs.Merged.{export_of, merged, merged_known}
use Rattle.merged_signatures.specs.Job.{Job}
use Rattle.asked_exports.specs.Asked.{names_rise}
use Rattle.check_phases.specs.source_front.specs.Front.{Says, IsParse}
use Rattle.check_phases.specs.source_front.specs.declared.parse.Parse.{Parse}
use Rattle.check_phases.specs.source_front.specs.declared.parse.ParseTree.{ParseTree}
use Rattle.check_phases.specs.source_front.specs.declared.parse.ParseTree.TheVariants.{Tree, Broken}
use Rattle.check_phases.specs.Sourced.{program_in, paths_in, view_in, AreSources}
use Rattle.check_phases.specs.Merging.{AreRight, made_row, made_at}
use Rattle.check_phases.specs.declared.merging.Sources.{Sources}
use Rattle.check_phases.proofs.Lists.{one_value}
use Rattle.recheck_merging.specs.Merging.{outside_by, job_by}
use Rattle.recheck_merging.proofs.Imported.{here, known_here, low_path}
use Rattle.recheck_merging.proofs.Jobs.{all_flat}

abbrev Cmp : Bytes → Bytes → Ordering
Cmp a b = slice_cmp nat_cmp a b

-- ---- rows in order of their names

abbrev pub names_of : {X : Type 0} → Rows X → List Bytes
names_of rows = map (λ row. row.0) rows

-- rows under the same names
pub renamed : {X Y : Type 0} (f : Bytes × X → Y) (rows : Rows X) → names_of (map (λ row. (row.0, f row)) rows) ≡ names_of rows
renamed f [] = refl
renamed f (row ∷ rows) = ap (λ (l : List Bytes). row.0 ∷ l) (renamed f rows)

turned : (a b : Bytes) → Cmp a b ≡ Greater → Cmp b a ≡ Less
turned a b is = nat_list_cmp_total.antisymm b a ∙ ap ordering_reverse is

rising_more : (name : Bytes) (names : List Bytes) → IsBelowAll name names → IsRising names → IsRising (name ∷ names)
rising_more name [] below rising = tt
rising_more name (next ∷ names) below rising = (below.0, rising)

module _ {X : Type 0} where
  abbrev by_names : Bytes × X → Bytes × X → Ordering
  by_names a b = Cmp a.0 b.0

  abbrev placed : Bytes × X → Bytes × X → Rows X → Ordering → Rows X
  placed x y more o = elim o as (λ _. Rows X) [ Less ↦ x ∷ y ∷ more | Equal ↦ x ∷ more | Greater ↦ y ∷ put by_names x more ]

  put_below : (x : Bytes × X) (name : Bytes) (rows : Rows X) → Cmp name x.0 ≡ Less → IsBelowAll name (names_of rows) → IsBelowAll name (names_of (put by_names x rows))
  put_below x name [] less below = (less, tt)
  put_below x name (y ∷ rows) less below = go (by_names x y) (put_below x name rows less below.1)
    where
      go : (o : Ordering) → IsBelowAll name (names_of (put by_names x rows)) → IsBelowAll name (names_of (placed x y rows o))
      go Less rest = (less, below)
      go Equal rest = (less, below.1)
      go Greater rest = (below.0, rest)

  put_rises : (x : Bytes × X) (rows : Rows X) → IsRising (names_of rows) → IsRising (names_of (put by_names x rows))
  put_rises x [] rising = tt
  put_rises x (y ∷ rows) rising = go (by_names x y) refl (put_rises x rows (rising_rest y.0 (names_of rows) rising))
    where
      go : (o : Ordering) → by_names x y ≡ o → IsRising (names_of (put by_names x rows)) → IsRising (names_of (placed x y rows o))
      go Less is rest = (is, rising)
      go Equal is rest = subst (λ (name : Bytes). IsRising (name ∷ names_of rows)) (sym (exact_bytes x.0 y.0 is)) rising
      go Greater is rest = rising_more y.0 (names_of (put by_names x rows)) (put_below x y.0 rows (turned x.0 y.0 is) (below_all y.0 (names_of rows) rising)) rest

  pub by_name_rises : (rows : Rows X) → IsRising (names_of (by_name rows))
  by_name_rises [] = tt
  by_name_rises (row ∷ rows) = put_rises row (by_name rows) (by_name_rises rows)

-- ---- a module's own exports

pub local_rises : (m : Module) → IsRising (names_of (local_signature m).exports)
local_rises m = subst IsRising (sym (renamed (λ row. origin_of row.1) (told_in m))) (by_name_rises (flat_map (told_by (scope_of m)) (items_in m)))

said_rises : (m : Module) (sig : LocalSig) → sig ≡ local_signature m → IsRising (names_of sig.exports)
said_rises m sig is = subst (λ (l : LocalSig). IsRising (names_of l.exports)) (sym is) (local_rises m)

-- what a source says
says_rises : (text : Bytes) (p : Parse) → IsParse text p → IsRising (names_of p.sig.exports)
says_rises text p is = go p.tree is
  where
    go : (tree : ParseTree) → Says text tree p.sig p.faults → IsRising (names_of p.sig.exports)
    go (Tree m spans) says = said_rises (module_view m) p.sig says.1
    go (Broken fault) says = subst (λ (l : LocalSig). IsRising (names_of l.exports)) (sym says.1) tt

-- ---- merged signatures of a program

zip_beside : {A B : Type 0} (R : A → B → Type 0) (xs : List A) (ys : List B) (x : ℕ) (b : B) → AllZip R xs ys → slice_get ys x ≡ Some b → (a : A) × R a b
zip_beside {A} {B} R [] [] x b all at = absurd (let z : None ≡ Some b = at in cc)
zip_beside {A} {B} R [] (c ∷ ys) x b all at = absurd all
zip_beside {A} {B} R (a ∷ xs) [] x b all at = absurd all
zip_beside {A} {B} R (a ∷ xs) (c ∷ ys) zero b all at = (a, subst (λ (d : B). R a d) (one_value c b at) all.0)
zip_beside {A} {B} R (a ∷ xs) (c ∷ ys) (suc x) b all at = zip_beside R xs ys x b all.1 at

-- each export is told under its own name
pub merged_rises : (s : Sources) → AreSources s → (y : ℕ) (path : Bytes) (sig : Sig) → slice_get (paths_in s) y ≡ Some path → merged (view_in s) path ≡ Some sig → names_rise sig.exports
merged_rises s sources y path sig at told =
    let h = here s sources y (low_path s y path at) in
    let same : h.row.path ≡ path = one_value h.row.path path (sym h.at_path ∙ at) in
    let known = known_here s y h in
    let seen : view_in s path ≡ Some known = ap (view_in s) (sym same) ∙ h.seen in
    let is : merged_known (view_in s) path known ≡ sig = one_value (merged_known (view_in s) path known) sig (ap (option_map (merged_known (view_in s) path)) (sym seen) ∙ told) in
    let parse = zip_beside (λ (m : Bytes × Bytes) (p : Parse). IsParse m.1 p) (program_in s) s.parses.items y h.parse sources.parsed h.at_parse in
    subst (λ (g : Sig). names_rise g.exports) is (subst IsRising (sym (renamed (λ row. export_of (view_in s) (denotes (view_in s) path row.0)) known.sig.exports)) (says_rises parse.0.1 h.parse parse.1))

-- ---- what stands outside of a job

abbrev Rises : Bytes × Sig → Type 0
Rises row = names_rise row.1.exports

module _ (s : Sources) (made : List (Option Sig)) (sources : AreSources s) (right : AreRight s made) where
  one_rises : (y : ℕ) (p : Option Bytes) (o : Option (Option Sig)) → slice_get (paths_in s) y ≡ p → slice_get made y ≡ o → AllByRecursion Rises (made_row p o)
  one_rises y None o at there = tt
  one_rises y (Some path) None at there = tt
  one_rises y (Some path) (Some None) at there = tt
  one_rises y (Some path) (Some (Some sig)) at there = (merged_rises s sources y path sig at (right.each y path sig at there), tt)

  outside_rises : (edges : List (List ℕ)) → AllByRecursion Rises (outside_by s made edges)
  outside_rises edges = all_flat (λ ys. flat_map (made_at s made) ys) Rises edges (λ ys. all_flat (made_at s made) Rises ys (λ y. one_rises y (slice_get (paths_in s) y) (slice_get made y) refl refl))

-- the names of what stands outside of a job rise, so its rows are found by halving
pub job_rises : (s : Sources) (made : List (Option Sig)) (group : List ℕ) (edges : List (List ℕ)) (job : Job) → AreSources s → AreRight s made → job ≡ job_by s made group edges → All (λ row. names_rise row.1.exports) job.outside
job_rises s made group edges job sources right is =
    subst (λ (j : Job). All Rises j.outside) (sym is) (All-from_recursion Rises (outside_by s made edges) (outside_rises s made sources right edges))
