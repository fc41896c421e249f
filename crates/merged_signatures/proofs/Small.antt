-- A chain goes on at exports alone.
use Rattle.std.proofs.Common.{◌≡◌, Bool, true, false, ◌&&◌, ◌||◌, [], ◌∷◌, ◌++◌, map, Option, Some, None, refl, sym, ap, ◌∙◌, cond, bytes_eq}
use Rattle.std.specs.List.{list_any}
use Rattle.std.specs.Cmp.Lexicographic.{bytes_decides}
use Rattle.std.proofs.lemmas.List.Folds.{list_any-append}
use Rattle.check_values.specs.Rows.{Bytes, Rows, row_at}
use Rattle.check_values.specs.declared.signatures.Origin.{Origin}
use Rattle.type_names.specs.Names.{Name}
use Rattle.merged_signatures.specs.Chains.{Known, ends, unknown, step_of, step_in}
use Rattle.merged_signatures.specs.Repeats.{onward, name_eq}
use Rattle.merged_signatures.specs.Programs.{names_of, IsSmallWithFewExports}
use Rattle.merged_signatures.proofs.Names.{bytes_same}

left_of : (a b : Bool) → a ≡ true → a || b ≡ true
left_of true b is = refl
left_of false b is = absurd (cc)

right_of : (a b : Bool) → b ≡ true → a || b ≡ true
right_of true b is = refl
right_of false b is = is

and_true : (a b : Bool) → a ≡ true → b ≡ true → (a && b) ≡ true
and_true true b p q = q
and_true false b p q = absurd (cc)

module _ (home path name : Bytes) where
  among_exports : (exports : Rows Origin) (o : Origin) → bytes_eq home path ≡ true → row_at exports name ≡ Some o → list_any (name_eq (path, name)) (map (λ e. (home, e.0)) exports) ≡ true
  among_exports [] o same is = absurd (let f : None ≡ Some o = is in cc)
  among_exports (e ∷ exports) o same is = go (bytes_eq e.0 name) refl is (among_exports exports o same)
    where
      go : (b : Bool) → bytes_eq e.0 name ≡ b → cond b (Some e.1) (row_at exports name) ≡ Some o → (row_at exports name ≡ Some o → list_any (name_eq (path, name)) (map (λ e. (home, e.0)) exports) ≡ true) →
          name_eq (path, name) (home, e.0) || list_any (name_eq (path, name)) (map (λ e. (home, e.0)) exports) ≡ true
      go true at is rest = left_of (name_eq (path, name) (home, e.0)) _ (and_true (bytes_eq path home) (bytes_eq name e.0) ((bytes_decides path home).1 (sym (bytes_same home path same))) ((bytes_decides name e.0).1 (sym (bytes_same e.0 name at))))
      go false at is rest = right_of (name_eq (path, name) (home, e.0)) _ (rest is)

among_names : (program : Rows Known) (path name : Bytes) (m : Known) (o : Origin) → row_at program path ≡ Some m → row_at m.sig.exports name ≡ Some o → list_any (name_eq (path, name)) (names_of program) ≡ true
among_names [] path name m o there is = absurd (let f : None ≡ Some m = there in cc)
among_names (row ∷ program) path name m o there is = go (bytes_eq row.0 path) refl there (among_names program path name m o)
  where
    go : (b : Bool) → bytes_eq row.0 path ≡ b → cond b (Some row.1) (row_at program path) ≡ Some m → (row_at program path ≡ Some m → row_at m.sig.exports name ≡ Some o → list_any (name_eq (path, name)) (names_of program) ≡ true) →
        list_any (name_eq (path, name)) (map (λ e. (row.0, e.0)) row.1.sig.exports ++ names_of program) ≡ true
    go true at there rest =
        list_any-append (name_eq (path, name)) (map (λ e. (row.0, e.0)) row.1.sig.exports) (names_of program)
        ∙ left_of _ (list_any (name_eq (path, name)) (names_of program)) (among_exports row.0 path name row.1.sig.exports o at (let e : row.1 ≡ m = (let f : Some row.1 ≡ Some m = there in cc) in ap (λ (k : Known). row_at k.sig.exports name) e ∙ is))
    go false at there rest =
        list_any-append (name_eq (path, name)) (map (λ e. (row.0, e.0)) row.1.sig.exports) (names_of program)
        ∙ right_of (list_any (name_eq (path, name)) (map (λ e. (row.0, e.0)) row.1.sig.exports)) _ (rest there is)

-- a step that goes on is one of an export
step_export : (path name : Bytes) (m : Known) (y : Name) → onward (step_in path (Some m) name) ≡ Some y → (o : Origin) × (row_at m.sig.exports name ≡ Some o)
step_export path name m y is = go m.sig.broken (row_at m.sig.exports name) refl is
  where
    go : (b : Bool) (o : Option Origin) → row_at m.sig.exports name ≡ o → onward (cond b (ends unknown) (step_of path m.deps o)) ≡ Some y → (o : Origin) × (row_at m.sig.exports name ≡ Some o)
    go true o at is = absurd (let f : None ≡ Some y = is in cc)
    go false None at is = absurd (let f : None ≡ Some y = is in cc)
    go false (Some o) at is = (o, at)

pub small_with_few_exports : IsSmallWithFewExports
small_with_few_exports program few = record { names = names_of program; all = λ x y is. all x y (row_at program x.0) refl is; few = few }
  where
    all : (x y : Name) (o : Option Known) → row_at program x.0 ≡ o → onward (step_in x.0 o x.1) ≡ Some y → list_any (name_eq x) (names_of program) ≡ true
    all (path, name) y None at is = absurd (let f : None ≡ Some y = is in cc)
    all (path, name) y (Some m) at is = let e = step_export path name m y is in among_names program path name m e.0 at e.1
