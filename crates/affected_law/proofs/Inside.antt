-- What a module of a full check leads to by its imports, and what it reaches, are modules of the program.
use Rattle.std.proofs.Common.{◌≡◌, Bool, true, false, cond, List, [], ◌∷◌, map, find, Option, Some, None, is_some, IsSome, bytes_eq, refl, sym, ap, ◌∙◌, subst, ◌||◌}
use Rattle.std.specs.Cmp.Lexicographic.{bytes_decides}
use Rattle.flow_base.specs.Program.{Bytes, Program, paths_of, text_at}
use Rattle.check_values.specs.Rows.{is_among}
use Rattle.check_values.specs.declared.signatures.Deps.{Deps}
use Rattle.js_grammar.specs.Items.{Module}
use Rattle.module_resolution.specs.Resolution.{candidates, resolved}
use Rattle.module_resolution.specs.Dependencies.{specifiers, dependencies_of}
use Rattle.merged_signatures.specs.Chains.{Known, found, found_in}
use Rattle.merged_signatures.specs.Imports.{Imports, itself, further, Edge}
use Rattle.merged_signatures.specs.Reach.{Reach, by_specifier, by_signature}
use Rattle.program_check.specs.Full.{Results, known_of, view_in, sigs_in, module_in, IsFull}
use Rattle.affected_law.specs.Affected.{IsPathOf, results_at}
use Rattle.affected_law.specs.Inside.{FoundIsAmong, NamedIsKnown, ImportsStayInside, ReachStaysInside}
use Rattle.affected_law.proofs.Places.{some_same, is_path, module_at, module_results, known_at, sigs_are_merged}
use Rattle.affected_law.proofs.Named.{signature_names_known}

-- ---- what a specifier finds is among the paths

find_passes : (p : Bytes → Bool) (xs : List Bytes) (y : Bytes) → find p xs ≡ Some y → p y ≡ true
find_passes p [] y is = absurd (let z : None ≡ Some y = is in cc)
find_passes p (x ∷ xs) y is = go (p x) refl (find_passes p xs y) is
  where
    go : (b : Bool) → p x ≡ b → (find p xs ≡ Some y → p y ≡ true) → cond b (Some x) (find p xs) ≡ Some y → p y ≡ true
    go true e rest h = subst (λ (z : Bytes). p z ≡ true) (some_same x y h) e
    go false e rest h = rest h

module _ (paths : List Bytes) (from : Bytes) where
  found_among : (specs : List Bytes) (spec path : Bytes) → found_in (map (λ s. record { spec = s; found = resolved paths from s }) specs) spec ≡ Some path → is_among paths path ≡ true
  found_among [] spec path is = absurd (let z : None ≡ Some path = is in cc)
  found_among (s ∷ specs) spec path is = go (bytes_eq s spec) (found_among specs spec path) is
    where
      go : (b : Bool) → (found_in (map (λ s. record { spec = s; found = resolved paths from s }) specs) spec ≡ Some path → is_among paths path ≡ true) →
          cond b (resolved paths from s) (found_in (map (λ s. record { spec = s; found = resolved paths from s }) specs) spec) ≡ Some path → is_among paths path ≡ true
      go true rest h = find_passes (is_among paths) (candidates from s) path h
      go false rest h = rest h

  listed_among : (m : Option Module) (spec path : Bytes) → found (dependencies_of paths from m) spec ≡ Some path → is_among paths path ≡ true
  listed_among None spec path is = absurd (let z : None ≡ Some path = is in cc)
  listed_among (Some m) spec path is = found_among (specifiers m) spec path is

among_is_path : (program : Program) (path : Bytes) → is_among (paths_of program) path ≡ true → IsPathOf program path
among_is_path [] path is = absurd (let z : false ≡ true = is in cc)
among_is_path (m ∷ program) path is = go (bytes_eq path m.0) refl (bytes_eq m.0 path) refl (among_is_path program path) is
  where
    go : (b : Bool) → bytes_eq path m.0 ≡ b → (c : Bool) → bytes_eq m.0 path ≡ c → (is_among (paths_of program) path ≡ true → IsPathOf program path) → (b || is_among (paths_of program) path) ≡ true
        → IsSome (cond c (Some m.1) (text_at program path))
    go b e true f rest h = refl
    go false e false f rest h = rest h
    go true e false f rest h = absurd (let s : bytes_eq m.0 path ≡ true = (bytes_decides m.0 path).1 (sym ((bytes_decides path m.0).0 e)) in let z : false ≡ true = sym f ∙ s in cc)

-- ---- in a full check

module _ (program : Program) (results : List Results) (full : IsFull program results) where
  found_inside : (path : Bytes) (r : Results) → results_at program results path ≡ Some r → (spec other : Bytes) → found r.deps spec ≡ Some other → IsPathOf program other
  found_inside path r at spec other is =
      let m = module_at program results path r full at in
      let deps = (module_results program results path m.0 r m.1).deps in
      among_is_path program other (listed_among (paths_of program) path (module_in r.parse.tree) spec other (ap (λ (d : Deps). found d spec) (sym deps) ∙ is))

  known_inside : (path : Bytes) → IsSome (view_in program results path) → IsPathOf program path
  known_inside path known = go (results_at program results path) refl
    where
      go : (o : Option Results) → results_at program results path ≡ o → IsPathOf program path
      go None is = absurd (let z : false ≡ true = sym (ap is_some (known_at program results path None is)) ∙ known in cc)
      go (Some r) is = let m = module_at program results path r full is in is_path program path m.0 m.1.has_text

  edge_inside : (path other : Bytes) → Edge (view_in program results) path other → IsPathOf program other
  edge_inside path other (m, spec, there, is) = go (results_at program results path) refl
    where
      go : (o : Option Results) → results_at program results path ≡ o → IsPathOf program other
      go None at = absurd (let z : None ≡ Some m = sym (known_at program results path None at) ∙ there in cc)
      go (Some r) at =
          let same : known_of r ≡ m = some_same (known_of r) m (sym (known_at program results path (Some r) at) ∙ there) in
          found_inside path r at spec other (ap (λ (k : Known). found k.deps spec) same ∙ is)

  imports_inside : (path other : Bytes) → IsPathOf program path → Imports (view_in program results) path other → IsPathOf program other
  imports_inside path _ is itself = is
  imports_inside path _ is (further p q leads edge) = edge_inside p q edge

  reach_inside : (path : Bytes) (r : Results) → results_at program results path ≡ Some r → (other : Bytes) → Reach (sigs_in program results) r.deps other → IsPathOf program other
  reach_inside path r at _ (by_specifier spec p e) = found_inside path r at spec p e
  reach_inside path r at _ (by_signature p q s reach e named) =
      known_inside q (signature_names_known (view_in program results) p q s (sym (sigs_are_merged program results p full) ∙ e) named)

pub found_is_among : FoundIsAmong
found_is_among paths from m spec path is = listed_among paths from m spec path is

pub named_is_known : NamedIsKnown
named_is_known v path other s is named = signature_names_known v path other s is named

pub imports_stay_inside : ImportsStayInside
imports_stay_inside program results full path other is leads = imports_inside program results full path other is leads

pub reach_stays_inside : ReachStaysInside
reach_stays_inside program results full path other r at reach = reach_inside program results full path r at other reach
