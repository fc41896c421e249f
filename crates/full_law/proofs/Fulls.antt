-- The full check of a program, made of what its sources say, of their merged signatures and of the errors by these.
use Rattle.std.proofs.Common.{◌≡◌, Bool, true, false, cond, List, [], ◌∷◌, map, Option, Some, unwrap_or, option_map, bytes_eq, refl, sym, ap, ◌∙◌, subst}
use Rattle.std.specs.Cmp.Lexicographic.{bytes_decides}
use Rattle.flow_base.specs.Program.{Bytes, Program, paths_of}
use Rattle.check_values.specs.Rows.{Rows, row_at}
use Rattle.check_values.specs.declared.signatures.Deps.{Deps}
use Rattle.check_values.specs.declared.signatures.Sig.{Sig}
use Rattle.program_check.specs.source_front.specs.declared.parse.Parse.{Parse}
use Rattle.merged_signatures.specs.Chains.{Known, View}
use Rattle.merged_signatures.specs.Merged.{merged_known, merged}
use Rattle.errors_law.specs.errors_by_reach.specs.Seen.{Sigs}
use Rattle.program_check.specs.check_job.specs.Jobs.{source_in}
use Rattle.program_check.specs.Full.{Results, beside, known_of, view_in, sigs_in, deps_in, AreResultsOf, AreResults, IsFull}
use Rattle.errors_law.specs.Law.{EachHasErrors}
use Rattle.full_law.specs.Law.{EachFull}
use Rattle.full_law.proofs.Parses.{HasParse}

-- a value stands at the path of each row
abbrev EachFound : {X : Type 0} → (Bytes → Option X) → Program → Type 0
EachFound at [] = Unit {0}
EachFound {X} at (m ∷ program) = ((x : X) × (at m.0 ≡ Some x)) × EachFound at program

module _ {X : Type 0} (value : Bytes × Bytes → X) where
  abbrev rows : Program → Rows X
  rows program = beside program (map value program)

  one_row_more : (m : Bytes × Bytes) (before after : Program) → EachFound (row_at (rows before)) after → EachFound (row_at (rows (m ∷ before))) after
  one_row_more m before [] each = tt
  one_row_more m before (n ∷ after) each = (go (bytes_eq m.0 n.0), one_row_more m before after each.1)
    where
      go : (b : Bool) → (x : X) × (cond b (Some (value m)) (row_at (rows before) n.0) ≡ Some x)
      go true = (value m, refl)
      go false = each.0

  each_found : (program : Program) → EachFound (row_at (rows program)) program
  each_found [] = tt
  each_found (m ∷ program) =
      let same : bytes_eq m.0 m.0 ≡ true = (bytes_decides m.0 m.0).1 refl in
      ((value m, (λ i. cond (same i) (Some (value m)) (row_at (rows program) m.0))), one_row_more m program program (each_found program))

mapped_twice : {A B C : Type 0} (f : A → B) (g : B → C) (h : A → C) → ((a : A) → g (f a) ≡ h a) → (xs : List A) → map g (map f xs) ≡ map h xs
mapped_twice f g h same [] = refl
mapped_twice f g h same (x ∷ xs) = let first = same x in let rest = mapped_twice f g h same xs in λ i. first i ∷ rest i

module _ (parses : (text : Bytes) → HasParse text) (errors : EachHasErrors) (all : Program) where
  parse_of : Bytes × Bytes → Parse
  parse_of m = (parses m.1).0

  deps_of : Bytes × Bytes → Deps
  deps_of m = deps_in (paths_of all) m.0 (parse_of m)

  known : Bytes × Bytes → Known
  known m = record { sig = (parse_of m).sig; deps = deps_of m }

  view : View
  view = row_at (rows known all)

  sig_of : Bytes × Bytes → Sig
  sig_of m = merged_known view m.0 (unwrap_or (view m.0) (known m))

  sig_rows : Rows Sig
  sig_rows = rows sig_of all

  result_of : Bytes × Bytes → Results
  result_of m = record { parse = parse_of m; deps = deps_of m; sig = sig_of m; errors = (errors m.0 (deps_of m) (source_in (parse_of m).tree) sig_rows).0 }

  is_merged : (m : Bytes × Bytes) (k : Known) → view m.0 ≡ Some k → merged view m.0 ≡ Some (sig_of m)
  unfolding sig_of
  is_merged m k is = ap (option_map (merged_known view m.0)) is ∙ ap (λ (o : Option Known). Some (merged_known view m.0 (unwrap_or o (known m)))) (sym is)

  are_results_of : (m : Bytes × Bytes) (k : Known) → view m.0 ≡ Some k → AreResultsOf (paths_of all) view (row_at sig_rows) m.0 m.1 (result_of m)
  unfolding result_of parse_of deps_of
  are_results_of m k is = record {
    parse = (parses m.1).1;
    deps = refl;
    sig = is_merged m k is;
    errors = (errors m.0 (deps_of m) (source_in (parse_of m).tree) sig_rows).1;
  }

  are_results : (program : Program) → EachFound view program → AreResults (paths_of all) view (row_at sig_rows) program (map result_of program)
  are_results [] found = tt
  are_results (m ∷ program) found = (are_results_of m found.0.0 found.0.1, are_results program found.1)

  same_view : view_in all (map result_of all) ≡ view
  unfolding view result_of known
  same_view = ap (λ (ks : List Known). row_at (beside all ks)) (mapped_twice result_of known_of known (λ m. refl) all)

  same_sigs : sigs_in all (map result_of all) ≡ row_at sig_rows
  unfolding sig_rows result_of
  same_sigs = ap (λ (ss : List Sig). row_at (beside all ss)) (mapped_twice result_of (λ (r : Results). r.sig) sig_of (λ m. refl) all)

  found_all : EachFound view all
  unfolding view
  found_all = each_found known all

  full : (results : List Results) × IsFull all results
  full =
      let are = are_results all found_all in (
        map result_of all,
        subst (λ (v : View). AreResults (paths_of all) v (sigs_in all (map result_of all)) all (map result_of all)) (sym same_view)
            (subst (λ (s : Sigs). AreResults (paths_of all) view s all (map result_of all)) (sym same_sigs) are),
      )

pub each_full : ((text : Bytes) → HasParse text) → EachHasErrors → EachFull
each_full parses errors program = full parses errors program
