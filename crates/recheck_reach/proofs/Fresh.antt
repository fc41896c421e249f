-- The fresh modules are those that are parsed.
use Rattle.std.proofs.Common.{◌≡◌, ℕ, zero, suc, ◌+◌, ◌<◌, ◌≤◌, Bool, true, false, not, List, [], ◌∷◌, ◌++◌, length, take, get_or, slice_get, Option, Some, IsSome, refl, sym, ap, ◌∙◌, subst, arith, length-append}
use Rattle.std.specs.Prelude.{count_by}
use Rattle.std.specs.Cmp.Lexicographic.{bytes_decides}
use Rattle.std.proofs.lemmas.List.{length-map}
use Rattle.std.proofs.lemmas.List.Sums.{count_by_more_yes, count_by_more_no}
use Rattle.flow_base.specs.Program.{Bytes, text_at}
use Rattle.flow_values.specs.Path.{IsRising}
use Rattle.heap_core.proofs.Lists.{get_there}
use Rattle.check_values.specs.Roots.{paths_of}
use Rattle.check_values.specs.declared.root.Root.{Root}
use Rattle.check_values.specs.declared.root.RootRow.{RootRow}
use Rattle.graph_search.specs.Cycles.{Has, IsOn}
use Rattle.graph_search.proofs.Lists.{has_none, take_whole}
use Rattle.graph_search.proofs.Rising.{rising_none}
use Rattle.recheck_sources.specs.affected_law.specs.Affected.{Parsed}
use Rattle.recheck_plan.specs.Marks.{AreBelow}
use Rattle.recheck_plan.proofs.Listed.{below_skip, below_more}
use Rattle.recheck_merging.specs.path_numbers.specs.Sets.{paths_at}
use Rattle.recheck_merging.specs.path_numbers.proofs.Sets.{are_paths}
use Rattle.recheck_merging.specs.path_numbers.proofs.Ways.{has_path_of}
use Rattle.recheck_merging.specs.payloads.specs.State.{program_of}
use Rattle.recheck_sources.specs.edited_root.specs.From.{has_text, fresh_from}
use Rattle.recheck_sources.specs.edited_root.proofs.Users.{same_text}
use Rattle.recheck_sources.specs.edited_root.proofs.Walked.{number_here}
use Rattle.recheck_merging.specs.check_phases.proofs.Edges.{length_paths}
use Rattle.recheck_merging.specs.check_phases.proofs.Lists.{one_value, same_paths, within_there, place_at}
use Rattle.recheck_merging.specs.check_phases.proofs.Merges.{path_get}
use Rattle.recheck_merging.proofs.Mapped.{get_mapped}
use Rattle.recheck_reach.specs.Law.{ParsedAreFresh}

-- ---- the numbers of which a flag is on

abbrev flag_count : List Bool → ℕ
flag_count flags = count_by (λ flag. flag) flags

-- of the first flags
abbrev HaveOnes : List Bool → ℕ → Type 0
HaveOnes flags n = (all : List ℕ) × AreBelow (IsOn flags) n all × (length all ≡ flag_count (take n flags))

no_ones : (flags : List Bool) → HaveOnes flags 0
no_ones flags = ([], record { rising = rising_none; sound = λ x has. absurd (has_none x has); complete = λ x low on. absurd (omega arith) }, refl)

more_ones : (flags : List Bool) (n : ℕ) → n < length flags → HaveOnes flags n → HaveOnes flags (n + 1)
more_ones flags n low ones = by (get_or flags n false) refl
  where
    by : (b : Bool) → get_or flags n false ≡ b → HaveOnes flags (n + 1)
    by true e = (
      ones.0 ++ n ∷ [],
      below_more (IsOn flags) n ones.0 (place_at flags n false low ∙ ap Some e) ones.1,
      length-append ones.0 (n ∷ []) ∙ (ap (λ (k : ℕ). k + 1) ones.2 ∙ sym (count_by_more_yes (λ (flag : Bool). flag) flags n false low e)),
    )
    by false e = (
      ones.0,
      below_skip (IsOn flags) n ones.0 (λ on. (let z : false ≡ true = one_value false true (ap Some (sym e) ∙ (sym (place_at flags n false low) ∙ on)) in let f : ⊥ = cc in f)) ones.1,
      ones.2 ∙ sym (count_by_more_no (λ (flag : Bool). flag) flags n false low e),
    )

all_ones : (flags : List Bool) (n : ℕ) → n ≤ length flags → HaveOnes flags n
all_ones flags zero le = no_ones flags
all_ones flags (suc n) le = let e : n + 1 ≡ suc n = omega arith in subst (HaveOnes flags) e (more_ones flags n (omega arith) (all_ones flags n (omega arith)))

-- ---- they are parsed

module _ (old new : Root) (rising : IsRising (paths_of new)) where
  abbrev flags : List Bool
  flags = fresh_from old new

  abbrev flag_of : RootRow → Bool
  flag_of m = not (has_text (text_at (program_of old) m.path) m.text)

  text_here : (x : ℕ) (m : RootRow) → slice_get new.modules x ≡ Some m → text_at (program_of new) m.path ≡ Some m.text
  text_here x m at = (number_here new.modules x m rising at).1

  many_flags : length flags ≡ length new.modules
  many_flags = length-map new.modules flag_of

  on_parsed : (x : ℕ) (m : RootRow) → slice_get new.modules x ≡ Some m → IsOn flags x → Parsed (program_of old) (program_of new) m.path
  on_parsed x m at on = (
    subst IsSome (sym (text_here x m at)) refl,
    λ same. (
        let mine : flag_of m ≡ true = one_value (flag_of m) true (sym (get_mapped flag_of new.modules x m at) ∙ on) in
        let off : flag_of m ≡ false = ap (λ (o : Option Bytes). not (has_text o m.text)) (sym same ∙ text_here x m at) ∙ ap not ((bytes_decides m.text m.text).1 refl) in
        let z : true ≡ false = sym mine ∙ off in let f : ⊥ = cc in f),
  )

  parsed_on : (x : ℕ) (m : RootRow) → slice_get new.modules x ≡ Some m → Parsed (program_of old) (program_of new) m.path → IsOn flags x
  parsed_on x m at parsed = go flag.0 flag.1
    where
      flag : (b : Bool) × (slice_get flags x ≡ Some b)
      flag = get_there flags x (let low = within_there new.modules x m at in let many = many_flags in omega arith)

      go : (b : Bool) → slice_get flags x ≡ Some b → IsOn flags x
      go true has = has
      go false has = absurd (parsed.1 (text_here x m at ∙ sym (same_text old new flags refl x m at has)))

  ones : HaveOnes flags (length flags)
  ones = all_ones flags (length flags) (omega arith)

  sound : (x : ℕ) → Has ones.0 x → (path : Bytes) × (slice_get (paths_of new) x ≡ Some path) × Parsed (program_of old) (program_of new) path
  sound x has =
      let is = ones.1.sound x has in
      let m = get_there new.modules x (let many = many_flags in let low = is.0 in omega arith) in
      (m.0.path, path_get new.modules x m.0 m.1, on_parsed x m.0 m.1 is.1)

  complete : (path : Bytes) → Parsed (program_of old) (program_of new) path → (x : ℕ) × (slice_get (paths_of new) x ≡ Some path) × Has ones.0 x
  complete path parsed =
      let has = has_path_of (program_of new) path parsed.0 in
      let at : slice_get (paths_of new) has.0 ≡ Some path = ap (λ (ps : List Bytes). slice_get ps has.0) (sym (same_paths new)) ∙ has.1 in
      let low = within_there (paths_of new) has.0 path at in
      let many = length_paths new.modules in
      let m = get_there new.modules has.0 (omega arith) in
      let same : path ≡ m.0.path = one_value path m.0.path (sym at ∙ path_get new.modules has.0 m.0 m.1) in
      let all = many_flags in
      (has.0, at, ones.1.complete has.0 (omega arith) (parsed_on has.0 m.0 m.1 (subst (Parsed (program_of old) (program_of new)) same parsed)))

pub parsed_are_fresh : ParsedAreFresh
parsed_are_fresh old new rising = (
  paths_at (paths_of new) (ones old new rising).0,
  are_paths (Parsed (program_of old) (program_of new)) (paths_of new) rising (ones old new rising).0 (ones old new rising).1.rising (sound old new rising) (complete old new rising),
  length-map (ones old new rising).0 (λ (x : ℕ). get_or (paths_of new) x [])
      ∙ ((ones old new rising).2 ∙ ap flag_count (take_whole (flags old new rising) (length (flags old new rising)) (omega arith))),
)
