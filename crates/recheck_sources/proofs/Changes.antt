-- Which modules an edit changes, by the flags of their parts.
use Rattle.std.proofs.Common.{◌≡◌, ◌≢◌, ℕ, ◌<◌, Bool, true, false, not, List, length, slice_get, Option, Some, None, IsSome, refl, sym, ap, ◌∙◌, subst, inl, inr, arith}
use Rattle.std.specs.Cmp.Lexicographic.{bytes_decides}
use Rattle.flow_base.specs.Program.{Bytes, text_at}
use Rattle.heap_core.proofs.Lists.{get_there}
use Rattle.check_values.specs.declared.root.RootRow.{RootRow}
use Rattle.export_counts.specs.source_front.specs.declared.parse.Parse.{Parse}
use Rattle.graph_search.specs.Reach.{IsRising}
use Rattle.merged_signatures.specs.Chains.{Known}
use Rattle.edited_root.specs.affected_law.specs.Affected.{Differs, Parsed}
use Rattle.path_numbers.specs.Sets.{ArePlaces}
use Rattle.recheck_plan.specs.Marks.{AreBelow}
use Rattle.check_phases.specs.Phases.{knowns}
use Rattle.check_phases.specs.Sourced.{program_in, paths_in, view_in, AreSources}
use Rattle.check_phases.specs.declared.merging.Sources.{Sources}
use Rattle.check_phases.proofs.Edges.{length_paths}
use Rattle.check_phases.proofs.Lists.{one_value, within_there}
use Rattle.check_phases.proofs.Merges.{many_parses, many_lists}
use Rattle.edited_root.specs.From.{numbers_from, has_text, fresh_from}
use Rattle.edited_root.proofs.Users.{many_from, many_fresh, was_module, was_none, same_text}
use Rattle.edited_root.proofs.Walked.{number_here}
use Rattle.recheck_sources.specs.Keeping.{signatures_of, IsOnEither}
use Rattle.recheck_sources.specs.Parts.{TellsOthers}
use Rattle.recheck_sources.specs.Changed.{list_at, IsChanged}
use Rattle.recheck_sources.proofs.Here.{IsHere, here, none_beside}
use Rattle.recheck_sources.proofs.Loops.{mapped_at, many_mapped}

-- the numbers of a kind are the places of the paths of which it holds
are_places : (IsOfKind : ℕ → Type 0) (Holds : Bytes → Type 0) (paths : List Bytes) (n : ℕ) (all : List ℕ) → n ≡ length paths → AreBelow IsOfKind n all
    → ((x : ℕ) → x < n → IsOfKind x → (path : Bytes) × (slice_get paths x ≡ Some path) × Holds path) → ((x : ℕ) (path : Bytes) → slice_get paths x ≡ Some path → Holds path → IsOfKind x) → IsRising all × ArePlaces Holds paths all
are_places IsOfKind Holds paths n all many below sound complete = (
  below.rising,
  record {
    sound = λ x has. (let s = below.sound x has in sound x s.0 s.1);
    complete = λ x path at holds. below.complete x (let low = within_there paths x path at in omega (arith, low, many)) (complete x path at holds);
  },
)

module _ (was s : Sources) (old : AreSources was) (new : AreSources s) (from : List (Option ℕ)) (from_is : from ≡ numbers_from was.root s.root) (relisted : List Bool) (lists : TellsOthers was.lists.items from s.lists.items relisted) where
  -- the module that one was, at its path
  record WasAt (x o : ℕ) (h : IsHere s x) : Type 0 where
    was_at : IsHere was o
    path : was_at.row.path ≡ h.row.path

  was_at_path : (x o : ℕ) (h : IsHere s x) → slice_get from x ≡ Some (Some o) → WasAt x o h
  was_at_path x o h at =
      let n = was_module was.root s.root from from_is x o h.row h.at_row at in
      let k = here was old o (within_there was.root.modules o n.0 n.1) in
      record { was_at = k; path = ap (λ (r : RootRow). r.path) (one_value k.row n.0 (sym k.at_row ∙ n.1)) ∙ n.2 }

  no_text : (x : ℕ) (h : IsHere s x) → slice_get from x ≡ Some None → text_at (program_in was) h.row.path ≡ None
  no_text x h at = was_none was.root s.root from from_is x h.row h.at_row at

  has_its_text : (x : ℕ) (h : IsHere s x) → text_at (program_in s) h.row.path ≡ Some h.row.text
  has_its_text x h = (number_here s.root.modules x h.row new.rising h.at_row).1

  number : (x : ℕ) → x < length s.root.modules → (q : Option ℕ) × (slice_get from x ≡ Some q)
  number x low = get_there from x (let m = many_from was.root s.root from from_is in omega (arith, m, low))

  low_path : (x : ℕ) (path : Bytes) → slice_get (paths_in s) x ≡ Some path → x < length s.root.modules
  low_path x path at = let low = within_there (paths_in s) x path at in let m = length_paths s.root.modules in omega (arith, low, m)

  flag : (x : ℕ) → x < length s.root.modules → (b : Bool) × (slice_get relisted x ≡ Some b)
  flag x low = get_there relisted x (let m = lists.many in let n = many_lists s new in omega (arith, m, n, low))

  -- a list that is no other one is the old one
  same_list : (x : ℕ) (h : IsHere s x) → slice_get relisted x ≡ Some false → (o : ℕ) × (w : WasAt x o h) × (slice_get from x ≡ Some (Some o)) × (h.deps ≡ w.was_at.deps)
  same_list x h off =
      let k = lists.same x off in
      let w = was_at_path x k.0 h k.2 in
      (k.0, w, k.2, one_value h.deps w.was_at.deps (sym h.at_deps ∙ (k.4 ∙ (sym k.3 ∙ w.was_at.at_deps))))

  module _ (resigned : List Bool) (sigs : TellsOthers (signatures_of was.parses.items) from (signatures_of s.parses.items) resigned) where
    sig_at : (t : Sources) (x : ℕ) (h : IsHere t x) → slice_get (signatures_of t.parses.items) x ≡ Some h.parse.sig
    sig_at t x h = mapped_at (λ (p : Parse). p.sig) t.parses.items x h.parse h.at_parse

    differs_at : (x : ℕ) (h : IsHere s x) (q : Option ℕ) → slice_get from x ≡ Some q → IsOnEither relisted resigned x → Differs (view_in was) (view_in s) h.row.path
    differs_at x h None at on same =
        let k : Known = record { sig = h.parse.sig; deps = h.deps } in
        let none = none_beside (program_in was) (knowns was.parses.items was.lists.items) h.row.path (no_text x h at) in
        let z : Some k ≡ None = sym h.seen ∙ (same ∙ none) in
        cc
    differs_at x h (Some o) at on same = apart on
      where
        w : WasAt x o h
        w = was_at_path x o h at

        known : Known
        known = record { sig = h.parse.sig; deps = h.deps }

        was_known : Known
        was_known = record { sig = w.was_at.parse.sig; deps = w.was_at.deps }

        both : known ≡ was_known
        both = one_value known was_known (sym h.seen ∙ (same ∙ (ap (view_in was) (sym w.path) ∙ w.was_at.seen)))

        apart : IsOnEither relisted resigned x → ⊥
        apart (inl other) = lists.others x o w.was_at.deps h.deps other at w.was_at.at_deps h.at_deps (ap (λ (k : Known). k.deps) both)
        apart (inr other) = sigs.others x o w.was_at.parse.sig h.parse.sig other at (sig_at was o w.was_at) (sig_at s x h) (ap (λ (k : Known). k.sig) both)

    touched_sound : (x : ℕ) → x < length s.root.modules → IsOnEither relisted resigned x → (path : Bytes) × (slice_get (paths_in s) x ≡ Some path) × Differs (view_in was) (view_in s) path
    touched_sound x low on = let h = here s new x low in let q = number x low in (h.row.path, h.at_path, differs_at x h q.0 q.1 on)

    same_view : (x : ℕ) (h : IsHere s x) → slice_get relisted x ≡ Some false → slice_get resigned x ≡ Some false → view_in s h.row.path ≡ view_in was h.row.path
    same_view x h off off_sig =
        let l = same_list x h off in
        let k = sigs.same x off_sig in
        let one : k.0 ≡ l.0 = one_value k.0 l.0 (one_value (Some k.0) (Some l.0) (sym k.2 ∙ l.2)) in
        let sig : h.parse.sig ≡ l.1.was_at.parse.sig = one_value h.parse.sig l.1.was_at.parse.sig (sym (sig_at s x h) ∙ (k.4 ∙ (sym k.3 ∙ (ap (slice_get (signatures_of was.parses.items)) one ∙ sig_at was l.0 l.1.was_at)))) in
        let deps = l.3 in
        let known : Some (record { sig = h.parse.sig; deps = h.deps }) ≡ Some (record { sig = l.1.was_at.parse.sig; deps = l.1.was_at.deps }) = (λ j. Some (record { sig = sig j; deps = deps j })) in
        h.seen ∙ (known ∙ (sym l.1.was_at.seen ∙ ap (view_in was) l.1.path))

    touched_complete : (x : ℕ) (path : Bytes) → slice_get (paths_in s) x ≡ Some path → Differs (view_in was) (view_in s) path → IsOnEither relisted resigned x
    touched_complete x path at differs = go f.0 f.1 g.0 g.1
      where
        low : x < length s.root.modules
        low = low_path x path at

        h : IsHere s x
        h = here s new x low

        f : (b : Bool) × (slice_get relisted x ≡ Some b)
        f = flag x low

        g : (b : Bool) × (slice_get resigned x ≡ Some b)
        g = get_there resigned x (let m = sigs.many in let n = many_mapped (λ (p : Parse). p.sig) s.parses.items in let k = many_parses s new in let l = low in omega (arith, m, n, k, l))

        go : (b : Bool) → slice_get relisted x ≡ Some b → (c : Bool) → slice_get resigned x ≡ Some c → IsOnEither relisted resigned x
        go true on c is = inl on
        go false off true on = inr on
        go false off false off_sig = absurd (subst (Differs (view_in was) (view_in s)) (one_value path h.row.path (sym at ∙ h.at_path)) differs (same_view x h off off_sig))

    pub touched_places : (n : ℕ) (all : List ℕ) → n ≡ length s.root.modules → AreBelow (IsOnEither relisted resigned) n all → IsRising all × ArePlaces (Differs (view_in was) (view_in s)) (paths_in s) all
    touched_places n all many below =
        are_places (IsOnEither relisted resigned) (Differs (view_in was) (view_in s)) (paths_in s) n all (many ∙ sym (length_paths s.root.modules)) below (λ x low on. touched_sound x (omega (arith, low, many)) on) touched_complete

  module _ (fresh : List Bool) (fresh_is : fresh ≡ fresh_from was.root s.root) where
    fresh_flag : (x : ℕ) → x < length s.root.modules → (b : Bool) × (slice_get fresh x ≡ Some b)
    fresh_flag x low = get_there fresh x (let m = many_fresh was.root s.root fresh fresh_is in omega (arith, m, low))

    parsed_at : (x : ℕ) (h : IsHere s x) → text_at (program_in s) h.row.path ≢ text_at (program_in was) h.row.path → Parsed (program_in was) (program_in s) h.row.path
    parsed_at x h differs = (subst IsSome (sym (has_its_text x h)) refl, differs)

    fresh_differs : (x : ℕ) (h : IsHere s x) → slice_get fresh x ≡ Some true → text_at (program_in s) h.row.path ≢ text_at (program_in was) h.row.path
    fresh_differs x h on same =
        let is : slice_get fresh x ≡ Some (not (has_text (text_at (program_in was) h.row.path) h.row.text)) = ap (λ (l : List Bool). slice_get l x) fresh_is ∙ mapped_at (λ (m : RootRow). not (has_text (text_at (program_in was) m.path) m.text)) s.root.modules x h.row h.at_row in
        let text : text_at (program_in was) h.row.path ≡ Some h.row.text = sym same ∙ has_its_text x h in
        let has : not (has_text (text_at (program_in was) h.row.path) h.row.text) ≡ false = ap (λ (o : Option Bytes). not (has_text o h.row.text)) text ∙ ap not ((bytes_decides h.row.text h.row.text).1 refl) in
        let z : Some true ≡ Some false = sym on ∙ (is ∙ ap Some has) in
        cc

    relisted_changed : (x : ℕ) (h : IsHere s x) (q : Option ℕ) → slice_get from x ≡ Some q → slice_get relisted x ≡ Some true → IsChanged was s h.row.path
    relisted_changed x h None at on = inl (parsed_at x h (λ same. (let z : Some h.row.text ≡ None = sym (has_its_text x h) ∙ (same ∙ no_text x h at) in cc)))
    relisted_changed x h (Some o) at on =
        let w = was_at_path x o h at in
        inr (w.was_at.deps, h.deps, ap (list_at was) (sym w.path) ∙ w.was_at.listed, h.listed, lists.others x o w.was_at.deps h.deps on at w.was_at.at_deps h.at_deps)

    changed_at : (x : ℕ) → x < length s.root.modules → (h : IsHere s x) → IsOnEither relisted fresh x → IsChanged was s h.row.path
    changed_at x low h (inl on) = let q = number x low in relisted_changed x h q.0 q.1 on
    changed_at x low h (inr on) = inl (parsed_at x h (fresh_differs x h on))

    changed_sound : (x : ℕ) → x < length s.root.modules → IsOnEither relisted fresh x → (path : Bytes) × (slice_get (paths_in s) x ≡ Some path) × IsChanged was s path
    changed_sound x low on = let h = here s new x low in (h.row.path, h.at_path, changed_at x low h on)

    is_on : (x : ℕ) → x < length s.root.modules → (h : IsHere s x) → IsChanged was s h.row.path → IsOnEither relisted fresh x
    is_on x low h (inl parsed) = let f = fresh_flag x low in go f.0 f.1
      where
        go : (b : Bool) → slice_get fresh x ≡ Some b → IsOnEither relisted fresh x
        go true on = inr on
        go false off = absurd (parsed.1 (has_its_text x h ∙ sym (same_text was.root s.root fresh fresh_is x h.row h.at_row off)))
    is_on x low h (inr (d, e, at_d, at_e, differs)) = let f = flag x low in go f.0 f.1
      where
        go : (b : Bool) → slice_get relisted x ≡ Some b → IsOnEither relisted fresh x
        go true on = inl on
        go false off =
            let l = same_list x h off in
            let now : e ≡ h.deps = one_value e h.deps (sym at_e ∙ h.listed) in
            let before : d ≡ l.1.was_at.deps = one_value d l.1.was_at.deps (sym at_d ∙ (ap (list_at was) (sym l.1.path) ∙ l.1.was_at.listed)) in
            absurd (differs (now ∙ (l.3 ∙ sym before)))

    changed_complete : (x : ℕ) (path : Bytes) → slice_get (paths_in s) x ≡ Some path → IsChanged was s path → IsOnEither relisted fresh x
    changed_complete x path at changed =
        let low = low_path x path at in
        let h = here s new x low in
        is_on x low h (subst (IsChanged was s) (one_value path h.row.path (sym at ∙ h.at_path)) changed)

    pub changed_places : (n : ℕ) (all : List ℕ) → n ≡ length s.root.modules → AreBelow (IsOnEither relisted fresh) n all → IsRising all × ArePlaces (IsChanged was s) (paths_in s) all
    changed_places n all many below =
        are_places (IsOnEither relisted fresh) (IsChanged was s) (paths_in s) n all (many ∙ sym (length_paths s.root.modules)) below (λ x low on. changed_sound x (omega (arith, low, many)) on) changed_complete
