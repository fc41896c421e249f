-- Each module has what is kept of it, or the next answer.
use Rattle.std.proofs.Common.{◌≡◌, ℕ, ◌+◌, ◌<◌, Bool, true, false, cond, List, [], ◌∷◌, ◌++◌, length, take, get_or, slice_get, Option, Some, None, refl, sym, ap, ◌∙◌, subst, arith}
use Rattle.std.specs.Prelude.{IfSome}
use Rattle.heap_core.proofs.Lists.{get_there}
use Rattle.check_values.specs.declared.root.RootRow.{RootRow}
use Rattle.check_values.specs.declared.root.Root.{Root}
use Rattle.export_counts.specs.source_front.specs.Front.{IsParse}
use Rattle.export_counts.specs.source_front.specs.declared.parse.Parse.{Parse}
use Rattle.check_phases.specs.Sourced.{AreSources}
use Rattle.check_phases.specs.declared.merging.Sources.{Sources}
use Rattle.check_phases.proofs.Fronts.{SayTheirs, more_parses}
use Rattle.check_phases.proofs.Jobs.{zip_at}
use Rattle.check_phases.proofs.Lists.{one_value, value_at, within_there}
use Rattle.edited_root.specs.From.{numbers_from, fresh_from}
use Rattle.edited_root.proofs.Users.{many_fresh}
use Rattle.recheck_sources.specs.Keeping.{kept_in, made_for, where_on, IsInPlace}
use Rattle.recheck_sources.proofs.Counted.{ons, ons_next}
use Rattle.recheck_sources.proofs.Fresh.{on_at}
use Rattle.recheck_sources.proofs.Steps.{made_next, parse_next}

-- a part is made only where the flag is on
is_on : (b : Bool) → made_for {X = Parse} None ≡ cond b 1 0 → b ≡ true
is_on true made = refl
is_on false made = absurd (omega (arith, made))

module _ (was : Sources) (sources : AreSources was) (root : Root) (from : List (Option ℕ)) (fresh : List Bool) (from_is : from ≡ numbers_from was.root root) (fresh_is : fresh ≡ fresh_from was.root root)
    (said : List Parse) (they_say : SayTheirs (where_on fresh root.modules) said) (i : ℕ) (low : i < length fresh)
    (olds : List Parse) (kept : Option Parse) (same : olds ≡ was.parses.items) (is : kept ≡ kept_in olds (get_or from i None) (get_or fresh i false)) (next : ℕ) (is_next : next ≡ ons (take i fresh)) where
  low_module : i < length root.modules
  low_module = let many = many_fresh was.root root fresh fresh_is in omega (arith, low, many)

  here : (m : RootRow) × (slice_get root.modules i ≡ Some m)
  here = get_there root.modules i low_module

  made : made_for kept ≡ cond (get_or fresh i false) 1 0
  made = made_next was sources root from fresh from_is fresh_is root.modules i refl olds kept same is low_module

  -- the next answer is that of the module
  next_says : kept ≡ None → (parse : Parse) × (slice_get said next ≡ Some parse) × IsParse here.0.text parse
  next_says none =
      let on = is_on (get_or fresh i false) (ap made_for (sym none) ∙ made) in
      let at = on_at fresh root.modules i here.0 low on here.1 in
      zip_at (λ (m : RootRow) (p : Parse). IsParse m.text p) (where_on fresh root.modules) said next here.0 they_say (ap (slice_get (where_on fresh root.modules)) is_next ∙ at)

  pub next_there : kept ≡ None → next < length said
  next_there none = let p = next_says none in within_there said next p.0 p.1

  says : (parse : Parse) → IsInPlace kept parse → (kept ≡ None → slice_get said next ≡ Some parse) → IsParse here.0.text parse
  says parse in_place made_here = go kept refl
    where
      go : (k : Option Parse) → kept ≡ k → IsParse here.0.text parse
      go None e = let p = next_says e in subst (IsParse here.0.text) (one_value p.0 parse (sym p.1 ∙ made_here e)) p.2
      go (Some k) e =
          let right : IsParse here.0.text k = subst (λ (o : Option Parse). IfSome o (IsParse here.0.text)) e (parse_next was sources root from fresh from_is fresh_is root.modules i refl olds kept same is low_module here.0 (value_at root.modules i here.0 here.0 here.1)) in
          let it : parse ≡ k = subst (λ (o : Option Parse). IsInPlace o parse) e in_place in
          subst (IsParse here.0.text) (sym it) right

  pub parse_placed : (parse : Parse) (old new : List Parse) → IsInPlace kept parse → (kept ≡ None → slice_get said next ≡ Some parse) → SayTheirs (take i root.modules) old → new ≡ old ++ parse ∷ [] → SayTheirs (take (i + 1) root.modules) new
  parse_placed parse old new in_place made_here so_far pushed = more_parses root.modules i here.0 parse old new low_module (value_at root.modules i here.0 here.0 here.1) so_far (says parse in_place made_here) pushed

  pub next_after : (then : ℕ) → then ≡ next + made_for kept → then ≡ ons (take (i + 1) fresh)
  next_after then is_then = is_then ∙ ((λ j. is_next j + made_for kept) ∙ sym (ons_next fresh i kept low made))
