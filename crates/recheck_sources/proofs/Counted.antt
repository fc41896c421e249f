-- How many sources are read.
use Rattle.std.proofs.Common.{◌≡◌, ℕ, ◌+◌, ◌<◌, Bool, true, false, cond, List, length, take, get_or, slice_get, count_by, Option, Some, None, refl, sym, ap, ◌∙◌}
use Rattle.std.proofs.lemmas.List.Sums.{sum_by_more}
use Rattle.check_phases.proofs.Lists.{place_at}
use Rattle.recheck_sources.specs.Keeping.{kept_in, made_for}
use Rattle.recheck_sources.proofs.Loops.{kept_at, HasOld, is_kept}

abbrev pub ons : List Bool → ℕ
ons flags = count_by (λ on. on) flags

-- a part is made exactly where the flag is on
pub made_where : {X : Type 0} (was : List X) (from : List (Option ℕ)) (flags : List Bool) (x : ℕ) → x < length flags → (slice_get flags x ≡ Some false → HasOld was from flags x)
    → made_for (kept_at was from flags x) ≡ cond (get_or flags x false) 1 0
made_where was from flags x low old = go (get_or flags x false) refl
  where
    go : (b : Bool) → get_or flags x false ≡ b → made_for (kept_in was (get_or from x None) (get_or flags x false)) ≡ cond (get_or flags x false) 1 0
    go true e = rw e refl
    go false e =
        let off : slice_get flags x ≡ Some false = place_at flags x false low ∙ ap Some e in
        let o = old off in
        ap made_for (is_kept was from flags x o.0 o.1 off o.2 o.3) ∙ sym (ap (λ (b : Bool). cond b 1 0) e)

-- one more module
pub ons_next : {X : Type 0} (flags : List Bool) (i : ℕ) (kept : Option X) → i < length flags → made_for kept ≡ cond (get_or flags i false) 1 0 → ons (take (i + 1) flags) ≡ ons (take i flags) + made_for kept
ons_next flags i kept low made = sum_by_more (λ on. cond on 1 0) flags i false low ∙ ap (λ (n : ℕ). ons (take i flags) + n) (sym made)
