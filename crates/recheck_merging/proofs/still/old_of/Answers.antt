use Rattle.std.proofs.Common.{◌≡◌, ◌+◌, ℕ, List, get_or, take, Some, None, sym, ap, ◌∙◌, subst}
use Rattle.std.specs.List.{AllZip}
use Rattle.check_values.specs.declared.signatures.Sig.{Sig}
use Rattle.check_phases.proofs.Lists.{place_at, zip_more}
use Rattle.recheck_merging.specs.Keeping.{kept_in}
use Rattle.recheck_merging.proofs.still.old_of.Goals as goal

pub unreachable-requires : goal.unreachable-requires
unreachable-requires c =
    let x = get_or c.args.group.now c.loop-i.i 0 in
    let n = get_or c.args.edit.now.from.now x None in
    let it = c.requires.old c.loop-i.i 0 c.loop-i-test.true in
    let none : kept_in c.args.edit.now.was.now.signatures.items n ≡ None = ap (λ (l : List Sig). kept_in l n) (sym c.as_slice-was.ensures.value) ∙ (sym c.in_ok-signature.ensures ∙ c.in-None.is) in
    let z : None ≡ Some it.0 = sym none ∙ it.1 in
    let f : ⊥ = cc in f

pub loop-i-preserved : goal.loop-i-preserved
loop-i-preserved c =
    let was = c.args.edit.now.was.now.signatures.items in
    let from = c.args.edit.now.from.now in
    let x = get_or c.args.group.now c.loop-i.i 0 in
    let here : kept_in was (get_or from x None) ≡ Some c.in-Some.signature = ap (λ (l : List Sig). kept_in l (get_or from x None)) (sym c.as_slice-was.ensures.value) ∙ (sym c.in_ok-signature.ensures ∙ c.in-Some.is) in
    let more = zip_more (λ (y : ℕ) (sig : Sig). kept_in was (get_or from y None) ≡ Some sig) c.args.group.now c.loop-i.olds.items c.loop-i.i x c.in-Some.signature c.loop-i.invariant (place_at c.args.group.now c.loop-i.i 0 c.loop-i-test.true) here in
    subst (λ (l : List Sig). AllZip (λ (y : ℕ) (sig : Sig). kept_in was (get_or from y None) ≡ Some sig) (take (c.loop-i.i + 1) c.args.group.now) l) (sym c.in_ok-push-in-Some.ensures.items) more
