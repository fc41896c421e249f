use Rattle.std.proofs.Common.{◌≡◌, refl, sym, ◌∙◌, ap, subst, ℕ, List, Option, Some, None, ◌<◌, ◌++◌, ◌∷◌, []}
use Rattle.chain_ends.specs.declared.walking.Mark.{Mark}
use Rattle.chain_ends.specs.declared.links.End.{End}
use Rattle.chain_ends.specs.Walking.{end_marked, Walking, HasWalked}
use Rattle.chain_ends.proofs.Walks.{walk_begins, next_small, next_fewer, goes_further, stops, new_count}
use Rattle.chain_ends.proofs.walking.walk.Goals as goal

no_next : {x : Option ℕ} (o : Option ℕ) → ((n : ℕ) → o ≡ Some n → ⊥) → x ≡ o → x ≡ None
no_next None none e = e
no_next (Some n) none e = absurd (none n refl)

pub loop-next-init : goal.loop-next-init
loop-next-init c = subst (λ (t : List ℕ). Walking c.args.links.now c.args.marks.now c.args.marks.now t c.args.start c.args.start) (sym c.requires.empty) (walk_begins c.args.links.now c.args.marks.now c.args.start c.requires.whole)

pub put-requires : goal.put-requires
put-requires c = next_small c.args.links.now c.loop-next.marks c.loop-next.at c.in-Some.next (sym c.next_of.ensures ∙ c.in-Some.is)

pub loop-next-smaller : goal.loop-next-smaller
loop-next-smaller c =
    subst (λ (m : List Mark). new_count m < new_count c.loop-next.marks) (sym c.put.ensures)
    (next_fewer c.args.links.now c.loop-next.marks c.loop-next.at c.in-Some.next (sym c.next_of.ensures ∙ c.in-Some.is))

pub loop-next-preserved : goal.loop-next-preserved
loop-next-preserved c =
    subst (λ (t : List ℕ). Walking c.args.links.now c.args.marks.now c.put.new.marks t c.args.start c.in-Some.next) (sym c.in_ok-push.ensures.items)
    (subst (λ (m : List Mark). Walking c.args.links.now c.args.marks.now m (c.loop-next.trail.items ++ c.loop-next.at ∷ []) c.args.start c.in-Some.next) (sym c.put.ensures)
    (goes_further c.args.links.now c.args.marks.now c.loop-next.marks c.loop-next.trail.items c.args.start c.loop-next.at c.loop-next.invariant c.in-Some.next (sym c.next_of.ensures ∙ c.in-Some.is)))

pub returns : goal.returns
returns c =
    subst (λ (e : End). HasWalked c.args.links.now c.args.marks.now c.loop-next.marks c.loop-next.trail.items c.args.start e) (sym (c.end_marked.ensures ∙ ap end_marked c.mark_at.ensures))
    (stops c.args.links.now c.args.marks.now c.loop-next.marks c.loop-next.trail.items c.args.start c.loop-next.at c.loop-next.invariant (no_next c.next_of.result c.in_default.not-Some (sym c.next_of.ensures)))
