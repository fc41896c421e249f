use Rattle.std.proofs.Common.{List, sym, ap, ◌∙◌, subst, set}
use Rattle.chain_ends.specs.declared.links.End.{End}
use Rattle.chain_ends.specs.declared.walking.Mark.{Mark}
use Rattle.chain_ends.specs.declared.walking.Mark.TheVariants.{Done}
use Rattle.chain_ends.specs.Walking.{through, HasWalked}
use Rattle.chain_ends.proofs.Walks.{gives, last_small}
use Rattle.chain_ends.proofs.walking.close.Goals as goal

pub put-requires : goal.put-requires
put-requires c = last_small c.args.links.now c.loop-n.marks c.args.marks.now c.loop-n.trail.items c.pop.new.self.items c.args.start c.in-Some.n c.loop-n.end c.loop-n.invariant c.in-Some.ensures.items

pub loop-n-preserved : goal.loop-n-preserved
loop-n-preserved c =
    let told = sym (c.through-end.ensures ∙ ap (λ o. through o c.loop-n.end) c.link_at.ensures) in
    subst (λ (m : List Mark). HasWalked c.args.links.now c.args.marks.now m c.pop.new.self.items c.args.start c.through-end.result) (sym c.put.ensures)
    (subst (λ (e : End). HasWalked c.args.links.now c.args.marks.now (set c.loop-n.marks c.in-Some.n (Done e)) c.pop.new.self.items c.args.start e) told
    (gives c.args.links.now c.args.marks.now c.loop-n.marks c.loop-n.trail.items c.pop.new.self.items c.args.start c.in-Some.n c.loop-n.end c.loop-n.invariant c.in-Some.ensures.items))
