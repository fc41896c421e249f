use Rattle.std.proofs.Common.{refl, ◌∙◌}
use Rattle.refine_flow.specs.Standing.{shown}
use Rattle.refine_flow.proofs.Listing.{told_last}
use Rattle.refine_flow.proofs.MarkLemmas.{keeps_itself, keeps_twice}
use Rattle.refine_flow.proofs.facts.Facts.take_over.Goals as goal

pub loop-row-init : goal.loop-row-init
loop-row-init c = record { facts = refl; dead = refl; marks = keeps_itself c.args.self.now }

pub loop-row-preserved : goal.loop-row-preserved
loop-row-preserved c =
    let before = c.loop-row.invariant in let put = c.in_ok-put.ensures.facts in
    record {
      facts = told_last c.loop-row.rows.items c.pop.new.self.items c.in-Some.row (shown c.loop-row.self) (shown c.put.new.self) c.in-Some.ensures.items put.types ∙ before.facts;
      dead = put.dead ∙ before.dead;
      marks = keeps_twice c.args.self.now c.loop-row.self c.put.new.self before.marks put.marks;
    }

pub loop-row-preserved-in_ok-put : goal.loop-row-preserved-in_ok-put
loop-row-preserved-in_ok-put c =
    let before = c.loop-row.invariant in let put = c.in_ok-put.ensures.facts in
    record {
      facts = told_last c.loop-row.rows.items c.pop.new.self.items c.in-Some.row (shown c.loop-row.self) (shown c.put.new.self) c.in-Some.ensures.items put.types ∙ before.facts;
      dead = put.dead ∙ before.dead;
      marks = keeps_twice c.args.self.now c.loop-row.self c.put.new.self before.marks put.marks;
    }

pub returns-in_err-put-clause-marks : goal.returns-in_err-put-clause-marks
returns-in_err-put-clause-marks c = keeps_twice c.args.self.now c.loop-row.self c.put.new.self c.loop-row.invariant.marks c.in_err-put.ensures.err.marks
