use Rattle.std.proofs.Common.{Some, sym, ap, ◌∙◌}
use Rattle.std.specs.Option.{option_copied}
use Rattle.refine_flow.specs.Standing.{shown}
use Rattle.refine_flow.proofs.Listing.{adds_row, adds_itself, listed_row, shown_at}
use Rattle.refine_flow.proofs.facts.Facts.add_row.Goals as goal

pub returns-clause-adds : goal.returns-clause-adds
returns-clause-adds c =
    adds_row (shown c.args.self.now) c.args.rows.now.items c.push.new.self.items _ c.in_ok-push.ensures.items
    (shown_at c.args.self.now c.args.place c.args.slot c.in-Some.fact.now c.requires (sym c.get.ensures ∙ ap option_copied c.in-Some.is) ∙ ap Some (sym c.in_ok-ty.ensures))

pub returns-clause-listed : goal.returns-clause-listed
returns-clause-listed c = λ there. listed_row c.args.rows.now.items c.push.new.self.items _ c.in_ok-push.ensures.items

pub returns-in_default-clause-adds : goal.returns-in_default-clause-adds
returns-in_default-clause-adds c = adds_itself (shown c.args.self.now) c.args.rows.now.items
