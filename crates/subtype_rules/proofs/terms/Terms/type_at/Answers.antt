use Rattle.std.proofs.Common.{ap, sym, ◌∙◌, get_or, Some}
use Rattle.subtype_rules.proofs.Grown.{there_at}
use Rattle.subtype_rules.proofs.terms.Terms.type_at.Goals as goal

pub returns : goal.returns
returns c = there_at c.args.self.now.types c.args.n c.index-as_slice-n.result c.requires (c.index-as_slice-n.is ∙ ap (λ l. get_or l c.args.n c.index-as_slice-n.result) c.as_slice.ensures) ∙ ap Some (sym c.in_ok-t.ensures)
