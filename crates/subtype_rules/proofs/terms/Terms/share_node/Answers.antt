use Rattle.std.proofs.Common.{ap, sym, ◌∙◌, get_or, Some}
use Rattle.subtype_rules.proofs.Grown.{there_at, within}
use Rattle.subtype_rules.proofs.Steps.{same_node}
use Rattle.subtype_rules.proofs.terms.Terms.share_node.Goals as goal

pub returns : goal.returns
returns c =
    let some = c.requires in
    let at = there_at c.args.self.now.nodes c.args.m c.index-as_slice-m.result (within c.args.self.now.nodes c.args.m some.0 some.1) (c.index-as_slice-m.is ∙ ap (λ l. get_or l c.args.m c.index-as_slice-m.result) c.as_slice.ensures) ∙ ap Some (sym c.in_ok-node.ensures) in
    (at, same_node c.args.self.now.nodes c.args.m c.args.n some.0 _ some.1 at some.2)
