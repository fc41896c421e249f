use Rattle.std.proofs.Common.{◌≡◌, List, filter, IfOk, ap, ◌∙◌, subst}
use Rattle.std.specs.List.{list_any}
use Rattle.type_values.specs.declared.types.FlowType.{FlowType}
use Rattle.alias_table.specs.Members.{seen}
use Rattle.alias_members.specs.MembersIn.{members_in}
use Rattle.subtype_rules.specs.Answer.{below}
use Rattle.refine_flow.proofs.facts.reached.Goals as goal

pub returns : goal.returns
returns c =
    let t = c.args.table.now in
    let wanted = ap seen c.as_slice.ensures ∙ c.in_ok-wanted.ensures in
    let given = ap seen c.as_slice-2.ensures ∙ c.in_ok-given.ensures in
    subst (λ (gs : List FlowType). IfOk c.reached_among.result (λ all. all ≡ filter (λ d. list_any (λ u. below t u d) gs) (members_in t c.args.declared.now))) given
    (subst (λ (ws : List FlowType). IfOk c.reached_among.result (λ all. all ≡ filter (λ d. list_any (λ u. below t u d) (seen c.as_slice-2.result.now)) ws)) wanted c.reached_among.ensures)
