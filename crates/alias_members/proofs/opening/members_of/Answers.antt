use Rattle.std.proofs.Common.{◌≡◌, ◌++◌, ◌∷◌, [], List, ap, ◌∙◌}
use Rattle.std.specs.Borrow.{Bor}
use Rattle.std.proofs.lemmas.List.{map-append}
use Rattle.type_values.specs.declared.types.FlowType.{FlowType}
use Rattle.alias_table.specs.Table.{unfolded}
use Rattle.alias_table.specs.Members.{seen}
use Rattle.alias_members.proofs.MemberLemmas.{members_step, members_end, fewer_steps}
use Rattle.alias_table.proofs.Ending.{table_ends}
use Rattle.alias_members.proofs.MembersIn.{one_list}
use Rattle.alias_members.proofs.opening.members_of.Goals as goal

last_seen : (waiting rest : List (Bor FlowType)) (next : Bor FlowType) → waiting ≡ rest ++ next ∷ [] → seen waiting ≡ seen rest ++ next.now ∷ []
last_seen waiting rest next is = ap seen is ∙ map-append (λ (look : Bor FlowType). look.now) rest (next ∷ [])

pub loop-next-smaller : goal.loop-next-smaller
loop-next-smaller c = fewer_steps (unfolded c.args.table.now) (table_ends c.args.table.now) _ (seen c.loop-next.waiting) (seen c.loop-next.found) _ _ c.in-Some.next.now (last_seen _ _ _ c.in-Some.ensures) c.in_ok-open_type.ensures

pub loop-next-preserved : goal.loop-next-preserved
loop-next-preserved c = members_step (unfolded c.args.table.now) (c.args.t.now ∷ []) _ (seen c.loop-next.waiting) (seen c.loop-next.found) _ _ c.in-Some.next.now (last_seen _ _ _ c.in-Some.ensures) c.in_ok-open_type.ensures c.loop-next.invariant

pub returns : goal.returns
returns c = one_list c.args.table.now c.args.t.now (seen c.loop-next.found) (members_end (unfolded c.args.table.now) (c.args.t.now ∷ []) (seen c.loop-next.waiting) (seen c.loop-next.found) (ap seen c.in_default.ensures.0) c.loop-next.invariant)
