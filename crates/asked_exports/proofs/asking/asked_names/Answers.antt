use Rattle.std.proofs.Common.{◌≡◌, map, ap, ◌∙◌, rules}
use Rattle.asked_exports.proofs.Gathered.{by_members}
use Rattle.asked_exports.specs.Gathering.{names_at}
use Rattle.asked_exports.proofs.asking.asked_names.Goals as goal

pub returns : goal.returns
returns c =
    let own = c.as_slice.result.now in
    let same : own ≡ c.in_ok-members.members.items = search rules in
    by_members (λ m. m.member.now) own c.args.job.now.members (names_at c.in_ok-asked.asked) (ap (map (λ m. m.member.now)) same ∙ c.in_ok-members.ensures) c.in_ok-asked.ensures
